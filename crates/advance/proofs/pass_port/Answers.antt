use mathlib.Core.Path.{refl}
use Rattle.advance.proofs.Laws.{past_shut, past_tested}
use Rattle.advance.proofs.pass_port.Goals as goal

pub returns-then-frame-eq0 : goal.returns-then-frame-eq0
returns-then-frame-eq0 c = record { turned = past_shut _ _ _ _ _ _ _ c.requires.0 c.requires.1 c.requires.2 c.requires.3 c.requires.4 _ c.past_next-frame.ensures.past c.if-frame-eq0.true; known = c.past_next-frame.ensures.known }

pub returns : goal.returns
returns c = record { turned = past_tested _ _ _ _ _ _ _ c.requires.0 c.requires.1 c.requires.2 c.requires.3 c.requires.4 _ c.past_next-frame.ensures.past _ _ _ _ refl c.lane_landing-q.ensures c.piece_to.ensures c.is_clear-clear.ensures; known = c.past_next-frame.ensures.known }
