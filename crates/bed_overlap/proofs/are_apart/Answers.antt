use Rattle.bed_overlap.proofs.Meeting.{all_spread, going_ends}
use Rattle.bed_overlap.proofs.are_apart.Goals as goal

pub returns-then-is_spread : goal.returns-then-is_spread
returns-then-is_spread c = search all_spread

pub returns : goal.returns
returns c = going_ends c.loop-at.invariant.0 c.loop-at-test.false
