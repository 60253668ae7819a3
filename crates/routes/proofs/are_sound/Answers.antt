use Rattle.std.proofs.Common.{rules, tests}
use Rattle.evaluate.specs.Segments.{sound_span}
use Rattle.image.specs.Panel.{panel_of}
use Rattle.words.proofs.Loops.{all_segments}
use Rattle.routes.proofs.are_sound.Goals as goal

pub returns : goal.returns
returns c = all_segments (sound_span (panel_of c.args.image.now)) c.args.words.now c.args.at c.args.left c.all.result c.all.ensures.ran (λ i b q k. search (rules, tests))
