use mathlib.Core.Path.{◌∙◌}
use lib.Ieee.{of_bits}
use Rattle.doubles.proofs.Laws.{below_top, at_bottom}
use Rattle.doubles.proofs.is_finite.Goals as goal

pub returns-then-x : goal.returns-then-x
unfolding of_bits
returns-then-x c = below_top c.args.x c.if-x.true

pub returns-else-x : goal.returns-else-x
unfolding of_bits
returns-else-x c = c.if-x.false ∙ at_bottom c.args.x c.if-x.false
