use mathlib.Core.Path.{ap}
use lib.Ieee.{neg}
use Rattle.doubles.specs.NextDouble.{next_down}
use Rattle.doubles.proofs.next_down.Goals as goal

pub returns : goal.returns
unfolding next_down
returns c = ap neg c.next_up.ensures
