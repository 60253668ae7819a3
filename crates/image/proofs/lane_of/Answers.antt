use mathlib.Core.Path.{refl}
use Rattle.image.proofs.Laws.{stands_by}
use Rattle.image.proofs.lane_of.Goals as goal

pub returns : goal.returns
returns c = (search stands_by, refl)
