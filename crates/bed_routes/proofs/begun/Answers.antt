use Rattle.bed_routes.proofs.Segments.{begun_told}
use Rattle.bed_routes.proofs.begun.Goals as goal

pub returns : goal.returns
returns c = search begun_told
