use Rattle.bed_routes.proofs.Segments.{leaving_told}
use Rattle.bed_routes.proofs.is_leaving.Goals as goal

pub returns : goal.returns
returns c = search leaving_told
