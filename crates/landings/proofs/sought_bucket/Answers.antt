use Rattle.landings.proofs.Laws.{bucket_told}
use Rattle.landings.proofs.sought_bucket.Goals as goal

pub returns : goal.returns
returns c = search bucket_told
