use Rattle.storage.specs.Orders.{bucket_of}
use Rattle.storage.proofs.bucket.Goals as goal

pub returns : goal.returns
unfolding bucket_of
returns c = cc
