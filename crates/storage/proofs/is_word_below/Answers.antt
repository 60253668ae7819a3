use Rattle.storage.proofs.BucketLaws.{below_told}
use Rattle.storage.proofs.is_word_below.Goals as goal

pub returns : goal.returns
returns c = search below_told
