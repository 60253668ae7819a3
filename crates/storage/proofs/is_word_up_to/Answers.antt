use Rattle.storage.proofs.BucketLaws.{up_to_told}
use Rattle.storage.proofs.is_word_up_to.Goals as goal

pub returns : goal.returns
returns c = search up_to_told
