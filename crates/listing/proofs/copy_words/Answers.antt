use Rattle.listing.proofs.Laws.{copying_done, copying_start, copying_next}
use Rattle.listing.proofs.copy_words.Goals as goal

pub loop-i-init : goal.loop-i-init
loop-i-init c = search copying_start

pub loop-i-preserved : goal.loop-i-preserved
loop-i-preserved c = search copying_next

pub returns : goal.returns
returns c = search copying_done
