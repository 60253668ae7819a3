use Rattle.listing.proofs.Laws.{give_fits, give_over}
use Rattle.listing.proofs.hand_over.Goals as goal

pub returns-then-out-l : goal.returns-then-out-l
returns-then-out-l c = search give_over

pub returns : goal.returns
returns c = search give_fits
