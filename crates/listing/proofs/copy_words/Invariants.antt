use Rattle.listing.proofs.Laws.{Copying}
use Rattle.listing.proofs.copy_words.Given as goal

abbrev pub invariant-loop-i : goal.invariant-loop-i
invariant-loop-i l = Copying l.initial.out l.words l.at l.n l.out l.i
