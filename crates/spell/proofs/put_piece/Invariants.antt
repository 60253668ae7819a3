use Rattle.storage.specs.Bytes.{part}
use Rattle.letters.specs.Letters.{oriented}
use Rattle.spell.proofs.Laws.{Copying}
use Rattle.spell.proofs.put_piece.Given as goal

abbrev pub invariant-loop-i : goal.invariant-loop-i
invariant-loop-i l = Copying (oriented l.reverse (part l.letters l.first l.n)) l.initial.out l.out l.to l.from l.end l.i
