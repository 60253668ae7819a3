use Rattle.marks.proofs.Laws.{Mixing}
use Rattle.marks.proofs.mixes.Given as goal

abbrev pub invariant-loop : goal.invariant-loop
invariant-loop g l = Mixing (λ s r. goal.F-post g l.value s r) l.words l.at l.routes l.place l.counter
