use Rattle.slots.proofs.Compact.{Packing}
use Rattle.slots.proofs.retain.Given as goal

abbrev pub invariant-loop-i : goal.invariant-loop-i
invariant-loop-i l = Packing l.v l.count l.new l.width l.initial.kept l.initial.scores l.kept l.scores l.k l.i
