use Rattle.spell.proofs.Laws.{Slots}
use Rattle.spell.proofs.slot_at.Given as goal

abbrev pub invariant-loop-i : goal.invariant-loop-i
invariant-loop-i l = Slots l.words l.slot l.at l._i
