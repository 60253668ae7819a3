use Rattle.std.proofs.Common.{◌≡◌}
use Rattle.names.specs.Names.{lines_of}
use Rattle.texts.proofs.Putting.{Putting}
use Rattle.texts.proofs.put_lines.Given as goal

abbrev pub invariant-loop-l : goal.invariant-loop-l
invariant-loop-l l =
    Putting (lines_of l.table.names.now) l.text l.initial.room l.l-iterator.at l.place.to l.place.head l.place.count l.place.routes l.room
    × (l.l-iterator.table.names.now ≡ l.table.names.now) × (l.l-iterator.text.now ≡ l.text)
