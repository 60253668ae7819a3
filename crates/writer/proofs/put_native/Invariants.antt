use Rattle.writer.proofs.Laws.{Natives}
use lib.ListN.{length}
use Prim.Native.Nat.{◌*◌, ◌+◌, ◌≤◌}
use Rattle.image.specs.Panel.{panel_of}
use Rattle.writer.proofs.put_native.Given as goal

abbrev pub invariant-loop-i : goal.invariant-loop-i
invariant-loop-i l = Natives (panel_of l.image) l.family.number l.n l.initial.slot l.slot l.i × (2 + 5 * l.n ≤ length l.initial.slot)
