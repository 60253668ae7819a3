use Rattle.std.proofs.Common.{◌≡◌, length}
use Rattle.names.proofs.Cutting.{Filling}
use Rattle.names.proofs.cut_into.Given as goal

abbrev pub invariant-loop-k : goal.invariant-loop-k
invariant-loop-k l = Filling l.s l.b l.starts l.ends l.at l.k × (length l.starts ≡ length l.initial.starts)
