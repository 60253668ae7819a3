use Rattle.walks.proofs.Laws.{Striding}
use Rattle.landings.specs.Inner.{Known}
use Prim.Native.Nat.{◌-◌}
use Rattle.walks.proofs.pass_ports.Given as goal

abbrev pub invariant-loop-h : goal.invariant-loop-h
invariant-loop-h l = Striding l.image l.h l.b l.frames l.initial.t l.depth l.l l.f l.t × Known l.image l.h l.memo

abbrev pub decreases-loop-h : goal.decreases-loop-h
decreases-loop-h l = l.b.max_work - l.t.work
