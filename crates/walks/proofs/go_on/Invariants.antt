use Rattle.landings.specs.Inner.{Known}
use Rattle.walks.proofs.Laws.{Going, Outer}
use Prim.Native.Nat.{◌-◌}
use Rattle.walks.proofs.go_on.Given as goal

abbrev pub invariant-loop-depth : goal.invariant-loop-depth
invariant-loop-depth l = Going l.image l.h l.b l.family l.start l.initial.frames l.initial.t l.initial.depth l.frames l.t l.depth l.clear × Known l.image l.h l.memo

abbrev pub decreases-loop-depth : goal.decreases-loop-depth
decreases-loop-depth l = l.b.max_work - l.t.work

abbrev pub invariant-families : goal.invariant-families
invariant-families l = Outer l.image l.h l.b l.initial.frames l.initial.t l.initial.depth l.frames l.t l.depth l.start l.clear × Known l.image l.h l.memo

abbrev pub decreases-families : goal.decreases-families
decreases-families l = l.h.families - l.t.families
