use Rattle.walks.specs.Inner.{to_go}
use Rattle.image.specs.Panel.{panel_of}
use Rattle.listing.proofs.Running.{Under}
use Rattle.landings.specs.Inner.{Known}
use Prim.Native.Nat.{◌-◌}
use Rattle.listing.proofs.run.Given as goal

abbrev pub invariant-loop-stop : goal.invariant-loop-stop
invariant-loop-stop l = Under l.image l.h l.b l.v (to_go (panel_of l.image) l.b l.initial.at.tally l.initial.frames l.initial.at.depth) l.initial.listing l.initial.frames l.initial.slot l.initial.out l.frames l.slot l.out l.at l.listing × Known l.image l.h l.memo

abbrev pub decreases-loop-stop : goal.decreases-loop-stop
decreases-loop-stop l = l.b.max_work - l.at.tally.work
