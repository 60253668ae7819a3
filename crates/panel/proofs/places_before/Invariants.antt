use Rattle.storage.specs.Records.{no_port}
use Rattle.storage.specs.Orders.{place_before}
use Rattle.image.specs.Image.{ports_of}
use Rattle.ground.proofs.ListLaws.{Cut}
use Prim.Native.Nat.{◌-◌}
use Rattle.panel.proofs.places_before.Given as goal

abbrev pub invariant-loop-lo : goal.invariant-loop-lo
invariant-loop-lo l = Cut (place_before l.anchor l.reverse) (ports_of l.h l.image l.l.number) no_port l.l.count l.lo l.hi

abbrev pub decreases-loop-lo : goal.decreases-loop-lo
decreases-loop-lo l = l.hi - l.lo
