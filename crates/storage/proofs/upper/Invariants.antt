use lib.ListN.{drop}
use Rattle.storage.specs.Records.{no_port, padded, port_of, record_size}
use Rattle.storage.specs.Orders.{word_up_to}
use Rattle.ground.specs.Lists.{each}
use Rattle.ground.proofs.ListLaws.{Cut}
use Prim.Native.Nat.{◌-◌}
use Rattle.storage.proofs.upper.Given as goal

abbrev pub invariant-loop-step : goal.invariant-loop-step
invariant-loop-step l = Cut (word_up_to (padded l.word l.k)) (each (port_of l.k) (record_size l.k) l.n (drop l.base l.image)) no_port l.n l.lo l.hi

abbrev pub decreases-loop-step : goal.decreases-loop-step
decreases-loop-step l = l.hi - l.lo
