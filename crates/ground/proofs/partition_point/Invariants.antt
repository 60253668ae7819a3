use Rattle.std.proofs.Common.{◌≤◌, ◌<◌, ◌-◌, true, false}
use Rattle.ground.proofs.partition_point.Given as goal

abbrev pub invariant-loop-low : goal.invariant-loop-low
invariant-loop-low g l =
    (l.fn.from ≤ l.low) × (l.low ≤ l.high) × (l.high ≤ l.fn.to)
    × (l.fn.from < l.low → goal.F-post g l.passes (l.low - 1) true)
    × (l.high < l.fn.to → goal.F-post g l.passes l.high false)

abbrev pub decreases-loop-low : goal.decreases-loop-low
decreases-loop-low g l = l.high - l.low
