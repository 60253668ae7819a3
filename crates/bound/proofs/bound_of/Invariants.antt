use Rattle.std.proofs.Common.{◌≡◌, true, drop}
use Rattle.bound.specs.Bound.{bound_from, zero64, counts_ok}
use Rattle.bound.proofs.bound_of.Given as goal

-- the bound of the counts that are left, from the running bound, is the bound of all; and those that are left are in range
abbrev pub invariant-loop-count : goal.invariant-loop-count
invariant-loop-count l = record {
  same : bound_from l.background l.bound (drop l.count-index l.counts) ≡ bound_from l.background zero64 l.counts;
  within : counts_ok (drop l.count-index l.counts) ≡ true;
}
