use Rattle.std.proofs.Common.{◌≡◌}
use Rattle.names.specs.Names.{lines_of}
use Rattle.bed_spread.proofs.Spans.{Spreading}
use Rattle.bed_spread.proofs.is_spread.Given as goal

abbrev pub invariant-loop-l : goal.invariant-loop-l
invariant-loop-l l = Spreading (lines_of l.table.names.now) l.text l.lows l.tops l.l-iterator.at × (l.l-iterator.table.names.now ≡ l.table.names.now) × (l.l-iterator.text.now ≡ l.text)
