use Rattle.std.proofs.Common.{◌-◌, length}
use Rattle.names.specs.Names.{lines_of}
use Rattle.texts.proofs.Scanning.{Scanning}
use Rattle.texts.proofs.scan_text.Given as goal

abbrev pub invariant-loop-at : goal.invariant-loop-at
invariant-loop-at l = Scanning (lines_of l.table.names.now) l.text l.at l.lines l.routes l.known

abbrev pub decreases-loop-at : goal.decreases-loop-at
decreases-loop-at l = length l.text - l.at
