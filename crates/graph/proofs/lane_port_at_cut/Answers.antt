use borrow.Author.Rules.{rules}
use Rattle.graph.proofs.LookupLaws.{port_short, port_fits, port_other, port_past, port_here}
use Rattle.panel.proofs.Laws.{row_rises}
use Rattle.graph.proofs.lane_port_at_cut.Goals as goal

pub returns-then-cut-shift : goal.returns-then-cut-shift
returns-then-cut-shift c = search port_short

pub places_before-i-requires : goal.places_before-i-requires
places_before-i-requires c = search (rules, row_rises)

pub stands_at-requires : goal.stands_at-requires
stands_at-requires c = search (rules, port_fits)

pub returns-then-stands_at : goal.returns-then-stands_at
returns-then-stands_at c = search port_here

pub returns-else-stands_at : goal.returns-else-stands_at
returns-else-stands_at c = search port_other

pub returns-then-l-i : goal.returns-then-l-i
returns-then-l-i c = search port_past
