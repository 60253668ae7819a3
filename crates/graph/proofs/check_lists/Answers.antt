use Rattle.graph.proofs.Laws.{counted_told, refused_4, refused_5, ports_told}
use Rattle.graph.proofs.check_lists.Goals as goal

pub check_ports-requires : goal.check_ports-requires
check_ports-requires c = search counted_told

pub returns-then-not-is_counted : goal.returns-then-not-is_counted
returns-then-not-is_counted c = search refused_4

pub returns-then-not-is_familied : goal.returns-then-not-is_familied
returns-then-not-is_familied c = search refused_5

pub returns : goal.returns
returns c = search ports_told
