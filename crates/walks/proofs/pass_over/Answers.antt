use borrow.Author.Rules.{rules}
use Rattle.walks.proofs.Laws.{stuck_of}
use Rattle.walks.proofs.pass_over.Goals as goal

pub pass_ports-requires : goal.pass_ports-requires
pass_ports-requires c = (search rules, search rules, search rules, search stuck_of)
