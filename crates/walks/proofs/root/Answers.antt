use borrow.Author.Rules.{rules}
use Rattle.walks.proofs.Laws.{root_made, root_waits}
use Rattle.advance.proofs.Laws.{path_some}
use Rattle.walks.proofs.root.Goals as goal

pub family_path-lane-requires : goal.family_path-lane-requires
family_path-lane-requires c = (search rules, search path_some)

pub returns-clause-child : goal.returns-clause-child
returns-clause-child c = search (root_waits, root_made)

pub returns-clause-is : goal.returns-clause-is
returns-clause-is c = search root_made
