use borrow.Author.Rules.{rules}
use Rattle.searching.proofs.Entering.{entered, spare_tidy}
use Rattle.searching.proofs.enter_path.Goals as goal

pub settle-requires : goal.settle-requires
settle-requires c = (search spare_tidy, search rules)

pub returns : goal.returns
returns c = entered _ _ _ _ _ c.requires.ready c.requires.on_path.2 c.mark_path-m.ensures c.settle.ensures
