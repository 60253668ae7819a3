use Rattle.image.proofs.Laws.{family_index, family_index_fits, family_path_is}
use borrow.Author.Rules.{rules}
use Rattle.image.proofs.family_path.Goals as goal

pub overflow_add-f : goal.overflow_add-f
overflow_add-f c = search family_index_fits

pub path_at-requires : goal.path_at-requires
path_at-requires c = search (rules, family_index)

pub returns : goal.returns
returns c = search family_path_is
