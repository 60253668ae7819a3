use borrow.Author.Rules.{rules}
use Rattle.searching.proofs.Entering.{words_marked, words_formed}
use Rattle.searching.proofs.mark_path.Goals as goal

pub marks_of-requires : goal.marks_of-requires
marks_of-requires c = (search rules, search words_formed)

pub returns : goal.returns
returns c = search words_marked
