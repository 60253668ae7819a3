use borrow.Author.Rules.{rules}
use Rattle.searching.proofs.Entering.{native_room, words_marked, words_formed}
use Rattle.searching.proofs.mark_native.Goals as goal

pub put_native-n-requires : goal.put_native-n-requires
put_native-n-requires c = (search rules, search rules, search native_room)

pub marks_of-requires : goal.marks_of-requires
marks_of-requires c = (search rules, search words_formed)

pub returns : goal.returns
returns c = search words_marked
