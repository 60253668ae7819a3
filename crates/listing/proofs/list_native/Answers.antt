use borrow.Author.Rules.{rules}
use Rattle.listing.proofs.Rest.{native-words, some_words, words_within}
use Rattle.listing.proofs.list_native.Goals as goal

pub put_native-n-requires : goal.put_native-n-requires
put_native-n-requires c = (search rules, search rules, search native-words)

pub hand_over-requires : goal.hand_over-requires
hand_over-requires c = (search words_within, search rules, search rules, search some_words)
