use borrow.Author.Rules.{rules}
use Rattle.listing.proofs.Rest.{some_words, words_within}
use Rattle.listing.proofs.list_path.Goals as goal

pub hand_over-requires : goal.hand_over-requires
hand_over-requires c = (search words_within, search rules, search rules, search some_words)
