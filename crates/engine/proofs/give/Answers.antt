use borrow.Author.Rules.{rules}
use Rattle.listing.proofs.Rest.{some_words, words_within}
use Rattle.engine.proofs.Gathering.{assigned_few}
use Rattle.engine.proofs.give.Goals as goal

pub put_path-n-requires : goal.put_path-n-requires
put_path-n-requires c = (search rules, search assigned_few)

pub hand_over-listing-requires : goal.hand_over-listing-requires
hand_over-listing-requires c = (search (words_within, assigned_few), search rules, search rules, search some_words)
