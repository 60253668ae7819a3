use borrow.Author.Rules.{rules}
use Rattle.listing.proofs.Whole.{listing_told, onward_start}
use Rattle.landings.proofs.Laws.{known_none}
use Rattle.listing.proofs.list_in.Goals as goal

pub list_families-e-requires : goal.list_families-e-requires
list_families-e-requires c = record { accepted = (c.requires.accepted.0, search rules, known_none _ _ _ c.no_memo-memo.ensures, c.requires.accepted.1); onward = onward_start _ _ _ _ _ _ c.requires.accepted.1.some c.requires.width.0 c.requires.width.1 }

pub returns : goal.returns
returns c = listing_told _ _ _ _ _ _ _ _ _ _ _ c.list_families-e.ensures c.requires.accepted.1 c.requires.width.0 c.leave_frames.ensures c.clear_words.ensures c.reply.ensures
