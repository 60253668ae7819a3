use borrow.Author.Rules.{rules}
use Rattle.listing.proofs.Answer.{panel_bounded, checked_short, checked_long}
use Rattle.listing.proofs.checked_width.Goals as goal

pub slot_width-v-requires-clause-bounded : goal.slot_width-v-requires-clause-bounded
slot_width-v-requires-clause-bounded c = panel_bounded c.in_ok-budget_refusal.ensures

pub list_rooms_refusal-requires : goal.list_rooms_refusal-requires
list_rooms_refusal-requires c = panel_bounded c.in_ok-budget_refusal.ensures

pub returns-in_err-list_rooms_refusal : goal.returns-in_err-list_rooms_refusal
returns-in_err-list_rooms_refusal c = let k = c.in_err-list_rooms_refusal.ensures in search (rules, checked_short)

pub returns : goal.returns
returns c = checked_long _ _ _ _ _ c.in_ok-budget_refusal.ensures c.slot_width-v.ensures c.in_ok-list_rooms_refusal.ensures
