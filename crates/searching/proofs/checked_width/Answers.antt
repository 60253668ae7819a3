use borrow.Author.Rules.{rules}
use Rattle.budget.proofs.Laws.{width_small}
use Rattle.searching.proofs.Answer.{panel_bounded, checked_short, checked_long}
use Rattle.searching.proofs.checked_width.Goals as goal

pub slot_width-v-requires-clause-bounded : goal.slot_width-v-requires-clause-bounded
slot_width-v-requires-clause-bounded c = panel_bounded c.in_ok-budget_refusal.ensures

pub rooms_refusal-requires : goal.rooms_refusal-requires
rooms_refusal-requires c =
    let k = panel_bounded c.in_ok-budget_refusal.ensures in
    record { bounded = k; width_small = rw c.slot_width-v.ensures (width_small _ _ _ c.requires.grouped k) }

pub returns-in_err-rooms_refusal : goal.returns-in_err-rooms_refusal
returns-in_err-rooms_refusal c = let k = c.in_err-rooms_refusal.ensures in search (rules, checked_short)

pub returns : goal.returns
returns c = checked_long _ _ _ _ _ _ c.in_ok-budget_refusal.ensures c.slot_width-v.ensures c.in_ok-rooms_refusal.ensures
