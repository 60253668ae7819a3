use Rattle.std.proofs.Common.{◌+◌, refl, arith, rules, tests}
use Rattle.std.proofs.lemmas.Iterator.{YieldsList-from_range}
use Rattle.std.proofs.lemmas.Iterator.Search.{any_from_yields_List}
use Rattle.slots.specs.Inner.{same_words, slot_at}
use Rattle.slots.proofs.Unused.{looked_all}
use Rattle.slots.proofs.holds.Goals as goal

pub returns : goal.returns
returns c =
    let xs = c.args.kept.now in
    let ws = slot_at c.args.v xs c.args.spare in
    looked_all c.args.v c.args.count xs ws
    (any_from_yields_List (λ i. same_words (slot_at c.args.v xs (i + 1)) ws) _ _ c.any.result c.any.ensures.ran (YieldsList-from_range 0 c.args.count c.args.count refl (omega arith)) (λ i b q k. search (rules, tests)))
