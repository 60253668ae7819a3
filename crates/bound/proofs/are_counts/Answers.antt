use Rattle.std.proofs.Common.{◌^◌, ◌∙◌, ltb, rules, tests}
use Rattle.std.proofs.lemmas.Iterator.{YieldsList-from_slice}
use Rattle.std.proofs.lemmas.Iterator.Search.{all_from_yields_List}
use Rattle.bound.proofs.Laws.{all_counts}
use Rattle.bound.proofs.are_counts.Goals as goal

pub returns : goal.returns
returns c =
    all_from_yields_List (λ n. ltb n (2 ^ 53)) _ _ _ c.all.ensures.ran (YieldsList-from_slice c.args.counts.now cc) (λ n b q k. search (rules, tests))
    ∙ all_counts c.args.counts.now
