use Rattle.std.proofs.Common.{arith, get_or, rules}
use Rattle.std.proofs.lemmas.Iterator.{YieldsList-from_map, YieldsList-from_range}
use Rattle.std.proofs.lemmas.Iterator.Consumers.{max_from_yields_List}
use Rattle.image.specs.Image.{path_counts}
use Rattle.budget.proofs.Laws.{most_found}
use Rattle.budget.proofs.most_paths.Goals as goal

pub returns : goal.returns
returns c =
    let h = c.args.h in
    most_found c.max.result c.requires
    (max_from_yields_List c.map.result c.max.result c.max.ensures.ran
    (YieldsList-from_map _ (λ i. get_or (path_counts h c.args.image.now) i 0) (YieldsList-from_range 0 h.families h.families c.map.ensures.source (omega arith)) c.map.ensures.closure (λ x r q k. search rules)))
    c.unwrap_or.ensures
