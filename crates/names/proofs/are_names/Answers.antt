use Rattle.std.proofs.Common.{◌-◌, get_or, take, drop, arith, rules, tests}
use Rattle.std.proofs.lemmas.Iterator.{YieldsList-from_range}
use Rattle.std.proofs.lemmas.Iterator.Search.{all_from_yields_List}
use Rattle.names.specs.Names.{name_ok}
use Rattle.names.proofs.Laws.{names_all}
use Rattle.names.proofs.are_names.Goals as goal

pub returns : goal.returns
returns c =
    let s = c.args.names.now in
    let starts = c.args.starts.now in
    let ends = c.args.ends.now in
    names_all c.requires.2 c.requires.1
    (all_from_yields_List (λ j. name_ok (take (get_or ends j 0 - get_or starts j 0) (drop (get_or starts j 0) s))) _ _ _ c.all.ensures.ran (YieldsList-from_range 0 c.args.lanes c.args.lanes (cc) (omega arith)) (λ i b q k. search (rules, tests)))
