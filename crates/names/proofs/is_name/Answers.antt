use Rattle.std.proofs.Common.{◌≡◌, ◌∙◌, rules, tests}
use Rattle.std.proofs.lemmas.Iterator.{YieldsList-from_slice}
use Rattle.std.proofs.lemmas.Iterator.Search.{all_from_yields_List}
use Rattle.ground.specs.Lists.{all}
use Rattle.names.specs.Names.{printing, name_ok}
use Rattle.names.proofs.Bytes.{all_is}
use Rattle.names.proofs.is_name.Goals as goal

pub returns-then-contains : goal.returns-then-contains
unfolding name_ok
returns-then-contains c =
    let e : c.all.result ≡ all printing c.args.s.now = all_from_yields_List printing _ _ _ c.all.ensures.ran (YieldsList-from_slice c.args.s.now cc) (λ x b q k. search (rules, tests)) ∙ all_is printing c.args.s.now in
    search rules

pub returns-else-contains : goal.returns-else-contains
unfolding name_ok
returns-else-contains c = search rules
