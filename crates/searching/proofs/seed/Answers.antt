use borrow.Author.Rules.{rules}
use Rattle.searching.proofs.Sowing.{sowing_start, sown_refused, native_fits, sowing_next}
use Rattle.searching.proofs.seed.Goals as goal

pub loop-natives-init : goal.loop-natives-init
loop-natives-init c = search sowing_start

pub returns-in_err-score : goal.returns-in_err-score
returns-in_err-score c =
    let k = c.in_err-score.ensures.refused in
    let t = sown_refused c.requires.0 c.loop-natives.invariant c.loop-natives-test.true c.if-natives-b.false c.if-natives-b-2.false _ k in
    search rules

pub enter_native-account-requires-clause-grouped : goal.enter_native-account-requires-clause-grouped
enter_native-account-requires-clause-grouped c =
    let g = c.family_from-family.ensures in
    (g.0, native_fits c.requires.0 c.loop-natives.invariant c.loop-natives-test.true c.if-natives-b.false c.if-natives-b-2.false c.family_from-family.result g.1)

pub loop-natives-preserved : goal.loop-natives-preserved
loop-natives-preserved c =
    let s = c.in_ok-score.ensures in
    let g = c.family_from-family.ensures in
    sowing_next c.requires.0 c.loop-natives.invariant c.loop-natives-test.true c.if-natives-b.false c.if-natives-b-2.false s.refused s.score c.family_from-family.result g.1 c.enter_native-account.ensures _ c.family_end-start.ensures
