use Rattle.std.proofs.Common.{◌≡◌, ◌+◌, ◌-◌, arith, rules}
use Rattle.panel.proofs.Laws.{tested_next, tested_all}
use Rattle.panel.proofs.are_letters.Goals as goal

pub loop-b-preserved : goal.loop-b-preserved
loop-b-preserved c = tested_next _ _ _ c.loop-b.invariant _ c.loop-b-test.true (search rules)

pub returns : goal.returns
returns c =
    let k : c.args.at + c.args.k - c.args.at ≡ c.args.k = omega arith in
    rw k at (tested_all _ _ _ c.loop-b.invariant c.loop-b-test.false)
