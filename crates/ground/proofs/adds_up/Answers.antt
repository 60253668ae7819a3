use Rattle.std.proofs.Common.{rules}
use Rattle.ground.proofs.ListLaws.{sums_again, sums_over, sums_ends}
use Rattle.ground.proofs.adds_up.Goals as goal

pub returns-in-None : goal.returns-in-None
returns-in-None g c = λ ns long told. sums_over ns _ _ _ _ _ (c.loop-i.invariant ns long told) c.loop-i-test.true (told _ _ c.loop-i-test.true c.number.ensures) long (search rules)

pub loop-i-preserved : goal.loop-i-preserved
loop-i-preserved g c = λ ns long told. let (room, left) = c.in-Some.ensures in rw left (sums_again ns _ _ _ _ _ (c.loop-i.invariant ns long told) c.loop-i-test.true (told _ _ c.loop-i-test.true c.number.ensures) long room)

pub returns : goal.returns
returns g c = λ ns long told. sums_ends ns _ _ _ _ _ (c.loop-i.invariant ns long told) c.loop-i-test.false long (search rules)
