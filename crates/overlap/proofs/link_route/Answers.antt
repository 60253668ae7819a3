use borrow.Author.Rules.{rules}
use Rattle.overlap.proofs.ChainLaws.{linking_again, linking_ends, linking_fails, linking_start}
use Rattle.overlap.proofs.link_route.Goals as goal

pub loop-i-init : goal.loop-i-init
loop-i-init c = search linking_start

pub returns-then-not-link : goal.returns-then-not-link
returns-then-not-link c = linking_fails c.loop-i.invariant c.loop-i-test.true _ c.link.ensures c.if-not-link.true

pub loop-i-preserved : goal.loop-i-preserved
loop-i-preserved c = search linking_again

pub returns : goal.returns
returns c = search (rules, linking_ends)
