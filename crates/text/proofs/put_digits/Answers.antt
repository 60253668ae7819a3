use borrow.Author.Rules.{rules}
use Rattle.text.proofs.Laws.{counting_ends, counting_last, counting_next, counting_start}
use Rattle.text.proofs.put_digits.Goals as goal

pub loop-i-init : goal.loop-i-init
loop-i-init c = search (rules, counting_start)

pub returns-then-rest-lt10-clause-said : goal.returns-then-rest-lt10-clause-said
returns-then-rest-lt10-clause-said c = search counting_last

pub loop-i-preserved : goal.loop-i-preserved
loop-i-preserved c = search counting_next

pub returns-clause-said : goal.returns-clause-said
returns-clause-said c = search counting_ends
