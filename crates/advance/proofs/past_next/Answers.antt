use borrow.Author.Rules.{rules}
use Rattle.advance.proofs.Laws.{next_small, past_opens, past_other}
use Rattle.advance.proofs.past_next.Goals as goal

pub go_onward-on-requires : goal.go_onward-on-requires
go_onward-on-requires c = (search rules, search next_small)

pub returns-then-q-f-clause-past : goal.returns-then-q-f-clause-past
returns-then-q-f-clause-past c = search past_opens

pub returns-else-q-f-clause-past : goal.returns-else-q-f-clause-past
returns-else-q-f-clause-past c = search past_other
