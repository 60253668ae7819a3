use borrow.Author.Rules.{rules}
use Rattle.landings.proofs.Laws.{known_is, known_more, port_fits, port_next_fits}
use Rattle.landings.proofs.port_bucket.Goals as goal

pub overflow_add-port : goal.overflow_add-port
overflow_add-port c = search (rules, port_fits)

pub overflow_add-port-2 : goal.overflow_add-port-2
overflow_add-port-2 c = search (rules, port_next_fits)

pub returns-then-memo-seat : goal.returns-then-memo-seat
returns-then-memo-seat c = search known_is

pub overflow_add-memo : goal.overflow_add-memo
overflow_add-memo c = search (rules, port_next_fits)

pub returns : goal.returns
returns c = record { value = search rules; known = search known_more }
