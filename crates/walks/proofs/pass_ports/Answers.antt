use borrow.Author.Rules.{rules}
use Rattle.walks.proofs.Laws.{stride_start, stride_next, stride_turn, strode}
use Rattle.walks.proofs.pass_ports.Goals as goal

pub loop-h-init : goal.loop-h-init
loop-h-init c = (search stride_start, search rules)

pub loop-h-preserved : goal.loop-h-preserved
loop-h-preserved c = (stride_next _ _ _ _ _ _ _ c.requires.0 c.requires.1 _ _ c.loop-h.invariant.0 _ _ _ c.saturating_sub-members.ensures c.min-m.ensures c.with_fewer-f.ensures _ _ (c.goes_past.ensures c.if-not-goes_past.false) c.to_close-n.ensures.0 c.past_next-f.ensures.past, c.past_next-f.ensures.known)

pub returns-clause-passed : goal.returns-clause-passed
returns-clause-passed c = search (strode, stride_turn)
