use Rattle.storage.proofs.OrderLaws.{before_less, before_more, before_forward, before_reverse}
use Rattle.storage.proofs.is_before_at.Goals as goal

pub returns-in-Less : goal.returns-in-Less
returns-in-Less c = before_less _ _ _ _ c.anchor_at.ensures c.in-Less.ensures

pub returns-then-reverse : goal.returns-then-reverse
returns-then-reverse c = before_reverse _ _ _ _ c.anchor_at.ensures c.in-Equal.ensures _ c.reverse_at.ensures c.if-reverse.true

pub returns-else-reverse : goal.returns-else-reverse
returns-else-reverse c = before_forward _ _ _ _ c.anchor_at.ensures c.in-Equal.ensures c.if-reverse.false

pub returns-in-Greater : goal.returns-in-Greater
returns-in-Greater c = before_more _ _ _ _ c.anchor_at.ensures c.in-Greater.ensures
