use Rattle.storage.specs.Orders.{place_lt}
use Rattle.storage.proofs.OrderLaws.{place_told}
use Rattle.storage.proofs.Laws.{pair_is}
use Rattle.storage.proofs.is_place_before_next.Goals as goal

pub returns : goal.returns
returns c = pair_is _ _ _ _ _ _ _ c.offset-at.ensures c.offset-next.ensures c.requires.1 place_lt _ (place_told _ _ _ _ _ c.anchor_at-anchor.ensures c.reverse_at-reverse.ensures c.is_before_at.ensures)
