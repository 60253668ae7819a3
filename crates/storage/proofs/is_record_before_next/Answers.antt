use Rattle.storage.specs.Orders.{record_lt}
use Rattle.storage.proofs.OrderLaws.{less_told}
use Rattle.storage.proofs.Laws.{pair_is}
use Rattle.storage.proofs.is_record_before_next.Goals as goal

pub returns : goal.returns
returns c = pair_is _ _ _ _ _ _ _ c.offset-at.ensures c.offset-next.ensures c.requires.1 record_lt _ (less_told _ _ _ _ c.compare_at.ensures c.is_lt.ensures)
