use Rattle.landings.proofs.Laws.{reach_fits}
use Rattle.landings.proofs.is_reached.Goals as goal

pub overflow_add-at : goal.overflow_add-at
overflow_add-at c = search reach_fits
