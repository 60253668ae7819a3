use Rattle.panel.proofs.Laws.{evenly_fits}
use Rattle.panel.proofs.evenly.Goals as goal

pub overflow_mul-result : goal.overflow_mul-result
overflow_mul-result c = search evenly_fits
