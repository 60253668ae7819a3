use Rattle.image.proofs.Laws.{family_end_is, family_end_fits}
use Rattle.image.proofs.family_end.Goals as goal

pub overflow_add-result : goal.overflow_add-result
overflow_add-result c = search family_end_fits

pub returns : goal.returns
returns c = search family_end_is
