use Rattle.std.proofs.Common.{refl}
use lib.Ieee.{of_bits}
use Rattle.sheets.proofs.Laws.{answer-in, kept_in}
use Rattle.sheets.proofs.search_in.Goals as goal

pub returns-clause-value : goal.returns-clause-value
unfolding of_bits
returns-clause-value c = answer-in _ _ _ _ _ _ refl c.requires refl _ c.search.ensures.value

pub returns-clause-kept_after : goal.returns-clause-kept_after
unfolding of_bits
returns-clause-kept_after c = kept_in _ _ _ _ _ _ refl c.requires refl _ _ _ c.search.ensures.rooms_after
