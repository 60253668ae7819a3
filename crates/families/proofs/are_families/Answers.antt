use mathlib.Core.Path.{refl}
use Rattle.ground.proofs.ListLaws.{all_start, all_ends}
use Rattle.image.proofs.Laws.{families_length}
use Rattle.families.proofs.Laws.{next_start, family_again, family_fails}
use Rattle.ground.specs.Lists.{sum}
use Rattle.families.proofs.are_families.Goals as goal

pub loop-i-init : goal.loop-i-init
unfolding sum
loop-i-init c = (search all_start, refl)

pub loop-i-preserved : goal.loop-i-preserved
loop-i-preserved c = (search (family_again, families_length), search next_start)

pub returns-then-not-is_distinct : goal.returns-then-not-is_distinct
returns-then-not-is_distinct c = search (family_fails, families_length)

pub returns : goal.returns
returns c = search (all_ends, families_length)
