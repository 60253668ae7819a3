use mathlib.Core.Path.{sym, ◌∙◌}
use Rattle.kept.proofs.Steps.{low_first, low_same, low_lower}
use Rattle.kept.proofs.lower.Goals as goal
use Rattle.kept.proofs.lower.Goals.{in_default-via-in-Some+else-not-is_below, in_default-via-in_default}

pub returns-in-Some : goal.returns-in-Some
returns-in-Some c = search low_same

pub returns-in_default : goal.returns-in_default
returns-in_default c =
    elim c.in_default.branch [
      | in_default-via-in-Some+else-not-is_below w ↦ low_lower (rw (w.b-is ∙ sym w.in-Some.is) at c.replace.ensures) w.in-Some.is w.is_below.ensures w.if-not-is_below.false
      | in_default-via-in_default w ↦ low_first (rw w.b-is at c.replace.ensures) w.in_default.is
    ]
