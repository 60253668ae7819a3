use Rattle.bed_routes.proofs.Segments.{judged_26, judged_27, judged_rest}
use Rattle.bed_routes.proofs.judged.Goals as goal
use Rattle.bed_routes.proofs.judged.Goals.{then-not-entered_by-via-then-not-entered_by, then-not-entered_by-via-else-not-entered_by+then-not-is_leaving}

pub returns-then-not-seen : goal.returns-then-not-seen
returns-then-not-seen c = search judged_26

pub returns-then-not-entered_by : goal.returns-then-not-entered_by
returns-then-not-entered_by c =
    judged_27 _ _ _ c.if-not-seen.false
    (elim c.then-not-entered_by.branch [
      | then-not-entered_by-via-then-not-entered_by w ↦ rw (← c.entered_by.ensures, w.if-not-entered_by.true)
      | then-not-entered_by-via-else-not-entered_by+then-not-is_leaving w ↦ rw (← c.entered_by.ensures, w.if-not-entered_by.false, ← w.is_leaving.ensures, w.if-not-is_leaving.true)
    ])

pub returns : goal.returns
returns c = judged_rest _ _ _ c.if-not-seen.false _ (rw (← c.entered_by.ensures, c.if-not-entered_by.false, ← c.is_leaving.ensures, c.if-not-is_leaving.false)) c.joints_by.ensures
