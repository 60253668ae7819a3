use Rattle.bed_overlap.proofs.Meeting.{meeting_start, meeting_again, meeting_fails, meeting_ends}
use Rattle.bed_overlap.proofs.are_later_apart.Goals as goal

pub loop-next-init : goal.loop-next-init
loop-next-init c = search meeting_start

pub returns-then-text-next : goal.returns-then-text-next
returns-then-text-next c = let e = c.in-Some.ensures in meeting_ends c.loop-next.invariant e.told.1 e.told.0 c.if-text-next.true

pub loop-next-preserved : goal.loop-next-preserved
loop-next-preserved c = let e = c.in-Some.ensures in meeting_again c.loop-next.invariant e.told.1 e.told.0 e.same

pub returns : goal.returns
returns c = let e = c.in_default.ensures in meeting_fails c.loop-next.invariant e.told
