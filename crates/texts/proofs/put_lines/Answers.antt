use Rattle.std.proofs.Common.{refl, ◌∙◌}
use Rattle.texts.proofs.LineLaws.{text_lined, line_same}
use Rattle.texts.proofs.Putting.{putting_start, hold_to, hold_count, hold_routes, hold_head, hold_words, hold_next, putting_ends}
use Rattle.texts.proofs.put_lines.Goals as goal

pub of-l-items-requires : goal.of-l-items-requires
of-l-items-requires c = text_lined _ c.requires.good

pub loop-l-init : goal.loop-l-init
loop-l-init c =
    let e = c.into_iter-l-iterator.ensures.into_iter_gives in
    let o = c.of-l-items.ensures in
    (rw (e, o.2) (putting_start c.requires), rw e o.0, rw e o.1)

pub place_for-place-requires : goal.place_for-place-requires
place_for-place-requires c =
    let i = c.loop-l.invariant in
    let d = line_same i.1 i.2 c.in-Some.ensures.steps.2.1 in
    (hold_to i.0 _ d, hold_count i.0 _ d, hold_routes i.0 _ d)

pub bounds-room-place : goal.bounds-room-place
bounds-room-place c =
    let i = c.loop-l.invariant in
    hold_head i.0 _ (line_same i.1 i.2 c.in-Some.ensures.steps.2.1) _ c.place_for-place.ensures

pub put_segment-requires : goal.put_segment-requires
put_segment-requires c =
    let i = c.loop-l.invariant in
    hold_words i.0 _ (line_same i.1 i.2 c.in-Some.ensures.steps.2.1) _ c.place_for-place.ensures _ _

pub loop-l-preserved : goal.loop-l-preserved
loop-l-preserved c =
    let i = c.loop-l.invariant in
    let s = c.in-Some.ensures.steps in
    (rw s.2.2 (hold_next i.0 _ (line_same i.1 i.2 s.2.1) _ c.place_for-place.ensures _ c.put_segment.ensures), s.0 ∙ i.1, s.1 ∙ i.2)

pub returns : goal.returns
returns c = let i = c.loop-l.invariant in putting_ends i.0 _ refl (rw (← i.2) c.in-None.ensures.steps.2)
