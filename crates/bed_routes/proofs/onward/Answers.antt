use Rattle.std.proofs.Common.{◌≡◌, ◌&&◌}
use Rattle.image.specs.Panel.{panel_of}
use Rattle.evaluate.specs.Segments.{sound_span}
use Rattle.bed_routes.proofs.Segments.{onward_joined, onward_behind}
use Rattle.bed_routes.proofs.onward.Goals as goal
use Rattle.bed_routes.proofs.onward.Goals.{then-seen, else-seen}

pub returns-then-is_joinable : goal.returns-then-is_joinable
returns-then-is_joinable c =
    let sound : c.if-seen.sound ≡ (c.args.seen.sound && sound_span (panel_of c.args.image.now) c.args.t)
    = elim c.if-seen.branch [ then-seen w ↦ rw (w.sound-is, w.if-seen.true) w.is_sound-sound.ensures | else-seen w ↦ rw (w.sound-is, w.if-seen.false) ] in
    onward_joined _ _ _ _ _ _ sound c.is_joinable.ensures _ c.if-is_joinable.true c.join.ensures

pub returns-else-is_joinable : goal.returns-else-is_joinable
returns-else-is_joinable c =
    let sound : c.if-seen.sound ≡ (c.args.seen.sound && sound_span (panel_of c.args.image.now) c.args.t)
    = elim c.if-seen.branch [ then-seen w ↦ rw (w.sound-is, w.if-seen.true) w.is_sound-sound.ensures | else-seen w ↦ rw (w.sound-is, w.if-seen.false) ] in
    onward_behind _ _ _ _ _ _ sound c.is_joinable.ensures _ _ c.if-is_joinable.false c.entered_by.ensures c.joints_by.ensures
