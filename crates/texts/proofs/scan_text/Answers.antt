use Rattle.std.proofs.Common.{◌∙◌}
use Rattle.texts.proofs.Scanning.{known_told, scanning_start, scan_open, scan_row, scan_slot, scan_again, scanning_good, scanning_known, scanning_counts}
use Rattle.texts.proofs.scan_text.Goals as goal
use Rattle.texts.proofs.scan_text.Goals.{then-known, else-known}

pub loop-at-init : goal.loop-at-init
loop-at-init c = search scanning_start

pub returns-then-text-e : goal.returns-then-text-e
returns-then-text-e c = search scan_open

pub returns-in_default : goal.returns-in_default
returns-in_default c = scan_row c.loop-at.invariant c.loop-at-test.true _ c.place_of-e.ensures c.if-text-e.false c.in_default.ensures

pub returns-then-not-follows : goal.returns-then-not-follows
returns-then-not-follows c =
    let row = c.in-Some.ensures in
    scan_slot c.loop-at.invariant c.loop-at-test.true _ c.place_of-e.ensures c.if-text-e.false _ row.1.slot _ c.follows.ensures c.if-not-follows.true

pub loop-at-preserved : goal.loop-at-preserved
loop-at-preserved c =
    let row = c.in-Some.ensures in
    let again = scan_again c.loop-at.invariant c.loop-at-test.true _ c.place_of-e.ensures c.if-text-e.false _ row.1.slot _ c.follows.ensures c.if-not-follows.false in
    elim c.if-known.branch [
      | then-known w ↦ again row.0 (rw (w.known-is, w.if-known.true) (w.is_some-known.ensures ∙ known_told _ _ c.args.table.now.read row.1.name w.find.ensures))
      | else-known w ↦ again row.0 (rw (w.known-is, w.if-known.false))
    ]

pub returns-then-known-2 : goal.returns-then-known-2
returns-then-known-2 c = let i = c.loop-at.invariant in let h = c.loop-at-test.false in (scanning_good i h, scanning_known i h ∙ c.if-known-2.true, scanning_counts i h)

pub returns-else-known-2 : goal.returns-else-known-2
returns-else-known-2 c = let i = c.loop-at.invariant in let h = c.loop-at-test.false in (scanning_good i h, scanning_known i h ∙ c.if-known-2.false)
