use Rattle.searching.proofs.Sowing.{early_evaluation, early_none, early_work, first_ended, first_onward, first_walking, no_paths}
use native.Mathlib.Omega.{arith}
use Rattle.searching.proofs.search_families.Goals as goal
use Rattle.searching.proofs.search_families.Goals.{then-n-b, else-n-b}

pub returns-then-seeded-h : goal.returns-then-seeded-h
returns-then-seeded-h c =
    let s = c.in_ok-seeded.ensures in
    elim c.if-n-b.branch [
      | then-n-b w ↦ early_evaluation c.requires.accepted.0 s _ c.if-seeded-h.true w.if-n-b.true _ (rw w.stop-is at c.ended_early.ensures)
      | else-n-b w ↦ early_work c.requires.accepted.0 s _ c.if-seeded-h.true w.if-n-b.false _ (rw w.stop-is at c.ended_early.ensures)
    ]

pub returns-then-h-eq0 : goal.returns-then-h-eq0
returns-then-h-eq0 c = early_none c.requires.accepted.0 c.in_ok-seeded.ensures _ c.if-h-eq0.true _ c.ended_early-then-h-eq0.ensures

pub put_root-requires : goal.put_root-requires
put_root-requires c = (c.requires.accepted.0, c.requires.accepted.1, let l = c.if-h-eq0.false in omega arith, no_paths, let f = c.requires.framable.room in omega arith)

pub run-requires-clause-walking : goal.run-requires-clause-walking
run-requires-clause-walking c = first_walking c.requires.accepted.0 c.in_ok-seeded.ensures _ c.if-seeded-h.false c.if-h-eq0.false c.requires.framable _ c.put_root.ensures _ c.standing.ensures

pub run-requires-clause-onward : goal.run-requires-clause-onward
run-requires-clause-onward c = first_onward c.requires.accepted.0 c.in_ok-seeded.ensures _ c.if-seeded-h.false c.if-h-eq0.false c.requires.framable _ c.put_root.ensures _ c.standing.ensures

pub returns : goal.returns
returns c = first_ended c.requires.accepted.0 c.in_ok-seeded.ensures _ c.if-seeded-h.false c.if-h-eq0.false c.requires.framable _ c.put_root.ensures c.run.ensures
