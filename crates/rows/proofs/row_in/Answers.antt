use Rattle.std.proofs.Common.{refl, arith}
use Rattle.rows.proofs.Laws.{column_is, off_name, off_start, off_end, off_slot, off_score, off_turn, score_is, row_told}
use Rattle.rows.proofs.row_in.Goals as goal

pub returns-then-not-is_name : goal.returns-then-not-is_name
returns-then-not-is_name c = off_name _ (column_is 0 c.requires.0 (omega arith) c.part_at-name.ensures) c.is_name.ensures c.if-not-is_name.true

pub returns-in_err-start : goal.returns-in_err-start
returns-in_err-start c = rw c.from_residual.ensures (off_start _ _ (column_is 1 c.requires.0 (omega arith) c.part_at.ensures) c.in_err-start.ensures)

pub returns-in_err-end : goal.returns-in_err-end
returns-in_err-end c = rw c.from_residual-in_err-end.ensures (off_end _ _ (column_is 2 c.requires.0 (omega arith) c.part_at-2.ensures) c.in_err-end.ensures)

pub returns-in_err-slot : goal.returns-in_err-slot
returns-in_err-slot c = rw c.from_residual-in_err-slot.ensures (off_slot _ _ (column_is 3 c.requires.0 (omega arith) c.part_at-3.ensures) c.in_err-slot.ensures)

pub returns-then-ne : goal.returns-then-ne
returns-then-ne c = off_score _ (column_is 4 c.requires.0 (omega arith) c.part_at-4.ensures) c.as_slice.ensures c.ne.ensures c.if-ne.true

pub returns-in_err-reverse : goal.returns-in_err-reverse
returns-in_err-reverse c = rw c.from_residual-in_err-reverse.ensures (off_turn _ _ (column_is 5 c.requires.0 (omega arith) c.part_at-5.ensures) c.in_err-reverse.ensures)

pub returns : goal.returns
returns c =
    let s = c.requires.0 in
    row_told c.requires.1 (column_is 0 s (omega arith) c.part_at-name.ensures) c.is_name.ensures c.if-not-is_name.false (column_is 1 s (omega arith) c.part_at.ensures) c.in_ok-start.ensures
    (column_is 2 s (omega arith) c.part_at-2.ensures) c.in_ok-end.ensures (column_is 3 s (omega arith) c.part_at-3.ensures) c.in_ok-slot.ensures (column_is 4 s (omega arith) c.part_at-4.ensures) (score_is c.as_slice.ensures c.ne.ensures c.if-ne.false)
    (column_is 5 s (omega arith) c.part_at-5.ensures) c.in_ok-reverse.ensures _ refl refl refl refl refl
