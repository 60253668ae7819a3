use Rattle.std.proofs.Common.{◌≡◌, true, false, get_or, ◌∙◌, sym, arith}
use Rattle.rows.specs.Rows.{digit}
use Rattle.rows.proofs.Laws.{digits_other, digits_over, spelling_next, spelling_ends}
use Rattle.rows.proofs.digits_of.Goals as goal

pub returns-then-not-is_ascii_digit : goal.returns-then-not-is_ascii_digit
returns-then-not-is_ascii_digit c =
    let e : digit (get_or c.args.s.now c.loop-x.x-index 0) ≡ false = sym c.is_ascii_digit.ensures.value ∙ c.if-not-is_ascii_digit.true in
    digits_other c.loop-x.invariant c.loop-x-test.true e

pub returns-in_err-checked_mul : goal.returns-in_err-checked_mul
returns-in_err-checked_mul c =
    let e : digit (get_or c.args.s.now c.loop-x.x-index 0) ≡ true = sym c.is_ascii_digit.ensures.value ∙ c.if-not-is_ascii_digit.false in
    rw c.from_residual.ensures (digits_over c.loop-x.invariant c.loop-x-test.true e (omega (arith, c.in_err-checked_mul.ensures)))

pub returns-in_err-value : goal.returns-in_err-value
returns-in_err-value c =
    let e : digit (get_or c.args.s.now c.loop-x.x-index 0) ≡ true = sym c.is_ascii_digit.ensures.value ∙ c.if-not-is_ascii_digit.false in
    rw c.from_residual-in_err-value.ensures (digits_over c.loop-x.invariant c.loop-x-test.true e (omega (arith, c.in_ok-checked_mul.ensures, c.in_err-value.ensures)))

pub loop-x-preserved : goal.loop-x-preserved
loop-x-preserved c =
    let e : digit (get_or c.args.s.now c.loop-x.x-index 0) ≡ true = sym c.is_ascii_digit.ensures.value ∙ c.if-not-is_ascii_digit.false in
    spelling_next c.loop-x.invariant c.loop-x-test.true e c.in_ok-value.value (omega (arith, c.in_ok-checked_mul.ensures, c.in_ok-value.ensures)) (omega (arith, c.in_ok-checked_mul.ensures, c.in_ok-value.ensures))

pub returns : goal.returns
returns c = search spelling_ends
