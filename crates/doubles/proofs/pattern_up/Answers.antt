use mathlib.Core.Path.{sym}
use Rattle.doubles.proofs.Laws.{at_infinity, at_zero, at_minus}
use Rattle.doubles.proofs.Outward.{pattern_next}
use Rattle.doubles.proofs.pattern_up.Goals as goal

pub returns-then-bits-lt-INFINITY : goal.returns-then-bits-lt-INFINITY
returns-then-bits-lt-INFINITY c = sym (pattern_next c.args.bits c.if-bits-lt-INFINITY.true)

pub returns-then-bits-eq-INFINITY : goal.returns-then-bits-eq-INFINITY
returns-then-bits-eq-INFINITY c = at_infinity c.args.bits c.if-bits-lt-INFINITY.false c.if-bits-eq-INFINITY.true

pub returns-then-bits-eq-MINUS_ZERO : goal.returns-then-bits-eq-MINUS_ZERO
returns-then-bits-eq-MINUS_ZERO c = at_zero c.args.bits c.if-bits-lt-INFINITY.false c.if-bits-eq-INFINITY.false c.if-bits-eq-MINUS_ZERO.true

pub returns-else-bits-eq-MINUS_ZERO : goal.returns-else-bits-eq-MINUS_ZERO
returns-else-bits-eq-MINUS_ZERO c = at_minus c.args.bits c.if-bits-lt-INFINITY.false c.if-bits-eq-INFINITY.false c.if-bits-eq-MINUS_ZERO.false
