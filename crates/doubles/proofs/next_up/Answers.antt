use mathlib.Core.Path.{sym, subst, ap, ◌∙◌}
use Prim.Native.Nat.{ℕ}
use mathlib.Core.Bool.{not}
use lib.Dec.{T}
use lib.Ieee.{binary64, nan_bits, of_bits}
use Rattle.doubles.proofs.Laws.{number, pattern_number, next_number, next_nan}
use Rattle.doubles.proofs.next_up.Goals as goal

pub float_to_bits-x : goal.float_to_bits-x
float_to_bits-x c = number c.args.x c.if-x.true

pub float_from_bits-result : goal.float_from_bits-result
float_from_bits-result c = subst (λ (b : ℕ). T (not (nan_bits binary64 b))) (sym c.pattern_up-bits.ensures) (pattern_number c.args.x (subst T (sym c.well_formed.0.1) tt) (number c.args.x c.if-x.true))

pub returns-then-x : goal.returns-then-x
returns-then-x c = ap (of_bits binary64) c.pattern_up-bits.ensures ∙ next_number c.args.x c.if-x.true

pub returns-else-x : goal.returns-else-x
returns-else-x c = next_nan c.args.x c.if-x.false
