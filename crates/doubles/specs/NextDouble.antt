-- The next double up and down, as Rust's next_up and next_down have it: by the patterns of 64 bits, which stand in the order of the doubles
-- where the sign is clear, and in the opposite order where it is set.
use Rattle.std.specs.Prelude.{ℕ, ◌+◌, ◌-◌, cond, eqb, ltb, Float}
use Rattle.std.specs.Float.{binary64}
use Rattle.std.specs.Float.Ieee.{is_nan, to_bits, of_bits, neg}

-- the patterns of +infinity, and of -0.0: the sign alone
abbrev pub infinity : ℕ
infinity = 0x7ff0_0000_0000_0000

abbrev pub minus_zero : ℕ
minus_zero = 0x8000_0000_0000_0000

-- One pattern up. +infinity stays, -0.0 goes to the least double above 0, as 0.0 does, and a negative double goes one pattern towards 0.
unfoldable pub pattern_up : ℕ → ℕ
pattern_up b = cond (ltb b infinity) (b + 1) (cond (eqb b infinity) b (cond (eqb b minus_zero) 1 (b - 1)))

-- A NaN stays.
unfoldable pub next_up : Float → Float
next_up x = cond (is_nan x) x (of_bits binary64 (pattern_up (to_bits binary64 x)))

unfoldable pub next_down : Float → Float
next_down x = neg (next_up (neg x))
