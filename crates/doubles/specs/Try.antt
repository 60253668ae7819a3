-- The steps computed, by their patterns.
use Rattle.std.specs.Prelude.{ℕ, ◌≡◌, refl, List, [], ◌∷◌, map, Float}
use Rattle.std.specs.Float.{nan, binary64}
use Rattle.std.specs.Float.Ieee.{neg, is_nan, to_bits, of_bits}
use Rattle.doubles.specs.NextDouble.{pattern_up, next_up, next_down}

record Step : Type 0 where
  pub from : ℕ
  pub up : ℕ
  pub down : ℕ

abbrev steps : List Step
steps =
    -- 0.0 and -0.0: to the least doubles above and below
    record { from = 0; up = 1; down = 0x8000000000000001 } ∷
    record { from = 0x8000000000000000; up = 1; down = 0x8000000000000001 } ∷
    -- the least doubles themselves: to a zero that keeps the sign
    record { from = 1; up = 2; down = 0 } ∷
    record { from = 0x8000000000000001; up = 0x8000000000000000; down = 0x8000000000000002 } ∷
    -- 1.0 and -1.0: below 1.0 the doubles stand twice as close
    record { from = 0x3ff0000000000000; up = 0x3ff0000000000001; down = 0x3fefffffffffffff } ∷
    record { from = 0xbff0000000000000; up = 0xbfefffffffffffff; down = 0xbff0000000000001 } ∷
    -- the largest double and the lowest: to an infinity
    record { from = 0x7fefffffffffffff; up = 0x7ff0000000000000; down = 0x7feffffffffffffe } ∷
    record { from = 0xffefffffffffffff; up = 0xffeffffffffffffe; down = 0xfff0000000000000 } ∷
    -- the infinities: outward they stay
    record { from = 0x7ff0000000000000; up = 0x7ff0000000000000; down = 0x7fefffffffffffff } ∷
    record { from = 0xfff0000000000000; up = 0xffefffffffffffff; down = 0xfff0000000000000 } ∷
    []

abbrev taken : (Float → Float) → Step → ℕ
taken step s = to_bits binary64 (step (of_bits binary64 s.from))

tries : (map (taken next_up) steps ≡ map (λ s. s.up) steps) × (map (taken next_down) steps ≡ map (λ s. s.down) steps)
unfolding pattern_up next_up next_down neg is_nan to_bits of_bits
tries = (refl, refl)

a_nan_stays : (next_up nan ≡ nan) × (next_down nan ≡ nan)
unfolding next_up next_down neg is_nan
a_nan_stays = (refl, refl)
