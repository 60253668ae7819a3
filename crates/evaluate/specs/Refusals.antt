-- Refusals with their places, and their order (01, "Refusal numbers"). Number 0: nothing is refused.
use Rattle.std.specs.Prelude.{ℕ, zero, suc, Bool, true, false}
use Rattle.evaluate.specs.declared.Refusal.{Refusal}

abbrev pub no_refusal : Refusal
no_refusal = record { number = 0; place = 0 }

-- this number, unless the test holds; then what comes later
abbrev pub unless : Bool → ℕ → ℕ → ℕ
unless true n later = later
unless false n later = n

-- the first number that is not 0
abbrev pub or_else : ℕ → ℕ → ℕ
or_else zero later = later
or_else (suc n) later = suc n

-- a number that is not 0, at this place; or what comes later
abbrev pub at : ℕ → ℕ → Refusal → Refusal
at zero place later = later
at (suc n) place later = record { number = suc n; place = place }
