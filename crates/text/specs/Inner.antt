-- A text put into a room from a place on; nothing here is part of a public promise.
use Rattle.std.specs.Prelude.{ℕ, ◌+◌, ◌-◌, ◌%◌, min, ◌≡◌, List, length, drop}
use Rattle.std.proofs.lemmas.List.Edits.{sets}
use Rattle.search.specs.Sheet.{decimal}

-- the text stands from `at` on, as far as there is room, and `next` is the place behind what was written
pub record Put (text xs : List ℕ) (at : ℕ) (ys : List ℕ) (next : ℕ) : Type 0 where
  pub bytes : ys ≡ sets xs at text
  pub after : next ≡ at + min (length text) (length xs - at)

abbrev pub last_digit : ℕ → ℕ
last_digit x = 48 + x % 10

-- a number's digits stand at the end of twenty bytes
pub record Digits (x : ℕ) (ds : List ℕ) (from : ℕ) : Type 0 where
  pub said : drop from ds ≡ decimal x
  pub long : length ds ≡ 20
