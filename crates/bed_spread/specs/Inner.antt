-- What the step of one segment promises; nothing here is part of a public promise.
use Rattle.std.specs.Prelude.{ℕ, min, max, ◌≡◌, Bool, true, List, get_or, set}
use Rattle.evaluate.specs.declared.Segment.{Segment}
use Rattle.overlap.specs.Chains.{bucket, outside}

-- a segment lies outside the span of its lane, and the span has been widened by it
pub record Widened (lows tops : List ℕ) (s : Segment) (lows' tops' : List ℕ) (r : Bool) : Type 0 where
  pub off : r ≡ true → outside s (get_or lows (bucket s) 0) (get_or tops (bucket s) 0) ≡ true
  pub down : r ≡ true → lows' ≡ set lows (bucket s) (min (get_or lows (bucket s) 0) s.start)
  pub up : r ≡ true → tops' ≡ set tops (bucket s) (max (get_or tops (bucket s) 0) s.end)
