-- What the code's tests and loops come to, over plain variables.
use mathlib.Core.Path.{◌≡◌, refl, sym, ap, ◌∙◌}
use Prim.Native.Nat.{ℕ, zero, suc, ◌+◌, ◌*◌, ◌^◌, ◌≤◌, ◌<◌}
use native.Mathlib.Nat.{zero-mul, mul-pos, zero-lt-suc}
use native.Mathlib.Numerals.{add-one}
use native.Mathlib.Omega.{arith}
use mathlib.Core.Bool.{Bool, true, false, ◌&&◌, false≢true}
use mathlib.Core.List.{List, [], ◌∷◌}
use Rattle.std.specs.List.{list_all}
use lib.IntN.{pos}
use lib.Dec.{T, ltb, le→leb}
use lib.ListN.{length, drop, get_or, drop_of_length-le}
use lib.Seq.{drop-cons}
use lib.Ieee as Ieee
use lib.Ieee.{Float, nan, inf, fin, binary64, up, down, round, fits, of_int, in_float}
use lib.Ieee.Fits.{up_pos, round-fits}
use lib.Ieee.Scale.{finite}
use lib.Ieee.Positive.{positive, first_pos}
use borrow.Author.Tests.{ltb-true, ltb-false, lt-ltb}
use Rattle.doubles.specs.NextDouble.{next_up, next_down}
use Rattle.doubles.proofs.Outward.{round_plus, next_above}
use Rattle.bound.specs.Bound.{upper, term, after, some, no_bound, zero64, counts_ok, bound_from}

-- ---- the background's test
pub above_zero : (x : Float) → Ieee.lt zero64 x ≡ true → finite x ≡ positive x
unfolding Ieee.lt
above_zero nan h = refl
above_zero (inf s) h = refl
above_zero (fin true m e) h = absurd (false≢true h)
above_zero (fin false m e) h = sym (lt-ltb 0 m (first_pos m (up e) (positive_of (m * up e) (down e) (ltb-true (0 * 1 * down e) (m * up e * 1) h))))
  where
    positive_of : (a d : ℕ) → 0 * 1 * d < a * 1 → 0 < a
    positive_of a d h = omega (arith, zero-mul d)

pub not_above_zero : (x : Float) → Ieee.lt zero64 x ≡ false → false ≡ positive x
unfolding Ieee.lt
not_above_zero nan h = refl
not_above_zero (inf s) h = refl
not_above_zero (fin true m e) h = refl
not_above_zero (fin false zero e) h = refl
not_above_zero (fin false (suc m) e) h = absurd (none (suc m * up e) (down e) (mul-pos (zero-lt-suc m) (up_pos e)) (ltb-false (0 * 1 * down e) (suc m * up e * 1) h))
  where
    none : (a d : ℕ) → 0 < a → a * 1 ≤ 0 * 1 * d → ⊥
    none a d p h = omega (arith, zero-mul d)

-- ---- a count, by the test on itself in the place of its upper
upper_above : (background : Float) (c : ℕ) → T (fits binary64 background) → positive background ≡ true → Ieee.lt background (upper c) ≡ Ieee.le background (of_int binary64 (pos c))
unfolding upper of_int
upper_above background c f p = next_above (round binary64 false c 1) background (round-fits binary64 false c 1) (round_plus binary64 c 1) f (rw p tt)

pub after_over : (background bound : Float) (c : ℕ) (u t r : Float) → T (fits binary64 background) → positive background ≡ true → Ieee.le background (of_int binary64 (pos c)) ≡ true
    → u ≡ next_up (of_int binary64 (pos c)) → t ≡ term background u → r ≡ next_down (Ieee.sub binary64 bound t) → r ≡ after background bound c
unfolding after upper
after_over background bound c u t r f k h p q e = e ∙ rw (upper_above background c f k, h, q, p)

pub after_under : (background bound : Float) (c : ℕ) → T (fits binary64 background) → positive background ≡ true → Ieee.le background (of_int binary64 (pos c)) ≡ false → bound ≡ after background bound c
unfolding after
after_under background bound c f k h = rw (upper_above background c f k, h)

-- ---- the counts, one after the other
pub all_counts : (l : List ℕ) → list_all (λ n. ltb n (2 ^ 53)) l ≡ counts_ok l
unfolding counts_ok
all_counts [] = refl
all_counts (n ∷ l) = ap (λ b. ltb n (2 ^ 53) && b) (all_counts l)

module _ (l : List ℕ) (i : ℕ) (h : i < length l) where
  counts_step : counts_ok (drop i l) ≡ (ltb (get_or l i 0) (2 ^ 53) && counts_ok (drop (i + 1) l))
  unfolding counts_ok
  counts_step = rw (add-one, drop-cons l i 0)

  pub counts_on : get_or l i 0 < 2 ^ 53 → counts_ok (drop i l) ≡ counts_ok (drop (i + 1) l)
  counts_on k = counts_step ∙ rw (lt-ltb (get_or l i 0) (2 ^ 53) k)

  pub from_on : (background bound next : Float) (f : Bool) → next ≡ after background bound (get_or l i 0) → f ≡ finite next → f ≡ true
      → bound_from background bound (drop i l) ≡ bound_from background next (drop (i + 1) l)
  unfolding bound_from
  from_on background bound next f p q k = rw (add-one, drop-cons l i 0, ← p, ← q, k)

  pub from_stop : (background bound next : Float) (f : Bool) → next ≡ after background bound (get_or l i 0) → f ≡ finite next → f ≡ false → no_bound 0 ≡ bound_from background bound (drop i l)
  unfolding bound_from
  from_stop background bound next f p q k = rw (drop-cons l i 0, ← p, ← q, k)

pub from_end : (background bound : Float) (l : List ℕ) (i : ℕ) → length l ≤ i → some bound ≡ bound_from background bound (drop i l)
unfolding bound_from
from_end background bound l i h = rw (drop_of_length-le l h)

-- a count in range, from the test of those from i on
pub in-range : (l : List ℕ) (i : ℕ) → i < length l → counts_ok (drop i l) ≡ true → get_or l i 0 < 2 ^ 53
in-range l i h k = go (ltb (get_or l i 0) (2 ^ 53)) (counts_ok (drop (i + 1) l)) (ltb-true (get_or l i 0) (2 ^ 53)) (sym (counts_step l i h) ∙ k)
  where
    go : (a b : Bool) → (a ≡ true → get_or l i 0 < 2 ^ 53) → (a && b) ≡ true → get_or l i 0 < 2 ^ 53
    go true b f q = f refl
    go false b f q = absurd (false≢true q)

pub casts : (n : ℕ) → n < 2 ^ 53 → T (in_float binary64 (pos n))
unfolding in_float
casts n h = le→leb n (2 ^ 53) (omega arith)
