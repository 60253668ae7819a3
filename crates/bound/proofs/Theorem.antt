-- A bound that is given is at most minus the sum of (c - background) squared over background, for the counts c above the background.
use mathlib.Core.Path.{◌≡◌, refl, sym, ap, ◌∙◌, subst}
use Prim.Native.Nat.{ℕ, ◌+◌, ◌-◌, ◌*◌, ◌≤◌, ◌<◌}
use native.Mathlib.Nat.{suc-ne-zero, sub-eq-zero_of_le, le_trans, le_of_eq, le_of_lt, zero-mul, add-zero, zero-add, add_assoc, mul-one, mul_comm, mul_assoc, mul_left_comm, mul_right_comm, mul-le-mul_right, le_of_mul-le-mul_right, mul-pos}
use native.Mathlib.Omega.{arith}
use mathlib.Core.Bool.{Bool, true, false, not, ◌&&◌, cond}
use mathlib.Core.List.{List, [], ◌∷◌}
use lib.IntN.{ℤ}
use lib.Dec.{T, ltb, ltb→lt, nltb→le}
use lib.Ieee.{Float, nan, inf, fin, binary64, up, down, sub, mul, div, lt}
use lib.Ieee.Fits.{up_pos, down_pos}
use lib.Ieee.Scale.{finite}
use lib.Ieee.Positive.{num, den}
use Rattle.bound.specs.declared.BoundReply.{BoundReply}
use Rattle.doubles.specs.NextDouble.{next_up, next_down}
use Rattle.bound.specs.Bound.{upper, term, after, zero64, no_bound, bound_from, lower_bound, counts_ok}
use Rattle.bound.specs.Bounded.{share, shares, AtMostMinus}
use Rattle.doubles.proofs.Outward.{Above}
use Rattle.bound.proofs.Operations.{Under, above_less, count_up, less_up, square_up, over_up, under_minus, minus_down}

-- ---- what a count adds to the sum; the truncated difference is 0 for a count that is not above the background
square_none : (a b : ℕ) → a ≤ b → (a - b) * (a - b) ≡ 0
square_none a b h = ap (λ (z : ℕ). z * z) (sub-eq-zero_of_le h) ∙ zero-mul 0

share_is : (n d c : ℕ) → share n d c ≡ (c * d - n) * (c * d - n)
unfolding share
share_is n d c = go (ltb n (c * d)) (nltb→le n (c * d))
  where
    go : (b : Bool) → (T (not b) → c * d ≤ n) → cond b ((c * d - n) * (c * d - n)) 0 ≡ (c * d - n) * (c * d - n)
    go true h = refl
    go false h = sym (square_none (c * d) n (h tt))

share_none : (n d c : ℕ) → c * d ≤ n → share n d c ≡ 0
share_none n d c h = share_is n d c ∙ square_none (c * d) n h

reduced : (s n d : ℕ) → s * (d * d * n) ≡ s * d * (n * d)
reduced s n d = simp (mul_assoc, mul_comm, mul_left_comm)

-- ---- the background fin false k g, which is n / d
module _ (k : ℕ) (g : ℤ) (K : 0 < k) where
  -- the term of a count
  term_up : (c : ℕ) → T (lt (fin false k g) (upper c)) → Above (term (fin false k g) (upper c)) (share (k * up g) (down g) c) (k * up g * down g)
  unfolding term upper
  term_up c l =
      let n = k * up g in
      let d = down g in
      let D : 0 < d = down_pos g in
      let N : 0 < n = mul-pos K (up_pos g) in
      let e = c * d - n in
      let delta = next_up (sub binary64 (upper c) (fin false k g)) in
      let square = next_up (mul binary64 delta delta) in
      subst (λ (z : ℕ). Above (term (fin false k g) (upper c)) z (n * d)) (sym (share_is n d c))
      (above_less (next_up (div binary64 square (fin false k g))) (e * e) (n * d) (e * e * d) (d * d * n) (mul-pos N D) (mul-pos (mul-pos D D) N) (le_of_eq (reduced (e * e) n d))
      (over_up square (e * e) (d * d) k g (mul-pos D D) K
      (square_up delta e d D
      (less_up (upper c) c k g (count_up c) l))))

  -- a count whose upper is not above the background adds nothing
  not_above : (c : ℕ) (x : Float) → Above x c 1 → T (not (lt (fin false k g) x)) → share (k * up g) (down g) c ≡ 0
  unfolding lt
  not_above c nan p l = absurd p
  not_above c (inf true) p l = absurd p
  not_above c (inf false) p l = absurd l
  not_above c (fin true m e) p l = absurd p
  not_above c (fin false m e) p l =
      let n = k * up g in
      let d = down g in
      let h : m * up e * d ≤ n * down e = nltb→le (n * down e) (m * up e * d) l in
      let q : c * down e * d ≤ m * up e * d = mul-le-mul_right d (le_of_lt (subst (λ (z : ℕ). c * down e < z) (mul-one (m * up e)) p)) in
      share_none n d c (le_of_mul-le-mul_right (le_trans (le_of_eq (mul_right_comm c d (down e))) (le_trans q h)) (down_pos e))

  after_below : (bound : Float) (A c : ℕ) → Under bound A (k * up g * down g) → T (finite (after (fin false k g) bound c))
      → Under (after (fin false k g) bound c) (A + share (k * up g) (down g) c) (k * up g * down g)
  unfolding after upper
  after_below bound A c h f = go (lt (fin false k g) (upper c)) (term_up c) (not_above c (upper c) (count_up c)) f
    where
      C : ℕ
      C = k * up g * down g

      next : Float
      next = next_down (sub binary64 bound (term (fin false k g) (upper c)))

      go : (b : Bool) → (T b → Above (term (fin false k g) (upper c)) (share (k * up g) (down g) c) C) → (T (not b) → share (k * up g) (down g) c ≡ 0)
          → T (finite (cond b next bound)) → Under (cond b next bound) (A + share (k * up g) (down g) c) C
      go true y n f = minus_down bound (term (fin false k g) (upper c)) A (share (k * up g) (down g) c) C (mul-pos (mul-pos K (up_pos g)) (down_pos g)) h (y tt) f
      go false y n f = subst (λ (z : ℕ). Under bound z C) (sym (ap (λ (z : ℕ). A + z) (n tt) ∙ add-zero A)) h

  -- the counts from a running bound on
  from_below : (counts : List ℕ) (bound : Float) (A : ℕ) → Under bound A (k * up g * down g) → (bound_from (fin false k g) bound counts).given ≡ 1
      → Under (bound_from (fin false k g) bound counts).bound (A + shares (k * up g) (down g) counts) (k * up g * down g)
  unfolding bound_from shares
  from_below [] bound A h q = subst (λ (z : ℕ). Under bound z (k * up g * down g)) (sym (add-zero A)) h
  from_below (c ∷ counts) bound A h q =
      go (finite (after (fin false k g) bound c)) (after_below bound A c h) (from_below counts (after (fin false k g) bound c) (A + share (k * up g) (down g) c)) q
    where
      C : ℕ
      C = k * up g * down g

      B : ℕ
      B = share (k * up g) (down g) c

      rest : BoundReply
      rest = bound_from (fin false k g) (after (fin false k g) bound c) counts

      go : (b : Bool) → (T b → Under (after (fin false k g) bound c) (A + B) C)
          → (Under (after (fin false k g) bound c) (A + B) C → rest.given ≡ 1 → Under rest.bound (A + B + shares (k * up g) (down g) counts) C)
          → (cond b rest (no_bound 0)).given ≡ 1 → Under (cond b rest (no_bound 0)).bound (A + (B + shares (k * up g) (down g) counts)) C
      go true y r q = subst (λ (z : ℕ). Under rest.bound z C) (add_assoc A B (shares (k * up g) (down g) counts)) (r (y tt) q)
      go false y r q = absurd (suc-ne-zero 0 (sym q))

-- THE THEOREM
pub bound_below : (counts : List ℕ) (background : Float) → (lower_bound counts background).given ≡ 1
    → AtMostMinus (lower_bound counts background).bound (shares (num background) (den background) counts) (num background * den background)
unfolding lower_bound
bound_below counts nan q = absurd (suc-ne-zero 0 (sym q))
bound_below counts (inf s) q = absurd (suc-ne-zero 0 (sym q))
bound_below counts (fin true m e) q = absurd (suc-ne-zero 0 (sym q))
bound_below counts (fin false m e) q = go (ltb 0 m) (counts_ok counts) (ltb→lt 0 m) q
  where
    nothing : (C : ℕ) → 0 * 1 + 0 * 1 * C ≤ 0
    nothing C = omega (arith, zero-mul C)

    go : (a b : Bool) → (T a → 0 < m) → (cond (a && b) (bound_from (fin false m e) zero64 counts) (no_bound 43)).given ≡ 1
        → AtMostMinus (cond (a && b) (bound_from (fin false m e) zero64 counts) (no_bound 43)).bound (shares (m * up e) (down e) counts) (m * up e * down e)
    go true true M q =
        under_minus (bound_from (fin false m e) zero64 counts).bound (shares (m * up e) (down e) counts) (m * up e * down e) (mul-pos (mul-pos (M tt) (up_pos e)) (down_pos e))
        (subst (λ (z : ℕ). Under (bound_from (fin false m e) zero64 counts).bound z (m * up e * down e)) (zero-add (shares (m * up e) (down e) counts))
        (from_below m e (M tt) counts zero64 0 (nothing (m * up e * down e)) q))
    go true false M q = absurd (suc-ne-zero 0 (sym q))
    go false b M q = absurd (suc-ne-zero 0 (sym q))
