-- What the code's tests on doubles come to, over plain variables.
use mathlib.Core.Path.{◌≡◌, refl, sym, ap, ◌∙◌, subst}
use Prim.Native.Nat.{ℕ, ◌+◌, ◌-◌, ◌*◌, ◌%◌, ◌≤◌, ◌<◌}
use native.Mathlib.Omega.{arith}
use mathlib.Core.Bool.{Bool, true, false, not, cond, true≢false}
use lib.Dec.{T, ltb, eqb, ltb→lt, nltb→le, T_not, eqb_refl}
use lib.Ieee as Ieee
use lib.Ieee.{Float, nan, inf, fin, binary64, up, down, is_nan, fits, to_bits, of_bits, nan_bits}
use lib.Ieee.Bits.{is_true, is_false, of_bits-to_bits, to_bits-lt, nan_bits_is, nan_bits_above}
use lib.Ieee.Scale.{finite}
use borrow.Author.Tests.{ltb-false, lt-ltb, le-ltb, eq-eqb, ne_eqb}
use Rattle.doubles.specs.NextDouble.{infinity, minus_zero, pattern_up, next_up}

-- ---- the pattern's ways past the finite doubles above 0
pub at_infinity : (b : ℕ) → infinity ≤ b → b ≡ infinity → b ≡ pattern_up b
unfolding pattern_up
at_infinity b h k = rw (le-ltb b infinity h, eq-eqb b infinity k)

pub at_zero : (b : ℕ) → infinity ≤ b → (b ≡ infinity → ⊥) → b ≡ minus_zero → 1 ≡ pattern_up b
unfolding pattern_up
at_zero b h k l = rw (le-ltb b infinity h, ne_eqb b infinity k, eq-eqb b minus_zero l)

pub at_minus : (b : ℕ) → infinity ≤ b → (b ≡ infinity → ⊥) → (b ≡ minus_zero → ⊥) → b - 1 ≡ pattern_up b
unfolding pattern_up
at_minus b h k l = rw (le-ltb b infinity h, ne_eqb b infinity k, ne_eqb b minus_zero l)

-- ---- `x == x` is that x is no NaN
self_eq : (x : Float) → Ieee.eq x x ≡ not (is_nan x)
unfolding Ieee.eq is_nan
self_eq nan = refl
self_eq (inf true) = refl
self_eq (inf false) = refl
self_eq (fin true m e) = rw (is_true (eqb (m * up e * down e) (m * up e * down e)) (eqb_refl (m * up e * down e)))
self_eq (fin false m e) = rw (is_true (eqb (m * up e * down e) (m * up e * down e)) (eqb_refl (m * up e * down e)))

pub number : (x : Float) → Ieee.eq x x ≡ true → T (not (is_nan x))
number x h = subst T (sym h ∙ self_eq x) tt

pub next_number : (x : Float) → Ieee.eq x x ≡ true → of_bits binary64 (pattern_up (to_bits binary64 x)) ≡ next_up x
unfolding next_up
next_number x h = rw (is_false (is_nan x) (number x h))

pub next_nan : (x : Float) → Ieee.eq x x ≡ false → x ≡ next_up x
unfolding next_up is_nan
next_nan x h = go x (sym (self_eq x) ∙ h)
  where
    go : (x : Float) → not (is_nan x) ≡ false → x ≡ next_up x
    go nan h = refl
    go (inf s) h = absurd (true≢false h)
    go (fin s m e) h = absurd (true≢false h)

-- ---- a step up from a pattern that is no NaN's reaches none; the sign's weight is the pattern of -0.0
below_nan : (b : ℕ) → b < 2 * minus_zero → b % minus_zero ≤ infinity → pattern_up b % minus_zero ≤ infinity
unfolding pattern_up
below_nan b w h = go (ltb b infinity) (eqb b infinity) (eqb b minus_zero) (ltb→lt b infinity) (nltb→le b infinity) (λ t. ne→ b infinity t) (λ t. ne→ b minus_zero t)
  where
    ne→ : (a c : ℕ) → T (not (eqb a c)) → a ≡ c → ⊥
    ne→ a c t e = T_not (eqb a c) t (subst (λ (z : ℕ). T (eqb a z)) e (eqb_refl a))

    go : (x y z : Bool) → (T x → b < infinity) → (T (not x) → infinity ≤ b) → (T (not y) → b ≡ infinity → ⊥) → (T (not z) → b ≡ minus_zero → ⊥)
        → cond x (b + 1) (cond y b (cond z 1 (b - 1))) % minus_zero ≤ infinity
    go true y z p q r s = let k = p tt in omega arith
    go false true z p q r s = h
    go false false true p q r s = omega arith
    go false false false p q r s = let k = q tt in let l = r tt in let m = s tt in omega arith

pub pattern_number : (x : Float) → T (fits binary64 x) → T (not (is_nan x)) → T (not (nan_bits binary64 (pattern_up (to_bits binary64 x))))
pattern_number x f h =
    let b = to_bits binary64 x in
    let no : nan_bits binary64 b ≡ false = nan_bits_is binary64 b ∙ ap is_nan (of_bits-to_bits binary64 x f) ∙ is_false (is_nan x) h in
    let most : b % minus_zero ≤ infinity = ltb-false infinity (b % minus_zero) (sym (nan_bits_above binary64 b) ∙ no) in
    subst (λ (t : Bool). T (not t)) (sym (nan_bits_above binary64 (pattern_up b) ∙ le-ltb infinity (pattern_up b % minus_zero) (below_nan b (to_bits-lt binary64 x f) most))) tt

-- ---- finite: strictly between the infinities
pub below_top : (x : Float) → Ieee.lt (inf true) x ≡ true → Ieee.lt x (inf false) ≡ finite x
unfolding Ieee.lt
below_top nan h = refl
below_top (inf true) h = sym h
below_top (inf false) h = refl
below_top (fin s m e) h = refl

pub at_bottom : (x : Float) → Ieee.lt (inf true) x ≡ false → false ≡ finite x
unfolding Ieee.lt
at_bottom nan h = refl
at_bottom (inf true) h = refl
at_bottom (inf false) h = refl
at_bottom (fin s m e) h = sym h

-- ---- bits that are a NaN's
only_nan : (x : Float) → is_nan x ≡ true → nan ≡ x
unfolding is_nan
only_nan nan e = refl
only_nan (inf s) e = absurd (true≢false (sym e))
only_nan (fin s m d) e = absurd (true≢false (sym e))

pub nan_of : (b : ℕ) → infinity < b % minus_zero → nan ≡ of_bits binary64 b
nan_of b h = only_nan (of_bits binary64 b) (sym (nan_bits_is binary64 b) ∙ nan_bits_above binary64 b ∙ lt-ltb _ _ h)
