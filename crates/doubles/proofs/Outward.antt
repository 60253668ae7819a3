-- A fraction that is rounded to the nearest double lies below the next double up.
use mathlib.Core.Path.{◌≡◌, refl, sym, ap, ◌∙◌, subst}
use mathlib.Core.Logic.{◌⊎◌, inl, inr}
use Prim.Native.Nat.{ℕ, zero, suc, ◌+◌, ◌-◌, ◌*◌, ◌^◌, ◌%◌, ◌≤◌, ◌<◌}
use native.Mathlib.Nat.{add-zero, add-sub_of_le, le_of_eq, le_of_lt, le_of_suc-le-suc, lt_irrefl, lt_of_lt_of_le, lt_of_not-le, zero-mul, one-mul, mul-one, mul_comm, mul_assoc, mul_right_comm, mul-lt-mul_of_pos_right, lt_of_mul-lt-mul_right}
use native.Mathlib.Omega.{arith}
use mathlib.Core.Bool.{Bool, true, false, not, ◌&&◌, cond}
use lib.IntN.{ℤ, pos, negsuc}
use lib.Dec.{T, leb, ltb, eqb, ltb→lt, leb→le, nltb→le, T_not, not_T}
use lib.Pow.{pow-add, pow_pos, pow-lt}
use lib.Ieee.{Float, nan, inf, fin, Format, binary64, prec, emax, low, up, down, hid, ones, odd, units, round, fits, lt, to_bits, of_bits, is_nan}
use lib.Ieee.Digits.{back}
use lib.Ieee.Fits.{and_l, and_r, down_pos, round-fits, round_is}
use lib.Ieee.Exact.{HasValue, odd_sign, round_exact}
use lib.Ieee.Order.{drop, kept, round_mono, le_of_values}
use lib.Ieee.Positive.{positive}
use lib.Ieee.Bits.{is_true, is_false, of_bits-to_bits, of_bits-fits}
use lib.Ieee as Ieee
use borrow.Author.Tests.{lt-ltb}
use Rattle.doubles.proofs.Order.{lt_or_ge, lt→le, le_trans_float, lt→not_le, not_le→lt}
use Rattle.doubles.proofs.Sub.{fin_refl}
use Rattle.doubles.specs.NextDouble.{infinity, pattern_up, next_up}
use Rattle.doubles.proofs.Patterns.{one_up, Plus, value_plus, pattern-up, pattern_plus, pattern_finite}

-- ---- a double is rounded to itself
pow_le_back : (a l : ℕ) → 2 ^ a ≤ 2 ^ l → a ≤ l
pow_le_back a l h = le_of_suc-le-suc (lt_of_not-le (λ (g : suc l ≤ a). lt_irrefl (2 ^ l) (lt_of_lt_of_le (pow-lt g) h)))

-- 2 ^ e is 2 ^ j units of 2 ^ -l
place : (l : ℕ) (e : ℤ) → down e ≤ 2 ^ l → (j : ℕ) × (2 ^ j * down e ≡ up e * 2 ^ l)
place l (pos k) h = (k + l, mul-one (2 ^ (k + l)) ∙ pow-add 2 k l)
place l (negsuc k) h =
    let j = l - suc k in
    (j, sym (pow-add 2 j (suc k)) ∙ ap (λ (z : ℕ). 2 ^ z) (back l (suc k) (pow_le_back (suc k) l h)) ∙ sym (one-mul (2 ^ l)))

own_value : (f : Format) (m : ℕ) (e : ℤ) → T (fits f (fin false m e)) → HasValue (round f false (m * up e) (down e)) false (m * up e) (down e)
unfolding fits
own_value f zero e h =
    round_exact f false (0 * up e) (down e) 0 0 (down_pos e) (pow_pos (prec f)) (subst (λ (z : ℕ). z < 2 ^ (low f + suc (emax f))) (sym (zero-mul (2 ^ 0))) (pow_pos (low f + suc (emax f))))
    (ap (λ (z : ℕ). z * 2 ^ low f) (zero-mul (up e)) ∙ zero-mul (2 ^ low f) ∙ sym (zero-mul (down e)) ∙ ap (λ (z : ℕ). z * down e) (sym (zero-mul (2 ^ 0))))
own_value f (suc m) e h =
    let A = eqb (suc m % 2) 1 in
    let B = ltb (suc m) (2 ^ prec f) in
    let C = leb (down e) (2 ^ low f) in
    let D = ltb (suc m * up e) (2 ^ suc (emax f) * down e) in
    let digits : suc m < 2 ^ prec f = ltb→lt (suc m) (2 ^ prec f) (and_r A B (and_l (A && B) C (and_l (A && B && C) D h))) in
    let fine : down e ≤ 2 ^ low f = leb→le (down e) (2 ^ low f) (and_r (A && B) C (and_l (A && B && C) D h)) in
    let under : suc m * up e < 2 ^ suc (emax f) * down e = ltb→lt (suc m * up e) (2 ^ suc (emax f) * down e) (and_r (A && B && C) D h) in
    let p = place (low f) e fine in
    let j = p.0 in
    let same : suc m * up e * 2 ^ low f ≡ suc m * 2 ^ j * down e = mul_assoc (suc m) (up e) (2 ^ low f) ∙ ap (λ (z : ℕ). suc m * z) (sym p.1) ∙ sym (mul_assoc (suc m) (2 ^ j) (down e)) in
    let room : suc m * 2 ^ j * down e < 2 ^ (low f + suc (emax f)) * down e =
    subst (λ (z : ℕ). z < 2 ^ (low f + suc (emax f)) * down e) same
    (subst (λ (z : ℕ). suc m * up e * 2 ^ low f < z)
    (mul_right_comm (2 ^ suc (emax f)) (down e) (2 ^ low f) ∙ ap (λ (z : ℕ). z * down e) (mul_comm (2 ^ suc (emax f)) (2 ^ low f) ∙ sym (pow-add 2 (low f) (suc (emax f)))))
    (mul-lt-mul_of_pos_right under (pow_pos (low f)))) in
    round_exact f false (suc m * up e) (down e) (suc m) j (down_pos e) digits (lt_of_mul-lt-mul_right (down e) room) same

-- ---- above a fraction
-- x is +infinity, or above a / c
abbrev pub Above : Float → ℕ → ℕ → Type 0
Above nan a c = ⊥
Above (inf s) a c = T (not s)
Above (fin true m e) a c = ⊥
Above (fin false m e) a c = a * down e < m * up e * c

-- A double w above what a / c is rounded to is above a / c: were a / c no less than w, it would be rounded to no less than w is rounded to, and
-- that is w.
pub above_rounded : (f : Format) (a c : ℕ) → 0 < c → (w : Float) → T (fits f w) → Plus w → T (lt (round f false a c) w) → Above w a c
above_rounded f a c C nan p q h = q
above_rounded f a c C (inf s) p q h = q
above_rounded f a c C (fin true m e) p q h = q
above_rounded f a c C (fin false m e) p q h = go (ltb (a * down e) (m * up e * c)) (ltb→lt (a * down e) (m * up e * c)) (nltb→le (a * down e) (m * up e * c))
  where
    w : Float
    w = fin false m e

    over : m * up e * c ≤ a * down e → T (Ieee.le w (round f false a c))
    over k =
        le_trans_float w (round f false (m * up e) (down e)) (round f false a c)
        (le_of_values w (round f false (m * up e) (down e)) (m * up e) (down e) (m * up e) (down e) (down_pos e) (down_pos e) (refl, refl) (own_value f m e p) (le_of_eq refl))
        (round_mono f (m * up e) (down e) a c (down_pos e) C k)

    go : (b : Bool) → (T b → a * down e < m * up e * c) → (T (not b) → m * up e * c ≤ a * down e) → a * down e < m * up e * c
    go true y n = y tt
    go false y n = absurd (T_not (Ieee.le w (round f false a c)) (lt→not_le (round f false a c) w h) (over (n tt)))

-- ---- what `round` answers has the sign it is given
units_plus : (f : Format) (q k : ℕ) → Plus (units f false q k)
unfolding units
units_plus f q k = go (ltb (q * 2 ^ k) (2 ^ (low f + suc (emax f))))
  where
    go : (b : Bool) → Plus (cond b (odd (suc (prec f)) false q k (low f)) (inf false))
    go true = value_plus (odd (suc (prec f)) false q k (low f)) (q * 2 ^ k) (2 ^ low f) (odd_sign (suc (prec f)) false q k (low f))
    go false = tt

pub round_plus : (f : Format) (a c : ℕ) → Plus (round f false a c)
round_plus f a c = subst Plus (sym (round_is f false a c)) (units_plus f (kept (prec f) (a * 2 ^ low f) c) (drop (prec f) (a * 2 ^ low f) c))

-- ---- the step
pub pattern_next : (b : ℕ) → b < infinity → pattern_up b ≡ b + 1
unfolding pattern_up
pattern_next b h = rw (lt-ltb b infinity h)

next_finite : (m : ℕ) (e : ℤ) → T (fits binary64 (fin false m e)) → next_up (fin false m e) ≡ of_bits binary64 (to_bits binary64 (fin false m e) + 1)
unfolding next_up is_nan
next_finite m e h = ap (of_bits binary64) (pattern_next (to_bits binary64 (fin false m e)) (pattern_finite binary64 m e h))

pub next_infinity : next_up (inf false) ≡ inf false
unfolding next_up pattern_up is_nan to_bits of_bits
next_infinity = refl

-- THE LAW: a / c, rounded to the nearest double and moved to the next one up, is above a / c
pub up_rounded : (a c : ℕ) → 0 < c → Above (next_up (round binary64 false a c)) a c
up_rounded a c C = go (round binary64 false a c) refl (round-fits binary64 false a c) (round_plus binary64 a c)
  where
    go : (z : Float) → z ≡ round binary64 false a c → T (fits binary64 z) → Plus z → Above (next_up z) a c
    go nan q p s = absurd s
    go (inf true) q p s = absurd s
    go (inf false) q p s = subst (λ (w : Float). Above w a c) (sym next_infinity) tt
    go (fin true m e) q p s = absurd s
    go (fin false m e) q p s =
        let b = to_bits binary64 (fin false m e) in
        let B : b < infinity = pattern_finite binary64 m e p in
        let higher : T (lt (of_bits binary64 b) (of_bits binary64 (b + 1))) = pattern-up binary64 b B in
        subst (λ (w : Float). Above w a c) (sym (next_finite m e p))
        (above_rounded binary64 a c C (of_bits binary64 (b + 1)) (of_bits-fits binary64 (b + 1)) (pattern_plus binary64 (b + 1) (one_up b infinity B))
        (subst (λ (w : Float). T (lt w (of_bits binary64 (b + 1)))) (of_bits-to_bits binary64 (fin false m e) p ∙ q) higher))

-- ---- no double lies between one and the next
le_self : (x : Float) → Plus x → T (Ieee.le x x)
unfolding Ieee.le
le_self nan p = absurd p
le_self (inf true) p = absurd p
le_self (inf false) p = tt
le_self (fin true m e) p = absurd p
le_self (fin false m e) p = fin_refl (fin false m e) tt

-- up to the pattern of +infinity, a pattern that is no less is a double that is no less
pattern_le : (f : Format) (k a : ℕ) → a + k ≤ ones f * hid f → T (Ieee.le (of_bits f a) (of_bits f (a + k)))
pattern_le f zero a h = subst (λ (z : ℕ). T (Ieee.le (of_bits f a) (of_bits f z))) (sym (add-zero a)) (le_self (of_bits f a) (pattern_plus f a (omega arith)))
pattern_le f (suc k) a h =
    let l : a + k < ones f * hid f = omega arith in
    let s : a + k + 1 ≡ a + suc k = omega arith in
    le_trans_float (of_bits f a) (of_bits f (a + k)) (of_bits f (a + suc k)) (pattern_le f k a (omega arith))
    (subst (λ (z : ℕ). T (Ieee.le (of_bits f (a + k)) (of_bits f z))) s (lt→le (of_bits f (a + k)) (of_bits f (a + k + 1)) (pattern-up f (a + k) l)))

pattern_order : (f : Format) (a b : ℕ) → a ≤ b → b ≤ ones f * hid f → T (Ieee.le (of_bits f a) (of_bits f b))
pattern_order f a b h t =
    subst (λ (z : ℕ). T (Ieee.le (of_bits f a) (of_bits f z))) (add-sub_of_le h) (pattern_le f (b - a) a (omega arith))

plus_real : (w : Float) → Plus w → T (not (is_nan w))
unfolding is_nan
plus_real nan p = p
plus_real (inf s) p = tt
plus_real (fin s m e) p = tt

-- below the next pattern is at most the pattern
pattern_between : (f : Format) (x b : ℕ) → x < ones f * hid f → b ≤ ones f * hid f → lt (of_bits f b) (of_bits f (x + 1)) ≡ Ieee.le (of_bits f b) (of_bits f x)
pattern_between f x b h k = go (lt_or_ge x b)
  where
    step : T (lt (of_bits f x) (of_bits f (x + 1)))
    step = pattern-up f x h

    real : (c : ℕ) → c ≤ ones f * hid f → T (not (is_nan (of_bits f c)))
    real c l = plus_real (of_bits f c) (pattern_plus f c l)

    go : (x < b) ⊎ (b ≤ x) → lt (of_bits f b) (of_bits f (x + 1)) ≡ Ieee.le (of_bits f b) (of_bits f x)
    go (inl l) =
        let over : T (Ieee.le (of_bits f (x + 1)) (of_bits f b)) = pattern_order f (x + 1) b (one_up x b l) k in
        is_false (lt (of_bits f b) (of_bits f (x + 1))) (not_T (lt (of_bits f b) (of_bits f (x + 1))) (λ q. T_not (Ieee.le (of_bits f (x + 1)) (of_bits f b)) (lt→not_le (of_bits f b) (of_bits f (x + 1)) q) over))
        ∙ sym (is_false (Ieee.le (of_bits f b) (of_bits f x)) (not_T (Ieee.le (of_bits f b) (of_bits f x)) (λ q. T_not (Ieee.le (of_bits f (x + 1)) (of_bits f x)) (lt→not_le (of_bits f x) (of_bits f (x + 1)) step) (le_trans_float (of_bits f (x + 1)) (of_bits f b) (of_bits f x) over q))))
    go (inr l) =
        let under : T (Ieee.le (of_bits f b) (of_bits f x)) = pattern_order f b x l (omega arith) in
        is_true (lt (of_bits f b) (of_bits f (x + 1)))
        (not_le→lt (of_bits f b) (of_bits f (x + 1)) (real b k) (real (x + 1) (one_up x (ones f * hid f) h))
        (not_T (Ieee.le (of_bits f (x + 1)) (of_bits f b)) (λ q. T_not (Ieee.le (of_bits f (x + 1)) (of_bits f x)) (lt→not_le (of_bits f x) (of_bits f (x + 1)) step) (le_trans_float (of_bits f (x + 1)) (of_bits f b) (of_bits f x) q under))))
        ∙ sym (is_true (Ieee.le (of_bits f b) (of_bits f x)) under)

finite_above : (m n : ℕ) (e d : ℤ) → T (fits binary64 (fin false m e)) → T (fits binary64 (fin false n d)) → lt (fin false n d) (next_up (fin false m e)) ≡ Ieee.le (fin false n d) (fin false m e)
finite_above m n e d p q =
    rw (next_finite m e p, ← of_bits-to_bits binary64 (fin false n d) q)
    (pattern_between binary64 (to_bits binary64 (fin false m e)) (to_bits binary64 (fin false n d)) (pattern_finite binary64 m e p) (le_of_lt (pattern_finite binary64 n d q))
    ∙ ap (Ieee.le (of_bits binary64 (to_bits binary64 (fin false n d)))) (of_bits-to_bits binary64 (fin false m e) p))

-- THE LAW: a double b that is finite and above 0 is below the next one up from x, no NaN and not below 0, exactly where it is at most x
pub next_above : (x b : Float) → T (fits binary64 x) → Plus x → T (fits binary64 b) → T (positive b) → lt b (next_up x) ≡ Ieee.le b x
unfolding lt Ieee.le
next_above x nan p s q t = absurd t
next_above x (inf u) p s q t = absurd t
next_above x (fin true n d) p s q t = absurd t
next_above nan (fin false n d) p s q t = absurd s
next_above (inf true) (fin false n d) p s q t = absurd s
next_above (inf false) (fin false n d) p s q t = rw next_infinity
next_above (fin true m e) (fin false n d) p s q t = absurd s
next_above (fin false m e) (fin false n d) p s q t = finite_above m n e d p q
