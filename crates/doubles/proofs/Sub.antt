-- Subtraction grows with its first operand and falls with its second, rounding and overflow included.
use mathlib.Core.Path.{◌≡◌, refl, subst}
use Prim.Native.Nat.{ℕ, zero, suc, ◌+◌, ◌-◌, ◌*◌, ◌^◌, ◌≤◌, ◌<◌}
use native.Mathlib.Nat.{mul_comm, mul_assoc, mul_left_comm, add-mul, zero-mul, mul-le-mul_right, le_of_mul-le-mul_right, mul-pos}
use native.Mathlib.Omega.{arith}
use mathlib.Core.Bool.{Bool, true, false, not, cond}
use lib.IntN.{ℤ}
use lib.Dec.{T, ltb, ltb→lt, nltb→le, not_T, T_not, lit<}
use lib.Ieee as Ieee
use lib.Ieee.{Float, nan, inf, fin, Format, binary32, binary64, prec, emax, low, up, down, odd, units, round, sum, sub, neg, is_nan}
use lib.Ieee.Order.{round_mono}
use lib.Ieee.Scale.{finite}
use lib.Ieee.Positive.{den, den_pos}
use Rattle.doubles.proofs.Order.{plus, less, pp, nn, Le, le→LE, LE→le, le_trans_float, neg_anti}

-- ---- `round` at the other sign
odd_neg : (d q k l : ℕ) → odd d true q k l ≡ neg (odd d false q k l)
unfolding odd neg
odd_neg d zero k l = refl
odd_neg d (suc q) k l = refl

units_neg : (f : Format) (q k : ℕ) → units f true q k ≡ neg (units f false q k)
unfolding units
units_neg f q k = go (ltb (q * 2 ^ k) (2 ^ (low f + suc (emax f))))
  where
    go : (b : Bool) → cond b (odd (suc (prec f)) true q k (low f)) (inf true) ≡ neg (cond b (odd (suc (prec f)) false q k (low f)) (inf false))
    go true = odd_neg (suc (prec f)) q k (low f)
    go false = unfold neg in refl

pub round_neg : (f : Format) (a c : ℕ) → round f true a c ≡ neg (round f false a c)
unfolding round
round_neg f a c = units_neg f _ _

-- ---- z is (A - B) / c, rounded
pub data Rounded (f : Format) (z : Float) (A B c : ℕ) : Type 0 where
  above : (g : ℕ) → z ≡ round f false g c → A ≡ B + g → Rounded f z A B c
  under : (g : ℕ) → z ≡ round f true g c → B ≡ A + g → Rounded f z A B c

-- ---- zero
zero_both : (f : Format) → T (Ieee.le (round f false 0 1) (neg (round f false 0 1)))
unfolding Ieee.le neg round
zero_both binary32 = tt
zero_both binary64 = tt

zero_both' : (f : Format) → T (Ieee.le (neg (round f false 0 1)) (round f false 0 1))
unfolding Ieee.le neg round
zero_both' binary32 = tt
zero_both' binary64 = tt

-- ---- four cases of signs
module _ (f : Format) (c c' : ℕ) (C : 0 < c) (C' : 0 < c') where
  both_above : (g g' : ℕ) → g * c' ≤ g' * c → T (Ieee.le (round f false g c) (round f false g' c'))
  both_above g g' h = round_mono f g c g' c' C C' h

  both_under : (g g' : ℕ) → g' * c ≤ g * c' → T (Ieee.le (round f true g c) (round f true g' c'))
  both_under g g' h = rw (round_neg f g c, round_neg f g' c') (neg_anti (round f false g' c') (round f false g c) (round_mono f g' c' g c C' C h))

  under_above : (g g' : ℕ) → T (Ieee.le (round f true g c) (round f false g' c'))
  under_above g g' =
      let z = round f false 0 1 in
      let a : T (Ieee.le (neg (round f false g c)) (neg z)) = neg_anti z (round f false g c) (round_mono f 0 1 g c (lit< tt) C (omega (arith, zero-mul c))) in
      let b : T (Ieee.le z (round f false g' c')) = round_mono f 0 1 g' c' (lit< tt) C' (omega (arith, zero-mul c')) in
      rw round_neg (le_trans_float (neg (round f false g c)) (neg z) (round f false g' c') a (le_trans_float (neg z) z (round f false g' c') (zero_both' f) b))

  above_under : (g g' : ℕ) → g * c' + g' * c ≤ 0 → T (Ieee.le (round f false g c) (round f true g' c'))
  above_under g g' h =
      let z = round f false 0 1 in
      let p : g ≤ 0 = le_of_mul-le-mul_right {k = c'} (omega (arith, zero-mul c')) C' in
      let q : g' ≤ 0 = le_of_mul-le-mul_right {k = c} (omega (arith, zero-mul c)) C in
      let a : T (Ieee.le (round f false g c) z) = round_mono f g c 0 1 C (lit< tt) (omega (arith, zero-mul c)) in
      let b : T (Ieee.le (neg z) (neg (round f false g' c'))) = neg_anti (round f false g' c') z (round_mono f g' c' 0 1 C' (lit< tt) (omega (arith, zero-mul c'))) in
      rw (round_neg f g' c') (le_trans_float (round f false g c) z (neg (round f false g' c')) a (le_trans_float z (neg z) (neg (round f false g' c')) (zero_both f) b))

  pub rounded_mono : (z z' : Float) (A B A' B' : ℕ) → Rounded f z A B c → Rounded f z' A' B' c' → A * c' + B' * c ≤ A' * c + B * c' → T (Ieee.le z z')
  rounded_mono z z' A B A' B' (above g e p) (above g' e' p') h =
      rw (e, e') (both_above g g' (let k = simp (p, p', add-mul) at h in omega arith))
  rounded_mono z z' A B A' B' (under g e p) (under g' e' p') h =
      rw (e, e') (both_under g g' (let k = simp (p, p', add-mul) at h in omega arith))
  rounded_mono z z' A B A' B' (under g e p) (above g' e' p') h = rw (e, e') (under_above g g')
  rounded_mono z z' A B A' B' (above g e p) (under g' e' p') h =
      rw (e, e') (above_under g g' (let k = simp (p, p', add-mul) at h in omega arith))

-- ---- a sum
sum_rounded : (f : Format) (s : Bool) (a : ℕ) (t : Bool) (b c : ℕ) → Rounded f (sum f s a t b c) (plus s a + plus t b) (less s a + less t b) c
unfolding sum
sum_rounded f false a false b c = above (a + b) refl (omega arith)
sum_rounded f true a true b c = under (a + b) refl (omega arith)
sum_rounded f false a true b c = go (ltb a b) (ltb→lt a b) (nltb→le a b)
  where
    go : (x : Bool) → (T x → a < b) → (T (not x) → b ≤ a) → Rounded f (cond x (round f true (b - a) c) (round f false (a - b) c)) (a + 0) (0 + b) c
    go true l r = let k = l tt in under (b - a) refl (omega arith)
    go false l r = let k = r tt in above (a - b) refl (omega arith)
sum_rounded f true a false b c = go (ltb a b) (ltb b a) (ltb→lt a b) (nltb→le a b) (ltb→lt b a) (nltb→le b a)
  where
    go : (x y : Bool) → (T x → a < b) → (T (not x) → b ≤ a) → (T y → b < a) → (T (not y) → a ≤ b) → Rounded f (cond x (round f false (b - a) c) (round f y (a - b) c)) (0 + b) (a + 0) c
    go true y l r l' r' = let k = l tt in above (b - a) refl (omega arith)
    go false true l r l' r' = let k = r tt in under (a - b) refl (omega arith)
    go false false l r l' r' = let k = r tt in let k' = r' tt in above (a - b) refl (omega arith)

-- ---- the difference of two finite values
pub sub_rounded : (f : Format) (s : Bool) (m : ℕ) (e : ℤ) (t : Bool) (n : ℕ) (d : ℤ)
    → Rounded f (sub f (fin s m e) (fin t n d)) (plus s (m * up e * down d) + plus (not t) (n * up d * down e)) (less s (m * up e * down d) + less (not t) (n * up d * down e)) (down e * down d)
unfolding sub
sub_rounded f s m e t n d = sum_rounded f s (m * up e * down d) (not t) (n * up d * down e) (down e * down d)

-- x ≤ x' and y' ≤ y, so x - y ≤ x' - y': here with x = (p - n) / d, y = (q - o) / e, and the same with a mark
crossed : (p n d p' n' d' q o e q' o' e' : ℕ) → p * d' + n' * d ≤ p' * d + n * d' → q' * e + o * e' ≤ q * e' + o' * e
    → (p * e + o * d) * (d' * e') + (n' * e' + q' * d') * (d * e) ≤ (p' * e' + o' * d') * (d * e) + (n * e + q * d) * (d' * e')
crossed p n d p' n' d' q o e q' o' e' h k =
    let a = simp (add-mul, mul_assoc, mul_comm) at (mul-le-mul_right (e * e') h) in
    let b = simp (add-mul, mul_assoc, mul_comm, mul_left_comm) at (mul-le-mul_right (d * d') k) in
    simp (add-mul, mul_assoc, mul_comm, mul_left_comm) (omega arith)

-- a difference by the parts of its operands
pick_plus : (s t : Bool) (a x b y : ℕ) → plus s (a * y) + plus (not t) (b * x) ≡ plus s a * y + less t b * x
pick_plus false false a x b y = omega (arith, zero-mul x)
pick_plus false true a x b y = refl
pick_plus true false a x b y = omega (arith, zero-mul x, zero-mul y)
pick_plus true true a x b y = omega (arith, zero-mul y)

pick_less : (s t : Bool) (a x b y : ℕ) → less s (a * y) + less (not t) (b * x) ≡ less s a * y + plus t b * x
pick_less false false a x b y = omega (arith, zero-mul y)
pick_less false true a x b y = omega (arith, zero-mul x, zero-mul y)
pick_less true false a x b y = refl
pick_less true true a x b y = omega (arith, zero-mul x)

pub sub_is : (f : Format) (x y : Float) → T (finite x) → T (finite y) → Rounded f (sub f x y) (pp x * den y + nn y * den x) (nn x * den y + pp y * den x) (den x * den y)
sub_is f nan y p q = absurd p
sub_is f (inf s) y p q = absurd p
sub_is f (fin s m e) nan p q = absurd q
sub_is f (fin s m e) (inf t) p q = absurd q
sub_is f (fin s m e) (fin t n d) p q =
    subst (λ (k : ℕ). Rounded f (sub f (fin s m e) (fin t n d)) k (less s (m * up e) * down d + plus t (n * up d) * down e) (down e * down d)) (pick_plus s t (m * up e) (down e) (n * up d) (down d))
    (subst (λ (k : ℕ). Rounded f (sub f (fin s m e) (fin t n d)) (plus s (m * up e * down d) + plus (not t) (n * up d * down e)) k (down e * down d)) (pick_less s t (m * up e) (down e) (n * up d) (down d))
    (sub_rounded f s m e t n d))

pub le→cross : (x y : Float) → T (finite x) → T (finite y) → T (Ieee.le x y) → Le x y
le→cross nan y p q h = absurd p
le→cross (inf s) y p q h = absurd p
le→cross (fin s m e) nan p q h = absurd q
le→cross (fin s m e) (inf t) p q h = absurd q
le→cross (fin s m e) (fin t n d) p q h = le→LE s m e t n d h

-- THE LAW: x ≤ x' and y' ≤ y give x - y ≤ x' - y', each rounded once, also where a difference overflows to an infinity
pub sub_mono : (f : Format) (x x' y y' : Float) → T (finite x) → T (finite x') → T (finite y) → T (finite y') → T (Ieee.le x x') → T (Ieee.le y' y) → T (Ieee.le (sub f x y) (sub f x' y'))
sub_mono f x x' y y' px px' py py' h k =
    rounded_mono f (den x * den y) (den x' * den y') (mul-pos (den_pos x) (den_pos y)) (mul-pos (den_pos x') (den_pos y')) (sub f x y) (sub f x' y')
    (pp x * den y + nn y * den x) (nn x * den y + pp y * den x) (pp x' * den y' + nn y' * den x') (nn x' * den y' + pp y' * den x')
    (sub_is f x y px py) (sub_is f x' y' px' py')
    (crossed (pp x) (nn x) (den x) (pp x') (nn x') (den x') (pp y) (nn y) (den y) (pp y') (nn y') (den y') (le→cross x x' px px' h) (le→cross y' y py' py k))

pub fin_refl : (x : Float) → T (finite x) → T (Ieee.le x x)
fin_refl nan p = absurd p
fin_refl (inf s) p = absurd p
fin_refl (fin s m e) p = LE→le s m e s m e (omega arith)

-- a lower z takes more off
pub sub_anti : (f : Format) (x y z : Float) → T (finite x) → T (finite y) → T (finite z) → T (Ieee.le z y) → T (Ieee.le (sub f x y) (sub f x z))
sub_anti f x y z px py pz h = sub_mono f x x y z px px py pz (fin_refl x px) h

pub stays_over : (f : Format) (x y z w : Float) → T (finite x) → T (finite y) → T (finite z) → T (Ieee.le z y) → T (not (Ieee.le (sub f x y) w)) → T (not (Ieee.le (sub f x z) w))
stays_over f x y z w px py pz h k =
    not_T (Ieee.le (sub f x z) w) (λ l. T_not (Ieee.le (sub f x y) w) k (le_trans_float (sub f x y) (sub f x z) w (sub_anti f x y z px py pz h) l))

pub finite_real : (x : Float) → T (finite x) → T (not (is_nan x))
unfolding is_nan
finite_real nan p = absurd p
finite_real (inf s) p = absurd p
finite_real (fin s m e) p = tt
