-- A number's digits and the number of digits.
use Prim.Native.Nat.{ℕ, zero, suc, ◌+◌, ◌-◌, ◌*◌, ◌/◌, ◌%◌, ◌^◌, ◌≤◌, ◌<◌}
use native.Mathlib.Omega.{arith}
use native.Mathlib.Nat.{eq-or-lt_of_le, pow-suc}
use native.Mathlib.Decide.{dec_lt}
use mathlib.Core.Path.{◌≡◌, refl, sym, ap, ◌∙◌}
use mathlib.Core.Logic.{⊎_elim}
use mathlib.Core.Bool.{true, ◌&&◌, true≢false}
use mathlib.Core.List.{List, [], ◌∷◌, ◌++◌}
use lib.Dec.{eqb, ltb, leb}
use lib.ListN.{length, get_or, length-append}
use borrow.Author.Tests.{ne_eqb, eqb-false, lt-ltb, le-ltb, ltb-true, le-leb, leb-true, not-true}
use Rattle.ground.specs.Lists.{pick, all}
use Rattle.ground.proofs.ListLaws.{both}
use Rattle.search.specs.Sheet.{digits, decimal}
use Rattle.rows.specs.Rows.{digit, value_from, value_of, no_leading_zero, too_large, is_number}

value_snoc : (n : ℕ) (s : List ℕ) (x : ℕ) → value_from n (s ++ (x ∷ [])) ≡ 10 * value_from n s + (x - 48)
unfolding value_from
value_snoc n [] x = refl
value_snoc n (y ∷ s) x = value_snoc (10 * n + (y - 48)) s x

all_snoc : (s : List ℕ) (x : ℕ) → all digit s ≡ true → digit x ≡ true → all digit (s ++ (x ∷ [])) ≡ true
unfolding all
all_snoc [] x h d = rw d
all_snoc (y ∷ s) x h d = let (p, q) = both (digit y) (all digit s) h in rw (p, all_snoc s x q d)

is_digit : (x : ℕ) → x < 10 → digit (48 + x) ≡ true
is_digit x h = rw (le-leb 48 (48 + x) (omega arith), le-leb (48 + x) 57 (omega arith))

-- ---- from a number to its digits and back

-- the digits of a number of at most n digits
pub record Spelled (x : ℕ) (s : List ℕ) : Type 0 where
  pub value : value_of s ≡ x
  pub digits : all digit s ≡ true
  pub lead : no_leading_zero s ≡ true
  pub first : 0 < x → 48 < get_or s 0 0
  pub some : 0 < length s

lead_snoc : (s : List ℕ) (x : ℕ) → 0 < length s → 48 < get_or s 0 0 → no_leading_zero (s ++ (x ∷ [])) ≡ true
lead_snoc [] x h k = let z : ⊥ = omega arith in absurd z
lead_snoc (y ∷ []) x h k = rw (ne_eqb y 48 (λ e. omega arith))
lead_snoc (y ∷ z ∷ s) x h k = rw (ne_eqb y 48 (λ e. omega arith))

first_snoc : (s : List ℕ) (x : ℕ) → 0 < length s → get_or (s ++ (x ∷ [])) 0 0 ≡ get_or s 0 0
first_snoc [] x h = let z : ⊥ = omega arith in absurd z
first_snoc (y ∷ s) x h = refl

one_digit : (x : ℕ) → x < 10 → Spelled x ((48 + x) ∷ [])
unfolding all value_from
one_digit x l = record { value = omega arith; digits = rw (is_digit x l); lead = refl; first = λ p. omega arith; some = omega arith }

more_digits : (x : ℕ) (s : List ℕ) → 10 ≤ x → Spelled (x / 10) s → Spelled x (s ++ ((48 + x % 10) ∷ []))
more_digits x s le h =
    let v = value_snoc 0 s (48 + x % 10) in
    let w = h.value in
    let f = h.first (omega arith) in
    let m = h.some in
    let e = first_snoc s (48 + x % 10) m in
    let l = length-append s ((48 + x % 10) ∷ []) in
    record {
      value = omega arith;
      digits = all_snoc s (48 + x % 10) h.digits (is_digit (x % 10) (omega arith));
      lead = lead_snoc s (48 + x % 10) m f;
      first = λ p. omega arith;
      some = omega arith;
    }

spelled : (n x : ℕ) → x < 10 ^ suc n → Spelled x (digits (suc n) x)
unfolding digits
spelled zero x h = rw (lt-ltb x 10 h) (one_digit x h)
spelled (suc n) x h = go (dec_lt x 10) (spelled n (x / 10))
  where
    p : 10 ^ suc (suc n) ≡ 10 ^ suc n * 10
    p = pow-suc 10 (suc n)

    go : Dec (x < 10) → (x / 10 < 10 ^ suc n → Spelled (x / 10) (digits (suc n) (x / 10))) → Spelled x (pick (ltb x 10) ((48 + x) ∷ []) (digits (suc n) (x / 10) ++ ((48 + x % 10) ∷ [])))
    go (yes l) ih = rw (lt-ltb x 10 l) (one_digit x l)
    go (no f) ih = rw (le-ltb x 10 (omega arith)) (more_digits x (digits (suc n) (x / 10)) (omega arith) (ih (omega (arith, p))))

power : 10 ^ 20 ≡ 100000000000000000000
power = refl

-- a number below 2^64, as it is written
pub decimal_spelled : (x : ℕ) → x < too_large → Spelled x (decimal x)
decimal_spelled x h = let p : x < 10 ^ 20 = rw power (omega arith) in spelled 19 x p

pub decimal_number : (x : ℕ) → x < too_large → is_number (decimal x) ≡ true
unfolding is_number
decimal_number x h = let s = decimal_spelled x h in rw (s.lead, s.digits, s.value, lt-ltb x too_large h)

pub decimal_value : (x : ℕ) → x < too_large → value_of (decimal x) ≡ x
decimal_value x h = (decimal_spelled x h).value

-- ---- from digits to their number and back

pub value_grows : (n : ℕ) (s : List ℕ) → n ≤ value_from n s
unfolding value_from
value_grows n [] = omega arith
value_grows n (x ∷ s) = let h = value_grows (10 * n + (x - 48)) s in omega arith

record Ends (s : List ℕ) : Type 0 where
  init : List ℕ
  last : ℕ
  is : s ≡ init ++ (last ∷ [])

ends : (x : ℕ) (s : List ℕ) → Ends (x ∷ s)
ends x [] = record { init = []; last = x; is = refl }
ends x (y ∷ s) = let e = ends y s in record { init = x ∷ e.init; last = e.last; is = ap (λ (l : List ℕ). x ∷ l) e.is }

split_digits : (s : List ℕ) (x : ℕ) → all digit (s ++ (x ∷ [])) ≡ true → (all digit s ≡ true) × (digit x ≡ true)
unfolding all
split_digits [] x h = (refl, (both (digit x) true h).0)
split_digits (y ∷ s) x h =
    let (p, q) = both (digit y) (all digit (s ++ (x ∷ []))) h in
    let (u, v) = split_digits s x q in
    (rw (p, u), v)

digit_bounds : (x : ℕ) → digit x ≡ true → (48 ≤ x) × (x ≤ 57)
digit_bounds x h = let (p, q) = both (leb 48 x) (leb x 57) h in (leb-true 48 x p, leb-true x 57 q)

lead_init : (y : ℕ) (s : List ℕ) (x : ℕ) → no_leading_zero ((y ∷ s) ++ (x ∷ [])) ≡ true → (y ≡ 48 → ⊥) × (no_leading_zero (y ∷ s) ≡ true)
lead_init y [] x h = (eqb-false y 48 (not-true (eqb y 48) h), refl)
lead_init y (z ∷ s) x h = (eqb-false y 48 (not-true (eqb y 48) h), h)

-- a first digit that is not 0 makes a number that is not 0
value_some : (y : ℕ) (s : List ℕ) → digit y ≡ true → (y ≡ 48 → ⊥) → 0 < value_of (y ∷ s)
unfolding value_from
value_some y s d ne =
    let (p, q) = digit_bounds y d in
    let g = value_grows (10 * 0 + (y - 48)) s in
    let lt : 48 < y = ⊎_elim (λ e. absurd (ne (sym e))) (λ l. l) (eq-or-lt_of_le p) in
    omega arith

module _ (i : List ℕ) (x : ℕ) (d : all digit (i ++ (x ∷ [])) ≡ true) (l : no_leading_zero (i ++ (x ∷ [])) ≡ true) where
  init_some : 0 < length i → (0 < value_of i) × (no_leading_zero i ≡ true)
  unfolding all
  init_some pos = go i pos d l
    where
      go : (i : List ℕ) → 0 < length i → all digit (i ++ (x ∷ [])) ≡ true → no_leading_zero (i ++ (x ∷ [])) ≡ true → (0 < value_of i) × (no_leading_zero i ≡ true)
      go [] h d l = let z : ⊥ = omega arith in absurd z
      go (y ∷ i) h d l =
          let (ne, k) = lead_init y i x l in
          (value_some y i (both (digit y) (all digit (i ++ (x ∷ []))) d).0 ne, k)

  step : (n : ℕ) → (0 < length i → digits n (value_of i) ≡ i) → digits (suc n) (value_of (i ++ (x ∷ []))) ≡ i ++ (x ∷ [])
  unfolding digits value_from
  step n ih = go i refl
    where
      v : value_of (i ++ (x ∷ [])) ≡ 10 * value_of i + (x - 48)
      v = value_snoc 0 i x

      b : (48 ≤ x) × (x ≤ 57)
      b = digit_bounds x (split_digits i x d).1

      back : 48 + (x - 48) ≡ x
      back = let c = b.0 in omega arith

      go : (j : List ℕ) → i ≡ j → pick (ltb (value_of (i ++ (x ∷ []))) 10) ((48 + value_of (i ++ (x ∷ []))) ∷ []) (digits n (value_of (i ++ (x ∷ [])) / 10) ++ ((48 + value_of (i ++ (x ∷ [])) % 10) ∷ [])) ≡ i ++ (x ∷ [])
      go [] e =
          let z : value_of i ≡ 0 = rw e in
          let c = b.1 in
          let w : value_of (i ++ (x ∷ [])) ≡ x - 48 = v ∙ (omega arith) in
          rw (w, lt-ltb (x - 48) 10 (omega arith), e, back)
      go (y ∷ j) e =
          let pos : 0 < length i = rw e (omega arith) in
          let some = (init_some pos).0 in
          let c = b.1 in
          let q : (10 * value_of i + (x - 48)) / 10 ≡ value_of i = omega arith in
          let r : (10 * value_of i + (x - 48)) % 10 ≡ x - 48 = omega arith in
          rw (v, le-ltb (10 * value_of i + (x - 48)) 10 (omega arith), q, r, back, ih pos)

ends_of : (s : List ℕ) → no_leading_zero s ≡ true → Ends s
ends_of [] l = absurd (true≢false (sym l))
ends_of (a ∷ t) l = ends a t

spell : (n : ℕ) (s : List ℕ) → all digit s ≡ true → no_leading_zero s ≡ true → value_of s < 10 ^ suc n → digits (suc n) (value_of s) ≡ s
spell zero s d l h =
    let e = ends_of s l in
    let k : value_of (e.init ++ (e.last ∷ [])) < 10 ^ 1 = rw (← e.is) h in
    let v = value_snoc 0 e.init e.last in
    let d' : all digit (e.init ++ (e.last ∷ [])) ≡ true = rw (← e.is) d in
    let l' : no_leading_zero (e.init ++ (e.last ∷ [])) ≡ true = rw (← e.is) l in
    rw e.is (step e.init e.last d' l' 0 (λ pos. let some = (init_some e.init e.last d' l' pos).0 in let z : ⊥ = omega arith in absurd z))
spell (suc n) s d l h =
    let e = ends_of s l in
    let k : value_of (e.init ++ (e.last ∷ [])) < 10 ^ suc (suc n) = rw (← e.is) h in
    let p : 10 ^ suc (suc n) ≡ 10 ^ suc n * 10 = pow-suc 10 (suc n) in
    let v = value_snoc 0 e.init e.last in
    let d' : all digit (e.init ++ (e.last ∷ [])) ≡ true = rw (← e.is) d in
    let l' : no_leading_zero (e.init ++ (e.last ∷ [])) ≡ true = rw (← e.is) l in
    let less : value_of e.init < 10 ^ suc n = omega (arith, k, p, v) in
    rw e.is (step e.init e.last d' l' (suc n) (λ pos. spell n e.init (split_digits e.init e.last d').0 (init_some e.init e.last d' l' pos).1 less))

pub number_decimal : (s : List ℕ) → is_number s ≡ true → decimal (value_of s) ≡ s
unfolding is_number
number_decimal s h =
    let (x, c) = both (no_leading_zero s && all digit s) (ltb (value_of s) too_large) h in
    let (a, b) = both (no_leading_zero s) (all digit s) x in
    let lt : value_of s < too_large = ltb-true (value_of s) too_large c in
    let p : value_of s < 10 ^ 20 = rw power (omega arith) in
    spell 19 s b a p

pub number_digits : (s : List ℕ) → is_number s ≡ true → all digit s ≡ true
unfolding is_number
number_digits s h = (both (no_leading_zero s) (all digit s) (both (no_leading_zero s && all digit s) (ltb (value_of s) too_large) h).0).1
