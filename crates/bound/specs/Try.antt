-- The definition computed. Where a bound is given, or none, the reply is the original Rust's.
use Rattle.std.specs.Prelude.{ℕ, ◌*◌, ◌≡◌, refl, Bool, true, false, cond, List, [], ◌∷◌, map, ℤ, pos, neg_ℤ, ◌*ℤ◌, replicate, Float}
use Rattle.std.proofs.Common.{lit<}
use Rattle.std.specs.Int.Signed.{le_z, le_z_yes}
use Rattle.std.specs.Float.{binary64}
use Rattle.std.specs.Float.Ieee.{neg, is_nan, to_bits, of_bits, of_int, sub, mul, div, lt}
use Rattle.std.specs.Float.Ieee.Positive.{num, den}
use Rattle.bound.specs.declared.BoundReply.{BoundReply}
use Rattle.doubles.specs.NextDouble.{pattern_up, next_up, next_down}
use Rattle.bound.specs.Bound.{upper, term, after, zero64, counts_ok, bound_from, lower_bound}
use Rattle.bound.specs.Bounded.{signed, AtMostMinus, share, shares}

-- the background's pattern and the counts; and of the reply its three numbers and the bound's pattern
record Case : Type 0 where
  pub background : ℕ
  pub counts : List ℕ
  pub reply : List ℕ

abbrev shown : BoundReply → List ℕ
shown r = r.refusal ∷ r.place ∷ r.given ∷ to_bits binary64 r.bound ∷ []

abbrev answer : Case → List ℕ
answer c = shown (lower_bound c.counts (of_bits binary64 c.background))

abbrev given : ℕ → List ℕ
given b = 0 ∷ 0 ∷ 1 ∷ b ∷ []

abbrev none : List ℕ
none = 0 ∷ 0 ∷ 0 ∷ 0 ∷ []

abbrev refused : List ℕ
refused = 43 ∷ 0 ∷ 0 ∷ 0 ∷ []

abbrev cases : List Case
cases =
    -- no counts give 0.0, not -0.0
    record { background = 0x3fe0000000000000; counts = []; reply = given 0 } ∷
    -- over 2.5: -44.30000000000006
    record { background = 0x4004000000000000; counts = 3 ∷ 0 ∷ 7 ∷ 12 ∷ []; reply = given 0xc04626666666666f } ∷
    -- counts are taken in their order: over 2.5, of 3 and 12 and of 12 and 3
    record { background = 0x4004000000000000; counts = 3 ∷ 12 ∷ []; reply = given 0xc0421999999999a1 } ∷
    record { background = 0x4004000000000000; counts = 12 ∷ 3 ∷ []; reply = given 0xc0421999999999a2 } ∷
    -- over 3.0: -0.33333333333333426
    record { background = 0x4008000000000000; counts = 4 ∷ []; reply = given 0xbfd5555555555566 } ∷
    -- over 0.1: -8.10000000000001
    record { background = 0x3fb999999999999a; counts = 1 ∷ []; reply = given 0xc020333333333339 } ∷
    -- a count at the background, 4.0 or 2^53 - 1: its upper is above it, and takes a little off
    record { background = 0x4010000000000000; counts = 4 ∷ []; reply = given 0xb990000000000005 } ∷
    record { background = 0x433fffffffffffff; counts = 9007199254740991 ∷ []; reply = given 0xbca0000000000006 } ∷
    -- a count below the background takes nothing off
    record { background = 0x4010000000000000; counts = 3 ∷ []; reply = given 0 } ∷
    -- nor does one whose upper is the background: 1 over the double behind 1.0, 2^53 - 1 over 2^53
    record { background = 0x3ff0000000000001; counts = 1 ∷ []; reply = given 0 } ∷
    record { background = 0x4340000000000000; counts = 9007199254740991 ∷ []; reply = given 0 } ∷
    -- the largest count, twice, over 1.0: -1.6225927682921347e32
    record { background = 0x3ff0000000000000; counts = 9007199254740991 ∷ 9007199254740991 ∷ []; reply = given 0xc6a0000000000003 } ∷
    -- over the largest double
    record { background = 0x7fefffffffffffff; counts = 9007199254740991 ∷ []; reply = given 0 } ∷
    -- over the least double, 5e-324, the quotient overflows
    record { background = 1; counts = 5 ∷ 1 ∷ []; reply = none } ∷
    -- and over the least normal one, or the subnormal one before it, it does not: -4.494232837155797e307
    record { background = 0x0010000000000000; counts = 1 ∷ []; reply = given 0xffd0000000000007 } ∷
    record { background = 0x000fffffffffffff; counts = 1 ∷ []; reply = given 0xffd0000000000008 } ∷
    -- the lowest double is a bound; where the difference itself is that double, the step leads past it
    record { background = 0x0054400000000008; counts = 9 ∷ []; reply = given 0xffefffffffffffff } ∷
    record { background = 0x0054400000000007; counts = 9 ∷ []; reply = none } ∷
    -- a count of 0 takes nothing off, whatever the background
    record { background = 1; counts = 0 ∷ []; reply = given 0 } ∷
    -- over 6e-277 the running bound overflows at the second count
    record { background = 0x0695459e5a08dfff; counts = 9007199254740991 ∷ 9007199254740991 ∷ 1 ∷ []; reply = none } ∷
    -- a count of 2 ^ 53 is refused, also below the background and where there would have been no bound before it
    record { background = 0x3ff0000000000000; counts = 1 ∷ 9007199254740992 ∷ []; reply = refused } ∷
    record { background = 0x7fefffffffffffff; counts = 9007199254740992 ∷ []; reply = refused } ∷
    record { background = 1; counts = 5 ∷ 9007199254740992 ∷ []; reply = refused } ∷
    -- the backgrounds 0.0, -0.0, -1.0, the infinities and a NaN, also with no counts
    record { background = 0; counts = []; reply = refused } ∷
    record { background = 0x8000000000000000; counts = []; reply = refused } ∷
    record { background = 0xbff0000000000000; counts = 1 ∷ []; reply = refused } ∷
    record { background = 0x7ff0000000000000; counts = 1 ∷ []; reply = refused } ∷
    record { background = 0xfff0000000000000; counts = []; reply = refused } ∷
    record { background = 0x7ff8000000000000; counts = 1 ∷ []; reply = refused } ∷
    []

tries : map answer cases ≡ map (λ c. c.reply) cases
unfolding upper term after bound_from counts_ok lower_bound pattern_up next_up next_down neg is_nan to_bits of_bits of_int sub mul div lt
tries = refl

-- ---- what it is a bound of
-- 2.5 is 5 / 2, 0.1 is 3602879701896397 / 2 ^ 55, -44.25 is -177 / 4, and the reply to 4 over 3.0 is -3002399751580339 / 2 ^ 53
abbrev top_and_bottom : ℕ → ℤ × ℕ
top_and_bottom b = (signed (of_bits binary64 b), den (of_bits binary64 b))

fractions :
    map top_and_bottom (0x4004000000000000 ∷ 0x3fb999999999999a ∷ 0xc046200000000000 ∷ 0xbfd5555555555566 ∷ [])
    ≡ (pos 5, 2) ∷ (pos 3602879701896397, 36028797018963968) ∷ (neg_ℤ (pos 177), 4) ∷ (neg_ℤ (pos 3002399751580339), 9007199254740992) ∷ []
unfolding of_bits
fractions = refl

-- Of 3, 0, 7 and 12 over 5 / 2 the sum is (1 + 81 + 361) / 10, which is 44.3; of 4 over 3 it is 1 / 3.
sums : (shares 5 2 (3 ∷ 0 ∷ 7 ∷ 12 ∷ []) ≡ 443) × (shares 3 1 (4 ∷ []) ≡ 1)
unfolding shares share
sums = (refl, refl)

-- The reply to 3, 0, 7 and 12 over 2.5 is at most -44.3; neither -44.25 nor 0.0 is.
bounded : AtMostMinus (of_bits binary64 0xc04626666666666f) 443 10 × (AtMostMinus (of_bits binary64 0xc046200000000000) 443 10 → ⊥) × (AtMostMinus zero64 443 10 → ⊥)
unfolding of_bits
bounded = (record { number = refl; scales = (lit< tt, lit< tt); below = le_z_yes tt }, λ h. h.below.le, λ h. h.below.le)

-- ---- without a step outward
-- the operations alone, each rounded to the nearest double
abbrev nearest : Float → Float → ℕ → Float
nearest background bound c =
    let u = of_int binary64 (pos c) in
    let delta = sub binary64 u background in
    cond (lt background u) (sub binary64 bound (div binary64 (mul binary64 delta delta) background)) bound

-- with every step but the last, the running bound's own
abbrev no_step_down : Float → Float → ℕ → Float
no_step_down background bound c = cond (lt background (upper c)) (sub binary64 bound (term background (upper c))) bound

-- the running bound after the counts, by such a rule for one count
unfoldable ruled_by : (Float → Float → ℕ → Float) → Float → Float → List ℕ → Float
ruled_by rule background bound [] = bound
ruled_by rule background bound (c ∷ counts) = ruled_by rule background (rule background bound c) counts

-- whether x is at most minus the sum, as AtMostMinus has it
abbrev low_enough : Float → List ℕ → Float → Bool
low_enough background counts x = le_z (signed x *ℤ pos (num background * den background)) (neg_ℤ (pos (shares (num background) (den background) counts * den x)))

record Ruled : Type 0 where
  pub background : ℕ
  pub counts : List ℕ
  pub rule : Float → Float → ℕ → Float

abbrev is_bound : Ruled → Bool
is_bound r =
    let background = of_bits binary64 r.background in
    low_enough background r.counts (ruled_by r.rule background zero64 r.counts)

-- Rounded to the nearest, what comes of 4 over 3.0 and of 3, 0, 7 and 12 over 2.5 is too high. A large count and many small ones over 1.0 show
-- it of the last step alone: each small term is less than half of the last digit of the running bound, and would be lost.
without_a_step :
    map is_bound
    (record { background = 0x4008000000000000; counts = 4 ∷ []; rule = nearest } ∷
    record { background = 0x4008000000000000; counts = 4 ∷ []; rule = after } ∷
    record { background = 0x4004000000000000; counts = 3 ∷ 0 ∷ 7 ∷ 12 ∷ []; rule = nearest } ∷
    record { background = 0x4004000000000000; counts = 3 ∷ 0 ∷ 7 ∷ 12 ∷ []; rule = after } ∷
    record { background = 0x3ff0000000000000; counts = 1099511627777 ∷ replicate 13 11586; rule = no_step_down } ∷
    record { background = 0x3ff0000000000000; counts = 1099511627777 ∷ replicate 13 11586; rule = after } ∷
    [])
    ≡ false ∷ true ∷ false ∷ true ∷ false ∷ true ∷ []
unfolding ruled_by upper term after shares share pattern_up next_up next_down neg is_nan to_bits of_bits of_int sub mul div lt
without_a_step = refl
