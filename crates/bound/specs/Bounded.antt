-- What a reply of the lower bound says, in whole numbers: of what it is a bound, when there is none, and when the call is refused.
use Rattle.std.specs.Prelude.{ℕ, ◌+◌, ◌-◌, ◌*◌, ◌≤◌, ◌<◌, ◌≡◌, ◌↔◌, ◌⊎◌, true, false, cond, List, [], ◌∷◌, ltb, ℤ, pos, neg_ℤ, ◌*ℤ◌, ◌≤ℤ◌, length, take, Float}
use Rattle.std.specs.Float.{nan, inf, fin}
use Rattle.std.specs.Float.Ieee.{up}
use Rattle.std.specs.Float.Ieee.Scale.{finite}
use Rattle.std.specs.Float.Ieee.Positive.{num, den}
use Rattle.bound.specs.declared.BoundReply.{BoundReply}
use Rattle.bound.specs.Bound.{after, zero64, some, no_bound, in_range}

-- A finite double is a whole number over a power of two: signed x / den x, where signed x is num x, or minus num x.
abbrev pub signed : Float → ℤ
signed nan = pos 0
signed (inf s) = pos 0
signed (fin false m e) = pos (m * up e)
signed (fin true m e) = neg_ℤ (pos (m * up e))

-- x is finite and x ≤ -(a / c), multiplied out by both denominators, which are above 0: signed x * c ≤ -(a * den x).
pub record AtMostMinus (x : Float) (a c : ℕ) : Type 0 where
  pub number : finite x ≡ true
  pub scales : (0 < den x) × (0 < c)
  pub below : (signed x *ℤ pos c) ≤ℤ neg_ℤ (pos (a * den x))

-- With n / d for the background, a count c above it has the part (c - n / d) squared over n / d in the sum, which is (c * d - n) squared over n * d;
-- any other count has none. Here are the parts, and their sum, in units of 1 over n * d.
unfoldable pub share : ℕ → ℕ → ℕ → ℕ
share n d c = cond (ltb n (c * d)) ((c * d - n) * (c * d - n)) 0

unfoldable pub shares : ℕ → ℕ → List ℕ → ℕ
shares n d [] = 0
shares n d (c ∷ counts) = share n d c + shares n d counts

-- The running bound after some counts, with no test on the way.
unfoldable pub running : Float → Float → List ℕ → Float
running background bound [] = bound
running background bound (c ∷ counts) = running background (after background bound c) counts

-- After the first i counts, for some i, the running bound is not finite.
abbrev pub Stops : Float → List ℕ → Type 0
Stops background counts = (i : ℕ) × (i ≤ length counts) × (finite (running background zero64 (take i counts)) ≡ false)

-- What a reply says. Out of range it is refusal 43. In range it is no bound or the running bound after all counts: no bound exactly where the running
-- bound stops being finite, and 0.0 for no counts. A bound that is given is at most minus the sum of (c - background) squared over background, for the
-- counts c above the background.
pub record BoundHolds (counts : List ℕ) (background : Float) (r : BoundReply) : Type 0 where
  pub refused : in_range counts background ≡ false → r ≡ no_bound 43
  pub passed : in_range counts background ≡ true → (r ≡ no_bound 0) ⊎ (r ≡ some (running background zero64 counts))
  pub none : in_range counts background ≡ true → ((r ≡ no_bound 0) ↔ Stops background counts)
  pub empty : in_range counts background ≡ true → counts ≡ [] → r ≡ some zero64
  pub below : r.given ≡ 1 → AtMostMinus r.bound (shares (num background) (den background) counts) (num background * den background)
