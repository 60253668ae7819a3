-- The kept rooms as what is kept: slot 0 and score 0 are the incumbent's, the next `count` the tied, the one behind all m of these is the spare.
use Rattle.std.specs.Prelude.{◌≡◌, false, List, [], ◌∷◌, map, ℕ, ◌+◌, ◌-◌, ◌*◌, ◌≤◌, ◌<◌, length, take, drop, get_or, replicate, Float, ltb, Option, None, Some}
use Rattle.std.specs.Option.{is_some, unwrap_or}
use Rattle.std.specs.Float.{nan}
use Rattle.ground.specs.Lists.{pick}
use Rattle.search.specs.Keep.{Kept, Evaluated, replaced, lowered, adding, added, keep_one}
use Rattle.search.specs.Rooms.{slot_words}
use Rattle.slots.specs.Inner.{Held, held_score, same_held, held_in, slot_at, blank, Beyond}
use Rattle.kept.specs.declared.Holding.{Holding}

-- ---- the view

abbrev pub no_holding : Option Holding
no_holding = None

-- what is held besides the incumbent; before there is one, nothing
abbrev pub besides : Option Holding → Holding
besides b = unwrap_or b (record { count = 0; discarded = false })

abbrev pub first_of : ℕ → List ℕ → List Float → Held
first_of v xs ss = record { words = take v xs; score = get_or ss 0 nan }

-- the slots and scores of the tied, used or not
unfoldable pub ties_of : ℕ → ℕ → List ℕ → List Float → List Held
ties_of v n xs ss = held_in v n (drop v xs) (drop 1 ss)

unfoldable pub view_of : ℕ → Option Holding → List ℕ → List Float → Kept Held
view_of v b xs ss = record { best = pick (is_some b) (first_of v xs ss ∷ []) []; tied = ties_of v (besides b).count xs ss; discarded = (besides b).discarded }

-- what is offered: the spare's words, with a score
unfoldable pub offered_of : ℕ → ℕ → List ℕ → Float → Held
offered_of v m xs score = record { words = slot_at v xs (m + 1); score = score }

-- an evaluation as it is held in a slot of v words
abbrev pub held_as : ℕ → Evaluated → Held
held_as v e = record { words = slot_words v e; score = e.score }

-- the same of all that is kept
abbrev pub map_kept : {A B : Type 0} → (A → B) → Kept A → Kept B
map_kept f t = record { best = map f t.best; tied = map f t.tied; discarded = t.discarded }

-- ---- the rooms between two steps

-- the rooms are long enough, and what is not used of them, besides the spare, is zero
pub record Tidy (v m : ℕ) (b : Option Holding) (xs : List ℕ) (ss : List Float) : Type 0 where
  pub few : (besides b).count ≤ m
  pub longx : m * v + v + v ≤ length xs
  pub longs : m < length ss
  pub unused : drop (besides b).count (ties_of v m xs ss) ≡ replicate (m - (besides b).count) (blank v)
  pub fresh : is_some b ≡ false → first_of v xs ss ≡ blank v

-- between two evaluations: the spare is zero too
pub record Ready (v m : ℕ) (b : Option Holding) (xs : List ℕ) (ss : List Float) : Type 0 where
  pub tidy : Tidy v m b xs ss
  pub spare : slot_at v xs (m + 1) ≡ replicate v 0

-- the two rooms are as they were past what is needed of them
pub record Left (v m : ℕ) (xs₀ : List ℕ) (ss₀ : List Float) (xs : List ℕ) (ss : List Float) : Type 0 where
  pub longx : length xs ≡ length xs₀
  pub longs : length ss ≡ length ss₀
  pub restx : drop (m * v + v + v) xs ≡ drop (m * v + v + v) xs₀
  pub rests : drop (m + 1) ss ≡ drop (m + 1) ss₀

-- ---- the steps of one evaluation

pub record Stepped (v m : ℕ) (xs₀ : List ℕ) (ss₀ : List Float) (xs : List ℕ) (ss : List Float) (r : Holding) (t : Kept Held) : Type 0 where
  pub tidy : Tidy v m (Some r) xs ss
  pub view : view_of v (Some r) xs ss ≡ t
  pub beyond : Beyond v (m + 1) xs₀ ss₀ xs ss

pub record Replaced (v m : ℕ) (width score : Float) (b : Option Holding) (xs₀ : List ℕ) (ss₀ : List Float) (xs : List ℕ) (ss : List Float) (r : Holding) : Type 0 where
  pub step : Stepped v m xs₀ ss₀ xs ss r (replaced held_score width (offered_of v m xs₀ score) (view_of v b xs₀ ss₀))

pub record Lowered (v m : ℕ) (width score : Float) (b : Option Holding) (xs₀ : List ℕ) (ss₀ : List Float) (xs : List ℕ) (ss : List Float) (r : Holding) : Type 0 where
  pub step : Stepped v m xs₀ ss₀ xs ss r (lowered held_score same_held m width (offered_of v m xs₀ score) (view_of v b xs₀ ss₀))

pub record Adding (v m : ℕ) (score : Float) (b : Holding) (xs₀ : List ℕ) (ss₀ : List Float) (xs : List ℕ) (ss : List Float) (r : Holding) : Type 0 where
  pub step : Stepped v m xs₀ ss₀ xs ss r (adding (ltb b.count m) (offered_of v m xs₀ score) (view_of v (Some b) xs₀ ss₀))

pub record Added (v m : ℕ) (width score : Float) (b : Holding) (xs₀ : List ℕ) (ss₀ : List Float) (xs : List ℕ) (ss : List Float) (r : Holding) : Type 0 where
  pub step : Stepped v m xs₀ ss₀ xs ss r (added held_score same_held m width (offered_of v m xs₀ score) (view_of v (Some b) xs₀ ss₀))

-- one evaluation, whose words stand in the spare
pub record Recorded (v m : ℕ) (width score : Float) (b : Option Holding) (xs₀ : List ℕ) (ss₀ : List Float) (xs : List ℕ) (ss : List Float) (r : Holding) : Type 0 where
  pub ready : Ready v m (Some r) xs ss
  pub view : view_of v (Some r) xs ss ≡ keep_one held_score same_held m width (view_of v b xs₀ ss₀) (offered_of v m xs₀ score)
  pub left : Left v m xs₀ ss₀ xs ss

-- the needed words of both rooms are zero
pub record Begun (v m : ℕ) (xs₀ : List ℕ) (ss₀ : List Float) (xs : List ℕ) (ss : List Float) : Type 0 where
  pub ready : Ready v m no_holding xs ss
  pub left : Left v m xs₀ ss₀ xs ss

-- the rooms hold, between two evaluations, what is kept
pub record Keeps (v m : ℕ) (k : Kept Evaluated) (b : Option Holding) (xs : List ℕ) (ss : List Float) : Type 0 where
  pub ready : Ready v m b xs ss
  pub view : view_of v b xs ss ≡ map_kept (held_as v) k
