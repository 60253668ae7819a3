-- What is kept of the scores: the incumbent, the tied list, and whether one was discarded (01, "The walk", on scores).
use Rattle.std.specs.Prelude.{ℕ, suc, Bool, true, false, not, ◌&&◌, List, [], ◌∷◌, ◌++◌, ltb, eqb, length, Float}
use Rattle.std.specs.Float.Ieee as Ieee
use Rattle.std.specs.Float.{binary64}
use Rattle.std.specs.Float.Ieee.Scale.{finite}
use Rattle.ground.specs.Lists.{pick, any, keep}
use Rattle.evaluate.specs.declared.Segment.{Segment}
use Rattle.evaluate.specs.declared.Refusal.{Refusal}
use Rattle.evaluate.specs.Refusals.{no_refusal}
use Rattle.evaluate.specs.Segments.{Assignment}
use Rattle.storage.specs.Records.{same_turn}

-- ---- the rule, for any things with a score

pub record Kept (A : Type 0) : Type 0 where
  -- the incumbent: none or one
  pub best : List A
  -- the tied list
  pub tied : List A
  pub discarded : Bool

abbrev pub nothing : {A : Type 0} → Kept A
nothing = record { best = []; tied = []; discarded = false }

-- the score minus the incumbent's, "one double subtraction", is within the tie width
abbrev pub tied_to : Float → Float → Float → Bool
tied_to incumbent width score = Ieee.le (Ieee.sub binary64 score incumbent) width

module _ {A : Type 0} (score : A → Float) where
  -- "The first score sets the incumbent. A lower one replaces it"
  abbrev pub lowers : A → List A → Bool
  lowers a [] = true
  lowers a (b ∷ l) = Ieee.lt (score a) (score b)

  -- within the width of the incumbent
  abbrev pub near : Float → A → List A → Bool
  near width a [] = false
  near width a (b ∷ l) = tied_to (score b) width (score a)

  -- those of a list that are within the width of an incumbent
  unfoldable pub ties_to : Float → Float → List A → List A
  ties_to incumbent width l = keep (λ a. tied_to incumbent width (score a)) l

-- "the list lacks the assignment" where this fails
abbrev pub has : {A : Type 0} → (A → A → Bool) → A → List A → Bool
has same a l = any (λ b. same b a) l

-- "added last, or with max_optima there marks discarded for good"
abbrev pub adding : {A : Type 0} → Bool → A → Kept A → Kept A
adding room a t =
    pick room (record { best = t.best; tied = t.tied ++ (a ∷ []); discarded = t.discarded }) (record { best = t.best; tied = t.tied; discarded = true })

-- a is the incumbent, and "drops from the tied list all whose score minus the new one is over the tie width"
abbrev pub replaced : {A : Type 0} → (A → Float) → Float → A → Kept A → Kept A
replaced score width a t = record { best = a ∷ []; tied = ties_to score (score a) width t.tied; discarded = t.discarded }

module _ {A : Type 0} (score : A → Float) (same : A → A → Bool) (optima : ℕ) (width : Float) where
  unfoldable pub lowered : A → Kept A → Kept A
  lowered a t = pick (lowers score a t.best) (replaced score width a t) t

  unfoldable pub added : A → Kept A → Kept A
  added a t = pick (near score width a t.best && not (has same a t.tied)) (adding (ltb (length t.tied) optima) a t) t

  -- one evaluation
  unfoldable pub keep_one : Kept A → A → Kept A
  keep_one t a = added a (lowered a t)

  -- one after the other
  unfoldable pub keep_all : Kept A → List A → Kept A
  keep_all t [] = t
  keep_all t (a ∷ l) = keep_all (keep_one t a) l

-- ---- over assignments

-- an assignment with its score
pub record Evaluated : Type 0 where
  pub assignment : Assignment
  pub score : Float

abbrev pub score_of : Evaluated → Float
score_of e = e.score

abbrev pub same_segment : Segment → Segment → Bool
same_segment s t = eqb s.source t.source && eqb s.start t.start && eqb s.end t.end && same_turn s.reverse t.reverse

unfoldable pub same_list : {A : Type 0} → (A → A → Bool) → List A → List A → Bool
same_list same [] [] = true
same_list same [] (b ∷ m) = false
same_list same (a ∷ l) [] = false
same_list same (a ∷ l) (b ∷ m) = same a b && same_list same l m

abbrev pub same_assignment : Assignment → Assignment → Bool
same_assignment a b = eqb a.family b.family && same_list (same_list same_segment) a.routes b.routes

abbrev pub same_evaluated : Evaluated → Evaluated → Bool
same_evaluated d e = same_assignment d.assignment e.assignment

-- "Score n, from 1, belongs to evaluation n."
unfoldable pub evaluated : List Assignment → List Float → List Evaluated
evaluated [] xs = []
evaluated (a ∷ l) [] = []
evaluated (a ∷ l) (x ∷ xs) = record { assignment = a; score = x } ∷ evaluated l xs

-- 14 "an evaluation has no score in the list", 15 "its score is not finite": "by the first evaluation concerned", from number n on
abbrev pub finite_or15 : Bool → ℕ → Refusal → Refusal
finite_or15 true n later = later
finite_or15 false n later = record { number = 15; place = n }

unfoldable pub scores_refusal : ℕ → List Assignment → List Float → Refusal
scores_refusal n [] xs = no_refusal
scores_refusal n (a ∷ l) [] = record { number = 14; place = n }
scores_refusal n (a ∷ l) (x ∷ xs) = finite_or15 (finite x) n (scores_refusal (suc n) l xs)
