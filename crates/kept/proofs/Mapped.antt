-- A run over one kind of element is the run over another, where scores and sameness agree.
use mathlib.Core.Path.{◌≡◌, refl, ap, ap₂, ◌∙◌}
use mathlib.Core.Bool.{Bool, true, false, not, ◌&&◌, ◌||◌}
use mathlib.Core.List.{List, [], ◌∷◌, ◌++◌, map}
use Prim.Native.Nat.{ℕ}
use lib.Dec.{ltb}
use lib.ListN.{length, length-map}
use lib.Ieee as Ieee
use lib.Ieee.{Float}
use Rattle.ground.specs.Lists.{pick, cons_if, keep, any}
use Rattle.search.specs.Keep.{Kept, tied_to, ties_to, lowers, near, has, lowered, adding, replaced, added, keep_one}
use Rattle.kept.specs.Inner.{map_kept}

module _ {A B : Type 0} (f : A → B) (score : A → Float) (score' : B → Float) (same : A → A → Bool) (same' : B → B → Bool)
    (sc : (a : A) → score' (f a) ≡ score a) (sm : (a b : A) → same' (f a) (f b) ≡ same a b) (m : ℕ) (w : Float) where
  ties_map : (inc : Float) (l : List A) → ties_to score' inc w (map f l) ≡ map f (ties_to score inc w l)
  unfolding ties_to keep
  ties_map inc [] = refl
  ties_map inc (x ∷ l) = ap (λ (s : Float). cons_if (tied_to inc w s) (f x) (ties_to score' inc w (map f l))) (sc x) ∙ go (tied_to inc w (score x)) (ties_map inc l)
    where
      go : (b : Bool) → ties_to score' inc w (map f l) ≡ map f (ties_to score inc w l) → cons_if b (f x) (ties_to score' inc w (map f l)) ≡ map f (cons_if b x (ties_to score inc w l))
      go true e = ap (λ (t : List B). f x ∷ t) e
      go false e = e

  has_map : (a : A) (l : List A) → has same' (f a) (map f l) ≡ has same a l
  unfolding any
  has_map a [] = refl
  has_map a (x ∷ l) = ap₂ (λ (b c : Bool). b || c) (sm x a) (has_map a l)

  lowers_map : (a : A) (l : List A) → lowers score' (f a) (map f l) ≡ lowers score a l
  lowers_map a [] = refl
  lowers_map a (x ∷ l) = ap₂ Ieee.lt (sc a) (sc x)

  near_map : (a : A) (l : List A) → near score' w (f a) (map f l) ≡ near score w a l
  near_map a [] = refl
  near_map a (x ∷ l) = ap₂ (λ (s t : Float). tied_to s w t) (sc x) (sc a)

  lowered_map : (a : A) (t : Kept A) → lowered score' same' m w (f a) (map_kept f t) ≡ map_kept f (lowered score same m w a t)
  unfolding lowered
  lowered_map a t = ap (λ (b : Bool). pick b (replaced score' w (f a) (map_kept f t)) (map_kept f t)) (lowers_map a t.best) ∙ go (lowers score a t.best)
    where
      go : (b : Bool) → pick b (replaced score' w (f a) (map_kept f t)) (map_kept f t) ≡ map_kept f (pick b (replaced score w a t) t)
      go true = ap (λ (l : List B). record { best = f a ∷ []; tied = l; discarded = t.discarded }) (ap (λ (s : Float). ties_to score' s w (map f t.tied)) (sc a) ∙ ties_map (score a) t.tied)
      go false = refl

  map_snoc : (l : List A) (a : A) → map f l ++ (f a ∷ []) ≡ map f (l ++ (a ∷ []))
  map_snoc [] a = refl
  map_snoc (x ∷ l) a = ap (λ (t : List B). f x ∷ t) (map_snoc l a)

  added_map : (a : A) (t : Kept A) → added score' same' m w (f a) (map_kept f t) ≡ map_kept f (added score same m w a t)
  unfolding added
  added_map a t = rw (near_map a t.best, has_map a t.tied, length-map) (go (near score w a t.best && not (has same a t.tied)) (ltb (length t.tied) m))
    where
      go : (b c : Bool) → pick b (adding c (f a) (map_kept f t)) (map_kept f t) ≡ map_kept f (pick b (adding c a t) t)
      go true true = ap (λ (l : List B). record { best = map f t.best; tied = l; discarded = t.discarded }) (map_snoc t.tied a)
      go true false = refl
      go false c = refl

  pub keep_one_map : (t : Kept A) (a : A) → keep_one score' same' m w (map_kept f t) (f a) ≡ map_kept f (keep_one score same m w t a)
  unfolding keep_one
  keep_one_map t a = ap (added score' same' m w (f a)) (lowered_map a t) ∙ added_map a (lowered score same m w a t)
