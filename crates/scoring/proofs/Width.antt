-- Tie widths that are one number tie the same.
use Prim.Native.Nat.{ℕ}
use mathlib.Core.Path.{◌≡◌, refl, ap, ◌∙◌}
use mathlib.Core.Bool.{Bool, true, not, ◌&&◌}
use mathlib.Core.List.{List, [], ◌∷◌}
use lib.Dec.{ltb}
use lib.ListN.{length}
use lib.Ieee as Ieee
use lib.Ieee.{Float, binary64}
use Rattle.ground.specs.Lists.{pick, keep}
use Rattle.search.specs.Keep.{Kept, lowers, near, ties_to, has, adding, replaced, lowered, added, keep_one, keep_all}
use Rattle.doubles.proofs.Order.{is_T, eq→le, le_trans_float}
use Rattle.doubles.proofs.Level.{eq_sym, both_ways}

module _ (w v : Float) (same : Ieee.eq w v ≡ true) where
  le_same : (x : Float) → Ieee.le x w ≡ Ieee.le x v
  le_same x =
      let h = is_T (Ieee.eq w v) same in
      both_ways (Ieee.le x w) (Ieee.le x v) (λ l. le_trans_float x w v l (eq→le w v h)) (λ l. le_trans_float x v w l (eq→le v w (eq_sym w v h)))

  module _ {A : Type 0} (score : A → Float) (same? : A → A → Bool) (m : ℕ) where
    near_same : (a : A) (l : List A) → near score w a l ≡ near score v a l
    near_same a [] = refl
    near_same a (b ∷ l) = le_same (Ieee.sub binary64 (score a) (score b))

    ties_same : (i : Float) (l : List A) → ties_to score i w l ≡ ties_to score i v l
    unfolding ties_to
    ties_same i l = ap (λ (f : A → Bool). keep f l) (λ k a. le_same (Ieee.sub binary64 (score a) i) k)

    one_same : (t : Kept A) (a : A) → keep_one score same? m w t a ≡ keep_one score same? m v t a
    unfolding keep_one lowered added
    one_same t a =
        ap (λ (r : Kept A). added score same? m w a (pick (lowers score a t.best) r t)) (ap (λ (l : List A). record { best = a ∷ []; tied = l; discarded = t.discarded }) (ties_same (score a) t.tied))
        ∙ last (pick (lowers score a t.best) (replaced score v a t) t)
      where
        last : (t : Kept A) → added score same? m w a t ≡ added score same? m v a t
        last t = ap (λ (n : Bool). pick (n && not (has same? a t.tied)) (adding (ltb (length t.tied) m) a t) t) (near_same a t.best)

    pub all_same : (t : Kept A) (l : List A) → keep_all score same? m w t l ≡ keep_all score same? m v t l
    unfolding keep_all
    all_same t [] = refl
    all_same t (a ∷ l) = all_same (keep_one score same? m w t a) l ∙ ap (λ (k : Kept A). keep_all score same? m v k l) (one_same t a)
