-- What more evaluations change of what is kept, and what more room for ties does.
use Prim.Native.Nat.{ℕ, ◌≤◌}
use native.Mathlib.Omega.{arith}
use mathlib.Core.Path.{◌≡◌, refl, sym, ap, ◌∙◌, subst}
use mathlib.Core.Logic.{◌⊎◌, inl, inr}
use mathlib.Core.Bool.{Bool, true, false, not, ◌&&◌, true≢false}
use mathlib.Core.List.{List, [], ◌∷◌, ◌++◌, append_assoc, append-nil, cons≢nil, head-eq_of_cons-eq}
use lib.Dec.{T, ltb}
use lib.ListN.{length}
use lib.Ieee as Ieee
use lib.Ieee.{Float}
use borrow.Author.Tests.{ltb-true, lt-ltb}
use Rattle.ground.specs.Lists.{pick, keep, cons_if}
use Rattle.evaluate.specs.Properties.{Each}
use Rattle.evaluate.proofs.Lists.{append_each, each_append}
use Rattle.search.specs.Keep.{Kept, nothing, tied_to, lowers, near, ties_to, has, adding, replaced, lowered, added, keep_one, keep_all}
use Rattle.doubles.proofs.Order.{is_T, lt→le, lt_trans_float}
use Rattle.doubles.proofs.Sub.{fin_refl, finite_real}
use Rattle.scoring.proofs.Rule.{Finite, lower, ties_append, ties_ties, finite_lower, champion, champion_below, incumbent, stays_all}

-- ---- the incumbent

module _ {A : Type 0} (score : A → Float) where
  champion_append : (a : A) (l k : List A) → champion score a (l ++ k) ≡ champion score (champion score a l) k
  unfolding champion
  champion_append a [] k = refl
  champion_append a (x ∷ l) k = champion_append (lower score x a) l k

  -- c is a, or of a lower score
  abbrev pub Lower : A → A → Type 0
  Lower c a = (c ≡ a) ⊎ T (Ieee.lt (score c) (score a))

  lower_than : (c b a : A) → Finite score c → Finite score a → Lower c b → T (Ieee.lt (score b) (score a)) → Lower c a
  lower_than c b a p q (inl e) h = inr (subst (λ (x : A). T (Ieee.lt (score x) (score a))) (sym e) h)
  lower_than c b a p q (inr l) h = inr (lt_trans_float (score c) (score b) (score a) (finite_real (score c) p) (finite_real (score a) q) l h)

  -- the least of more is the least of before, or lower
  champion_lower : (a : A) (k : List A) → Finite score a → Each (Finite score) k → Lower (champion score a k) a × Finite score (champion score a k)
  unfolding champion
  champion_lower a [] p h = (inl refl, p)
  champion_lower a (x ∷ k) p h = go (Ieee.lt (score x) (score a)) refl (champion_lower x k h.0 h.1) (champion_lower a k p h.1)
    where
      go : (t : Bool) → Ieee.lt (score x) (score a) ≡ t → Lower (champion score x k) x × Finite score (champion score x k) → Lower (champion score a k) a × Finite score (champion score a k)
          → Lower (champion score (pick t x a) k) a × Finite score (champion score (pick t x a) k)
      go true e r s = (lower_than (champion score x k) x a r.1 p r.0 (is_T (Ieee.lt (score x) (score a)) e), r.1)
      go false e r s = s

  -- LOWER ONLY LOWERS, whatever the room for ties and the tie width: where i was the incumbent, j is it after more evaluations
  pub lowers_only : (same : A → A → Bool) (n m : ℕ) (w v : Float) (l k : List A) → Each (Finite score) (l ++ k) → (i : A) → (keep_all score same n w nothing l).best ≡ i ∷ []
      → (j : A) × ((keep_all score same m v nothing (l ++ k)).best ≡ j ∷ []) × T (Ieee.le (score j) (score i)) × Lower j i
  unfolding keep_all
  lowers_only same n m w v [] k h i e = absurd (cons≢nil (sym e))
  lowers_only same n m w v (a ∷ l) k h i e =
      let was : champion score a l ≡ i = head-eq_of_cons-eq (sym (incumbent score same n w a l) ∙ e) in
      let (f, g) = append_each (Finite score) (a ∷ l) k h in
      let fine : Finite score i = subst (Finite score) was (champion_lower a l f.0 f.1).1 in
      let low : Lower (champion score i k) i = (champion_lower i k fine g).0 in (
        champion score i k,
        incumbent score same m v a (l ++ k) ∙ ap (λ (c : A). c ∷ []) (champion_append a l k ∙ ap (λ (c : A). champion score c k) was),
        champion_below score i k fine g,
        low,
      )

  -- the incumbent goes by the evaluations alone
  pub best_alike : (same : A → A → Bool) (n m : ℕ) (w v : Float) (l : List A) → (keep_all score same m v nothing l).best ≡ (keep_all score same n w nothing l).best
  unfolding keep_all
  best_alike same n m w v [] = refl
  best_alike same n m w v (a ∷ l) = incumbent score same m v a l ∙ sym (incumbent score same n w a l)

-- ---- one after the other

module _ {A : Type 0} (score : A → Float) (same : A → A → Bool) (m : ℕ) (w : Float) where
  pub keep_append : (t : Kept A) (l k : List A) → keep_all score same m w t (l ++ k) ≡ keep_all score same m w (keep_all score same m w t l) k
  unfolding keep_all
  keep_append t [] k = refl
  keep_append t (a ∷ l) k = keep_append (keep_one score same m w t a) l k

  -- a mark stays
  pub marks_stay : (l k : List A) → (keep_all score same m w nothing l).discarded ≡ true → (keep_all score same m w nothing (l ++ k)).discarded ≡ true
  marks_stay l k e = ap (λ (t : Kept A). t.discarded) (keep_append nothing l k) ∙ stays_all score same m w (keep_all score same m w nothing l) k e

  -- ---- what stays tied

  -- of X those within the width of the incumbent b, in their order, and behind them others that are within it
  record Behind (X : List A) (b : A) (t : Kept A) : Type 0 where
    best : t.best ≡ b ∷ []
    new : List A
    tied : t.tied ≡ ties_to score (score b) w X ++ new
    near_new : ties_to score (score b) w new ≡ new
    fine : Each (Finite score) new

  finite_ties : (i : Float) (l : List A) → Each (Finite score) l → Each (Finite score) (ties_to score i w l)
  unfolding ties_to keep
  finite_ties i [] h = tt
  finite_ties i (x ∷ l) h = go (tied_to i w (score x)) (finite_ties i l h.1)
    where
      go : (c : Bool) → Each (Finite score) (ties_to score i w l) → Each (Finite score) (cons_if c x (ties_to score i w l))
      go true k = (h.0, k)
      go false k = k

  lowered_behind : (X : List A) (b a : A) (t : Kept A) → Each (Finite score) X → Finite score b → Finite score a → Behind X b t → Behind X (lower score a b) (lowered score same m w a t)
  unfolding lowered
  lowered_behind X b a t fX fb fa h =
      subst (λ (l : List A). Behind X (lower score a b) (pick (lowers score a l) (replaced score w a t) t)) (sym h.best) (go (Ieee.lt (score a) (score b)) refl)
    where
      go : (c : Bool) → Ieee.lt (score a) (score b) ≡ c → Behind X (pick c a b) (pick c (replaced score w a t) t)
      go false e = h
      go true e =
          let below = lt→le (score a) (score b) (is_T (Ieee.lt (score a) (score b)) e) in
          record {
            best = refl;
            new = ties_to score (score a) w h.new;
            tied = ap (ties_to score (score a) w) h.tied ∙ ties_append score (score a) w (ties_to score (score b) w X) h.new
                ∙ ap (λ (l : List A). l ++ ties_to score (score a) w h.new) (ties_ties score (score b) (score a) w fb fa below X fX);
            near_new = ties_ties score (score a) (score a) w fa fa (fin_refl (score a) fa) h.new h.fine;
            fine = finite_ties (score a) h.new h.fine;
          }

  added_behind : (X : List A) (b a : A) (t : Kept A) → Finite score a → Behind X b t → Behind X b (added score same m w a t)
  unfolding added ties_to keep
  added_behind X b a t fa h =
      subst (λ (l : List A). Behind X b (pick (near score w a l && not (has same a t.tied)) (adding (ltb (length t.tied) m) a t) t)) (sym h.best)
      (go (tied_to (score b) w (score a)) refl (has same a t.tied) (ltb (length t.tied) m))
    where
      go : (c : Bool) → tied_to (score b) w (score a) ≡ c → (p r : Bool) → Behind X b (pick (c && not p) (adding r a t) t)
      go false e p r = h
      go true e true r = h
      go true e false false = record { best = h.best; new = h.new; tied = h.tied; near_new = h.near_new; fine = h.fine }
      go true e false true =
          record {
            best = h.best;
            new = h.new ++ (a ∷ []);
            tied = ap (λ (l : List A). l ++ (a ∷ [])) h.tied ∙ append_assoc (ties_to score (score b) w X) h.new (a ∷ []);
            near_new = ties_append score (score b) w h.new (a ∷ []) ∙ ap (λ (l : List A). l ++ ties_to score (score b) w (a ∷ [])) h.near_new ∙ ap (λ (c : Bool). h.new ++ cons_if c a []) e;
            fine = each_append (Finite score) h.new (a ∷ []) h.fine (fa, tt);
          }

  all_behind : (X : List A) (b : A) (t : Kept A) (k : List A) → Each (Finite score) X → Finite score b → Each (Finite score) k → Behind X b t
      → Behind X (champion score b k) (keep_all score same m w t k)
  unfolding keep_all champion keep_one
  all_behind X b t [] fX fb fk h = h
  all_behind X b t (a ∷ k) fX fb fk h =
      all_behind X (lower score a b) (keep_one score same m w t a) k fX (finite_lower score a b fk.0 fb) fk.1
      (added_behind X (lower score a b) a (lowered score same m w a t) fk.0 (lowered_behind X b a t fX fb fk.0 h))

  one_behind : (a : A) → Finite score a → Behind [] a (keep_one score same m w nothing a)
  unfolding keep_one lowered ties_to keep
  one_behind a fa = added_behind [] a a (replaced score w a nothing) fa (record { best = refl; new = []; tied = refl; near_new = refl; fine = tt })

  -- from any state in which all that is tied is within the width
  stays_from : (t : Kept A) (i : A) (k : List A) → Each (Finite score) t.tied → Finite score i → Each (Finite score) k → t.best ≡ i ∷ [] → ties_to score (score i) w t.tied ≡ t.tied
      → (j : A) → (keep_all score same m w t k).best ≡ j ∷ [] → (new : List A) × ((keep_all score same m w t k).tied ≡ ties_to score (score j) w t.tied ++ new)
  unfolding ties_to keep
  stays_from t i k ft fi fk e own j f =
      let h = all_behind t.tied i t k ft fi fk (record { best = e; new = []; tied = sym (append-nil (ties_to score (score i) w t.tied) ∙ own); near_new = refl; fine = tt }) in
      (h.new, h.tied ∙ ap (λ (c : A). ties_to score (score c) w t.tied ++ h.new) (head-eq_of_cons-eq (sym h.best ∙ f)))

  -- WHAT WAS TIED STAYS, IN ITS ORDER, unless a lower incumbent leaves it behind by more than the width; what is added comes behind it
  pub ties_stay : (l k : List A) → Each (Finite score) (l ++ k) → (j : A) → (keep_all score same m w nothing (l ++ k)).best ≡ j ∷ []
      → (new : List A) × ((keep_all score same m w nothing (l ++ k)).tied ≡ ties_to score (score j) w (keep_all score same m w nothing l).tied ++ new)
  unfolding keep_all ties_to keep
  ties_stay [] k h j e = ((keep_all score same m w nothing k).tied, refl)
  ties_stay (a ∷ l) k h j e =
      let (f, g) = append_each (Finite score) (a ∷ l) k h in
      let i : A = champion score a l in
      let first : Behind [] i (keep_all score same m w nothing (a ∷ l)) = all_behind [] a (keep_one score same m w nothing a) l tt f.0 f.1 (one_behind a f.0) in
      let (new, is) = stays_from (keep_all score same m w nothing (a ∷ l)) i k (subst (Each (Finite score)) (sym first.tied) first.fine) (champion_lower score a l f.0 f.1).1 g first.best
      (ap (ties_to score (score i) w) first.tied ∙ first.near_new ∙ sym first.tied) j (ap (λ (t : Kept A). t.best) (sym (keep_append nothing (a ∷ l) k)) ∙ e) in
      (new, ap (λ (t : Kept A). t.tied) (keep_append nothing (a ∷ l) k) ∙ is)

  -- ---- more room for ties

  module _ (n : ℕ) (more : m ≤ n) where
    added_room : (a : A) (t : Kept A) → (added score same m w a t).discarded ≡ false → added score same n w a t ≡ added score same m w a t
    unfolding added
    added_room a t = go (near score w a t.best && not (has same a t.tied)) (ltb (length t.tied) m) refl
      where
        go : (c r : Bool) → ltb (length t.tied) m ≡ r → (pick c (adding r a t) t).discarded ≡ false → pick c (adding (ltb (length t.tied) n) a t) t ≡ pick c (adding r a t) t
        go false r e d = refl
        go true true e d = let h = ltb-true (length t.tied) m e in rw (lt-ltb (length t.tied) n (omega arith)) refl
        go true false e d = absurd (true≢false d)

    one_room : (t : Kept A) (a : A) → (keep_one score same m w t a).discarded ≡ false → keep_one score same n w t a ≡ keep_one score same m w t a
    unfolding keep_one lowered
    one_room t a = added_room a (lowered score same m w a t)

    -- WITH NOTHING DISCARDED MORE ROOM CHANGES NOTHING
    pub room_idle : (t : Kept A) (l : List A) → (keep_all score same m w t l).discarded ≡ false → keep_all score same n w t l ≡ keep_all score same m w t l
    unfolding keep_all
    room_idle t [] d = refl
    room_idle t (a ∷ l) d = ap (λ (k : Kept A). keep_all score same n w k l) (one_room t a (yet (keep_one score same m w t a).discarded refl)) ∙ room_idle (keep_one score same m w t a) l d
      where
        yet : (c : Bool) → (keep_one score same m w t a).discarded ≡ c → (keep_one score same m w t a).discarded ≡ false
        yet true e = absurd (true≢false (sym (stays_all score same m w (keep_one score same m w t a) l e) ∙ d))
        yet false e = e
