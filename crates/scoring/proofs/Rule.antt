-- What a run of the keep rule comes to, for any things with a score.
use Prim.Native.Nat.{ℕ}
use mathlib.Core.Path.{◌≡◌, refl, sym, ap, ◌∙◌, subst}
use mathlib.Core.Logic.{◌⊎◌, inl, inr, ⊎_elim}
use mathlib.Core.Bool.{Bool, true, false, not, ◌&&◌, ◌||◌, true≢false}
use mathlib.Core.List.Memᴰ
use mathlib.Core.List.{List, [], ◌∷◌, ◌++◌, append-nil, Memᴰ}
use lib.Dec.{T, ltb}
use lib.ListN.{length}
use lib.Ieee as Ieee
use lib.Ieee.{Float, binary64}
use lib.Ieee.Scale.{finite}
use Rattle.ground.specs.Lists.{pick, any, keep, cons_if}
use Rattle.evaluate.specs.Properties.{Each}
use Rattle.evaluate.proofs.Lists.{each_append, keep_only}
use Rattle.search.specs.Keep.{Kept, nothing, tied_to, lowers, near, ties_to, has, adding, replaced, lowered, added, keep_one, keep_all}
use Rattle.doubles.proofs.Order.{lt→le, not_lt→le, le_trans_float}
use Rattle.doubles.proofs.Sub.{fin_refl, finite_real, stays_over}

module _ {A : Type 0} (score : A → Float) where
  abbrev pub Finite : A → Type 0
  Finite a = T (finite (score a))

  -- the first of the least score
  abbrev pub lower : A → A → A
  lower a b = pick (Ieee.lt (score a) (score b)) a b

  unfoldable pub champion : A → List A → A
  champion b [] = b
  champion b (a ∷ l) = champion (lower a b) l

  pub ties_append : (inc w : Float) (xs ys : List A) → ties_to score inc w (xs ++ ys) ≡ ties_to score inc w xs ++ ties_to score inc w ys
  unfolding ties_to keep
  ties_append inc w [] ys = refl
  ties_append inc w (x ∷ xs) ys = go (tied_to inc w (score x)) (ties_append inc w xs ys)
    where
      go : (b : Bool) → ties_to score inc w (xs ++ ys) ≡ ties_to score inc w xs ++ ties_to score inc w ys
          → cons_if b x (ties_to score inc w (xs ++ ys)) ≡ cons_if b x (ties_to score inc w xs) ++ ties_to score inc w ys
      go true ih = ap (λ (l : List A). x ∷ l) ih
      go false ih = ih

  -- what an incumbent dropped, a lower one drops too
  pub ties_ties : (m s w : Float) → T (finite m) → T (finite s) → T (Ieee.le s m) → (xs : List A) → Each Finite xs → ties_to score s w (ties_to score m w xs) ≡ ties_to score s w xs
  unfolding ties_to keep
  ties_ties m s w pm ps l [] h = refl
  ties_ties m s w pm ps l (x ∷ xs) h =
      go (tied_to m w (score x)) (tied_to s w (score x)) (stays_over binary64 (score x) m s w h.0 pm ps l) refl (ties_ties m s w pm ps l xs h.1)
    where
      go : (a b : Bool) → (T (not a) → T (not b)) → tied_to s w (score x) ≡ b → ties_to score s w (ties_to score m w xs) ≡ ties_to score s w xs
          → ties_to score s w (cons_if a x (ties_to score m w xs)) ≡ cons_if b x (ties_to score s w xs)
      go true b f e ih = rw e (ap (cons_if b x) ih)
      go false true f e ih = absurd (f tt)
      go false false f e ih = ih

  -- ---- the champion is one of them, and no score is less

  pub finite_lower : (a b : A) → Finite a → Finite b → Finite (lower a b)
  finite_lower a b p q = go (Ieee.lt (score a) (score b))
    where
      go : (c : Bool) → Finite (pick c a b)
      go true = p
      go false = q

  pub champion_below : (b : A) (l : List A) → Finite b → Each Finite l → T (Ieee.le (score (champion b l)) (score b))
  unfolding champion
  champion_below b [] p h = fin_refl (score b) p
  champion_below b (a ∷ l) p h =
      le_trans_float (score (champion (lower a b) l)) (score (lower a b)) (score b) (champion_below (lower a b) l (finite_lower a b h.0 p) h.1) (go (Ieee.lt (score a) (score b)) (lt→le (score a) (score b)))
    where
      go : (c : Bool) → (T c → T (Ieee.le (score a) (score b))) → T (Ieee.le (score (pick c a b)) (score b))
      go true f = f tt
      go false f = fin_refl (score b) p

  champion_all : (b : A) (l : List A) → Finite b → Each Finite l → Each (λ x. T (Ieee.le (score (champion b l)) (score x))) l
  unfolding champion
  champion_all b [] p h = tt
  champion_all b (a ∷ l) p h =
      let q = finite_lower a b h.0 p in (
        le_trans_float (score (champion (lower a b) l)) (score (lower a b)) (score a) (champion_below (lower a b) l q h.1)
            (go (Ieee.lt (score a) (score b)) (not_lt→le (score b) (score a) (finite_real (score b) p) (finite_real (score a) h.0))),
        champion_all (lower a b) l q h.1,
      )
    where
      go : (c : Bool) → (T (not c) → T (Ieee.le (score b) (score a))) → T (Ieee.le (score (pick c a b)) (score a))
      go true f = fin_refl (score a) h.0
      go false f = f tt

  pub champion_least : (b : A) (l : List A) → Each Finite (b ∷ l) → Each (λ x. T (Ieee.le (score (champion b l)) (score x))) (b ∷ l)
  champion_least b l h = (champion_below b l h.0 h.1, champion_all b l h.0 h.1)

  champion_from : (b : A) (l : List A) → (champion b l ≡ b) ⊎ Memᴰ (champion b l) l
  unfolding champion
  champion_from b [] = inl refl
  champion_from b (a ∷ l) = go (Ieee.lt (score a) (score b)) (λ c. champion_from (pick c a b) l)
    where
      go : (c : Bool) → ((e : Bool) → (champion (pick e a b) l ≡ pick e a b) ⊎ Memᴰ (champion (pick e a b) l) l)
          → (champion (pick c a b) l ≡ b) ⊎ Memᴰ (champion (pick c a b) l) (a ∷ l)
      go true k = ⊎_elim (λ e. inr (Memᴰ.head e)) (λ i. inr (Memᴰ.tail i)) (k true)
      go false k = ⊎_elim (λ e. inl e) (λ i. inr (Memᴰ.tail i)) (k false)

  pub champion_one : (b : A) (l : List A) → Memᴰ (champion b l) (b ∷ l)
  champion_one b l = ⊎_elim (λ e. Memᴰ.head e) (λ i. Memᴰ.tail i) (champion_from b l)

-- the first of each, in order, after those in f
module _ {A : Type 0} (same : A → A → Bool) where
  abbrev pub onto : A → List A → List A
  onto a f = pick (has same a f) f (f ++ (a ∷ []))

  unfoldable pub firsts : List A → List A → List A
  firsts f [] = f
  firsts f (a ∷ l) = firsts (onto a f) l

  -- what is in the one is in the other, or is the new one
  pub in_onto : (c : Bool) (x : A) (f : List A) (a : A) → Memᴰ x (pick c f (f ++ (a ∷ []))) → Memᴰ x f ⊎ (x ≡ a)
  in_onto true x f a i = inl i
  in_onto false x f a i = ⊎_elim inl (λ j. ⊎_elim inr (λ k. absurd (Memᴰ.not-nil k)) (Memᴰ.cases_cons j)) (Memᴰ.append_cases f i)

module _ {A : Type 0} (score : A → Float) (same : A → A → Bool) (m : ℕ) (w : Float) where
  -- ---- the incumbent, whatever was discarded

  best_added : (a : A) (t : Kept A) → (added score same m w a t).best ≡ t.best
  unfolding added
  best_added a t = go (near score w a t.best && not (has same a t.tied)) (ltb (length t.tied) m)
    where
      go : (b c : Bool) → (pick b (adding c a t) t).best ≡ t.best
      go true true = refl
      go true false = refl
      go false c = refl

  pub best_keep : (t : Kept A) (b a : A) → t.best ≡ b ∷ [] → (keep_one score same m w t a).best ≡ lower score a b ∷ []
  unfolding keep_one lowered
  best_keep t b a e =
      best_added a (lowered score same m w a t) ∙ ap (λ (l : List A). (pick (lowers score a l) (replaced score w a t) t).best) e ∙ go (Ieee.lt (score a) (score b))
    where
      go : (c : Bool) → (pick c (replaced score w a t) t).best ≡ pick c a b ∷ []
      go true = refl
      go false = e

  best_all : (t : Kept A) (b : A) (l : List A) → t.best ≡ b ∷ [] → (keep_all score same m w t l).best ≡ champion score b l ∷ []
  unfolding keep_all champion
  best_all t b [] e = e
  best_all t b (a ∷ l) e = best_all (keep_one score same m w t a) (lower score a b) l (best_keep t b a e)

  -- THE INCUMBENT
  pub incumbent : (a : A) (l : List A) → (keep_all score same m w nothing (a ∷ l)).best ≡ champion score a l ∷ []
  unfolding keep_all keep_one lowered
  incumbent a l = best_all (keep_one score same m w nothing a) a l (best_added a (replaced score w a nothing))

  -- ---- once discarded, discarded

  stays_added : (a : A) (t : Kept A) → t.discarded ≡ true → (added score same m w a t).discarded ≡ true
  unfolding added
  stays_added a t e = go (near score w a t.best && not (has same a t.tied)) (ltb (length t.tied) m)
    where
      go : (b c : Bool) → (pick b (adding c a t) t).discarded ≡ true
      go true true = e
      go true false = refl
      go false c = e

  stays_keep : (t : Kept A) (a : A) → t.discarded ≡ true → (keep_one score same m w t a).discarded ≡ true
  unfolding keep_one lowered
  stays_keep t a e = stays_added a (lowered score same m w a t) (go (lowers score a t.best))
    where
      go : (c : Bool) → (pick c (replaced score w a t) t).discarded ≡ true
      go true = e
      go false = e

  pub stays_all : (t : Kept A) (l : List A) → t.discarded ≡ true → (keep_all score same m w t l).discarded ≡ true
  unfolding keep_all
  stays_all t [] e = e
  stays_all t (a ∷ l) e = stays_all (keep_one score same m w t a) l (stays_keep t a e)

  -- ---- equal ones have equal scores

  abbrev Agree : A → List A → Type 0
  Agree a l = Each (λ x. same x a ≡ true → score x ≡ score a) l

  -- within the width, what is kept has all that are the same
  has_kept : (inc : Float) (a : A) (l : List A) → Agree a l → tied_to inc w (score a) ≡ true → has same a (ties_to score inc w l) ≡ has same a l
  unfolding ties_to keep any
  has_kept inc a [] h t = refl
  has_kept inc a (x ∷ l) h t = go (tied_to inc w (score x)) (same x a) refl refl (has_kept inc a l h.1 t)
    where
      go : (b c : Bool) → tied_to inc w (score x) ≡ b → same x a ≡ c → has same a (ties_to score inc w l) ≡ has same a l
          → has same a (cons_if b x (ties_to score inc w l)) ≡ (c || has same a l)
      go true c e f ih = rw f (ap (λ (z : Bool). c || z) ih)
      go false true e f ih = absurd (true≢false (sym t ∙ ap (tied_to inc w) (sym (h.0 f)) ∙ e))
      go false false e f ih = ih

  abbrev at : A → List A → Kept A
  at b f = record { best = b ∷ []; tied = ties_to score (score b) w f; discarded = false }

  added_is : (b : A) (f : List A) (a : A) → Agree a f → (added score same m w a (at b f)).discarded ≡ false → added score same m w a (at b f) ≡ at b (onto same a f)
  unfolding added ties_to keep
  added_is b f a h = go (tied_to (score b) w (score a)) refl
    where
      t : Kept A
      t = at b f

      room : Bool
      room = ltb (length (ties_to score (score b) w f)) m

      one : (c : Bool) → tied_to (score b) w (score a) ≡ c → ties_to score (score b) w (f ++ (a ∷ [])) ≡ ties_to score (score b) w f ++ cons_if c a []
      one c e = ties_append score (score b) w f (a ∷ []) ∙ ap (λ (d : Bool). ties_to score (score b) w f ++ cons_if d a []) e

      full : (r : Bool) → tied_to (score b) w (score a) ≡ true → (adding r a t).discarded ≡ false → adding r a t ≡ at b (f ++ (a ∷ []))
      full true e d = ap (λ (l : List A). record { best = b ∷ []; tied = l; discarded = false }) (sym (one true e))
      full false e d = absurd (true≢false d)

      inner : (c : Bool) → tied_to (score b) w (score a) ≡ true → (pick (not c) (adding room a t) t).discarded ≡ false → pick (not c) (adding room a t) t ≡ at b (pick c f (f ++ (a ∷ [])))
      inner true e d = refl
      inner false e d = full room e d

      far : (c : Bool) → tied_to (score b) w (score a) ≡ false → t ≡ at b (pick c f (f ++ (a ∷ [])))
      far true e = refl
      far false e = ap (λ (l : List A). record { best = b ∷ []; tied = l; discarded = false }) (sym (one false e ∙ append-nil (ties_to score (score b) w f)))

      go : (c : Bool) → tied_to (score b) w (score a) ≡ c → (pick (c && not (has same a (ties_to score (score b) w f))) (adding room a t) t).discarded ≡ false
          → pick (c && not (has same a (ties_to score (score b) w f))) (adding room a t) t ≡ at b (onto same a f)
      go true e =
          subst (λ (c : Bool). (pick (not c) (adding room a t) t).discarded ≡ false → pick (not c) (adding room a t) t ≡ at b (onto same a f)) (sym (has_kept (score b) a f h e))
          (inner (has same a f) e)
      go false e = λ d. far (has same a f) e

  lowered_is : (b : A) (f : List A) (a : A) → Finite score b → Finite score a → Each (Finite score) f → lowered score same m w a (at b f) ≡ at (lower score a b) f
  unfolding lowered
  lowered_is b f a pb pa h = go (Ieee.lt (score a) (score b)) (λ t. ties_ties score (score b) (score a) w pb pa (lt→le (score a) (score b) t) f h)
    where
      go : (c : Bool) → (T c → ties_to score (score a) w (ties_to score (score b) w f) ≡ ties_to score (score a) w f) → pick c (replaced score w a (at b f)) (at b f) ≡ at (pick c a b) f
      go true k = ap (λ (l : List A). record { best = a ∷ []; tied = l; discarded = false }) (k tt)
      go false k = refl

  finites_onto : (c : Bool) (f : List A) (a : A) → Each (Finite score) f → Finite score a → Each (Finite score) (pick c f (f ++ (a ∷ [])))
  finites_onto true f a h p = h
  finites_onto false f a h p = each_append (Finite score) f (a ∷ []) h (p, tt)

  agree_of : (a : A) (f : List A) → ((x : A) → Memᴰ x f → same x a ≡ true → score x ≡ score a) → Agree a f
  agree_of a [] h = tt
  agree_of a (x ∷ f) h = (h x (Memᴰ.head refl), agree_of a f (λ y i. h y (Memᴰ.tail i)))

  -- any two of l that are the same have one score
  abbrev pub OneScore : List A → Type 0
  OneScore l = (x y : A) → Memᴰ x l → Memᴰ y l → same x y ≡ true → score x ≡ score y

  keep_is : (b : A) (f : List A) (a : A) → Finite score b → Finite score a → Each (Finite score) f
      → keep_one score same m w (at b f) a ≡ added score same m w a (at (lower score a b) f)
  unfolding keep_one
  keep_is b f a pb pa h = ap (added score same m w a) (lowered_is b f a pb pa h)

  run_is : (b : A) (f rest : List A) → Finite score b → Each (Finite score) f → Each (Finite score) rest
      → ((x y : A) → Memᴰ x f ⊎ Memᴰ x rest → Memᴰ y rest → same x y ≡ true → score x ≡ score y)
      → (keep_all score same m w (at b f) rest).discarded ≡ false → keep_all score same m w (at b f) rest ≡ at (champion score b rest) (firsts same f rest)
  unfolding keep_all champion firsts
  run_is b f [] pb h k u d = refl
  run_is b f (a ∷ rest) pb h k u d =
      go (added score same m w a (at (lower score a b) f)).discarded refl
      (run_is (lower score a b) (onto same a f) rest (finite_lower score a b k.0 pb) (finites_onto (has same a f) f a h k.0) k.1
      (λ x y i j. u x y (⊎_elim (λ z. ⊎_elim inl (λ e. inr (Memᴰ.head e)) (in_onto same (has same a f) x f a z)) (λ z. inr (Memᴰ.tail z)) i) (Memᴰ.tail j)))
    where
      c : A
      c = lower score a b

      low : keep_one score same m w (at b f) a ≡ added score same m w a (at (lower score a b) f)
      low = keep_is b f a pb k.0 h

      go : (e : Bool) → (added score same m w a (at (lower score a b) f)).discarded ≡ e
          → ((keep_all score same m w (at (lower score a b) (onto same a f)) rest).discarded ≡ false
          → keep_all score same m w (at (lower score a b) (onto same a f)) rest ≡ at (champion score (lower score a b) rest) (firsts same (onto same a f) rest))
          → keep_all score same m w (keep_one score same m w (at b f) a) rest ≡ at (champion score (lower score a b) rest) (firsts same (onto same a f) rest)
      go true e ih = absurd (true≢false (sym (stays_all (keep_one score same m w (at b f) a) rest (ap (λ (t : Kept A). t.discarded) low ∙ e)) ∙ d))
      go false e ih =
          let s : keep_one score same m w (at b f) a ≡ at (lower score a b) (onto same a f) = low ∙ added_is (lower score a b) f a (agree_of a f (λ x i. u x a (inl i) (Memᴰ.head refl))) e in
          ap (λ (t : Kept A). keep_all score same m w t rest) s ∙ ih (sym (ap (λ (t : Kept A). (keep_all score same m w t rest).discarded) s) ∙ d)

  -- THE TIED LIST, where nothing was discarded: of the first of each, in order, those that tie with the incumbent
  pub scoring : (a : A) (l : List A) → Each (Finite score) (a ∷ l) → OneScore (a ∷ l) → (keep_all score same m w nothing (a ∷ l)).discarded ≡ false
      → (keep_all score same m w nothing (a ∷ l)).tied ≡ ties_to score (score (champion score a l)) w (firsts same [] (a ∷ l))
  unfolding keep_all keep_one lowered firsts ties_to keep any
  scoring a l h u d = ap (λ (t : Kept A). t.tied) (go (added score same m w a (at a [])).discarded refl)
    where
      go : (c : Bool) → (added score same m w a (at a [])).discarded ≡ c → keep_all score same m w nothing (a ∷ l) ≡ at (champion score a l) (firsts same [] (a ∷ l))
      go true e = absurd (true≢false (sym (stays_all (keep_one score same m w nothing a) l e) ∙ d))
      go false e =
          let s : keep_one score same m w nothing a ≡ at a (a ∷ []) = added_is a [] a tt e in
          ap (λ (t : Kept A). keep_all score same m w t l) s ∙ run_is a (a ∷ []) l h.0 (h.0, tt) h.1
          (λ x y i j. u x y (⊎_elim (λ z. ⊎_elim (λ e. Memᴰ.head e) (λ z. absurd (Memᴰ.not-nil z)) (Memᴰ.cases_cons z)) (λ z. Memᴰ.tail z) i) (Memᴰ.tail j))
          (sym (ap (λ (t : Kept A). (keep_all score same m w t l).discarded) s) ∙ d)

  -- ---- discarded or not, what is in the tied list was offered

  added_from : (a : A) (t : Kept A) (x : A) → Memᴰ x (added score same m w a t).tied → Memᴰ x t.tied ⊎ (x ≡ a)
  unfolding added
  added_from a t x = go (near score w a t.best && not (has same a t.tied)) (ltb (length t.tied) m)
    where
      go : (b c : Bool) → Memᴰ x (pick b (adding c a t) t).tied → Memᴰ x t.tied ⊎ (x ≡ a)
      go true true i = ⊎_elim inl (λ j. inr (Memᴰ.eq_of_singleton j)) (Memᴰ.append_cases t.tied i)
      go true false i = inl i
      go false c i = inl i

  lowered_from : (a : A) (t : Kept A) (x : A) → Memᴰ x (lowered score same m w a t).tied → Memᴰ x t.tied
  unfolding lowered ties_to
  lowered_from a t x = go (lowers score a t.best)
    where
      go : (c : Bool) → Memᴰ x (pick c (replaced score w a t) t).tied → Memᴰ x t.tied
      go true i = (keep_only (λ y. tied_to (score a) w (score y)) x t.tied i).0
      go false i = i

  pub tied_from : (t : Kept A) (l : List A) (x : A) → Memᴰ x (keep_all score same m w t l).tied → Memᴰ x t.tied ⊎ Memᴰ x l
  unfolding keep_all keep_one
  tied_from t [] x i = inl i
  tied_from t (a ∷ l) x i =
      ⊎_elim
      (λ j. ⊎_elim (λ k. inl (lowered_from a t x k)) (λ e. inr (Memᴰ.head e)) (added_from a (lowered score same m w a t) x j))
      (λ j. inr (Memᴰ.tail j))
      (tied_from (keep_one score same m w t a) l x i)
