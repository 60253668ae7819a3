-- More room for ties loses none: what is tied with room for m is tied with room for n, of the same evaluations. Of each kind of things the
-- larger list has no fewer than the smaller, and at most n - m more.
use Prim.Native.Nat.{ℕ, suc, ◌+◌, ◌≤◌, ◌<◌}
use native.Mathlib.Omega.{arith}
use mathlib.Core.Path.{◌≡◌, refl, sym, ap, ◌∙◌, subst}
use mathlib.Core.Logic.{⊎_elim}
use mathlib.Core.Bool.{Bool, true, false, not, ◌&&◌, true≢false}
use mathlib.Core.List.Memᴰ
use mathlib.Core.List.{List, [], ◌∷◌, ◌++◌, Memᴰ}
use lib.Dec.{ltb}
use lib.ListN.{length}
use lib.Ieee.{Float}
use borrow.Author.Tests.{ltb-true, ltb-false}
use Rattle.ground.specs.Lists.{pick, any, count, keep, cons_if, one_more_if}
use Rattle.ground.proofs.Members.{any_mem}
use Rattle.evaluate.proofs.Lists.{any_in, keep_only, count_none}
use Rattle.search.specs.Keep.{Kept, nothing, tied_to, lowers, near, ties_to, has, adding, replaced, lowered, added, keep_one, keep_all}
use Rattle.scoring.proofs.Rule.{tied_from}

-- ---- counting

module _ {A : Type 0} where
  count_one : (f : A → Bool) (l : List A) (a : A) → count f (l ++ (a ∷ [])) ≡ one_more_if (f a) (count f l)
  unfolding count
  count_one f [] a = refl
  count_one f (x ∷ l) a = go (f x) (f a) (count_one f l a)
    where
      go : (b c : Bool) → count f (l ++ (a ∷ [])) ≡ one_more_if c (count f l) → one_more_if b (count f (l ++ (a ∷ []))) ≡ one_more_if c (one_more_if b (count f l))
      go true true e = ap suc e
      go true false e = ap suc e
      go false c e = e

  count_keep : (f g : A → Bool) (l : List A) → count f (keep g l) ≡ count (λ x. g x && f x) l
  unfolding count keep
  count_keep f g [] = refl
  count_keep f g (x ∷ l) = go (g x) (count_keep f g l)
    where
      go : (b : Bool) → count f (keep g l) ≡ count (λ y. g y && f y) l → count f (cons_if b x (keep g l)) ≡ one_more_if (b && f x) (count (λ y. g y && f y) l)
      go true e = ap (one_more_if (f x)) e
      go false e = e

  -- those that pass and those that do not
  count_other : (f : A → Bool) (l : List A) → count f l + count (λ x. not (f x)) l ≡ length l
  unfolding count
  count_other f [] = refl
  count_other f (x ∷ l) = go (f x) (count_other f l)
    where
      go : (b : Bool) → count f l + count (λ y. not (f y)) l ≡ length l → one_more_if b (count f l) + one_more_if (not b) (count (λ y. not (f y)) l) ≡ suc (length l)
      go true e = omega arith
      go false e = omega arith

  -- of those that pass f, those that pass h and those that do not
  count_split : (f h : A → Bool) (l : List A) → count f l ≡ count (λ x. not (h x) && f x) l + count (λ x. h x && f x) l
  unfolding count
  count_split f h [] = refl
  count_split f h (x ∷ l) = go (f x) (h x) (count_split f h l)
    where
      go : (b c : Bool) → count f l ≡ count (λ y. not (h y) && f y) l + count (λ y. h y && f y) l
          → one_more_if b (count f l) ≡ one_more_if (not c && b) (count (λ y. not (h y) && f y) l) + one_more_if (c && b) (count (λ y. h y && f y) l)
      go true true e = omega arith
      go true false e = omega arith
      go false true e = e
      go false false e = e

  count_in : (f : A → Bool) (x : A) (l : List A) → Memᴰ x l → f x ≡ true → 0 < count f l
  unfolding count
  count_in f x [] m e = absurd (Memᴰ.not-nil m)
  count_in f x (y ∷ l) m e = ⊎_elim (λ q. let z : f y ≡ true = ap f (sym q) ∙ e in rw z (omega arith)) (λ k. go (f y) (count_in f x l k e)) (Memᴰ.cases_cons m)
    where
      go : (b : Bool) → 0 < count f l → 0 < one_more_if b (count f l)
      go true h = omega arith
      go false h = h

  -- none passes a test that any fails
  absent : (h : A → Bool) (l : List A) → any h l ≡ false → (r : A) → Memᴰ r l → h r ≡ false
  absent h l e r m = go (h r) refl
    where
      go : (b : Bool) → h r ≡ b → h r ≡ false
      go true q = absurd (true≢false (sym (any_in h r q l m) ∙ e))
      go false q = q

  none_of : (f h : A → Bool) (l : List A) → any h l ≡ false → count (λ x. h x && f x) l ≡ 0
  none_of f h l e = count_none (λ x. h x && f x) l (λ r m. ap (λ (b : Bool). b && f r) (absent h l e r m))

-- ---- the two lists side by side

module _ {A : Type 0} (score : A → Float) (same : A → A → Bool) (m n : ℕ) (w : Float) (all : List A)
    (self : (x : A) → same x x ≡ true) (one : (x y : A) → Memᴰ x all → Memᴰ y all → same x y ≡ true → x ≡ y) where
  -- t with room for m, u with room for n
  record Within (t u : Kept A) : Type 0 where
    best : u.best ≡ t.best
    from : (x : A) → Memᴰ x u.tied → Memᴰ x all
    few : (f : A → Bool) → count f t.tied ≤ count f u.tied
    most : (f : A → Bool) → count f u.tied + m ≤ count f t.tied + n

  lowered_within : (a : A) (t u : Kept A) → Within t u → Within (lowered score same m w a t) (lowered score same n w a u)
  unfolding lowered ties_to
  lowered_within a t u h =
      subst (λ (l : List A). Within (pick (lowers score a t.best) (replaced score w a t) t) (pick (lowers score a l) (replaced score w a u) u)) (sym h.best) (go (lowers score a t.best))
    where
      go : (c : Bool) → Within (pick c (replaced score w a t) t) (pick c (replaced score w a u) u)
      go false = h
      go true =
          record {
            best = refl;
            from = λ x i. h.from x (keep_only (λ y. tied_to (score a) w (score y)) x u.tied i).0;
            few = λ f.
                let e = count_keep f (λ y. tied_to (score a) w (score y)) t.tied in
                let d = count_keep f (λ y. tied_to (score a) w (score y)) u.tied in
                let k = h.few (λ y. tied_to (score a) w (score y) && f y) in
                omega arith;
            most = λ f.
                let e = count_keep f (λ y. tied_to (score a) w (score y)) t.tied in
                let d = count_keep f (λ y. tied_to (score a) w (score y)) u.tied in
                let k = h.most (λ y. tied_to (score a) w (score y) && f y) in
                omega arith;
          }

  -- what one more changes of a count
  module _ (a : A) (t u : Kept A) (h : Within t u) (in_all : Memᴰ a all) where
    abbrev of_a : A → Bool
    of_a x = same x a

    from_added : (x : A) → Memᴰ x (u.tied ++ (a ∷ [])) → Memᴰ x all
    from_added x i = ⊎_elim (h.from x) (λ k. Memᴰ.cast (Memᴰ.eq_of_singleton k) in_all) (Memᴰ.append_cases u.tied i)

    grows : (b : Bool) (k l : ℕ) → k ≤ l → one_more_if b k ≤ one_more_if b l
    grows true k l e = omega arith
    grows false k l e = e

    -- the smaller list gets what the larger had
    few_had : has same a t.tied ≡ false → has same a u.tied ≡ true → (f : A → Bool) → one_more_if (f a) (count f t.tied) ≤ count f u.tied
    few_had e d f = go (f a) refl
      where
        y : (x : A) × Memᴰ x u.tied × (of_a x ≡ true)
        y = any_mem of_a u.tied d

        there : Memᴰ a u.tied
        there = Memᴰ.cast (sym (one y.0 a (h.from y.0 y.1) in_all y.2)) y.1

        both_true : (b c : Bool) → b ≡ true → c ≡ true → (b && c) ≡ true
        both_true b c p r = rw (p, r)

        go : (b : Bool) → f a ≡ b → one_more_if b (count f t.tied) ≤ count f u.tied
        go false q = h.few f
        go true q =
            let i = count_split f of_a t.tied in
            let j = count_split f of_a u.tied in
            let z = none_of f of_a t.tied e in
            let k = h.few (λ x. not (of_a x) && f x) in
            let p = count_in (λ x. of_a x && f x) a u.tied there (both_true (of_a a) (f a) (self a) q) in
            omega arith

    -- the larger list gets what the smaller has no room for
    most_more : m ≤ length t.tied → length u.tied < n → (f : A → Bool) → one_more_if (f a) (count f u.tied) + m ≤ count f t.tied + n
    most_more full room f = go (f a)
      where
        go : (b : Bool) → one_more_if b (count f u.tied) + m ≤ count f t.tied + n
        go false = h.most f
        go true =
            let i = count_other f t.tied in
            let j = count_other f u.tied in
            let k = h.few (λ x. not (f x)) in
            omega arith

    one_more : (b : Bool) (k l : ℕ) → k + m ≤ l + n → one_more_if b k + m ≤ one_more_if b l + n
    one_more true k l e = omega arith
    one_more false k l e = e

    more_one : (b : Bool) (k : ℕ) → k ≤ one_more_if b k
    more_one true k = omega arith
    more_one false k = omega arith

    both_all : length u.tied + m ≤ length t.tied + n
    both_all = let k = h.most (λ x. true) in let i = all_counted t.tied in let j = all_counted u.tied in omega arith
      where
        all_counted : (l : List A) → count (λ (x : A). true) l ≡ length l
        all_counted l = let i = count_other (λ (x : A). true) l in let z = count_none (λ (x : A). false) l (λ r k. refl) in omega arith

    added_within : Within (added score same m w a t) (added score same n w a u)
    unfolding added
    added_within =
        subst (λ (l : List A). Within (pick (near score w a t.best && not (has same a t.tied)) (adding (ltb (length t.tied) m) a t) t) (pick (near score w a l && not (has same a u.tied)) (adding (ltb (length u.tied) n) a u) u))
        (sym h.best)
        (go (near score w a t.best) (has same a t.tied) refl (has same a u.tied) refl (ltb (length t.tied) m) refl (ltb (length u.tied) n) refl)
      where
        go : (c p : Bool) → has same a t.tied ≡ p → (q : Bool) → has same a u.tied ≡ q → (r : Bool) → ltb (length t.tied) m ≡ r → (s : Bool) → ltb (length u.tied) n ≡ s
            → Within (pick (c && not p) (adding r a t) t) (pick (c && not q) (adding s a u) u)
        go false p e q d r g s k = h
        go true true e true d r g s k = h
        go true true e false d r g s k =
            let y = any_mem of_a t.tied e in
            let i = count_in of_a y.0 t.tied y.1 y.2 in
            let j = count_none of_a u.tied (absent of_a u.tied d) in
            let l = h.few of_a in
            absurd (let z : ⊥ = omega arith in z)
        go true false e true d true g s k =
            record {
              best = h.best;
              from = h.from;
              few = λ f. rw (count_one f t.tied a) (few_had e d f);
              most = λ f. let i = count_one f t.tied a in let j = more_one (f a) (count f t.tied) in let l = h.most f in omega arith;
            }
        go true false e true d false g s k = record { best = h.best; from = h.from; few = h.few; most = h.most }
        go true false e false d true g true k =
            record {
              best = h.best;
              from = from_added;
              few = λ f. rw (count_one f t.tied a, count_one f u.tied a) (grows (f a) (count f t.tied) (count f u.tied) (h.few f));
              most = λ f. rw (count_one f t.tied a, count_one f u.tied a) (one_more (f a) (count f u.tied) (count f t.tied) (h.most f));
            }
        go true false e false d true g false k =
            let i = ltb-true (length t.tied) m g in
            let j = ltb-false (length u.tied) n k in
            let l = both_all in
            absurd (let z : ⊥ = omega arith in z)
        go true false e false d false g true k =
            record {
              best = h.best;
              from = from_added;
              few = λ f. let i = count_one f u.tied a in let j = more_one (f a) (count f u.tied) in let l = h.few f in omega arith;
              most = λ f. rw (count_one f u.tied a) (most_more (ltb-false (length t.tied) m g) (ltb-true (length u.tied) n k) f);
            }
        go true false e false d false g false k = record { best = h.best; from = h.from; few = h.few; most = h.most }

  one_within : (t u : Kept A) (a : A) → Memᴰ a all → Within t u → Within (keep_one score same m w t a) (keep_one score same n w u a)
  unfolding keep_one
  one_within t u a i h = added_within a (lowered score same m w a t) (lowered score same n w a u) (lowered_within a t u h) i

  all_within : (t u : Kept A) (l : List A) → ((x : A) → Memᴰ x l → Memᴰ x all) → Within t u → Within (keep_all score same m w t l) (keep_all score same n w u l)
  unfolding keep_all
  all_within t u [] i h = h
  all_within t u (a ∷ l) i h =
      all_within (keep_one score same m w t a) (keep_one score same n w u a) l (λ x k. i x (Memᴰ.tail k)) (one_within t u a (i a (Memᴰ.head refl)) h)

  nothing_within : m ≤ n → Within nothing nothing
  unfolding count
  nothing_within more = record { best = refl; from = λ x i. absurd (Memᴰ.not-nil i); few = λ f. omega arith; most = λ f. omega arith }

  -- MORE ROOM LOSES NONE
  pub room_loses_none : m ≤ n → (x : A) → Memᴰ x (keep_all score same m w nothing all).tied → Memᴰ x (keep_all score same n w nothing all).tied
  room_loses_none more x i =
      let h = all_within nothing nothing all (λ y k. k) (nothing_within more) in
      let k = count_in (λ y. same y x) x (keep_all score same m w nothing all).tied i (self x) in
      let l = h.few (λ y. same y x) in
      let (y, j, e) = any_mem (λ y. same y x) (keep_all score same n w nothing all).tied (some (any (λ y. same y x) (keep_all score same n w nothing all).tied) refl (omega arith)) in
      Memᴰ.cast (sym (one y x (h.from y j) (⊎_elim (λ z. absurd (Memᴰ.not-nil z)) (λ z. z) (tied_from score same m w nothing all x i)) e)) j
    where
      some : (b : Bool) → any (λ y. same y x) (keep_all score same n w nothing all).tied ≡ b → 0 < count (λ y. same y x) (keep_all score same n w nothing all).tied → any (λ y. same y x) (keep_all score same n w nothing all).tied ≡ true
      some true e k = e
      some false e k =
          let z = count_none (λ y. same y x) (keep_all score same n w nothing all).tied (absent (λ y. same y x) (keep_all score same n w nothing all).tied e) in
          absurd (let f : ⊥ = omega arith in f)
