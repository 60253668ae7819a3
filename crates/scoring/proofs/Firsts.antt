-- The first of each, in order: which they are, that none comes twice, and the order they stand in.
use mathlib.Core.Path.{◌≡◌, refl, sym, ap, ◌∙◌, subst}
use mathlib.Core.Logic.{◌⊎◌, inl, inr, ⊎_elim}
use mathlib.Core.Bool.{Bool, true, false, true≢false}
use mathlib.Core.List.Memᴰ
use mathlib.Core.List.{List, [], ◌∷◌, ◌++◌, append_assoc, Memᴰ}
use Rattle.ground.specs.Lists.{pick}
use Rattle.ground.proofs.Members.{any_mem}
use Rattle.evaluate.specs.Properties.{Pairs}
use Rattle.evaluate.proofs.Lists.{any_in, pairs_append}
use Rattle.search.specs.Keep.{has}
use Rattle.scoring.proofs.Rule.{onto, firsts, in_onto}

module _ {A : Type 0} where
  mem_split : {x : A} {l : List A} → Memᴰ x l → (u : List A) × (v : List A) × (l ≡ u ++ (x ∷ v))
  mem_split (Memᴰ.head {xs = xs} e) = ([], xs, ap (λ (z : A). z ∷ xs) (sym e))
  mem_split (Memᴰ.tail {x = a} m) = let (u, v, e) = mem_split m in (a ∷ u, v, ap (λ (l : List A). a ∷ l) e)

-- same tells whether two have one key
module _ {A B : Type 0} (same : A → A → Bool) (key : A → B) (told : (x y : A) → same x y ≡ true → key x ≡ key y) (tells : (x y : A) → key x ≡ key y → same x y ≡ true) where
  pub firsts_only : (x : A) (f l : List A) → Memᴰ x (firsts same f l) → Memᴰ x f ⊎ Memᴰ x l
  unfolding firsts
  firsts_only x f [] m = inl m
  firsts_only x f (a ∷ l) m =
      ⊎_elim (λ j. ⊎_elim inl (λ e. inr (Memᴰ.head e)) (in_onto same (has same a f) x f a j)) (λ j. inr (Memᴰ.tail j)) (firsts_only x (onto same a f) l m)

  onto_keeps : (c : Bool) (x : A) (f : List A) (a : A) → Memᴰ x f → Memᴰ x (pick c f (f ++ (a ∷ [])))
  onto_keeps true x f a m = m
  onto_keeps false x f a m = Memᴰ.append_left (a ∷ []) m

  firsts_keeps : (x : A) (f l : List A) → Memᴰ x f → Memᴰ x (firsts same f l)
  unfolding firsts
  firsts_keeps x f [] m = m
  firsts_keeps x f (a ∷ l) m = firsts_keeps x (onto same a f) l (onto_keeps (has same a f) x f a m)

  -- one with the key of x
  abbrev Stands : A → List A → Type 0
  Stands x l = (y : A) × Memᴰ y l × (key y ≡ key x)

  onto_has : (f : List A) (a : A) → Stands a (onto same a f)
  onto_has f a = go (has same a f) refl
    where
      go : (c : Bool) → has same a f ≡ c → Stands a (pick c f (f ++ (a ∷ [])))
      go true e = let r = any_mem (λ b. same b a) f e in (r.0, r.1, told r.0 a r.2)
      go false e = (a, Memᴰ.append_right f (Memᴰ.head refl), refl)

  pub firsts_all : (x : A) (f l : List A) → Memᴰ x l → Stands x (firsts same f l)
  unfolding firsts
  firsts_all x f [] m = absurd (Memᴰ.not-nil m)
  firsts_all x f (a ∷ l) m =
      ⊎_elim (λ e. let r = onto_has f a in (r.0, firsts_keeps r.0 (onto same a f) l r.1, r.2 ∙ ap key (sym e))) (λ j. firsts_all x (onto same a f) l j) (Memᴰ.cases_cons m)

  -- ---- none comes twice, and one stands before another where its key came first

  -- d stands in l before any with the key of e
  abbrev pub Ahead : List A → A → A → Type 0
  Ahead l d e = (u : List A) × (v : List A) × (l ≡ u ++ (d ∷ v)) × ((y : A) → Memᴰ y u → key y ≡ key e → ⊥)

  abbrev pub Other : A → A → Type 0
  Other d e = key d ≡ key e → ⊥

  absent : (f : List A) (a : A) → has same a f ≡ false → (z : A) → Memᴰ z f → key z ≡ key a → ⊥
  absent f a e z m q = true≢false (sym (any_in (λ b. same b a) z (tells z a q) f m) ∙ e)

  pub firsts_once : (f l : List A) → Pairs Other f → Pairs Other (firsts same f l)
  unfolding firsts
  firsts_once f [] h = h
  firsts_once f (a ∷ l) h = firsts_once (onto same a f) l (go (has same a f) refl)
    where
      go : (c : Bool) → has same a f ≡ c → Pairs Other (pick c f (f ++ (a ∷ [])))
      go true e = h
      go false e = pairs_append Other f (a ∷ []) h (tt, tt) (λ z y m n q. absent f a e z m (q ∙ ap key (Memᴰ.eq_of_singleton n)))

  -- after the elements of before, whose firsts are f
  firsts_order : (before f l : List A) → ((x : A) → Memᴰ x f → Memᴰ x before) → ((y : A) → Memᴰ y before → Stands y f) → Pairs (Ahead (before ++ l)) f
      → Pairs (Ahead (before ++ l)) (firsts same f l)
  unfolding firsts
  firsts_order before f [] sub all h = h
  firsts_order before f (a ∷ l) sub all h =
      subst (λ (t : List A). Pairs (Ahead t) (firsts same (onto same a f) l)) whole
      (firsts_order (before ++ (a ∷ [])) (onto same a f) l
      (λ x m. ⊎_elim (λ i. Memᴰ.append_left (a ∷ []) (sub x i)) (λ e. Memᴰ.append_right before (Memᴰ.head e)) (in_onto same (has same a f) x f a m))
      (λ y m. ⊎_elim (λ i. let r = all y i in (r.0, onto_keeps (has same a f) r.0 f a r.1, r.2))
      (λ i. ⊎_elim (λ e. let r = onto_has f a in (r.0, r.1, r.2 ∙ ap key (sym e))) (λ k. absurd (Memᴰ.not-nil k)) (Memᴰ.cases_cons i)) (Memᴰ.append_cases before m))
      (subst (λ (t : List A). Pairs (Ahead t) (onto same a f)) (sym whole) (go (has same a f) refl)))
    where
      whole : before ++ (a ∷ []) ++ l ≡ before ++ (a ∷ l)
      whole = append_assoc before (a ∷ []) l

      ahead : has same a f ≡ false → (d : A) → Memᴰ d f → Ahead (before ++ (a ∷ l)) d a
      ahead e d m =
          let (u, v, q) = mem_split (sub d m) in (
            u,
            v ++ (a ∷ l),
            ap (λ (t : List A). t ++ (a ∷ l)) q ∙ append_assoc u (d ∷ v) (a ∷ l),
            λ y n c. let r = all y (subst (λ (t : List A). Memᴰ y t) (sym q) (Memᴰ.append_left (d ∷ v) n)) in absent f a e r.0 r.1 (r.2 ∙ c),
          )

      go : (c : Bool) → has same a f ≡ c → Pairs (Ahead (before ++ (a ∷ l))) (pick c f (f ++ (a ∷ [])))
      go true e = h
      go false e = pairs_append (Ahead (before ++ (a ∷ l))) f (a ∷ []) h (tt, tt) (λ d y m n. subst (Ahead (before ++ (a ∷ l)) d) (sym (Memᴰ.eq_of_singleton n)) (ahead e d m))

  pub firsts_ahead : (l : List A) → Pairs (Ahead l) (firsts same [] l)
  firsts_ahead l = firsts_order [] [] l (λ x m. m) (λ y m. absurd (Memᴰ.not-nil m)) tt
