-- Laws of Each, Pairs, Neighbours and Matched, of members, and of what a count cuts off where a test, once failed, fails from there on.
use Prim.Native.Nat.{ℕ, zero, suc}
use mathlib.Core.Path.{◌≡◌, refl, sym, ◌∙◌, ap, subst}
use mathlib.Core.Logic.{◌⊎◌, inl, inr, ⊎_elim}
use mathlib.Core.Bool.{Bool, true, false, ◌||◌, true≢false}
use mathlib.Core.List.{List, [], ◌∷◌, ◌++◌, map, reverse_aux, Memᴰ}
use lib.ListN.{take, drop}
use Rattle.ground.specs.Lists.{any, count, keep, one_more_if, cons_if, after, rising}
use Rattle.ground.proofs.ListLaws.{both}
use Rattle.ground.proofs.Members.{mem_take, mem_drop}
use Rattle.evaluate.specs.Properties.{Each, Pairs, Neighbours, Matched}

-- ---- members

module _ {A : Type 0} where
  pub mem_reverse : (l r : List A) {x : A} → Memᴰ x (reverse_aux l r) → Memᴰ x l ⊎ Memᴰ x r
  mem_reverse [] r m = inr m
  mem_reverse (a ∷ l) r {x} m = go (mem_reverse l (a ∷ r) m)
    where
      last : (x ≡ a) ⊎ Memᴰ x r → Memᴰ x (a ∷ l) ⊎ Memᴰ x r
      last (inl e) = inl (mathlib.Core.List.Memᴰ.head e)
      last (inr k) = inr k

      go : Memᴰ x l ⊎ Memᴰ x (a ∷ r) → Memᴰ x (a ∷ l) ⊎ Memᴰ x r
      go (inl k) = inl (mathlib.Core.List.Memᴰ.tail k)
      go (inr k) = last (mathlib.Core.List.Memᴰ.cases_cons k)

  mem_reverse_right : (l : List A) {r : List A} {x : A} → Memᴰ x r → Memᴰ x (reverse_aux l r)
  mem_reverse_right [] m = m
  mem_reverse_right (a ∷ l) m = mem_reverse_right l (mathlib.Core.List.Memᴰ.tail m)

  pub mem_reverse_in : (l r : List A) {x : A} → Memᴰ x l → Memᴰ x (reverse_aux l r)
  mem_reverse_in [] r m = absurd (mathlib.Core.List.Memᴰ.not-nil m)
  mem_reverse_in (a ∷ l) r {x} m = go (mem_reverse_in l (a ∷ r)) (mathlib.Core.List.Memᴰ.cases_cons m)
    where
      go : (Memᴰ x l → Memᴰ x (reverse_aux l (a ∷ r))) → (x ≡ a) ⊎ Memᴰ x l → Memᴰ x (reverse_aux l (a ∷ r))
      go f (inl e) = mem_reverse_right l (mathlib.Core.List.Memᴰ.head e)
      go f (inr k) = f k

  pub mem_map : {B : Type 0} (f : A → B) (l : List A) {y : B} → Memᴰ y (map f l) → (x : A) × Memᴰ x l × (y ≡ f x)
  mem_map f [] m = absurd (mathlib.Core.List.Memᴰ.not-nil m)
  mem_map f (a ∷ l) {y} m = go (mem_map f l) (mathlib.Core.List.Memᴰ.cases_cons m)
    where
      go : (Memᴰ y (map f l) → (x : A) × Memᴰ x l × (y ≡ f x)) → (y ≡ f a) ⊎ Memᴰ y (map f l) → (x : A) × Memᴰ x (a ∷ l) × (y ≡ f x)
      go k (inl e) = (a, mathlib.Core.List.Memᴰ.head refl, e)
      go k (inr r) = let s = k r in (s.0, mathlib.Core.List.Memᴰ.tail s.1, s.2)

  pub mem_map_in : {B : Type 0} (f : A → B) {x : A} {l : List A} → Memᴰ x l → Memᴰ (f x) (map f l)
  mem_map_in f (mathlib.Core.List.Memᴰ.head e) = mathlib.Core.List.Memᴰ.head (ap f e)
  mem_map_in f (mathlib.Core.List.Memᴰ.tail m) = mathlib.Core.List.Memᴰ.tail (mem_map_in f m)

  pub mem_drop_take : (n k : ℕ) (l : List A) {x : A} → Memᴰ x (drop n (take k l)) → Memᴰ x (drop n l)
  mem_drop_take zero k l m = mem_take k _ l m
  mem_drop_take (suc n) zero l m = absurd (mathlib.Core.List.Memᴰ.not-nil m)
  mem_drop_take (suc n) (suc k) [] m = m
  mem_drop_take (suc n) (suc k) (a ∷ l) m = mem_drop_take n k l m

  -- a test that a member passes, one passes
  pub any_in : (t : A → Bool) (x : A) → t x ≡ true → (l : List A) → Memᴰ x l → any t l ≡ true
  unfolding any
  any_in t x e [] m = absurd (mathlib.Core.List.Memᴰ.not-nil m)
  any_in t x e (a ∷ l) m = go (t a) refl (any_in t x e l) (mathlib.Core.List.Memᴰ.cases_cons m)
    where
      go : (b : Bool) → t a ≡ b → (Memᴰ x l → any t l ≡ true) → (x ≡ a) ⊎ Memᴰ x l → (b || any t l) ≡ true
      go true q f c = refl
      go false q f (inl c) = absurd (true≢false (sym e ∙ ap t c ∙ q))
      go false q f (inr k) = f k

-- ---- each and pairs

pub each_append : {A : Type 0} (P : A → Type 0) (l m : List A) → Each P l → Each P m → Each P (l ++ m)
each_append P [] m h k = k
each_append P (a ∷ l) m h k = (h.0, each_append P l m h.1 k)

pub append_each : {A : Type 0} (P : A → Type 0) (l m : List A) → Each P (l ++ m) → Each P l × Each P m
append_each P [] m h = (tt, h)
append_each P (a ∷ l) m h = let (x, y) = append_each P l m h.1 in ((h.0, x), y)

module _ {A : Type 0} (P : A → Type 0) where
  pub each_mem : (l : List A) → Each P l → {x : A} → Memᴰ x l → P x
  each_mem [] h m = absurd (mathlib.Core.List.Memᴰ.not-nil m)
  each_mem (a ∷ l) h {x} m = go (λ k. each_mem l h.1 k) (mathlib.Core.List.Memᴰ.cases_cons m)
    where
      go : (Memᴰ x l → P x) → (x ≡ a) ⊎ Memᴰ x l → P x
      go f (inl e) = subst P (sym e) h.0
      go f (inr k) = f k

  pub mem_each : (l : List A) → ((x : A) → Memᴰ x l → P x) → Each P l
  mem_each [] h = tt
  mem_each (a ∷ l) h = (h a (mathlib.Core.List.Memᴰ.head refl), mem_each l (λ x m. h x (mathlib.Core.List.Memᴰ.tail m)))

  pub each_take : (n : ℕ) (l : List A) → Each P l → Each P (take n l)
  each_take n l h = mem_each (take n l) (λ x m. each_mem l h (mem_take n _ l m))

pub each_map : {A : Type 0} (P Q : A → Type 0) → ((a : A) → P a → Q a) → (l : List A) → Each P l → Each Q l
each_map P Q f [] h = tt
each_map P Q f (a ∷ l) h = (f a h.0, each_map P Q f l h.1)

pub pairs_map : {A : Type 0} (R S : A → A → Type 0) → ((a b : A) → R a b → S a b) → (l : List A) → Pairs R l → Pairs S l
pairs_map R S f [] h = tt
pairs_map R S f (a ∷ l) h = (each_map (R a) (S a) (f a) l h.0, pairs_map R S f l h.1)

module _ {A : Type 0} (R : A → A → Type 0) where
  pub pairs_drop : (n : ℕ) (l : List A) → Pairs R l → Pairs R (drop n l)
  pairs_drop zero l h = h
  pairs_drop (suc n) [] h = tt
  pairs_drop (suc n) (a ∷ l) h = pairs_drop n l h.1

  pub pairs_take : (n : ℕ) (l : List A) → Pairs R l → Pairs R (take n l)
  pairs_take zero l h = tt
  pairs_take (suc n) [] h = tt
  pairs_take (suc n) (a ∷ l) h = (each_take (R a) n l h.0, pairs_take n l h.1)

  pub pairs_append : (s t : List A) → Pairs R s → Pairs R t → ((x y : A) → Memᴰ x s → Memᴰ y t → R x y) → Pairs R (s ++ t)
  pairs_append [] t hs ht c = ht
  pairs_append (a ∷ s) t hs ht c = (
    each_append (R a) s t hs.0 (mem_each (R a) t (λ y m. c a y (mathlib.Core.List.Memᴰ.head refl) m)),
    pairs_append s t hs.1 ht (λ x y m. c x y (mathlib.Core.List.Memᴰ.tail m)),
  )

  pub pairs_reverse : ((a b : A) → R a b → R b a) → (l r : List A) → Pairs R l → Pairs R r → ((x y : A) → Memᴰ x l → Memᴰ y r → R x y) → Pairs R (reverse_aux l r)
  pairs_reverse back [] r h k c = k
  pairs_reverse back (a ∷ l) r h k c =
      pairs_reverse back l (a ∷ r) h.1 (mem_each (R a) r (λ b m. c a b (mathlib.Core.List.Memᴰ.head refl) m), k) (λ x y m n. go x y m (mathlib.Core.List.Memᴰ.cases_cons n))
    where
      go : (x y : A) → Memᴰ x l → (y ≡ a) ⊎ Memᴰ y r → R x y
      go x y m (inl e) = subst (R x) (sym e) (back a x (each_mem (R a) l h.0 m))
      go x y m (inr n) = c x y (mathlib.Core.List.Memᴰ.tail m) n

-- through a function
pub pairs_through : {A B : Type 0} (f : A → B) (R : A → A → Type 0) (S : B → B → Type 0) → ((a c : A) → R a c → S (f a) (f c)) → (l : List A) → Pairs R l → Pairs S (map f l)
pairs_through f R S g [] h = tt
pairs_through {A} f R S g (a ∷ l) h = (go l h.0, pairs_through f R S g l h.1)
  where
    go : (l : List A) → Each (R a) l → Each (S (f a)) (map f l)
    go [] h = tt
    go (c ∷ l) h = (g a c h.0, go l h.1)

pub pairs_neighbours : {A : Type 0} (R : A → A → Type 0) (l : List A) → Pairs R l → Neighbours R l
pairs_neighbours R [] h = tt
pairs_neighbours R (a ∷ []) h = tt
pairs_neighbours R (a ∷ b ∷ l) h = (h.0.0, pairs_neighbours R (b ∷ l) h.1)

pub matched_map : {A B : Type 0} (P Q : A → B → Type 0) → ((a : A) (b : B) → P a b → Q a b) → (l : List A) (m : List B) → Matched P l m → Matched Q l m
matched_map P Q f [] [] h = tt
matched_map P Q f [] (b ∷ m) h = h
matched_map P Q f (a ∷ l) [] h = h
matched_map P Q f (a ∷ l) (b ∷ m) h = (f a b h.0, matched_map P Q f l m h.1)

module _ {A : Type 0} where
  -- ---- those of a list that pass a test

  pub keep_only : (t : A → Bool) (x : A) (l : List A) → Memᴰ x (keep t l) → Memᴰ x l × (t x ≡ true)
  unfolding keep
  keep_only t x [] m = absurd (mathlib.Core.List.Memᴰ.not-nil m)
  keep_only t x (a ∷ l) m = go (t a) refl (keep_only t x l) m
    where
      go : (b : Bool) → t a ≡ b → (Memᴰ x (keep t l) → Memᴰ x l × (t x ≡ true)) → Memᴰ x (cons_if b a (keep t l)) → Memᴰ x (a ∷ l) × (t x ≡ true)
      go true e k m = ⊎_elim (λ c. (mathlib.Core.List.Memᴰ.head c, ap t c ∙ e)) (λ n. (mathlib.Core.List.Memᴰ.tail (k n).0, (k n).1)) (mathlib.Core.List.Memᴰ.cases_cons m)
      go false e k m = (mathlib.Core.List.Memᴰ.tail (k m).0, (k m).1)

  pub keep_in : (t : A → Bool) (x : A) → t x ≡ true → (l : List A) → Memᴰ x l → Memᴰ x (keep t l)
  unfolding keep
  keep_in t x e [] m = absurd (mathlib.Core.List.Memᴰ.not-nil m)
  keep_in t x e (a ∷ l) m = go (t a) refl (keep_in t x e l) (mathlib.Core.List.Memᴰ.cases_cons m)
    where
      go : (b : Bool) → t a ≡ b → (Memᴰ x l → Memᴰ x (keep t l)) → (x ≡ a) ⊎ Memᴰ x l → Memᴰ x (cons_if b a (keep t l))
      go true q f (inl c) = mathlib.Core.List.Memᴰ.head c
      go true q f (inr k) = mathlib.Core.List.Memᴰ.tail (f k)
      go false q f (inl c) = absurd (true≢false (sym e ∙ ap t c ∙ q))
      go false q f (inr k) = f k

  each_keep : (t : A → Bool) (P : A → Type 0) (l : List A) → Each P l → Each P (keep t l)
  unfolding keep
  each_keep t P [] h = tt
  each_keep t P (a ∷ l) h = go (t a) (each_keep t P l h.1)
    where
      go : (b : Bool) → Each P (keep t l) → Each P (cons_if b a (keep t l))
      go true k = (h.0, k)
      go false k = k

  pub pairs_keep : (t : A → Bool) (R : A → A → Type 0) (l : List A) → Pairs R l → Pairs R (keep t l)
  unfolding keep
  pairs_keep t R [] h = tt
  pairs_keep t R (a ∷ l) h = go (t a) (each_keep t (R a) l h.0) (pairs_keep t R l h.1)
    where
      go : (b : Bool) → Each (R a) (keep t l) → Pairs R (keep t l) → Pairs R (cons_if b a (keep t l))
      go true e k = (e, k)
      go false e k = k

-- a list that rises by an order stands in it, each with all that follow
module _ {A : Type 0} (f : A → A → Bool) (chain : (a b c : A) → f a b ≡ true → f b c ≡ true → f a c ≡ true) where
  after_each : (a : A) (l : List A) → after f a l ≡ true → Each (λ b. f a b ≡ true) l
  unfolding after
  after_each a [] h = tt
  after_each a (b ∷ l) h =
      let (x, y) = both (f a b) (after f b l) h in
      (x, each_map (λ c. f b c ≡ true) (λ c. f a c ≡ true) (λ c z. chain a b c x z) l (after_each b l y))

  after_pairs : (a : A) (l : List A) → after f a l ≡ true → Pairs (λ x y. f x y ≡ true) (a ∷ l)
  unfolding after
  after_pairs a [] h = (tt, tt)
  after_pairs a (b ∷ l) h = (after_each a (b ∷ l) h, after_pairs b l (both (f a b) (after f b l) h).1)

  pub rising_all : (l : List A) → rising f l ≡ true → Pairs (λ x y. f x y ≡ true) l
  unfolding rising
  rising_all [] h = tt
  rising_all (a ∷ l) h = after_pairs a l h

-- ---- a test that once failed fails from there on

abbrev pub Falling : {A : Type 0} → (A → Bool) → List A → Type 0
Falling t l = Pairs (λ q r. t q ≡ false → t r ≡ false) l

-- where one that stands later passes, one that stands before passes too
pub falling_of : {A : Type 0} (R : A → A → Type 0) (t : A → Bool) → ((a b : A) → R a b → t b ≡ true → t a ≡ true) → (l : List A) → Pairs R l → Falling t l
falling_of {A} R t back l h = pairs_map R (λ q r. t q ≡ false → t r ≡ false) (λ a b r e. go a b r e (t b) refl) l h
  where
    go : (a b : A) → R a b → t a ≡ false → (c : Bool) → t b ≡ c → t b ≡ false
    go a b r e true f = absurd (true≢false (sym (back a b r f) ∙ e))
    go a b r e false f = f

module _ {A : Type 0} (t : A → Bool) where
  none_later : (q : A) (l : List A) → Falling t (q ∷ l) → t q ≡ false → {r : A} → Memᴰ r l → t r ≡ false
  none_later q l h e m = each_mem (λ r. t q ≡ false → t r ≡ false) l h.0 m e

  pub count_none : (l : List A) → ((r : A) → Memᴰ r l → t r ≡ false) → count t l ≡ 0
  unfolding count
  count_none [] h = refl
  count_none (q ∷ l) h = rw (h q (mathlib.Core.List.Memᴰ.head refl)) (count_none l (λ r m. h r (mathlib.Core.List.Memᴰ.tail m)))

  pub past_drop : (l : List A) → Falling t l → (r : A) → Memᴰ r (drop (count t l) l) → t r ≡ false
  unfolding count
  past_drop [] h r = λ m. absurd (mathlib.Core.List.Memᴰ.not-nil m)
  past_drop (q ∷ l) h r = go (t q) refl (past_drop l h.1 r)
    where
      go : (b : Bool) → t q ≡ b → (Memᴰ r (drop (count t l) l) → t r ≡ false) → Memᴰ r (drop (one_more_if b (count t l)) (q ∷ l)) → t r ≡ false
      go true e k = k
      go false e k = rw (count_none l (λ r m. none_later q l h e m)) (λ m. split (mathlib.Core.List.Memᴰ.cases_cons m))
        where
          split : (r ≡ q) ⊎ Memᴰ r l → t r ≡ false
          split (inl c) = ap t c ∙ e
          split (inr m) = none_later q l h e m

  pub past_take : (l : List A) → Falling t l → (r : A) → Memᴰ r (take (count t l) l) → t r ≡ true
  unfolding count
  past_take [] h r = λ m. absurd (mathlib.Core.List.Memᴰ.not-nil m)
  past_take (q ∷ l) h r = go (t q) refl (past_take l h.1 r)
    where
      go : (b : Bool) → t q ≡ b → (Memᴰ r (take (count t l) l) → t r ≡ true) → Memᴰ r (take (one_more_if b (count t l)) (q ∷ l)) → t r ≡ true
      go true e k = λ m. split (mathlib.Core.List.Memᴰ.cases_cons m)
        where
          split : (r ≡ q) ⊎ Memᴰ r (take (count t l) l) → t r ≡ true
          split (inl c) = ap t c ∙ e
          split (inr m) = k m
      go false e k = rw (count_none l (λ r m. none_later q l h e m)) (λ m. absurd (mathlib.Core.List.Memᴰ.not-nil m))

module _ {A : Type 0} where
  -- between two tests
  module _ (t u : A → Bool) (x : A) (no-t : t x ≡ false) (is-u : u x ≡ true) where
    pub in_slice : (l : List A) → Falling t l → Falling u l → Memᴰ x l → Memᴰ x (drop (count t l) (take (count u l) l))
    unfolding count
    in_slice [] h k m = absurd (mathlib.Core.List.Memᴰ.not-nil m)
    in_slice (q ∷ l) h k m = go (t q) (u q) refl refl (in_slice l h.1 k.1) (mathlib.Core.List.Memᴰ.cases_cons m)
      where
        none : t q ≡ false → count t l ≡ 0
        none e = count_none t l (λ r m. none_later t q l h e m)

        go : (b c : Bool) → t q ≡ b → u q ≡ c → (Memᴰ x l → Memᴰ x (drop (count t l) (take (count u l) l))) → (x ≡ q) ⊎ Memᴰ x l
            → Memᴰ x (drop (one_more_if b (count t l)) (take (one_more_if c (count u l)) (q ∷ l)))
        go b false eb ec f (inl e) = absurd (true≢false (sym is-u ∙ ap u e ∙ ec))
        go b false eb ec f (inr r) = absurd (true≢false (sym is-u ∙ none_later u q l k ec r))
        go true true eb ec f (inl e) = absurd (true≢false (sym eb ∙ ap t (sym e) ∙ no-t))
        go true true eb ec f (inr r) = f r
        go false true eb ec f (inl e) = rw (none eb) (mathlib.Core.List.Memᴰ.head e)
        go false true eb ec f (inr r) =
            let i : Memᴰ x (take (count u l) l) = mem_drop (count t l) _ (take (count u l) l) (f r) in
            rw (none eb) (mathlib.Core.List.Memᴰ.tail i)

  pub in_drop : (t : A → Bool) (x : A) → t x ≡ false → (l : List A) → Falling t l → Memᴰ x l → Memᴰ x (drop (count t l) l)
  in_drop t x e l h m = mem_drop_take (count t l) (count (λ y. true) l) l (in_slice t (λ y. true) x e refl l h (always l) m)
    where
      always : (l : List A) → Falling (λ y. true) l
      always [] = tt
      always (a ∷ l) = (mem_each _ l (λ r m e. e), always l)

  pub in_take : (t : A → Bool) (x : A) → t x ≡ true → (l : List A) → Falling t l → Memᴰ x l → Memᴰ x (take (count t l) l)
  in_take t x e l h m = mem_drop (count (λ y. false) l) _ (take (count t l) l) (in_slice (λ y. false) t x refl e l (never l) h m)
    where
      never : (l : List A) → Falling (λ y. false) l
      never [] = tt
      never (a ∷ l) = (mem_each _ l (λ r m e. e), never l)
