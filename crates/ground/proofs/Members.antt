-- Laws of membership: tests that all pass, parts of a list, and the pigeonhole.
use Prim.Native.Nat.{ℕ, zero, suc, ◌≤◌, ◌<◌}
use native.Mathlib.Nat.{not-suc-le-zero}
use native.Mathlib.Omega.{arith}
use mathlib.Core.Path.{◌≡◌, refl, sym, ap, ◌∙◌}
use mathlib.Core.Logic.{◌⊎◌, inl, inr}
use mathlib.Core.Bool.{Bool, true, false}
use mathlib.Core.List.Memᴰ
use mathlib.Core.List.{List, [], ◌∷◌, Memᴰ}
use lib.ListN.{length, take, drop, get_or}
use Rattle.ground.specs.Lists.{all, any, split, after, rising}
use Rattle.ground.proofs.ListLaws.{both}

module _ {A : Type 0} where
  -- a test that all pass, each member passes
  pub all_mem : (t : A → Bool) (l : List A) → all t l ≡ true → (x : A) → Memᴰ x l → t x ≡ true
  unfolding all
  all_mem t [] h x m = absurd (Memᴰ.not-nil m)
  all_mem t (a ∷ l) h x m = go (all_mem t l (both (t a) (all t l) h).1 x) (Memᴰ.cases_cons m)
    where
      go : (Memᴰ x l → t x ≡ true) → (x ≡ a) ⊎ Memᴰ x l → t x ≡ true
      go f (inl e) = ap t e ∙ (both (t a) (all t l) h).0
      go f (inr k) = f k

  -- a test that one passes has a member that does
  pub any_mem : (t : A → Bool) (l : List A) → any t l ≡ true → (x : A) × Memᴰ x l × (t x ≡ true)
  unfolding any
  any_mem t [] h = let z : ◌≡◌ {A = ℕ} 0 1 = cc in absurd (omega arith)
  any_mem t (a ∷ l) h = go (t a) refl (any_mem t l)
    where
      go : (b : Bool) → t a ≡ b → (any t l ≡ true → (x : A) × Memᴰ x l × (t x ≡ true)) → (x : A) × Memᴰ x (a ∷ l) × (t x ≡ true)
      go true e f = (a, Memᴰ.head refl, e)
      go false e f = let r = f (rw e at h) in (r.0, Memᴰ.tail r.1, r.2)

  -- where a member stands
  pub record Index (d x : A) (l : List A) : Type 0 where
    pub i : ℕ
    pub low : i < length l
    pub there : get_or l i d ≡ x

  pub index_of : (d x : A) (l : List A) → Memᴰ x l → Index d x l
  index_of d x [] m = absurd (Memᴰ.not-nil m)
  index_of d x (a ∷ l) m = go (index_of d x l) (Memᴰ.cases_cons m)
    where
      go : (Memᴰ x l → Index d x l) → (x ≡ a) ⊎ Memᴰ x l → Index d x (a ∷ l)
      go f (inl e) = record { i = 0; low = omega arith; there = sym e }
      go f (inr k) = let r = f k in record { i = suc r.i; low = (let h = r.low in omega arith); there = r.there }

  pub mem_at : (d : A) (l : List A) (i : ℕ) → i < length l → Memᴰ (get_or l i d) l
  mem_at d [] i h = absurd (not-suc-le-zero h)
  mem_at d (a ∷ l) zero h = Memᴰ.head refl
  mem_at d (a ∷ l) (suc i) h = Memᴰ.tail (mem_at d l i (omega arith))

  pub mem_take : (n : ℕ) (x : A) (l : List A) → Memᴰ x (take n l) → Memᴰ x l
  mem_take zero x l m = absurd (Memᴰ.not-nil m)
  mem_take (suc n) x [] m = absurd (Memᴰ.not-nil m)
  mem_take (suc n) x (a ∷ l) m = go (mem_take n x l) (Memᴰ.cases_cons m)
    where
      go : (Memᴰ x (take n l) → Memᴰ x l) → (x ≡ a) ⊎ Memᴰ x (take n l) → Memᴰ x (a ∷ l)
      go f (inl e) = Memᴰ.head e
      go f (inr k) = Memᴰ.tail (f k)

  pub mem_drop : (n : ℕ) (x : A) (l : List A) → Memᴰ x (drop n l) → Memᴰ x l
  mem_drop zero x l m = m
  mem_drop (suc n) x [] m = absurd (Memᴰ.not-nil m)
  mem_drop (suc n) x (a ∷ l) m = Memᴰ.tail (mem_drop n x l m)

  -- a member of a part is one of the whole
  pub mem_part : (ns : List ℕ) (l : List A) (j : ℕ) (x : A) → Memᴰ x (get_or (split ns l) j []) → Memᴰ x l
  unfolding split
  mem_part [] l j x m = absurd (Memᴰ.not-nil m)
  mem_part (n ∷ ns) l zero x m = mem_take n x l m
  mem_part (n ∷ ns) l (suc j) x m = mem_drop n x l (mem_part ns (drop n l) j x m)

  -- no member comes again
  abbrev pub Apart : List A → Type 0
  Apart [] = Unit
  Apart (a ∷ l) = ((b : A) → Memᴰ b l → a ≡ b → ⊥) × Apart l

  -- a list that rises by an order has no member twice
  module _ (f : A → A → Bool) (chain : (a b c : A) → f a b ≡ true → f b c ≡ true → f a c ≡ true) (self : (a : A) → f a a ≡ false) where
    above : (a : A) (l : List A) → after f a l ≡ true → (x : A) → Memᴰ x l → f a x ≡ true
    unfolding after
    above a [] h x m = absurd (Memᴰ.not-nil m)
    above a (b ∷ l) h x m = go (above b l (both (f a b) (after f b l) h).1 x) (Memᴰ.cases_cons m)
      where
        first : f a b ≡ true
        first = (both (f a b) (after f b l) h).0

        go : (Memᴰ x l → f b x ≡ true) → (x ≡ b) ⊎ Memᴰ x l → f a x ≡ true
        go g (inl e) = ap (f a) e ∙ first
        go g (inr k) = chain a b x first (g k)

    differ : (a b : A) → f a b ≡ true → a ≡ b → ⊥
    differ a b t e = let z : ◌≡◌ {A = Bool} true false = sym t ∙ ap (f a) (sym e) ∙ self a in let y : ◌≡◌ {A = ℕ} 0 1 = cc in omega arith

    apart_after : (a : A) (l : List A) → after f a l ≡ true → Apart (a ∷ l)
    unfolding after
    apart_after a [] h = (λ b m. absurd (Memᴰ.not-nil m), tt)
    apart_after a (c ∷ l) h = (λ b m. differ a b (above a (c ∷ l) h b m), apart_after c l (both (f a c) (after f c l) h).1)

    pub rising_apart : (l : List A) → rising f l ≡ true → Apart l
    unfolding rising
    rising_apart [] h = tt
    rising_apart (a ∷ l) h = apart_after a l h

  -- the pigeonhole: a list without repetition within another that is no longer holds all of it
  del : {x : A} {l : List A} → Memᴰ x l → List A
  del (Memᴰ.head {xs = xs} e) = xs
  del (Memᴰ.tail {x = a} m) = a ∷ del m

  del_length : {x : A} {l : List A} (m : Memᴰ x l) → length l ≡ suc (length (del m))
  unfolding del
  del_length (Memᴰ.head e) = refl
  del_length (Memᴰ.tail m) = ap suc (del_length m)

  del_mem : {x : A} {l : List A} (m : Memᴰ x l) (y : A) → Memᴰ y l → (y ≡ x) ⊎ Memᴰ y (del m)
  unfolding del
  del_mem {x} (Memᴰ.head {x = a} {xs = xs} e) y k = go (Memᴰ.cases_cons k)
    where
      go : (y ≡ a) ⊎ Memᴰ y xs → (y ≡ x) ⊎ Memᴰ y xs
      go (inl f) = inl (f ∙ sym e)
      go (inr j) = inr j
  del_mem {x} (Memᴰ.tail {x = a} {xs = xs} m) y k = go (del_mem m y) (Memᴰ.cases_cons k)
    where
      put : (y ≡ x) ⊎ Memᴰ y (del m) → (y ≡ x) ⊎ Memᴰ y (a ∷ del m)
      put (inl f) = inl f
      put (inr j) = inr (Memᴰ.tail j)

      go : (Memᴰ y xs → (y ≡ x) ⊎ Memᴰ y (del m)) → (y ≡ a) ⊎ Memᴰ y xs → (y ≡ x) ⊎ Memᴰ y (a ∷ del m)
      go f (inl e) = inr (Memᴰ.head e)
      go f (inr j) = put (f j)

  pub pigeon : (hs l : List A) → Apart hs → ((x : A) → Memᴰ x hs → Memᴰ x l) → length l ≤ length hs → (x : A) → Memᴰ x l → Memᴰ x hs
  pigeon [] [] h s n x m = m
  pigeon [] (a ∷ l) h s n x m = let z : ⊥ = omega arith in absurd z
  pigeon (a ∷ hs) l h s n x m = go (pigeon hs (del at) h.1 inside shorter x) (del_mem at x m)
    where
      at : Memᴰ a l
      at = s a (Memᴰ.head refl)

      shorter : length (del at) ≤ length hs
      shorter = omega (arith, del_length at)

      drop_first : (y : A) → Memᴰ y hs → (y ≡ a) ⊎ Memᴰ y (del at) → Memᴰ y (del at)
      drop_first y k (inl e) = absurd (h.0 y k (sym e))
      drop_first y k (inr j) = j

      inside : (y : A) → Memᴰ y hs → Memᴰ y (del at)
      inside y k = drop_first y k (del_mem at y (s y (Memᴰ.tail k)))

      go : (Memᴰ x (del at) → Memᴰ x hs) → (x ≡ a) ⊎ Memᴰ x (del at) → Memᴰ x (a ∷ hs)
      go f (inl e) = Memᴰ.head e
      go f (inr j) = Memᴰ.tail (f j)
