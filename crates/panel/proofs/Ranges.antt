-- Chains over a range, further: a test of the indices that is one of a list's elements, and whether each element stands in a relation to the next.
use Rattle.std.proofs.Common.{ℕ, suc, ◌+◌, ◌-◌, ◌<◌, ◌≡◌, refl, ap, ◌∙◌, sym, List, [], ◌∷◌, Bool, true, false, ◌&&◌, length, get_or, arith}
use Rattle.std.specs.List.{range_with_len, list_all, FoldsTo}
use Rattle.std.specs.Option.{MatchOption}
use Rattle.std.specs.Fn.{Called}
use Rattle.std.specs.Iterator.{YieldsThen}
use Rattle.std.proofs.iter.Yields.{nat_range_steps}
use Rattle.std.proofs.lemmas.Iterator.{YieldsList-from_range}
use Rattle.std.proofs.lemmas.Iterator.Search.{all_from_yields_List}
use denote.Param.Members.{Mut}
use Rattle.std.specs.declared.ops.Range.{Range}
use Rattle.std.specs.declared.option.Option.{Option}
use Rattle.ground.specs.Lists.{all, after, rising}

-- ---- a test of the indices that is, below the end, a test of the elements

module _ {A : Type 0} (d : A) (f : A → Bool) where
  all_from : (t : ℕ → Bool) (l : List A) (a : ℕ) → ((k : ℕ) → k < length l → t (a + k) ≡ f (get_or l k d)) → list_all t (range_with_len a (length l)) ≡ all f l
  unfolding all
  all_from t [] a same = refl
  all_from t (x ∷ xs) a same =
      let first : t a ≡ f x = ap t (omega arith) ∙ same 0 (omega arith) in
      let rest : list_all t (range_with_len (a + 1) (length xs)) ≡ all f xs = all_from t xs (a + 1) (λ k h. ap t (omega arith) ∙ same (suc k) (omega arith)) in
      rw first (ap (λ b. f x && b) rest)

module _ {F : Type 0} {g : Mut F (ℕ × Unit {0}) Bool} {u : Range ℕ} {h : F} (n : ℕ) (r : Bool) (t : ℕ → Bool) where
  -- the last argument tells what the closure answers of index i: (λ i b q k. search (rules, tests)) finds it
  pub all_asked : (xs : List ℕ) × (o : Option ℕ) × (j : F) × YieldsThen nat_range_steps (record { start = 0; end = n }) xs o u × FoldsTo (λ p x q. Called g p (x, tt) true q) h xs j × MatchOption o (r ≡ true) (λ x. (r ≡ false) × ((k : F) × Called g j (x, tt) false k))
      → ((i : ℕ) (b : Bool) (q : F) → Called g h (i, tt) b q → (q ≡ h) × (b ≡ t i)) → r ≡ list_all t (range_with_len 0 n)
  all_asked ran asks = all_from_yields_List t u h r ran (YieldsList-from_range 0 n n refl (omega arith)) asks

module _ {A F : Type 0} {g : Mut F (ℕ × Unit {0}) Bool} {u : Range ℕ} {h : F} (d : A) (f : A → Bool) (l : List A) (n : ℕ) (long : length l ≡ n) (r : Bool) where
  pub all_by_index : (t : ℕ → Bool) → ((i : ℕ) → i < n → t i ≡ f (get_or l i d))
      → (xs : List ℕ) × (o : Option ℕ) × (j : F) × YieldsThen nat_range_steps (record { start = 0; end = n }) xs o u × FoldsTo (λ p x q. Called g p (x, tt) true q) h xs j × MatchOption o (r ≡ true) (λ x. (r ≡ false) × ((k : F) × Called g j (x, tt) false k))
      → ((i : ℕ) (b : Bool) (q : F) → Called g h (i, tt) b q → (q ≡ h) × (b ≡ t i)) → r ≡ all f l
  all_by_index t same ran asks =
      all_asked n r t ran asks ∙ rw (sym long) (all_from d f t l 0 (λ k lt. ap t (omega arith) ∙ same k (omega arith)))

-- ---- whether each element stands in a relation to the next

module _ {A : Type 0} (d : A) (f : A → A → Bool) where
  after_from : (t : ℕ → Bool) (x : A) (l : List A) (a : ℕ) → ((k : ℕ) → k < length l → t (a + k) ≡ f (get_or (x ∷ l) k d) (get_or l k d)) → list_all t (range_with_len a (length l)) ≡ after f x l
  unfolding after
  after_from t x [] a same = refl
  after_from t x (y ∷ l) a same =
      let first : t a ≡ f x y = ap t (omega arith) ∙ same 0 (omega arith) in
      let rest : list_all t (range_with_len (a + 1) (length l)) ≡ after f y l = after_from t y l (a + 1) (λ k h. ap t (omega arith) ∙ same (suc k) (omega arith)) in
      rw first (ap (λ b. f x y && b) rest)

  rising_from : (l : List A) (n : ℕ) → length l ≡ n → list_all (λ i. f (get_or l i d) (get_or l (i + 1) d)) (range_with_len 0 (n - 1)) ≡ rising f l
  unfolding rising
  rising_from [] n long = let none : n - 1 ≡ 0 = omega arith in rw none
  rising_from (x ∷ l) n long =
      let left : n - 1 ≡ length l = omega arith in
      rw left (after_from (λ i. f (get_or (x ∷ l) i d) (get_or (x ∷ l) (i + 1) d)) x l 0 (λ k h. let e : k + 1 ≡ suc k = omega arith in let z : 0 + k ≡ k = omega arith in rw (z, e)))

module _ {A F : Type 0} {g : Mut F (ℕ × Unit {0}) Bool} {u : Range ℕ} {h : F} (d : A) (f : A → A → Bool) (l : List A) (n : ℕ) (long : length l ≡ n) (m : ℕ) (but_last : m ≡ n - 1) (r : Bool) where
  pub rising_of_range : (xs : List ℕ) × (o : Option ℕ) × (j : F) × YieldsThen nat_range_steps (record { start = 0; end = m }) xs o u × FoldsTo (λ p x q. Called g p (x, tt) true q) h xs j × MatchOption o (r ≡ true) (λ x. (r ≡ false) × ((k : F) × Called g j (x, tt) false k))
      → ((i : ℕ) (b : Bool) (q : F) → Called g h (i, tt) b q → (q ≡ h) × (b ≡ f (get_or l i d) (get_or l (i + 1) d))) → r ≡ rising f l
  rising_of_range ran asks = all_asked m r (λ i. f (get_or l i d) (get_or l (i + 1) d)) ran asks ∙ rw but_last (rising_from d f l n long)
