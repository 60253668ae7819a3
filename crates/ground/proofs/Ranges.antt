-- Chains over a range that ask each index of a list: `(0..n).all(..)` and `(0..n).any(..)`.
use Rattle.std.proofs.Common.{ℕ, suc, ◌+◌, ◌<◌, ◌≡◌, refl, ap, ◌∙◌, sym, List, [], ◌∷◌, Bool, true, false, ◌&&◌, length, get_or, arith}
use Rattle.std.specs.List.{range_with_len, list_all, FoldsTo}
use Rattle.std.specs.Option.{MatchOption}
use Rattle.std.specs.Fn.{Called}
use Rattle.std.specs.Iterator.{YieldsThen}
use Rattle.std.proofs.iter.Yields.{nat_range_steps}
use Rattle.std.proofs.lemmas.Iterator.{YieldsList-from_range}
use Rattle.std.proofs.lemmas.Iterator.Search.{all_from_yields_List}
use denote.Param.Members.{Mut}
use Rattle.std.specs.declared.ops.Range.{Range}
use Rattle.std.specs.declared.option.Option.{Option}
use Rattle.ground.specs.Lists.{all}

module _ {A : Type 0} (d : A) (f : A → Bool) (g : ℕ → A) where
  all_from : (l : List A) (a : ℕ) → ((k : ℕ) → k < length l → g (a + k) ≡ get_or l k d) → list_all (λ i. f (g i)) (range_with_len a (length l)) ≡ all f l
  unfolding all
  all_from [] a same = refl
  all_from (x ∷ xs) a same =
      let here : g a ≡ x = ap g (omega arith) ∙ same 0 (omega arith) in
      let rest : list_all (λ i. f (g i)) (range_with_len (a + 1) (length xs)) ≡ all f xs = all_from xs (a + 1) (λ k h. ap g (omega arith) ∙ same (suc k) (omega arith)) in
      rw here (ap (λ b. f x && b) rest)

module _ {A F : Type 0} {g : Mut F (ℕ × Unit {0}) Bool} {u : Range ℕ} {h : F} (d : A) (f : A → Bool) (l : List A) (n : ℕ) (long : length l ≡ n) (r : Bool) where
  -- the last argument tells what the closure answers of index i: (λ i b q k. search (rules, tests)) finds it
  pub all_of_range : (xs : List ℕ) × (o : Option ℕ) × (j : F) × YieldsThen nat_range_steps (record { start = 0; end = n }) xs o u × FoldsTo (λ p x q. Called g p (x, tt) true q) h xs j × MatchOption o (r ≡ true) (λ x. (r ≡ false) × ((k : F) × Called g j (x, tt) false k))
      → ((i : ℕ) (b : Bool) (q : F) → Called g h (i, tt) b q → (q ≡ h) × (b ≡ f (get_or l i d))) → r ≡ all f l
  all_of_range ran asks =
      let each : r ≡ list_all (λ i. f (get_or l i d)) (range_with_len 0 n) = all_from_yields_List (λ i. f (get_or l i d)) u h r ran (YieldsList-from_range 0 n n refl (omega arith)) asks in
      each ∙ rw (sym long) (all_from d f (λ i. get_or l i d) l 0 (λ k lt. ap (λ j. get_or l j d) (omega arith)))
