use Rattle.std.proofs.Common.{ℕ, suc, ◌+◌, ◌-◌, ◌<◌, ◌≡◌, refl, sym, ap, ◌∙◌, eqb, Bool, true, false, ◌||◌, List, [], ◌∷◌, length, drop, take, get_or, get_or-drop, length-drop, arith}
use borrow.Author.Tests.{eqb-true}
use denote.Param.Members.{Mut}
use Rattle.std.specs.List.{range_with_len, list_any, FoldsTo}
use Rattle.std.specs.Option.{MatchOption}
use Rattle.std.specs.Fn.{Called}
use Rattle.std.specs.Iterator.{YieldsThen}
use Rattle.std.proofs.iter.Yields.{nat_range_steps}
use Rattle.std.proofs.lemmas.Iterator.{YieldsList-from_range}
use Rattle.std.proofs.lemmas.Iterator.Search.{any_from_yields_List}
use Rattle.std.specs.declared.ops.Range.{Range}
use Rattle.std.specs.declared.option.Option.{Option}
use Rattle.ground.specs.Lists.{sum, all, any}
use Rattle.ground.proofs.ListLaws.{both, AllFrom, all_again, all_fails}
use Rattle.image.specs.declared.Header.{Header}
use Rattle.image.specs.declared.Family.{Family}
use Rattle.image.specs.Image.{path_counts, families, paths_of}
use Rattle.image.specs.Inner.{Framed, Grouped}
use Rattle.families.specs.Families.{count_ok, no_twice, sound5a}

-- ---- `(a..n).any(..)` of a list's elements from a on

module _ {A : Type 0} (d : A) (f : A → Bool) (g : ℕ → A) where
  any_behind : (l : List A) (a : ℕ) → ((k : ℕ) → k < length l → g (a + k) ≡ get_or l k d) → list_any (λ i. f (g i)) (range_with_len a (length l)) ≡ any f l
  unfolding any
  any_behind [] a same = refl
  any_behind (x ∷ xs) a same =
      let here : g a ≡ x = ap g (omega arith) ∙ same 0 (omega arith) in
      let rest : list_any (λ i. f (g i)) (range_with_len (a + 1) (length xs)) ≡ any f xs = any_behind xs (a + 1) (λ k h. ap g (omega arith) ∙ same (suc k) (omega arith)) in
      rw here (ap (λ b. f x || b) rest)

module _ {A F : Type 0} {g : Mut F (ℕ × Unit {0}) Bool} {u : Range ℕ} {h : F} (d : A) (f : A → Bool) (l : List A) (a n : ℕ) (long : length l ≡ n) (r : Bool) where
  pub any_from_range : (xs : List ℕ) × (o : Option ℕ) × (j : F) × YieldsThen nat_range_steps (record { start = a; end = n }) xs o u × FoldsTo (λ p x q. Called g p (x, tt) false q) h xs j × MatchOption o (r ≡ false) (λ x. (r ≡ true) × ((k : F) × Called g j (x, tt) true k))
      → ((i : ℕ) (b : Bool) (q : F) → Called g h (i, tt) b q → (q ≡ h) × (b ≡ f (get_or l i d))) → r ≡ any f (drop a l)
  any_from_range ran asks =
      let each : r ≡ list_any (λ i. f (get_or l i d)) (range_with_len a (n - a)) = any_from_yields_List (λ i. f (get_or l i d)) u h r ran (YieldsList-from_range a n (n - a) refl refl) asks in
      let left : n - a ≡ length (drop a l) = rw length-drop (omega arith) in
      each ∙ rw left (any_behind d f (λ i. get_or l i d) (drop a l) a (λ k lt. sym (get_or-drop a l k d)))

-- a turn of the loop over families
module _ (s : List ℕ) (h : Header) (f : Family) (n i : ℕ) (r : Bool) (so : AllFrom no_twice (families h s) n i) (lt : i < n) (e : f.number ≡ i) (t : r ≡ no_twice (paths_of h s f.number)) (long : length (families h s) ≡ n) where
  told : r ≡ no_twice (get_or (families h s) i [])
  unfolding paths_of
  told = t ∙ ap (λ (m : ℕ). no_twice (get_or (families h s) m [])) e

  pub family_again : r ≡ true → AllFrom no_twice (families h s) n (i + 1)
  family_again = all_again [] no_twice (families h s) n i r so lt told long

  pub family_fails : r ≡ false → false ≡ all no_twice (families h s)
  family_fails = all_fails [] no_twice (families h s) n i r so lt told long

-- where the next family begins, by its number
pub next_start : (s : List ℕ) (h : Header) (f : Family) (n r : ℕ) → f.number ≡ n → r ≡ sum (take (f.number + 1) (path_counts h s)) → r ≡ sum (take (n + 1) (path_counts h s))
next_start s h f n r e t = t ∙ rw e

pub grouped_told : (s : List ℕ) (h : Header) (b : Bool) → Framed s h → b ≡ sound5a h s → b ≡ true → Grouped s h
unfolding sound5a
grouped_told s h b f e t = record { framed = f; total = eqb-true (sum (path_counts h s)) h.paths (both (all count_ok (path_counts h s)) (eqb (sum (path_counts h s)) h.paths) (sym e ∙ t)).1 }
