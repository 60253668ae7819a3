-- What the library's tests and searches say of lists.
use Rattle.std.proofs.Common.{ℕ, suc, ◌+◌, ◌-◌, ◌<◌, ◌≤◌, ◌≡◌, refl, sym, ap, ◌∙◌, Option, Some, None, List, [], ◌∷◌, Bool, true, false, cond, ◌&&◌, length, drop, get_or, arith}
use Rattle.std.specs.List.{list_all, position_or_len, range_with_len}
use Rattle.std.specs.Cmp.Lexicographic.{pointwise}
use Rattle.std.proofs.lemmas.List.Recursion.{is_position_or_len}
use lib.Dec.{eqb, ltb}
use lib.ListN.{length-drop}
use borrow.Author.Tests.{ltb-true, ltb-false}
use Rattle.ground.specs.Lists.{pick, all}
use Rattle.names.specs.Names.{same}
use Rattle.names.specs.Inner.{up_to, Placed}

-- `==` of two texts
pub same_is : (s t : List ℕ) → pointwise eqb s t ≡ same s t
unfolding same
same_is [] [] = refl
same_is [] (y ∷ t) = refl
same_is (x ∷ s) [] = refl
same_is (x ∷ s) (y ∷ t) = ap (λ b. eqb x y && b) (same_is s t)

-- `all` over a slice
pub all_is : {A : Type 0} (f : A → Bool) (l : List A) → list_all f l ≡ all f l
unfolding all
all_is f [] = refl
all_is f (x ∷ l) = ap (λ b. f x && b) (all_is f l)

-- `position` of a byte
position_is : (b : ℕ) (s : List ℕ) → length (up_to b s) ≡ position_or_len (λ x. eqb x b) s
unfolding up_to
position_is b = is_position_or_len (λ s. length (up_to b s)) (λ x. eqb x b) refl (λ x s. go (eqb x b) x s)
  where
    go : (t : Bool) (x : ℕ) (s : List ℕ) → length (pick t [] (x ∷ up_to b s)) ≡ cond t 0 (1 + length (up_to b s))
    go true x s = refl
    go false x s = omega arith

few : (b : ℕ) (s : List ℕ) → length (up_to b s) ≤ length s
unfolding up_to
few b [] = omega arith
few b (x ∷ s) = go (eqb x b) (few b s)
  where
    go : (t : Bool) → length (up_to b s) ≤ length s → length (pick t [] (x ∷ up_to b s)) ≤ suc (length s)
    go true h = omega arith
    go false h = omega arith

-- `position` of a byte from a place on
module _ (s : List ℕ) {l : List ℕ} (at b : ℕ) {r : Option ℕ} (inside : at ≤ length s) (el : l ≡ drop at s)
    (e : r ≡ cond (ltb (position_or_len (λ x. eqb x b) l) (length l)) (Some (position_or_len (λ x. eqb x b) l)) None) where
  known : position_or_len (λ x. eqb x b) l ≡ length (up_to b (drop at s))
  known = rw el (sym (position_is b (drop at s)))

  long : length l ≡ length s - at
  long = rw el (length-drop at s)

  pub placed_some : (i : ℕ) → r ≡ Some i → Placed s at b (at + i)
  placed_some i q = go (ltb (position_or_len (λ x. eqb x b) l) (length l)) refl (sym e ∙ q)
    where
      go : (t : Bool) → ltb (position_or_len (λ x. eqb x b) l) (length l) ≡ t → cond t (Some (position_or_len (λ x. eqb x b) l)) None ≡ Some i → Placed s at b (at + i)
      go true f h =
          let j : position_or_len (λ x. eqb x b) l ≡ i = cc in
          let m = ltb-true (position_or_len (λ x. eqb x b) l) (length l) f in
          let p = known in
          let n = long in
          record { is = omega arith; inside = omega arith }
      go false f h = absurd (cc)

  pub placed_none : r ≡ None → Placed s at b (length s)
  placed_none q = go (ltb (position_or_len (λ x. eqb x b) l) (length l)) refl (sym e ∙ q)
    where
      go : (t : Bool) → ltb (position_or_len (λ x. eqb x b) l) (length l) ≡ t → cond t (Some (position_or_len (λ x. eqb x b) l)) None ≡ None → Placed s at b (length s)
      go true f h = absurd (cc)
      go false f h =
          let m = ltb-false (position_or_len (λ x. eqb x b) l) (length l) f in
          let p = known in
          let n = long in
          let k = few b (drop at s) in
          let d = length-drop at s in
          record { is = omega arith; inside = omega arith }

-- `all` over a range that asks each index below a list's length
pub all_over : {A : Type 0} (d : A) (f : A → Bool) (part : ℕ → A) (l : List A) (a : ℕ) → ((k : ℕ) → k < length l → part (a + k) ≡ get_or l k d) → list_all (λ i. f (part i)) (range_with_len a (length l)) ≡ all f l
unfolding all
all_over d f part [] a same = refl
all_over d f part (x ∷ l) a same =
    let here : part a ≡ x = ap part (omega arith) ∙ same 0 (omega arith) in
    let rest : list_all (λ i. f (part i)) (range_with_len (a + 1) (length l)) ≡ all f l = all_over d f part l (a + 1) (λ k h. ap part (omega arith) ∙ same (suc k) (omega arith)) in
    rw here (ap (λ b. f x && b) rest)
