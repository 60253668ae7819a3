-- Laws of marks: of two lists joined, and of a family's.
use Prim.Native.Nat.{ℕ}
use mathlib.Core.Path.{◌≡◌, refl, ap, ◌∙◌}
use mathlib.Core.Bool.{Bool, true, false, ◌||◌}
use mathlib.Core.List.{List, [], ◌∷◌, ◌++◌, map}
use Rattle.plain.specs.Steps.{Mark, Marks, gives, too_deep, listed, goes_too_deep, of_family}

module _ {X : Type 0} (m : List (Mark X)) where
  pub listed_join : (l : List (Mark X)) → listed (l ++ m) ≡ listed l ++ listed m
  unfolding listed
  listed_join [] = refl
  listed_join (gives x ∷ l) = ap (λ r. x ∷ r) (listed_join l)
  listed_join (too_deep ∷ l) = listed_join l

  pub deep_join : (l : List (Mark X)) → goes_too_deep (l ++ m) ≡ (goes_too_deep l || goes_too_deep m)
  unfolding goes_too_deep
  deep_join [] = refl
  deep_join (gives x ∷ l) = deep_join l
  deep_join (too_deep ∷ l) = refl

pub or_true : (b : Bool) → (b || true) ≡ true
or_true true = refl
or_true false = refl

pub deep_left : {X : Type 0} (l m : List (Mark X)) → goes_too_deep l ≡ true → goes_too_deep (l ++ m) ≡ true
deep_left l m h = deep_join m l ∙ rw h refl

pub deep_right : {X : Type 0} (l m : List (Mark X)) → goes_too_deep m ≡ true → goes_too_deep (l ++ m) ≡ true
deep_right l m h = deep_join m l ∙ rw h (or_true (goes_too_deep l))

pub family_deep : (f : ℕ) (l : Marks) → goes_too_deep l ≡ goes_too_deep (map (of_family f) l)
unfolding goes_too_deep
family_deep f [] = refl
family_deep f (gives x ∷ l) = family_deep f l
family_deep f (too_deep ∷ l) = refl
