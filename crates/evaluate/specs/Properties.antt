-- Properties of lists: the few words in which legality and the certificate are written.
use Rattle.std.specs.Prelude.{List, [], ◌∷◌}

-- each of the list
abbrev pub Each : {A : Type 0} → (A → Type 0) → List A → Type 0
Each P [] = Unit
Each P (a ∷ l) = P a × Each P l

-- any two of the list, the earlier first
abbrev pub Pairs : {A : Type 0} → (A → A → Type 0) → List A → Type 0
Pairs P [] = Unit
Pairs P (a ∷ l) = Each (P a) l × Pairs P l

-- each of the list with the next
abbrev pub Neighbours : {A : Type 0} → (A → A → Type 0) → List A → Type 0
Neighbours P [] = Unit
Neighbours P (a ∷ []) = Unit
Neighbours P (a ∷ b ∷ l) = P a b × Neighbours P (b ∷ l)

-- the first of the list, which has one
abbrev pub First : {A : Type 0} → (A → Type 0) → List A → Type 0
First P [] = ⊥
First P (a ∷ l) = P a

-- the last of the list, which has one
abbrev pub Last : {A : Type 0} → (A → Type 0) → List A → Type 0
Last P [] = ⊥
Last P (a ∷ []) = P a
Last P (a ∷ b ∷ l) = Last P (b ∷ l)

-- two lists of one length, each of the one with its fellow of the other
abbrev pub Matched : {A B : Type 0} → (A → B → Type 0) → List A → List B → Type 0
Matched P [] [] = Unit
Matched P [] (b ∷ m) = ⊥
Matched P (a ∷ l) [] = ⊥
Matched P (a ∷ l) (b ∷ m) = P a b × Matched P l m
