-- The tests of sameness tell equality, of segments, lists and assignments.
use Prim.Native.Nat.{ℕ}
use mathlib.Core.Path.{◌≡◌, refl, sym, ap₂}
use mathlib.Core.Bool.{Bool, true, false, ◌&&◌, true≢false}
use mathlib.Core.List.{List, [], ◌∷◌}
use lib.Dec.{eqb}
use borrow.Author.Tests.{eq-eqb, eqb-true}
use Rattle.ground.proofs.ListLaws.{both}
use Rattle.storage.specs.Records.{same_turn}
use Rattle.evaluate.specs.declared.Segment.{Segment}
use Rattle.evaluate.specs.Segments.{Route, Assignment}
use Rattle.evaluate.proofs.NormalForm.{same_turn_is}
use Rattle.search.specs.Keep.{same_segment, same_list, same_assignment}

-- a test that tells whether two are one
pub record Decides {A : Type 0} (same : A → A → Bool) : Type 0 where
  pub is : (a b : A) → same a b ≡ true → a ≡ b
  pub self : (a : A) → same a a ≡ true

pub list_decides : {A : Type 0} {same : A → A → Bool} → Decides same → Decides (same_list same)
unfolding same_list
list_decides {A} {same} d = record { is = is; self = self }
  where
    is : (a b : List A) → same_list same a b ≡ true → a ≡ b
    is [] [] e = refl
    is [] (b ∷ m) e = absurd (true≢false (sym e))
    is (a ∷ l) [] e = absurd (true≢false (sym e))
    is (a ∷ l) (b ∷ m) e =
        let p = both (same a b) (same_list same l m) e in
        ap₂ (λ (x : A) (t : List A). x ∷ t) (d.is a b p.0) (is l m p.1)

    self : (a : List A) → same_list same a a ≡ true
    self [] = refl
    self (a ∷ l) = rw (d.self a) (self l)

pub words_decide : Decides eqb
words_decide = record { is = eqb-true; self = λ a. eq-eqb a a refl }

turn_self : (a : Bool) → same_turn a a ≡ true
turn_self true = refl
turn_self false = refl

segments_decide : Decides same_segment
segments_decide = record { is = is; self = λ s. rw (eq-eqb s.source s.source refl, eq-eqb s.start s.start refl, eq-eqb s.end s.end refl) (turn_self s.reverse) }
  where
    is : (s t : Segment) → same_segment s t ≡ true → s ≡ t
    is s t e =
        let p = both (eqb s.source t.source && eqb s.start t.start && eqb s.end t.end) (same_turn s.reverse t.reverse) e in
        let q = both (eqb s.source t.source && eqb s.start t.start) (eqb s.end t.end) p.0 in
        let r = both (eqb s.source t.source) (eqb s.start t.start) q.0 in
        let a : s.source ≡ t.source = eqb-true s.source t.source r.0 in
        let b : s.start ≡ t.start = eqb-true s.start t.start r.1 in
        let c : s.end ≡ t.end = eqb-true s.end t.end q.1 in
        let d : s.reverse ≡ t.reverse = same_turn_is s.reverse t.reverse p.1 in
        λ i. record { source = a i; start = b i; end = c i; reverse = d i }

pub assignments_decide : Decides same_assignment
assignments_decide = record { is = is; self = λ a. rw (eq-eqb a.family a.family refl) (routes.self a.routes) }
  where
    routes : Decides (same_list (same_list same_segment))
    routes = list_decides (list_decides segments_decide)

    is : (a b : Assignment) → same_assignment a b ≡ true → a ≡ b
    is a b e =
        let p = both (eqb a.family b.family) (same_list (same_list same_segment) a.routes b.routes) e in
        ap₂ (λ (f : ℕ) (r : List Route). record { family = f; routes = r }) (eqb-true a.family b.family p.0) (routes.is a.routes b.routes p.1)
