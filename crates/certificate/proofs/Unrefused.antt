-- What a search that was not refused says of what it was given.
use Prim.Native.Nat.{ℕ, suc}
use native.Mathlib.Omega.{arith}
use mathlib.Core.Path.{◌≡◌, refl}
use mathlib.Core.Bool.{Bool, true, false}
use mathlib.Core.List.{List, [], ◌∷◌}
use lib.Dec.{eqb}
use lib.ListN.{length, take}
use lib.Ieee.{Float}
use lib.Ieee.Scale.{finite}
use borrow.Author.Tests.{eqb-true}
use Rattle.ground.specs.Lists.{pick}
use Rattle.image.specs.Panel.{panel_of}
use Rattle.graph.specs.Check.{panel_refusal}
use Rattle.evaluate.specs.declared.Refusal.{Refusal}
use Rattle.evaluate.specs.Refusals.{at}
use Rattle.evaluate.specs.Properties.{Matched}
use Rattle.evaluate.specs.Segments.{Assignment}
use Rattle.evaluate.proofs.CheckLegal.{at_zero}
use Rattle.search.specs.declared.SearchBudget.{SearchBudget}
use Rattle.search.specs.Budget.{budget_refusal}
use Rattle.search.specs.Run.{walk}
use Rattle.search.specs.Keep.{scores_refusal, finite_or15}
use Rattle.search.specs.Search.{walked, evaluation_refusal, fresh, search}
use Rattle.search.specs.Rooms.{rooms_refusal}
use Rattle.search.specs.Answers.{Rooms, search_refusal, refused_search, reply_of, search_answer}
use Rattle.certificate.specs.Terms.{PanelAccepted, FiniteScore, handed_over}

pub unrefused : (s : List ℕ) (b : SearchBudget) (xs : List Float) (rooms : Rooms) → (search_answer s b xs rooms).refusal ≡ 0 → (search_refusal s b xs rooms).number ≡ 0
unfolding search_answer reply_of
unrefused s b xs rooms = go (eqb (search_refusal s b xs rooms).number 0) refl
  where
    q : Refusal
    q = search_refusal s b xs rooms

    go : (c : Bool) → eqb q.number 0 ≡ c → (pick c (reply_of (search (panel_of s) b xs)) (refused_search q)).refusal ≡ 0 → q.number ≡ 0
    go true e h = eqb-true q.number 0 e
    go false e h = h

finite_or : (t : Bool) (n : ℕ) (q : Refusal) → (finite_or15 t n q).number ≡ 0 → t ≡ true
finite_or true n q h = refl
finite_or false n q h = absurd (omega arith)

finite_rest : (t : Bool) (n : ℕ) (q : Refusal) → (finite_or15 t n q).number ≡ 0 → q.number ≡ 0
finite_rest true n q h = h
finite_rest false n q h = absurd (omega arith)

all_finite : (n : ℕ) (out : List Assignment) (xs : List Float) → (scores_refusal n out xs).number ≡ 0 → Matched FiniteScore out (take (length out) xs)
unfolding scores_refusal
all_finite n [] xs h = tt
all_finite n (a ∷ out) [] h = absurd (omega arith)
all_finite n (a ∷ out) (x ∷ xs) h = (finite_or (finite x) n (scores_refusal (suc n) out xs) h, all_finite (suc n) out xs (finite_rest (finite x) n (scores_refusal (suc n) out xs) h))

-- none of refusals 1 to 8, 11 to 15 meets it
pub record Unrefused (s : List ℕ) (b : SearchBudget) (xs : List Float) (rooms : Rooms) : Type 0 where
  pub panel : PanelAccepted s
  pub budget : budget_refusal b ≡ 0
  pub roomy : rooms_refusal (panel_of s) b (length rooms.frames) (length rooms.kept) (length rooms.scores) ≡ 0
  pub scored : Matched FiniteScore (handed_over s b) (take (length (handed_over s b)) xs)

pub none_refuses : (s : List ℕ) (b : SearchBudget) (xs : List Float) (rooms : Rooms) → (search_refusal s b xs rooms).number ≡ 0 → Unrefused s b xs rooms
unfolding search_refusal evaluation_refusal walked walk
none_refuses s b xs rooms none =
    let byRooms : ℕ = rooms_refusal (panel_of s) b (length rooms.frames) (length rooms.kept) (length rooms.scores) in
    let late : Refusal = evaluation_refusal (panel_of s) b xs fresh in
    let (p, q) = at_zero (panel_refusal s) 0 (at (budget_refusal b) 0 (at byRooms 0 late)) none in
    let (u, v) = at_zero (budget_refusal b) 0 (at byRooms 0 late) q in
    let (w, x) = at_zero byRooms 0 late v in
    record { panel = p; budget = u; roomy = w; scored = all_finite 1 (handed_over s b) xs x }
