-- For the reader: a search that discarded one (status 2) may tie in another order than that in which the assignments were first handed over, so
-- the sentence claims that order with status 1 alone. Panel E with three families, room for two ties, tie width 1.0: the third native finds no
-- room when it is seeded; the mosaic, which scores lower, makes room; when the walk hands the native over again, it comes behind the mosaic.
use Prim.Native.Nat.{ℕ}
use native.Mathlib.Omega.{arith}
use mathlib.Core.Path.{◌≡◌, refl, sym, ap, subst}
use mathlib.Core.List.{List, [], ◌∷◌, ◌++◌, map, Memᴰ}
use lib.Dec.{eqb}
use lib.ListN.{length, get_or}
use lib.Ieee as Ieee
use lib.Ieee.{Float}
use Rattle.ground.specs.Lists.{pick}
use Rattle.evaluate.specs.Properties.{Pairs}
use Rattle.evaluate.specs.Segments.{Assignment, flat}
use Rattle.search.specs.declared.SearchBudget.{SearchBudget}
use Rattle.search.specs.declared.Status.TheVariants.{SupportIncomplete}
use Rattle.search.specs.Counters.{status_number}
use Rattle.search.specs.Answers.{search_answer}
use Rattle.graph.specs.PanelE.{panel_e}
use Rattle.certificate.specs.Examples.{double, five, one, budget, rooms, fwd, panel_e3, answers_to}
use Rattle.certificate.specs.Terms.{handed_over, kept_by, Earlier, assignment_of}
use Rattle.certificate.specs.Sentence.{ScoredBy}

-- 4.5 and 3.5
abbrev four_and_half : ℕ
four_and_half = 0x4012000000000000

abbrev three_and_half : ℕ
three_and_half = 0x400c000000000000

-- the scoring function: by family, the natives 5, 5, 4.5, the mosaics 3.5, 5, 5
abbrev h : Assignment → Float
h a = double (get_or (pick (eqb (length (flat a.routes)) 1) (five ∷ five ∷ four_and_half ∷ []) (three_and_half ∷ five ∷ five ∷ [])) a.family 0)

-- of family n: the native on lane l, the mosaic of lane 0, and that of lane 1
abbrev own : ℕ → ℕ → Assignment
own n l = record { family = n; routes = (fwd l 0 10 ∷ []) ∷ [] }

abbrev mosaic : ℕ → Assignment
mosaic n = record { family = n; routes = (fwd 0 0 4 ∷ fwd 1 6 8 ∷ fwd 0 7 10 ∷ []) ∷ [] }

abbrev other : ℕ → Assignment
other n = record { family = n; routes = (fwd 1 0 6 ∷ fwd 0 4 7 ∷ fwd 1 8 10 ∷ []) ∷ [] }

-- what is handed over
abbrev out : List Assignment
out = own 0 0 ∷ own 1 1 ∷ own 2 0 ∷ own 0 0 ∷ mosaic 0 ∷ own 1 1 ∷ other 1 ∷ own 2 0 ∷ mosaic 2 ∷ []

abbrev xs : List Float
xs = map h out

abbrev two : SearchBudget
two = budget 100000 1000 32 2 one

record Shown : Type 0 where
  handed : (answers_to panel_e3 xs).handed two ≡ out
  passed : ((answers_to panel_e3 xs).answer two).refusal ≡ 0
  status : ((answers_to panel_e3 xs).answer two).status ≡ 2
  tied : map assignment_of ((answers_to panel_e3 xs).kept two).tied ≡ mosaic 0 ∷ own 2 0 ∷ []

shown : Shown
unfolding answers_to panel_e panel_e3 Ieee.of_bits
shown = record { handed = refl; passed = refl; status = refl; tied = refl }

handed_3 : handed_over panel_e3 two ≡ out
unfolding answers_to
handed_3 = shown.handed

-- the sentence's premises are met: the scores are h's, and nothing is refused
scored_out : ScoredBy h out xs
unfolding Ieee.of_bits Ieee.eq
scored_out = (refl, (refl, (refl, (refl, (refl, (refl, (refl, (refl, (refl, tt)))))))))

pub scored_3 : ScoredBy h (handed_over panel_e3 two) xs
scored_3 = subst (λ (l : List Assignment). ScoredBy h l xs) (sym handed_3) scored_out

pub passed_3 : (search_answer panel_e3 two xs rooms).refusal ≡ 0
unfolding answers_to
passed_3 = shown.passed

-- it is exhausted, with one discarded
pub incomplete_3 : (search_answer panel_e3 two xs rooms).status ≡ status_number SupportIncomplete
unfolding answers_to
incomplete_3 = shown.status

-- the tied list has the mosaic, then the third native
pub tied_3 : map assignment_of (kept_by panel_e3 two xs).tied ≡ mosaic 0 ∷ own 2 0 ∷ []
unfolding answers_to
tied_3 = shown.tied

pieces : Assignment → ℕ
pieces a = length (flat a.routes)

-- which was handed over before it
later : Earlier out (mosaic 0) (own 2 0) → ⊥
unfolding pieces
later e = go e.before e.split e.none
  where
    go : (before : List Assignment) → out ≡ before ++ (mosaic 0 ∷ e.after) → (Memᴰ (own 2 0) before → ⊥) → ⊥
    go [] q none = let z : ◌≡◌ {A = ℕ} 1 3 = ap (λ (l : List Assignment). pieces (get_or l 0 (mosaic 0))) q in omega arith
    go (a ∷ []) q none = let z : ◌≡◌ {A = ℕ} 1 3 = ap (λ (l : List Assignment). pieces (get_or l 1 (mosaic 0))) q in omega arith
    go (a ∷ c ∷ []) q none = let z : ◌≡◌ {A = ℕ} 1 3 = ap (λ (l : List Assignment). pieces (get_or l 2 (mosaic 0))) q in omega arith
    go (a ∷ c ∷ d ∷ l) q none = none (Memᴰ.tail (Memᴰ.tail (Memᴰ.head (ap (λ (t : List Assignment). get_or t 2 (mosaic 0)) q))))

-- THE ORDER IS NOT KEPT
pub out_of_order : Pairs (Earlier (handed_over panel_e3 two)) (map assignment_of (kept_by panel_e3 two xs).tied) → ⊥
out_of_order pairs =
    let p : Pairs (Earlier (handed_over panel_e3 two)) (mosaic 0 ∷ own 2 0 ∷ []) = subst (Pairs (Earlier (handed_over panel_e3 two))) tied_3 pairs in
    later (subst (λ (l : List Assignment). Earlier l (mosaic 0) (own 2 0)) handed_3 p.0.0)
