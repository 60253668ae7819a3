-- Seeding, the walk over all families under its budgets, and the unbudgeted walk (01, "The walk").
use Rattle.std.specs.Prelude.{ℕ, zero, suc, ◌+◌, ◌-◌, ◌≤◌, ◌<◌, max, ◌≡◌, Bool, false, List, [], ◌∷◌, ◌++◌, map, leb, ltb, eqb, length, drop, get_or}
use Rattle.ground.specs.Lists.{pick, numbers_from}
use Rattle.image.specs.Panel.{Panel, paths_at}
use Rattle.evaluate.specs.Segments.{Assignment, native_of}
use Rattle.search.specs.declared.SearchBudget.{SearchBudget}
use Rattle.search.specs.Walk.{Place, Frame, pass, down, give, Act, leave, doing, enter, begins, unit_of, takes_member}

-- where a walk stands: what it has counted, its stack (the top first), and what it has handed over for evaluation, in order
pub record Walk : Type 0 where
  pub work : ℕ
  pub evaluations : ℕ
  pub natives : ℕ
  pub donors : ℕ
  pub families : ℕ
  pub stack : List Frame
  pub out : List Assignment

-- how it ended; with the pending child where the stack was full
pub data Ending : Type 0 where
  exhausted : Ending
  on_work : Ending
  on_evaluation : Ending
  on_frontier : Place → Ending

pub data Phase : Type 0 where
  going : Walk → Phase
  ended : Ending → Walk → Phase

pub record Walked : Type 0 where
  pub ending : Ending
  pub walk : Walk

-- ---- one unit on the top frame

-- what stops a unit: so many evaluations made, and so many frames on the stack
pub record Limits : Type 0 where
  pub enough : ℕ → Bool
  pub full : ℕ → Bool

abbrev pub limits_of : SearchBudget → Limits
limits_of b = record { enough = λ n. leb b.max_evaluations n; full = λ n. leb b.max_frontier n }

abbrev pub unlimited : Limits
unlimited = record { enough = λ n. false; full = λ n. false }

-- "from slot 0, its first path, cut 0, forward"
abbrev pub root : Panel → ℕ → Frame
root p f = enter p (begins 0 (get_or (paths_at p f) 0 0) [])

abbrev pub stacked : Walk → List Frame → Walk
stacked w stack =
    record { work = w.work; evaluations = w.evaluations; natives = w.natives; donors = w.donors; families = w.families; stack = stack; out = w.out }

-- "Then each family in order": the next one is begun, or all are done
abbrev pub begin : Panel → Walk → Phase
begin p w = pick (ltb w.families (length p.families)) (going (stacked w (root p w.families ∷ []))) (ended exhausted w)

-- one unit more, with d members taken
abbrev pub spend : Walk → ℕ → List Frame → Walk
spend w d stack =
    record { work = suc w.work; evaluations = w.evaluations; natives = w.natives; donors = w.donors + d; families = w.families; stack = stack; out = w.out }

-- one evaluation more
abbrev pub handed : Walk → Assignment → Walk
handed w a =
    record { work = w.work; evaluations = suc w.evaluations; natives = w.natives; donors = w.donors; families = w.families; stack = w.stack; out = w.out ++ (a ∷ []) }

-- one family more
abbrev pub done_with : Walk → Walk
done_with w =
    record { work = w.work; evaluations = w.evaluations; natives = w.natives; donors = w.donors; families = suc w.families; stack = []; out = w.out }

-- "A family is done when its stack empties"
abbrev pub left : Panel → Walk → ℕ → List Frame → Phase
left p w d [] = begin p (done_with (spend w d []))
left p w d (g ∷ rest) = going (spend w d (g ∷ rest))

-- "Descending with max_frontier frames keeps the child as pending and stops."
abbrev pub after_act : Panel → Limits → Walk → ℕ → List Frame → Act → Phase
after_act p lim w d rest leave = left p w d rest
after_act p lim w d rest (doing pass g) = going (spend w d (g ∷ rest))
after_act p lim w d rest (doing (down a) g) =
    pick (lim.full (suc (length rest))) (ended (on_frontier a) (spend w d (g ∷ rest))) (going (spend w d (enter p a ∷ g ∷ rest)))
after_act p lim w d rest (doing (give rs) g) = going (handed (spend w d (g ∷ rest)) (record { family = w.families; routes = rs }))

abbrev pub on_top : Panel → Limits → Walk → List Frame → Phase
on_top p lim w [] = begin p w
on_top p lim w (f ∷ rest) = after_act p lim w (pick (takes_member f) 1 0) rest (unit_of p (paths_at p w.families) f)

-- evaluations at max_evaluations stop; else one unit
abbrev pub unit : Panel → Limits → Walk → Phase
unit p lim w = pick (lim.enough w.evaluations) (ended on_evaluation w) (on_top p lim w w.stack)

-- n units on, or to the end
unfoldable pub units : Panel → Limits → ℕ → Phase → Phase
units p lim zero ph = ph
units p lim (suc n) (ended e w) = ended e w
units p lim (suc n) (going w) = units p lim n (unit p lim w)

-- "Before every unit, with a frame on the stack, work at max_work stops, then evaluations at max_evaluations": the work that is left goes first
abbrev pub stopped : Phase → Walked
stopped (ended e w) = record { ending = e; walk = w }
stopped (going w) = record { ending = on_work; walk = w }

unfoldable pub run : Panel → SearchBudget → ℕ → Phase → Walked
run p b n ph = stopped (units p (limits_of b) n ph)

-- ---- seeding

-- "family by family, stop if work is at max_work or natives at max_evaluations": the natives of these families, with so much work and so many evaluations left
unfoldable pub seeds : Panel → ℕ → List (List ℕ) → ℕ → ℕ → List Assignment
seeds p f [] w e = []
seeds p f (l ∷ ls) zero e = []
seeds p f (l ∷ ls) (suc w) zero = []
seeds p f (l ∷ ls) (suc w) (suc e) = native_of p f ∷ seeds p (suc f) ls w e

-- "else one unit, and the native assignment is evaluated"
abbrev pub seeded_with : Walk → List Assignment → Walk
seeded_with w l =
    record { work = w.work + length l; evaluations = w.evaluations + length l; natives = w.natives + length l; donors = w.donors; families = w.families; stack = w.stack; out = w.out ++ l }

unfoldable pub seeded : Panel → SearchBudget → Walk → Walk
seeded p b w = seeded_with w (seeds p w.natives (drop w.natives p.families) (b.max_work - w.work) (b.max_evaluations - w.natives))

-- ---- the walk from any state on

-- the child that is pending: none, or one where the frontier stopped the walk
abbrev pub waiting : Ending → List Place
waiting exhausted = []
waiting on_work = []
waiting on_evaluation = []
waiting (on_frontier a) = a ∷ []

-- the stack is continued, or the next family is begun
abbrev pub resumed : Panel → Walk → List Frame → Phase
resumed p w [] = begin p w
resumed p w (f ∷ rest) = going w

-- a pending child is entered if there is room for it now, at no cost; else it is pending still
abbrev pub taken_up : Panel → Limits → Walk → List Place → Phase
taken_up p lim w [] = resumed p w w.stack
taken_up p lim w (a ∷ l) = pick (lim.full (length w.stack)) (ended (on_frontier a) w) (going (stacked w (enter p a ∷ w.stack)))

-- "Stopped short, the status is evaluation if natives are at max_evaluations, else work."
abbrev pub short : SearchBudget → Walk → Walked
short b w = record { ending = pick (leb b.max_evaluations w.natives) on_evaluation on_work; walk = w }

unfoldable pub after_seeding : Panel → SearchBudget → List Place → Walk → Walked
after_seeding p b l w = pick (eqb w.natives (length p.families)) (run p b (b.max_work - w.work) (taken_up p (limits_of b) w l)) (short b w)

-- with the pending child, if there is one
unfoldable pub walk_from : Panel → SearchBudget → List Place → Walk → Walked
walk_from p b l w = after_seeding p b l (seeded p b w)

-- a walk that stopped, under these budgets
abbrev pub continued : Panel → SearchBudget → Walked → Walked
continued p b r = walk_from p b (waiting r.ending) r.walk

-- nothing done yet
abbrev pub untouched : Walk
untouched = record { work = 0; evaluations = 0; natives = 0; donors = 0; families = 0; stack = []; out = [] }

-- the first run
unfoldable pub walk : Panel → SearchBudget → Walked
walk p b = walk_from p b [] untouched

-- ---- the unbudgeted walk

-- one native for each family
unfoldable pub natives_of : Panel → List Assignment
natives_of p = map (native_of p) (numbers_from 0 (length p.families))

-- where it begins: after its seeding
unfoldable pub outset : Panel → Phase
outset p = begin p (seeded_with untouched (natives_of p))

-- it ends, after so many units past its seeding
pub record Unbudgeted (p : Panel) : Type 0 where
  pub steps : ℕ
  pub final : Walk
  pub ends : units p unlimited steps (outset p) ≡ ended exhausted final

abbrev pub frames_of : Phase → ℕ
frames_of (going w) = length w.stack
frames_of (ended e w) = length w.stack

-- the deepest stack within n units
unfoldable pub deepest : Panel → ℕ → Phase → ℕ
deepest p zero ph = frames_of ph
deepest p (suc n) (ended e w) = length w.stack
deepest p (suc n) (going w) = max (length w.stack) (deepest p n (unit p unlimited w))

-- "Budgets suffice when, against the unbudgeted walk with its seeding, max_work is at least its units, max_evaluations more than its
-- evaluations, and max_frontier at least its deepest stack."
pub record Suffices (p : Panel) (b : SearchBudget) (u : Unbudgeted p) : Type 0 where
  pub work : u.final.work ≤ b.max_work
  pub evaluations : u.final.evaluations < b.max_evaluations
  pub frontier : deepest p u.steps (outset p) ≤ b.max_frontier
