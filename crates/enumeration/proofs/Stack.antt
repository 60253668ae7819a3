-- The unbudgeted walk of one family hands over what the enumerator says.
use Prim.Native.Nat.{ℕ, zero, suc, ◌<◌}
use native.Mathlib.Omega.{arith}
use mathlib.Core.Path.{◌≡◌, refl, ◌∙◌, ap}
use mathlib.Core.List.{List, [], ◌∷◌, ◌++◌, map, Memᴰ, cons≢nil}
use mathlib.Core.Bool.{Bool, true, false}
use lib.ListN.{length}
use Rattle.image.specs.Panel.{Panel}
use Rattle.evaluate.specs.Segments.{Route}
use Rattle.search.specs.Walk.{pass, down, give, Place, Frame, Doing, Act, leave, doing, enter, unit_of, first_port, ports_here}
use Rattle.enumeration.proofs.Tree.{State, at, one, iter, enum, run_node}
use Rattle.enumeration.proofs.Sim.{tasks_of, remaining, Good, Does, NextIn, unit_does, enter_tasks, count_le}

-- the stack and what was handed over
pub data Stack : Type 0 where
  on : List Frame → List (List Route) → Stack

module _ (p : Panel) (paths : List ℕ) where
  abbrev pub acted : List Frame → List (List Route) → Act → Stack
  acted rest out leave = on rest out
  acted rest out (doing pass g) = on (g ∷ rest) out
  acted rest out (doing (down a) g) = on (enter p a ∷ g ∷ rest) out
  acted rest out (doing (give x) g) = on (g ∷ rest) (out ++ (x ∷ []))

  abbrev pub unit_on : Stack → Stack
  unit_on (on [] out) = on [] out
  unit_on (on (f ∷ rest) out) = acted rest out (unit_of p paths f)

  abbrev pub steps : ℕ → Stack → Stack
  steps zero s = s
  steps (suc n) s = steps n (unit_on s)

  abbrev pub tasks_in : Stack → State Place (List Route)
  tasks_in (on st out) = at (map (remaining p paths) st) out

  abbrev pub AllGood : List Frame → Type 0
  AllGood [] = Unit
  AllGood (f ∷ st) = Good p f × AllGood st

  abbrev pub GoodStack : Stack → Type 0
  GoodStack (on st out) = AllGood st

  pub enter_good : (a : Place) → Good p (enter p a)
  unfolding enter
  enter_good a = record { hub = omega arith; next = go a.reverse }
    where
      go : (r : Bool) → NextIn r (first_port p a r) (length (ports_here p a))
      go false = omega arith
      go true = count_le _ (ports_here p a)

  acted_is : (f : Frame) (rest : List Frame) (out : List (List Route)) (c : Act) → Does p paths f c → AllGood rest
      → (tasks_in (acted rest out c) ≡ one (tasks_of p paths) (at (remaining p paths f ∷ map (remaining p paths) rest) out)) × GoodStack (acted rest out c)
  acted_is f rest out leave d h = (rw d refl, h)
  acted_is f rest out (doing pass g) d h = (rw d.0 refl, (d.1, h))
  acted_is f rest out (doing (down a) g) d h = (rw (d.0, enter_tasks) refl, (enter_good a, (d.1, h)))
  acted_is f rest out (doing (give x) g) d h = (rw d.0 refl, (d.1, h))

  pub unit_is : (s : Stack) → GoodStack s → (tasks_in (unit_on s) ≡ one (tasks_of p paths) (tasks_in s)) × GoodStack (unit_on s)
  unit_is (on [] out) h = (refl, tt)
  unit_is (on (f ∷ rest) out) h = acted_is f rest out (unit_of p paths f) (unit_does p paths f h.0) h.1

  pub units_are : (n : ℕ) (s : Stack) → GoodStack s → tasks_in (steps n s) ≡ iter (tasks_of p paths) n (tasks_in s)
  units_are zero s h = refl
  units_are (suc n) s h = let u = unit_is s h in units_are n (unit_on s) u.1 ∙ ap (iter (tasks_of p paths) n) u.0

  -- a stack with no tasks left is empty
  abbrev out_of : State Place (List Route) → List (List Route)
  out_of (at st out) = out

  abbrev depth : State Place (List Route) → List (List Doing)
  depth (at st out) = st

  pub emptied : (s : Stack) (out : List (List Route)) → tasks_in s ≡ at [] out → s ≡ on [] out
  emptied (on [] o) out e = ap (on []) (ap out_of e)
  emptied (on (f ∷ st) o) out e = absurd (cons≢nil (ap depth e))

  -- the walk of a family: for some number of steps the stack is empty and the enumerated routes have been handed over
  module _ (Ok : Place → Type 0) (μ : Place → ℕ)
      (falls : (a b : Place) → Ok a → Memᴰ (down b) (tasks_of p paths a) → Ok b × (μ b < μ a)) where
    pub walked : (d : ℕ) (a : Place) → Ok a × (μ a < d) → (out : List (List Route)) → (n : ℕ) × (steps n (on (enter p a ∷ []) out) ≡ on [] (out ++ enum (tasks_of p paths) d a))
    walked d a h out = let r = run_node (tasks_of p paths) Ok μ falls d a h [] out in (
      r.0,
      emptied (steps r.0 (on (enter p a ∷ []) out)) (out ++ enum (tasks_of p paths) d a)
          (units_are r.0 (on (enter p a ∷ []) out) (enter_good a, tt) ∙ rw enter_tasks r.1),
    )
