-- How high a family's stack grows, and the deepest stack of a walk.
use Prim.Native.Nat.{ℕ, zero, suc, ◌+◌, ◌<◌, max}
use native.Mathlib.Omega.{arith}
use native.Mathlib.Nat.{zero-add, suc-add, add_comm}
use mathlib.Core.Path.{◌≡◌, refl, sym, ◌∙◌, ap}
use mathlib.Core.List.{List, [], ◌∷◌, ◌++◌, map, Memᴰ}
use lib.ListN.{length, length-map}
use Rattle.image.specs.Panel.{Panel, paths_at}
use Rattle.evaluate.specs.Segments.{Route, Assignment}
use Rattle.search.specs.Walk.{down, Place, Frame, enter}
use Rattle.search.specs.Run.{Walk, Ending, exhausted, Phase, going, ended, unlimited, unit, units, deepest}
use Rattle.enumeration.proofs.Tree.{one, iter, enum}
use Rattle.enumeration.proofs.Tree as tree
use Rattle.enumeration.proofs.Sim.{tasks_of, remaining, enter_tasks}
use Rattle.enumeration.proofs.Stack.{Stack, on, unit_on, steps, tasks_in, GoodStack, enter_good, unit_is, units_are, emptied}
use Rattle.enumeration.proofs.Whole.{Counts, tag, phase_of, unit_phase}
use Rattle.enumeration.proofs.Whole as whole
use Rattle.plain.proofs.Height.{tall, peak, height, climb_node}

-- ---- on a family's stack

module _ (p : Panel) (paths : List ℕ) where
  abbrev frames_on : Stack → ℕ
  frames_on (on st o) = length st

  -- the highest stack within the first n units, before each
  abbrev pub peak_on : ℕ → Stack → ℕ
  peak_on zero s = 0
  peak_on (suc n) s = max (frames_on s) (peak_on n (unit_on p paths s))

  frames_are : (s : Stack) → frames_on s ≡ tall (tasks_of p paths) (tasks_in p paths s)
  frames_are (on st o) = sym (length-map st (remaining p paths))

  peaks_are : (n : ℕ) (s : Stack) → GoodStack p paths s → peak_on n s ≡ peak (tasks_of p paths) n (tasks_in p paths s)
  peaks_are zero s h = refl
  peaks_are (suc n) s h =
      let u = unit_is p paths s h in
      let e : peak_on n (unit_on p paths s) ≡ peak (tasks_of p paths) n (one (tasks_of p paths) (tasks_in p paths s)) = peaks_are n (unit_on p paths s) u.1 ∙ ap (peak (tasks_of p paths) n) u.0 in
      let f = frames_are s in
      omega arith

  pub idle_peak : (n : ℕ) (o : List (List Route)) → peak_on n (on [] o) ≡ 0
  idle_peak zero o = refl
  idle_peak (suc n) o = let h = idle_peak n o in omega arith

  -- a family's walk: what it hands over, and how high its stack grows
  pub record Climbs (d : ℕ) (a : Place) : Type 0 where
    pub units : ℕ
    pub ends : steps p paths units (on (enter p a ∷ []) []) ≡ on [] (enum (tasks_of p paths) d a)
    pub top : peak_on units (on (enter p a ∷ []) []) ≡ height (tasks_of p paths) d a

  module _ (Ok : Place → Type 0) (μ : Place → ℕ) (falls : (a b : Place) → Ok a → Memᴰ (down b) (tasks_of p paths a) → Ok b × (μ b < μ a)) where
    pub climbs : (d : ℕ) (a : Place) → Ok a × (μ a < d) → Climbs d a
    climbs d a h =
        let c = climb_node (tasks_of p paths) Ok μ falls d a h [] [] in
        let s : Stack = on (enter p a ∷ []) [] in
        let g : GoodStack p paths s = (enter_good p paths a, tt) in
        let e : tasks_in p paths s ≡ tree.at (tasks_of p paths a ∷ []) [] = rw enter_tasks refl in
        record {
          units = c.units;
          ends = emptied p paths (steps p paths c.units s) (enum (tasks_of p paths) d a) (units_are p paths c.units s g ∙ ap (iter (tasks_of p paths) c.units) e ∙ c.ends);
          top = peaks_are c.units s g ∙ ap (peak (tasks_of p paths) c.units) e ∙ c.top ∙ zero-add (height (tasks_of p paths) d a);
        }

-- ---- on the walk

module _ (p : Panel) where
  -- the deepest stack within the first n units, before each
  unfoldable pub under : ℕ → Phase → ℕ
  under zero s = 0
  under (suc n) (ended e w) = 0
  under (suc n) (going w) = max (length w.stack) (under n (unit p unlimited w))

  deepest_ended : (n : ℕ) (e : Ending) (w : Walk) → deepest p n (ended e w) ≡ length w.stack
  unfolding deepest
  deepest_ended zero e w = refl
  deepest_ended (suc n) e w = refl

  pub deepest_add : (m n : ℕ) (s : Phase) → deepest p (m + n) s ≡ max (under m s) (deepest p n (units p unlimited m s))
  unfolding under units deepest
  deepest_add zero n s = rw zero-add (omega arith)
  deepest_add (suc m) n (ended e w) = let h = deepest_ended (suc m + n) e w in let k = deepest_ended n e w in omega arith
  deepest_add (suc m) n (going w) = rw suc-add (let h = deepest_add m n (unit p unlimited w) in omega arith)

  -- a walk that has ended has one deepest stack
  pub one_depth : (m n : ℕ) (s : Phase) (v w : Walk) → units p unlimited m s ≡ ended exhausted v → units p unlimited n s ≡ ended exhausted w → deepest p m s ≡ deepest p n s
  one_depth m n s v w e f = past m n v e ∙ ap (λ (i : ℕ). deepest p i s) (add_comm m n) ∙ sym (past n m w f)
    where
      past : (m n : ℕ) (v : Walk) → units p unlimited m s ≡ ended exhausted v → deepest p m s ≡ deepest p (m + n) s
      past m n v e =
          let x = deepest_add m n s in
          let y : deepest p (m + 0) s ≡ max (under m s) (deepest p 0 (units p unlimited m s)) = deepest_add m 0 s in
          let z : deepest p (m + 0) s ≡ deepest p m s = ap (λ (i : ℕ). deepest p i s) (let q : m + 0 ≡ m = omega arith in q) in
          let a : deepest p n (units p unlimited m s) ≡ length v.stack = ap (deepest p n) e ∙ deepest_ended n exhausted v in
          let b : deepest p 0 (units p unlimited m s) ≡ length v.stack = ap (deepest p 0) e ∙ deepest_ended 0 exhausted v in
          omega arith

  -- a run from one phase to another, before whose units the stack is at most so deep
  pub record Reaches (s t : Phase) (h : ℕ) : Type 0 where
    pub count : ℕ
    pub ends : units p unlimited count s ≡ t
    pub top : under count s ≡ h

  -- the walk of one family
  pub family_reaches : (f : ℕ) (base : List Assignment) (n : ℕ) (c : Counts) (st : List Frame) (o out : List (List Route)) → steps p (paths_at p f) n (on st o) ≡ on [] out
      → (c' : Counts) × Reaches (phase_of p f c base (on st o)) (phase_of p f c' base (on [] out)) (peak_on p (paths_at p f) n (on st o))
  unfolding units under
  family_reaches f base zero c st o out e = (c, record { count = 0; ends = ap (phase_of p f c base) e; top = refl })
  family_reaches f base (suc n) c [] o out e =
      (c, record { count = 0; ends = ap (phase_of p f c base) (sym (whole.idle p (paths_at p f) n o) ∙ e); top = sym (idle_peak p (paths_at p f) (suc n) o) })
  family_reaches f base (suc n) c (g ∷ st) o out e =
      step (unit_on p (paths_at p f) (on (g ∷ st) o)) refl (unit_phase p f c base g st o) (λ c' st' o'. family_reaches f base n c' st' o' out)
    where
      paths : List ℕ
      paths = paths_at p f

      w : Walk
      w = whole.at p f c (g ∷ st) (base ++ map (tag p f) o)

      step : (s : Stack) → unit_on p paths (on (g ∷ st) o) ≡ s
          → (c' : Counts) × (unit p unlimited w ≡ phase_of p f c' base (unit_on p paths (on (g ∷ st) o)))
          → ((c' : Counts) (st' : List Frame) (o' : List (List Route)) → steps p paths n (on st' o') ≡ on [] out
          → (c'' : Counts) × Reaches (phase_of p f c' base (on st' o')) (phase_of p f c'' base (on [] out)) (peak_on p paths n (on st' o')))
          → (c'' : Counts) × Reaches (going w) (phase_of p f c'' base (on [] out)) (peak_on p paths (suc n) (on (g ∷ st) o))
      step (on st' o') q u ih =
          let r = ih u.0 st' o' (ap (steps p paths n) (sym q) ∙ e) in
          let v : unit p unlimited w ≡ phase_of p f u.0 base (on st' o') = u.1 ∙ ap (phase_of p f u.0 base) q in
          let x : under r.1.count (unit p unlimited w) ≡ peak_on p paths n (on st' o') = ap (under r.1.count) v ∙ r.1.top in
          let y : peak_on p paths n (unit_on p paths (on (g ∷ st) o)) ≡ peak_on p paths n (on st' o') = ap (peak_on p paths n) q in
          (r.0, record { count = suc r.1.count; ends = ap (units p unlimited r.1.count) v ∙ r.1.ends; top = omega arith })
