-- The walk counts what it hands over: its evaluations are as many as its assignments.
use Prim.Native.Nat.{ℕ, zero, suc, ◌-◌}
use native.Mathlib.Omega.{arith}
use mathlib.Core.Path.{◌≡◌}
use mathlib.Core.Bool.{Bool, true, false}
use mathlib.Core.List.{List, [], ◌∷◌}
use lib.Dec.{ltb, eqb}
use lib.ListN.{length, length-append}
use Rattle.ground.specs.Lists.{pick}
use Rattle.image.specs.Panel.{Panel, paths_at}
use Rattle.search.specs.declared.SearchBudget.{SearchBudget}
use Rattle.search.specs.Walk.{pass, down, give, Frame, Act, leave, doing, enter, unit_of, takes_member}
use Rattle.search.specs.Run.{Walk, exhausted, on_evaluation, on_frontier, Phase, going, ended, Limits, limits_of, root, stacked, begin, spend, done_with, after_act, on_top, unit, units, stopped, run, seeds, seeded_with, seeded, short, after_seeding, walk_from, untouched, walk}
use Rattle.enumeration.proofs.Budgets.{walk_in}

abbrev Tallied : Walk → Type 0
Tallied w = w.evaluations ≡ length w.out

module _ (p : Panel) where
  begin_tallied : (w : Walk) → Tallied w → Tallied (walk_in (begin p w))
  begin_tallied w h = go (ltb w.families (length p.families))
    where
      go : (t : Bool) → Tallied (walk_in (pick t (going (stacked w (root p w.families ∷ []))) (ended exhausted w)))
      go true = h
      go false = h

  module _ (lim : Limits) where
    act_tallied : (w : Walk) (d : ℕ) (rest : List Frame) (c : Act) → Tallied w → Tallied (walk_in (after_act p lim w d rest c))
    act_tallied w d [] leave h = begin_tallied (done_with (spend w d [])) h
    act_tallied w d (g ∷ rest) leave h = h
    act_tallied w d rest (doing pass g) h = h
    act_tallied w d rest (doing (down a) g) h = go (lim.full (suc (length rest)))
      where
        go : (t : Bool) → Tallied (walk_in (pick t (ended (on_frontier a) (spend w d (g ∷ rest))) (going (spend w d (enter p a ∷ g ∷ rest)))))
        go true = h
        go false = h
    act_tallied w d rest (doing (give x) g) h = simp length-append (omega arith)

    unit_tallied : (w : Walk) → Tallied w → Tallied (walk_in (unit p lim w))
    unit_tallied w h = go (lim.enough w.evaluations) (top w.stack)
      where
        top : (st : List Frame) → Tallied (walk_in (on_top p lim w st))
        top [] = begin_tallied w h
        top (f ∷ rest) = act_tallied w (pick (takes_member f) 1 0) rest (unit_of p (paths_at p w.families) f) h

        go : (t : Bool) → Tallied (walk_in (on_top p lim w w.stack)) → Tallied (walk_in (pick t (ended on_evaluation w) (on_top p lim w w.stack)))
        go true k = h
        go false k = k

    units_tallied : (n : ℕ) (s : Phase) → Tallied (walk_in s) → Tallied (walk_in (units p lim n s))
    unfolding units
    units_tallied zero s h = h
    units_tallied (suc n) (ended e w) h = h
    units_tallied (suc n) (going w) h = units_tallied n (unit p lim w) (unit_tallied w h)

  stopped_tallied : (s : Phase) → Tallied (walk_in s) → Tallied (stopped s).walk
  stopped_tallied (going w) h = h
  stopped_tallied (ended e w) h = h

  -- as many evaluations as assignments handed over
  pub walk_tallied : (b : SearchBudget) → (walk p b).walk.evaluations ≡ length (walk p b).walk.out
  unfolding walk walk_from seeded after_seeding run
  walk_tallied b = go (eqb start.natives (length p.families))
    where
      start : Walk
      start = seeded_with untouched (seeds p 0 p.families (b.max_work - 0) (b.max_evaluations - 0))

      tallied : Tallied start
      tallied = omega arith

      go : (t : Bool) → Tallied (pick t (stopped (units p (limits_of b) (b.max_work - start.work) (begin p start))) (short b start)).walk
      go true = stopped_tallied (units p (limits_of b) (b.max_work - start.work) (begin p start)) (units_tallied (limits_of b) (b.max_work - start.work) (begin p start) (begin_tallied start tallied))
      go false = tallied
