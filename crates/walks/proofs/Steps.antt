-- A unit of the walk, on the stack of a room.
use Prim.Native.Nat.{ℕ, zero, suc, ◌+◌, ◌-◌, ◌≤◌, ◌<◌}
use native.Mathlib.Omega.{arith}
use mathlib.Core.Path.{◌≡◌, refl, ap, ◌∙◌}
use mathlib.Core.List.{List, [], ◌∷◌}
use borrow.Author.Tests.{le-leb, lt-leb}
use Rattle.ground.specs.Lists.{pick}
use Rattle.image.specs.Panel.{Panel, paths_at}
use Rattle.evaluate.specs.Segments.{Assignment}
use Rattle.search.specs.declared.SearchBudget.{SearchBudget}
use Rattle.search.specs.declared.Tally.{Tally}
use Rattle.search.specs.Walk.{Frame, Act, unit_of, takes_member}
use Rattle.search.specs.Run.{Walk, going, ended, Ending, on_work, on_evaluation, Limits, limits_of, after_act, on_top, unit, units, stopped, run}
use Rattle.search.proofs.Behind.{run_behind}
use Rattle.frames.specs.Inner.{frame_of, stack_of}
use Rattle.frames.proofs.Laws.{stack_top}
use Rattle.walks.specs.Inner.{walk_of, gone, to_go, handing, before}

-- ---- the walk's fuel

run_go : (p : Panel) (b : SearchBudget) (n m : ℕ) (w : Walk) → n ≡ suc m → run p b n (going w) ≡ run p b m (unit p (limits_of b) w)
unfolding run units
run_go p b n m w e = rw e

run_none : (p : Panel) (b : SearchBudget) (n : ℕ) (w : Walk) → n ≡ 0 → run p b n (going w) ≡ record { ending = on_work; walk = w }
unfolding run units
run_none p b n w e = rw e

units_ended : (p : Panel) (lim : Limits) (n : ℕ) (e : Ending) (w : Walk) → units p lim n (ended e w) ≡ ended e w
unfolding units
units_ended p lim zero e w = refl
units_ended p lim (suc n) e w = refl

pub run_ended : (p : Panel) (b : SearchBudget) (n : ℕ) (e : Ending) (w : Walk) → run p b n (ended e w) ≡ record { ending = e; walk = w }
unfolding run
run_ended p b n e w = ap stopped (units_ended p (limits_of b) n e w)

-- ---- what was handed over before goes first in what is handed over

pub run_after : (p : Panel) (b : SearchBudget) (a : Assignment) (n : ℕ) (w : Walk) → run p b n (going (handing a w)) ≡ before a (run p b n (going w))
run_after p b a n w = run_behind p (a ∷ []) b n (going w)

-- ---- a unit on the room's stack

gone_some : (p : Panel) (w : Walk) (stack : List Frame) (f : Frame) (rest : List Frame) → stack ≡ f ∷ rest → gone p w stack ≡ going w
gone_some p w stack f rest e = rw e

pub to_go_some : (p : Panel) (b : SearchBudget) (t : Tally) (xs : List ℕ) (d : ℕ) → 0 < d → to_go p b t xs d ≡ run p b (b.max_work - t.work) (going (walk_of t (stack_of xs d)))
unfolding to_go
to_go_some p b t xs d h = ap (run p b (b.max_work - t.work)) (gone_some p (walk_of t (stack_of xs d)) (stack_of xs d) _ _ (stack_top xs d h))

module _ (p : Panel) (b : SearchBudget) (t : Tally) (xs : List ℕ) (d : ℕ) (some : 0 < d) where
  pub to_go_work : b.max_work ≤ t.work → to_go p b t xs d ≡ record { ending = on_work; walk = walk_of t (stack_of xs d) }
  to_go_work h = to_go_some p b t xs d some ∙ run_none p b (b.max_work - t.work) (walk_of t (stack_of xs d)) (omega arith)

  module _ (left-work : t.work < b.max_work) where
    go_unit : to_go p b t xs d ≡ run p b (b.max_work - (t.work + 1)) (unit p (limits_of b) (walk_of t (stack_of xs d)))
    go_unit = to_go_some p b t xs d some ∙ run_go p b (b.max_work - t.work) (b.max_work - (t.work + 1)) (walk_of t (stack_of xs d)) (omega arith)

    pub to_go_evaluation : b.max_evaluations ≤ t.evaluations → to_go p b t xs d ≡ record { ending = on_evaluation; walk = walk_of t (stack_of xs d) }
    to_go_evaluation h =
        go_unit ∙ rw (le-leb b.max_evaluations t.evaluations h) (run_ended p b (b.max_work - (t.work + 1)) on_evaluation (walk_of t (stack_of xs d)))

    -- what a unit leads to
    pub to_go_act : (x : Act) → t.evaluations < b.max_evaluations → unit_of p (paths_at p t.families) (frame_of xs (d - 1)) ≡ x
        → to_go p b t xs d ≡ run p b (b.max_work - (t.work + 1)) (after_act p (limits_of b) (walk_of t (stack_of xs d)) (pick (takes_member (frame_of xs (d - 1))) 1 0) (stack_of xs (d - 1)) x)
    to_go_act x h e =
        go_unit
        ∙ (rw (lt-leb b.max_evaluations t.evaluations h)
        (ap (λ (st : List Frame). run p b (b.max_work - (t.work + 1)) (on_top p (limits_of b) (walk_of t (stack_of xs d)) st)) (stack_top xs d some)
        ∙ ap (λ (y : Act). run p b (b.max_work - (t.work + 1)) (after_act p (limits_of b) (walk_of t (stack_of xs d)) (pick (takes_member (frame_of xs (d - 1))) 1 0) (stack_of xs (d - 1)) y)) e))
