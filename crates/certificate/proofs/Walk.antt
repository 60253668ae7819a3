-- The walk's part of demand 3: it ends, it reports exhaustion exactly when its budgets suffice, and then it has evaluated one native
-- per family and after them each legal assignment once.
use Prim.Native.Nat.{ℕ, zero, suc, ◌+◌, ◌<◌}
use native.Mathlib.Omega.{arith}
use mathlib.Core.Path.{◌≡◌, sym, subst}
use mathlib.Core.Logic.{⊎_elim, ◌↔◌}
use mathlib.Core.List.Memᴰ
use mathlib.Core.List.{List, Memᴰ}
use lib.ListN.{length}
use Rattle.ground.specs.Lists.{numbers_from}
use Rattle.image.specs.Panel.{panel_of}
use Rattle.evaluate.specs.Segments.{Assignment, native_of}
use Rattle.evaluate.specs.Legal.{Legal}
use Rattle.evaluate.proofs.Native.{native_legal}
use Rattle.search.specs.declared.SearchBudget.{SearchBudget}
use Rattle.search.specs.Budget.{budget_refusal}
use Rattle.search.specs.Run.{Walk, exhausted, walk, natives_of, Unbudgeted, Suffices}
use Rattle.evaluate.proofs.Lists.{mem_map}
use Rattle.enumeration.proofs.Accepted.{accepted_unbudgeted, accepted_found, found_out, found_legal, found_once, found_in_order}
use Rattle.enumeration.proofs.Suffice.{ends_iff, ends_as}
use Rattle.certificate.specs.Terms.{PanelAccepted, NativesThenLegal, handed_over}
use Rattle.certificate.specs.Demand3.{WalkEnds, WholeWalk, ExhaustedWhenEnough, AllEvaluated}
use Rattle.certificate.proofs.Reply.{some_evaluations, some_frontier, admitted_passes, exhausted_iff}

pub walk_ends : WalkEnds
walk_ends = accepted_unbudgeted

pub whole_walk : WholeWalk
whole_walk s e u =
    record { walked = accepted_found s e; first = found_out s e u; legal = found_legal s e; once = found_once s e; in_order = found_in_order s e }

-- ---- of a walk whose budget is accepted, with a family or without

module _ (s : List ℕ) (b : SearchBudget) (panel : PanelAccepted s) (budget : budget_refusal b ≡ 0) where
  pub ends_by_itself : (u : Unbudgeted (panel_of s)) → ((walk (panel_of s) b).ending ≡ exhausted) ↔ Suffices (panel_of s) b u
  ends_by_itself u = ends_iff (panel_of s) b (some_evaluations b budget) (some_frontier b budget) u

  pub handed_whole : (walk (panel_of s) b).ending ≡ exhausted → NativesThenLegal (panel_of s) (handed_over s b)
  handed_whole q =
      let u = walk_ends s panel in
      let same = ends_as (panel_of s) b (some_evaluations b budget) (some_frontier b budget) u q in
      subst (λ (w : Walk). NativesThenLegal (panel_of s) w.out) (sym same) (whole_walk s panel u)

pub exhausted_when_enough : ExhaustedWhenEnough
exhausted_when_enough s b xs rooms given u =
    let i = exhausted_iff s b xs rooms (admitted_passes s b xs rooms given) in
    let j = ends_by_itself s b given.panel given.budget u in
    (λ h. j.0 (i.0 h), λ h. i.1 (j.1 h))

pub all_evaluated_once : AllEvaluated
all_evaluated_once s b xs rooms given h = handed_whole s b given.panel given.budget ((exhausted_iff s b xs rooms (admitted_passes s b xs rooms given)).0 h)

-- ---- whatever was handed over is legal

number_below : (i n j : ℕ) → Memᴰ j (numbers_from i n) → j < i + n
unfolding numbers_from
number_below i zero j m = absurd (Memᴰ.not-nil m)
number_below i (suc n) j m = ⊎_elim (λ e. omega arith) (λ k. let r = number_below (suc i) n j k in omega arith) (Memᴰ.cases_cons m)

native_in : (s : List ℕ) → PanelAccepted s → (a : Assignment) → Memᴰ a (natives_of (panel_of s)) → Legal (panel_of s) a
unfolding natives_of
native_in s e a m =
    let r = mem_map (native_of (panel_of s)) (numbers_from 0 (length (panel_of s).families)) m in
    let lt : r.0 < length (panel_of s).families = (let b = number_below 0 (length (panel_of s).families) r.0 r.1 in omega arith) in
    subst (Legal (panel_of s)) (sym r.2) (native_legal s e r.0 lt)

pub handed_legal : (s : List ℕ) (out : List Assignment) → PanelAccepted s → NativesThenLegal (panel_of s) out → (a : Assignment) → Memᴰ a out → Legal (panel_of s) a
handed_legal s out e n a m =
    ⊎_elim (λ k. native_in s e a k) (λ k. (n.legal a).0 k) (Memᴰ.append_cases (natives_of (panel_of s)) (subst (λ (l : List Assignment). Memᴰ a l) n.first m))
