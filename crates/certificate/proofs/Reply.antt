-- What an admitted search answers, in terms of its walk: it is not refused, and its status says how the walk ended.
use Prim.Native.Nat.{ℕ, suc, ◌<◌}
use native.Mathlib.Omega.{arith}
use mathlib.Core.Path.{◌≡◌, refl, sym, ap, ◌∙◌}
use mathlib.Core.Logic.{◌⊎◌, inl, inr, ◌↔◌}
use mathlib.Core.Bool.{Bool, true, false, ◌&&◌}
use mathlib.Core.List.{List, [], ◌∷◌}
use lib.Dec.{ltb}
use lib.ListN.{length, take}
use lib.Ieee.{Float}
use borrow.Author.Tests.{ltb-true}
use Rattle.ground.proofs.ListLaws.{both}
use Rattle.image.specs.Panel.{panel_of}
use Rattle.evaluate.specs.Properties.{Matched}
use Rattle.evaluate.specs.Refusals.{no_refusal, unless}
use Rattle.evaluate.specs.Segments.{Assignment}
use Rattle.evaluate.proofs.CheckLegal.{unless_zero}
use Rattle.search.specs.declared.SearchBudget.{SearchBudget}
use Rattle.search.specs.declared.SearchReply.{SearchReply}
use Rattle.search.specs.declared.Status.TheVariants.{Certified, SupportIncomplete}
use Rattle.search.specs.Budget.{width_ok, budget_ok, budget_in_bounds, budget_refusal}
use Rattle.search.specs.Run.{Ending, exhausted, on_work, on_evaluation, on_frontier, walk}
use Rattle.search.specs.Counters.{stop_of, status_of, status_number, tally_of}
use Rattle.search.specs.Keep.{scores_refusal}
use Rattle.search.specs.Search.{walked, evaluation_refusal, searched_as, search_from, search}
use Rattle.search.specs.Answers.{Rooms, search_refusal, reply_of, search_answer}
use Rattle.enumeration.proofs.Tally.{walk_tallied}
use Rattle.certificate.specs.Terms.{FiniteScore, Admitted, Exhausted, kept_by, handed_over}

-- ---- scores

pub none_refused : (n : ℕ) (out : List Assignment) (xs : List Float) → Matched FiniteScore out (take (length out) xs) → scores_refusal n out xs ≡ no_refusal
unfolding scores_refusal
none_refused n [] xs h = refl
none_refused n (a ∷ out) [] h = absurd h
none_refused n (a ∷ out) (x ∷ xs) h = rw h.0 (none_refused (suc n) out xs h.1)

-- ---- statuses

ended_status : (e : Ending) (d : Bool)
    → ((status_number (status_of (stop_of e) d) ≡ status_number Certified) ⊎ (status_number (status_of (stop_of e) d) ≡ status_number SupportIncomplete)) ↔ (e ≡ exhausted)
ended_status exhausted true = (λ h. refl, λ q. inr refl)
ended_status exhausted false = (λ h. refl, λ q. inl refl)
ended_status on_work d = (go, λ q. let z : ◌≡◌ {A = ℕ} 0 1 = cc in absurd (omega arith))
  where
    go : (◌≡◌ {A = ℕ} 3 1) ⊎ (◌≡◌ {A = ℕ} 3 2) → on_work ≡ exhausted
    go (inl q) = absurd (omega arith)
    go (inr q) = absurd (omega arith)
ended_status on_evaluation d = (go, λ q. let z : ◌≡◌ {A = ℕ} 0 1 = cc in absurd (omega arith))
  where
    go : (◌≡◌ {A = ℕ} 4 1) ⊎ (◌≡◌ {A = ℕ} 4 2) → on_evaluation ≡ exhausted
    go (inl q) = absurd (omega arith)
    go (inr q) = absurd (omega arith)
ended_status (on_frontier a) d = (go, λ q. let z : ◌≡◌ {A = ℕ} 0 1 = cc in absurd (omega arith))
  where
    go : (◌≡◌ {A = ℕ} 5 1) ⊎ (◌≡◌ {A = ℕ} 5 2) → on_frontier a ≡ exhausted
    go (inl q) = absurd (omega arith)
    go (inr q) = absurd (omega arith)

certified_status : (e : Ending) (d : Bool) → status_number (status_of (stop_of e) d) ≡ status_number Certified → d ≡ false
certified_status exhausted true q = absurd (omega arith)
certified_status exhausted false q = refl
certified_status on_work d q = absurd (omega arith)
certified_status on_evaluation d q = absurd (omega arith)
certified_status (on_frontier a) d q = absurd (omega arith)

-- ---- budgets

-- what 11 asks of them
module _ (b : SearchBudget) (e : budget_refusal b ≡ 0) where
  some_budgets : (0 < b.max_evaluations) × (0 < b.max_frontier)
  unfolding budget_refusal budget_ok
  some_budgets =
      let ok : budget_ok b ≡ true = (unless_zero (budget_ok b) 10 (unless (budget_in_bounds b) 12 0) e).0 in
      let w = ltb 0 b.max_work in
      let v = ltb 0 b.max_evaluations in
      let f = ltb 0 b.max_frontier in
      let o = ltb 0 b.max_optima in
      let (wvfo, t) = both (w && v && f && o) (width_ok b.tie_width) ok in
      let (wvf, u) = both (w && v && f) o wvfo in
      let (wv, q) = both (w && v) f wvf in
      (ltb-true 0 b.max_evaluations (both w v wv).1, ltb-true 0 b.max_frontier q)

  pub some_evaluations : 0 < b.max_evaluations
  some_evaluations = some_budgets.0

  pub some_frontier : 0 < b.max_frontier
  some_frontier = some_budgets.1

-- ---- the answer

-- a search that is not refused answers as it went
pub reply-of : (s : List ℕ) (b : SearchBudget) (xs : List Float) (rooms : Rooms) → (search_refusal s b xs rooms).number ≡ 0
    → search_answer s b xs rooms ≡ reply_of (search (panel_of s) b xs)
unfolding search_answer
reply-of s b xs rooms none = rw none

module _ (s : List ℕ) (b : SearchBudget) (xs : List Float) (rooms : Rooms) (none : (search_refusal s b xs rooms).number ≡ 0) where
  pub status-of : (search_answer s b xs rooms).status ≡ status_number (status_of (stop_of (walk (panel_of s) b).ending) (kept_by s b xs).discarded)
  unfolding reply_of search search_from searched_as walked walk
  status-of = ap (λ (r : SearchReply). r.status) (reply-of s b xs rooms none)

  pub evaluations_are : (search_answer s b xs rooms).evaluations ≡ length (handed_over s b)
  unfolding reply_of search search_from searched_as walked tally_of walk
  evaluations_are = ap (λ (r : SearchReply). r.evaluations) (reply-of s b xs rooms none) ∙ walk_tallied (panel_of s) b

  -- it reports exhaustion exactly when its walk ended by itself
  pub exhausted_iff : Exhausted (search_answer s b xs rooms) ↔ ((walk (panel_of s) b).ending ≡ exhausted)
  exhausted_iff = rw status-of (ended_status (walk (panel_of s) b).ending (kept_by s b xs).discarded)

  pub certified_whole : (search_answer s b xs rooms).status ≡ status_number Certified → (kept_by s b xs).discarded ≡ false
  certified_whole e = certified_status (walk (panel_of s) b).ending (kept_by s b xs).discarded (sym status-of ∙ e)

-- nothing of an admitted search is refused
pub admitted_passes : (s : List ℕ) (b : SearchBudget) (xs : List Float) (rooms : Rooms) → Admitted s b xs rooms → (search_refusal s b xs rooms).number ≡ 0
unfolding search_refusal evaluation_refusal walked walk
admitted_passes s b xs rooms given =
    let fine : scores_refusal 1 (walk (panel_of s) b).walk.out xs ≡ no_refusal = none_refused 1 (handed_over s b) xs given.scored in
    rw (given.panel, given.budget, given.roomy, fine)
