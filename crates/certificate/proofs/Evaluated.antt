-- What a search has evaluated, and that what it keeps is of these.
use Prim.Native.Nat.{ℕ, ◌<◌}
use native.Mathlib.Omega.{arith}
use mathlib.Core.Path.{◌≡◌, refl, sym, ap, ◌∙◌, subst}
use mathlib.Core.Logic.{⊎_elim}
use mathlib.Core.Bool.{true}
use mathlib.Core.List.Memᴰ
use mathlib.Core.List.{List, [], ◌∷◌, map, Memᴰ, cons≢nil, head-eq_of_cons-eq}
use lib.ListN.{length, take}
use lib.Ieee.{Float}
use lib.Ieee.Scale.{finite}
use Rattle.evaluate.specs.Properties.{Each, Matched}
use Rattle.evaluate.specs.Segments.{Assignment}
use Rattle.evaluate.proofs.Lists.{each_map, mem_map_in}
use Rattle.search.specs.declared.SearchBudget.{SearchBudget}
use Rattle.search.specs.Run.{walk}
use Rattle.search.specs.Keep.{Kept, nothing, Evaluated, score_of, same_assignment, same_evaluated, keep_all, evaluated}
use Rattle.search.specs.Search.{walked, kept_of, searched_as, search_from, search}
use Rattle.search.proofs.Same.{assignments_decide}
use Rattle.doubles.proofs.Order.{is_T}
use Rattle.scoring.proofs.Rule.{Finite, champion, champion_one, incumbent, tied_from}
use Rattle.certificate.specs.Terms.{FiniteScore, evaluations, handed_over, kept_by, assignment_of}

-- two are the same where their assignments are
pub same_told : (d e : Evaluated) → same_evaluated d e ≡ true → d.assignment ≡ e.assignment
same_told d e = assignments_decide.is d.assignment e.assignment

pub same_tells : (d e : Evaluated) → d.assignment ≡ e.assignment → same_evaluated d e ≡ true
same_tells d e q = ap (same_assignment d.assignment) (sym q) ∙ assignments_decide.self d.assignment

-- each evaluation has a finite score
finite_scores : (out : List Assignment) (xs : List Float) → Matched FiniteScore out (take (length out) xs) → Each (λ e. finite e.score ≡ true) (evaluated out xs)
unfolding evaluated
finite_scores [] xs h = tt
finite_scores (a ∷ out) [] h = absurd h
finite_scores (a ∷ out) (x ∷ xs) h = (h.0, finite_scores out xs h.1)

-- the evaluations are of what was handed over
all_evaluated : (out : List Assignment) (xs : List Float) → Matched FiniteScore out (take (length out) xs) → map assignment_of (evaluated out xs) ≡ out
unfolding evaluated
all_evaluated [] xs h = refl
all_evaluated (a ∷ out) [] h = absurd h
all_evaluated (a ∷ out) (x ∷ xs) h = ap (λ (l : List Assignment). a ∷ l) (all_evaluated out xs h.1)

module _ (s : List ℕ) (b : SearchBudget) (xs : List Float) where
  pub kept_is : kept_by s b xs ≡ keep_all score_of same_evaluated b.max_optima b.tie_width nothing (evaluations s b xs)
  unfolding search search_from searched_as kept_of walked walk
  kept_is = refl

  -- discarded or not, what is tied was evaluated
  pub tied_evaluated : (e : Evaluated) → Memᴰ e (kept_by s b xs).tied → Memᴰ e (evaluations s b xs)
  tied_evaluated e m =
      ⊎_elim (λ k. absurd (Memᴰ.not-nil k)) (λ k. k)
      (tied_from score_of same_evaluated b.max_optima b.tie_width nothing (evaluations s b xs) e (subst (λ (k : Kept Evaluated). Memᴰ e k.tied) kept_is m))

  -- the incumbent is the first of the least score
  pub best_is : (a : Evaluated) (l : List Evaluated) → evaluations s b xs ≡ a ∷ l → (kept_by s b xs).best ≡ champion score_of a l ∷ []
  best_is a l e =
      ap (λ (k : Kept Evaluated). k.best) kept_is
      ∙ ap (λ (t : List Evaluated). (keep_all score_of same_evaluated b.max_optima b.tie_width nothing t).best) e
      ∙ incumbent score_of same_evaluated b.max_optima b.tie_width a l

  -- with an evaluation there is one
  some_best : (l : List Evaluated) → evaluations s b xs ≡ l → (l ≡ [] → ⊥) → (i : Evaluated) × ((kept_by s b xs).best ≡ i ∷ [])
  some_best [] e some = absurd (some refl)
  some_best (a ∷ l) e some = (champion score_of a l, best_is a l e)

  -- it was evaluated too
  pub best_evaluated : (i : Evaluated) → (kept_by s b xs).best ≡ i ∷ [] → Memᴰ i (evaluations s b xs)
  unfolding keep_all
  best_evaluated i e = go (evaluations s b xs) refl
    where
      go : (l : List Evaluated) → evaluations s b xs ≡ l → Memᴰ i (evaluations s b xs)
      go [] f =
          absurd (cons≢nil (sym (sym (ap (λ (k : Kept Evaluated). k.best) kept_is ∙ ap (λ (t : List Evaluated). (keep_all score_of same_evaluated b.max_optima b.tie_width nothing t).best) f) ∙ e)))
      go (a ∷ l) f = subst (λ (t : List Evaluated). Memᴰ i t) (sym f) (Memᴰ.cast (sym (head-eq_of_cons-eq (sym (best_is a l f) ∙ e))) (champion_one score_of a l))

  module _ (fine : Matched FiniteScore (handed_over s b) (take (length (handed_over s b)) xs)) where
    pub made : map assignment_of (evaluations s b xs) ≡ handed_over s b
    made = all_evaluated (handed_over s b) xs fine

    pub finites : Each (Finite score_of) (evaluations s b xs)
    finites = each_map (λ (e : Evaluated). finite e.score ≡ true) (Finite score_of) (λ e q. is_T (finite e.score) q) (evaluations s b xs) (finite_scores (handed_over s b) xs fine)

    pub handed_best : 0 < length (handed_over s b) → (i : Evaluated) × ((kept_by s b xs).best ≡ i ∷ [])
    handed_best h =
        some_best (evaluations s b xs) refl (λ e. let z : length (handed_over s b) ≡ 0 = ap length (sym made) ∙ ap (λ (l : List Evaluated). length (map assignment_of l)) e in omega arith)

    -- an evaluation is of something handed over
    pub handed-of : (e : Evaluated) → Memᴰ e (evaluations s b xs) → Memᴰ e.assignment (handed_over s b)
    handed-of e m = subst (λ (l : List Assignment). Memᴰ e.assignment l) made (mem_map_in assignment_of m)
