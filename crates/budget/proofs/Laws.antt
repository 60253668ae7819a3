-- The most paths of a family, and sizes that fit.
use Prim.Native.Nat.{ℕ, ◌+◌, ◌*◌, ◌≤◌, ◌<◌, max}
use native.Mathlib.Nat.{max-zero, max-le, mul-le-mul_right}
use native.Mathlib.Omega.{arith}
use mathlib.Core.Path.{◌≡◌, refl, sym, ap, ap₂, ◌∙◌}
use mathlib.Core.Bool.{Bool, true, false, ◌&&◌}
use mathlib.Core.List.{List, [], ◌∷◌, map}
use lib.Dec.{leb, ltb}
use lib.ListN.{length, drop, get_or, length-drop}
use lib.Seq.{length-take-le}
use borrow.Author.Tests.{leb-true, ltb-true}
use Rattle.std.specs.declared.option.Option.{Option}
use Rattle.std.specs.List.{fold, reduce, range_with_len}
use Rattle.std.specs.Option.{option_map, unwrap_or}
use Rattle.std.proofs.lemmas.List.FromFn.{fill_by_all}
use Rattle.std.proofs.lemmas.Iterator.Adapters.{option_map_id}
use mir.Val.{Fits}
use mir.Syntax.{w64}
use borrow.Author.Rules.{Fits-under}
use Rattle.ground.specs.Lists.{split, sum}
use Rattle.ground.proofs.ListLaws.{both}
use Rattle.evaluate.specs.declared.Refusal.{Refusal}
use Rattle.evaluate.specs.Refusals.{at, unless}
use Rattle.image.specs.declared.Header.{Header}
use Rattle.image.specs.Image.{path_counts, paths, families}
use Rattle.image.specs.Inner.{Grouped}
use Rattle.image.specs.Panel.{Panel, panel_by, panel_of}
use Rattle.image.proofs.Laws.{path_counts_length, paths_length}
use Rattle.search.specs.declared.SearchBudget.{SearchBudget}
use Rattle.search.specs.Budget.{most_frontier, most_optima, width_ok, budget_ok, budget_in_bounds, budget_refusal}
use Rattle.search.specs.Rooms.{most_paths, width_for, slot_width, frames_needed, kept_needed, scores_needed, rooms_refusal, list_rooms_refusal}
use Rattle.budget.specs.Inner.{Bounded, most_width, rooms_by, list_rooms_by}

-- ---- the most of a list of numbers

unfoldable pub most_of : List ℕ → ℕ
most_of [] = 0
most_of (n ∷ ns) = max n (most_of ns)

most_split : (ns : List ℕ) (l : List ℕ) → sum ns ≤ length l → most_paths (split ns l) ≡ most_of ns
unfolding split sum most_paths most_of
most_split [] l h = refl
most_split (n ∷ ns) l h = ap₂ max (length-take-le n l (omega arith)) (most_split ns (drop n l) (rw length-drop (omega arith)))

most_sum : (ns : List ℕ) → most_of ns ≤ sum ns
unfolding sum most_of
most_sum [] = omega arith
most_sum (n ∷ ns) = let h = most_sum ns in max-le (omega arith) (omega arith)

most_paths_are : (s : List ℕ) (h : Header) → Grouped s h → most_paths (families h s) ≡ most_of (path_counts h s)
unfolding families
most_paths_are s h g = most_split (path_counts h s) (paths h s) (omega (arith, g.total, paths_length s h))

-- what a chain over the path counts answers
fold_most : (n : ℕ) (ns : List ℕ) → fold max n ns ≡ max n (most_of ns)
unfolding most_of
fold_most n [] = sym (max-zero n)
fold_most n (m ∷ ns) = fold_most (max n m) ns ∙ omega arith

pub most_is : (ns : List ℕ) → unwrap_or (reduce max ns) 0 ≡ most_of ns
unfolding most_of
most_is [] = refl
most_is (n ∷ ns) = fold_most n ns

pub most_found : {s : List ℕ} {h : Header} {r : ℕ} (o : Option ℕ) → Grouped s h → option_map (λ n. n) o ≡ reduce max (map (λ i. get_or (path_counts h s) i 0) (range_with_len 0 h.families)) → r ≡ unwrap_or o 0
    → r ≡ most_paths (families h s)
most_found {s} {h} o g e q =
    let listed : path_counts h s ≡ map (λ i. get_or (path_counts h s) i 0) (range_with_len 0 h.families) = fill_by_all (λ i. get_or (path_counts h s) i 0) (path_counts h s) h.families 0 (path_counts_length s h) (λ k l. refl) in
    q ∙ ap (λ (o : Option ℕ). unwrap_or o 0) (sym (option_map_id o) ∙ e) ∙ rw (← listed) (most_is (path_counts h s)) ∙ sym (most_paths_are s h g)

-- ---- the width of a slot

pub paths_few : {s : List ℕ} {h : Header} {most : ℕ} → Grouped s h → most ≡ most_paths (families h s) → most ≤ 262144
paths_few {s} {h} {most} g e =
    let a = most_sum (path_counts h s) in
    let b = most_paths_are s h g in
    let f : h.families ≤ 4096 = g.framed.few_families in
    let q : h.paths ≤ 64 * h.families = g.framed.few_paths in
    omega (arith, g.total)

pub width_of : (s : List ℕ) (h : Header) (b : SearchBudget) → Grouped s h → slot_width (panel_of s) b ≡ width_for (most_paths (families h s)) b.max_frontier
unfolding slot_width panel_of panel_by
width_of s h b g = rw (← g.framed.header)

pub width_is : {s : List ℕ} {h : Header} {paths r : ℕ} (b : SearchBudget) → Grouped s h → paths ≡ most_paths (families h s) → r ≡ width_for paths b.max_frontier → r ≡ slot_width (panel_of s) b
width_is {s} {h} b g e q = q ∙ rw e (sym (width_of s h b g))

-- a panel's slots are no wider than this
pub width_small : (s : List ℕ) (h : Header) (b : SearchBudget) → Grouped s h → Bounded b → slot_width (panel_of s) b ≤ most_width
width_small s h b g k =
    let p : most_paths (families h s) ≤ 262144 = paths_few g refl in
    let m : max b.max_frontier (most_paths (families h s)) ≤ 262144 = max-le (omega (arith, k.frontier)) p in
    rw (width_of s h b g) (omega arith)

-- ---- the refusals

pub at_none : (n place : ℕ) (later : Refusal) → n ≡ 0 → at n place later ≡ later
at_none n place later e = rw e

pub budget_bounded : (b : SearchBudget) → budget_refusal b ≡ 0 → Bounded b
unfolding budget_refusal budget_in_bounds
budget_bounded b e = go (budget_ok b) (leb b.max_frontier most_frontier && leb b.max_optima most_optima) refl e
  where
    go : (x y : Bool) → leb b.max_frontier most_frontier && leb b.max_optima most_optima ≡ y → unless x 11 (unless y 12 0) ≡ 0 → Bounded b
    go true true f e =
        let p = both (leb b.max_frontier most_frontier) (leb b.max_optima most_optima) f in
        record { frontier = leb-true _ _ p.0; optima = leb-true _ _ p.1 }
    go true false f e = let z : ⊥ = omega arith in absurd z
    go false y f e = let z : ⊥ = omega arith in absurd z

pub budget_frontier : (b : SearchBudget) → budget_refusal b ≡ 0 → 0 < b.max_frontier
unfolding budget_refusal budget_ok
budget_frontier b e = go (budget_ok b) refl e
  where
    go : (x : Bool) → budget_ok b ≡ x → unless x 11 (unless (budget_in_bounds b) 12 0) ≡ 0 → 0 < b.max_frontier
    go true f e =
        let p = both (ltb 0 b.max_work && ltb 0 b.max_evaluations && ltb 0 b.max_frontier && ltb 0 b.max_optima) (width_ok b.tie_width) f in
        let q = both (ltb 0 b.max_work && ltb 0 b.max_evaluations && ltb 0 b.max_frontier) (ltb 0 b.max_optima) p.0 in
        let r = both (ltb 0 b.max_work && ltb 0 b.max_evaluations) (ltb 0 b.max_frontier) q.0 in
        ltb-true _ _ r.1
    go false f e = let z : ⊥ = omega arith in absurd z

pub rooms-by : (p : Panel) (b : SearchBudget) (v frames kept scores : ℕ) → v ≡ slot_width p b → rooms_by b v frames kept scores ≡ rooms_refusal p b frames kept scores
unfolding rooms_by rooms_refusal
rooms-by p b v frames kept scores e = rw e

pub list-rooms-by : (p : Panel) (b : SearchBudget) (v frames slot : ℕ) → v ≡ slot_width p b → list_rooms_by b v frames slot ≡ list_rooms_refusal p b frames slot
unfolding list_rooms_by list_rooms_refusal
list-rooms-by p b v frames slot e = rw e

-- rooms that are not refused are long enough
pub rooms_long : (p : Panel) (b : SearchBudget) (frames kept scores : ℕ) → rooms_refusal p b frames kept scores ≡ 0
    → (frames_needed b ≤ frames) × (kept_needed p b ≤ kept) × (scores_needed b ≤ scores)
unfolding rooms_refusal
rooms_long p b frames kept scores e = go (leb (frames_needed b) frames && leb (kept_needed p b) kept && leb (scores_needed b) scores) refl e
  where
    go : (t : Bool) → leb (frames_needed b) frames && leb (kept_needed p b) kept && leb (scores_needed b) scores ≡ t → unless t 13 0 ≡ 0
        → (frames_needed b ≤ frames) × (kept_needed p b ≤ kept) × (scores_needed b ≤ scores)
    go true f e =
        let q = both (leb (frames_needed b) frames && leb (kept_needed p b) kept) (leb (scores_needed b) scores) f in
        let r = both (leb (frames_needed b) frames) (leb (kept_needed p b) kept) q.0 in
        (leb-true _ _ r.0, leb-true _ _ r.1, leb-true _ _ q.1)
    go false f e = let z : ⊥ = omega arith in absurd z

-- the kept room's needed words can be counted
pub kept_fits : (b : SearchBudget) (v : ℕ) → Bounded b → v ≤ most_width → Fits w64 ((b.max_optima + 2) * v)
kept_fits b v k h =
    let o : b.max_optima + 2 ≤ 1026 = omega (arith, k.optima) in
    let a : (b.max_optima + 2) * v ≤ 1026 * v = mul-le-mul_right v o in
    let c : (b.max_optima + 2) * v < 0x10_0000_0000 = omega arith in
    Fits-under w64 ((b.max_optima + 2) * v) 0x10_0000_0000 c tt
