-- The plain engine and the unbudgeted walk.
use Prim.Native.Nat.{ℕ, zero, suc, ◌+◌, ◌≤◌, ◌<◌, max}
use native.Mathlib.Omega.{arith}
use native.Mathlib.Decide.{dec_lt}
use mathlib.Core.Path.{◌≡◌, refl, sym, ◌∙◌, ap, subst}
use mathlib.Core.List.{List, [], ◌∷◌, ◌++◌, map, append_assoc, append-nil, append_cancel_left}
use mathlib.Core.Bool.{Bool, true, false}
use lib.Dec.{ltb}
use lib.ListN.{length, get_or}
use borrow.Author.Tests.{lt-ltb, le-ltb}
use Rattle.ground.specs.Lists.{pick}
use Rattle.image.specs.Panel.{Panel, panel_of, paths_at}
use Rattle.evaluate.specs.Segments.{Route, Assignment}
use Rattle.search.specs.Walk.{Place, begins}
use Rattle.search.specs.Run.{Walk, exhausted, Phase, ended, unlimited, root, begin, units, natives_of, outset, Unbudgeted, deepest}
use Rattle.enumeration.proofs.Tree.{enum}
use Rattle.enumeration.proofs.Sim.{tasks_of}
use Rattle.enumeration.proofs.Stack.{on}
use Rattle.enumeration.proofs.Ports.{Sound, Ok, μ, falls}
use Rattle.enumeration.proofs.Whole.{Counts, tag, phase_of, units_add}
use Rattle.enumeration.proofs.Whole as whole
use Rattle.enumeration.proofs.Suffice.{one_end}
use Rattle.enumeration.proofs.Accepted.{accepted_sound, accepted_found, found_out, found_legal, found_once}
use Rattle.plain.specs.Steps.{depth, Mark, gives, place_marks, of_family, family_marks, marks_from, plain_marks, listed, plain_list, goes_too_deep, plain_refusal}
use Rattle.plain.specs.Statement.{deepest_of, EachLegalOnce, ListsTheWalk, RefusesTheDeep, ListsEachLegalOnce}
use Rattle.plain.proofs.Marks.{listed_join, deep_left, deep_right, family_deep}
use Rattle.plain.proofs.Height.{height, marks_are, marks_over}
use Rattle.plain.proofs.Tasks.{place_is}
use Rattle.plain.proofs.Deepest.{climbs, under, deepest_add, one_depth, family_reaches}

module _ (p : Panel) (sound : Sound p) where
  abbrev first : ℕ → Place
  first f = begins 0 (get_or (paths_at p f) 0 0) []

  -- more than the free bases of a family's root
  abbrev fuel : ℕ → ℕ
  fuel f = suc (μ p (first f))

  fits : (f : ℕ) → Ok p (first f) × (μ p (first f) < fuel f)
  fits f = (omega arith, omega arith)

  abbrev routes_of : ℕ → List (List Route)
  routes_of f = enum (tasks_of p (paths_at p f)) (fuel f) (first f)

  abbrev height_of : ℕ → ℕ
  height_of f = height (tasks_of p (paths_at p f)) (fuel f) (first f)

  -- n families from f on
  abbrev list_from : ℕ → ℕ → List Assignment
  list_from zero f = []
  list_from (suc n) f = map (tag p f) (routes_of f) ++ list_from n (suc f)

  abbrev height_from : ℕ → ℕ → ℕ
  height_from zero f = 0
  height_from (suc n) f = max (height_of f) (height_from n (suc f))

  -- ---- the walk

  record Walks (n f : ℕ) (base : List Assignment) (s : Phase) : Type 0 where
    final : Walk
    count : ℕ
    ends : units p unlimited count s ≡ ended exhausted final
    out : final.out ≡ base ++ list_from n f
    top : deepest p count s ≡ height_from n f

  walks : (n f : ℕ) (c : Counts) (base : List Assignment) → f + n ≡ length p.families → Walks n f base (begin p (whole.at p f c [] base))
  unfolding units deepest
  walks zero f c base e =
      let t : ltb f (length p.families) ≡ false = le-ltb f (length p.families) (omega arith) in
      record { final = whole.at p f c [] base; count = 0; ends = rw t refl; out = sym (append-nil base); top = rw t refl }
  walks (suc n) f c base e =
      let l : f < length p.families = omega arith in
      let r = climbs p (paths_at p f) (Ok p) (μ p) (falls p sound (paths_at p f)) (fuel f) (first f) (fits f) in
      let u = family_reaches p f base r.units c (root p f ∷ []) [] (routes_of f) r.ends in
      let b : begin p (whole.at p f c [] base) ≡ phase_of p f c base (on (root p f ∷ []) []) = rw (lt-ltb f (length p.families) l, append-nil base) refl in
      let m = walks n (suc f) u.0 (base ++ map (tag p f) (routes_of f)) (omega arith) in
      let s : Phase = phase_of p f c base (on (root p f ∷ []) []) in
      let d = deepest_add p u.1.count m.count s in
      let x : under p u.1.count s ≡ height_of f = u.1.top ∙ r.top in
      let y : deepest p m.count (units p unlimited u.1.count s) ≡ height_from n (suc f) = ap (deepest p m.count) u.1.ends ∙ m.top in
      subst (Walks (suc n) f base) (sym b) (record {
        final = m.final;
        count = u.1.count + m.count;
        ends = units_add p unlimited u.1.count m.count s ∙ ap (units p unlimited m.count) u.1.ends ∙ m.ends;
        out = m.out ∙ append_assoc base (map (tag p f) (routes_of f)) (list_from n (suc f));
        top = omega arith;
      })

  abbrev all : ℕ
  all = length p.families

  whole_walk : Walks all 0 (natives_of p) (outset p)
  unfolding outset
  whole_walk =
      let n = length (natives_of p) in
      walks all 0 (record { work = 0 + n; evaluations = 0 + n; natives = 0 + n; donors = 0 }) (natives_of p) (omega arith)

  -- ---- the engine

  family_listed : (f : ℕ) (l : List (List Route)) → listed (map (of_family f) (map gives l)) ≡ map (tag p f) l
  unfolding listed
  family_listed f [] = refl
  family_listed f (x ∷ l) = ap (λ r. tag p f x ∷ r) (family_listed f l)

  family-marks : (f : ℕ) → height_of f ≤ depth → family_marks p f ≡ map (of_family f) (map gives (routes_of f))
  unfolding family_marks
  family-marks f h =
      ap (map (of_family f)) (place_is p (paths_at p f) depth (first f) ∙ marks_are (tasks_of p (paths_at p f)) (Ok p) (μ p) (falls p sound (paths_at p f)) depth (fuel f) (first f) (fits f) h)

  lists : (n f : ℕ) → height_from n f ≤ depth → listed (marks_from p n f) ≡ list_from n f
  unfolding marks_from listed
  lists zero f h = refl
  lists (suc n) f h =
      listed_join (marks_from p n (suc f)) (family_marks p f)
      ∙ rw (family-marks f (omega arith), family_listed f (routes_of f), lists n (suc f) (omega arith)) refl

  none_deep : (f : ℕ) (l : List (List Route)) (m : List (Mark Assignment)) → goes_too_deep m ≡ false → goes_too_deep (map (of_family f) (map gives l) ++ m) ≡ false
  unfolding goes_too_deep
  none_deep f [] m h = h
  none_deep f (x ∷ l) m h = none_deep f l m h

  not_deep : (n f : ℕ) → height_from n f ≤ depth → goes_too_deep (marks_from p n f) ≡ false
  unfolding marks_from goes_too_deep
  not_deep zero f h = refl
  not_deep (suc n) f h = rw (family-marks f (omega arith)) (none_deep f (routes_of f) (marks_from p n (suc f)) (not_deep n (suc f) (omega arith)))

  deep : (n f : ℕ) → depth < height_from n f → goes_too_deep (marks_from p n f) ≡ true
  unfolding marks_from family_marks
  deep zero f h = let z : ⊥ = omega arith in absurd z
  deep (suc n) f h = go (dec_lt depth (height_of f)) (deep n (suc f))
    where
      go : Dec (depth < height_of f) → (depth < height_from n (suc f) → goes_too_deep (marks_from p n (suc f)) ≡ true) → goes_too_deep (family_marks p f ++ marks_from p n (suc f)) ≡ true
      go (yes l) r =
          deep_left (family_marks p f) (marks_from p n (suc f))
          (sym (family_deep f (place_marks p (paths_at p f) depth (first f))) ∙ rw (place_is p (paths_at p f) depth (first f)) (marks_over (tasks_of p (paths_at p f)) depth (fuel f) (first f) l))
      go (no l) r = deep_right (family_marks p f) (marks_from p n (suc f)) (r (omega arith))

  -- ---- the two

  module _ (u : Unbudgeted p) where
    depth_is : deepest_of p u ≡ height_from all 0
    depth_is = one_depth p u.steps whole_walk.count (outset p) u.final whole_walk.final u.ends whole_walk.ends ∙ whole_walk.top

    pub lists_the_walk : deepest_of p u ≤ depth → u.final.out ≡ natives_of p ++ plain_list p
    unfolding plain_marks
    lists_the_walk h =
        let d = depth_is in
        let same : u.final ≡ whole_walk.final = one_end p unlimited u.steps whole_walk.count (outset p) u.final whole_walk.final u.ends whole_walk.ends in
        ap (λ (w : Walk). w.out) same ∙ whole_walk.out ∙ ap (λ l. natives_of p ++ l) (sym (lists all 0 (omega arith)))

    pub is_deep : depth < deepest_of p u → goes_too_deep (plain_marks p) ≡ true
    unfolding plain_marks
    is_deep h = let d = depth_is in deep all 0 (omega arith)

    pub is_not_deep : deepest_of p u ≤ depth → goes_too_deep (plain_marks p) ≡ false
    unfolding plain_marks
    is_not_deep h = let d = depth_is in not_deep all 0 (omega arith)

-- ---- of an accepted panel

pub plain_lists : ListsTheWalk
plain_lists s e u h = lists_the_walk (panel_of s) (accepted_sound s e) u h

pub plain_once : ListsEachLegalOnce
plain_once s e u h =
    let same : accepted_found s e ≡ plain_list (panel_of s) = append_cancel_left (natives_of (panel_of s)) _ _ (sym (found_out s e u) ∙ plain_lists s e u h) in
    subst (EachLegalOnce (panel_of s)) same (record { legal = found_legal s e; once = found_once s e })

pub plain_refuses : RefusesTheDeep
unfolding plain_refusal
plain_refuses s e u = (to, from)
  where
    p : Panel
    p = panel_of s

    at_42 : (b : Bool) → goes_too_deep (plain_marks p) ≡ b → (plain_refusal s).number ≡ pick b 42 0
    at_42 true q = rw (e, q) refl
    at_42 false q = rw (e, q) refl

    from : depth < deepest_of p u → (plain_refusal s).number ≡ 42
    from h = at_42 true (is_deep p (accepted_sound s e) u h)

    to : (plain_refusal s).number ≡ 42 → depth < deepest_of p u
    to h = go (dec_lt depth (deepest_of p u))
      where
        go : Dec (depth < deepest_of p u) → depth < deepest_of p u
        go (yes l) = l
        go (no l) =
            let x = at_42 false (is_not_deep p (accepted_sound s e) u (omega arith)) in
            let z : ◌≡◌ {A = ℕ} 42 0 = sym h ∙ x in
            let y : ⊥ = omega arith in
            absurd y
