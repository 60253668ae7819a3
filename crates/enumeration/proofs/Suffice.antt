-- The walk ends by itself exactly when its budgets suffice, and then it is the unbudgeted walk.
use Prim.Native.Nat.{ℕ, zero, suc, ◌+◌, ◌-◌, ◌≤◌, ◌<◌}
use native.Mathlib.Omega.{arith}
use native.Mathlib.Nat.{add_comm}
use mathlib.Core.Path.{◌≡◌, refl, sym, ◌∙◌, ap, subst}
use mathlib.Core.Logic.{◌↔◌}
use mathlib.Core.List.{List, [], ◌∷◌, map}
use mathlib.Core.Bool.{Bool, true, false}
use lib.Dec.{leb, eqb}
use lib.ListN.{length, length-map}
use borrow.Author.Tests.{eqb-true, eq-eqb, lt-ltb}
use Rattle.ground.specs.Lists.{pick, numbers_from}
use Rattle.ground.proofs.ListLaws.{numbers_length}
use Rattle.image.specs.Panel.{Panel}
use Rattle.evaluate.specs.Segments.{Assignment, native_of}
use Rattle.search.specs.declared.SearchBudget.{SearchBudget}
use Rattle.search.specs.Run.{Walk, Walked, Ending, exhausted, on_work, on_evaluation, Phase, going, ended, Limits, limits_of, unlimited, root, stacked, begin, units, stopped, run, seeds, seeded_with, seeded, short, after_seeding, walk_from, untouched, walk, natives_of, outset, Unbudgeted, deepest, Suffices}
use Rattle.enumeration.proofs.Whole.{ended_stays, units_add}
use Rattle.enumeration.proofs.Budgets.{Live, walk_in, deepest_ended, grows, enough, Kept, honest}

-- ---- seeding

module _ (p : Panel) where
  pub natives_length : length (natives_of p) ≡ length p.families
  unfolding natives_of
  natives_length = length-map (numbers_from 0 (length p.families)) (native_of p) ∙ numbers_length 0 (length p.families)

  seeds_all : (f : ℕ) (ls : List (List ℕ)) (w e : ℕ) → length ls ≤ w → length ls ≤ e → seeds p f ls w e ≡ map (native_of p) (numbers_from f (length ls))
  unfolding seeds numbers_from
  seeds_all f [] w e h k = refl
  seeds_all f (l ∷ ls) zero e h k = let z : ⊥ = omega arith in absurd z
  seeds_all f (l ∷ ls) (suc w) zero h k = let z : ⊥ = omega arith in absurd z
  seeds_all f (l ∷ ls) (suc w) (suc e) h k = ap (λ x. native_of p f ∷ x) (seeds_all (suc f) ls w e (omega arith) (omega arith))

  -- as many natives as families: neither budget cut them short
  seeds_whole : (f : ℕ) (ls : List (List ℕ)) (w e : ℕ) → length (seeds p f ls w e) ≡ length ls → (length ls ≤ w) × (length ls ≤ e)
  unfolding seeds
  seeds_whole f [] w e q = (omega arith, omega arith)
  seeds_whole f (l ∷ ls) zero e q = let z : ⊥ = omega arith in absurd z
  seeds_whole f (l ∷ ls) (suc w) zero q = let z : ⊥ = omega arith in absurd z
  seeds_whole f (l ∷ ls) (suc w) (suc e) q = let r = seeds_whole (suc f) ls w e (omega arith) in let x = r.0 in let y = r.1 in (omega arith, omega arith)

  module _ (b : SearchBudget) where
    abbrev pub given : List Assignment
    given = seeds p 0 p.families b.max_work b.max_evaluations

    pub seeded_walk : walk p b ≡ after_seeding p b [] (seeded_with untouched given)
    unfolding walk walk_from seeded
    seeded_walk =
        let w : b.max_work - 0 ≡ b.max_work = omega arith in
        let e : b.max_evaluations - 0 ≡ b.max_evaluations = omega arith in
        rw (w, e)

    given_all : length p.families ≤ b.max_work → length p.families ≤ b.max_evaluations → given ≡ natives_of p
    unfolding natives_of
    given_all h k = seeds_all 0 p.families b.max_work b.max_evaluations h k

-- ---- one end

stopped_is : (s : Phase) → (stopped s).ending ≡ exhausted → s ≡ ended exhausted (stopped s).walk
stopped_is (going w) q = let z : ◌≡◌ {A = ℕ} 0 1 = cc in absurd (omega arith)
stopped_is (ended e w) q = ap (λ (x : Ending). ended x w) q

-- a walk has one end
pub one_end : (p : Panel) (lim : Limits) (m n : ℕ) (s : Phase) (v w : Walk) → units p lim m s ≡ ended exhausted v → units p lim n s ≡ ended exhausted w → v ≡ w
one_end p lim m n s v w e f =
    let x : units p lim (m + n) s ≡ ended exhausted v = units_add p lim m n s ∙ ap (units p lim n) e ∙ ended_stays p lim n exhausted v in
    let y : units p lim (n + m) s ≡ ended exhausted w = units_add p lim n m s ∙ ap (units p lim m) f ∙ ended_stays p lim m exhausted w in
    ap walk_in (sym x ∙ ap (λ (i : ℕ). units p lim i s) (add_comm m n) ∙ y)

pub short_not : (b : SearchBudget) (w : Walk) → (short b w).ending ≡ exhausted → ⊥
short_not b w = go (leb b.max_evaluations w.natives)
  where
    go : (t : Bool) → pick t on_evaluation on_work ≡ exhausted → ⊥
    go true q = let z : ◌≡◌ {A = ℕ} 0 1 = cc in omega arith
    go false q = let z : ◌≡◌ {A = ℕ} 0 1 = cc in omega arith

module _ (p : Panel) (b : SearchBudget) where
  left : ℕ
  left = b.max_work - (0 + length (natives_of p))

  -- with all natives seeded, the walk runs from its outset
  runs : given p b ≡ natives_of p → walk p b ≡ stopped (units p (limits_of b) left (outset p))
  unfolding after_seeding run outset left
  runs e =
      seeded_walk p b
      ∙ ap (λ (l : List Assignment). after_seeding p b [] (seeded_with untouched l)) e
      ∙ rw (eq-eqb (0 + length (natives_of p)) (length p.families) (let n = natives_length p in omega arith))

-- ---- without a family there is nothing to walk

module _ (p : Panel) (none : length p.families ≡ 0) where
  no_natives : natives_of p ≡ []
  unfolding natives_of numbers_from
  no_natives = ap (λ (n : ℕ). map (native_of p) (numbers_from 0 n)) none

  outset_none : outset p ≡ ended exhausted untouched
  unfolding outset
  outset_none = ap (λ (l : List Assignment). begin p (seeded_with untouched l)) no_natives ∙ rw none

  walk_none : (b : SearchBudget) → walk p b ≡ record { ending = exhausted; walk = untouched }
  walk_none b =
      runs p b (given_all p b (omega arith) (omega arith))
      ∙ ap (λ (s : Phase). stopped (units p (limits_of b) (left p b) s)) outset_none
      ∙ ap stopped (ended_stays p (limits_of b) (left p b) exhausted untouched)

  final_none : (u : Unbudgeted p) → u.final ≡ untouched
  final_none u = ap walk_in (sym u.ends ∙ ap (units p unlimited u.steps) outset_none ∙ ended_stays p unlimited u.steps exhausted untouched)

  suffices_none : (b : SearchBudget) (u : Unbudgeted p) → 0 < b.max_evaluations → Suffices p b u
  suffices_none b u some =
      let w : u.final.work ≡ 0 = ap (λ (v : Walk). v.work) (final_none u) in
      let e : u.final.evaluations ≡ 0 = ap (λ (v : Walk). v.evaluations) (final_none u) in
      let d : deepest p u.steps (outset p) ≡ 0 = ap (deepest p u.steps) outset_none ∙ deepest_ended p u.steps exhausted untouched in
      record { work = omega arith; evaluations = omega arith; frontier = omega arith }

-- ---- with one

module _ (p : Panel) (b : SearchBudget) (some : 0 < length p.families) (room : 0 < b.max_frontier) where
  abbrev start : Walk
  start = seeded_with untouched (natives_of p)

  abbrev first : Walk
  first = stacked start (root p 0 ∷ [])

  outset_is : outset p ≡ going first
  unfolding outset
  outset_is = rw (lt-ltb 0 (length p.families) some)

  module _ (u : Unbudgeted p) where
    -- budgets that suffice let the walk end as the unbudgeted one does
    sufficient : Suffices p b u → walk p b ≡ record { ending = exhausted; walk = u.final }
    unfolding left
    sufficient h =
        let g = grows p u.steps (outset p) live in
        let x : (walk_in (units p unlimited u.steps (outset p))).work ≡ u.final.work = ap (λ (s : Phase). (walk_in s).work) u.ends in
        let y : (walk_in (units p unlimited u.steps (outset p))).evaluations ≡ u.final.evaluations = ap (λ (s : Phase). (walk_in s).evaluations) u.ends in
        let w : (walk_in (outset p)).work ≡ 0 + length (natives_of p) = ap (λ (s : Phase). (walk_in s).work) outset_is in
        let v : (walk_in (outset p)).evaluations ≡ 0 + length (natives_of p) = ap (λ (s : Phase). (walk_in s).evaluations) outset_is in
        let n = natives_length p in
        let a = g.0 in
        let c = g.1 in
        let i = h.work in
        let j = h.evaluations in
        runs p b (given_all p b (omega arith) (omega arith))
        ∙ ap stopped (enough p b u.steps (left p b) (outset p) u.final live u.ends (omega arith) h.evaluations h.frontier)
      where
        live : Live (outset p)
        live = subst Live (sym outset_is) (omega arith)

    -- a walk that ended by itself
    record Whole : Type 0 where
      enough : Suffices p b u
      same : (walk p b).walk ≡ u.final

    whole : (walk p b).ending ≡ exhausted → Whole
    unfolding left after_seeding
    whole q = go (eqb (0 + length (given p b)) (length p.families)) refl (ap (λ (r : Walked). r.ending) (sym (seeded_walk p b)) ∙ q)
      where
        within : length p.families ≤ b.max_work → units p unlimited (left p b) (outset p) ≡ ended exhausted (walk p b).walk → Kept p b (left p b) first (walk p b).walk → Whole
        within few e k =
            let one : (walk p b).walk ≡ u.final = one_end p unlimited (left p b) u.steps (outset p) (walk p b).walk u.final e u.ends in
            let w : (walk p b).walk.work ≡ u.final.work = ap (λ (v : Walk). v.work) one in
            let n = natives_length p in
            let i = k.work in
            record {
              enough = record {
                work = omega arith;
                evaluations = subst (λ (v : Walk). v.evaluations < b.max_evaluations) one k.evaluations;
                frontier = subst (λ (s : Phase). deepest p u.steps s ≤ b.max_frontier) (sym outset_is) (k.frontier u.steps);
              };
              same = one;
            }

        ran : given p b ≡ natives_of p → length p.families ≤ b.max_work → Whole
        ran e few =
            let r = runs p b e in
            let ends : units p (limits_of b) (left p b) (outset p) ≡ ended exhausted (stopped (units p (limits_of b) (left p b) (outset p))).walk
            = stopped_is (units p (limits_of b) (left p b) (outset p)) (ap (λ (x : Walked). x.ending) (sym r) ∙ q) in
            let ends' : units p (limits_of b) (left p b) (going first) ≡ ended exhausted (walk p b).walk
            = ap (units p (limits_of b) (left p b)) (sym outset_is) ∙ ends ∙ ap (λ (x : Walked). ended exhausted x.walk) (sym r) in
            let k = honest p b (left p b) first (walk p b).walk (omega arith) room ends' in
            within few (ap (units p unlimited (left p b)) outset_is ∙ k.same) k

        go : (t : Bool) → eqb (0 + length (given p b)) (length p.families) ≡ t → (after_seeding p b [] (seeded_with untouched (given p b))).ending ≡ exhausted → Whole
        go true e z =
            let n : length (given p b) ≡ length p.families = (let m = eqb-true (0 + length (given p b)) (length p.families) e in omega arith) in
            let f = seeds_whole p 0 p.families b.max_work b.max_evaluations n in
            ran (given_all p b f.0 f.1) f.0
        go false e z = absurd (short_not b (seeded_with untouched (given p b)) (rw e at z))

-- BOTH WAYS, with a family or without
module _ (p : Panel) (b : SearchBudget) (some : 0 < b.max_evaluations) (room : 0 < b.max_frontier) (u : Unbudgeted p) where
  pub ends_iff : ((walk p b).ending ≡ exhausted) ↔ Suffices p b u
  ends_iff = go (length p.families) refl
    where
      go : (n : ℕ) → length p.families ≡ n → ((walk p b).ending ≡ exhausted) ↔ Suffices p b u
      go zero e = (λ q. suffices_none p e b u some, λ h. ap (λ (r : Walked). r.ending) (walk_none p e b))
      go (suc n) e =
          let family : 0 < length p.families = omega arith in
          (λ q. (whole p b family room u q).enough, λ h. ap (λ (r : Walked). r.ending) (sufficient p b family room u h))

  pub ends_as : (walk p b).ending ≡ exhausted → (walk p b).walk ≡ u.final
  ends_as q = go (length p.families) refl
    where
      go : (n : ℕ) → length p.families ≡ n → (walk p b).walk ≡ u.final
      go zero e = ap (λ (r : Walked). r.walk) (walk_none p e b) ∙ sym (final_none p e u)
      go (suc n) e = (whole p b (let family : 0 < length p.families = omega arith in family) room u q).same
