-- Budgets that suffice, and only these, let the walk end by itself; then it is the unbudgeted walk.
use Prim.Native.Nat.{ℕ, zero, suc, ◌+◌, ◌≤◌, ◌<◌}
use native.Mathlib.Omega.{arith}
use mathlib.Core.Path.{◌≡◌, refl, sym, ◌∙◌, ap}
use mathlib.Core.Logic.{◌⊎◌, inl, inr}
use mathlib.Core.List.{List, [], ◌∷◌}
use mathlib.Core.Bool.{Bool, true, false}
use lib.Dec.{leb, ltb}
use lib.ListN.{length}
use borrow.Author.Tests.{leb-false, lt-leb}
use Rattle.ground.specs.Lists.{pick}
use Rattle.image.specs.Panel.{Panel, paths_at}
use Rattle.search.specs.declared.SearchBudget.{SearchBudget}
use Rattle.search.specs.Walk.{pass, down, give, Frame, Act, leave, doing, enter, unit_of, takes_member}
use Rattle.search.specs.Run.{Walk, Ending, exhausted, on_work, on_evaluation, on_frontier, Phase, going, ended, Limits, limits_of, unlimited, root, stacked, begin, spend, handed, done_with, after_act, on_top, unit, units, stopped, frames_of, deepest}
use Rattle.enumeration.proofs.Whole.{ended_stays}

abbrev pub walk_in : Phase → Walk
walk_in (going w) = w
walk_in (ended e w) = w

-- a walk that goes on has a frame
abbrev pub Live : Phase → Type 0
Live (going w) = 0 < length w.stack
Live (ended e w) = Unit

-- a stop that is no exhaustion
abbrev pub Short : Ending → Type 0
Short exhausted = ⊥
Short on_work = Unit
Short on_evaluation = Unit
Short (on_frontier a) = Unit

abbrev Stops : Phase → Type 0
Stops (going w) = ⊥
Stops (ended e w) = Short e

pub short_ends : (e : Ending) → Short e → e ≡ exhausted → ⊥
short_ends exhausted h q = h
short_ends on_work h q = let z : ◌≡◌ {A = ℕ} 0 1 = cc in omega arith
short_ends on_evaluation h q = let z : ◌≡◌ {A = ℕ} 0 1 = cc in omega arith
short_ends (on_frontier a) h q = let z : ◌≡◌ {A = ℕ} 0 1 = cc in omega arith

ended_by : (e : Ending) (w W : Walk) → Short e → ended e w ≡ ended exhausted W → ⊥
ended_by e w W h q = short_ends e h (ap (λ (s : Phase). (stopped s).ending) q)

going_ended : (w : Walk) (e : Ending) (W : Walk) → going w ≡ ended e W → ⊥
going_ended w e W q = let z : ◌≡◌ {A = ℕ} 0 1 = cc in omega arith

pub deepest_ended : (p : Panel) (n : ℕ) (e : Ending) (w : Walk) → deepest p n (ended e w) ≡ length w.stack
unfolding deepest
deepest_ended p zero e w = refl
deepest_ended p (suc n) e w = refl

frames_deepest : (p : Panel) (n : ℕ) (s : Phase) → frames_of s ≤ deepest p n s
unfolding deepest
frames_deepest p zero s = omega arith
frames_deepest p (suc n) (ended e w) = omega arith
frames_deepest p (suc n) (going w) = omega arith

-- ---- what a unit of the unbudgeted walk counts

-- what one unit adds: one to the work; to the evaluations at most one, and none where it ends the walk
record Counted (w : Walk) (s : Phase) : Type 0 where
  live : Live s
  work : (walk_in s).work ≡ suc w.work
  grows : w.evaluations ≤ (walk_in s).evaluations
  ending : (e : Ending) (W : Walk) → s ≡ ended e W → (W.evaluations ≡ w.evaluations) × (length W.stack ≡ 0)

module _ (p : Panel) where
  pub record Begun (w : Walk) (s : Phase) : Type 0 where
    pub live : Live s
    pub work : (walk_in s).work ≡ w.work
    pub evaluations : (walk_in s).evaluations ≡ w.evaluations
    pub natives : (walk_in s).natives ≡ w.natives
    pub frames : frames_of s ≤ 1
    pub ending : (e : Ending) (W : Walk) → s ≡ ended e W → W ≡ w

  pub begun : (w : Walk) → w.stack ≡ [] → Begun w (begin p w)
  begun w none = go (ltb w.families (length p.families))
    where
      go : (t : Bool) → Begun w (pick t (going (stacked w (root p w.families ∷ []))) (ended exhausted w))
      go true = record { live = omega arith; work = refl; evaluations = refl; natives = refl; frames = omega arith; ending = λ e W q. absurd (going_ended (stacked w (root p w.families ∷ [])) e W q) }
      go false = record { live = tt; work = refl; evaluations = refl; natives = refl; frames = (let z : length w.stack ≡ 0 = ap length none in omega arith); ending = λ e W q. ap walk_in (sym q) }

  act_counts : (w : Walk) (d : ℕ) (rest : List Frame) (c : Act) → Counted w (after_act p unlimited w d rest c)
  act_counts w d [] leave =
      let v = done_with (spend w d []) in
      let b = begun v refl in
      record {
        live = b.live;
        work = b.work;
        grows = (let x = b.evaluations in omega arith);
        ending = λ e W q. let i = b.ending e W q in (ap (λ (u : Walk). u.evaluations) i, ap (λ (u : Walk). length u.stack) i);
      }
  act_counts w d (g ∷ rest) leave = record { live = omega arith; work = refl; grows = omega arith; ending = λ e W q. absurd (going_ended (spend w d (g ∷ rest)) e W q) }
  act_counts w d rest (doing pass g) = record { live = omega arith; work = refl; grows = omega arith; ending = λ e W q. absurd (going_ended (spend w d (g ∷ rest)) e W q) }
  act_counts w d rest (doing (down a) g) = record { live = omega arith; work = refl; grows = omega arith; ending = λ e W q. absurd (going_ended (spend w d (enter p a ∷ g ∷ rest)) e W q) }
  act_counts w d rest (doing (give x) g) =
      record { live = omega arith; work = refl; grows = omega arith; ending = λ e W q. absurd (going_ended (handed (spend w d (g ∷ rest)) (record { family = w.families; routes = x })) e W q) }

  unit_counts : (w : Walk) → 0 < length w.stack → Counted w (unit p unlimited w)
  unit_counts w h = top w.stack h
    where
      top : (st : List Frame) → 0 < length st → Counted w (on_top p unlimited w st)
      top [] k = let z : ⊥ = omega arith in absurd z
      top (f ∷ rest) k = act_counts w (pick (takes_member f) 1 0) rest (unit_of p (paths_at p w.families) f)

  -- work and evaluations only grow
  pub grows : (n : ℕ) (s : Phase) → Live s → ((walk_in s).work ≤ (walk_in (units p unlimited n s)).work) × ((walk_in s).evaluations ≤ (walk_in (units p unlimited n s)).evaluations)
  unfolding units
  grows zero s l = (omega arith, omega arith)
  grows (suc n) (ended e w) l = (omega arith, omega arith)
  grows (suc n) (going w) l =
      let c = unit_counts w l in
      let r = grows n (unit p unlimited w) c.live in
      let x = c.work in
      let y = c.grows in
      let a = r.0 in
      let b = r.1 in
      (omega arith, omega arith)

  -- ---- a unit within the budgets is one of the unbudgeted walk

  module _ (b : SearchBudget) where
    abbrev lim : Limits
    lim = limits_of b

    act_free : (w : Walk) (d : ℕ) (rest : List Frame) (c : Act) → frames_of (after_act p unlimited w d rest c) ≤ b.max_frontier → after_act p lim w d rest c ≡ after_act p unlimited w d rest c
    act_free w d rest leave h = refl
    act_free w d rest (doing pass g) h = refl
    act_free w d rest (doing (down a) g) h = rw (lt-leb b.max_frontier (suc (length rest)) h) refl
    act_free w d rest (doing (give x) g) h = refl

    top_free : (w : Walk) (st : List Frame) → frames_of (on_top p unlimited w st) ≤ b.max_frontier → on_top p lim w st ≡ on_top p unlimited w st
    top_free w [] h = refl
    top_free w (f ∷ rest) h = act_free w (pick (takes_member f) 1 0) rest (unit_of p (paths_at p w.families) f) h

    unit_free : (w : Walk) → w.evaluations < b.max_evaluations → frames_of (unit p unlimited w) ≤ b.max_frontier → unit p lim w ≡ unit p unlimited w
    unit_free w e h = rw (lt-leb b.max_evaluations w.evaluations e) (top_free w w.stack h)

    -- THE ONE WAY: budgets that the unbudgeted walk keeps within do not stop it
    pub enough : (N n : ℕ) (s : Phase) (W : Walk) → Live s → units p unlimited N s ≡ ended exhausted W → W.work ≤ (walk_in s).work + n → W.evaluations < b.max_evaluations
        → deepest p N s ≤ b.max_frontier → units p lim n s ≡ ended exhausted W
    unfolding units deepest
    enough zero n (ended e w) W l q h o d = ended_stays p lim n e w ∙ sym (ended_stays p unlimited zero e w) ∙ q
    enough zero n (going w) W l q h o d = absurd (going_ended w exhausted W q)
    enough (suc N) n (ended e w) W l q h o d = ended_stays p lim n e w ∙ sym (ended_stays p unlimited (suc N) e w) ∙ q
    enough (suc N) zero (going w) W l q h o d =
        let c = unit_counts w l in
        let g = grows N (unit p unlimited w) c.live in
        let x : (walk_in (units p unlimited N (unit p unlimited w))).work ≡ W.work = ap (λ (s : Phase). (walk_in s).work) q in
        let y = c.work in
        let a = g.0 in
        let z : ⊥ = omega arith in
        absurd z
    enough (suc N) (suc n) (going w) W l q h o d =
        let c = unit_counts w l in
        let g = grows N (unit p unlimited w) c.live in
        let x : (walk_in (units p unlimited N (unit p unlimited w))).evaluations ≡ W.evaluations = ap (λ (s : Phase). (walk_in s).evaluations) q in
        let f = frames_deepest p N (unit p unlimited w) in
        let y = c.work in
        let a = g.1 in
        let i = c.grows in
        let few : w.evaluations < b.max_evaluations = omega arith in
        let flat : frames_of (unit p unlimited w) ≤ b.max_frontier = omega arith in
        ap (units p lim n) (unit_free w few flat) ∙ enough N n (unit p unlimited w) W c.live q (omega arith) o (omega arith)

    -- ---- and the other way

    -- a unit is one of the unbudgeted walk and leaves the stack within its bound, or it stops short
    abbrev Same : Phase → Phase → Type 0
    Same s t = (s ≡ t) × (frames_of t ≤ b.max_frontier)

    act_or : (w : Walk) (d : ℕ) (rest : List Frame) (c : Act) → suc (length rest) ≤ b.max_frontier → Same (after_act p lim w d rest c) (after_act p unlimited w d rest c) ⊎ Stops (after_act p lim w d rest c)
    act_or w d [] leave h = let r = (begun (done_with (spend w d [])) refl).frames in inl (refl, omega arith)
    act_or w d (g ∷ rest) leave h = inl (refl, omega arith)
    act_or w d rest (doing pass g) h = inl (refl, h)
    act_or w d rest (doing (give x) g) h = inl (refl, h)
    act_or w d rest (doing (down a) g) h = go (leb b.max_frontier (suc (length rest))) refl
      where
        on : Phase
        on = going (spend w d (enter p a ∷ g ∷ rest))

        off : Phase
        off = ended (on_frontier a) (spend w d (g ∷ rest))

        go : (t : Bool) → leb b.max_frontier (suc (length rest)) ≡ t → Same (pick t off on) on ⊎ Stops (pick t off on)
        go true e = inr tt
        go false e = inl (refl, leb-false b.max_frontier (suc (length rest)) e)

    unit_or : (w : Walk) → 0 < length w.stack → length w.stack ≤ b.max_frontier → ((w.evaluations < b.max_evaluations) × Same (unit p lim w) (unit p unlimited w)) ⊎ Stops (unit p lim w)
    unit_or w l h = go (leb b.max_evaluations w.evaluations) refl (top w.stack l h)
      where
        top : (st : List Frame) → 0 < length st → length st ≤ b.max_frontier → Same (on_top p lim w st) (on_top p unlimited w st) ⊎ Stops (on_top p lim w st)
        top [] l h = let z : ⊥ = omega arith in absurd z
        top (f ∷ rest) l h = act_or w (pick (takes_member f) 1 0) rest (unit_of p (paths_at p w.families) f) h

        go : (t : Bool) → leb b.max_evaluations w.evaluations ≡ t → Same (on_top p lim w w.stack) (on_top p unlimited w w.stack) ⊎ Stops (on_top p lim w w.stack)
            → ((w.evaluations < b.max_evaluations) × Same (pick t (ended on_evaluation w) (on_top p lim w w.stack)) (on_top p unlimited w w.stack))
            ⊎ Stops (pick t (ended on_evaluation w) (on_top p lim w w.stack))
        go true e r = inr tt
        go false e (inl r) = inl (leb-false b.max_evaluations w.evaluations e, r)
        go false e (inr r) = inr r

    stops_short : (n : ℕ) (s : Phase) (W : Walk) → Stops s → units p lim n s ≡ ended exhausted W → ⊥
    stops_short n (going w) W h q = h
    stops_short n (ended e w) W h q = ended_by e w W h (sym (ended_stays p lim n e w) ∙ q)

    -- what a walk that ended by itself has kept within
    pub record Kept (n : ℕ) (w W : Walk) : Type 0 where
      pub same : units p unlimited n (going w) ≡ ended exhausted W
      pub work : W.work ≤ w.work + n
      pub evaluations : W.evaluations < b.max_evaluations
      pub frontier : (m : ℕ) → deepest p m (going w) ≤ b.max_frontier

    -- the same of each walk, n units long
    abbrev Later : ℕ → Walk → Type 0
    Later n W = (v : Walk) → 0 < length v.stack → length v.stack ≤ b.max_frontier → units p lim n (going v) ≡ ended exhausted W → Kept n v W

    -- THE OTHER WAY: a walk that ended by itself is the unbudgeted one, within the budgets
    pub honest : (n : ℕ) (w W : Walk) → 0 < length w.stack → length w.stack ≤ b.max_frontier → units p lim n (going w) ≡ ended exhausted W → Kept n w W
    unfolding units deepest
    honest zero w W l h q = absurd (going_ended w exhausted W q)
    honest (suc n) w W l h q = go (unit_or w l h) (λ v. honest n v W)
      where
        next : (s : Phase) → Counted w s → frames_of s ≤ b.max_frontier → w.evaluations < b.max_evaluations → units p lim n s ≡ ended exhausted W
            → Later n W
            → (units p unlimited n s ≡ ended exhausted W) × (W.work ≤ suc w.work + n) × (W.evaluations < b.max_evaluations) × ((m : ℕ) → deepest p m s ≤ b.max_frontier)
        next (going v) c f e r ih = let k = ih v c.live f r in let x = c.work in let y = k.work in (k.same, omega arith, k.evaluations, k.frontier)
        next (ended e' v) c f e r ih =
            let i : ended e' v ≡ ended exhausted W = sym (ended_stays p lim n e' v) ∙ r in
            let j = c.ending e' v refl in
            let k : W.evaluations ≡ v.evaluations = ap (λ (s : Phase). (walk_in s).evaluations) (sym i) in
            let x : W.work ≡ v.work = ap (λ (s : Phase). (walk_in s).work) (sym i) in
            let y = c.work in
            let z = j.0 in
            (ended_stays p unlimited n e' v ∙ i, omega arith, omega arith, λ m. rw (deepest_ended p m e' v) f)

        deep : (m : ℕ) → ((m : ℕ) → deepest p m (unit p unlimited w) ≤ b.max_frontier) → deepest p m (going w) ≤ b.max_frontier
        deep zero k = h
        deep (suc m) k = let x = k m in omega arith

        go : ((w.evaluations < b.max_evaluations) × Same (unit p lim w) (unit p unlimited w)) ⊎ Stops (unit p lim w) → Later n W → Kept (suc n) w W
        go (inr r) ih = absurd (stops_short n (unit p lim w) W r q)
        go (inl r) ih =
            let k = next (unit p unlimited w) (unit_counts w l) r.1.1 r.0 (ap (units p lim n) (sym r.1.0) ∙ q) ih in
            record { same = k.0; work = (let x = k.1 in omega arith); evaluations = k.2; frontier = λ m. deep m k.3 }
