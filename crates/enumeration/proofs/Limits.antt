-- Units under tighter limits are units under wider ones, up to where the tighter stop; from there the wider take the walk up.
use Prim.Native.Nat.{ℕ, zero, suc, ◌+◌, ◌≤◌, ◌<◌}
use native.Mathlib.Omega.{arith}
use mathlib.Core.Path.{◌≡◌, refl, sym, ◌∙◌, ap}
use mathlib.Core.Bool.{Bool, true, false}
use mathlib.Core.List.{List, [], ◌∷◌}
use lib.Dec.{ltb}
use lib.ListN.{length}
use borrow.Author.Tests.{leb-false, lt-leb}
use Rattle.ground.specs.Lists.{pick}
use Rattle.image.specs.Panel.{Panel, paths_at}
use Rattle.search.specs.declared.SearchBudget.{SearchBudget}
use Rattle.search.specs.Budget.{WalkNoSmaller}
use Rattle.search.specs.Walk.{pass, down, give, Frame, Act, leave, doing, enter, unit_of, takes_member}
use Rattle.search.specs.Run.{Walk, Walked, Ending, exhausted, on_work, on_evaluation, on_frontier, Phase, going, ended, Limits, limits_of, root, stacked, begin, spend, handed, done_with, after_act, on_top, unit, units, stopped, waiting, resumed, taken_up}
use Rattle.enumeration.proofs.Whole.{ended_stays}
use Rattle.enumeration.proofs.Budgets.{walk_in, Short, short_ends, begun}

-- what the first let pass, the second let pass
pub record Wider (l m : Limits) : Type 0 where
  pub enough : (n : ℕ) → l.enough n ≡ false → m.enough n ≡ false
  pub full : (n : ℕ) → l.full n ≡ false → m.full n ≡ false

pub larger_wider : (b c : SearchBudget) → WalkNoSmaller b c → Wider (limits_of b) (limits_of c)
larger_wider b c more =
    record {
      enough = λ n e. let h = leb-false b.max_evaluations n e in let k = more.evaluations in lt-leb c.max_evaluations n (omega arith);
      full = λ n e. let h = leb-false b.max_frontier n e in let k = more.frontier in lt-leb c.max_frontier n (omega arith);
    }

-- a stack with a frame is continued
resumed_live : (p : Panel) (w : Walk) (st : List Frame) → 0 < length st → resumed p w st ≡ going w
resumed_live p w [] h = let z : ⊥ = omega arith in absurd z
resumed_live p w (f ∷ st) h = refl

-- a phase that a walk can be in between units: a frame on the stack, or nothing left to walk
abbrev pub Fine : Panel → Phase → Type 0
Fine p (going w) = 0 < length w.stack
Fine p (ended exhausted w) = resumed p w w.stack ≡ ended exhausted w
Fine p (ended on_work w) = ⊥
Fine p (ended on_evaluation w) = ⊥
Fine p (ended (on_frontier a) w) = ⊥

pub begin_fine : (p : Panel) (w : Walk) → w.stack ≡ [] → Fine p (begin p w)
begin_fine p w none = go (ltb w.families (length p.families)) refl
  where
    go : (t : Bool) → ltb w.families (length p.families) ≡ t → Fine p (pick t (going (stacked w (root p w.families ∷ []))) (ended exhausted w))
    go true e = omega arith
    go false e = ap (resumed p w) none ∙ rw e

module _ (p : Panel) (l m : Limits) (wider : Wider l m) where
  -- the tighter limits reached r within n units of s, with that many units counted from `from` on and as many natives as before; the wider
  -- reach it in as many units, and take it up
  pub record Reached (n from natives : ℕ) (s : Phase) (r : Walked) : Type 0 where
    pub done : ℕ
    pub few : done ≤ n
    pub work : r.walk.work ≡ from + done
    pub seeded : r.walk.natives ≡ natives
    pub there : units p m done s ≡ taken_up p m r.walk (waiting r.ending)
    pub whole : r.ending ≡ exhausted → resumed p r.walk r.walk.stack ≡ ended exhausted r.walk

  -- of every phase, n units on
  abbrev Later : ℕ → Type 0
  Later n = (s : Phase) → Fine p s → Reached n (walk_in s).work (walk_in s).natives s (stopped (units p l n s))

  -- where the tighter stop before a unit
  stands : (n : ℕ) (e : Ending) (w : Walk) → waiting e ≡ [] → Short e → 0 < length w.stack → Reached n w.work w.natives (going w) (record { ending = e; walk = w })
  unfolding units
  stands n e w none short h =
      record { done = 0; few = omega arith; work = omega arith; seeded = refl; there = sym (ap (taken_up p m w) none ∙ resumed_live p w w.stack h); whole = λ q. absurd (short_ends e short q) }

  begins : (n : ℕ) → Later n → (w : Walk) → w.stack ≡ [] → Reached n w.work w.natives (begin p w) (stopped (units p l n (begin p w)))
  begins n ih w none =
      let b = begun p w none in
      let r = ih (begin p w) (begin_fine p w none) in
      record { done = r.done; few = r.few; work = r.work ∙ ap (λ (x : ℕ). x + r.done) b.work; seeded = r.seeded ∙ b.natives; there = r.there; whole = r.whole }

  acts : (n : ℕ) → Later n → (w : Walk) (d : ℕ) (rest : List Frame) (t : Act)
      → Reached n (suc w.work) w.natives (after_act p m w d rest t) (stopped (units p l n (after_act p l w d rest t)))
  unfolding units
  acts n ih w d [] leave = begins n ih (done_with (spend w d [])) refl
  acts n ih w d (g ∷ rest) leave = ih (going (spend w d (g ∷ rest))) (omega arith)
  acts n ih w d rest (doing pass g) = ih (going (spend w d (g ∷ rest))) (omega arith)
  acts n ih w d rest (doing (give rs) g) = ih (going (handed (spend w d (g ∷ rest)) (record { family = w.families; routes = rs }))) (omega arith)
  acts n ih w d rest (doing (down a) g) = go (l.full (suc (length rest))) refl
    where
      v : Walk
      v = spend w d (g ∷ rest)

      on : Phase
      on = going (spend w d (enter p a ∷ g ∷ rest))

      off : Phase
      off = ended (on_frontier a) v

      go : (t : Bool) → l.full (suc (length rest)) ≡ t → Reached n (suc w.work) w.natives (pick (m.full (suc (length rest))) off on) (stopped (units p l n (pick t off on)))
      go true e =
          rw (ended_stays p l n (on_frontier a) v)
          (record { done = 0; few = omega arith; work = omega arith; seeded = refl; there = refl; whole = λ q. absurd (short_ends (on_frontier a) tt q) })
      go false e = rw (wider.full (suc (length rest)) e) (ih on (omega arith))

  -- where it has ended
  over : (n : ℕ) (e : Ending) (w : Walk) → Fine p (ended e w) → Reached n w.work w.natives (ended e w) (record { ending = e; walk = w })
  unfolding units
  over n exhausted w h = record { done = 0; few = omega arith; work = omega arith; seeded = refl; there = sym h; whole = λ q. h }
  over n on_work w h = absurd h
  over n on_evaluation w h = absurd h
  over n (on_frontier a) w h = absurd h

  -- THE LAW OF TWO LIMITS
  pub reach : (n : ℕ) → Later n
  unfolding units
  reach zero (going w) h = stands zero on_work w refl tt h
  reach zero (ended e w) h = over zero e w h
  reach (suc n) (ended e w) h = over (suc n) e w h
  reach (suc n) (going w) h = go (l.enough w.evaluations) refl (top w.stack h (λ s k. reach n s k))
    where
      top : (st : List Frame) → 0 < length st → Later n → Reached n (suc w.work) w.natives (on_top p m w st) (stopped (units p l n (on_top p l w st)))
      top [] k ih = let z : ⊥ = omega arith in absurd z
      top (f ∷ rest) k ih = acts n ih w (pick (takes_member f) 1 0) rest (unit_of p (paths_at p w.families) f)

      go : (t : Bool) → l.enough w.evaluations ≡ t → Reached n (suc w.work) w.natives (on_top p m w w.stack) (stopped (units p l n (on_top p l w w.stack)))
          → Reached (suc n) w.work w.natives (going w) (stopped (units p l n (pick t (ended on_evaluation w) (on_top p l w w.stack))))
      go true e r = rw (ended_stays p l n on_evaluation w) (stands (suc n) on_evaluation w refl tt h)
      go false e r =
          let free : unit p m w ≡ on_top p m w w.stack = rw (wider.enough w.evaluations e) in
          let f = r.few in
          let q = r.work in
          record { done = suc r.done; few = omega arith; work = omega arith; seeded = r.seeded; there = ap (units p m r.done) free ∙ r.there; whole = r.whole }
