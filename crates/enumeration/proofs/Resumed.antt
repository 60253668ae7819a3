-- A walk stopped by its budgets and continued under larger ones ends as one walk under the larger does.
use Prim.Native.Nat.{ℕ, zero, suc, ◌+◌, ◌-◌, ◌≤◌}
use native.Mathlib.Omega.{arith}
use native.Mathlib.Nat.{add-zero, zero-add}
use mathlib.Core.Path.{◌≡◌, refl, sym, ◌∙◌, ap}
use mathlib.Core.Bool.{Bool, true, false}
use mathlib.Core.List.{List, [], ◌∷◌, ◌++◌, append-nil}
use lib.Dec.{leb, eqb}
use lib.ListN.{length, drop, drop_of_length-le, length-append}
use borrow.Author.Tests.{eq-eqb, eqb-true}
use Rattle.ground.specs.Lists.{pick}
use Rattle.image.specs.Panel.{Panel}
use Rattle.evaluate.specs.Segments.{Assignment, native_of}
use Rattle.search.specs.declared.SearchBudget.{SearchBudget}
use Rattle.search.specs.Budget.{WalkNoSmaller}
use Rattle.search.specs.Walk.{Place}
use Rattle.search.specs.Run.{Walk, Walked, Ending, exhausted, on_work, on_evaluation, ended, limits_of, begin, units, stopped, run, seeds, seeded_with, seeded, short, waiting, resumed, taken_up, after_seeding, walk_from, continued, untouched, walk}
use Rattle.enumeration.proofs.Whole.{ended_stays, units_add}
use Rattle.enumeration.proofs.Budgets.{walk_in, begun}
use Rattle.enumeration.proofs.Suffice.{given, seeded_walk, short_not}
use Rattle.enumeration.proofs.Limits.{larger_wider, begin_fine, Reached, reach}
use Rattle.search.proofs.Behind.{end_behind, bare, behind_bare, walk_behind}

-- ---- seeding under more

module _ (p : Panel) where
  -- more of both budgets: the same natives, and those behind them
  seeds_more : (f : ℕ) (ls : List (List ℕ)) (w e w' e' : ℕ) → w ≤ w' → e ≤ e'
      → seeds p f ls w' e'
      ≡ seeds p f ls w e ++ seeds p (f + length (seeds p f ls w e)) (drop (length (seeds p f ls w e)) ls) (w' - length (seeds p f ls w e)) (e' - length (seeds p f ls w e))
  unfolding seeds
  seeds_more f [] w e w' e' h k = refl
  seeds_more f (l ∷ ls) zero e w' e' h k =
      let x : f + 0 ≡ f = omega arith in
      let y : w' - 0 ≡ w' = omega arith in
      let z : e' - 0 ≡ e' = omega arith in
      rw (x, y, z)
  seeds_more f (l ∷ ls) (suc w) zero w' e' h k =
      let x : f + 0 ≡ f = omega arith in
      let y : w' - 0 ≡ w' = omega arith in
      let z : e' - 0 ≡ e' = omega arith in
      rw (x, y, z)
  seeds_more f (l ∷ ls) (suc w) (suc e) zero e' h k = let z : ⊥ = omega arith in absurd z
  seeds_more f (l ∷ ls) (suc w) (suc e) (suc w') zero h k = let z : ⊥ = omega arith in absurd z
  seeds_more f (l ∷ ls) (suc w) (suc e) (suc w') (suc e') h k =
      let n = length (seeds p (suc f) ls w e) in
      let x : f + suc n ≡ suc f + n = omega arith in
      let y : suc w' - suc n ≡ w' - n = omega arith in
      let z : suc e' - suc n ≡ e' - n = omega arith in
      rw (x, y, z) (ap (λ (o : List Assignment). native_of p f ∷ o) (seeds_more (suc f) ls w e w' e' (omega arith) (omega arith)))

  -- not more natives than units
  seeds_few : (f : ℕ) (ls : List (List ℕ)) (w e : ℕ) → length (seeds p f ls w e) ≤ w
  unfolding seeds
  seeds_few f [] w e = omega arith
  seeds_few f (l ∷ ls) zero e = omega arith
  seeds_few f (l ∷ ls) (suc w) zero = omega arith
  seeds_few f (l ∷ ls) (suc w) (suc e) = let h = seeds_few (suc f) ls w e in omega arith

  -- nothing is left to seed
  seeds_none : (f : ℕ) (ls : List (List ℕ)) (w e : ℕ) → ls ≡ [] → seeds p f ls w e ≡ []
  unfolding seeds
  seeds_none f ls w e q = rw q

  seeded_none : (b : SearchBudget) (w : Walk) → w.natives ≡ length p.families → seeded p b w ≡ w
  unfolding seeded
  seeded_none b w q =
      let none = seeds_none w.natives (drop w.natives p.families) (b.max_work - w.work) (b.max_evaluations - w.natives) (drop_of_length-le p.families {i = w.natives} (omega arith)) in
      ap (seeded_with w) none
      ∙ (λ i. record { work = add-zero w.work i; evaluations = add-zero w.evaluations i; natives = add-zero w.natives i; donors = w.donors; families = w.families; stack = w.stack; out = append-nil w.out i })

  -- a walk with all natives evaluated is continued as it stands
  on_whole : (c : SearchBudget) (l : List Place) (w : Walk) → w.natives ≡ length p.families
      → walk_from p c l w ≡ run p c (c.max_work - w.work) (taken_up p (limits_of c) w l)
  unfolding walk_from after_seeding
  on_whole c l w q = ap (after_seeding p c l) (seeded_none c w q) ∙ rw (eq-eqb w.natives (length p.families) q)

-- ---- the law

module _ (p : Panel) (b c : SearchBudget) (more : WalkNoSmaller b c) where
  abbrev first : List Assignment
  first = given p b

  abbrev behind_first : List Assignment
  behind_first = seeds p (length first) (drop (length first) p.families) (c.max_work - length first) (c.max_evaluations - length first)

  all_is : given p c ≡ first ++ behind_first
  all_is = seeds_more p 0 p.families b.max_work b.max_evaluations c.max_work c.max_evaluations more.work more.evaluations ∙ rw zero-add refl

  abbrev sown : Walk
  sown = seeded_with untouched first

  abbrev sown_all : Walk
  sown_all = seeded_with untouched (given p c)

  -- seeding taken up gives the larger budgets' seeding
  seeded_on : seeded p c sown ≡ sown_all
  unfolding seeded
  seeded_on =
      let n : length (given p c) ≡ length first + length behind_first = ap length all_is ∙ length-append first behind_first in
      let x : 0 + length first ≡ length first = zero-add (length first) in
      let y : length first + length behind_first ≡ 0 + length (given p c) = omega arith in
      rw (x) (λ i. record { work = y i; evaluations = y i; natives = y i; donors = 0; families = 0; stack = []; out = sym all_is i })

  going_on : walk_from p c [] sown ≡ after_seeding p c [] sown_all
  unfolding walk_from
  going_on = ap (after_seeding p c []) seeded_on

  -- ---- the run of a walk whose seeding was whole

  abbrev left_b : ℕ
  left_b = b.max_work - sown.work

  abbrev end_b : Walked
  end_b = stopped (units p (limits_of b) left_b (begin p sown))

  reached : Reached p (limits_of b) (limits_of c) (larger_wider b c more) left_b (walk_in (begin p sown)).work (walk_in (begin p sown)).natives (begin p sown) end_b
  reached = reach p (limits_of b) (limits_of c) (larger_wider b c more) left_b (begin p sown) (begin_fine p sown refl)

  -- the larger budgets' run is the smaller's, taken up
  run_on : run p c (c.max_work - sown.work) (begin p sown) ≡ run p c (c.max_work - end_b.walk.work) (taken_up p (limits_of c) end_b.walk (waiting end_b.ending))
  unfolding run
  run_on =
      let r = reached in
      let few = r.few in
      let work = r.work in
      let from = (begun p sown refl).work in
      let m = more.work in
      let s = seeds_few p 0 p.families b.max_work b.max_evaluations in
      let n : c.max_work - sown.work ≡ r.done + (c.max_work - end_b.walk.work) = omega arith in
      ap (λ (k : ℕ). stopped (units p (limits_of c) k (begin p sown))) n
      ∙ ap stopped (units_add p (limits_of c) r.done (c.max_work - end_b.walk.work) (begin p sown) ∙ ap (units p (limits_of c) (c.max_work - end_b.walk.work)) r.there)

  end_natives : end_b.walk.natives ≡ sown.natives
  end_natives = reached.seeded ∙ (begun p sown refl).natives

  whole_is : sown.natives ≡ length p.families → after_seeding p b [] sown ≡ end_b
  unfolding after_seeding run
  whole_is q = rw (eq-eqb sown.natives (length p.families) q)

  -- with the seeding whole
  whole : sown.natives ≡ length p.families → continued p c end_b ≡ after_seeding p c [] sown_all
  whole q =
      on_whole p c (waiting end_b.ending) end_b.walk (end_natives ∙ q)
      ∙ sym run_on
      ∙ sym (on_whole p c [] sown q)
      ∙ going_on

  short_is : eqb sown.natives (length p.families) ≡ false → after_seeding p b [] sown ≡ short b sown
  unfolding after_seeding
  short_is q = rw q

  short_none : (w : Walk) → waiting (short b w).ending ≡ []
  short_none w = go (leb b.max_evaluations w.natives)
    where
      go : (t : Bool) → waiting (pick t on_evaluation on_work) ≡ []
      go true = refl
      go false = refl

  -- with the seeding stopped short
  cut : continued p c (short b sown) ≡ after_seeding p c [] sown_all
  cut = ap (λ (l : List Place). walk_from p c l sown) (short_none sown) ∙ going_on

  -- For the reader: THE LAW OF LARGER BUDGETS
  pub compose : continued p c (walk p b) ≡ walk p c
  compose = ap (continued p c) (seeded_walk p b) ∙ go (eqb sown.natives (length p.families)) refl ∙ sym (seeded_walk p c)
    where
      go : (t : Bool) → eqb sown.natives (length p.families) ≡ t → continued p c (after_seeding p b [] sown) ≡ after_seeding p c [] sown_all
      go true e = let q = eqb-true sown.natives (length p.families) e in ap (continued p c) (whole_is q) ∙ whole q
      go false e = ap (continued p c) (short_is e) ∙ cut

  -- what the smaller walk handed over stands first
  abbrev pub later : Walked
  later = walk_from p c (waiting (walk p b).ending) (bare (walk p b).walk)

  pub split : walk p c ≡ end_behind (walk p b).walk.out later
  split =
      sym compose
      ∙ ap (walk_from p c (waiting (walk p b).ending)) (sym (behind_bare (walk p b).walk))
      ∙ walk_behind p (walk p b).walk.out c (waiting (walk p b).ending) (bare (walk p b).walk)

  -- ---- an exhausted walk

  -- nothing is left of it
  record Done (r : Walked) : Type 0 where
    natives : r.walk.natives ≡ length p.families
    none : resumed p r.walk r.walk.stack ≡ ended exhausted r.walk

  done : (r : Walked) → r ≡ after_seeding p b [] sown → r.ending ≡ exhausted → Done r
  done r is e = go (eqb sown.natives (length p.families)) refl
    where
      go : (t : Bool) → eqb sown.natives (length p.families) ≡ t → Done r
      go true f =
          let q = eqb-true sown.natives (length p.families) f in
          let same = is ∙ whole_is q in
          rw same (record { natives = end_natives ∙ q; none = reached.whole (ap (λ (x : Walked). x.ending) (sym same) ∙ e) })
      go false f = absurd (short_not b sown (ap (λ (x : Walked). x.ending) (sym (is ∙ short_is f)) ∙ e))

  stays : (r : Walked) → r.ending ≡ exhausted → Done r → continued p c r ≡ r
  unfolding run
  stays r e d =
      on_whole p c (waiting r.ending) r.walk d.natives
      ∙ ap (λ (x : Ending). run p c (c.max_work - r.walk.work) (taken_up p (limits_of c) r.walk (waiting x))) e
      ∙ ap (run p c (c.max_work - r.walk.work)) d.none
      ∙ ap stopped (ended_stays p (limits_of c) (c.max_work - r.walk.work) exhausted r.walk)
      ∙ ap (λ (x : Ending). record { ending = x; walk = r.walk }) (sym e)

  pub exhausted_stays : (walk p b).ending ≡ exhausted → walk p c ≡ walk p b
  exhausted_stays e = sym compose ∙ stays (walk p b) e (done (walk p b) (seeded_walk p b) e)
