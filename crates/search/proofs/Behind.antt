-- What a walk handed over before stands first in what it hands over in the end, and changes nothing else.
use Prim.Native.Nat.{ℕ, zero, suc, ◌+◌, ◌-◌}
use mathlib.Core.Path.{◌≡◌, refl, ◌∙◌, ap}
use mathlib.Core.Bool.{Bool, true, false}
use mathlib.Core.List.{List, [], ◌∷◌, ◌++◌, append_assoc, append-nil}
use lib.Dec.{ltb, eqb}
use lib.ListN.{length, drop}
use Rattle.ground.specs.Lists.{pick}
use Rattle.image.specs.Panel.{Panel, paths_at}
use Rattle.evaluate.specs.Segments.{Assignment}
use Rattle.search.specs.declared.SearchBudget.{SearchBudget}
use Rattle.search.specs.Walk.{pass, down, give, Place, Frame, Act, leave, doing, unit_of, takes_member}
use Rattle.search.specs.Run.{Walk, Walked, on_evaluation, Phase, going, ended, Limits, limits_of, begin, spend, done_with, after_act, on_top, unit, units, stopped, run, seeds, seeded_with, seeded, short, resumed, taken_up, after_seeding, walk_from}

-- the same walk, with these handed over before
abbrev pub behind : List Assignment → Walk → Walk
behind l w =
    record { work = w.work; evaluations = w.evaluations; natives = w.natives; donors = w.donors; families = w.families; stack = w.stack; out = l ++ w.out }

abbrev pub phase_behind : List Assignment → Phase → Phase
phase_behind l (going w) = going (behind l w)
phase_behind l (ended e w) = ended e (behind l w)

abbrev pub end_behind : List Assignment → Walked → Walked
end_behind l r = record { ending = r.ending; walk = behind l r.walk }

-- the same walk with nothing handed over yet
abbrev pub bare : Walk → Walk
bare w = record { work = w.work; evaluations = w.evaluations; natives = w.natives; donors = w.donors; families = w.families; stack = w.stack; out = [] }

pub behind_bare : (w : Walk) → behind w.out (bare w) ≡ w
behind_bare w = λ i. record { work = w.work; evaluations = w.evaluations; natives = w.natives; donors = w.donors; families = w.families; stack = w.stack; out = append-nil w.out i }

pick_behind : (l : List Assignment) (t : Bool) (a c : Phase) → pick t (phase_behind l a) (phase_behind l c) ≡ phase_behind l (pick t a c)
pick_behind l true a c = refl
pick_behind l false a c = refl

module _ (p : Panel) (l : List Assignment) where
  begin_behind : (w : Walk) → begin p (behind l w) ≡ phase_behind l (begin p w)
  begin_behind w = pick_behind l (ltb w.families (length p.families)) _ _

  resumed_behind : (w : Walk) (st : List Frame) → resumed p (behind l w) st ≡ phase_behind l (resumed p w st)
  resumed_behind w [] = begin_behind w
  resumed_behind w (f ∷ st) = refl

  module _ (lim : Limits) where
    act_behind : (w : Walk) (d : ℕ) (rest : List Frame) (t : Act) → after_act p lim (behind l w) d rest t ≡ phase_behind l (after_act p lim w d rest t)
    act_behind w d [] leave = begin_behind (done_with (spend w d []))
    act_behind w d (g ∷ rest) leave = refl
    act_behind w d rest (doing pass g) = refl
    act_behind w d rest (doing (down a) g) = pick_behind l (lim.full (suc (length rest))) _ _
    act_behind w d rest (doing (give rs) g) = ap (λ (o : List Assignment). going (record { work = suc w.work; evaluations = suc w.evaluations; natives = w.natives; donors = w.donors + d; families = w.families; stack = g ∷ rest; out = o })) (append_assoc l w.out (record { family = w.families; routes = rs } ∷ []))

    top_behind : (w : Walk) (st : List Frame) → on_top p lim (behind l w) st ≡ phase_behind l (on_top p lim w st)
    top_behind w [] = begin_behind w
    top_behind w (f ∷ rest) = act_behind w (pick (takes_member f) 1 0) rest (unit_of p (paths_at p w.families) f)

    unit_behind : (w : Walk) → unit p lim (behind l w) ≡ phase_behind l (unit p lim w)
    unit_behind w = ap (pick (lim.enough w.evaluations) (ended on_evaluation (behind l w))) (top_behind w w.stack) ∙ pick_behind l (lim.enough w.evaluations) (ended on_evaluation w) (on_top p lim w w.stack)

    units_behind : (n : ℕ) (s : Phase) → units p lim n (phase_behind l s) ≡ phase_behind l (units p lim n s)
    unfolding units
    units_behind zero s = refl
    units_behind (suc n) (ended e w) = refl
    units_behind (suc n) (going w) = ap (units p lim n) (unit_behind w) ∙ units_behind n (unit p lim w)

    taken_behind : (w : Walk) (c : List Place) → taken_up p lim (behind l w) c ≡ phase_behind l (taken_up p lim w c)
    taken_behind w [] = resumed_behind w w.stack
    taken_behind w (a ∷ c) = pick_behind l (lim.full (length w.stack)) _ _

  stopped_behind : (s : Phase) → stopped (phase_behind l s) ≡ end_behind l (stopped s)
  stopped_behind (going w) = refl
  stopped_behind (ended e w) = refl

  pick_ends : (t : Bool) (a c : Walked) → pick t (end_behind l a) (end_behind l c) ≡ end_behind l (pick t a c)
  pick_ends true a c = refl
  pick_ends false a c = refl

  module _ (b : SearchBudget) where
    pub run_behind : (n : ℕ) (s : Phase) → run p b n (phase_behind l s) ≡ end_behind l (run p b n s)
    unfolding run
    run_behind n s = ap stopped (units_behind (limits_of b) n s) ∙ stopped_behind (units p (limits_of b) n s)

    pub seeding_behind : (c : List Place) (w : Walk) → after_seeding p b c (behind l w) ≡ end_behind l (after_seeding p b c w)
    unfolding after_seeding
    seeding_behind c w =
        ap (λ (r : Walked). pick (eqb w.natives (length p.families)) r (short b (behind l w)))
        (ap (run p b (b.max_work - w.work)) (taken_behind (limits_of b) w c) ∙ run_behind (b.max_work - w.work) (taken_up p (limits_of b) w c))
        ∙ pick_ends (eqb w.natives (length p.families)) (run p b (b.max_work - w.work) (taken_up p (limits_of b) w c)) (short b w)

    seeded_behind : (w : Walk) → seeded p b (behind l w) ≡ behind l (seeded p b w)
    unfolding seeded
    seeded_behind w = go (seeds p w.natives (drop w.natives p.families) (b.max_work - w.work) (b.max_evaluations - w.natives))
      where
        go : (o : List Assignment) → seeded_with (behind l w) o ≡ behind l (seeded_with w o)
        go o = λ i. record { work = w.work + length o; evaluations = w.evaluations + length o; natives = w.natives + length o; donors = w.donors; families = w.families; stack = w.stack; out = append_assoc l w.out o i }

    pub walk_behind : (c : List Place) (w : Walk) → walk_from p b c (behind l w) ≡ end_behind l (walk_from p b c w)
    unfolding walk_from
    walk_behind c w = ap (after_seeding p b c) (seeded_behind w) ∙ seeding_behind c (seeded p b w)
