-- One evaluation of a search, and its end: what is left gives the whole.
use Prim.Native.Nat.{ℕ, ◌+◌, ◌≤◌, ◌<◌, max}
use native.Mathlib.Nat.{add-zero}
use native.Mathlib.Numerals.{add-one}
use native.Mathlib.Omega.{arith}
use mathlib.Core.Path.{◌≡◌, refl}
use mathlib.Core.Bool.{Bool, true, false}
use mathlib.Core.List.{List, ◌∷◌}
use lib.ListN.{length, drop, get_or, drop_of_length-le}
use lib.Seq.{drop-cons}
use lib.Ieee.{Float, nan}
use lib.Ieee.Scale.{finite}
use Rattle.ground.specs.Lists.{one_more_if, count}
use Rattle.image.specs.Panel.{Panel}
use Rattle.evaluate.specs.Refusals.{no_refusal}
use Rattle.evaluate.specs.Segments.{Assignment}
use Rattle.search.specs.declared.SearchBudget.{SearchBudget}
use Rattle.search.specs.declared.Tally.{Tally}
use Rattle.search.specs.Walk.{Frame}
use Rattle.search.specs.Run.{Walked, Ending, walk}
use Rattle.search.specs.Counters.{switches_of, has_switch, mixes_lanes, mixes_identities, most_switches, tally_of}
use Rattle.search.specs.Keep.{Kept, nothing, Evaluated, keep_all, evaluated, scores_refusal}
use Rattle.search.specs.Search.{searched_as, kept_of, walked, search_from, search, evaluation_refusal, fresh}
use Rattle.walks.specs.Inner.{walk_of, before}
use Rattle.searching.specs.declared.Counted.{Counted}
use Rattle.searching.specs.Inner.{none_counted, counted_with, tallied, state_with, outcome_of, refusal_of, scored_by, kept_with}

-- ---- one evaluation

add_after : (t : Bool) (n m : ℕ) → n + one_more_if t m ≡ one_more_if t n + m
add_after true n m = omega arith
add_after false n m = refl

counted_one : {A : Type 0} (f : A → Bool) (n : ℕ) (a : A) (l : List A) → n + count f (a ∷ l) ≡ one_more_if (f a) n + count f l
unfolding count
counted_one f n a l = add_after (f a) n (count f l)

most_one : (n : ℕ) (a : Assignment) (l : List Assignment) → max n (most_switches (a ∷ l)) ≡ max (max n (switches_of a)) (most_switches l)
unfolding most_switches
most_one n a l = omega arith

module _ (p : Panel) (b : SearchBudget) (xs : List Float) (c : Counted) (k : Kept Evaluated) (a : Assignment) (r : Walked) (h : c.evaluations < length xs) where
  to-come : drop c.evaluations xs ≡ get_or xs c.evaluations nan ∷ drop (c.evaluations + 1) xs
  to-come = rw add-one (drop-cons xs c.evaluations nan h)

  kept_one : kept_of b xs (state_with c k) (before a r).walk ≡ kept_of b xs (state_with (counted_with p c a) (kept_with b k (scored_by xs c.evaluations a))) r.walk
  unfolding kept_of keep_all evaluated
  kept_one = rw to-come

  tally_one : tally_of p (state_with c k).tally (before a r).walk ≡ tally_of p (state_with (counted_with p c a) (kept_with b k (scored_by xs c.evaluations a))).tally r.walk
  unfolding tally_of
  tally_one =
      rw (
        counted_one has_switch c.non_native a r.walk.out,
        counted_one mixes_lanes c.mixed a r.walk.out,
        counted_one (mixes_identities p) c.mixed_identity a r.walk.out,
        most_one c.switches a r.walk.out,
      )

  pub outcome_one : outcome_of p b xs c k (before a r) ≡ outcome_of p b xs (counted_with p c a) (kept_with b k (scored_by xs c.evaluations a)) r
  unfolding outcome_of searched_as
  outcome_one = λ i. record { ending = r.ending; state = record { tally = tally_one i; stack = r.walk.stack; kept = kept_one i } }

  pub refusal_one : finite (get_or xs c.evaluations nan) ≡ true → refusal_of xs c.evaluations (before a r) ≡ refusal_of xs (c.evaluations + 1) r
  unfolding refusal_of scores_refusal
  refusal_one f = rw (to-come, f, add-one)

  pub refusal_unfit : finite (get_or xs c.evaluations nan) ≡ false → refusal_of xs c.evaluations (before a r) ≡ record { number = 15; place = c.evaluations + 1 }
  unfolding refusal_of scores_refusal
  refusal_unfit f = rw (to-come, f, add-one)

pub refusal_none : (xs : List Float) (n : ℕ) (a : Assignment) (r : Walked) → length xs ≤ n → refusal_of xs n (before a r) ≡ record { number = 14; place = n + 1 }
unfolding refusal_of scores_refusal
refusal_none xs n a r h = rw (drop_of_length-le xs {i = n} h, add-one)

-- ---- the end

module _ (p : Panel) (b : SearchBudget) (xs : List Float) (c : Counted) (k : Kept Evaluated) (e : Ending) (t : Tally) (stack : List Frame) where
  pub outcome_end : outcome_of p b xs c k (record { ending = e; walk = walk_of t stack }) ≡ record { ending = e; state = record { tally = tallied t c; stack = stack; kept = k } }
  unfolding outcome_of searched_as tally_of kept_of keep_all evaluated count most_switches
  outcome_end =
      let m : max c.switches 0 ≡ c.switches = omega arith in
      rw (add-zero c.non_native, add-zero c.mixed, add-zero c.mixed_identity, m)

  pub refusal_end : refusal_of xs c.evaluations (record { ending = e; walk = walk_of t stack }) ≡ no_refusal
  unfolding refusal_of scores_refusal
  refusal_end = refl

-- ---- the start

pub outcome_start : (p : Panel) (b : SearchBudget) (xs : List Float) → outcome_of p b xs none_counted nothing (walk p b) ≡ search p b xs
unfolding outcome_of search search_from walked walk
outcome_start p b xs = refl

pub refusal_start : (p : Panel) (b : SearchBudget) (xs : List Float) → refusal_of xs 0 (walk p b) ≡ evaluation_refusal p b xs fresh
unfolding refusal_of evaluation_refusal walked walk
refusal_start p b xs = refl
