-- Seeding, one native after the other.
use Prim.Native.Nat.{ℕ, zero, suc, ◌+◌, ◌-◌, ◌≤◌, ◌<◌}
use native.Mathlib.Nat.{add-zero}
use native.Mathlib.Numerals.{add-one}
use native.Mathlib.Omega.{arith}
use mathlib.Core.Path.{◌≡◌, refl, ap, ◌∙◌}
use mathlib.Core.List.{List, [], ◌∷◌}
use lib.ListN.{length, drop, get_or, drop_of_length-le}
use lib.Seq.{drop-cons}
use borrow.Author.Tests.{eq-eqb, ne_eqb, le-leb, lt-leb, lt-ltb, le-ltb}
use Rattle.image.specs.Panel.{Panel}
use Rattle.evaluate.specs.Segments.{Assignment, native_of}
use Rattle.search.specs.declared.SearchBudget.{SearchBudget}
use Rattle.search.specs.Run.{going, exhausted, on_work, on_evaluation, root, stacked, begin, run, seeds, seeded_with, seeded, short, after_seeding, walk_from}
use Rattle.search.proofs.Behind.{seeding_behind}
use Rattle.walks.specs.Inner.{handing, before, seed_walk}
use Rattle.walks.proofs.Steps.{run_ended}

-- ---- one native more

seeds_next : (p : Panel) (f x y : ℕ) (l : List ℕ) (ls : List (List ℕ)) (w e : ℕ) → w ≡ suc x → e ≡ suc y → seeds p f (l ∷ ls) w e ≡ native_of p f ∷ seeds p (suc f) ls x y
unfolding seeds
seeds_next p f x y l ls w e h g = rw (h, g)

seeded_after : (n : ℕ) (a : Assignment) (l : List Assignment) → seeded_with (seed_walk n) (a ∷ l) ≡ handing a (seeded_with (seed_walk (n + 1)) l)
seeded_after n a l =
    let e : n + suc (length l) ≡ n + 1 + length l = omega arith in
    λ i. record { work = e i; evaluations = e i; natives = e i; donors = 0; families = 0; stack = []; out = a ∷ l }

pub seed_one : (p : Panel) (b : SearchBudget) (n : ℕ) → n < length p.families → n < b.max_work → n < b.max_evaluations
    → walk_from p b [] (seed_walk n) ≡ before (native_of p n) (walk_from p b [] (seed_walk (n + 1)))
unfolding walk_from seeded
seed_one p b n f w e =
    let s : seeds p n (drop n p.families) (b.max_work - n) (b.max_evaluations - n)
    ≡ native_of p n ∷ seeds p (n + 1) (drop (n + 1) p.families) (b.max_work - (n + 1)) (b.max_evaluations - (n + 1)) =
    rw (drop-cons p.families n [] f, add-one)
    (seeds_next p n (b.max_work - suc n) (b.max_evaluations - suc n) (get_or p.families n []) (drop (suc n) p.families) (b.max_work - n) (b.max_evaluations - n) (omega arith) (omega arith)) in
    ap (λ (l : List Assignment). after_seeding p b [] (seeded_with (seed_walk n) l)) s
    ∙ ap (after_seeding p b []) (seeded_after n (native_of p n) (seeds p (n + 1) (drop (n + 1) p.families) (b.max_work - (n + 1)) (b.max_evaluations - (n + 1))))
    ∙ seeding_behind p (native_of p n ∷ []) b [] (seeded_with (seed_walk (n + 1)) (seeds p (n + 1) (drop (n + 1) p.families) (b.max_work - (n + 1)) (b.max_evaluations - (n + 1))))

-- ---- no native more

seeded_none : (n : ℕ) → seeded_with (seed_walk n) [] ≡ seed_walk n
seeded_none n = rw add-zero

seeds_done : (p : Panel) (f : ℕ) (ls : List (List ℕ)) (w e : ℕ) → ls ≡ [] → seeds p f ls w e ≡ []
unfolding seeds
seeds_done p f ls w e h = rw h

seeds_work : (p : Panel) (f : ℕ) (ls : List (List ℕ)) (w e : ℕ) → w ≡ 0 → seeds p f ls w e ≡ []
unfolding seeds
seeds_work p f [] w e h = refl
seeds_work p f (l ∷ ls) w e h = rw h

seeds_evaluation : (p : Panel) (f : ℕ) (ls : List (List ℕ)) (w e : ℕ) → e ≡ 0 → seeds p f ls w e ≡ []
unfolding seeds
seeds_evaluation p f [] w e h = refl
seeds_evaluation p f (l ∷ ls) zero e h = refl
seeds_evaluation p f (l ∷ ls) (suc w) e h = rw h

module _ (p : Panel) (b : SearchBudget) (n : ℕ) where
  none_more : seeds p n (drop n p.families) (b.max_work - n) (b.max_evaluations - n) ≡ [] → walk_from p b [] (seed_walk n) ≡ after_seeding p b [] (seed_walk n)
  unfolding walk_from seeded
  none_more h = rw (h, seeded_none n)

  stopped_short : (n ≡ length p.families → ⊥) → after_seeding p b [] (seed_walk n) ≡ short b (seed_walk n)
  unfolding after_seeding
  stopped_short h = rw (ne_eqb n (length p.families) h)

  -- natives at max_evaluations
  pub seed_evaluation : n < length p.families → b.max_evaluations ≤ n → walk_from p b [] (seed_walk n) ≡ record { ending = on_evaluation; walk = seed_walk n }
  seed_evaluation f h =
      let d : n ≡ length p.families → ⊥ = λ e. absurd (omega arith) in
      none_more (seeds_evaluation p n (drop n p.families) (b.max_work - n) (b.max_evaluations - n) (omega arith)) ∙ stopped_short d ∙ rw (le-leb b.max_evaluations n h)

  -- work at max_work
  pub seed_work : n < length p.families → n < b.max_evaluations → b.max_work ≤ n → walk_from p b [] (seed_walk n) ≡ record { ending = on_work; walk = seed_walk n }
  seed_work f g h =
      let d : n ≡ length p.families → ⊥ = λ e. absurd (omega arith) in
      none_more (seeds_work p n (drop n p.families) (b.max_work - n) (b.max_evaluations - n) (omega arith)) ∙ stopped_short d ∙ rw (lt-leb b.max_evaluations n g)

  all_seeded : n ≡ length p.families → walk_from p b [] (seed_walk n) ≡ run p b (b.max_work - n) (begin p (seed_walk n))
  unfolding after_seeding
  all_seeded h =
      none_more (seeds_done p n (drop n p.families) (b.max_work - n) (b.max_evaluations - n) (drop_of_length-le p.families {i = n} (omega arith))) ∙ rw (eq-eqb n (length p.families) h)

  -- no family
  pub seed_none : n ≡ length p.families → n ≡ 0 → walk_from p b [] (seed_walk n) ≡ record { ending = exhausted; walk = seed_walk n }
  seed_none h z =
      let e : length p.families ≤ 0 = omega arith in
      all_seeded h ∙ rw (le-ltb 0 (length p.families) e) (run_ended p b (b.max_work - n) exhausted (seed_walk n))

  -- the first family is begun
  pub seed_all : n ≡ length p.families → 0 < n → walk_from p b [] (seed_walk n) ≡ run p b (b.max_work - n) (going (stacked (seed_walk n) (root p 0 ∷ [])))
  seed_all h z =
      let e : 0 < length p.families = omega arith in
      all_seeded h ∙ rw (lt-ltb 0 (length p.families) e)
