-- The steps go through a place's tasks.
use Prim.Native.Nat.{ℕ, zero, suc, ◌≤◌}
use native.Mathlib.Omega.{arith}
use mathlib.Core.Path.{◌≡◌, refl, sym, ◌∙◌, ap}
use mathlib.Core.Bool.{Bool, true, false}
use mathlib.Core.List.{List, [], ◌∷◌, ◌++◌, map, append_assoc}
use lib.Dec.{ltb}
use lib.ListN.{drop}
use lib.Seq.{slice}
use borrow.Author.Tests.{ltb-false}
use Rattle.ground.specs.Lists.{pick}
use Rattle.storage.specs.declared.Port.{Port}
use Rattle.storage.specs.Records.{same_turn}
use Rattle.image.specs.Panel.{Panel}
use Rattle.graph.specs.Lookups.{bucket_lo, bucket_hi}
use Rattle.search.specs.Walk.{pass, down, give, Place, Doing, first_port, terminal_task, member_task}
use Rattle.enumeration.proofs.Sim.{hub_tasks, port_tasks, over, ports_left, tasks_of}
use Rattle.plain.specs.Steps.{Marks, gives, task_marks, hub_marks, port_marks, ports_ahead, place_marks}
use Rattle.plain.proofs.Height.{marks_through, marks}

module _ (p : Panel) (paths : List ℕ) where
  abbrev through : (Place → Marks) → List Doing → Marks
  through g ts = marks_through (tasks_of p paths) g ts

  through_append : (g : Place → Marks) (l m : List Doing) → through g (l ++ m) ≡ through g l ++ through g m
  through_append g [] m = refl
  through_append g (pass ∷ l) m = through_append g l m
  through_append g (down a ∷ l) m = ap (λ r. g a ++ r) (through_append g l m) ∙ sym (append_assoc (g a) (through g l) (through g m))
  through_append g (give x ∷ l) m = ap (λ r. gives x ∷ r) (through_append g l m)

  task_is : (g : Place → Marks) (t : Doing) (l : List Doing) → through g (t ∷ l) ≡ task_marks g t ++ through g l
  task_is g pass l = refl
  task_is g (down a) l = refl
  task_is g (give x) l = refl

  hub_is : (g : Place → Marks) (a : Place) (out : Port) (qs : List Port) → through g (map (member_task p a out) qs ++ (pass ∷ [])) ≡ hub_marks p g a out qs
  unfolding hub_marks
  hub_is g a out [] = refl
  hub_is g a out (q ∷ qs) = task_is g (member_task p a out q) (map (member_task p a out) qs ++ (pass ∷ [])) ∙ ap (λ r. task_marks g (member_task p a out q) ++ r) (hub_is g a out qs)

  pub hub-tasks : (g : Place → Marks) (a : Place) (out : Port) (lo hi : ℕ) → through g (hub_tasks p a out lo hi) ≡ hub_marks p g a out (slice lo hi p.hub)
  unfolding hub_marks
  hub-tasks g a out lo hi = go (ltb 0 hi) refl
    where
      go : (b : Bool) → ltb 0 hi ≡ b → through g (pick b (map (member_task p a out) (slice lo hi p.hub) ++ (pass ∷ [])) []) ≡ hub_marks p g a out (slice lo hi p.hub)
      go true e = hub_is g a out (slice lo hi p.hub)
      go false e =
          let l : hi ≤ 0 = ltb-false 0 hi e in
          let z : hi ≡ 0 = omega arith in
          rw (z, drop_none lo) refl
        where
          drop_none : (n : ℕ) → drop {A = Port} n [] ≡ []
          drop_none zero = refl
          drop_none (suc n) = refl

  port_is : (g : Place → Marks) (a : Place) (q : Port) → through g (port_tasks p a q) ≡ pick (same_turn q.reverse a.reverse) (hub_marks p g a q (slice (bucket_lo p q.word) (bucket_hi p q.word) p.hub)) []
  port_is g a q = go (same_turn q.reverse a.reverse)
    where
      go : (b : Bool) → through g (pick b (hub_tasks p a q (bucket_lo p q.word) (bucket_hi p q.word)) []) ≡ pick b (hub_marks p g a q (slice (bucket_lo p q.word) (bucket_hi p q.word) p.hub)) []
      go true = hub-tasks g a q (bucket_lo p q.word) (bucket_hi p q.word)
      go false = refl

  over_is : (g : Place → Marks) (a : Place) (qs : List Port) → through g (over p a qs) ≡ port_marks p g a qs
  unfolding port_marks
  over_is g a [] = refl
  over_is g a (q ∷ qs) = through_append g (port_tasks p a q) (over p a qs) ∙ rw (port_is g a q, over_is g a qs) refl

  ahead : (a : Place) (r : Bool) → ports_left p a r (first_port p a r) ≡ ports_ahead p a r
  ahead a false = refl
  ahead a true = refl

  pub place_is : (d : ℕ) (a : Place) → place_marks p paths d a ≡ marks (tasks_of p paths) d a
  unfolding place_marks tasks_of
  place_is zero a = refl
  place_is (suc d) a =
      let g = marks (tasks_of p paths) d in
      let e : place_marks p paths d ≡ g = λ i b. place_is d b i in
      let t = terminal_task p paths a in
      ap (λ (h : Place → Marks). task_marks h t ++ port_marks p h a (ports_ahead p a a.reverse)) e
      ∙ ap (λ l. task_marks g t ++ port_marks p g a l) (sym (ahead a a.reverse))
      ∙ ap (λ l. task_marks g t ++ l) (sym (over_is g a (ports_left p a a.reverse (first_port p a a.reverse))))
      ∙ sym (task_is g t (over p a (ports_left p a a.reverse (first_port p a a.reverse))))
