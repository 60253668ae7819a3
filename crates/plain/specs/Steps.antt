-- The plain engine (02, item 10): the step at a place calls the step through a hub, which calls the step at the next place, with the depth left
-- going down.
use Rattle.std.specs.Prelude.{ℕ, zero, suc, ◌-◌, Bool, true, false, List, [], ◌∷◌, ◌++◌, map, reverse, length, take, drop, get_or}
use Rattle.std.proofs.Math.Seq.{slice}
use Rattle.ground.specs.Lists.{pick}
use Rattle.storage.specs.declared.Port.{Port}
use Rattle.storage.specs.Records.{same_turn}
use Rattle.image.specs.Panel.{Panel, panel_of, paths_at}
use Rattle.graph.specs.Lookups.{bucket_lo, bucket_hi}
use Rattle.graph.specs.Check.{panel_refusal}
use Rattle.evaluate.specs.declared.Refusal.{Refusal}
use Rattle.evaluate.specs.Refusals.{no_refusal, at}
use Rattle.evaluate.specs.Segments.{Route, Assignment}
use Rattle.search.specs.Walk.{Place, Doing, pass, down, give, begins, ports_here, first_port, terminal_task, member_task}

-- "with the depth left going down", from 64
abbrev pub depth : ℕ
depth = 64

-- what a step tells: one to be listed, or that a place lay deeper than the depth left
pub data Mark (X : Type 0) : Type 0 where
  gives : X → Mark X
  too_deep : Mark X

abbrev pub Marks : Type 0
Marks = List (Mark (List Route))

-- ---- the steps; g is the step at the next place

abbrev pub task_marks : (Place → Marks) → Doing → Marks
task_marks g pass = []
task_marks g (down a) = g a
task_marks g (give rs) = gives rs ∷ []

-- the step through a hub: its members, one after the other
unfoldable pub hub_marks : Panel → (Place → Marks) → Place → Port → List Port → Marks
hub_marks p g a out [] = []
hub_marks p g a out (q ∷ qs) = task_marks g (member_task p a out q) ++ hub_marks p g a out qs

-- the ports "rising when forward, falling when reverse, from the first whose cut by the frame's orientation lies past the frame's cut"
abbrev pub ports_ahead : Panel → Place → Bool → List Port
ports_ahead p a false = drop (first_port p a false - 1) (ports_here p a)
ports_ahead p a true = reverse (take (first_port p a true) (ports_here p a))

-- port by port: "one of the other orientation is passed over, else its bucket opens"
unfoldable pub port_marks : Panel → (Place → Marks) → Place → List Port → Marks
port_marks p g a [] = []
port_marks p g a (q ∷ qs) =
    pick (same_turn q.reverse a.reverse) (hub_marks p g a q (slice (bucket_lo p q.word) (bucket_hi p q.word) p.hub)) []
    ++ port_marks p g a qs

-- the step at a place: its terminal, then its ports
unfoldable pub place_marks : Panel → List ℕ → ℕ → Place → Marks
place_marks p paths zero a = too_deep ∷ []
place_marks p paths (suc d) a = task_marks (place_marks p paths d) (terminal_task p paths a) ++ port_marks p (place_marks p paths d) a (ports_ahead p a a.reverse)

-- ---- family by family

abbrev pub of_family : ℕ → Mark (List Route) → Mark Assignment
of_family f (gives rs) = gives (record { family = f; routes = rs })
of_family f too_deep = too_deep

unfoldable pub family_marks : Panel → ℕ → List (Mark Assignment)
family_marks p f = map (of_family f) (place_marks p (paths_at p f) depth (begins 0 (get_or (paths_at p f) 0 0) []))

-- n families from f on
unfoldable pub marks_from : Panel → ℕ → ℕ → List (Mark Assignment)
marks_from p zero f = []
marks_from p (suc n) f = family_marks p f ++ marks_from p n (suc f)

unfoldable pub plain_marks : Panel → List (Mark Assignment)
plain_marks p = marks_from p (length p.families) 0

-- what it lists
unfoldable pub listed : {X : Type 0} → List (Mark X) → List X
listed [] = []
listed (gives x ∷ l) = x ∷ listed l
listed (too_deep ∷ l) = listed l

abbrev pub plain_list : Panel → List Assignment
plain_list p = listed (plain_marks p)

-- whether a place lay too deep
unfoldable pub goes_too_deep : {X : Type 0} → List (Mark X) → Bool
goes_too_deep [] = false
goes_too_deep (gives x ∷ l) = goes_too_deep l
goes_too_deep (too_deep ∷ l) = true

-- "Refusals: 1 to 8, then 42"
unfoldable pub plain_refusal : List ℕ → Refusal
plain_refusal s = at (panel_refusal s) 0 (at (pick (goes_too_deep (plain_marks (panel_of s))) 42 0) 0 no_refusal)
