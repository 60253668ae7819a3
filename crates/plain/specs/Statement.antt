-- What the plain engine is to the walk, and to legality (02, item 10). Each is a type; its proof stands elsewhere.
use Rattle.std.specs.Prelude.{ℕ, ◌≤◌, ◌<◌, ◌≡◌, ◌↔◌}
use mathlib.Core.List.{List, ◌++◌, Memᴰ}
use Rattle.image.specs.Panel.{Panel, panel_of}
use Rattle.graph.specs.Check.{panel_refusal}
use Rattle.evaluate.specs.Properties.{Pairs}
use Rattle.evaluate.specs.Segments.{Assignment}
use Rattle.evaluate.specs.Legal.{Legal}
use Rattle.search.specs.Run.{Unbudgeted, natives_of, outset, deepest}
use Rattle.plain.specs.Steps.{depth, plain_list, plain_refusal}

-- the unbudgeted walk's deepest stack
abbrev pub deepest_of : (p : Panel) → Unbudgeted p → ℕ
deepest_of p u = deepest p u.steps (outset p)

-- "Where the unbudgeted walk's deepest stack is at most 64, its list is proved equal to what the walk hands over after seeding, in that order."
abbrev pub ListsTheWalk : Type 0
ListsTheWalk =
    (s : List ℕ) → panel_refusal s ≡ 0 → (u : Unbudgeted (panel_of s)) → deepest_of (panel_of s) u ≤ depth
    → u.final.out ≡ natives_of (panel_of s) ++ plain_list (panel_of s)

-- "then 42 exactly when that depth is over 64"
abbrev pub RefusesTheDeep : Type 0
RefusesTheDeep =
    (s : List ℕ) → panel_refusal s ≡ 0 → (u : Unbudgeted (panel_of s)) → ((plain_refusal s).number ≡ 42) ↔ (depth < deepest_of (panel_of s) u)

-- "all legal assignments", each once
pub record EachLegalOnce (p : Panel) (l : List Assignment) : Type 0 where
  pub legal : (a : Assignment) → Memᴰ a l ↔ Legal p a
  pub once : Pairs (λ a c. a ≡ c → ⊥) l

-- So its list has each legal assignment exactly once, as the walk has after its natives (demand 3).
abbrev pub ListsEachLegalOnce : Type 0
ListsEachLegalOnce =
    (s : List ℕ) → panel_refusal s ≡ 0 → (u : Unbudgeted (panel_of s)) → deepest_of (panel_of s) u ≤ depth → EachLegalOnce (panel_of s) (plain_list (panel_of s))
