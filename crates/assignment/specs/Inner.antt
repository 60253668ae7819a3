-- What the check's inner functions promise each other.
use Rattle.std.specs.Prelude.{ℕ, ◌≡◌, List, length}
use Rattle.image.specs.Panel.{Panel, paths_at}
use Rattle.evaluate.specs.declared.Refusal.{Refusal}
use Rattle.evaluate.specs.declared.AssignmentReply.{AssignmentReply}
use Rattle.evaluate.specs.Refusals.{no_refusal, at}
use Rattle.evaluate.specs.Segments.{Assignment}
use Rattle.evaluate.specs.Check.{routes_refusal, overlap_refusal, and_after, written_by, over}

-- 25 to 31
unfoldable pub family_refusal : Panel → Assignment → Refusal
family_refusal p a = and_after (routes_refusal p 0 (paths_at p a.family) a.routes) (at (overlap_refusal a) 0 no_refusal)

-- the answer that goes with a refusal, and what it leaves of out
pub record Replied (refusal : Refusal) (ws xs ys : List ℕ) (r : AssignmentReply) : Type 0 where
  pub answer : r ≡ record { refusal = refusal.number; place = refusal.place; words = length (written_by refusal ws) }
  pub room : ys ≡ over (written_by refusal ws) xs
