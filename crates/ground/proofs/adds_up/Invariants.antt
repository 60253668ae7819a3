use Rattle.std.proofs.Common.{◌≡◌, ℕ, ◌<◌, List, length, get_or}
use Rattle.ground.proofs.ListLaws.{SumsFrom}
use Rattle.ground.proofs.adds_up.Given as goal

abbrev pub invariant-loop-i : goal.invariant-loop-i
invariant-loop-i g l = (ns : List ℕ) → length ns ≡ l.n → ((i x : ℕ) → i < l.n → goal.F-post g l.number i x → x ≡ get_or ns i 0) → SumsFrom ns l.total l.n l.left l.i
