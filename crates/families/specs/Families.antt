-- Refusal 5 of a panel image.
use Rattle.std.specs.Prelude.{ℕ, Bool, ◌&&◌, List, ltb, eqb}
use Rattle.ground.specs.Lists.{sum, all, distinct}
use Rattle.image.specs.declared.Header.{Header}
use Rattle.ground.specs.Lists.{within}
use Rattle.image.specs.Image.{path_counts, paths, families}

unfoldable pub count_ok : ℕ → Bool
count_ok n = within 1 64 n

unfoldable pub names : Header → ℕ → Bool
names h lane = ltb lane h.lanes

unfoldable pub no_twice : List ℕ → Bool
no_twice l = distinct eqb l

-- path counts in bounds, summing to T
unfoldable pub sound5a : Header → List ℕ → Bool
sound5a h s = all count_ok (path_counts h s) && eqb (sum (path_counts h s)) h.paths

-- each path names a lane, no family names one twice
unfoldable pub sound5b : Header → List ℕ → Bool
sound5b h s = all (names h) (paths h s) && all no_twice (families h s)

unfoldable pub sound5 : Header → List ℕ → Bool
sound5 h s = sound5a h s && sound5b h s
