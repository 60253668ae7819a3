-- An assignment as words (01, "Legal assignments"): family, route count, then per route its segment count and per segment
-- source, start, end, reverse. A missing or left-over word or a reverse over 1 is malformed.
use Rattle.std.specs.Prelude.{ℕ, zero, suc, Bool, true, false, List, [], ◌∷◌, ◌++◌, length}
use Rattle.evaluate.specs.declared.Segment.{Segment}
use Rattle.evaluate.specs.Segments.{Route, Assignment}

-- a flag as a word
abbrev pub bit : Bool → ℕ
bit true = 1
bit false = 0

-- ---- to words

abbrev pub segment_words : Route → List ℕ
segment_words [] = []
segment_words (s ∷ r) = s.source ∷ s.start ∷ s.end ∷ bit s.reverse ∷ segment_words r

abbrev pub route_words : List Route → List ℕ
route_words [] = []
route_words (r ∷ rs) = length r ∷ (segment_words r ++ route_words rs)

unfoldable pub encode : Assignment → List ℕ
encode a = a.family ∷ length a.routes ∷ route_words a.routes

-- ---- from words: what the first words say with the words left, or they are malformed

pub data Read (X : Type 0) : Type 0 where
  malformed : Read X
  got : X → List ℕ → Read X

abbrev pub before : {X : Type 0} → X → Read (List X) → Read (List X)
before x malformed = malformed
before x (got l ws) = got (x ∷ l) ws

-- one segment, by its reverse word
abbrev pub turned : ℕ → (Bool → Segment) → Read Route → Read Route
turned zero s r = before (s false) r
turned (suc zero) s r = before (s true) r
turned (suc (suc n)) s r = malformed

-- n segments
unfoldable pub read_segments : ℕ → List ℕ → Read Route
read_segments zero ws = got [] ws
read_segments (suc n) [] = malformed
read_segments (suc n) (a ∷ []) = malformed
read_segments (suc n) (a ∷ b ∷ []) = malformed
read_segments (suc n) (a ∷ b ∷ c ∷ []) = malformed
read_segments (suc n) (a ∷ b ∷ c ∷ d ∷ ws) = turned d (λ r. record { source = a; start = b; end = c; reverse = r }) (read_segments n ws)

abbrev pub then_routes : Read Route → (List ℕ → Read (List Route)) → Read (List Route)
then_routes malformed f = malformed
then_routes (got r ws) f = before r (f ws)

-- n routes
unfoldable pub read_routes : ℕ → List ℕ → Read (List Route)
read_routes zero ws = got [] ws
read_routes (suc n) [] = malformed
read_routes (suc n) (k ∷ ws) = then_routes (read_segments k ws) (read_routes n)

abbrev pub of_family : ℕ → Read (List Route) → Read Assignment
of_family f malformed = malformed
of_family f (got rs ws) = got (record { family = f; routes = rs }) ws

unfoldable pub read_assignment : List ℕ → Read Assignment
read_assignment [] = malformed
read_assignment (f ∷ []) = malformed
read_assignment (f ∷ n ∷ ws) = of_family f (read_routes n ws)

-- a left-over word is malformed
abbrev pub all_of : {X : Type 0} → Read X → Read X
all_of malformed = malformed
all_of (got x []) = got x []
all_of (got x (w ∷ ws)) = malformed

unfoldable pub decode : List ℕ → Read Assignment
decode ws = all_of (read_assignment ws)
