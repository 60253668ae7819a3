-- What the name table's inner functions promise each other; nothing here is part of a public promise.
use Rattle.std.specs.Prelude.{Option, Some, None, ℕ, zero, suc, ◌+◌, ◌-◌, ◌*◌, ◌%◌, ◌≤◌, ◌<◌, min, ◌≡◌, Bool, true, false, List, [], ◌∷◌, eqb, length, take, drop, get_or}
use Rattle.ground.specs.Lists.{pick, distinct}
use Rattle.names.specs.Names.{same, cut, table_ok}

-- the bytes before the first byte b
unfoldable pub up_to : ℕ → List ℕ → List ℕ
up_to b [] = []
up_to b (x ∷ s) = pick (eqb x b) [] (x ∷ up_to b s)

-- the first byte b from a place on, or the end
pub record Placed (s : List ℕ) (at b r : ℕ) : Type 0 where
  pub is : r ≡ at + length (up_to b (drop at s))
  pub inside : r ≤ length s

-- part number j stands between two places
pub record Span (s starts ends : List ℕ) (j : ℕ) (p : List ℕ) : Type 0 where
  pub order : get_or starts j 0 ≤ get_or ends j 0
  pub inside : get_or ends j 0 ≤ length s
  pub is : take (get_or ends j 0 - get_or starts j 0) (drop (get_or starts j 0) s) ≡ p

-- and so the first n of these parts
abbrev pub Spans : List ℕ → List (List ℕ) → List ℕ → List ℕ → ℕ → Type 0
Spans s ps starts ends n = (j : ℕ) → j < n → Span s starts ends j (get_or ps j [])

-- a text cut into parts, as far as there is room for their places
pub record Cuts (s : List ℕ) (b room : ℕ) (starts ends : List ℕ) (r : ℕ) : Type 0 where
  pub count : r ≡ min (length (cut b s)) room
  pub spans : Spans s (cut b s) starts ends r

-- ---- names by chains

unfoldable pub hash_from : ℕ → List ℕ → ℕ
hash_from h [] = h
hash_from h (x ∷ s) = hash_from ((h * 131 + x) % 1048573) s

abbrev pub hash_of : List ℕ → ℕ
hash_of s = hash_from 0 s % 4096

-- one more than the number of the last of the first n names in chain c, or 0
unfoldable pub last_of : List (List ℕ) → ℕ → ℕ → ℕ
last_of ns c zero = 0
last_of ns c (suc n) = pick (eqb (hash_of (get_or ns n [])) c) (suc n) (last_of ns c n)

-- each chain's last name, and for each name the one before it in its chain
pub record Chained (ns : List (List ℕ)) (heads links : List ℕ) (n : ℕ) : Type 0 where
  pub chains : length heads ≡ 4096
  pub names : length links ≡ 4096
  pub last : (c : ℕ) → c < 4096 → get_or heads c 0 ≡ last_of ns c n
  pub before : (j : ℕ) → j < n → get_or links j 0 ≡ last_of ns (hash_of (get_or ns j [])) j

-- the number of a name among the first n, or n
pub record Found (ns : List (List ℕ)) (n : ℕ) (key : List ℕ) (r : ℕ) : Type 0 where
  pub few : r ≤ n
  pub here : r < n → same (get_or ns r []) key ≡ true
  pub absent : r ≡ n → (j : ℕ) → j < n → same (get_or ns j []) key ≡ false

-- the same of an answer that is None where none of them is the key
abbrev pub Finds : List (List ℕ) → ℕ → List ℕ → Option ℕ → Type 0
Finds ns n key None = Found ns n key n
Finds ns n key (Some r) = (r < n) × Found ns n key r

-- the first n names of a table, with their places and chains
pub record Indexed (s starts ends heads links : List ℕ) (n : ℕ) : Type 0 where
  pub few : n ≤ 4096
  pub spans : Spans s (cut 10 s) starts ends n
  pub chained : Chained (cut 10 s) heads links n

-- a table that has been read and is good
pub record Table (names starts ends heads links : List ℕ) (lanes : ℕ) : Type 0 where
  pub index : Indexed names starts ends heads links lanes
  pub good : table_ok lanes names ≡ true

-- a name stood before already
pub record Twice (ns : List (List ℕ)) (i : ℕ) : Type 0 where
  pub earlier : ℕ
  pub below : earlier < i
  pub is : same (get_or ns earlier []) (get_or ns i []) ≡ true

-- whether it did not
pub record Fresh (ns : List (List ℕ)) (i : ℕ) (r : Bool) : Type 0 where
  pub new : r ≡ true → (j : ℕ) → j < i → same (get_or ns j []) (get_or ns i []) ≡ false
  pub old : r ≡ false → Twice ns i

-- the first n names have been chained, if no two are one
pub record Linked (ns : List (List ℕ)) (heads links : List ℕ) (n : ℕ) (r : Bool) : Type 0 where
  pub told : r ≡ distinct same (take n ns)
  pub chained : r ≡ true → Chained ns heads links n
