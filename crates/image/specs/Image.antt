-- The lists that an image holds, by its header (01, "Panel image").
use Rattle.std.specs.Prelude.{ℕ, List, [], map, drop, take, get_or}
use Rattle.ground.specs.Lists.{each, split, sum}
use Rattle.storage.specs.Bytes.{number}
use Rattle.storage.specs.Records.{port_of, record_size}
use Rattle.storage.specs.declared.Port.{Port}
use Rattle.image.specs.Sizes.{word_size, entry_size}
use Rattle.image.specs.declared.Header.{Header}
use Rattle.image.specs.declared.Entry.{Entry}

-- a lane entry: length, port count, identity
unfoldable pub entry_of : List ℕ → Entry
entry_of s = record { len = number s; count = number (drop 8 s); identity = number (drop 16 s) }

abbrev pub no_entry : Entry
no_entry = record { len = 0; count = 0; identity = 0 }

unfoldable pub entries : Header → List ℕ → List Entry
entries h s = each entry_of entry_size h.lanes (drop h.lanes_at s)

abbrev pub count_of : Entry → ℕ
count_of e = e.count

-- the port count of each lane
unfoldable pub counts : Header → List ℕ → List ℕ
counts h s = map count_of (entries h s)

-- the path count of each family
unfoldable pub path_counts : Header → List ℕ → List ℕ
path_counts h s = each number word_size h.families (drop h.families_at s)

-- the path entries: lane numbers, family by family
unfoldable pub paths : Header → List ℕ → List ℕ
paths h s = each number word_size h.paths (drop h.paths_at s)

unfoldable pub families : Header → List ℕ → List (List ℕ)
families h s = split (path_counts h s) (paths h s)

-- the paths of one family
unfoldable pub paths_of : Header → List ℕ → ℕ → List ℕ
paths_of h s family = get_or (families h s) family []

-- each lane's list in turn
unfoldable pub lane_ports : Header → List ℕ → List Port
lane_ports h s = each (port_of h.k) (record_size h.k) h.ports (drop h.lane_ports_at s)

-- the list of one lane
unfoldable pub ports_of : Header → List ℕ → ℕ → List Port
ports_of h s lane = get_or (split (counts h s) (lane_ports h s)) lane []

-- where it begins among all
unfoldable pub start_of : Header → List ℕ → ℕ → ℕ
start_of h s lane = sum (take lane (counts h s))

-- the global list
unfoldable pub hub : Header → List ℕ → List Port
hub h s = each (port_of h.k) (record_size h.k) h.ports (drop h.hub_at s)
