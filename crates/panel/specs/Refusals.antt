-- Refusals 4 and 6 to 8 of a panel image (01, "Refusal numbers"); each test is of the whole image.
use Rattle.std.specs.Prelude.{ℕ, ◌+◌, Bool, ◌&&◌, ◌||◌, List, leb, ltb, eqb, drop, take, get_or}
use Rattle.ground.specs.Lists.{within, each, split, sum, all, any, rising, numbers_from}
use Rattle.storage.specs.Records.{port_of, record_size}
use Rattle.storage.specs.Orders.{place_lt, record_lt, same_port}
use Rattle.storage.specs.declared.Port.{Port}
use Rattle.image.specs.declared.Header.{Header}
use Rattle.image.specs.declared.Entry.{Entry}
use Rattle.image.specs.Sizes.{longest_lane}
use Rattle.image.specs.Image.{entries, counts, lane_ports, ports_of, hub, no_entry}

-- 4: every lane length within bounds, and the port counts sum to N
unfoldable pub length_ok : Entry → Bool
length_ok e = within 1 longest_lane e.len

unfoldable pub sound4 : Header → List ℕ → Bool
sound4 h s = all length_ok (entries h s) && eqb (sum (counts h s)) h.ports

-- 6: letters are A, C, G, T
unfoldable pub letter : ℕ → Bool
letter b = eqb b 65 || eqb b 67 || eqb b 71 || eqb b 84

-- the source is a lane, and anchor + k is not past it
unfoldable pub sound_place : Header → List ℕ → ℕ → ℕ → Bool
sound_place h s source anchor = ltb source h.lanes && leb (anchor + h.k) (get_or (entries h s) source no_entry).len

abbrev pub sound_port : Header → List ℕ → Port → Bool
sound_port h s p = sound_place h s p.source p.anchor

-- of the record that the bytes begin with: its letters, its reverse byte, its place
unfoldable pub sound_record : Header → List ℕ → List ℕ → Bool
sound_record h s r = all letter (take h.k r) && leb (get_or r (h.k + 16) 0) 1 && sound_port h s (port_of h.k r)

abbrev pub is_true : Bool → Bool
is_true b = b

-- of the N records that stand from base on
unfoldable pub sound_records : Header → List ℕ → ℕ → Bool
sound_records h s base = all is_true (each (sound_record h s) (record_size h.k) h.ports (drop base s))

-- the records of a lane's list name that lane
unfoldable pub from : ℕ → Port → Bool
from lane p = eqb p.source lane

unfoldable pub own_row : Header → List ℕ → ℕ → Bool
own_row h s lane = all (from lane) (ports_of h s lane)

unfoldable pub own_rows : Header → List ℕ → Bool
own_rows h s = all (own_row h s) (numbers_from 0 h.lanes)

unfoldable pub sound6 : Header → List ℕ → Bool
sound6 h s = sound_records h s h.lane_ports_at && sound_records h s h.hub_at && own_rows h s

-- 7: each lane's list strictly rises by (anchor, reverse), the global list by (word, source, anchor, reverse)
unfoldable pub lane_rising : List Port → Bool
lane_rising l = rising place_lt l

unfoldable pub lanes_rising : Header → List ℕ → Bool
lanes_rising h s = all lane_rising (split (counts h s) (lane_ports h s))

unfoldable pub hub_rising : Header → List ℕ → Bool
hub_rising h s = rising record_lt (hub h s)

unfoldable pub sound7 : Header → List ℕ → Bool
sound7 h s = lanes_rising h s && hub_rising h s

-- 8: each global record is in its lane's list
unfoldable pub listed : Header → List ℕ → Port → Bool
listed h s g = any (same_port g) (ports_of h s g.source)

unfoldable pub sound8 : Header → List ℕ → Bool
sound8 h s = all (listed h s) (hub h s)
