-- The header of a panel image (01, "Panel image"), and refusals 1 to 3.
use Rattle.std.specs.Prelude.{ℕ, ◌+◌, ◌*◌, ◌≤◌, Bool, true, false, ◌&&◌, List, leb, eqb, length, drop}
use Rattle.ground.specs.Lists.{within}
use Rattle.storage.specs.Bytes.{number}
use Rattle.storage.specs.Records.{record_size, longest_word}
use Rattle.image.specs.Sizes.{word_size, header_size, entry_size, most_lanes, most_families, most_paths, most_ports}
use Rattle.image.specs.declared.Header.{Header}
use Rattle.image.specs.declared.PanelRefusal.{PanelRefusal}
use Rattle.image.specs.declared.PanelRefusal.TheVariants.{Short, Counts, Layout, Lanes, Families, Records, Order, Listing}
use Rattle.std.specs.declared.result.Result.{Result}
use Rattle.std.specs.declared.result.Result.TheVariants.{Ok, Err}

-- k, lanes L, families F, path entries T, ports N, then the five offsets
unfoldable pub header_of : List ℕ → Header
header_of s =
    record {
      k = number (drop 0 s);
      lanes = number (drop 8 s);
      families = number (drop 16 s);
      paths = number (drop 24 s);
      ports = number (drop 32 s);
      lanes_at = number (drop 40 s);
      families_at = number (drop 48 s);
      paths_at = number (drop 56 s);
      lane_ports_at = number (drop 64 s);
      hub_at = number (drop 72 s);
    }

-- 1: the image has a header
abbrev pub sound1 : List ℕ → Bool
sound1 s = leb header_size (length s)

-- 2: k, L, F, N within bounds, and T at most 64 times F
unfoldable pub sound2 : Header → Bool
sound2 h =
    leb h.families most_families
    && (within 1 longest_word h.k && within 1 most_lanes h.lanes && leb h.ports most_ports
    && leb h.paths (most_paths * h.families))

-- the packed places: lanes, families, path entries, lane ports, global ports, the end
abbrev pub families_place : Header → ℕ
families_place h = header_size + entry_size * h.lanes

abbrev pub paths_place : Header → ℕ
paths_place h = families_place h + word_size * h.families

abbrev pub lane_ports_place : Header → ℕ
lane_ports_place h = paths_place h + word_size * h.paths

abbrev pub hub_place : Header → ℕ
hub_place h = lane_ports_place h + h.ports * record_size h.k

abbrev pub end_place : Header → ℕ
end_place h = hub_place h + h.ports * record_size h.k

-- 3: each offset and the image's length are the packed ones
unfoldable pub sound3 : Header → ℕ → Bool
sound3 h n =
    eqb h.lanes_at header_size && eqb h.families_at (families_place h)
    && (eqb h.paths_at (paths_place h) && eqb h.lane_ports_at (lane_ports_place h)
    && (eqb h.hub_at (hub_place h) && eqb n (end_place h)))

-- 01's number of a refusal of the check
abbrev pub refusal_number : PanelRefusal → ℕ
refusal_number Short = 1
refusal_number Counts = 2
refusal_number Layout = 3
refusal_number Lanes = 4
refusal_number Families = 5
refusal_number Records = 6
refusal_number Order = 7
refusal_number Listing = 8

-- the first refusal by number
abbrev pub or_refuse : Bool → PanelRefusal → Result Header PanelRefusal → Result Header PanelRefusal
or_refuse true e o = o
or_refuse false e o = Err e

unfoldable pub opened : List ℕ → Result Header PanelRefusal
opened s =
    or_refuse (sound1 s) Short
    (or_refuse (sound2 (header_of s)) Counts
    (or_refuse (sound3 (header_of s) (length s)) Layout
    (Ok (header_of s))))

-- what 2 leaves
pub record Bounds (h : Header) : Type 0 where
  pub some : 1 ≤ h.k
  pub small : h.k ≤ longest_word
  pub one_lane : 1 ≤ h.lanes
  pub few_lanes : h.lanes ≤ most_lanes
  pub few_families : h.families ≤ most_families
  pub few_paths : h.paths ≤ most_paths * h.families
  pub few_ports : h.ports ≤ most_ports
  pub room : h.ports * record_size h.k ≤ most_ports * record_size longest_word
