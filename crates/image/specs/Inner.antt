-- What has been tested of an image, stage by stage: what inner functions ask of their callers.
use Rattle.std.specs.Prelude.{ℕ, ◌*◌, ◌≤◌, ◌<◌, ◌≡◌, List, length, take, get_or}
use Rattle.ground.specs.Lists.{sum}
use Rattle.storage.specs.Records.{longest_word}
use Rattle.image.specs.Sizes.{header_size, most_lanes, most_families, most_paths, most_ports}
use Rattle.image.specs.Header.{header_of, families_place, paths_place, lane_ports_place, hub_place, end_place}
use Rattle.image.specs.Image.{entries, no_entry, counts, path_counts, start_of}
use Rattle.image.specs.declared.Header.{Header}
use Rattle.image.specs.declared.Lane.{Lane}
use Rattle.image.specs.declared.Family.{Family}

-- refusals 1 to 3 have passed
pub record Framed (s : List ℕ) (h : Header) : Type 0 where
  pub header : h ≡ header_of s
  pub some : 1 ≤ h.k
  pub small : h.k ≤ longest_word
  pub one_lane : 1 ≤ h.lanes
  pub few_lanes : h.lanes ≤ most_lanes
  pub few_families : h.families ≤ most_families
  pub few_paths : h.paths ≤ most_paths * h.families
  pub few_ports : h.ports ≤ most_ports
  pub lanes_at : h.lanes_at ≡ header_size
  pub families_at : h.families_at ≡ families_place h
  pub paths_at : h.paths_at ≡ paths_place h
  pub lane_ports_at : h.lane_ports_at ≡ lane_ports_place h
  pub hub_at : h.hub_at ≡ hub_place h
  pub end : length s ≡ end_place h

-- and the port counts sum to N
pub record Counted (s : List ℕ) (h : Header) : Type 0 where
  pub framed : Framed s h
  pub total : sum (counts h s) ≡ h.ports

-- a table of where each lane's list begins
pub record Started (s : List ℕ) (h : Header) (starts : List ℕ) : Type 0 where
  pub counted : Counted s h
  pub each : (i : ℕ) → i < h.lanes → get_or starts i 0 ≡ start_of h s i

-- the lane of this number
pub record Stands (s : List ℕ) (h : Header) (l : Lane) : Type 0 where
  pub counted : Counted s h
  pub lane : l.number < h.lanes
  pub len : l.len ≡ (get_or (entries h s) l.number no_entry).len
  pub identity : l.identity ≡ (get_or (entries h s) l.number no_entry).identity
  pub count : l.count ≡ get_or (counts h s) l.number 0
  pub start : l.start ≡ start_of h s l.number

-- the path counts sum to T
pub record Grouped (s : List ℕ) (h : Header) : Type 0 where
  pub framed : Framed s h
  pub total : sum (path_counts h s) ≡ h.paths

-- the family of this number
pub record Groups (s : List ℕ) (h : Header) (f : Family) : Type 0 where
  pub grouped : Grouped s h
  pub family : f.number < h.families
  pub count : f.count ≡ get_or (path_counts h s) f.number 0
  pub start : f.start ≡ sum (take f.number (path_counts h s))
