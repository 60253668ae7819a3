-- The panel that an image holds, as the check and the walk see it (01, "Panel image"): lists of lanes, families and global records.
use Rattle.std.specs.Prelude.{ℕ, List, [], ◌∷◌, get_or}
use Rattle.ground.specs.Lists.{split}
use Rattle.storage.specs.declared.Port.{Port}
use Rattle.image.specs.declared.Header.{Header}
use Rattle.image.specs.declared.Entry.{Entry}
use Rattle.image.specs.Header.{header_of}
use Rattle.image.specs.Image.{entries, counts, lane_ports, families, hub}

-- a lane: its length, the identity of the plant it comes from, and its list of ports
pub record PanelLane : Type 0 where
  pub len : ℕ
  pub identity : ℕ
  pub ports : List Port

-- a panel: the lanes, the lane numbers of each family's paths, and the global list of ports
pub record Panel : Type 0 where
  pub k : ℕ
  pub lanes : List PanelLane
  pub families : List (List ℕ)
  pub hub : List Port

abbrev pub no_lane : PanelLane
no_lane = record { len = 0; identity = 0; ports = [] }

-- each lane entry with its list
unfoldable pub zip_lanes : List Entry → List (List Port) → List PanelLane
zip_lanes [] l = []
zip_lanes (e ∷ es) [] = []
zip_lanes (e ∷ es) (r ∷ rs) = record { len = e.len; identity = e.identity; ports = r } ∷ zip_lanes es rs

unfoldable pub panel_by : Header → List ℕ → Panel
panel_by h s =
    record {
      k = h.k;
      lanes = zip_lanes (entries h s) (split (counts h s) (lane_ports h s));
      families = families h s;
      hub = hub h s;
    }

-- the panel of an image's bytes
unfoldable pub panel_of : List ℕ → Panel
panel_of s = panel_by (header_of s) s

-- lane number n
abbrev pub lane_at : Panel → ℕ → PanelLane
lane_at p n = get_or p.lanes n no_lane

-- the target lanes of family number f
abbrev pub paths_at : Panel → ℕ → List ℕ
paths_at p f = get_or p.families f []
