-- What has been tested of a panel: what inner functions ask of their callers.
use Rattle.std.specs.Prelude.{◌≡◌, true, ℕ, List}
use Rattle.ground.specs.Lists.{all}
use Rattle.image.specs.declared.Header.{Header}
use Rattle.image.specs.Image.{entries}
use Rattle.image.specs.Inner.{Counted, Grouped}
use Rattle.families.specs.Families.{sound5}
use Rattle.panel.specs.Refusals.{length_ok, sound_records, own_rows, lanes_rising, hub_rising, sound8}

-- the lane lists rise, and every global record names a lane
pub record Ordered (s : List ℕ) (h : Header) : Type 0 where
  pub counted : Counted s h
  pub rows : lanes_rising h s ≡ true
  pub named : sound_records h s h.hub_at ≡ true

-- refusals 1 to 8 have passed
pub record Accepted (s : List ℕ) (h : Header) : Type 0 where
  pub counted : Counted s h
  pub grouped : Grouped s h
  pub lengths : all length_ok (entries h s) ≡ true
  pub familied : sound5 h s ≡ true
  pub lane_records : sound_records h s h.lane_ports_at ≡ true
  pub hub_records : sound_records h s h.hub_at ≡ true
  pub own : own_rows h s ≡ true
  pub rows : lanes_rising h s ≡ true
  pub hub_rises : hub_rising h s ≡ true
  pub listing : sound8 h s ≡ true
