-- What holds of the panel of an accepted image, over the panel's own lists.
use Prim.Native.Nat.{ℕ, ◌+◌, ◌≤◌, ◌<◌}
use native.Mathlib.Omega.{arith}
use native.Mathlib.Decide.{dec_lt}
use mathlib.Core.Path.{◌≡◌, refl, sym, ap, subst, ◌∙◌}
use mathlib.Core.Bool.{Bool, true}
use mathlib.Core.List.Memᴰ
use mathlib.Core.List.{List, [], Memᴰ}
use lib.Dec.{ltb, leb}
use lib.ListN.{length, get_or, get_or-eq_default}
use borrow.Author.Tests.{eqb-true, leb-true}
use Rattle.ground.specs.Lists.{split, within, all, rising, numbers_from}
use Rattle.ground.proofs.ListLaws.{both, all_at, numbers_at}
use Rattle.ground.proofs.Members.{all_mem, any_mem, index_of, mem_part, rising_apart, pigeon}
use Rattle.storage.specs.Records.{no_port, cut_as}
use Rattle.storage.specs.Orders.{place_of, place_lt, record_lt, same_port}
use Rattle.storage.specs.declared.Port.{Port}
use Rattle.storage.proofs.OrderLaws.{record_chain, record_self, port_same, turn_small}
use Rattle.image.specs.declared.Header.{Header}
use Rattle.image.specs.declared.Lane.{Lane}
use Rattle.image.specs.Image.{entries, no_entry, counts, lane_ports, ports_of, start_of, hub}
use Rattle.image.specs.Inner.{Framed, Stands}
use Rattle.image.specs.Panel.{PanelLane, panel_of, lane_at, no_lane}
use Rattle.image.proofs.Laws.{panel_ports, panel_hub, panel_k, panel_lanes, panel_entry, entries_length, row_length, rows_length, hub_length, lane_ports_length}
use Rattle.panel.specs.Inner.{Accepted}
use Rattle.panel.specs.Refusals.{length_ok, sound_place, from, own_row, own_rows, lane_rising, hub_rising, listed, sound8}
use Rattle.panel.proofs.Laws.{row_rises, lane_rises, lane_port_sound, lanes_numbers}

module _ (s : List ℕ) (h : Header) (acc : Accepted s h) where
  framed : Framed s h
  framed = acc.counted.framed

  -- the lane of a number, as the code holds it
  lane_of : ℕ → Lane
  lane_of l = record { number = l; len = (get_or (entries h s) l no_entry).len; identity = (get_or (entries h s) l no_entry).identity; start = start_of h s l; count = get_or (counts h s) l 0 }

  stands : (l : ℕ) → l < h.lanes → Stands s h (lane_of l)
  unfolding lane_of
  stands l lt = record { counted = acc.counted; lane = lt; len = refl; identity = refl; count = refl; start = refl }

  ports-of : (l : ℕ) → l < h.lanes → (lane_at (panel_of s) l).ports ≡ ports_of h s l
  ports-of l lt = panel_ports s h l framed lt

  -- no lane is longer than the bound
  pub lane_low : (l : ℕ) → (lane_at (panel_of s) l).len ≤ 4294967295
  unfolding length_ok
  lane_low l = go (dec_lt l h.lanes)
    where
      go : Dec (l < h.lanes) → (lane_at (panel_of s) l).len ≤ 4294967295
      go (yes lt) =
          let ok : within 1 4294967295 (get_or (entries h s) l no_entry).len ≡ true = all_at no_entry length_ok (entries h s) l acc.lengths (rw (entries_length s h framed) lt) in
          let most = leb-true (get_or (entries h s) l no_entry).len 4294967295 (both (leb 1 (get_or (entries h s) l no_entry).len) (leb (get_or (entries h s) l no_entry).len 4294967295) ok).1 in
          let e = (panel_entry s h l framed).0 in
          omega arith
      go (no f) =
          let past : length (panel_of s).lanes ≤ l = (let n = panel_lanes s h framed in omega arith) in
          let none : (lane_at (panel_of s) l).len ≡ 0 = ap (λ (x : PanelLane). x.len) (get_or-eq_default (panel_of s).lanes no_lane past) in
          omega arith

  -- a lane that has a port is one
  pub lane_known : (l : ℕ) (q : Port) → Memᴰ q (lane_at (panel_of s) l).ports → l < h.lanes
  lane_known l q m = go (dec_lt l h.lanes)
    where
      go : Dec (l < h.lanes) → l < h.lanes
      go (yes lt) = lt
      go (no f) =
          let past : length (panel_of s).lanes ≤ l = (let n = panel_lanes s h framed in omega arith) in
          let none : lane_at (panel_of s) l ≡ no_lane = get_or-eq_default (panel_of s).lanes no_lane past in
          absurd (Memᴰ.not-nil (subst (λ (x : List Port). Memᴰ q x) (ap (λ x. x.ports) none) m))

  in_row : (l : ℕ) (q : Port) → Memᴰ q (lane_at (panel_of s) l).ports → Memᴰ q (ports_of h s l)
  in_row l q m = subst (λ (x : List Port). Memᴰ q x) (ports-of l (lane_known l q m)) m

  -- every record of a lane's list names that lane
  pub lane_source : (l : ℕ) (q : Port) → Memᴰ q (lane_at (panel_of s) l).ports → q.source ≡ l
  unfolding own_rows own_row from
  lane_source l q m =
      let lt = lane_known l q m in
      let room : l < length (numbers_from 0 h.lanes) = rw (lanes_numbers h) lt in
      let row = all_at 0 (own_row h s) (numbers_from 0 h.lanes) l acc.own room in
      let num : get_or (numbers_from 0 h.lanes) l 0 ≡ l = numbers_at 0 h.lanes l lt ∙ (omega arith) in
      let own : all (from l) (ports_of h s l) ≡ true = ap (own_row h s) (sym num) ∙ row in
      eqb-true q.source l (all_mem (from l) (ports_of h s l) own q (in_row l q m))

  -- and ends within it
  pub lane_ends : (l : ℕ) (q : Port) → Memᴰ q (lane_at (panel_of s) l).ports → q.anchor + (panel_of s).k ≤ (lane_at (panel_of s) l).len
  unfolding sound_place lane_of
  lane_ends l q m =
      let lt = lane_known l q m in
      let at = index_of no_port q (ports_of h s l) (in_row l q m) in
      let n = row_length s h (lane_of l) (stands l lt) in
      let low : at.i < get_or (counts h s) l 0 = (let x = at.low in omega arith) in
      let ok = lane_port_sound s h (lane_of l) at.i q acc (stands l lt) low (sym at.there) in
      let fits = (both (ltb q.source h.lanes) (leb (q.anchor + h.k) (get_or (entries h s) q.source no_entry).len) ok).1 in
      let e = lane_source l q m in
      let le : q.anchor + h.k ≤ (get_or (entries h s) q.source no_entry).len = leb-true _ _ fits in
      let le' : q.anchor + h.k ≤ (get_or (entries h s) l no_entry).len = subst (λ (x : ℕ). q.anchor + h.k ≤ (get_or (entries h s) x no_entry).len) e le in
      let kk = panel_k s h framed in
      let ll = (panel_entry s h l framed).0 in
      omega arith

  -- each lane's list strictly rises by (anchor, reverse)
  pub lane_row_rises : (l : ℕ) → l < h.lanes → rising place_lt (lane_at (panel_of s) l).ports ≡ true
  unfolding lane_rising lane_of
  lane_row_rises l lt = ap (rising place_lt) (ports-of l lt) ∙ row_rises s h (lane_of l) (stands l lt) acc.rows

  -- For the reader: so by one orientation's formula a lane's cuts do not fall
  pub cuts_rise : (l : ℕ) → l < h.lanes → (reverse : Bool) (i j : ℕ) → i < j → j < length (lane_at (panel_of s) l).ports
      → cut_as (panel_of s).k reverse (get_or (lane_at (panel_of s) l).ports i no_port).anchor ≤ cut_as (panel_of s).k reverse (get_or (lane_at (panel_of s) l).ports j no_port).anchor
  unfolding place_of lane_rising
  cuts_rise l lt reverse i j h₁ h₂ =
      let r = lane_rises (lane_at (panel_of s) l).ports (lane_row_rises l lt) i j h₁ h₂ in
      let a = turn_small (get_or (lane_at (panel_of s) l).ports i no_port).reverse in
      let b = turn_small (get_or (lane_at (panel_of s) l).ports j no_port).reverse in
      omega arith

  -- the global list strictly rises
  pub hub-rises : rising record_lt (panel_of s).hub ≡ true
  unfolding hub_rising
  hub-rises = ap (rising record_lt) (panel_hub s h framed) ∙ acc.hub_rises

  row_known : (l : ℕ) (x : Port) → Memᴰ x (ports_of h s l) → l < h.lanes
  unfolding ports_of
  row_known l x m = go (dec_lt l h.lanes)
    where
      go : Dec (l < h.lanes) → l < h.lanes
      go (yes lt) = lt
      go (no f) =
          let past : length (split (counts h s) (lane_ports h s)) ≤ l = (let n = rows_length s h framed in omega arith) in
          let none : get_or (split (counts h s) (lane_ports h s)) l [] ≡ [] = get_or-eq_default (split (counts h s) (lane_ports h s)) [] past in
          absurd (Memᴰ.not-nil (subst (λ (y : List Port). Memᴰ x y) none m))

  -- every global record is in its lane's list
  pub hub_in_lane : (q : Port) → Memᴰ q (panel_of s).hub → Memᴰ q (lane_at (panel_of s) q.source).ports
  unfolding sound8 listed
  hub_in_lane q m =
      let told : listed h s q ≡ true = all_mem (listed h s) (hub h s) acc.listing q (subst (λ (x : List Port). Memᴰ q x) (panel_hub s h framed) m) in
      let r = any_mem (same_port q) (ports_of h s q.source) told in
      let lt = row_known q.source r.0 r.1 in
      subst (λ (x : List Port). Memᴰ q x) (sym (ports-of q.source lt)) (Memᴰ.cast (port_same q r.0 r.2) r.1)

  -- the pigeonhole: every lane record stands in the global list
  pub lane_in_hub : (l : ℕ) (q : Port) → Memᴰ q (lane_at (panel_of s) l).ports → Memᴰ q (panel_of s).hub
  unfolding ports_of
  lane_in_hub l q m =
      pigeon (panel_of s).hub (lane_ports h s) (rising_apart record_lt record_chain record_self (panel_of s).hub hub-rises)
      (λ x k. mem_part (counts h s) (lane_ports h s) x.source x (in_row x.source x (hub_in_lane x k)))
      (let a = lane_ports_length s h in let b = hub_length s h in let c : length (panel_of s).hub ≡ length (hub h s) = ap length (panel_hub s h framed) in omega arith)
      q (mem_part (counts h s) (lane_ports h s) l q (in_row l q m))
