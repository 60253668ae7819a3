-- On an accepted panel the unbudgeted walk ends, and after its natives it has handed over each legal assignment once.
use Prim.Native.Nat.{ℕ, ◌≤◌, ◌<◌}
use native.Mathlib.Omega.{arith}
use native.Mathlib.Decide.{dec_lt}
use mathlib.Core.Path.{◌≡◌, refl, sym, ◌∙◌, ap, subst}
use mathlib.Core.Bool.{true}
use mathlib.Core.Logic.{◌↔◌}
use mathlib.Core.List.{List, [], ◌++◌, Memᴰ}
use lib.Dec.{leb, eqb}
use lib.ListN.{length, take, get_or, get_or-eq_default}
use borrow.Author.Tests.{ltb-true, lt-ltb, leb-true}
use Rattle.ground.specs.Lists.{sum, all, within}
use Rattle.ground.proofs.ListLaws.{both, all_at}
use Rattle.storage.specs.declared.Port.{Port}
use Rattle.storage.specs.Orders.{place, place_lt, record_lt}
use Rattle.storage.proofs.OrderLaws.{record_chain}
use Rattle.image.specs.declared.Header.{Header}
use Rattle.image.specs.declared.Family.{Family}
use Rattle.image.specs.Image.{path_counts, paths_of}
use Rattle.image.specs.Panel.{PanelLane, panel_of, lane_at, no_lane, paths_at}
use Rattle.image.proofs.Laws.{panel_lanes, panel_families, families_length, path_counts_length, family_length, groups_of}
use Rattle.families.specs.Families.{count_ok, sound5a, sound5b, sound5}
use Rattle.panel.specs.Inner.{Accepted}
use Rattle.graph.specs.Check.{panel_refusal}
use Rattle.graph.proofs.PanelLaws.{lane_source, lane_ends, lane_row_rises, hub-rises, hub_in_lane, lane_in_hub}
use Rattle.evaluate.specs.Properties.{Pairs, Neighbours}
use Rattle.evaluate.specs.Segments.{Assignment}
use Rattle.evaluate.specs.Legal.{Legal}
use Rattle.evaluate.proofs.Native.{taken}
use Rattle.search.specs.Run.{Walk, Unbudgeted, unlimited, untouched, seeded_with, natives_of, outset}
use Rattle.evaluate.proofs.Lists.{rising_all, pairs_neighbours}
use Rattle.enumeration.proofs.Ports.{Sound}
use Rattle.enumeration.proofs.Suffice.{one_end}
use Rattle.enumeration.proofs.Whole.{Ends, walk_ends}

place_chain : (p q r : Port) → place_lt p q ≡ true → place_lt q r ≡ true → place_lt p r ≡ true
unfolding place_lt
place_chain p q r a b =
    let x = ltb-true (place p) (place q) a in
    let y = ltb-true (place q) (place r) b in
    lt-ltb (place p) (place r) (omega arith)

module _ (s : List ℕ) (h : Header) (acc : Accepted s h) where
  rows : (l : ℕ) → Pairs (λ q r. place_lt q r ≡ true) (lane_at (panel_of s) l).ports
  rows l = go (dec_lt l h.lanes)
    where
      go : Dec (l < h.lanes) → Pairs (λ q r. place_lt q r ≡ true) (lane_at (panel_of s) l).ports
      go (yes lt) = rising_all place_lt place_chain (lane_at (panel_of s) l).ports (lane_row_rises s h acc l lt)
      go (no f) =
          let past : length (panel_of s).lanes ≤ l = (let n = panel_lanes s h acc.counted.framed in omega arith) in
          let none : lane_at (panel_of s) l ≡ no_lane = get_or-eq_default (panel_of s).lanes no_lane past in
          subst (λ (x : PanelLane). Pairs (λ q r. place_lt q r ≡ true) x.ports) (sym none) tt

  sound_of : Sound (panel_of s)
  sound_of =
      record {
        of_lane = lane_source s h acc;
        in_lane = lane_ends s h acc;
        of_hub = hub_in_lane s h acc;
        all_hub = lane_in_hub s h acc;
        rows = rows;
        hub_rows = rising_all record_lt record_chain (panel_of s).hub (hub-rises s h acc);
      }

  -- every family has a path
  some_path : (f : ℕ) → f < length (panel_of s).families → 0 < length (paths_at (panel_of s) f)
  unfolding sound5 sound5a count_ok paths_of
  some_path f lt =
      let all-ok = (both (all count_ok (path_counts h s)) (eqb (sum (path_counts h s)) h.paths) (both (sound5a h s) (sound5b h s) acc.familied).0).0 in
      let same = panel_families s h acc.counted.framed in
      let known : f < h.families = (let a : length (panel_of s).families ≡ h.families = ap length same ∙ families_length s h in omega arith) in
      let room : f < length (path_counts h s) = rw (path_counts_length s h) known in
      let ok : within 1 64 (get_or (path_counts h s) f 0) ≡ true = all_at 0 count_ok (path_counts h s) f all-ok room in
      let one : 1 ≤ get_or (path_counts h s) f 0 = leb-true 1 _ (both (leb 1 (get_or (path_counts h s) f 0)) (leb (get_or (path_counts h s) f 0) 64) ok).0 in
      let g : Family = record { number = f; start = sum (take f (path_counts h s)); count = get_or (path_counts h s) f 0 } in
      let n : length (paths_of h s f) ≡ get_or (path_counts h s) f 0 = family_length s h g (groups_of s h f g.start g.count acc.grouped known refl refl) in
      let m : length (paths_at (panel_of s) f) ≡ length (paths_of h s f) = ap (λ (l : List (List ℕ)). length (get_or l f [])) same in
      omega arith

-- THE UNBUDGETED WALK
pub accepted_ends : (s : List ℕ) → panel_refusal s ≡ 0 → Ends (panel_of s) 0 (natives_of (panel_of s)) (outset (panel_of s))
unfolding outset
accepted_ends s e =
    let t = taken s e in
    let p = panel_of s in
    walk_ends p (sound_of s t.header t.accepted) (some_path s t.header t.accepted) (seeded_with untouched (natives_of p)) refl refl

pub accepted_unbudgeted : (s : List ℕ) → panel_refusal s ≡ 0 → Unbudgeted (panel_of s)
accepted_unbudgeted s e = let r = accepted_ends s e in record { steps = r.run.0; final = r.final; ends = r.run.1 }

-- what every unbudgeted walk has handed over
module _ (s : List ℕ) (e : panel_refusal s ≡ 0) where
  pub accepted_found : List Assignment
  accepted_found = (accepted_ends s e).found

  pub found_out : (u : Unbudgeted (panel_of s)) → u.final.out ≡ natives_of (panel_of s) ++ accepted_found
  unfolding accepted_found
  found_out u =
      let r = accepted_ends s e in
      ap (λ (w : Walk). w.out) (one_end (panel_of s) unlimited u.steps r.run.0 (outset (panel_of s)) u.final r.final u.ends r.run.1) ∙ r.out

  pub found_legal : (a : Assignment) → Memᴰ a accepted_found ↔ Legal (panel_of s) a
  unfolding accepted_found
  found_legal a = let r = (accepted_ends s e).each.legal a in (λ m. (r.0 m).legal, λ l. r.1 (record { from = omega arith; legal = l }))

  pub found_once : Pairs (λ a c. a ≡ c → ⊥) accepted_found
  unfolding accepted_found
  found_once = (accepted_ends s e).each.once

  pub found_in_order : Neighbours (λ a c. a.family ≤ c.family) accepted_found
  unfolding accepted_found
  found_in_order = pairs_neighbours (λ (a c : Assignment). a.family ≤ c.family) (accepted_ends s e).found (accepted_ends s e).each.in_order

pub accepted_sound : (s : List ℕ) → panel_refusal s ≡ 0 → Sound (panel_of s)
accepted_sound s e = let t = taken s e in sound_of s t.header t.accepted
