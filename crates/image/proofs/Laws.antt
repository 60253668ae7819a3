-- Laws of the header and of the lists behind it.
use Prim.Native.Nat.{ℕ, zero, suc, ◌+◌, ◌*◌, ◌≤◌, ◌<◌}
use native.Mathlib.Nat.{not-suc-le-zero, mul-le-mul_right}
use native.Mathlib.Omega.{arith}
use mathlib.Core.Path.{◌≡◌, refl, sym, ap, ◌∙◌}
use mathlib.Core.Bool.{Bool, true, false, ◌&&◌}
use mathlib.Core.List.{List, [], ◌∷◌}
use lib.Dec.{leb, eqb}
use lib.ListN.{length, drop, take, get_or, set, replicate, length-set, length-replicate, get_or-map, length-map}
use lib.Seq.{drop-drop, get_or-set_same, get_or-set_other}
use native.Mathlib.Decide.{dec_lt}
use mir.Val.{Fits}
use mir.Syntax.{w64}
use borrow.Author.Rules.{Fits-under}
use borrow.Author.Tests.{le-leb, lt-leb, leb-true, eqb-true}
use Rattle.storage.specs.Bytes.{number}
use Rattle.ground.specs.Lists.{within, each, split, sum}
use Rattle.storage.specs.Records.{port_of}
use Rattle.storage.specs.Inner.{Records, Offset}
use Rattle.storage.specs.Orders.{same_port, place_lt, place_before}
use Rattle.storage.proofs.Laws.{record_is}
use Rattle.storage.specs.declared.Port.{Port}
use Rattle.ground.proofs.ListLaws.{both, each_length, each_from, split_at, SumTo, sum_to_start, sum_to_next, sum_to_fits, sum_take_next, sum_part_le, splits, split_length}
use Rattle.image.specs.declared.Header.{Header}
use Rattle.image.specs.declared.Entry.{Entry}
use Rattle.image.specs.declared.Lane.{Lane}
use Rattle.image.specs.declared.Family.{Family}
use Rattle.image.specs.declared.PanelRefusal.TheVariants.{Short, Counts, Layout}
use Rattle.std.specs.declared.result.Result.TheVariants.{Ok, Err}
use Rattle.image.specs.Header.{header_of, sound2, sound3, opened, Bounds, end_place, hub_place, lane_ports_place, paths_place, families_place}
use Rattle.image.specs.Image.{entry_of, entries, counts, count_of, no_entry, lane_ports, hub, ports_of, start_of, paths, path_counts, families, paths_of}
use Rattle.image.specs.Inner.{Framed, Counted, Started, Stands, Grouped, Groups}
use Rattle.image.specs.Panel.{no_lane, zip_lanes, panel_by, panel_of}
use Rattle.storage.specs.Records.{no_port}

-- ---- refusals 1 to 3

pub bounds_of : (h : Header) → sound2 h ≡ true → Bounds h
unfolding sound2
bounds_of h e =
    let (f, g) = both (leb h.families 4096) (within 1 32 h.k && within 1 4096 h.lanes && leb h.ports 4194304 && leb h.paths (64 * h.families)) e in
    let (g1, g2) = both (within 1 32 h.k && within 1 4096 h.lanes && leb h.ports 4194304) (leb h.paths (64 * h.families)) g in
    let (g3, g4) = both (within 1 32 h.k && within 1 4096 h.lanes) (leb h.ports 4194304) g1 in
    let (g5, g6) = both (within 1 32 h.k) (within 1 4096 h.lanes) g3 in
    let (a, b) = both (leb 1 h.k) (leb h.k 32) g5 in
    let (c, d) = both (leb 1 h.lanes) (leb h.lanes 4096) g6 in
    let kb : h.k ≤ 32 = leb-true _ _ b in
    let p1 : h.ports * (h.k + 17) ≤ 4194304 * (h.k + 17) = mul-le-mul_right (h.k + 17) (leb-true _ _ g4) in
    record {
      some = leb-true _ _ a;
      small = leb-true _ _ b;
      one_lane = leb-true _ _ c;
      few_lanes = leb-true _ _ d;
      few_families = leb-true _ _ f;
      few_paths = leb-true _ _ g2;
      few_ports = leb-true _ _ g4;
      room = omega arith;
    }

pub bounds_told : (h : Header) (b : Bool) → b ≡ sound2 h → b ≡ true → Bounds h
bounds_told h b e t = bounds_of h (sym e ∙ t)

module _ (s : List ℕ) where
  pub open_short : length s < 80 → Err Short ≡ opened s
  unfolding opened
  open_short l = rw (lt-leb 80 (length s) l)

  module _ (long : 80 ≤ length s) (h : Header) (e : h ≡ header_of s) (b : Bool) (t : b ≡ sound2 h) where
    pub open_bounds : b ≡ false → Err Counts ≡ opened s
    unfolding opened
    open_bounds q = rw (le-leb 80 (length s) long, ← e, ← t, q)

    module _ (c : Bool) (u : c ≡ sound3 h (length s)) (q : b ≡ true) where
      pub open_packed : c ≡ false → Err Layout ≡ opened s
      unfolding opened
      open_packed p = rw (le-leb 80 (length s) long, ← e, ← t, q, ← u, p)

      pub open_good : c ≡ true → Ok h ≡ opened s
      unfolding opened
      open_good p = rw (le-leb 80 (length s) long, ← e, ← t, q, ← u, p)

pub framed_of : (s : List ℕ) (h : Header) → h ≡ header_of s → sound2 h ≡ true → sound3 h (length s) ≡ true → Framed s h
unfolding sound3
framed_of s h e b c =
    let w = bounds_of h b in
    let (c1, c2) = both (eqb h.lanes_at 80 && eqb h.families_at (families_place h)) (eqb h.paths_at (paths_place h) && eqb h.lane_ports_at (lane_ports_place h) && (eqb h.hub_at (hub_place h) && eqb (length s) (end_place h))) c in
    let (d1, d2) = both (eqb h.lanes_at 80) (eqb h.families_at (families_place h)) c1 in
    let (d3, d4) = both (eqb h.paths_at (paths_place h) && eqb h.lane_ports_at (lane_ports_place h)) (eqb h.hub_at (hub_place h) && eqb (length s) (end_place h)) c2 in
    let (d5, d6) = both (eqb h.paths_at (paths_place h)) (eqb h.lane_ports_at (lane_ports_place h)) d3 in
    let (d7, d8) = both (eqb h.hub_at (hub_place h)) (eqb (length s) (end_place h)) d4 in
    record {
      header = e;
      some = w.some;
      small = w.small;
      one_lane = w.one_lane;
      few_lanes = w.few_lanes;
      few_families = w.few_families;
      few_paths = w.few_paths;
      few_ports = w.few_ports;
      lanes_at = eqb-true _ _ d1;
      families_at = eqb-true _ _ d2;
      paths_at = eqb-true _ _ d5;
      lane_ports_at = eqb-true _ _ d6;
      hub_at = eqb-true _ _ d7;
      end = eqb-true _ _ d8;
    }

-- ---- the lists

pub entry_read : (s : List ℕ) (at l c i : ℕ) → l ≡ number (drop at s) → c ≡ number (drop (at + 8) s) → i ≡ number (drop (at + 16) s)
    → ◌≡◌ {A = Entry} (record { len = l; count = c; identity = i }) (entry_of (drop at s))
unfolding entry_of
entry_read s at l c i e f g =
    let f' : c ≡ number (drop 8 (drop at s)) = f ∙ rw (drop-drop 8 at s) in
    let g' : i ≡ number (drop 16 (drop at s)) = g ∙ rw (drop-drop 16 at s) in
    rw (e, f', g')

module _ (s : List ℕ) (h : Header) (framed : Framed s h) where
  pub entry_room : (lane : ℕ) → lane < h.lanes → h.lanes_at + lane * 24 + 24 ≤ length s
  entry_room lane l = omega (arith, framed.lanes_at, framed.end)

  pub entry_is : (lane : ℕ) (r : Entry) → lane < h.lanes → r ≡ entry_of (drop (h.lanes_at + lane * 24) s) → r ≡ get_or (entries h s) lane no_entry
  unfolding entries
  entry_is lane r l e = e ∙ sym (each_from entry_of 24 no_entry h.lanes s h.lanes_at lane l)

  pub entries_length : length (entries h s) ≡ h.lanes
  unfolding entries
  entries_length = each_length entry_of 24 no_entry h.lanes (drop h.lanes_at s)

  pub counts_length : length (counts h s) ≡ h.lanes
  unfolding counts
  counts_length = length-map (entries h s) count_of ∙ entries_length

  pub count_is : (lane : ℕ) (e : Entry) → e ≡ get_or (entries h s) lane no_entry → e.count ≡ get_or (counts h s) lane 0
  unfolding counts
  count_is lane e q = ap count_of q ∙ sym (get_or-map count_of (entries h s) lane no_entry)

  pub hub_stands : Records s h.hub_at h.ports h.k
  hub_stands = record { fits = omega (arith, framed.hub_at, framed.end); short = framed.small }

  pub lane_ports_stand : Records s h.lane_ports_at h.ports h.k
  lane_ports_stand = record { fits = omega (arith, framed.lane_ports_at, framed.end); short = framed.small }

pub number_is : (s : List ℕ) (base n i r : ℕ) → i < n → r ≡ number (drop (base + i * 8) s) → r ≡ get_or (each number 8 n (drop base s)) i 0
number_is s base n i r l e = e ∙ sym (each_from number 8 0 n s base i l)

module _ (s : List ℕ) (h : Header) (l : Lane) (stands : Stands s h l) where
  pub lane_within : l.start + l.count ≤ h.ports
  unfolding start_of
  lane_within =
      let r : l.number < length (counts h s) = rw (counts_length s h stands.counted.framed) stands.lane in
      omega (arith, stands.start, stands.count, stands.counted.total, sum_part_le (counts h s) l.number r)

  pub lane_index : (i : ℕ) → i < l.count → l.start + i < h.ports
  lane_index i lt = let w = lane_within in omega arith

  pub lane_index_fits : (i : ℕ) → i < l.count → Fits w64 (l.start + i)
  lane_index_fits i lt = let w = lane_index i lt in let b : l.start + i < 4194304 = omega (arith, stands.counted.framed.few_ports) in Fits-under w64 (l.start + i) 4194304 b tt

  pub lane_port_is : (i : ℕ) (r : Port) → i < l.count → r ≡ get_or (each (port_of h.k) (h.k + 17) h.ports (drop h.lane_ports_at s)) (l.start + i) no_port
      → r ≡ get_or (ports_of h s l.number) i no_port
  unfolding ports_of lane_ports start_of
  lane_port_is i r lt e =
      let lt' : i < get_or (counts h s) l.number 0 = rw (← stands.count) lt in
      e ∙ rw stands.start (sym (split_at no_port (counts h s) (lane_ports h s) l.number i lt'))

  lane_here : (i : ℕ) → i < l.count → get_or (each (port_of h.k) (h.k + 17) h.ports (drop h.lane_ports_at s)) (l.start + i) no_port ≡ get_or (ports_of h s l.number) i no_port
  lane_here i lt = lane_port_is i _ lt refl

  -- record i and the next one
  pub lane_next_index : (i : ℕ) → i + 1 < l.count → l.start + i + 1 < h.ports
  lane_next_index i lt = let w = lane_within in omega arith

  pub lane_next_fits : (i : ℕ) → i + 1 < l.count → Fits w64 (l.start + i)
  lane_next_fits i lt = lane_index_fits i (omega arith)

  pub lane_pair_is : (i : ℕ) (r : Bool) → i + 1 < l.count
      → r ≡ place_lt (get_or (each (port_of h.k) (h.k + 17) h.ports (drop h.lane_ports_at s)) (l.start + i) no_port) (get_or (each (port_of h.k) (h.k + 17) h.ports (drop h.lane_ports_at s)) (l.start + i + 1) no_port)
      → r ≡ place_lt (get_or (ports_of h s l.number) i no_port) (get_or (ports_of h s l.number) (i + 1) no_port)
  lane_pair_is i r lt e =
      let lt' : i < l.count = omega arith in
      let next : l.start + i + 1 ≡ l.start + (i + 1) = omega arith in
      e ∙ rw (next, lane_here i lt', lane_here (i + 1) lt)

  pub lane_same_is : (i there : ℕ) (p : Port) (r : Bool) → i < l.count → Offset s h.lane_ports_at h.ports h.k (l.start + i) there → r ≡ same_port p (port_of h.k (drop there s))
      → r ≡ same_port p (get_or (ports_of h s l.number) i no_port)
  lane_same_is i there p r lt off e = e ∙ ap (same_port p) (record_is s h.lane_ports_at h.ports h.k (l.start + i) there off (lane_index i lt) _ refl ∙ lane_here i lt)

  pub lane_before_is : (i anchor : ℕ) (reverse r : Bool) → i < l.count
      → r ≡ place_before anchor reverse (get_or (each (port_of h.k) (h.k + 17) h.ports (drop h.lane_ports_at s)) (l.start + i) no_port)
      → r ≡ place_before anchor reverse (get_or (ports_of h s l.number) i no_port)
  lane_before_is i anchor reverse r lt e = e ∙ ap (place_before anchor reverse) (lane_here i lt)

  pub lane_anchor_is : (i r : ℕ) → i < l.count → r ≡ (get_or (each (port_of h.k) (h.k + 17) h.ports (drop h.lane_ports_at s)) (l.start + i) no_port).anchor
      → r ≡ (get_or (ports_of h s l.number) i no_port).anchor
  lane_anchor_is i r lt e = e ∙ ap (λ (p : Port). p.anchor) (lane_here i lt)

  pub lane_source_is : (i r : ℕ) → i < l.count → r ≡ (get_or (each (port_of h.k) (h.k + 17) h.ports (drop h.lane_ports_at s)) (l.start + i) no_port).source
      → r ≡ (get_or (ports_of h s l.number) i no_port).source
  lane_source_is i r lt e = e ∙ ap (λ (p : Port). p.source) (lane_here i lt)

-- ---- a table of where the lists begin

pub record Starting (ns : List ℕ) (top : ℕ) (starts : List ℕ) (at i : ℕ) : Type 0 where
  pub to : SumTo ns top at i
  pub long : length starts ≡ 4096
  pub filled : (j : ℕ) → j < i → get_or starts j 0 ≡ sum (take j ns)

pub starting_start : (ns : List ℕ) (top : ℕ) (starts : List ℕ) → starts ≡ replicate 4096 0 → Starting ns top starts 0 0
starting_start ns top starts e = record { to = sum_to_start ns top; long = ap length e ∙ length-replicate {A = ℕ} 4096 0; filled = λ j lt. absurd (not-suc-le-zero lt) }

module _ (ns : List ℕ) (top : ℕ) (starts : List ℕ) (at i x : ℕ) (so : Starting ns top starts at i) (lt : i < top) (is : x ≡ get_or ns i 0) (long : length ns ≡ top) (few : top ≤ 4096) where
  pub starting_next : Starting ns top (set starts i at) (at + x) (i + 1)
  starting_next = record { to = sum_to_next ns top at i x top 0 so.to lt is (omega arith) long; long = length-set starts i at ∙ so.long; filled = λ j h. go j h (dec_lt j i) }
    where
      go : (j : ℕ) → j < i + 1 → Dec (j < i) → get_or (set starts i at) j 0 ≡ sum (take j ns)
      go j h (yes l) = get_or-set_other starts i j at 0 (λ e. let z : ⊥ = omega arith in z) ∙ so.filled j l
      go j h (no f) = let e : j ≡ i = omega arith in rw e (get_or-set_same starts i at 0 (omega (arith, so.long)) ∙ so.to.so_far)

pub starting_fits : (ns : List ℕ) (top : ℕ) (starts : List ℕ) (at i x total : ℕ) → Starting ns top starts at i → i < top → x ≡ get_or ns i 0 → length ns ≡ top → sum ns ≡ total → total ≤ 4194304 → Fits w64 (at + x)
starting_fits ns top starts at i x total so lt is long = sum_to_fits ns top at i x top total so.to lt is (omega arith) long

pub started : (s : List ℕ) (h : Header) (starts : List ℕ) (at i : ℕ) → Counted s h → Starting (counts h s) h.lanes starts at i → h.lanes ≤ i → Started s h starts
unfolding start_of
started s h starts at i c so le = record { counted = c; each = λ j lt. so.filled j (omega arith) }

pub stands_by : (s : List ℕ) (h : Header) (starts : List ℕ) (n : ℕ) (e : Entry) → Started s h starts → n < h.lanes → e ≡ get_or (entries h s) n no_entry
    → Stands s h (record { number = n; len = e.len; identity = e.identity; start = get_or starts n 0; count = e.count })
stands_by s h starts n e st lt q =
    record {
      counted = st.counted;
      lane = lt;
      len = ap (λ (x : Entry). x.len) q;
      identity = ap (λ (x : Entry). x.identity) q;
      count = count_is s h st.counted.framed n e q;
      start = st.each n lt;
    }

-- ---- how long the lists are

pub hub_length : (s : List ℕ) (h : Header) → length (hub h s) ≡ h.ports
unfolding hub
hub_length s h = each_length (port_of h.k) (h.k + 17) no_port h.ports (drop h.hub_at s)

pub lane_ports_length : (s : List ℕ) (h : Header) → length (lane_ports h s) ≡ h.ports
unfolding lane_ports
lane_ports_length s h = each_length (port_of h.k) (h.k + 17) no_port h.ports (drop h.lane_ports_at s)

pub rows_length : (s : List ℕ) (h : Header) → Framed s h → length (split (counts h s) (lane_ports h s)) ≡ h.lanes
rows_length s h f = splits (counts h s) (lane_ports h s) ∙ counts_length s h f

pub row_length : (s : List ℕ) (h : Header) (l : Lane) → Stands s h l → length (ports_of h s l.number) ≡ l.count
unfolding ports_of
row_length s h l st =
    let room : sum (counts h s) ≤ length (lane_ports h s) = (let e = lane_ports_length s h in omega (arith, st.counted.total)) in
    split_length (counts h s) (lane_ports h s) l.number room ∙ sym st.count

-- ---- families

pub path_counts_length : (s : List ℕ) (h : Header) → length (path_counts h s) ≡ h.families
unfolding path_counts
path_counts_length s h = each_length number 8 0 h.families (drop h.families_at s)

pub paths_length : (s : List ℕ) (h : Header) → length (paths h s) ≡ h.paths
unfolding paths
paths_length s h = each_length number 8 0 h.paths (drop h.paths_at s)

pub families_length : (s : List ℕ) (h : Header) → length (families h s) ≡ h.families
unfolding families
families_length s h = splits (path_counts h s) (paths h s) ∙ path_counts_length s h

pub few-paths : (s : List ℕ) (h : Header) → Framed s h → h.paths ≤ 4194304
few-paths s h f = omega (arith, f.few_paths, f.few_families)

pub groups_of : (s : List ℕ) (h : Header) (n start count : ℕ) → Grouped s h → n < h.families → start ≡ sum (take n (path_counts h s)) → count ≡ get_or (path_counts h s) n 0
    → Groups s h (record { number = n; start = start; count = count })
groups_of s h n start count g l e f = record { grouped = g; family = l; count = f; start = e }

module _ (s : List ℕ) (h : Header) (f : Family) (groups : Groups s h f) where
  family_room : f.number < length (path_counts h s)
  family_room = rw (path_counts_length s h) groups.family

  pub family_end_is : f.start + f.count ≡ sum (take (f.number + 1) (path_counts h s))
  family_end_is = rw (groups.start, groups.count) (sym (sum_take_next (path_counts h s) f.number family_room))

  pub family_end_fits : Fits w64 (f.start + f.count)
  family_end_fits =
      let m = few-paths s h groups.grouped.framed in
      let e = sum_part_le (path_counts h s) f.number family_room in
      let b : f.start + f.count < 4194305 = omega (arith, groups.start, groups.count, groups.grouped.total) in
      Fits-under w64 (f.start + f.count) 4194305 b tt

  pub family_index : (i : ℕ) → i < f.count → f.start + i < h.paths
  family_index i lt =
      let r : f.number < length (path_counts h s) = rw (path_counts_length s h) groups.family in
      omega (arith, groups.start, groups.count, groups.grouped.total, sum_part_le (path_counts h s) f.number r)

  pub family_index_fits : (i : ℕ) → i < f.count → Fits w64 (f.start + i)
  family_index_fits i lt =
      let w = family_index i lt in
      let m = few-paths s h groups.grouped.framed in
      let b : f.start + i < 4194304 = omega arith in
      Fits-under w64 (f.start + i) 4194304 b tt

  pub family_path_is : (i r : ℕ) → i < f.count → r ≡ get_or (paths h s) (f.start + i) 0 → r ≡ get_or (paths_of h s f.number) i 0
  unfolding paths_of families
  family_path_is i r lt e =
      let lt' : i < get_or (path_counts h s) f.number 0 = rw (← groups.count) lt in
      e ∙ rw groups.start (sym (split_at 0 (path_counts h s) (paths h s) f.number i lt'))

  pub family_length : length (paths_of h s f.number) ≡ f.count
  unfolding paths_of families
  family_length =
      let room : sum (path_counts h s) ≤ length (paths h s) = (let e = paths_length s h in omega (arith, groups.grouped.total)) in
      split_length (path_counts h s) (paths h s) f.number room ∙ sym groups.count

-- ---- the panel of the walk

zip_ports : (es : List Entry) (rs : List (List Port)) (i : ℕ) → i < length es → length rs ≡ length es → (get_or (zip_lanes es rs) i no_lane).ports ≡ get_or rs i []
unfolding zip_lanes
zip_ports [] rs i h e = absurd (not-suc-le-zero h)
zip_ports (x ∷ es) [] i h e = let z : ⊥ = omega arith in absurd z
zip_ports (x ∷ es) (r ∷ rs) zero h e = refl
zip_ports (x ∷ es) (r ∷ rs) (suc i) h e = zip_ports es rs i (omega arith) (omega arith)

-- the list of a lane of the walk's panel is the one that the code reads
pub panel_ports : (s : List ℕ) (h : Header) (i : ℕ) → Framed s h → i < h.lanes → (get_or (panel_of s).lanes i no_lane).ports ≡ ports_of h s i
unfolding panel_of panel_by ports_of
panel_ports s h i f lt =
    let same : header_of s ≡ h = sym f.header in
    let room : i < length (entries h s) = rw (entries_length s h f) lt in
    let rows : length (split (counts h s) (lane_ports h s)) ≡ length (entries h s) = rows_length s h f ∙ sym (entries_length s h f) in
    rw same (zip_ports (entries h s) (split (counts h s) (lane_ports h s)) i room rows)

pub panel_hub : (s : List ℕ) (h : Header) → Framed s h → (panel_of s).hub ≡ hub h s
unfolding panel_of panel_by
panel_hub s h f = let same : header_of s ≡ h = sym f.header in rw same

pub panel_k : (s : List ℕ) (h : Header) → Framed s h → (panel_of s).k ≡ h.k
unfolding panel_of panel_by
panel_k s h f = let same : header_of s ≡ h = sym f.header in rw same

pub panel_families : (s : List ℕ) (h : Header) → Framed s h → (panel_of s).families ≡ families h s
unfolding panel_of panel_by
panel_families s h f = let same : header_of s ≡ h = sym f.header in rw same

zip_length : (es : List Entry) (rs : List (List Port)) → length rs ≡ length es → length (zip_lanes es rs) ≡ length es
unfolding zip_lanes
zip_length [] rs e = refl
zip_length (x ∷ es) [] e = let z : ⊥ = omega arith in absurd z
zip_length (x ∷ es) (r ∷ rs) e = ap suc (zip_length es rs (omega arith))

pub panel_lanes : (s : List ℕ) (h : Header) → Framed s h → length (panel_of s).lanes ≡ h.lanes
unfolding panel_of panel_by
panel_lanes s h f =
    let same : header_of s ≡ h = sym f.header in
    let rows : length (split (counts h s) (lane_ports h s)) ≡ length (entries h s) = rows_length s h f ∙ sym (entries_length s h f) in
    rw same (zip_length (entries h s) (split (counts h s) (lane_ports h s)) rows ∙ entries_length s h f)

zip_entry : (es : List Entry) (rs : List (List Port)) (i : ℕ) → length rs ≡ length es
    → ((get_or (zip_lanes es rs) i no_lane).len ≡ (get_or es i no_entry).len) × ((get_or (zip_lanes es rs) i no_lane).identity ≡ (get_or es i no_entry).identity)
unfolding zip_lanes
zip_entry [] rs i e = (refl, refl)
zip_entry (x ∷ es) [] i e = let z : ⊥ = omega arith in absurd z
zip_entry (x ∷ es) (r ∷ rs) zero e = (refl, refl)
zip_entry (x ∷ es) (r ∷ rs) (suc i) e = zip_entry es rs i (omega arith)

-- length and identity of a lane of the panel are those of its entry
pub panel_entry : (s : List ℕ) (h : Header) (i : ℕ) → Framed s h
    → ((get_or (panel_of s).lanes i no_lane).len ≡ (get_or (entries h s) i no_entry).len) × ((get_or (panel_of s).lanes i no_lane).identity ≡ (get_or (entries h s) i no_entry).identity)
unfolding panel_of panel_by
panel_entry s h i f =
    let same : header_of s ≡ h = sym f.header in
    let rows : length (split (counts h s) (lane_ports h s)) ≡ length (entries h s) = rows_length s h f ∙ sym (entries_length s h f) in
    rw same (zip_entry (entries h s) (split (counts h s) (lane_ports h s)) i rows)
