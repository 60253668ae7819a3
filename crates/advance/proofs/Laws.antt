-- Laws of one unit on a stored frame.
use Prim.Native.Nat.{ℕ, suc, ◌+◌, ◌-◌, ◌≤◌, ◌<◌}
use native.Mathlib.Numerals.{add-one}
use native.Mathlib.Omega.{arith}
use mathlib.Core.Path.{◌≡◌, refl, sym, ap, ◌∙◌}
use mathlib.Core.Bool.{Bool, true, false, not, ◌&&◌, ◌||◌, beq}
use Rattle.std.proofs.lemmas.Bool.{not-false, not-true}
use mathlib.Core.List.{List, [], ◌∷◌, ◌++◌}
use mathlib.Core.Logic.{◌⊎◌, inl, inr}
use mir.Val.{Fits}
use mir.Syntax.{w64}
use borrow.Author.Rules.{Fits-under}
use borrow.Author.Tests.{eq-eqb, ne_eqb, lt-ltb, le-ltb, ltb-true, leb-true}
use lib.Dec.{leb, ltb, eqb}
use lib.ListN.{length, get_or, length-append}
use Rattle.ground.specs.Lists.{pick, all, count, one_more_if, sum}
use Rattle.ground.proofs.ListLaws.{both, all_at, split_length}
use Rattle.storage.specs.Records.{cut_as, cut_of, no_port, same_turn}
use Rattle.storage.specs.declared.Port.{Port}
use Rattle.storage.specs.declared.Members.{Members}
use Rattle.storage.specs.Orders.{bucket_of, word_up_to}
use Rattle.image.specs.declared.Header.{Header}
use Rattle.image.specs.declared.Lane.{Lane}
use Rattle.image.specs.declared.Family.{Family}
use Rattle.image.specs.Image.{entries, counts, path_counts, ports_of, lane_ports, hub, paths, families, paths_of, no_entry}
use Rattle.image.specs.Inner.{Framed, Stands, Groups}
use Rattle.image.specs.Panel.{Panel, panel_of, lane_at, paths_at}
use Rattle.image.proofs.Laws.{panel_ports, panel_hub, panel_k, panel_families, panel_entry, row_length, hub_length, lane_ports_length, paths_length, path_counts_length, family_index, family_path_is, family_length, lane_within}
use Rattle.families.specs.Families.{count_ok, sound5, sound5a, sound5b, names, no_twice}
use Rattle.panel.specs.Inner.{Accepted}
use Rattle.panel.specs.Refusals.{sound_place, lane_rising}
use Rattle.panel.proofs.Laws.{record_sound, row_rises}
use Rattle.evaluate.specs.declared.Segment.{Segment}
use Rattle.evaluate.specs.Segments.{clear, flat, overlap}
use Rattle.search.specs.Walk.{Frame, pass, doing, first_port, enter, piece_to, on_path, closes, terminal_task, member_task, same_place, reach, behind, onward, spent, port_unit, hub_unit, unit_of}
use Rattle.frames.specs.declared.Stored.{Stored}
use Rattle.frames.specs.Inner.{Path, piece_from, path_to, path_at, pieces, place_with, frame_with, Alike}
use Rattle.frames.proofs.Laws.{path_pieces}
use Rattle.landings.specs.declared.Landing.{Landing}
use Rattle.landings.specs.Inner.{landing_of, reached}
use Rattle.landings.proofs.Laws.{anchors, turns_same, landings_same}
use Rattle.advance.specs.declared.Action.{Action}
use Rattle.advance.specs.declared.Action.TheVariants.{Leave, Pass, Down, Give}
use Rattle.advance.specs.declared.Turn.{Turn}
use Rattle.advance.specs.Inner.{bare, moved_to, child_of, entered, leaving, Sound, Child, Flagged, task_of, act_of, closes_by, stays, closing_task, Ends, Meets, On, Turned, leads_on, Blocked, Past}

-- ---- the panel that the code reads

pub paths_are : (s : List ℕ) (h : Header) (n : ℕ) → Framed s h → paths_at (panel_of s) n ≡ paths_of h s n
unfolding paths_of
paths_are s h n f = rw (panel_families s h f)

-- a family's paths name lanes
pub path_named : (s : List ℕ) (h : Header) (f : Family) (i lane : ℕ) → Accepted s h → Groups s h f → i < f.count → lane ≡ get_or (paths_of h s f.number) i 0 → lane < h.lanes
unfolding sound5 sound5b names
path_named s h f i lane acc g lt e =
    let b = (both (sound5a h s) (all (names h) (paths h s) && all no_twice (families h s)) acc.familied).1 in
    let named = (both (all (names h) (paths h s)) (all no_twice (families h s)) b).0 in
    let room : f.start + i < length (paths h s) = rw (paths_length s h) (family_index s h f g i lt) in
    let told = all_at 0 (names h) (paths h s) (f.start + i) named room in
    let is : get_or (paths h s) (f.start + i) 0 ≡ get_or (paths_of h s f.number) i 0 = family_path_is s h f g i _ lt refl in
    let m = ltb-true (get_or (paths h s) (f.start + i) 0) h.lanes told in
    omega arith

-- a family has a path
pub path_some : (s : List ℕ) (h : Header) (f : Family) → Accepted s h → Groups s h f → 0 < f.count
unfolding sound5 sound5a count_ok
path_some s h f acc g =
    let a = (both (all count_ok (path_counts h s) && eqb (sum (path_counts h s)) h.paths) (sound5b h s) acc.familied).0 in
    let counted = (both (all count_ok (path_counts h s)) (eqb (sum (path_counts h s)) h.paths) a).0 in
    let room : f.number < length (path_counts h s) = rw (path_counts_length s h) g.family in
    let told = all_at 0 count_ok (path_counts h s) f.number counted room in
    let least = leb-true 1 (get_or (path_counts h s) f.number 0) (both (leb 1 (get_or (path_counts h s) f.number 0)) (leb (get_or (path_counts h s) f.number 0) 64) told).0 in
    let c = g.count in
    omega arith

-- ---- closing a route

-- a frame is not of the next slot
next_slot : (n : ℕ) → eqb n (n + 1) ≡ false
next_slot n = ne_eqb n (n + 1) (λ e. omega arith)

no_child_pass : (s : List ℕ) (h : Header) (n : ℕ) (c : Stored) → Pass ≡ Down c → Child s h n c
no_child_pass s h n c e = let z : ◌≡◌ {A = ℕ} 0 1 = cc in absurd (omega arith)

-- how many routes are done is the slot, for a child too
abbrev Slots : Stored → Stored → Type 0
Slots f c = (a : Path) → length a.routes ≡ f.slot → length (path_to a f c).routes ≡ c.slot

no_slots_pass : (f c : Stored) → Pass ≡ Down c → Slots f c
no_slots_pass f c e = let z : ◌≡◌ {A = ℕ} 0 1 = cc in absurd (omega arith)

no_slots_leave : (f c : Stored) → Leave ≡ Down c → Slots f c
no_slots_leave f c e = let z : ◌≡◌ {A = ℕ} 0 1 = cc in absurd (omega arith)

no_slots_give : (f : Stored) (t : Segment) (c : Stored) → Give t ≡ Down c → Slots f c
no_slots_give f t c e = let z : ◌≡◌ {A = ℕ} 0 1 = cc in absurd (omega arith)

-- the next slot: a route more is done
next_slots : (f c : Stored) → c.slot ≡ f.slot + 1 → Slots f c
next_slots f c e a l =
    let ne : eqb f.slot c.slot ≡ false = ne_eqb f.slot c.slot (λ q. omega arith) in
    rw ne (length-append a.routes ((a.route ++ (piece_from f c ∷ [])) ∷ []) ∙ omega arith)

-- the same slot
same_slots : (f c : Stored) → c.slot ≡ f.slot → Slots f c
same_slots f c e a l =
    let eq : eqb f.slot c.slot ≡ true = eq-eqb f.slot c.slot (sym e) in
    rw eq (l ∙ sym e)

no_child_give : (s : List ℕ) (h : Header) (n : ℕ) (t : Segment) (c : Stored) → Give t ≡ Down c → Child s h n c
no_child_give s h n t c e = let z : ◌≡◌ {A = ℕ} 0 1 = cc in absurd (omega arith)

module _ (s : List ℕ) (h : Header) (family : Family) (f : Stored) (len : ℕ) (t : Segment) (acc : Accepted s h) (g : Groups s h family) (low : f.slot < family.count) (et : t ≡ piece_to (bare f) len) where
  length_paths : length (paths_at (panel_of s) family.number) ≡ family.count
  length_paths = ap length (paths_are s h family.number acc.counted.framed) ∙ family_length s h family g

  pub ends_give : f.slot + 1 ≡ family.count → Ends s h family f len (Give t)
  ends_give e =
      let m : suc f.slot ≡ family.count = omega arith in
      record { task = λ a. rw (length_paths, eq-eqb (suc f.slot) family.count m, et); going = refl; child = no_child_give s h family.count t; slots = no_slots_give f t }

  pub ends_down : (lane : ℕ) (c : Stored) → (f.slot + 1 ≡ family.count → ⊥) → lane ≡ get_or (paths_of h s family.number) (f.slot + 1) 0
      → c ≡ child_of (f.slot + 1) (record { source = lane; cut = 0; reverse = false }) t → Ends s h family f len (Down c)
  ends_down lane c n el ec =
      let m : suc f.slot ≡ family.count → ⊥ = λ q. n (omega arith) in
      let below : f.slot + 1 < family.count = omega arith in
      let named : lane < h.lanes = path_named s h family (f.slot + 1) lane acc g below el in
      record {
        task = λ a. rw (length_paths, ne_eqb (suc f.slot) family.count m, paths_are s h family.number acc.counted.framed, ec, et, el, next_slot f.slot, add-one);
        going = refl;
        child = λ d q. down_child d q named below;
        slots = λ d q. next_slots f d (down_slot d q);
      }
    where
      down_slot : (d : Stored) → Down c ≡ Down d → d.slot ≡ f.slot + 1
      down_slot d q =
          let same : d ≡ child_of (f.slot + 1) (record { source = lane; cut = 0; reverse = false }) t = cc in
          ap (λ (x : Stored). x.slot) same

      down_child : (d : Stored) → Down c ≡ Down d → lane < h.lanes → f.slot + 1 < family.count → Child s h family.count d
      down_child d q named below =
          let same : d ≡ child_of (f.slot + 1) (record { source = lane; cut = 0; reverse = false }) t = cc in
          rw same (record { lane = named; slot = below; waiting = refl; no_next = refl; no_hub = refl; closed = refl })

-- ---- the lane of a frame, as the code and as the walk see it

module _ (s : List ℕ) (h : Header) (l : Lane) (f : Stored) (acc : Accepted s h) (st : Stands s h l) (here : l.number ≡ f.source) where
  len_here : (lane_at (panel_of s) f.source).len ≡ l.len
  len_here = (panel_entry s h f.source acc.counted.framed).0 ∙ ap (λ (n : ℕ). (get_or (entries h s) n no_entry).len) (sym here) ∙ sym st.len

  pub count_here : get_or (counts h s) f.source 0 ≡ l.count
  count_here = ap (λ (n : ℕ). get_or (counts h s) n 0) (sym here) ∙ sym st.count

  ports-here : (lane_at (panel_of s) f.source).ports ≡ ports_of h s l.number
  ports-here = let low : f.source < h.lanes = rw (← here) st.lane in panel_ports s h f.source acc.counted.framed low ∙ ap (ports_of h s) (sym here)

  ports_length : length (lane_at (panel_of s) f.source).ports ≡ l.count
  ports_length = ap length ports-here ∙ row_length s h l st

  -- what a unit leaves of a sound frame is sound
  sound_of : (n : ℕ) (g : Stored) (next lo hi : ℕ) → Sound s h n f → g ≡ moved_to f next lo hi → next ≤ l.count + 1 → hi ≤ h.ports → (0 < hi → behind f.reverse next < l.count)
      → (0 < hi → f.reverse ≡ false → 2 ≤ next) → Sound s h n g
  sound_of n g next lo hi so e a b c d =
      rw e
      (record {
        lane = so.lane;
        slot = so.slot;
        ports = rw count_here a;
        hub = b;
        opened = λ z. rw count_here (c z);
        second = d;
        waiting = λ z. (let q : ◌≡◌ {A = ℕ} 0 1 = cc in absurd (omega arith));
      })

alike_moved : (f g : Stored) (next lo hi : ℕ) → g ≡ moved_to f next lo hi → Alike g f
alike_moved f g next lo hi e = rw e (record { slot = refl; source = refl; reverse = refl; start = refl; end = refl })

-- no hub is open
shut : (p : Panel) (f : Frame) (flag : Bool) → f.hub_end ≡ 0 → Flagged p f flag
shut p f flag e = record { told = λ o. (let q = ltb-true 0 f.hub_end o in absurd (omega arith)) }

act_stays : (a : Path) (f : Stored) (r : Action) (g : Stored) → stays r ≡ true → act_of a f r g ≡ doing (task_of a f r) (frame_with a g)
act_stays a f Leave g e = let z : ◌≡◌ {A = ℕ} 0 1 = cc in absurd (omega arith)
act_stays a f Pass g e = refl
act_stays a f (Down c) g e = refl
act_stays a f (Give t) g e = refl

stays_left : (r : Action) (flag : Bool) → stays r ≡ true → r ≡ Leave → flag ≡ true
stays_left r flag e q = let w : stays Leave ≡ true = rw q at e in let z : ◌≡◌ {A = ℕ} 0 1 = cc in absurd (omega arith)

pass_not_left : (flag : Bool) → Pass ≡ Leave → flag ≡ true
pass_not_left flag e = let z : ◌≡◌ {A = ℕ} 0 1 = cc in absurd (omega arith)

pass_not_down : (flag : Bool) (c : Stored) → Pass ≡ Down c → flag ≡ true
pass_not_down flag c e = let z : ◌≡◌ {A = ℕ} 0 1 = cc in absurd (omega arith)

-- ---- the terminal

module _ (s : List ℕ) (h : Header) (family : Family) (l : Lane) (xs : List ℕ) (top : ℕ) (f : Stored) (on : On s h family l xs top f) (term : f.terminal ≡ true) (target : ℕ) (b : Bool) (g : Stored)
    (et : target ≡ get_or (paths_of h s family.number) f.slot 0) (eb : b ≡ closes_by target l.len f (pieces xs top)) (eg : g ≡ moved_to f f.next f.hub_next f.hub_end) where
  closes_here : closes (panel_of s) (paths_at (panel_of s) family.number) (place_with (path_at xs top) f) ≡ b
  closes_here = rw (paths_are s h family.number on.accepted.counted.framed, len_here s h l f on.accepted on.stands on.here, path_pieces xs top, ← et) (sym eb)

  task_here : unit_of (panel_of s) (paths_at (panel_of s) family.number) (frame_with (path_at xs top) f)
      ≡ doing (pick b (closing_task (paths_at (panel_of s) family.number) (path_at xs top) f l.len) pass) (frame_with (path_at xs top) g)
  unfolding unit_of terminal_task
  task_here = rw (term, closes_here, len_here s h l f on.accepted on.stands on.here, eg)

  term_sound : Sound s h family.count g
  term_sound =
      let none = on.sound.waiting term in
      let few = on.sound.ports in
      let here = count_here s h l f on.accepted on.stands on.here in
      sound_of s h l f on.accepted on.stands on.here family.count g f.next f.hub_next f.hub_end on.sound eg (omega arith) on.sound.hub (λ z. absurd (omega arith)) (λ z. absurd (omega arith))

  term_shut : Flagged (panel_of s) (frame_with (path_at xs top) g) true
  term_shut = rw eg (shut (panel_of s) (frame_with (path_at xs top) (moved_to f f.next f.hub_next f.hub_end)) true (on.sound.waiting term))

  pub term_pass : b ≡ false → Turned s h family (path_at xs top) f (record { action = Pass; frame = g; taken = 0; clear = true })
  term_pass not_so =
      record {
        act = sym (task_here ∙ rw not_so);
        taken = rw term;
        alike = alike_moved f g f.next f.hub_next f.hub_end eg;
        sound = term_sound;
        child = no_child_pass s h family.count;
        slots = no_slots_pass f;
        flagged = term_shut;
        kept = λ c e. refl;
        left = λ e. refl;
      }

  pub term_ends : (r : Action) → b ≡ true → Ends s h family f l.len r → Turned s h family (path_at xs top) f (record { action = r; frame = g; taken = 0; clear = true })
  term_ends r it e =
      record {
        act = act_stays (path_at xs top) f r g e.going ∙ rw (e.task (path_at xs top)) (sym (task_here ∙ rw it));
        taken = rw term;
        alike = alike_moved f g f.next f.hub_next f.hub_end eg;
        sound = term_sound;
        child = e.child;
        slots = e.slots;
        flagged = term_shut;
        kept = λ c q. refl;
        left = λ q. refl;
      }

-- ---- a hub member

hub_lane : (s : List ℕ) (h : Header) (i : ℕ) → Accepted s h → i < h.ports → (get_or (hub h s) i no_port).source < h.lanes
unfolding hub sound_place
hub_lane s h i acc lt =
    let p = get_or (hub h s) i no_port in
    let ok = record_sound s h h.hub_at i acc.hub_records lt in
    ltb-true p.source h.lanes (both (ltb p.source h.lanes) (leb (p.anchor + h.k) (get_or (entries h s) p.source no_entry).len) ok).0

and_false : (b : Bool) → b && false ≡ false
and_false true = refl
and_false false = refl

or_true : (b : Bool) → b || true ≡ true
or_true true = refl
or_true false = refl

pub meets_blocked : (s : List ℕ) (h : Header) (family : Family) (f : Stored) (flag : Bool) → flag ≡ false → Meets s h family f flag Pass
unfolding member_task
meets_blocked s h family f flag off =
    record { task = λ a q. rw (← q, off, or_true (same_place (panel_of s).k (get_or (panel_of s).hub f.hub_next no_port) (get_or (lane_at (panel_of s) f.source).ports (behind f.reverse f.next) no_port))); going = refl; child = no_child_pass s h family.count; slots = no_slots_pass f; kept = pass_not_down flag }

module _ (s : List ℕ) (h : Header) (family : Family) (l : Lane) (f : Stored) (flag b : Bool) (i : ℕ) (out to : Landing) (acc : Accepted s h) (st : Stands s h l) (here : l.number ≡ f.source)
    (so : Sound s h family.count f) (lt : f.hub_next < f.hub_end) (ei : i ≡ behind f.reverse f.next) (eo : out ≡ landing_of h.k (get_or (ports_of h s l.number) i no_port))
    (eto : to ≡ landing_of h.k (get_or (hub h s) f.hub_next no_port)) (eb : b ≡ (eqb to.source out.source && (eqb to.cut out.cut && beq to.reverse out.reverse))) where
  place_told : same_place (panel_of s).k (get_or (panel_of s).hub f.hub_next no_port) (get_or (lane_at (panel_of s) f.source).ports (behind f.reverse f.next) no_port) ≡ b
  unfolding landing_of
  place_told = rw (panel_k s h acc.counted.framed, panel_hub s h acc.counted.framed, ports-here s h l f acc st here, ← ei) (sym (eb ∙ landings_same to out ∙ rw (eto, eo)))

  pub meets_itself : b ≡ true → Meets s h family f flag Pass
  unfolding member_task
  meets_itself it = record { task = λ a q. rw (place_told, it); going = refl; child = no_child_pass s h family.count; slots = no_slots_pass f; kept = pass_not_down flag }

  pub meets_down : (t : Segment) (c : Stored) → b ≡ false → flag ≡ true → t ≡ piece_to (bare f) out.cut → c ≡ child_of f.slot to t → Meets s h family f flag (Down c)
  unfolding member_task landing_of
  meets_down t c not_so it et ec =
      let most = so.hub in
      let low : f.hub_next < h.ports = omega arith in
      let named = hub_lane s h f.hub_next acc low in
      record {
        task = λ a q.
            rw
            (place_told, not_so, ← q, it, ec, et, eto, eo, ei, panel_k s h acc.counted.framed, panel_hub s h acc.counted.framed, ports-here s h l f acc st here, eq-eqb f.slot f.slot refl);
        going = refl;
        child = λ d q. down_child d q (rw eto named);
        slots = λ d q. same_slots f d (down_slot d q);
        kept = λ d q. it;
      }
    where
      down_slot : (d : Stored) → Down c ≡ Down d → d.slot ≡ f.slot
      down_slot d q =
          let same : d ≡ child_of f.slot to t = cc in
          ap (λ (x : Stored). x.slot) same

      down_child : (d : Stored) → Down c ≡ Down d → to.source < h.lanes → Child s h family.count d
      down_child d q named =
          let same : d ≡ child_of f.slot to t = cc in
          rw same (record { lane = named; slot = so.slot; waiting = refl; no_next = refl; no_hub = refl; closed = refl })

-- ---- the open hub

module _ (s : List ℕ) (h : Header) (family : Family) (l : Lane) (xs : List ℕ) (top : ℕ) (f : Stored) (flag : Bool) (g : Stored) (on : On s h family l xs top f) (term : f.terminal ≡ false)
    (some : f.hub_end ≡ 0 → ⊥) (knows : Flagged (panel_of s) (frame_with (path_at xs top) f) flag) where
  is_open : ltb 0 f.hub_end ≡ true
  is_open = lt-ltb 0 f.hub_end (omega arith)

  hub_sound : (lo : ℕ) → g ≡ moved_to f f.next lo f.hub_end → Sound s h family.count g
  hub_sound lo eg =
      let few = on.sound.ports in
      let here = count_here s h l f on.accepted on.stands on.here in
      sound_of s h l f on.accepted on.stands on.here family.count g f.next lo f.hub_end on.sound eg (omega arith) on.sound.hub (λ z. rw (← here) (on.sound.opened z)) on.sound.second

  pub hub_member : (r : Action) → f.hub_next < f.hub_end → Meets s h family f flag r → g ≡ moved_to f f.next (f.hub_next + 1) f.hub_end
      → Turned s h family (path_at xs top) f (record { action = r; frame = g; taken = 1; clear = flag })
  unfolding unit_of hub_unit
  hub_member r lt m eg =
      record {
        act = act_stays (path_at xs top) f r g m.going ∙ rw (m.task (path_at xs top) (knows.told is_open), eg, add-one, term, is_open, lt-ltb f.hub_next f.hub_end lt);
        taken = rw (term, is_open, lt-ltb f.hub_next f.hub_end lt);
        alike = alike_moved f g f.next (f.hub_next + 1) f.hub_end eg;
        sound = hub_sound (f.hub_next + 1) eg;
        child = m.child;
        slots = m.slots;
        flagged = rw eg (record { told = λ o. knows.told is_open });
        kept = m.kept;
        left = stays_left r flag m.going;
      }

  pub hub_close : (w : Bool) → f.hub_end ≤ f.hub_next → g ≡ moved_to f f.next 0 0 → Turned s h family (path_at xs top) f (record { action = Pass; frame = g; taken = 0; clear = w })
  unfolding unit_of hub_unit
  hub_close w le eg =
      let few = on.sound.ports in
      let here = count_here s h l f on.accepted on.stands on.here in
      record {
        act = rw (eg, term, is_open, le-ltb f.hub_next f.hub_end le);
        taken = rw (term, is_open, le-ltb f.hub_next f.hub_end le);
        alike = alike_moved f g f.next 0 0 eg;
        sound = sound_of s h l f on.accepted on.stands on.here family.count g f.next 0 0 on.sound eg (omega arith) (omega arith) (λ z. absurd (omega arith)) (λ z. absurd (omega arith));
        child = no_child_pass s h family.count;
        slots = no_slots_pass f;
        flagged = rw eg (shut (panel_of s) (frame_with (path_at xs top) (moved_to f f.next 0 0)) w refl);
        kept = pass_not_down w;
        left = pass_not_left w;
      }

-- ---- the next port

onward_small : (b : Bool) (n : ℕ) → onward b n ≤ n + 1
onward_small true n = omega arith
onward_small false n = omega arith

onward_behind : (b : Bool) (n : ℕ) → 0 < n → behind b (onward b n) ≡ n - 1
onward_behind true n h = refl
onward_behind false n h = omega arith

onward_second : (b : Bool) (n : ℕ) → 0 < n → b ≡ false → 2 ≤ onward b n
onward_second b n h e = rw e (omega arith)

few_more : (b : Bool) (c n : ℕ) → c ≤ n → one_more_if b c ≤ suc n
few_more true c n h = omega arith
few_more false c n h = omega arith

count_few : {A : Type 0} (f : A → Bool) (l : List A) → count f l ≤ length l
unfolding count
count_few f [] = omega arith
count_few f (x ∷ l) = few_more (f x) (count f l) (length l) (count_few f l)

-- a lane has no more ports of a kind than ports
few-ports : (s : List ℕ) (h : Header) (n : ℕ) → Accepted s h → n < h.lanes → (f : Port → Bool) → count f (lane_at (panel_of s) n).ports ≤ get_or (counts h s) n 0
unfolding ports_of
few-ports s h n acc lt f =
    let c = count_few f (lane_at (panel_of s) n).ports in
    let total = acc.counted.total in
    let room : sum (counts h s) ≤ length (lane_ports h s) = (let e = lane_ports_length s h in omega arith) in
    let e : length (lane_at (panel_of s) n).ports ≡ get_or (counts h s) n 0 = ap length (panel_ports s h n acc.counted.framed lt) ∙ split_length (counts h s) (lane_ports h s) n room in
    omega arith

module _ (s : List ℕ) (h : Header) (family : Family) (l : Lane) (xs : List ℕ) (top : ℕ) (f : Stored) (on : On s h family l xs top f) (term : f.terminal ≡ false) (none : f.hub_end ≡ 0) where
  is_shut : ltb 0 f.hub_end ≡ false
  is_shut = le-ltb 0 f.hub_end (omega arith)

  leave_turned : (t : Turn) → t ≡ leaving f → spent (panel_of s) (frame_with (path_at xs top) f) ≡ true → Turned s h family (path_at xs top) f t
  unfolding unit_of port_unit
  leave_turned t e q =
      rw e
      (record {
        act = rw (term, is_shut, q);
        taken = rw (term, is_shut);
        alike = record { slot = refl; source = refl; reverse = refl; start = refl; end = refl };
        sound = on.sound;
        child = λ c z. (let y : ◌≡◌ {A = ℕ} 0 1 = cc in absurd (omega arith));
        slots = no_slots_leave f;
        flagged = shut (panel_of s) (frame_with (path_at xs top) f) true none;
        kept = λ c z. refl;
        left = λ z. refl;
      })

  pub leave_none : (t : Turn) → t ≡ leaving f → f.next ≡ 0 → Turned s h family (path_at xs top) f t
  leave_none t e z = leave_turned t e (rw (eq-eqb f.next 0 z))

  pub leave_past : (t : Turn) → t ≡ leaving f → (f.next ≡ 0 → ⊥) → l.count < f.next → Turned s h family (path_at xs top) f t
  leave_past t e n lt =
      leave_turned t e (rw (ne_eqb f.next 0 n, ports_length s h l f on.accepted on.stands on.here, lt-ltb l.count f.next lt))

  module _ (some : 0 < f.next) (few : f.next ≤ l.count) (q : Landing) (next : ℕ) (b : Bool) (g : Stored) (eq : q ≡ landing_of h.k (get_or (ports_of h s l.number) (f.next - 1) no_port))
      (en : next ≡ onward f.reverse f.next) (eb : b ≡ same_turn q.reverse f.reverse) where
    unspent : spent (panel_of s) (frame_with (path_at xs top) f) ≡ false
    unspent =
        let n : f.next ≡ 0 → ⊥ = λ z. omega arith in
        rw (ne_eqb f.next 0 n, ports_length s h l f on.accepted on.stands on.here, le-ltb l.count f.next few)

    turn_told : same_turn (get_or (lane_at (panel_of s) f.source).ports (f.next - 1) no_port).reverse f.reverse ≡ b
    unfolding landing_of
    turn_told = rw (ports-here s h l f on.accepted on.stands on.here) (sym (eb ∙ rw eq))

    next_sound : (lo hi : ℕ) → g ≡ moved_to f next lo hi → hi ≤ h.ports → Sound s h family.count g
    next_sound lo hi eg most =
        let o = onward_small f.reverse f.next in
        sound_of s h l f on.accepted on.stands on.here family.count g next lo hi on.sound eg (omega arith) most (λ z. rw (en, onward_behind f.reverse f.next some) (omega arith))
        (λ z e. rw en (onward_second f.reverse f.next some e))

    pub port_other : (w : Bool) → b ≡ false → g ≡ moved_to f next 0 0 → Turned s h family (path_at xs top) f (record { action = Pass; frame = g; taken = 0; clear = w })
    unfolding unit_of port_unit
    port_other w not_so eg =
        record {
          act = rw (eg, en, term, is_shut, unspent, turn_told, not_so);
          taken = rw (term, is_shut);
          alike = alike_moved f g next 0 0 eg;
          sound = next_sound 0 0 eg (omega arith);
          child = no_child_pass s h family.count;
          slots = no_slots_pass f;
          flagged = rw eg (shut (panel_of s) (frame_with (path_at xs top) (moved_to f next 0 0)) w refl);
          kept = pass_not_down w;
          left = pass_not_left w;
        }

    most_members : (m : Members) → m ≡ bucket_of (get_or (ports_of h s l.number) (f.next - 1) no_port).word (panel_of s).hub → m.hi ≤ h.ports
    unfolding bucket_of
    most_members m e =
        let c = count_few (word_up_to (get_or (ports_of h s l.number) (f.next - 1) no_port).word) (panel_of s).hub in
        let n : length (panel_of s).hub ≡ h.ports = ap length (panel_hub s h on.accepted.counted.framed) ∙ hub_length s h in
        rw e (omega arith)

    flag_opened : (t : Segment) (w : Bool) → t ≡ piece_to (bare f) q.cut → w ≡ clear t (pieces xs top)
        → w ≡ clear (reach (panel_of s) (place_with (path_at xs top) f) (get_or (lane_at (panel_of s) f.source).ports (behind f.reverse next) no_port)) (on_path (place_with (path_at xs top) f))
    unfolding landing_of
    flag_opened t w et ew =
        ew ∙ rw (et, eq, en, onward_behind f.reverse f.next some, ports-here s h l f on.accepted on.stands on.here, panel_k s h on.accepted.counted.framed, path_pieces xs top)

    pub port_opens : (m : Members) (t : Segment) (w : Bool) → b ≡ true → m ≡ bucket_of (get_or (ports_of h s l.number) (f.next - 1) no_port).word (panel_of s).hub → t ≡ piece_to (bare f) q.cut
        → w ≡ clear t (pieces xs top) → g ≡ moved_to f next m.lo m.hi → Turned s h family (path_at xs top) f (record { action = Pass; frame = g; taken = 0; clear = w })
    unfolding unit_of port_unit
    port_opens m t w it em et ew eg =
        record {
          act = rw (eg, en, em, term, is_shut, unspent, turn_told, it, ports-here s h l f on.accepted on.stands on.here);
          taken = rw (term, is_shut);
          alike = alike_moved f g next m.lo m.hi eg;
          sound = next_sound m.lo m.hi eg (most_members m em);
          child = no_child_pass s h family.count;
          slots = no_slots_pass f;
          flagged = rw eg (record { told = λ o. flag_opened t w et ew });
          kept = pass_not_down w;
          left = pass_not_left w;
        }

-- ---- on the stack

-- ---- entering a place

module _ (s : List ℕ) (h : Header) (l : Lane) (f : Stored) (n : ℕ) (acc : Accepted s h) (st : Stands s h l) (here : l.number ≡ f.source) (en : n ≡ count (reached h.k f.reverse f.cut) (ports_of h s l.number)) where
  pub enter_fits : Fits w64 (n + 1)
  enter_fits =
      let c = count_few (reached h.k f.reverse f.cut) (ports_of h s l.number) in
      let w = row_length s h l st in
      let z : n + 1 < 8388608 = (let m = lane_within s h l st in omega (arith, st.counted.framed.few_ports)) in
      Fits-under w64 (n + 1) 8388608 z tt

  pub enter_reverse : f.reverse ≡ true
      → ◌≡◌ {A = Stored} (record { slot = f.slot; source = f.source; cut = f.cut; reverse = f.reverse; terminal = f.terminal; next = n; hub_next = f.hub_next; hub_end = f.hub_end; start = f.start; end = f.end })
      (entered (panel_of s) f)
  unfolding entered reached
  enter_reverse e = rw (en, e, panel_k s h acc.counted.framed, ports-here s h l f acc st here)

  pub enter_forward : f.reverse ≡ false
      → ◌≡◌ {A = Stored} (record { slot = f.slot; source = f.source; cut = f.cut; reverse = f.reverse; terminal = f.terminal; next = n + 1; hub_next = f.hub_next; hub_end = f.hub_end; start = f.start; end = f.end })
      (entered (panel_of s) f)
  unfolding entered reached
  enter_forward e = rw (en, e, panel_k s h acc.counted.framed, ports-here s h l f acc st here, add-one)

-- the first port goes by lane, cut and orientation alone
first_bare : (p : Panel) (a : Path) (c : Stored) (b : Bool) → first_port p (bare c) b ≡ first_port p (place_with a c) b
first_bare p a c true = refl
first_bare p a c false = refl

-- the frame of a child, entered
pub enter_child : (s : List ℕ) (h : Header) (n : ℕ) (p : Panel) (a : Path) (c : Stored) → Child s h n c → frame_with a (entered p c) ≡ enter p (place_with a c)
unfolding entered enter
enter_child s h n p a c k =
    let e = first_bare p a c c.reverse in
    λ i. record { place = place_with a c; terminal = k.waiting i; next = e i; hub_next = k.no_hub i; hub_end = k.closed i }

pub enter_alike : (p : Panel) (c : Stored) → Alike (entered p c) c
unfolding entered
enter_alike p c = record { slot = refl; source = refl; reverse = refl; start = refl; end = refl }

-- an entered child is sound, and has no hub open
pub enter_sound : (s : List ℕ) (h : Header) (n : ℕ) (c : Stored) → Accepted s h → Child s h n c → Sound s h n (entered (panel_of s) c)
unfolding entered
enter_sound s h n c acc k =
    record {
      lane = k.lane;
      slot = k.slot;
      ports = first_few c.reverse;
      hub = rw k.closed (omega arith);
      opened = λ z. absurd (let e = k.closed in omega arith);
      second = λ z. absurd (let e = k.closed in omega arith);
      waiting = λ z. k.closed;
    }
  where
    few : (f : Port → Bool) → count f (lane_at (panel_of s) c.source).ports ≤ get_or (counts h s) c.source 0
    few f = few-ports s h c.source acc k.lane f

    first_few : (b : Bool) → first_port (panel_of s) (bare c) b ≤ get_or (counts h s) c.source 0 + 1
    first_few true = let m = few (λ q. ltb (cut_as (panel_of s).k true q.anchor) c.cut) in omega arith
    first_few false = let m = few (λ q. leb (cut_as (panel_of s).k false q.anchor) c.cut) in omega arith

pub enter_shut : (p q : Panel) (a : Path) (s : List ℕ) (h : Header) (n : ℕ) (c : Stored) (flag : Bool) → Child s h n c → Flagged p (frame_with a (entered q c)) flag
unfolding entered
enter_shut p q a s h n c flag k = shut p (frame_with a (entered q c)) flag k.closed

-- ---- small functions

-- ---- a frame whose ports ahead are all blocked

module _ (k : ℕ) (f : Stored) (ps : List Port) (i j : ℕ) (out : Landing) (eo : out ≡ landing_of k (get_or ps i no_port)) (ei : i ≡ j) where
  same_told : same_turn (get_or ps j no_port).reverse f.reverse ≡ beq out.reverse f.reverse
  unfolding landing_of
  same_told = rw (turns_same out.reverse f.reverse, eo, ei)

  pub leads_reverse : not (beq out.reverse f.reverse) ≡ false → f.reverse ≡ true → leb out.cut f.cut ≡ leads_on k f (get_or ps j no_port)
  unfolding landing_of
  leads_reverse it e = rw (same_told, not-false (beq out.reverse f.reverse) it, e, eo, ei)

  pub leads_forward : not (beq out.reverse f.reverse) ≡ false → f.reverse ≡ false → leb f.cut out.cut ≡ leads_on k f (get_or ps j no_port)
  unfolding landing_of
  leads_forward it e = rw (same_told, not-false (beq out.reverse f.reverse) it, e, eo, ei)

  pub leads_not : not (beq out.reverse f.reverse) ≡ true → false ≡ leads_on k f (get_or ps j no_port)
  leads_not not_so = rw (same_told, not-true (beq out.reverse f.reverse) not_so)

module _ (s : List ℕ) (h : Header) (l : Lane) (f g : Stored) (q : Landing) (next : ℕ) (eq : q ≡ landing_of h.k (get_or (ports_of h s l.number) (f.next - 1) no_port)) (en : next ≡ onward f.reverse f.next) where
  pub past_opens : (m : Members) → beq q.reverse f.reverse ≡ true → m ≡ bucket_of (get_or (ports_of h s l.number) (f.next - 1) no_port).word (panel_of s).hub → g ≡ moved_to f next m.lo m.hi → Past s h l f g
  unfolding landing_of
  past_opens m it em eg = record { how = inl (sym (turns_same q.reverse f.reverse ∙ rw eq) ∙ it, (m, (em, rw (← en) eg))) }

  pub past_other : beq q.reverse f.reverse ≡ false → g ≡ moved_to f next 0 0 → Past s h l f g
  unfolding landing_of
  past_other not_so eg = record { how = inr (sym (turns_same q.reverse f.reverse ∙ rw eq) ∙ not_so, rw (← en) eg) }

pub next_small : (s : List ℕ) (h : Header) (l : Lane) (n : ℕ) → Stands s h l → n ≤ l.count → n ≤ 4194304
next_small s h l n st le = let w = lane_within s h l st in omega (arith, st.counted.framed.few_ports)

-- a longer piece shares a base with all that a shorter one does
module _ (s t : Segment) (lane : s.source ≡ t.source) (before : t.start ≤ s.start) (behind : s.end ≤ t.end) where
  overlap_more : (u : Segment) → overlap s u ≡ true → overlap t u ≡ true
  overlap_more u e =
      let one = both (eqb s.source u.source && ltb s.start u.end) (ltb u.start s.end) e in
      let two = both (eqb s.source u.source) (ltb s.start u.end) one.0 in
      let a = ltb-true s.start u.end two.1 in
      let b = ltb-true u.start s.end one.1 in
      rw (← lane, two.0, lt-ltb t.start u.end (omega (arith, before)), lt-ltb u.start t.end (omega (arith, behind)))

  clear_less : (l : List Segment) → clear s l ≡ false → clear t l ≡ false
  unfolding all
  clear_less [] e = e
  clear_less (u ∷ l) e = go (overlap s u) refl (λ q. clear_less l q)
    where
      go : (b : Bool) → overlap s u ≡ b → (clear s l ≡ false → clear t l ≡ false) → not (overlap t u) && all (λ v. not (overlap t v)) l ≡ false
      go true q rest = rw (overlap_more u q)
      go false q rest = rw (rest (rw q at e)) (and_false (not (overlap t u)))

pick_first : (r x y : Bool) → pick r x y ≡ true → r ≡ true → x ≡ true
pick_first r x y e t = rw t at e

pick_second : (r x y : Bool) → pick r x y ≡ true → r ≡ false → y ≡ true
pick_second r x y e t = rw t at e

turn_is_is : (x y : Bool) → same_turn x y ≡ true → x ≡ y
turn_is_is true true e = refl
turn_is_is true false e = sym e
turn_is_is false true e = e
turn_is_is false false e = refl

module _ (s : List ℕ) (h : Header) (l : Lane) (a : Path) (f : Stored) (acc : Accepted s h) (st : Stands s h l) (here : l.number ≡ f.source) where
  abbrev port : ℕ → Port
  port i = get_or (ports_of h s l.number) i no_port

  abbrev out : ℕ
  out = behind f.reverse f.next

  -- where the piece to the open hub's port is not clear, and that port leads on, all ports ahead are blocked
  module _ (low : behind f.reverse f.next < l.count) (some : f.hub_end ≡ 0 → ⊥) (off : Flagged (panel_of s) (frame_with a f) false) (on : leads_on h.k f (get_or (ports_of h s l.number) (behind f.reverse f.next) no_port) ≡ true) where
    not_clear : clear (piece_to (bare f) (cut_of (port out) h.k)) (flat a.routes ++ a.route) ≡ false
    not_clear = sym (rw (ports-here s h l f acc st here, panel_k s h acc.counted.framed) at (off.told (lt-ltb 0 f.hub_end (omega arith))))

    rising : lane_rising (ports_of h s l.number) ≡ true
    rising = row_rises s h l st acc.rows

    long : length (ports_of h s l.number) ≡ l.count
    long = row_length s h l st

    turn_out : (port out).reverse ≡ f.reverse
    turn_out = turn_is_is (port out).reverse f.reverse (both (same_turn (port out).reverse f.reverse) (pick f.reverse (leb (cut_of (port out) h.k) f.cut) (leb f.cut (cut_of (port out) h.k))) on).0

    beyond : pick f.reverse (leb (cut_of (port out) h.k) f.cut) (leb f.cut (cut_of (port out) h.k)) ≡ true
    beyond = (both (same_turn (port out).reverse f.reverse) (pick f.reverse (leb (cut_of (port out) h.k) f.cut) (leb f.cut (cut_of (port out) h.k))) on).1

    ahead : (i : ℕ) → i < l.count → (f.reverse ≡ false → f.next ≤ i + 1) → (f.reverse ≡ true → i + 1 ≤ f.next) → (port i).reverse ≡ f.reverse → (r : Bool) → f.reverse ≡ r
        → clear (piece_to (bare f) (cut_of (port i) h.k)) (flat a.routes ++ a.route) ≡ false
    ahead i lt fo re turn true e =
        let le : i ≤ out = rw e (let z = re e in omega arith) in
        let an = anchors (ports_of h s l.number) rising i out le (rw long low) in
        let c = leb-true (cut_of (port out) h.k) f.cut (pick_first f.reverse _ _ beyond e) in
        let d : cut_of (port i) h.k ≤ cut_of (port out) h.k = rw (turn, turn_out) (omega arith) in
        clear_less (piece_to (bare f) (cut_of (port out) h.k)) (piece_to (bare f) (cut_of (port i) h.k)) refl (omega arith) (omega arith) (flat a.routes ++ a.route) not_clear
    ahead i lt fo re turn false e =
        let le : out ≤ i = rw e (let z = fo e in omega arith) in
        let an = anchors (ports_of h s l.number) rising out i le (rw long lt) in
        let c = leb-true f.cut (cut_of (port out) h.k) (pick_second f.reverse _ _ beyond e) in
        let d : cut_of (port out) h.k ≤ cut_of (port i) h.k = rw (turn, turn_out) (omega arith) in
        clear_less (piece_to (bare f) (cut_of (port out) h.k)) (piece_to (bare f) (cut_of (port i) h.k)) refl (omega arith) (omega arith) (flat a.routes ++ a.route) not_clear

    pub blocked_start : Blocked s h l a f
    blocked_start = record { told = λ i lt fo re same. ahead i lt fo re (turn_is_is (port i).reverse f.reverse same) f.reverse refl }

  -- and past the next port they still are
  pub blocked_past : (r : Stored) → Past s h l f r → Blocked s h l a f → Blocked s h l a r
  blocked_past r p b = go p.how
    where
      with_next : (lo hi : ℕ) → Blocked s h l a (moved_to f (onward f.reverse f.next) lo hi)
      with_next lo hi = record { told = λ i lt fo re same. b.told i lt (λ e. (let z = fo e in let y : onward f.reverse f.next ≡ suc f.next = rw e in omega arith)) (λ e. (let z = re e in let y : onward f.reverse f.next ≡ f.next - 1 = rw e in omega arith)) same }

      go : ((same_turn (port (f.next - 1)).reverse f.reverse ≡ true) × ((m : Members) × ((m ≡ bucket_of (port (f.next - 1)).word (panel_of s).hub) × (r ≡ moved_to f (onward f.reverse f.next) m.lo m.hi))))
          ⊎ ((same_turn (port (f.next - 1)).reverse f.reverse ≡ false) × (r ≡ moved_to f (onward f.reverse f.next) 0 0)) → Blocked s h l a r
      go (inl q) = rw q.1.1.1 (with_next q.1.0.lo q.1.0.hi)
      go (inr q) = rw q.1 (with_next 0 0)

  -- with another part of the open hub left too
  pub blocked_same : (lo hi : ℕ) → Blocked s h l a f → Blocked s h l a (moved_to f f.next lo hi)
  blocked_same lo hi b = record { told = b.told }

pub past_alike : (s : List ℕ) (h : Header) (l : Lane) (f r : Stored) → Past s h l f r → Alike r f × (r.terminal ≡ false)
past_alike s h l f r p = go p.how
  where
    go : ((same_turn (get_or (ports_of h s l.number) (f.next - 1) no_port).reverse f.reverse ≡ true) × ((m : Members) × ((m ≡ bucket_of (get_or (ports_of h s l.number) (f.next - 1) no_port).word (panel_of s).hub) × (r ≡ moved_to f (onward f.reverse f.next) m.lo m.hi))))
        ⊎ ((same_turn (get_or (ports_of h s l.number) (f.next - 1) no_port).reverse f.reverse ≡ false) × (r ≡ moved_to f (onward f.reverse f.next) 0 0)) → Alike r f × (r.terminal ≡ false)
    go (inl q) = (alike_moved f r _ _ _ q.1.1.1, ap (λ (x : Stored). x.terminal) q.1.1.1)
    go (inr q) = (alike_moved f r _ _ _ q.1, ap (λ (x : Stored). x.terminal) q.1)

-- the unit that it is, where no hub is open
module _ (s : List ℕ) (h : Header) (family : Family) (l : Lane) (xs : List ℕ) (top : ℕ) (f : Stored) (on : On s h family l xs top f) (term : f.terminal ≡ false) (none : f.hub_end ≡ 0) (some : 0 < f.next)
    (few : f.next ≤ l.count) (g : Stored) (p : Past s h l f g) where
  past_told : (w : Bool)
      → (same_turn (get_or (ports_of h s l.number) (f.next - 1) no_port).reverse f.reverse ≡ true → w ≡ clear (piece_to (bare f) (cut_of (get_or (ports_of h s l.number) (f.next - 1) no_port) h.k)) (pieces xs top))
      → Turned s h family (path_at xs top) f (record { action = Pass; frame = g; taken = 0; clear = w })
  unfolding landing_of
  past_told w ew = go p.how
    where
      go : ((same_turn (get_or (ports_of h s l.number) (f.next - 1) no_port).reverse f.reverse ≡ true) × ((m : Members) × ((m ≡ bucket_of (get_or (ports_of h s l.number) (f.next - 1) no_port).word (panel_of s).hub) × (g ≡ moved_to f (onward f.reverse f.next) m.lo m.hi))))
          ⊎ ((same_turn (get_or (ports_of h s l.number) (f.next - 1) no_port).reverse f.reverse ≡ false) × (g ≡ moved_to f (onward f.reverse f.next) 0 0))
          → Turned s h family (path_at xs top) f (record { action = Pass; frame = g; taken = 0; clear = w })
      go (inl q) =
          port_opens s h family l xs top f on term none some few (landing_of h.k (get_or (ports_of h s l.number) (f.next - 1) no_port)) (onward f.reverse f.next) _ g refl refl refl q.1.0
          (piece_to (bare f) (cut_of (get_or (ports_of h s l.number) (f.next - 1) no_port) h.k)) w q.0 q.1.1.0 refl (ew q.0) q.1.1.1
      go (inr q) =
          port_other s h family l xs top f on term none some few (landing_of h.k (get_or (ports_of h s l.number) (f.next - 1) no_port)) (onward f.reverse f.next) _ g refl refl refl w q.0 q.1

  -- the ports ahead are blocked
  pub past_turned : Blocked s h l (path_at xs top) f → Turned s h family (path_at xs top) f (record { action = Pass; frame = g; taken = 0; clear = false })
  past_turned b = past_told false (λ e. rw (← path_pieces xs top) (sym (b.told (f.next - 1) (omega arith) (λ z. omega arith) (λ z. omega arith) e)))

  -- no bucket opens
  pub past_shut : g.hub_end ≡ 0 → Turned s h family (path_at xs top) f (record { action = Pass; frame = g; taken = 0; clear = true })
  past_shut z =
      let t = past_told _ (λ e. refl) in
      record {
        act = t.act;
        taken = t.taken;
        alike = t.alike;
        sound = t.sound;
        child = t.child;
        slots = t.slots;
        flagged = shut (panel_of s) (frame_with (path_at xs top) g) true z;
        kept = pass_not_down true;
        left = pass_not_left true;
      }

  -- one does: the piece up to it is tested
  pub past_tested : (i : ℕ) (q : Landing) (t : Segment) (w : Bool) → i ≡ f.next - 1 → q ≡ landing_of h.k (get_or (ports_of h s l.number) i no_port) → t ≡ piece_to (bare f) q.cut → w ≡ clear t (pieces xs top)
      → Turned s h family (path_at xs top) f (record { action = Pass; frame = g; taken = 0; clear = w })
  unfolding landing_of
  past_tested i q t w ei eq et ew = past_told w (λ e. ew ∙ rw (et, eq, ei))
