-- Laws of the steps, one for each way through the code.
use Prim.Native.Nat.{ℕ, zero, suc, ◌+◌, ◌-◌, ◌*◌, ◌≤◌, ◌<◌}
use native.Mathlib.Omega.{arith}
use mathlib.Core.Path.{◌≡◌, refl, sym, ◌∙◌, ap, subst}
use mathlib.Core.Bool.{Bool, true, false, true≢false, not, ◌||◌}
use mathlib.Core.List.{List, [], ◌∷◌, ◌++◌, append_assoc, append-nil}
use lib.Dec.{leb, ltb, eqb}
use lib.ListN.{length, take, get_or, drop_of_length-le, length-take, length-append}
use lib.Seq.{slice, slice-cons, slice_empty}
use borrow.Author.Tests.{ne_eqb, le-ltb, lt-ltb, ltb-false, leb-true, leb-false, eqb-true, eqb-false}
use Rattle.ground.specs.Lists.{pick}
use Rattle.storage.specs.declared.Port.{Port}
use Rattle.storage.specs.Records.{no_port}
use Rattle.image.specs.declared.Header.{Header}
use Rattle.image.specs.declared.Family.{Family}
use Rattle.image.specs.declared.Lane.{Lane}
use Rattle.image.specs.Image.{ports_of}
use Rattle.image.specs.Inner.{Stands}
use Rattle.image.specs.Panel.{Panel, panel_of, paths_at}
use Rattle.image.proofs.Laws.{panel_ports, panel_hub, hub_length, row_length}
use Rattle.evaluate.specs.declared.Segment.{Segment}
use Rattle.search.specs.Walk.{Place, Frame, pass, down, give, Doing, doing, enter, unit_of, port_unit, terminal_task, member_task, moved, opening, next_port, spent, outgoing, hub_open, ports_here}
use Rattle.search.specs.Walk.{onward, reach, on_path, same_place}
use Rattle.evaluate.specs.Segments.{clear}
use Rattle.storage.specs.Records.{same_turn}
use Rattle.graph.specs.Lookups.{bucket_lo, bucket_hi}
use Rattle.search.specs.Rooms.{frame_width}
use Rattle.frames.specs.declared.Stored.{Stored}
use Rattle.frames.specs.Inner.{Path, path_to, path_at, stored_at, place_with, frame_with, frame_of, put, Alike}
use Rattle.frames.proofs.Laws.{length_put, stored_same, stored_below, frame_push, alike_below}
use Rattle.landings.specs.Inner.{Known}
use Rattle.advance.specs.declared.Action.{Action}
use Rattle.advance.specs.declared.Action.TheVariants.{Leave, Pass, Down, Give}
use Rattle.advance.specs.declared.Turn.{Turn}
use Rattle.advance.specs.Inner.{On, Child, Flagged, Meets, Turned, task_of, act_of, moved_to, entered}
use Rattle.advance.proofs.Laws.{enter_child, enter_alike, enter_sound, leave_none, leave_past}
use Rattle.enumeration.proofs.Sim.{tasks_of, remaining, Good, Does, hub_tasks, unit_does, enter_tasks}
use Rattle.enumeration.proofs.Stack.{enter_good}
use Rattle.engine.specs.declared.Here.{Here}
use Rattle.engine.specs.declared.Told.{Told}
use Rattle.plain.specs.Steps.{Marks, gives, task_marks, hub_marks, place_marks, listed, goes_too_deep}
use Rattle.engine.specs.Inner.{words_of, is_over, below, paths, next, come_to, place_tells, act_tells, hub_tells, ports_tell, through_marks, has_port, in_reach, Standing, Stepped, Given, InHand}
use Rattle.plain.proofs.Marks.{or_true}
use Rattle.plain.proofs.Height.{marks_through, marks}
use Rattle.plain.proofs.Tasks.{place_is, hub-tasks}
use Rattle.engine.proofs.Gathering.{or_none, step_none, step_over, step_then, path_stays, standing_next, in_hand_stays}

-- ---- an action

module _ (s : List ℕ) (here : Here) (path : List ℕ) where
  pub act_down : {slot out memo path' slot' out' : List ℕ} {l r : Told} (action : Action) (c : Stored) → action ≡ Down c → (here.top + 1 + 1) * frame_width ≤ length path
      → Stepped s (below here) path slot out l (place_tells s (below here) path c) memo path' slot' out' r
      → Stepped s (below here) path slot out l (act_tells s here path action) memo path' slot' out' r
  act_down action c e room t =
      let top = here.top in
      let place : come_to path (top + 1) c ≡ place_with (path_to (path_at path top) (stored_at path top) c) c = ap (λ (f : Frame). f.place) (frame_push path top c (omega arith)) in
      rw e (rw place at t)

  pub act_give : {slot out memo slot' out' : List ℕ} {l r : Told} (action : Action) (piece : Segment) → action ≡ Give piece → Known s here.h memo
      → Given here.family.number path slot out here.top piece l slot' out' r
      → Stepped s (below here) path slot out l (act_tells s here path action) memo path slot' out' r
  unfolding words_of listed goes_too_deep
  act_give {l = l} action piece e k g =
      rw e (record {
        tells = record { lists = λ z. g.lists; deep = λ f. g.deep ∙ or_none l.deep; stays = λ z. sym g.deep ∙ z; looks = g.looks };
        within = g.lists.within;
        written = g.lists.few;
        long_out = g.lists.long;
        stays = λ i q. refl;
        known = k;
        long_path = refl;
        long_slot = g.long_slot;
      })

  module _ {starts memo slot out : List ℕ} {l : Told} (action : Action) (stand : Standing s starts memo path slot out (below here) l) where
    act_none : task_of (path_at path here.top) (stored_at path here.top) action ≡ pass → Stepped s (below here) path slot out l (act_tells s here path action) memo path slot out l
    act_none e = rw e (step_none stand.within stand.written stand.known)

    pub act_pass : action ≡ Pass → Stepped s (below here) path slot out l (act_tells s here path action) memo path slot out l
    act_pass e = act_none (rw e refl)

    pub act_leave : action ≡ Leave → Stepped s (below here) path slot out l (act_tells s here path action) memo path slot out l
    act_leave e = act_none (rw e refl)

-- of a frame that leads as the other does
task_alike : (a : Path) (f g : Stored) (action : Action) → Alike f g → task_of a f action ≡ task_of a g action
task_alike a f g Leave k = refl
task_alike a f g Pass k = refl
task_alike a f g (Down c) k = ap (λ x. down (place_with x c)) (alike_below a f g c k)
task_alike a f g (Give piece) k = refl

-- what an action does, and the frame after it
act_told : (a : Path) (f : Stored) (action : Action) (g : Stored) (t : Doing) (m : Frame) → act_of a f action g ≡ doing t m → (task_of a f action ≡ t) × (frame_with a g ≡ m)
act_told a f Leave g t m e = let z : ◌≡◌ {A = ℕ} 0 1 = cc in let y : ⊥ = omega arith in absurd y
act_told a f Pass g t m e = (cc, cc)
act_told a f (Down c) g t m e = (cc, cc)
act_told a f (Give piece) g t m e = (cc, cc)

-- ---- a hub

hub_join : (p : Panel) (g : Place → Marks) (a : Place) (out : Port) (l m : List Port) → hub_marks p g a out (l ++ m) ≡ hub_marks p g a out l ++ hub_marks p g a out m
unfolding hub_marks
hub_join p g a out [] m = refl
hub_join p g a out (q ∷ l) m = ap (λ r. task_marks g (member_task p a out q) ++ r) (hub_join p g a out l m) ∙ sym (append_assoc (task_marks g (member_task p a out q)) (hub_marks p g a out l) (hub_marks p g a out m))

slice_none : {A : Type 0} (lo hi : ℕ) (l : List A) → hi ≤ lo → slice lo hi l ≡ []
slice_none lo hi l h = drop_of_length-le (take hi l) {i = lo} (simp length-take (omega arith))

slice_join : {A : Type 0} (d : A) (n lo mid hi : ℕ) (l : List A) → lo + n ≡ mid → mid ≤ hi → hi ≤ length l → slice lo hi l ≡ slice lo mid l ++ slice mid hi l
slice_join d zero lo mid hi l e k j = let q : lo ≡ mid = omega arith in rw (q, slice_empty mid l) refl
slice_join d (suc n) lo mid hi l e k j =
    slice-cons lo hi l d (omega arith) j ∙ ap (λ r. get_or l lo d ∷ r) (slice_join d n (suc lo) mid hi l (omega arith) k j)
    ∙ ap (λ r. r ++ slice mid hi l) (sym (slice-cons lo mid l d (omega arith) (omega arith)))

-- no member leads on where the piece up to the port is not clear
hub_blocked : (p : Panel) (g : Place → Marks) (a : Place) (out : Port) (l : List Port) → clear (reach p a out) (on_path a) ≡ false → hub_marks p g a out l ≡ []
unfolding hub_marks member_task
hub_blocked p g a out [] e = refl
hub_blocked p g a out (q ∷ l) e =
    let o : (same_place p.k q out || not (clear (reach p a out) (on_path a))) ≡ true = rw e (or_true (same_place p.k q out)) in
    rw o (hub_blocked p g a out l e)

-- the frame with another part of its hub
abbrev pub part : Stored → ℕ → ℕ → Stored
part f lo hi =
    record { slot = f.slot; source = f.source; cut = f.cut; reverse = f.reverse; terminal = f.terminal; next = f.next; hub_next = lo; hub_end = hi; start = f.start; end = f.end }

module _ (s : List ℕ) (here : Here) (lane : Lane) (path : List ℕ) (g : Stored) where
  hub_size : InHand s here lane path g → length (panel_of s).hub ≡ here.h.ports
  hub_size a = ap length (panel_hub s here.h a.on.accepted.counted.framed) ∙ hub_length s here.h

  pub hub_none : {slot out memo : List ℕ} {l : Told} → g.hub_end ≤ g.hub_next → l.listing.words ≤ length out → l.listing.written ≤ l.listing.words → Known s here.h memo
      → Stepped s (below here) path slot out l (hub_tells s here path g) memo path slot out l
  unfolding hub_marks
  hub_none k a b m = rw (slice_none g.hub_next g.hub_end (panel_of s).hub k) (step_none a b m)

  pub hub_one : {slot out memo path' slot' out' : List ℕ} {l r : Told} (action : Action) → g.hub_end - g.hub_next ≡ 1 → InHand s here lane path g
      → Flagged (panel_of s) (frame_with (path_at path here.top) g) true
      → Meets s here.h here.family g true action
      → Stepped s (below here) path slot out l (act_tells s here path action) memo path' slot' out' r
      → Stepped s (below here) path slot out l (hub_tells s here path g) memo path' slot' out' r
  unfolding hub_marks
  hub_one {slot} {out} {memo} {path'} {slot'} {out'} {l} {r} action n a fl m t =
      let p = panel_of s in
      let lo = g.hub_next in
      let hi = g.hub_end in
      let A = path_at path here.top in
      let G = next s here in
      let size = hub_size a in
      let fits = a.on.sound.hub in
      let one : hi ≡ suc lo = omega arith in
      let sl : slice lo hi p.hub ≡ get_or p.hub lo no_port ∷ [] = slice-cons lo hi p.hub no_port (omega arith) (omega arith) ∙ ap (λ r. get_or p.hub lo no_port ∷ r) (slice_none (suc lo) hi p.hub (omega arith)) in
      let opened : hub_open (frame_with A g) ≡ true = lt-ltb 0 hi (omega arith) in
      let q : Port = get_or p.hub lo no_port in
      let all : task_of A (stored_at path here.top) action ≡ member_task p (place_with A g) (outgoing p (frame_with A g)) q
      = sym (task_alike A g (stored_at path here.top) action a.alike) ∙ m.task A (fl.told opened) in
      let t' : Stepped s (below here) path slot out l (task_marks G (member_task p (place_with A g) (outgoing p (frame_with A g)) q)) memo path' slot' out' r
      = subst (λ d. Stepped s (below here) path slot out l (task_marks G d) memo path' slot' out' r) all t in
      rw (sl, append-nil (task_marks G (member_task p (place_with A g) (outgoing p (frame_with A g)) q))) t'

  module _ (lo hi : ℕ) (some : 0 < hi) (fits : hi ≤ g.hub_end) where
    pub part_hand : InHand s here lane path g → InHand s here lane path (part g lo hi)
    part_hand a =
        let o = a.on in
        let so = o.sound in
        let al = a.alike in
        let x = so.hub in
        let y = a.good.hub in
        record {
          on = record {
            accepted = o.accepted;
            groups = o.groups;
            stands = o.stands;
            here = o.here;
            room = o.room;
            sound = record {
              lane = so.lane;
              slot = so.slot;
              ports = so.ports;
              hub = omega arith;
              opened = λ z. so.opened (omega arith);
              second = λ z. so.second (omega arith);
              waiting = λ z. absurd (true≢false (sym z ∙ a.begun));
            };
          };
          alike = record { slot = al.slot; source = al.source; reverse = al.reverse; start = al.start; end = al.end };
          begun = a.begun;
          good = record { hub = omega arith; next = a.good.next };
        }

    pub part_flagged : Flagged (panel_of s) (frame_with (path_at path here.top) g) true → Flagged (panel_of s) (frame_with (path_at path here.top) (part g lo hi)) true
    part_flagged a = record { told = λ z. a.told (lt-ltb 0 g.hub_end (omega arith)) }

  pub hub_halves : {slot out memo₁ p₁ s₁ o₁ memo₂ p₂ s₂ o₂ : List ℕ} {l l₁ l₂ : Told} (mid : ℕ) → g.hub_next ≤ mid → mid ≤ g.hub_end → InHand s here lane path g
      → Stepped s (below here) path slot out l (hub_tells s here path (part g g.hub_next mid)) memo₁ p₁ s₁ o₁ l₁
      → Stepped s (below here) p₁ s₁ o₁ l₁ (hub_tells s here p₁ (part g mid g.hub_end)) memo₂ p₂ s₂ o₂ l₂
      → Stepped s (below here) path slot out l (hub_tells s here path g) memo₂ p₂ s₂ o₂ l₂
  hub_halves {p₁ = p₁} mid x y a t u =
      let top = here.top in
      let lo = g.hub_next in
      let hi = g.hub_end in
      let size = hub_size a in
      let fits = a.on.sound.hub in
      let p = panel_of s in
      let same : path_at p₁ top ≡ path_at path top = path_stays path p₁ (top + 1) t.stays top (omega arith) in
      let sl : slice lo hi p.hub ≡ slice lo mid p.hub ++ slice mid hi p.hub = slice_join no_port (mid - lo) lo mid hi p.hub (omega arith) y (omega arith) in
      rw (sl, hub_join p (next s here) (place_with (path_at path top) g) (outgoing p (frame_with (path_at path top) g)) (slice lo mid p.hub) (slice mid hi p.hub)) (step_then t (rw same at u))

-- ---- the ports

module _ (s : List ℕ) (here : Here) (lane : Lane) where
  abbrev h : Header
  h = here.h

  abbrev family : Family
  family = here.family

  abbrev top : ℕ
  top = here.top

  abbrev p : Panel
  p = panel_of s

  abbrev lanes : List ℕ
  lanes = paths s here

  abbrev frame_tasks : List ℕ → Stored → List Doing
  frame_tasks xs g = remaining p lanes (frame_with (path_at xs top) g)

  abbrev closed_of : Stored → Stored
  closed_of f = moved_to f f.next 0 0

  opening_terminal : (f : Frame) (q : Port) → (opening p f q).terminal ≡ false
  opening_terminal f q = go (same_turn q.reverse f.place.reverse)
    where
      go : (b : Bool) → (pick b (moved f (onward f.place.reverse f.next) (bucket_lo p q.word) (bucket_hi p q.word)) (moved f (onward f.place.reverse f.next) 0 0)).terminal ≡ false
      go true = refl
      go false = refl

  hub_after : (a : Path) (f : Stored) → f.terminal ≡ false
      → remaining p lanes (frame_with a f) ≡ hub_tasks p (place_with a f) (outgoing p (frame_with a f)) f.hub_next f.hub_end ++ remaining p lanes (frame_with a (closed_of f))
  hub_after a f e = rw e refl

  module _ (path : List ℕ) (g : Stored) (hand : InHand s here lane path g) (none : g.hub_end ≡ 0) where
    ports_length : length (ports_here p (place_with (path_at path top) g)) ≡ lane.count
    ports_length =
        let o = hand.on in
        let low : g.source < h.lanes = rw (← o.here) o.stands.lane in
        ap length (panel_ports s h g.source o.accepted.counted.framed low ∙ ap (ports_of h s) (sym o.here)) ∙ row_length s h lane o.stands

    is_shut : ltb 0 g.hub_end ≡ false
    is_shut = le-ltb 0 g.hub_end (omega arith)

    module _ (some : 0 < g.next) (few : g.next ≤ lane.count) where
      not_spent : spent p (frame_with (path_at path top) g) ≡ false
      not_spent =
          let e = ports_length in
          rw (ne_eqb g.next 0 (λ z. (let y : ⊥ = omega arith in y)), le-ltb (length (ports_here p (place_with (path_at path top) g))) g.next (omega arith)) refl

      unit_is_port : unit_of p lanes (frame_with (path_at path top) g) ≡ doing pass (opening p (frame_with (path_at path top) g) (next_port p (frame_with (path_at path top) g)))
      unfolding unit_of port_unit
      unit_is_port = rw (hand.begun, is_shut, not_spent) refl

      module _ (t : Turn) (turned : Turned s h family (path_at path top) g t) where
        after_port : frame_with (path_at path top) t.frame ≡ opening p (frame_with (path_at path top) g) (next_port p (frame_with (path_at path top) g))
        after_port = (act_told (path_at path top) g t.action t.frame pass _ (turned.act ∙ unit_is_port)).1

        pub port_begun : t.frame.terminal ≡ false
        port_begun = ap (λ (f : Frame). f.terminal) after_port ∙ opening_terminal (frame_with (path_at path top) g) (next_port p (frame_with (path_at path top) g))

        pub port-tasks : frame_tasks path g
            ≡ pass ∷ (hub_tasks p (place_with (path_at path top) t.frame) (outgoing p (frame_with (path_at path top) t.frame)) t.frame.hub_next t.frame.hub_end ++ frame_tasks path (closed_of t.frame))
        port-tasks =
            let d = subst (Does p lanes (frame_with (path_at path top) g)) unit_is_port (unit_does p lanes (frame_with (path_at path top) g) hand.good) in
            d.0 ∙ ap (λ (f : Frame). pass ∷ remaining p lanes f) (sym after_port) ∙ ap (λ (l : List Doing). pass ∷ l) (hub_after (path_at path top) t.frame port_begun)

        pub port_hand : InHand s here lane path t.frame
        port_hand =
            let o = hand.on in
            let k = turned.alike in
            let y = hand.alike in
            record {
              on = record { accepted = o.accepted; groups = o.groups; stands = o.stands; here = o.here ∙ sym k.source; sound = turned.sound; room = o.room };
              alike = record { slot = k.slot ∙ y.slot; source = k.source ∙ y.source; reverse = k.reverse ∙ y.reverse; start = k.start ∙ y.start; end = k.end ∙ y.end };
              begun = port_begun;
              good = subst (Good p) (sym after_port) (subst (Does p lanes (frame_with (path_at path top) g)) unit_is_port (unit_does p lanes (frame_with (path_at path top) g) hand.good)).1;
            }

    -- no port remains
    pub ports_over : pick (eqb g.next 0) false (leb g.next lane.count) ≡ false → frame_tasks path g ≡ []
    ports_over e = go (eqb g.next 0) refl
      where
        F : Frame
        F = frame_with (path_at path top) g

        gone : Turn
        gone = record { action = Leave; frame = g; taken = 0; clear = true }

        left_at : Turned s h family (path_at path top) g gone → frame_tasks path g ≡ []
        left_at k = subst (Does p lanes F) (sym k.act) (unit_does p lanes F hand.good)

        go : (b : Bool) → eqb g.next 0 ≡ b → frame_tasks path g ≡ []
        go true q = left_at (leave_none s h family lane path top g hand.on hand.begun none gone refl (eqb-true g.next 0 q))
        go false q =
            let far : lane.count < g.next = leb-false g.next lane.count (rw q at e) in
            left_at (leave_past s h family lane path top g hand.on hand.begun none gone refl (λ z. (let y : ⊥ = omega arith in y)) far)

  -- the frame with its hub closed
  closed_hand : {path : List ℕ} (f : Stored) → InHand s here lane path f → InHand s here lane path (closed_of f)
  closed_hand f a =
      let o = a.on in
      let so = o.sound in
      let al = a.alike in
      record {
        on = record {
          accepted = o.accepted;
          groups = o.groups;
          stands = o.stands;
          here = o.here;
          room = o.room;
          sound = record { lane = so.lane; slot = so.slot; ports = so.ports; hub = omega arith; opened = λ z. absurd (let y : ⊥ = omega arith in y); second = λ z. absurd (let y : ⊥ = omega arith in y); waiting = λ z. refl };
        };
        alike = record { slot = al.slot; source = al.source; reverse = al.reverse; start = al.start; end = al.end };
        begun = refl;
        good = record { hub = omega arith; next = a.good.next };
      }

  -- the frame with its hub open only if the piece up to its port is clear
  module _ {path : List ℕ} (f g : Stored) (flag : Bool) (hand : InHand s here lane path f) (flagged : Flagged p (frame_with (path_at path top) f) flag) (is : g ≡ in_reach f flag) where
    pub reach_hand : InHand s here lane path g
    reach_hand = go flag is
      where
        go : (b : Bool) → g ≡ in_reach f b → InHand s here lane path g
        go true e = rw e hand
        go false e = rw e (closed_hand f hand)

    pub reach_flagged : Flagged p (frame_with (path_at path top) g) true
    reach_flagged = go flag is flagged
      where
        go : (b : Bool) → g ≡ in_reach f b → Flagged p (frame_with (path_at path top) f) b → Flagged p (frame_with (path_at path top) g) true
        go true e k = rw e k
        go false e k = rw e (record { told = λ z. absurd (true≢false (sym z)) })

    pub reach_tells : hub_tells s here path f ≡ hub_tells s here path g
    unfolding hub_marks
    reach_tells = go flag is flagged
      where
        A : Path
        A = path_at path top

        shut_tells : hub_tells s here path (closed_of f) ≡ []
        shut_tells = ap (hub_marks p (next s here) (place_with A f) (outgoing p (frame_with A (closed_of f)))) (slice_none 0 0 p.hub (omega arith))

        blocked : Flagged p (frame_with A f) false → hub_tells s here path f ≡ []
        blocked k = cut (ltb 0 f.hub_end) refl
          where
            cut : (b : Bool) → ltb 0 f.hub_end ≡ b → hub_tells s here path f ≡ []
            cut true z = hub_blocked p (next s here) (place_with A f) (outgoing p (frame_with A f)) (slice f.hub_next f.hub_end p.hub) (sym (k.told z))
            cut false z = let n = ltb-false 0 f.hub_end z in ap (hub_marks p (next s here) (place_with A f) (outgoing p (frame_with A f))) (slice_none f.hub_next f.hub_end p.hub (omega arith))

        go : (b : Bool) → g ≡ in_reach f b → Flagged p (frame_with A f) b → hub_tells s here path f ≡ hub_tells s here path g
        go true e k = rw e refl
        go false e k = blocked k ∙ sym (rw e shut_tells)

    pub reach_closed : closed_of g ≡ closed_of f
    reach_closed = go flag is
      where
        go : (b : Bool) → g ≡ in_reach f b → closed_of g ≡ closed_of f
        go true e = rw e refl
        go false e = rw e refl

  -- the frame with its hub closed, after the hub's step
  pub shut_hand : {path path' : List ℕ} (f g : Stored) → InHand s here lane path f → g ≡ closed_of f → ((i : ℕ) → i < top + 1 → stored_at path' i ≡ stored_at path i) → length path' ≡ length path
      → InHand s here lane path' g
  shut_hand {path} {path'} f g a q st e = in_hand_stays (subst (λ (x : Stored). InHand s here lane path x) (sym q) (closed_hand f a)) st e

-- ---- the ports, one after the other

pub record PortsGoing (s starts : List ℕ) (here : Here) (lane : Lane) (path slot out : List ℕ) (first : Stored) (l : Told) (memo₁ p₁ s₁ o₁ : List ℕ) (g : Stored) (r : Told) : Type 0 where
  pub onward : (memo₂ p₂ s₂ o₂ : List ℕ) (q : Told)
      → Stepped s (below here) p₁ s₁ o₁ r (ports_tell s here p₁ g) memo₂ p₂ s₂ o₂ q
      → Stepped s (below here) path slot out l (ports_tell s here path first) memo₂ p₂ s₂ o₂ q
  pub standing : Standing s starts memo₁ p₁ s₁ o₁ (below here) r
  pub hand : InHand s here lane p₁ g
  pub closed : g.hub_end ≡ 0
  pub long_path : length p₁ ≡ length path
  pub long_slot : length s₁ ≡ length slot
  pub long_out : length o₁ ≡ length out

through_join : (g : Place → Marks) (l m : List Doing) → through_marks g (l ++ m) ≡ through_marks g l ++ through_marks g m
through_join g [] m = refl
through_join g (t ∷ l) m = ap (λ r. task_marks g t ++ r) (through_join g l m) ∙ sym (append_assoc (task_marks g t) (through_marks g l) (through_marks g m))

through_same : (p : Panel) (paths : List ℕ) (g : Place → Marks) (ts : List Doing) → marks_through (tasks_of p paths) g ts ≡ through_marks g ts
through_same p paths g [] = refl
through_same p paths g (pass ∷ ts) = through_same p paths g ts
through_same p paths g (down a ∷ ts) = ap (λ r. g a ++ r) (through_same p paths g ts)
through_same p paths g (give x ∷ ts) = ap (λ r. gives x ∷ r) (through_same p paths g ts)

module _ {s starts : List ℕ} {here : Here} {lane : Lane} {path slot out : List ℕ} {first : Stored} {l : Told} where
  module _ {memo₁ p₁ s₁ o₁ : List ℕ} {g : Stored} {r : Told} (going : PortsGoing s starts here lane path slot out first l memo₁ p₁ s₁ o₁ g r) (test : Bool) (is : test ≡ has_port r g.next lane.count) where
    pub test_some : test ≡ true → (0 < g.next) × (g.next ≤ lane.count)
    test_some e = go (is_over r) (eqb g.next 0) refl refl
      where
        go : (o b : Bool) → is_over r ≡ o → eqb g.next 0 ≡ b → (0 < g.next) × (g.next ≤ lane.count)
        go true b v q = let z : ◌≡◌ {A = Bool} true false = sym e ∙ is ∙ rw v refl in absurd (true≢false z)
        go false true v q = let z : ◌≡◌ {A = Bool} true false = sym e ∙ is ∙ rw (v, q) refl in absurd (true≢false z)
        go false false v q =
            let n : g.next ≡ 0 → ⊥ = eqb-false g.next 0 q in
            (omega arith, leb-true g.next lane.count (sym (rw (v, q) at is) ∙ e))

    pub ports_done : test ≡ false → Stepped s (below here) path slot out l (ports_tell s here path first) memo₁ p₁ s₁ o₁ r
    ports_done e = going.onward memo₁ p₁ s₁ o₁ r (go (is_over r) refl)
      where
        go : (o : Bool) → is_over r ≡ o → Stepped s (below here) p₁ s₁ o₁ r (ports_tell s here p₁ g) memo₁ p₁ s₁ o₁ r
        go true v = step_over (ports_tell s here p₁ g) v going.standing.within going.standing.written going.standing.known
        go false v =
            let none = ports_over s here lane p₁ g going.hand going.closed (sym (rw v at is) ∙ e) in
            rw none (step_none going.standing.within going.standing.written going.standing.known)

    module _ (t : Turn) (turned : Turned s here.h here.family (path_at p₁ here.top) g t) (yes : test ≡ true) (f : Stored) (reached : f ≡ in_reach t.frame t.clear) where
      in_hand : InHand s here lane p₁ t.frame
      in_hand = let m = test_some yes in port_hand s here lane p₁ g going.hand going.closed m.0 m.1 t turned

      pub ports_hub : InHand s here lane p₁ f
      ports_hub = reach_hand s here lane t.frame f t.clear in_hand turned.flagged reached

      pub ports_flagged : Flagged (panel_of s) (frame_with (path_at p₁ here.top) f) true
      ports_flagged = reach_flagged s here lane t.frame f t.clear in_hand turned.flagged reached

      -- what is left, less the port's hub
      abbrev rest : List Doing
      rest = frame_tasks s here lane p₁ (closed_of s here lane f)

      rest_is : frame_tasks s here lane p₁ (closed_of s here lane t.frame) ≡ rest
      rest_is = ap (frame_tasks s here lane p₁) (sym (reach_closed s here lane t.frame f t.clear in_hand turned.flagged reached))

      ports_split : ports_tell s here p₁ g ≡ hub_tells s here p₁ f ++ through_marks (next s here) rest
      ports_split =
          let m = test_some yes in
          let G = next s here in
          let p = panel_of s in
          let f₀ = t.frame in
          let A = path_at p₁ here.top in
          let hub = hub_tasks p (place_with A f₀) (outgoing p (frame_with A f₀)) f₀.hub_next f₀.hub_end in
          let rest₀ = frame_tasks s here lane p₁ (closed_of s here lane f₀) in
          ap (through_marks G) (port-tasks s here lane p₁ g going.hand going.closed m.0 m.1 t turned)
          ∙ through_join G hub rest₀
          ∙ ap (λ x. x ++ through_marks G rest₀) (sym (through_same p (paths s here) G hub) ∙ hub-tasks p (paths s here) G (place_with A f₀) (outgoing p (frame_with A f₀)) f₀.hub_next f₀.hub_end)
          ∙ ap (λ x. x ++ through_marks G rest₀) (reach_tells s here lane f₀ f t.clear in_hand turned.flagged reached)
          ∙ ap (λ x. hub_tells s here p₁ f ++ through_marks G x) rest_is

      module _ {memo₂ p₂ s₂ o₂ : List ℕ} {q : Told} (g₂ : Stored) (e : g₂ ≡ closed_of s here lane f) where
        left_is : {marks : Marks} → Stepped s (below here) p₁ s₁ o₁ r marks memo₂ p₂ s₂ o₂ q → frame_tasks s here lane p₂ g₂ ≡ rest
        left_is u =
            let same : path_at p₂ here.top ≡ path_at p₁ here.top = path_stays p₁ p₂ (here.top + 1) u.stays here.top (omega arith) in
            rw (same, e) refl

        pub ports_less : {marks : Marks} → Stepped s (below here) p₁ s₁ o₁ r marks memo₂ p₂ s₂ o₂ q → length (frame_tasks s here lane p₂ g₂) < length (frame_tasks s here lane p₁ g)
        ports_less u =
            let m = test_some yes in
            let y = ap length (port-tasks s here lane p₁ g going.hand going.closed m.0 m.1 t turned) in
            let hub = hub_tasks (panel_of s) (place_with (path_at p₁ here.top) t.frame) (outgoing (panel_of s) (frame_with (path_at p₁ here.top) t.frame)) t.frame.hub_next t.frame.hub_end in
            let z = length-append hub (frame_tasks s here lane p₁ (closed_of s here lane t.frame)) in
            let v = ap length rest_is in
            let w = ap length (left_is u) in
            omega arith

        pub ports_next : Stepped s (below here) p₁ s₁ o₁ r (hub_tells s here p₁ f) memo₂ p₂ s₂ o₂ q → PortsGoing s starts here lane path slot out first l memo₂ p₂ s₂ o₂ g₂ q
        ports_next u =
            let x = left_is u in
            record {
              onward = λ memo₃ p₃ s₃ o₃ q₃ v. going.onward memo₃ p₃ s₃ o₃ q₃ (rw ports_split (step_then u (rw x at v)));
              standing = standing_next going.standing refl u;
              hand = shut_hand s here lane f g₂ ports_hub e u.stays u.long_path;
              closed = ap (λ (f : Stored). f.hub_end) e;
              long_path = u.long_path ∙ going.long_path;
              long_slot = u.long_slot ∙ going.long_slot;
              long_out = u.long_out ∙ going.long_out;
            }

-- ---- the place

place_through : (p : Panel) (paths : List ℕ) (d : ℕ) (a : Place) → place_marks p paths (suc d) a ≡ through_marks (place_marks p paths d) (tasks_of p paths a)
place_through p paths d a =
    let e : marks (tasks_of p paths) d ≡ place_marks p paths d = λ i b. sym (place_is p paths d b) i in
    place_is p paths (suc d) a ∙ through_same p paths (marks (tasks_of p paths) d) (tasks_of p paths a) ∙ ap (λ (g : Place → Marks). through_marks g (tasks_of p paths a)) e

module _ (s starts path slot out : List ℕ) (here : Here) (c : Stored) (l : Told) where
  abbrev h₁ : Header
  h₁ = here.h

  abbrev family₁ : Family
  family₁ = here.family

  abbrev top₁ : ℕ
  top₁ = here.top

  pub place_deep : {memo : List ℕ} (r : Told) → here.left ≡ 0 → r ≡ record { listing = l.listing; looks = l.looks; deep = true } → Standing s starts memo path slot out here l
      → Stepped s here path slot out l (place_tells s here path c) memo path slot out r
  unfolding place_marks words_of listed goes_too_deep
  place_deep r e q a =
      rw (e, q) (record {
        tells = record { lists = λ z. absurd (true≢false z); deep = λ f. sym (or_true l.deep); stays = λ z. absurd (true≢false z); looks = refl };
        within = a.within;
        written = a.written;
        long_out = refl;
        stays = λ i k. refl;
        known = a.known;
        long_path = refl;
        long_slot = refl;
      })

  module _ {memo : List ℕ} (stand : Standing s starts memo path slot out here l) (child : Child s h₁ family₁.count c) (some : here.left ≡ 0 → ⊥) where
    abbrev path₁ : List ℕ
    path₁ = put path top₁ c

    room_here : (top₁ + 1) * frame_width ≤ length path
    room_here = let r = stand.room in omega arith

    pub place_standing : Standing s starts memo path₁ slot out (below here) l
    place_standing =
        let r = stand.room in
        let f = stand.few in
        let e = length_put path top₁ c in
        record {
          accepted = stand.accepted;
          started = stand.started;
          known = stand.known;
          groups = stand.groups;
          room = omega arith;
          few = omega arith;
          scratch = stand.scratch;
          within = stand.within;
          written = stand.written;
        }

    module _ (lane : Lane) (stands : Stands s h₁ lane) (number : lane.number ≡ c.source) (f : Stored) (is : f ≡ entered (panel_of s) c) where
      abbrev A : Path
      A = path_at path₁ top₁

      pub place_on : On s h₁ family₁ lane path₁ top₁ f
      unfolding entered
      place_on =
          rw is (record {
            accepted = stand.accepted;
            groups = stand.groups;
            stands = stands;
            here = number;
            sound = enter_sound s h₁ family₁.count c stand.accepted child;
            room = rw (length_put path top₁ c) room_here;
          })

      pub place_waits : f.terminal ≡ true
      unfolding entered
      place_waits = ap (λ (x : Stored). x.terminal) is ∙ child.waiting

      F-is : frame_with A f ≡ enter (panel_of s) (place_with A c)
      F-is = ap (frame_with A) is ∙ enter_child s h₁ family₁.count (panel_of s) A c child

      no-hub : f.hub_end ≡ 0
      unfolding entered
      no-hub = ap (λ (x : Stored). x.hub_end) is ∙ child.closed

      good_here : Good (panel_of s) (frame_with A f)
      good_here = subst (Good (panel_of s)) (sym F-is) (enter_good (panel_of s) (paths_at (panel_of s) family₁.number) (place_with A c))

      stored_here : stored_at path₁ top₁ ≡ c
      stored_here = stored_same path top₁ c room_here

      alike_here : Alike f (stored_at path₁ top₁)
      alike_here = rw (is, stored_here) (enter_alike (panel_of s) c)

      unit_ends : unit_of (panel_of s) (paths_at (panel_of s) family₁.number) (frame_with A f)
          ≡ doing (terminal_task (panel_of s) (paths_at (panel_of s) family₁.number) (place_with A f)) (moved (frame_with A f) f.next f.hub_next f.hub_end)
      unfolding unit_of
      unit_ends = rw place_waits refl

      module _ (t : Turn) (turned : Turned s h₁ family₁ A f t) where
        after_end : frame_with A t.frame ≡ moved (frame_with A f) f.next f.hub_next f.hub_end
        after_end = (act_told A f t.action t.frame _ _ (turned.act ∙ unit_ends)).1

        does_end : Does (panel_of s) (paths_at (panel_of s) family₁.number) (frame_with A f) (doing (terminal_task (panel_of s) (paths_at (panel_of s) family₁.number) (place_with A f)) (moved (frame_with A f) f.next f.hub_next f.hub_end))
        does_end = subst (Does (panel_of s) (paths_at (panel_of s) family₁.number) (frame_with A f)) unit_ends (unit_does (panel_of s) (paths_at (panel_of s) family₁.number) (frame_with A f) good_here)

        hand_first : InHand s here lane path₁ t.frame
        hand_first =
            let o = place_on in
            let k = turned.alike in
            let y = alike_here in
            record {
              on = record { accepted = o.accepted; groups = o.groups; stands = o.stands; here = o.here ∙ sym k.source; sound = turned.sound; room = o.room };
              alike = record { slot = k.slot ∙ y.slot; source = k.source ∙ y.source; reverse = k.reverse ∙ y.reverse; start = k.start ∙ y.start; end = k.end ∙ y.end };
              begun = ap (λ (x : Frame). x.terminal) after_end;
              good = subst (Good (panel_of s)) (sym after_end) does_end.1;
            }

        pub place_closed : t.frame.hub_end ≡ 0
        place_closed = ap (λ (x : Frame). x.hub_end) after_end ∙ no-hub

        module _ {memo₂ p₂ s₂ o₂ : List ℕ} {l₂ : Told}
            (acted : Stepped s (below here) path₁ slot out l (act_tells s here path₁ t.action) memo₂ p₂ s₂ o₂ l₂) where
          pub place_then : Standing s starts memo₂ p₂ s₂ o₂ (below here) l₂
          place_then = standing_next place_standing refl acted

          pub place_hand : InHand s here lane p₂ t.frame
          place_hand = in_hand_stays hand_first acted.stays acted.long_path

          pub place_done : {memo₃ p₃ s₃ o₃ : List ℕ} {l₃ : Told}
              → Stepped s (below here) p₂ s₂ o₂ l₂ (ports_tell s here p₂ t.frame) memo₃ p₃ s₃ o₃ l₃
              → Stepped s here path slot out l (place_tells s here path c) memo₃ p₃ s₃ o₃ l₃
          unfolding frame_of
          place_done {memo₃} {p₃} {s₃} {o₃} {l₃} ported =
              let p = panel_of s in
              let lanes = paths s here in
              let G = next s here in
              let same : path_at p₂ top₁ ≡ A = path_stays path₁ p₂ (top₁ + 1) acted.stays top₁ (omega arith) in
              let task : task_of A (stored_at path₁ top₁) t.action ≡ terminal_task p lanes (place_with A f)
              = sym (task_alike A f (stored_at path₁ top₁) t.action alike_here) ∙ (act_told A f t.action t.frame _ _ (turned.act ∙ unit_ends)).0 in
              let rest : remaining p lanes (frame_with (path_at p₂ top₁) t.frame) ≡ remaining p lanes (moved (frame_with A f) f.next f.hub_next f.hub_end) = rw same (ap (remaining p lanes) after_end) in
              let whole : task_marks G (task_of A (stored_at path₁ top₁) t.action) ++ through_marks G (remaining p lanes (frame_with (path_at p₂ top₁) t.frame)) ≡ through_marks G (remaining p lanes (frame_with A f))
              = rw (task, rest) (sym (ap (through_marks G) does_end.0)) in
              let n : here.left ≡ suc (here.left - 1) = omega arith in
              let spot : come_to path top₁ c ≡ place_with A c = ap (λ (x : Stored). place_with A x) stored_here in
              let all : place_tells s here path c ≡ task_marks G (task_of A (stored_at path₁ top₁) t.action) ++ through_marks G (remaining p lanes (frame_with (path_at p₂ top₁) t.frame))
              = ap (λ (d : ℕ). place_marks p lanes d (come_to path top₁ c)) n ∙ ap (place_marks p lanes (suc (here.left - 1))) spot ∙ place_through p lanes (here.left - 1) (place_with A c)
              ∙ ap (through_marks G) (sym (enter_tasks p lanes (place_with A c)) ∙ ap (remaining p lanes) (sym F-is)) ∙ sym whole in
              let both = step_then acted ported in
              rw all (record {
                tells = both.tells;
                within = both.within;
                written = both.written;
                long_out = both.long_out;
                stays = λ i k. both.stays i (omega arith) ∙ stored_below path top₁ i c k;
                known = both.known;
                long_path = both.long_path ∙ length_put path top₁ c;
                long_slot = both.long_slot;
              })

-- ---- what the calls ask

module _ {s : List ℕ} {here : Here} {lane : Lane} {path : List ℕ} {g : Stored} where
  pub hub_few : InHand s here lane path g → g.hub_end ≤ 4194304
  hub_few a = let x = a.on.sound.hub in let y = a.on.accepted.counted.framed.few_ports in omega arith

pub flagged_stays : (s path path' : List ℕ) (here : Here) (g : Stored) → ((i : ℕ) → i < here.top + 1 → stored_at path' i ≡ stored_at path i) → Flagged (panel_of s) (frame_with (path_at path here.top) g) true
    → Flagged (panel_of s) (frame_with (path_at path' here.top) g) true
flagged_stays s path path' here g f a = rw (path_stays path path' (here.top + 1) f here.top (omega arith)) a
