-- How each way through a turn of the walk keeps what it keeps to.
use Prim.Native.Nat.{ℕ, zero, suc, ◌+◌, ◌-◌, ◌*◌, ◌≤◌, ◌<◌, min}
use native.Mathlib.Nat.{eq-or-lt_of_le}
use native.Mathlib.Numerals.{add-one}
use native.Mathlib.Omega.{arith}
use native.Mathlib.Decide.{ℕ_discrete}
use mathlib.Core.Path.{◌≡◌, refl, sym, ap, ap₂, ◌∙◌}
use mathlib.Core.Bool.{Bool, true, false}
use mathlib.Core.Logic.{◌⊎◌, inl, inr}
use mathlib.Core.List.{List, [], ◌∷◌, ◌++◌, append-nil, append_assoc}
use lib.Dec.{leb, ltb}
use lib.ListN.{length, take, drop, get_or, replicate, length-append, length-replicate}
use lib.Seq.{length-take-le}
use borrow.Author.Tests.{le-leb, lt-leb, lt-ltb, le-ltb}
use Rattle.ground.specs.Lists.{pick, sum}
use Rattle.storage.specs.Records.{no_port}
use Rattle.image.specs.declared.Header.{Header}
use Rattle.image.specs.declared.Family.{Family}
use Rattle.image.specs.declared.Lane.{Lane}
use Rattle.image.specs.Image.{path_counts, paths_of, ports_of, entries, counts, start_of, no_entry}
use Rattle.image.specs.Inner.{Started, Stands, Groups}
use Rattle.image.specs.Panel.{Panel, panel_of, paths_at}
use Rattle.panel.specs.Inner.{Accepted}
use Rattle.evaluate.specs.declared.Segment.{Segment}
use Rattle.evaluate.specs.Segments.{Assignment}
use Rattle.evaluate.specs.Check.{over}
use Rattle.image.proofs.Laws.{panel_families, families_length}
use Rattle.search.specs.declared.SearchBudget.{SearchBudget}
use Rattle.search.specs.declared.Tally.{Tally}
use Rattle.search.specs.declared.Stop.{Stop}
use Rattle.search.specs.declared.Stop.TheVariants.{Exhausted, Work, Evaluation, Frontier}
use Rattle.search.specs.Walk.{Frame, enter, behind, unit_of, takes_member}
use Rattle.search.specs.Run.{Walk, going, exhausted, on_frontier, limits_of, root, stacked, begin, spend, handed, done_with, left, after_act, run}
use Rattle.search.specs.Rooms.{frame_width, place_words, frame_words, stack_words, pending_words, frames_left}
use Rattle.frames.specs.declared.Stored.{Stored}
use Rattle.frames.specs.Inner.{Path, no_path, no_segment, longer, path_to, path_at, stored_at, place_with, frame_with, put, frame_of, stack_of, Linked, Alike}
use Rattle.frames.proofs.Laws.{put_again, length_put, drop_put, stored_same, stored_below, path-at, stack_none, stack_above, stack_retop, stack_root, stack_push, length_stack, frame_below, frame_push, frame_retop, frame_root, alike_below, alike_path, linked_less, linked_root, linked_push, linked_retop, stack_suc, take_words, put_stored}
use Rattle.advance.specs.declared.Action.TheVariants.{Leave, Pass, Down, Give}
use Rattle.advance.specs.declared.Turn.{Turn}
use Rattle.advance.specs.Inner.{moved_to, On, child_of, entered, Sound, Child, Flagged, act_of, Turned, Ready, Moved, leads_on, Blocked, Past}
use Rattle.advance.proofs.Laws.{count_here, hub_member, hub_close, meets_blocked, blocked_start, blocked_same, blocked_past, past_alike, past_turned, enter_child, enter_alike, enter_sound, enter_shut, paths_are, path_named, path_some}
use Rattle.walks.specs.declared.Standing.{Standing}
use Rattle.walks.specs.declared.Halt.TheVariants.{Stopped, Due}
use Rattle.walks.specs.Inner.{spent_of, handed_of, done_of, walk_of, gone, to_go, handing, ending_of, root_of, Held, Walking, Kept, used_by, Paused, zeroed, took_of, worked_of, Under, Stuck, Further, Passed}
use Rattle.walks.proofs.Steps.{run_after, run_ended, to_go_some, to_go_work, to_go_evaluation, to_go_act}

-- ---- the room

kept_refl : (b : SearchBudget) (xs : List ℕ) → Kept b xs xs
kept_refl b xs = record { long = refl; rest = refl }

kept_on : {b : SearchBudget} {xs ys zs : List ℕ} → Kept b xs ys → Kept b ys zs → Kept b xs zs
kept_on k l = record { long = l.long ∙ k.long; rest = l.rest ∙ k.rest }

kept_put : (b : SearchBudget) (xs : List ℕ) (i : ℕ) (f : Stored) → i ≤ b.max_frontier → Kept b xs (put xs i f)
kept_put b xs i f h = record { long = length_put xs i f; rest = drop_put xs i ((b.max_frontier + 1) * frame_width) f (omega arith) }

-- ---- under way

-- in the stack loop: what is left leads to what was left where the loop began
pub record Going (s : List ℕ) (h : Header) (b : SearchBudget) (family : Family) (start : ℕ) (xs₀ : List ℕ) (t₀ : Tally) (d₀ : ℕ) (xs : List ℕ) (t : Tally) (d : ℕ) (flag : Bool) : Type 0 where
  pub total : to_go (panel_of s) b t₀ xs₀ d₀ ≡ to_go (panel_of s) b t xs d
  pub held : Held s h b family.count xs t d flag
  pub kept : Kept b xs₀ xs
  pub same : t.families ≡ family.number
  pub groups : Groups s h family
  pub more : t₀.work ≤ t.work
  pub begins : start ≡ sum (take t.families (path_counts h s))

-- in the loop over families
pub record Outer (s : List ℕ) (h : Header) (b : SearchBudget) (xs₀ : List ℕ) (t₀ : Tally) (d₀ : ℕ) (xs : List ℕ) (t : Tally) (d start : ℕ) (flag : Bool) : Type 0 where
  pub total : to_go (panel_of s) b t₀ xs₀ d₀ ≡ to_go (panel_of s) b t xs d
  pub walking : Walking s h b xs t d start flag
  pub kept : Kept b xs₀ xs
  pub more : t₀.work ≤ t.work

-- ---- a unit

pub ready_of : (s : List ℕ) (h : Header) (starts : List ℕ) (b : SearchBudget) (family : Family) (start : ℕ) (xs₀ : List ℕ) (t₀ : Tally) (d₀ : ℕ) (xs : List ℕ) (t : Tally) (d : ℕ) (flag : Bool) → Accepted s h → Started s h starts
    → Going s h b family start xs₀ t₀ d₀ xs t d flag → (d ≡ 0 → ⊥) → Ready s h starts family xs (d - 1) flag
unfolding frame_of
ready_of s h starts b family start xs₀ t₀ d₀ xs t d flag acc st g n =
    let deep = g.held.deep in
    let room = g.held.room in
    record { accepted = acc; started = st; groups = g.groups; sound = g.held.sound (d - 1) (omega arith); flagged = g.held.flagged (omega arith); room = omega arith }

pick_small : (b : Bool) → pick b 1 0 ≤ 1
pick_small true = omega arith
pick_small false = omega arith

pub taken_small : (s : List ℕ) (h : Header) (family : Family) (xs ys : List ℕ) (i : ℕ) (u : Turn) → Moved s h family xs ys i u → u.taken ≤ 1
taken_small s h family xs ys i u m = rw m.turned.taken (pick_small (takes_member (frame_with (path_at xs i) (stored_at xs i))))

-- a frame left is the family's end, or the one below goes on
left_gone : (p : Panel) (w : Walk) (k : ℕ) (rest : List Frame) → left p w k rest ≡ gone p (spend w k rest) rest
left_gone p w k [] = refl
left_gone p w k (g ∷ rest) = refl

spend_is : (t : Tally) (k : ℕ) (st rest : List Frame) → spend (walk_of t st) k rest ≡ walk_of (spent_of t k) rest
spend_is t k st rest = rw add-one

module _ (s : List ℕ) (h : Header) (b : SearchBudget) (family : Family) (start : ℕ) (xs₀ : List ℕ) (t₀ : Tally) (d₀ : ℕ) (xs : List ℕ) (t : Tally) (d : ℕ) (flag : Bool) (ys : List ℕ) (turn : Turn)
    (g : Going s h b family start xs₀ t₀ d₀ xs t d flag) (n : d ≡ 0 → ⊥) (lw : t.work < b.max_work) (le : t.evaluations < b.max_evaluations) (m : Moved s h family xs ys (d - 1) turn)
    (acc : Accepted s h) where
  -- the counters then
  abbrev u : Tally
  u = spent_of t turn.taken

  some : 0 < d
  some = omega arith

  top_room : (d - 1 + 1) * frame_width ≤ length xs
  top_room = let r = g.held.room in let e = g.held.deep in omega arith

  act_told : unit_of (panel_of s) (paths_at (panel_of s) t.families) (frame_of xs (d - 1)) ≡ act_of (path_at xs (d - 1)) (stored_at xs (d - 1)) turn.action turn.frame
  unfolding frame_of
  act_told = rw g.same (sym m.turned.act)

  taken_told : pick (takes_member (frame_of xs (d - 1))) 1 0 ≡ turn.taken
  unfolding frame_of
  taken_told = sym m.turned.taken

  step : to_go (panel_of s) b t₀ xs₀ d₀
      ≡ run (panel_of s) b (b.max_work - (t.work + 1))
      (after_act (panel_of s) (limits_of b) (walk_of t (stack_of xs d)) turn.taken (stack_of xs (d - 1)) (act_of (path_at xs (d - 1)) (stored_at xs (d - 1)) turn.action turn.frame))
  step =
      g.total ∙ to_go_act (panel_of s) b t xs d some lw _ le act_told
      ∙ ap (λ (k : ℕ). run (panel_of s) b (b.max_work - (t.work + 1)) (after_act (panel_of s) (limits_of b) (walk_of t (stack_of xs d)) k (stack_of xs (d - 1)) (act_of (path_at xs (d - 1)) (stored_at xs (d - 1)) turn.action turn.frame))) taken_told

  -- the stack with the frame as it is then
  stack_then : stack_of ys d ≡ frame_with (path_at xs (d - 1)) turn.frame ∷ stack_of xs (d - 1)
  stack_then =
      let e : d - 1 + 1 ≡ d = omega arith in
      ap₂ (λ (l : List ℕ) (k : ℕ). stack_of l k) m.room (sym e) ∙ stack_retop xs (d - 1) turn.frame top_room m.turned.alike

  below_then : stack_of ys (d - 1) ≡ stack_of xs (d - 1)
  below_then = ap (λ (l : List ℕ). stack_of l (d - 1)) m.room ∙ stack_above xs (d - 1) (d - 1) turn.frame (omega arith)

  top_stored : stored_at ys (d - 1) ≡ turn.frame
  top_stored = ap (λ (l : List ℕ). stored_at l (d - 1)) m.room ∙ stored_same xs (d - 1) turn.frame top_room

  top_path : path_at ys (d - 1) ≡ path_at xs (d - 1)
  top_path = ap (λ (l : List ℕ). path_at l (d - 1)) m.room ∙ path-at xs (d - 1) turn.frame top_room m.turned.alike

  top_frame : frame_of ys (d - 1) ≡ frame_with (path_at xs (d - 1)) turn.frame
  top_frame = ap (λ (l : List ℕ). frame_of l (d - 1)) m.room ∙ frame_retop xs (d - 1) turn.frame top_room m.turned.alike

  under : (i : ℕ) → i < d - 1 → frame_of ys i ≡ frame_of xs i
  under i l = ap (λ (z : List ℕ). frame_of z i) m.room ∙ frame_below xs (d - 1) i turn.frame l

  kept_then : Kept b xs₀ ys
  kept_then = let e = g.held.deep in rw m.room (kept_on g.kept (kept_put b xs (d - 1) turn.frame (omega arith)))

  sound_then : (i : ℕ) → (i ≡ d - 1) ⊎ (i < d - 1) → Sound s h family.count (stored_at ys i)
  sound_then i (inl e) = rw (e, top_stored) m.turned.sound
  sound_then i (inr l) = rw (m.room, stored_below xs (d - 1) i turn.frame l) (g.held.sound i (omega arith))

  room_then : (b.max_frontier + 1) * frame_width ≤ length ys
  room_then = let r = g.held.room in let e = length_put xs (d - 1) turn.frame in rw m.room (omega arith)

  linked_then : Linked ys d
  linked_then =
      let e : d - 1 + 1 ≡ d = omega arith in
      rw m.room (rw e at (linked_retop xs (d - 1) turn.frame top_room m.turned.alike (rw (← e) at g.held.linked)))

  worked_then : u.work ≤ b.max_work
  worked_then = omega arith

  taken_then : u.donors ≤ u.work
  taken_then = let k = g.held.taken in let o = taken_small s h family xs ys (d - 1) turn m in omega arith

  same_then : u.families ≡ family.number
  same_then = g.same

  begins_then : start ≡ sum (take u.families (path_counts h s))
  begins_then = g.begins

  more_then : t₀.work ≤ u.work
  more_then = let o = g.more in omega arith

  flagged_then : Flagged (panel_of s) (frame_of ys (d - 1)) turn.clear
  flagged_then = rw top_frame m.turned.flagged

  top_slots : length (path_at xs (d - 1)).routes ≡ (stored_at xs (d - 1)).slot
  unfolding frame_of
  top_slots = g.held.slots (d - 1) (omega arith)

  slots_then : (i : ℕ) → (i ≡ d - 1) ⊎ (i < d - 1) → length (frame_of ys i).place.routes ≡ (frame_of ys i).place.slot
  slots_then i (inl e) = rw (e, top_frame) (top_slots ∙ sym m.turned.alike.slot)
  slots_then i (inr l) = rw (under i l) (g.held.slots i (omega arith))

  -- d frames as they were, the top as it is then
  held_then : Held s h b family.count ys u d turn.clear
  held_then =
      record {
        deep = g.held.deep;
        small = g.held.small;
        room = room_then;
        sound = λ i l. sound_then i (eq-or-lt_of_le (omega arith));
        slots = λ i l. slots_then i (eq-or-lt_of_le (omega arith));
        settled = λ i l. rw (under i (omega arith)) (g.held.settled i l);
        flagged = λ l. flagged_then;
        linked = linked_then;
        worked = worked_then;
        taken = taken_then;
      }

  spend_told : (st : List Frame) → run (panel_of s) b (b.max_work - (t.work + 1)) (going (spend (walk_of t (stack_of xs d)) turn.taken st)) ≡ run (panel_of s) b (b.max_work - u.work) (going (walk_of u st))
  spend_told st = rw (spend_is t turn.taken (stack_of xs d) st)

  pub by_pass : turn.action ≡ Pass → Going s h b family start xs₀ t₀ d₀ ys u d turn.clear
  by_pass e =
      record {
        total =
            step
            ∙ (rw e
            (spend_told (frame_with (path_at xs (d - 1)) turn.frame ∷ stack_of xs (d - 1))
            ∙ ap (λ (st : List Frame). run (panel_of s) b (b.max_work - u.work) (going (walk_of u st))) (sym stack_then)
            ∙ sym (to_go_some (panel_of s) b u ys d some)));
        held = held_then;
        kept = kept_then;
        same = same_then;
        groups = g.groups;
        more = more_then;
        begins = begins_then;
      }

  leave_told : run (panel_of s) b (b.max_work - (t.work + 1)) (gone (panel_of s) (spend (walk_of t (stack_of xs d)) turn.taken (stack_of xs (d - 1))) (stack_of xs (d - 1))) ≡ to_go (panel_of s) b u ys (d - 1)
  unfolding to_go
  leave_told = rw (spend_is t turn.taken (stack_of xs d) (stack_of xs (d - 1)), below_then)

  pub by_leave : turn.action ≡ Leave → Going s h b family start xs₀ t₀ d₀ ys u (d - 1) turn.clear
  by_leave e =
      record {
        total = step ∙ (rw e (ap (run (panel_of s) b (b.max_work - (t.work + 1))) (left_gone (panel_of s) (walk_of t (stack_of xs d)) turn.taken (stack_of xs (d - 1))) ∙ leave_told));
        held =
            record {
              deep = let o = g.held.deep in omega arith;
              small = g.held.small;
              room = room_then;
              sound = λ i l. sound_then i (inr l);
              slots = λ i l. slots_then i (inr l);
              settled = λ i l. rw (under i (omega arith)) (g.held.settled i (omega arith));
              flagged = λ l. rw (under (d - 1 - 1) (omega arith), m.turned.left e) (g.held.settled (d - 1 - 1) (omega arith));
              linked = linked_less ys d (d - 1) linked_then (omega arith);
              worked = worked_then;
              taken = taken_then;
            };
        kept = kept_then;
        same = same_then;
        groups = g.groups;
        more = more_then;
        begins = begins_then;
      }

  -- ---- a child

  module _ (c : Stored) (ea : turn.action ≡ Down c) where
    down_room : (d - 1 + 2) * frame_width ≤ length ys
    down_room = let r = room_then in let o = g.held.deep in omega arith

    path_down : (e : Stored) → Alike e c → path_to (path_at ys (d - 1)) (stored_at ys (d - 1)) e ≡ path_to (path_at xs (d - 1)) (stored_at xs (d - 1)) c
    path_down e k =
        rw (top_path, top_stored)
        (alike_below (path_at xs (d - 1)) turn.frame (stored_at xs (d - 1)) e m.turned.alike ∙ alike_path (path_at xs (d - 1)) (stored_at xs (d - 1)) e c k)

    module _ (e : Stored) (zs : List ℕ) (ee : e ≡ entered (panel_of s) c) (ez : zs ≡ put ys d e) (lf : d < b.max_frontier) where
      alike_child : Alike e c
      alike_child = rw ee (enter_alike (panel_of s) c)

      back : d - 1 + 1 ≡ d
      back = omega arith

      frame_down : frame_with (path_to (path_at xs (d - 1)) (stored_at xs (d - 1)) c) e ≡ enter (panel_of s) (place_with (path_to (path_at xs (d - 1)) (stored_at xs (d - 1)) c) c)
      frame_down = rw ee (enter_child s h family.count (panel_of s) (path_to (path_at xs (d - 1)) (stored_at xs (d - 1)) c) c (m.turned.child c ea))

      stack_down : stack_of zs (d + 1) ≡ enter (panel_of s) (place_with (path_to (path_at xs (d - 1)) (stored_at xs (d - 1)) c) c) ∷ frame_with (path_at xs (d - 1)) turn.frame ∷ stack_of xs (d - 1)
      stack_down =
          let q : stack_of (put ys d e) (d + 1) ≡ frame_with (path_to (path_at ys (d - 1)) (stored_at ys (d - 1)) e) e ∷ stack_of ys d = rw back at (stack_push ys (d - 1) e down_room) in
          ap (λ (l : List ℕ). stack_of l (d + 1)) ez ∙ q
          ∙ ap₂ (λ (x : Frame) (l : List Frame). x ∷ l) (ap (λ (a : Path). frame_with a e) (path_down e alike_child) ∙ frame_down) stack_then

      top_down : frame_of zs d ≡ frame_with (path_to (path_at ys (d - 1)) (stored_at ys (d - 1)) e) e
      top_down = ap (λ (l : List ℕ). frame_of l d) ez ∙ (rw back at (frame_push ys (d - 1) e down_room))

      here_room : (d + 1) * frame_width ≤ length ys
      here_room = let r = room_then in omega arith

      under_down : (i : ℕ) → i < d → frame_of zs i ≡ frame_of ys i
      under_down i l = ap (λ (z : List ℕ). frame_of z i) ez ∙ frame_below ys d i e l

      sound_down : (i : ℕ) → (i ≡ d) ⊎ (i < d) → Sound s h family.count (stored_at zs i)
      sound_down i (inl q) = rw (q, ez, stored_same ys d e here_room, ee) (enter_sound s h family.count c acc (m.turned.child c ea))
      sound_down i (inr l) = rw (ez, stored_below ys d i e l) (held_then.sound i l)

      slots_down : (i : ℕ) → (i ≡ d) ⊎ (i < d) → length (frame_of zs i).place.routes ≡ (frame_of zs i).place.slot
      slots_down i (inl q) = rw (q, top_down, path_down e alike_child) (m.turned.slots c ea (path_at xs (d - 1)) top_slots ∙ sym alike_child.slot)
      slots_down i (inr l) = rw (under_down i l) (held_then.slots i l)

      settled_down : (i : ℕ) → (i ≡ d - 1) ⊎ (i < d - 1) → Flagged (panel_of s) (frame_of zs i) true
      settled_down i (inl q) = rw (q, under_down (d - 1) (omega arith)) (rw (m.turned.kept c ea) at flagged_then)
      settled_down i (inr l) = rw (under_down i (omega arith)) (held_then.settled i (omega arith))

      full_not : leb b.max_frontier (suc (length (stack_of xs (d - 1)))) ≡ false
      full_not = rw (length_stack xs (d - 1)) (lt-leb b.max_frontier (suc (d - 1)) (omega arith))

      pub by_down : Going s h b family start xs₀ t₀ d₀ zs u (d + 1) turn.clear
      by_down =
          record {
            total =
                step
                ∙ (rw (ea, full_not)
                (spend_told (enter (panel_of s) (place_with (path_to (path_at xs (d - 1)) (stored_at xs (d - 1)) c) c) ∷ frame_with (path_at xs (d - 1)) turn.frame ∷ stack_of xs (d - 1))
                ∙ ap (λ (st : List Frame). run (panel_of s) b (b.max_work - u.work) (going (walk_of u st))) (sym stack_down)
                ∙ sym (to_go_some (panel_of s) b u zs (d + 1) (omega arith))));
            held =
                record {
                  deep = omega arith;
                  small = g.held.small;
                  room = let r = room_then in let q = length_put ys d e in rw ez (omega arith);
                  sound = λ i l. sound_down i (eq-or-lt_of_le (omega arith));
                  slots = λ i l. slots_down i (eq-or-lt_of_le (omega arith));
                  settled = λ i l. settled_down i (eq-or-lt_of_le (omega arith));
                  flagged = λ l. child_flag;
                  linked = rw ez (rw back at (linked_push ys (d - 1) e down_room (rw (← back) at linked_then)));
                  worked = worked_then;
                  taken = taken_then;
                };
            kept = rw ez (kept_on kept_then (kept_put b ys d e (omega arith)));
            same = same_then;
            groups = g.groups;
            more = more_then;
            begins = begins_then;
          }
        where
          child_flag : Flagged (panel_of s) (frame_of zs (d + 1 - 1)) turn.clear
          child_flag =
              let q : d + 1 - 1 ≡ d = omega arith in
              rw (q, top_down, ee) (enter_shut (panel_of s) (panel_of s) (path_to (path_at ys (d - 1)) (stored_at ys (d - 1)) (entered (panel_of s) c)) s h family.count c turn.clear (m.turned.child c ea))

-- ---- members passed over at once

module _ (s : List ℕ) (h : Header) (b : SearchBudget) (family : Family) (start : ℕ) (xs₀ : List ℕ) (t₀ : Tally) (d₀ : ℕ) (acc : Accepted s h) where
  -- one member of a hub whose piece is not clear
  one_over : (xs : List ℕ) (t : Tally) (d : ℕ) → Going s h b family start xs₀ t₀ d₀ xs t d false → (d ≡ 0 → ⊥) → t.work < b.max_work → t.evaluations < b.max_evaluations → (stored_at xs (d - 1)).terminal ≡ false
      → (stored_at xs (d - 1)).hub_next < (stored_at xs (d - 1)).hub_end
      → Going s h b family start xs₀ t₀ d₀ (put xs (d - 1) (moved_to (stored_at xs (d - 1)) (stored_at xs (d - 1)).next ((stored_at xs (d - 1)).hub_next + 1) (stored_at xs (d - 1)).hub_end)) (spent_of t 1) d false
  unfolding frame_of
  one_over xs t d g n lw le term lt =
      by_pass s h b family start xs₀ t₀ d₀ xs t d false _ (record { action = Pass; frame = after; taken = 1; clear = false }) g n lw le
      (record { turned = hub_member s h family lane xs (d - 1) top false after on term (λ z. absurd (omega arith)) (g.held.flagged (omega arith)) Pass lt (meets_blocked s h family top false refl) refl; room = refl }) acc refl
    where
      top : Stored
      top = stored_at xs (d - 1)

      after : Stored
      after = moved_to (stored_at xs (d - 1)) (stored_at xs (d - 1)).next ((stored_at xs (d - 1)).hub_next + 1) (stored_at xs (d - 1)).hub_end

      sound : Sound s h family.count (stored_at xs (d - 1))
      sound = g.held.sound (d - 1) (omega arith)

      lane : Lane
      lane =
          record {
            number = (stored_at xs (d - 1)).source;
            len = (get_or (entries h s) (stored_at xs (d - 1)).source no_entry).len;
            identity = (get_or (entries h s) (stored_at xs (d - 1)).source no_entry).identity;
            start = start_of h s (stored_at xs (d - 1)).source;
            count = get_or (counts h s) (stored_at xs (d - 1)).source 0;
          }

      on : On s h family lane xs (d - 1) top
      on =
          record {
            accepted = acc;
            groups = g.groups;
            stands = record { counted = acc.counted; lane = sound.lane; len = refl; identity = refl; count = refl; start = refl };
            here = refl;
            sound = sound;
            room = (let r = g.held.room in let e = g.held.deep in omega arith);
          }

  -- and so many
  module _ (xs : List ℕ) (t : Tally) (d : ℕ) (g : Going s h b family start xs₀ t₀ d₀ xs t d false) (n : d ≡ 0 → ⊥) (le : t.evaluations < b.max_evaluations) (term : (stored_at xs (d - 1)).terminal ≡ false) where
    abbrev with_fewer : ℕ → Stored
    with_fewer m = moved_to (stored_at xs (d - 1)) (stored_at xs (d - 1)).next ((stored_at xs (d - 1)).hub_next + m) (stored_at xs (d - 1)).hub_end

    top_fits : (d - 1 + 1) * frame_width ≤ length xs
    top_fits = let r = g.held.room in let e = g.held.deep in omega arith

    many_over : (m : ℕ) → (stored_at xs (d - 1)).hub_next + suc m ≤ (stored_at xs (d - 1)).hub_end → t.work + suc m ≤ b.max_work
        → Going s h b family start xs₀ t₀ d₀ (put xs (d - 1) (with_fewer (suc m))) (took_of t (suc m)) d false
    many_over zero few w = one_over xs t d g n (omega arith) le term (omega arith)
    many_over (suc m) few w =
        let before = many_over m (omega arith) (omega arith) in
        let same : stored_at (put xs (d - 1) (with_fewer (suc m))) (d - 1) ≡ with_fewer (suc m) = stored_same xs (d - 1) (with_fewer (suc m)) top_fits in
        let one = one_over (put xs (d - 1) (with_fewer (suc m))) (took_of t (suc m)) d before n (omega arith) le (ap (λ (f : Stored). f.terminal) same) (rw same (omega arith)) in
        let next : (stored_at xs (d - 1)).hub_next + suc m + 1 ≡ (stored_at xs (d - 1)).hub_next + suc (suc m) = omega arith in
        let works : t.work + suc m + 1 ≡ t.work + suc (suc m) = omega arith in
        let takes : t.donors + suc m + 1 ≡ t.donors + suc (suc m) = omega arith in
        rw (same, put_again xs (d - 1) (with_fewer (suc m)) (moved_to (with_fewer (suc m)) (with_fewer (suc m)).next ((with_fewer (suc m)).hub_next + 1) (with_fewer (suc m)).hub_end) top_fits, next, works, takes) at one

  -- what is left after members and ports are passed over
  pub over_going : (xs ys : List ℕ) (t u : Tally) (d : ℕ) (flag : Bool) → Going s h b family start xs₀ t₀ d₀ xs t d flag → Passed s h b xs ys t u d flag → Going s h b family start xs₀ t₀ d₀ ys u d flag
  over_going xs ys t u d flag g q =
      let c : get_or (path_counts h s) t.families 0 ≡ family.count = ap (λ (n : ℕ). get_or (path_counts h s) n 0) g.same ∙ sym g.groups.count in
      record {
        total = g.total ∙ q.total;
        held = rw c at q.held;
        kept = kept_on g.kept q.kept;
        same = q.families ∙ g.same;
        groups = g.groups;
        more = let m = g.more in let o = q.more in omega arith;
        begins = rw q.families g.begins;
      }

module _ (s : List ℕ) (h : Header) (b : SearchBudget) (xs ys : List ℕ) (t v : Tally) (d : ℕ) (flag : Bool) (q : Passed s h b xs ys t v d flag) where
  pub over_evaluations : t.evaluations < b.max_evaluations → v.evaluations < b.max_evaluations
  over_evaluations l = rw q.same l

-- ---- ports passed over at once

-- the family that the counters name
abbrev pub family_at : List ℕ → Header → Tally → Family
family_at s h t = record { number = t.families; start = sum (take t.families (path_counts h s)); count = get_or (path_counts h s) t.families 0 }

-- the frame f in place of the top, its ports ahead all blocked, and the counters t
pub record Striding (s : List ℕ) (h : Header) (b : SearchBudget) (xs : List ℕ) (t₀ : Tally) (d : ℕ) (l : Lane) (f : Stored) (t : Tally) : Type 0 where
  pub going : Going s h b (family_at s h t₀) (sum (take t₀.families (path_counts h s))) xs t₀ d (put xs (d - 1) f) t d false
  pub alike : Alike f (stored_at xs (d - 1))
  pub begun : f.terminal ≡ false
  pub here : l.number ≡ f.source
  pub blocked : Blocked s h l (path_at xs (d - 1)) f
  pub under : t.work < b.max_work
  pub same : t.evaluations ≡ t₀.evaluations
  pub least : t₀.evaluations < b.max_evaluations
  pub some : 0 < d
  pub room : (d - 1 + 1) * frame_width ≤ length xs

tally_same : (t : Tally) → took_of t 0 ≡ t
tally_same t =
    let a : t.work + 0 ≡ t.work = omega arith in
    let c : t.donors + 0 ≡ t.donors = omega arith in
    λ i. record { work = a i; evaluations = t.evaluations; natives = t.natives; donors = c i; non_native = t.non_native; mixed = t.mixed; mixed_identity = t.mixed_identity; switches = t.switches; families = t.families }

spent_none : (t : Tally) → spent_of t 0 ≡ worked_of t 1
spent_none t =
    let c : t.donors + 0 ≡ t.donors = omega arith in
    λ i. record { work = t.work + 1; evaluations = t.evaluations; natives = t.natives; donors = c i; non_native = t.non_native; mixed = t.mixed; mixed_identity = t.mixed_identity; switches = t.switches; families = t.families }

worked_twice : (t : Tally) → worked_of (worked_of t 1) 1 ≡ worked_of t 2
worked_twice t =
    let a : t.work + 1 + 1 ≡ t.work + 2 = omega arith in
    λ i. record { work = a i; evaluations = t.evaluations; natives = t.natives; donors = t.donors; non_native = t.non_native; mixed = t.mixed; mixed_identity = t.mixed_identity; switches = t.switches; families = t.families }

frame_same : (f : Stored) → f.terminal ≡ false → moved_to f f.next (f.hub_next + 0) f.hub_end ≡ f
frame_same f e =
    let a : f.hub_next + 0 ≡ f.hub_next = omega arith in
    λ i. record { slot = f.slot; source = f.source; cut = f.cut; reverse = f.reverse; terminal = sym e i; next = f.next; hub_next = a i; hub_end = f.hub_end; start = f.start; end = f.end }

module _ (s : List ℕ) (h : Header) (b : SearchBudget) (xs : List ℕ) (t₀ : Tally) (d : ℕ) (l : Lane) (acc : Accepted s h) (st : Stands s h l) where
  pub stride_start : (f : Stored) → Stuck s h b xs t₀ d l f → Striding s h b xs t₀ d l f t₀
  stride_start f k =
      let u = k.under in
      let r : (d - 1 + 1) * frame_width ≤ length xs = (let a = u.held.room in let c = u.held.deep in let o = u.some in omega arith) in
      let back : d - 1 + 1 ≡ d = (let o = u.some in omega arith) in
      let same : put xs (d - 1) f ≡ xs = rw k.top (put_stored xs (d - 1) r (rw (← back) at u.held.linked)) in
      record {
        going =
            rw same
            (record {
              total = refl;
              held = u.held;
              kept = kept_refl b xs;
              same = refl;
              groups = record { grouped = acc.grouped; family = u.family; count = refl; start = refl };
              more = omega arith;
              begins = refl;
            });
        alike = rw k.top (record { slot = refl; source = refl; reverse = refl; start = refl; end = refl });
        begun = k.begun;
        here = k.here;
        blocked = k.blocked;
        under = u.work;
        same = refl;
        least = u.evaluations;
        some = u.some;
        room = r;
      }

  module _ (f : Stored) (t : Tally) (k : Striding s h b xs t₀ d l f t) where
    top_is : stored_at (put xs (d - 1) f) (d - 1) ≡ f
    top_is = stored_same xs (d - 1) f k.room

    not_none : d ≡ 0 → ⊥
    not_none e = let o = k.some in omega arith

    evaluations_on : t.evaluations < b.max_evaluations
    evaluations_on = rw k.same k.least

    -- so many members of the open hub
    pub stride_members : (m : ℕ) (g : Stored) (u : Tally) → m ≤ f.hub_end - f.hub_next → m ≤ b.max_work - t.work - 1 → g ≡ moved_to f f.next (f.hub_next + m) f.hub_end → u ≡ took_of t m
        → Striding s h b xs t₀ d l g u
    stride_members zero g u few most eg eu = rw (eg, eu, frame_same f k.begun, tally_same t) k
    stride_members (suc m) g u few most eg eu =
        let over = many_over s h b (family_at s h t₀) (sum (take t₀.families (path_counts h s))) xs t₀ d acc (put xs (d - 1) f) t d k.going not_none evaluations_on (ap (λ (x : Stored). x.terminal) top_is ∙ k.begun) m
        (rw top_is (let lw = k.under in omega arith)) (let lw = k.under in omega arith) in
        let again = put_again xs (d - 1) f (moved_to f f.next (f.hub_next + suc m) f.hub_end) k.room in
        rw (eg, eu)
        (record {
          going = rw (top_is, again) at over;
          alike = record { slot = k.alike.slot; source = k.alike.source; reverse = k.alike.reverse; start = k.alike.start; end = k.alike.end };
          begun = refl;
          here = k.here;
          blocked = blocked_same s h l (path_at xs (d - 1)) f acc st k.here (f.hub_next + suc m) f.hub_end k.blocked;
          under = let lw = k.under in omega arith;
          same = k.same;
          least = k.least;
          some = k.some;
          room = k.room;
        })

    top_sound : Sound s h (family_at s h t₀).count f
    top_sound = rw top_is at (k.going.held.sound (d - 1) (let o = k.some in omega arith))

    here_path : path_at (put xs (d - 1) f) (d - 1) ≡ path_at xs (d - 1)
    here_path = path-at xs (d - 1) f k.room k.alike

    top_on : On s h (family_at s h t₀) l (put xs (d - 1) f) (d - 1) f
    top_on = record { accepted = acc; groups = k.going.groups; stands = st; here = k.here; sound = top_sound; room = rw (length_put xs (d - 1) f) k.room }

    -- one unit that passes
    pass_once : (g : Stored) → Turned s h (family_at s h t₀) (path_at (put xs (d - 1) f) (d - 1)) f (record { action = Pass; frame = g; taken = 0; clear = false }) → t.work + 2 ≤ b.max_work → Alike g f → g.terminal ≡ false
        → Blocked s h l (path_at xs (d - 1)) g → Striding s h b xs t₀ d l g (worked_of t 1)
    pass_once g turned work alike begun blocked =
        let u : spent_of t 0 ≡ worked_of t 1 = spent_none t in
        let on = by_pass s h b (family_at s h t₀) (sum (take t₀.families (path_counts h s))) xs t₀ d (put xs (d - 1) f) t d false (put (put xs (d - 1) f) (d - 1) g)
        (record { action = Pass; frame = g; taken = 0; clear = false }) k.going not_none k.under evaluations_on (record { turned = rw top_is turned; room = refl }) acc refl in
        record {
          going = rw (put_again xs (d - 1) f g k.room, u) at on;
          alike =
              record {
                slot = alike.slot ∙ k.alike.slot;
                source = alike.source ∙ k.alike.source;
                reverse = alike.reverse ∙ k.alike.reverse;
                start = alike.start ∙ k.alike.start;
                end = alike.end ∙ k.alike.end;
              };
          begun = begun;
          here = k.here ∙ sym alike.source;
          blocked = blocked;
          under = omega arith;
          same = k.same;
          least = k.least;
          some = k.some;
          room = k.room;
        }

    -- the next port, where no hub is open
    one_past : (g : Stored) → Past s h l f g → f.hub_end ≡ 0 → 0 < f.next → f.next ≤ l.count → t.work + 2 ≤ b.max_work → Striding s h b xs t₀ d l g (worked_of t 1)
    one_past g p none some few work =
        let alike = past_alike s h l f g p in
        pass_once g (past_turned s h (family_at s h t₀) l (put xs (d - 1) f) (d - 1) f top_on k.begun none some few g p (rw here_path k.blocked)) work alike.0 alike.1
        (blocked_past s h l (path_at xs (d - 1)) f acc st k.here g p k.blocked)

    -- a used-up hub is closed
    closed_hub : (f.hub_end ≡ 0 → ⊥) → f.hub_end ≤ f.hub_next → t.work + 2 ≤ b.max_work → Striding s h b xs t₀ d l (moved_to f f.next 0 0) (worked_of t 1)
    unfolding frame_of
    closed_hub some used work =
        let knows : Flagged (panel_of s) (frame_with (path_at (put xs (d - 1) f) (d - 1)) f) false = rw top_is at (k.going.held.flagged k.some) in
        pass_once (moved_to f f.next 0 0) (hub_close s h (family_at s h t₀) l (put xs (d - 1) f) (d - 1) f false (moved_to f f.next 0 0) top_on k.begun some knows false used refl) work
        (record { slot = refl; source = refl; reverse = refl; start = refl; end = refl }) refl (blocked_same s h l (path_at xs (d - 1)) f acc st k.here 0 0 k.blocked)

  -- the next port, a used-up hub being closed first
  pub stride_past : (f : Stored) (t : Tally) (n : ℕ) (g : Stored) (u : Tally) → Striding s h b xs t₀ d l f t → Further b l f t → f.hub_end ≤ f.hub_next → n ≡ pick (ltb 0 f.hub_end) 1 0 → Past s h l f g
      → u ≡ worked_of t (n + 1) → Striding s h b xs t₀ d l g u
  stride_past f t n g u k e used en p eu = go (ℕ_discrete f.hub_end 0)
    where
      go : Dec (f.hub_end ≡ 0) → Striding s h b xs t₀ d l g u
      go (yes z) =
          let w = e.work in
          let shut : ltb 0 f.hub_end ≡ false = le-ltb 0 f.hub_end (omega arith) in
          let one : n + 1 ≡ 1 = rw (en, shut) in
          rw (eu, one) (one_past f t k g p z e.some e.few (omega arith))
      go (no z) =
          let w = e.work in
          let some : ltb 0 f.hub_end ≡ true = lt-ltb 0 f.hub_end (omega arith) in
          let two : n + 1 ≡ 2 = rw (en, some) in
          let c = closed_hub f t k z used (omega arith) in
          let v : worked_of (worked_of t 1) 1 ≡ worked_of t 2 = worked_twice t in
          rw (eu, two, ← v) (one_past (moved_to f f.next 0 0) (worked_of t 1) c g (record { how = p.how }) refl e.some e.few (omega arith))

  -- the members that the open hub has left, as far as work leads
  module _ (f : Stored) (t : Tally) (k : Striding s h b xs t₀ d l f t) (x m : ℕ) (g : Stored) (ex : x ≡ f.hub_end - f.hub_next) (em : m ≡ min x (b.max_work - t.work - 1))
      (eg : g ≡ moved_to f f.next (f.hub_next + m) f.hub_end) where
    pub stride_turn : Striding s h b xs t₀ d l g (took_of t m)
    stride_turn = stride_members f t k m g (took_of t m) (omega arith) (omega arith) eg refl

    -- where work is left behind them, no member is
    pub stride_next : (n : ℕ) (r : Stored) → Further b l g (took_of t m) → n ≡ pick (ltb 0 g.hub_end) 1 0 → Past s h l g r → Striding s h b xs t₀ d l r (worked_of (took_of t m) (n + 1))
    stride_next n r e en p =
        let w : t.work + m + 3 ≤ b.max_work = e.work in
        let used : g.hub_end ≤ g.hub_next = rw eg (omega arith) in
        stride_past g (took_of t m) n r (worked_of (took_of t m) (n + 1)) stride_turn e used en p refl

  pub strode : (f : Stored) (t : Tally) (ys : List ℕ) → Striding s h b xs t₀ d l f t → ys ≡ put xs (d - 1) f → Passed s h b xs ys t₀ t d false
  strode f t ys k ey =
      rw ey
      (record {
        total = k.going.total;
        held = k.going.held;
        kept = k.going.kept;
        under = k.under;
        more = k.going.more;
        same = k.same;
        families = k.going.same;
      })

-- ---- the top that is passed over

module _ (s : List ℕ) (h : Header) (b : SearchBudget) (xs : List ℕ) (t : Tally) (d : ℕ) (flag : Bool) (u : Under s h b xs t d flag) where
  module _ (f : Stored) (ef : f ≡ stored_at xs (d - 1)) where
    under_sound : Sound s h (get_or (path_counts h s) t.families 0) f
    under_sound = rw ef (u.held.sound (d - 1) (let o = u.some in omega arith))

    module _ (l : Lane) (some : f.hub_end ≡ 0 → ⊥) (acc : Accepted s h) (st : Stands s h l) (here : l.number ≡ f.source) where
      pub under_behind : behind f.reverse f.next < l.count
      under_behind = let c = count_here s h l f acc st here in let o = under_sound.opened (omega arith) in omega arith

      under_flag : flag ≡ false → Flagged (panel_of s) (frame_with (path_at xs (d - 1)) f) false
      unfolding frame_of
      under_flag off = rw (ef, ← off) (u.held.flagged u.some)

      pub stuck_of : (r : Bool) → flag ≡ false → f.terminal ≡ false → r ≡ leads_on h.k f (get_or (ports_of h s l.number) (behind f.reverse f.next) no_port) → r ≡ true → Stuck s h b xs t d l f
      stuck_of r off begun er it =
          record {
            under = rw off at u;
            top = ef;
            here = here;
            begun = begun;
            blocked = blocked_start s h l (path_at xs (d - 1)) f acc st here under_behind some (under_flag off) (sym er ∙ it);
          }

-- ---- the ways out

not_due : {A : Type 0} (e : Stop) (p : Segment) → Stopped e ≡ Due p → A
not_due e p q = let z : ◌≡◌ {A = ℕ} 0 1 = cc in absurd (omega arith)

-- the words of the stack, and of the child that is pending, where this stopped the walk
abbrev WordsOf : List ℕ → ℕ → Stop → Type 0
WordsOf xs d e = take (used_by e d * frame_width) xs ≡ stack_words (stack_of xs d) ++ pending_words (ending_of e (frame_of xs d).place)

words_stop : (xs : List ℕ) (d : ℕ) (e f : Stop) → WordsOf xs d e → Stopped e ≡ Stopped f → WordsOf xs d f
words_stop xs d e f k q = let z : f ≡ e = cc in rw z k

words_here : (xs : List ℕ) (d : ℕ) (e : Stop) → Linked xs d → d * frame_width ≤ length xs → used_by e d ≡ d → pending_words (ending_of e (frame_of xs d).place) ≡ [] → WordsOf xs d e
words_here xs d e k r used none = rw (used, none, append-nil (stack_words (stack_of xs d))) (take_words xs d k r)

pending_as : (f : Frame) → f.terminal ≡ true → f.next ≡ 0 → f.hub_next ≡ 0 → f.hub_end ≡ 0 → frame_words f ≡ place_words f.place true 0 0 0
pending_as f t n l h = rw (t, n, l, h)

words_pending : (xs : List ℕ) (d : ℕ) → Linked xs (d + 1) → (d + 1) * frame_width ≤ length xs → (frame_of xs d).terminal ≡ true → (frame_of xs d).next ≡ 0 → (frame_of xs d).hub_next ≡ 0 → (frame_of xs d).hub_end ≡ 0
    → WordsOf xs d Frontier
unfolding stack_words
words_pending xs d k r t n l h = take_words xs (d + 1) k r ∙ stack_more
  where
    stack_more : stack_words (stack_of xs (d + 1)) ≡ stack_words (stack_of xs d) ++ place_words (frame_of xs d).place true 0 0 0
    stack_more = rw (add-one, stack_suc xs d) (ap (λ (ws : List ℕ). stack_words (stack_of xs d) ++ ws) (pending_as (frame_of xs d) t n l h))

module _ (s : List ℕ) (h : Header) (b : SearchBudget) (family : Family) (start : ℕ) (xs₀ : List ℕ) (t₀ : Tally) (d₀ : ℕ) (xs : List ℕ) (t : Tally) (d : ℕ) (flag : Bool) (zs : List ℕ) (from : Standing) (flag₀ : Bool)
    (o : Outer s h b zs from.tally from.depth xs₀ t₀ d₀ start flag₀) (g : Going s h b family start xs₀ t₀ d₀ xs t d flag) where
  stop_here : (e : Stop) → used_by e d ≡ d → pending_words (ending_of e (frame_of xs d).place) ≡ [] → to_go (panel_of s) b t xs d ≡ record { ending = ending_of e (frame_of xs d).place; walk = walk_of t (stack_of xs d) }
      → Paused s h b zs xs from (record { halt = Stopped e; at = record { tally = t; depth = d; start = start; clear = flag } })
  stop_here e used none q =
      record {
        outcome = o.total ∙ g.total ∙ q;
        kept = kept_on o.kept g.kept;
        again = λ p z. not_due e p z;
        more = λ p z. not_due e p z;
        words = λ f z. words_stop xs d e f (words_here xs d e g.held.linked (let r = g.held.room in let l = g.held.deep in omega arith) used none) z;
        deep = g.held.deep;
      }

  pub by_work : (d ≡ 0 → ⊥) → b.max_work ≤ t.work → Paused s h b zs xs from (record { halt = Stopped Work; at = record { tally = t; depth = d; start = start; clear = flag } })
  by_work n l = stop_here Work refl refl (to_go_work (panel_of s) b t xs d (omega arith) l)

  pub by_evaluation : (d ≡ 0 → ⊥) → t.work < b.max_work → b.max_evaluations ≤ t.evaluations
      → Paused s h b zs xs from (record { halt = Stopped Evaluation; at = record { tally = t; depth = d; start = start; clear = flag } })
  by_evaluation n lw l = stop_here Evaluation refl refl (to_go_evaluation (panel_of s) b t xs d (omega arith) lw l)

  module _ (ys : List ℕ) (turn : Turn) (n : d ≡ 0 → ⊥) (lw : t.work < b.max_work) (le : t.evaluations < b.max_evaluations) (m : Moved s h family xs ys (d - 1) turn)
      (acc : Accepted s h) where
    abbrev after : Tally
    after = spent_of t turn.taken

    then_held : Held s h b family.count ys after d turn.clear
    then_held = held_then s h b family start xs₀ t₀ d₀ xs t d flag ys turn g n lw le m acc

    module _ (c : Stored) (vs : List ℕ) (ea : turn.action ≡ Down c) (ev : vs ≡ put ys d c) (full : b.max_frontier ≤ d) where
      back_one : d - 1 + 1 ≡ d
      back_one = omega arith

      room_one : (d - 1 + 2) * frame_width ≤ length ys
      room_one = let r = then_held.room in let e = then_held.deep in omega arith

      pending_frame : frame_of vs d ≡ frame_with (path_to (path_at ys (d - 1)) (stored_at ys (d - 1)) c) c
      pending_frame = ap (λ (l : List ℕ). frame_of l d) ev ∙ (rw back_one at (frame_push ys (d - 1) c room_one))

      pending_place : (frame_of vs d).place ≡ place_with (path_to (path_at xs (d - 1)) (stored_at xs (d - 1)) c) c
      pending_place =
          ap (λ (f : Frame). f.place) pending_frame
          ∙ ap (λ (a : Path). place_with a c) (path_down s h b family start xs₀ t₀ d₀ xs t d flag ys turn g n lw le m acc c ea c (record { slot = refl; source = refl; reverse = refl; start = refl; end = refl }))

      stack_full : stack_of vs d ≡ frame_with (path_at xs (d - 1)) turn.frame ∷ stack_of xs (d - 1)
      stack_full = ap (λ (l : List ℕ). stack_of l d) ev ∙ stack_above ys d d c (omega arith) ∙ stack_then s h b family start xs₀ t₀ d₀ xs t d flag ys turn g n lw le m acc

      is_full : leb b.max_frontier (suc (length (stack_of xs (d - 1)))) ≡ true
      is_full = rw (length_stack xs (d - 1)) (le-leb b.max_frontier (suc (d - 1)) (omega arith))

      pending_linked : Linked vs (d + 1)
      pending_linked = rw ev (rw back_one at (linked_push ys (d - 1) c room_one (rw (← back_one) at then_held.linked)))

      pending-words : WordsOf vs d Frontier
      pending-words =
          let k = m.turned.child c ea in
          words_pending vs d pending_linked (let e = length_put ys d c in rw ev (omega (arith, room_one))) (ap (λ (f : Frame). f.terminal) pending_frame ∙ k.waiting) (ap (λ (f : Frame). f.next) pending_frame ∙ k.no_next)
          (ap (λ (f : Frame). f.hub_next) pending_frame ∙ k.no_hub) (ap (λ (f : Frame). f.hub_end) pending_frame ∙ k.closed)

      pub by_frontier : Paused s h b zs vs from (record { halt = Stopped Frontier; at = record { tally = after; depth = d; start = start; clear = turn.clear } })
      by_frontier =
          record {
            outcome =
                o.total ∙ step s h b family start xs₀ t₀ d₀ xs t d flag ys turn g n lw le m acc
                ∙ (rw (ea, is_full)
                (run_ended (panel_of s) b (b.max_work - (t.work + 1)) (on_frontier (place_with (path_to (path_at xs (d - 1)) (stored_at xs (d - 1)) c) c)) (spend (walk_of t (stack_of xs d)) turn.taken (frame_with (path_at xs (d - 1)) turn.frame ∷ stack_of xs (d - 1)))
                ∙ rw (pending_place, stack_full, spend_is t turn.taken (stack_of xs d) (frame_with (path_at xs (d - 1)) turn.frame ∷ stack_of xs (d - 1)))));
            kept =
                rw ev
                (kept_on o.kept (kept_on (kept_then s h b family start xs₀ t₀ d₀ xs t d flag ys turn g n lw le m acc) (kept_put b ys d c then_held.deep)));
            again = λ p z. not_due Frontier p z;
            more = λ p z. not_due Frontier p z;
            words = λ f z. words_stop vs d Frontier f pending-words z;
            deep = then_held.deep;
          }

    module _ (p : Segment) (ea : turn.action ≡ Give p) where
      abbrev v : Tally
      v = handed_of after

      handed_is : (st : List Frame) (a : Assignment) → handed (spend (walk_of t (stack_of xs d)) turn.taken st) a ≡ handing a (walk_of (handed_of (spent_of t turn.taken)) st)
      handed_is st a = simp add-one

      due_families : v.families ≡ t.families
      due_families = refl

      due_held : Held s h b (get_or (path_counts h s) v.families 0) ys v d turn.clear
      due_held =
          let c : family.count ≡ get_or (path_counts h s) v.families 0 = g.groups.count ∙ ap (λ (k : ℕ). get_or (path_counts h s) k 0) (sym (due_families ∙ g.same)) in
          let k = rw c at then_held in
          record {
            deep = k.deep;
            small = k.small;
            room = k.room;
            sound = k.sound;
            slots = k.slots;
            settled = k.settled;
            flagged = k.flagged;
            linked = k.linked;
            worked = k.worked;
            taken = k.taken;
          }

      pub by_due : Paused s h b zs ys from (record { halt = Due p; at = record { tally = v; depth = d; start = start; clear = turn.clear } })
      by_due =
          record {
            outcome =
                o.total ∙ step s h b family start xs₀ t₀ d₀ xs t d flag ys turn g n lw le m acc
                ∙ (rw ea
                (ap (λ (w : Walk). run (panel_of s) b (b.max_work - (t.work + 1)) (going w)) (handed_is (frame_with (path_at xs (d - 1)) turn.frame ∷ stack_of xs (d - 1)) (record { family = t.families; routes = (longer false (path_at xs (d - 1)) p).routes }))
                ∙ run_after (panel_of s) b (record { family = t.families; routes = (longer false (path_at xs (d - 1)) p).routes }) (b.max_work - (t.work + 1)) (walk_of (handed_of (spent_of t turn.taken)) (frame_with (path_at xs (d - 1)) turn.frame ∷ stack_of xs (d - 1)))
                ∙ rw
                (to_go_some (panel_of s) b v ys d (omega arith), stack_then s h b family start xs₀ t₀ d₀ xs t d flag ys turn g n lw le m acc, top_path s h b family start xs₀ t₀ d₀ xs t d flag ys turn g n lw le m acc)));
            kept = kept_on o.kept (kept_then s h b family start xs₀ t₀ d₀ xs t d flag ys turn g n lw le m acc);
            again = λ q z.
                record {
                  held = due_held;
                  some = omega arith;
                  left = (let a = g.groups.family in let c = due_families in let e = g.same in omega arith);
                  begins = g.begins;
                };
            more = λ q z. (let a = o.more in let c = g.more in omega arith);
            words = λ f z. (let y : ◌≡◌ {A = ℕ} 0 1 = cc in absurd (omega arith));
            deep = then_held.deep;
          }

-- ---- the next family

families_are : (s : List ℕ) (h : Header) → Accepted s h → length (panel_of s).families ≡ h.families
families_are s h acc = ap length (panel_families s h acc.counted.framed) ∙ families_length s h

module _ (s : List ℕ) (h : Header) (family : Family) (acc : Accepted s h) (gs : Groups s h family) where
  root_lane : (lane : ℕ) → lane ≡ get_or (paths_of h s family.number) 0 0 → lane < h.lanes
  root_lane lane e = path_named s h family 0 lane acc gs (path_some s h family acc gs) e

  root_child : Child s h family.count (child_of 0 (record { source = get_or (paths_at (panel_of s) family.number) 0 0; cut = 0; reverse = false }) no_segment)
  root_child =
      record {
        lane = rw (paths_are s h family.number acc.counted.framed) (root_lane _ refl);
        slot = path_some s h family acc gs;
        waiting = refl;
        no_next = refl;
        no_hub = refl;
        closed = refl;
      }

  pub root_made : (lane : ℕ) → lane ≡ get_or (paths_of h s family.number) 0 0
      → ◌≡◌ {A = Stored} (record { slot = 0; source = lane; cut = 0; reverse = false; terminal = true; next = 0; hub_next = 0; hub_end = 0; start = 0; end = 0 })
      (child_of 0 (record { source = get_or (paths_at (panel_of s) family.number) 0 0; cut = 0; reverse = false }) no_segment)
  root_made lane e = rw (e, paths_are s h family.number acc.counted.framed)

  pub root_waits : (f : Stored) → f ≡ child_of 0 (record { source = get_or (paths_at (panel_of s) family.number) 0 0; cut = 0; reverse = false }) no_segment → Child s h family.count f
  root_waits f e = rw e root_child

-- a family begun: its root alone is on the stack
module _ (s : List ℕ) (h : Header) (b : SearchBudget) (xs : List ℕ) (t : Tally) (start : ℕ) (acc : Accepted s h) (lt : t.families < h.families) (begins : start ≡ sum (take t.families (path_counts h s)))
    (some : 0 < b.max_frontier) (small : b.max_frontier ≤ 1024) (room : (b.max_frontier + 1) * frame_width ≤ length xs) (worked : t.work ≤ b.max_work) (taken : t.donors ≤ t.work) (ws : List ℕ)
    (ew : ws ≡ put xs 0 (root_of (panel_of s) t.families)) where
  groups_root : Groups s h (record { number = t.families; start = start; count = get_or (path_counts h s) t.families 0 })
  groups_root = record { grouped = acc.grouped; family = lt; count = refl; start = begins }

  child_root : Child s h (get_or (path_counts h s) t.families 0) (child_of 0 (record { source = get_or (paths_at (panel_of s) t.families) 0 0; cut = 0; reverse = false }) no_segment)
  child_root = root_child s h (record { number = t.families; start = start; count = get_or (path_counts h s) t.families 0 }) acc groups_root

  room_root : frame_width ≤ length xs
  room_root = omega (arith, room)

  stack_begun : stack_of ws 1 ≡ root (panel_of s) t.families ∷ []
  stack_begun =
      ap (λ (l : List ℕ). stack_of l 1) ew ∙ stack_root xs (root_of (panel_of s) t.families) room_root
      ∙ ap (λ (f : Frame). f ∷ []) (enter_child s h (get_or (path_counts h s) t.families 0) (panel_of s) no_path _ child_root)

  pub begun_to_go : to_go (panel_of s) b t ws 1 ≡ run (panel_of s) b (b.max_work - t.work) (going (walk_of t (root (panel_of s) t.families ∷ [])))
  begun_to_go = to_go_some (panel_of s) b t ws 1 (omega arith) ∙ ap (λ (st : List Frame). run (panel_of s) b (b.max_work - t.work) (going (walk_of t st))) stack_begun

  pub begun_kept : Kept b xs ws
  begun_kept = rw ew (kept_put b xs 0 (root_of (panel_of s) t.families) (omega arith))

  pub begun_walking : Walking s h b ws t 1 start true
  begun_walking =
      record {
        held =
            record {
              deep = omega (arith, some);
              small = small;
              room = let e = length_put xs 0 (root_of (panel_of s) t.families) in rw ew (omega (arith, room));
              sound = λ i l. sound_root i (omega arith);
              slots = λ i l. slots_root i (omega arith);
              settled = λ i l. absurd (omega arith);
              flagged = λ l. flag_root;
              linked = rw ew (linked_root xs (root_of (panel_of s) t.families) room_root root-start root-end);
              worked = worked;
              taken = taken;
            };
        some = omega arith;
        left = lt;
        begins = begins;
      }
    where
      sound_root : (i : ℕ) → i ≡ 0 → Sound s h (get_or (path_counts h s) t.families 0) (stored_at ws i)
      sound_root i e = rw (e, ew, stored_same xs 0 (root_of (panel_of s) t.families) room_root) (enter_sound s h (get_or (path_counts h s) t.families 0) _ acc child_root)

      slots_root : (i : ℕ) → i ≡ 0 → length (frame_of ws i).place.routes ≡ (frame_of ws i).place.slot
      slots_root i e =
          rw (e, ew, frame_root xs (root_of (panel_of s) t.families) room_root)
          (sym (enter_alike (panel_of s) (child_of 0 (record { source = get_or (paths_at (panel_of s) t.families) 0 0; cut = 0; reverse = false }) no_segment)).slot)

      flag_root : Flagged (panel_of s) (frame_of ws (1 - 1)) true
      flag_root =
          let z : 1 - 1 ≡ 0 = omega arith in
          rw (z, ew, frame_root xs (root_of (panel_of s) t.families) room_root) (enter_shut (panel_of s) (panel_of s) no_path s h (get_or (path_counts h s) t.families 0) _ true child_root)

      root-start : (root_of (panel_of s) t.families).start ≡ 0
      root-start = (enter_alike (panel_of s) (child_of 0 (record { source = get_or (paths_at (panel_of s) t.families) 0 0; cut = 0; reverse = false }) no_segment)).start

      root-end : (root_of (panel_of s) t.families).end ≡ 0
      root-end = (enter_alike (panel_of s) (child_of 0 (record { source = get_or (paths_at (panel_of s) t.families) 0 0; cut = 0; reverse = false }) no_segment)).end

to_go_none : (p : Panel) (b : SearchBudget) (t : Tally) (xs : List ℕ) (d : ℕ) → d ≡ 0 → to_go p b t xs d ≡ run p b (b.max_work - t.work) (begin p (done_with (walk_of t [])))
unfolding to_go
to_go_none p b t xs d e = rw (e, stack_none xs)

module _ (s : List ℕ) (h : Header) (b : SearchBudget) (family : Family) (start : ℕ) (xs₀ : List ℕ) (t₀ : Tally) (d₀ : ℕ) (xs : List ℕ) (t : Tally) (d : ℕ) (flag : Bool) (v : Tally) (next : ℕ) (acc : Accepted s h)
    (g : Going s h b family start xs₀ t₀ d₀ xs t d flag) (none : d ≡ 0) (ev : v ≡ done_of t) (es : next ≡ sum (take (family.number + 1) (path_counts h s))) where
  done_is : done_with (walk_of t []) ≡ walk_of v []
  done_is = rw (ev, add-one)

  number_next : family.number + 1 ≡ v.families
  number_next = let e = g.same in rw ev (omega arith)

  pub start_next : next ≡ sum (take v.families (path_counts h s))
  start_next = rw (← number_next) es

  suc_next : suc t.families ≡ v.families
  suc_next = rw (ev, add-one)

  pub by_exhausted : (zs : List ℕ) (from : Standing) (flag₀ : Bool) → Outer s h b zs from.tally from.depth xs₀ t₀ d₀ start flag₀ → h.families ≤ v.families
      → Paused s h b zs xs from (record { halt = Stopped Exhausted; at = record { tally = v; depth = d; start = next; clear = flag } })
  by_exhausted zs from flag₀ o le =
      let over : ltb (suc t.families) (length (panel_of s).families) ≡ false = rw (families_are s h acc, suc_next) (le-ltb v.families h.families le) in
      record {
        outcome =
            o.total ∙ g.total ∙ to_go_none (panel_of s) b t xs d none
            ∙ (rw over (run_ended (panel_of s) b (b.max_work - t.work) exhausted (done_with (walk_of t [])) ∙ rw (done_is, none, stack_none xs)));
        kept = kept_on o.kept g.kept;
        again = λ p z. not_due Exhausted p z;
        more = λ p z. not_due Exhausted p z;
        words = λ f z. words_stop xs d Exhausted f (words_here xs d Exhausted g.held.linked (let r = g.held.room in let l = g.held.deep in omega arith) refl refl) z;
        deep = g.held.deep;
      }

  module _ (lt : v.families < h.families) (ws : List ℕ) (ew : ws ≡ put xs 0 (root_of (panel_of s) v.families)) where
    begun_frontier : (zs : List ℕ) (tz : Tally) (dz : ℕ) (flag₀ : Bool) → Outer s h b zs tz dz xs₀ t₀ d₀ start flag₀ → 0 < b.max_frontier
    begun_frontier zs tz dz flag₀ o = omega (arith, o.walking.held.deep, o.walking.some)

    total_next : 0 < b.max_frontier → to_go (panel_of s) b t xs d ≡ to_go (panel_of s) b v ws 1
    total_next f =
        let more : ltb (suc t.families) (length (panel_of s).families) ≡ true = rw (families_are s h acc, suc_next) (lt-ltb v.families h.families lt) in
        let same : t.work ≡ v.work = rw ev in
        to_go_none (panel_of s) b t xs d none
        ∙ (rw more
        (ap (λ (w : Walk). run (panel_of s) b (b.max_work - t.work) (going w)) root_walk
        ∙ (rw same (sym (begun_to_go s h b xs v next acc lt start_next f g.held.small g.held.room (rw ev g.held.worked) (rw ev g.held.taken) ws ew)))))
      where
        root_walk : stacked (done_with (walk_of t [])) (root (panel_of s) (suc t.families) ∷ []) ≡ walk_of v (root (panel_of s) v.families ∷ [])
        root_walk = rw (ev, add-one)

    pub by_next : (zs : List ℕ) (tz : Tally) (dz : ℕ) (flag₀ : Bool) → Outer s h b zs tz dz xs₀ t₀ d₀ start flag₀ → Outer s h b zs tz dz ws v 1 next true
    by_next zs tz dz flag₀ o =
        let f = begun_frontier zs tz dz flag₀ o in
        record {
          total = o.total ∙ g.total ∙ total_next f;
          walking = begun_walking s h b xs v next acc lt start_next f g.held.small g.held.room (rw ev g.held.worked) (rw ev g.held.taken) ws ew;
          kept = kept_on o.kept (kept_on g.kept (begun_kept s h b xs v next acc lt start_next f g.held.small g.held.room (rw ev g.held.worked) (rw ev g.held.taken) ws ew));
          more = (let a = o.more in let c = g.more in rw ev (omega arith));
        }

-- ---- what a stopped walk leaves in the frame room

pub used_few : (e : Stop) (d n : ℕ) → d ≤ n → used_by e d ≤ n + 1
used_few Exhausted d n h = omega arith
used_few Work d n h = omega arith
used_few Evaluation d n h = omega arith
used_few Frontier d n h = omega arith

module _ (b : SearchBudget) (xs ys zs : List ℕ) (e : Stop) (d : ℕ) where
  pub frames-left : Kept b xs ys → take (used_by e d * frame_width) ys ≡ stack_words (stack_of ys d) ++ pending_words (ending_of e (frame_of ys d).place) → d ≤ b.max_frontier
      → (b.max_frontier + 1) * frame_width ≤ length xs → zs ≡ zeroed (used_by e d * frame_width) ((b.max_frontier + 1) * frame_width) ys → zs ≡ over (frames_left b (ending_of e (frame_of ys d).place) (stack_of ys d)) xs
  unfolding frames_left
  frames-left k words deep room ez =
      let few = used_few e d b.max_frontier deep in
      let same = k.long in
      let used : length (take (used_by e d * frame_width) ys) ≡ used_by e d * frame_width = length-take-le (used_by e d * frame_width) ys (omega arith) in
      let all : length (take (used_by e d * frame_width) ys ++ replicate ((b.max_frontier + 1) * frame_width - used_by e d * frame_width) 0) ≡ (b.max_frontier + 1) * frame_width =
      length-append (take (used_by e d * frame_width) ys) (replicate ((b.max_frontier + 1) * frame_width - used_by e d * frame_width) 0)
      ∙ (let r = length-replicate {A = ℕ} ((b.max_frontier + 1) * frame_width - used_by e d * frame_width) 0 in omega arith) in
      ez ∙ rw (← words, used, all, append_assoc (take (used_by e d * frame_width) ys) (replicate ((b.max_frontier + 1) * frame_width - used_by e d * frame_width) 0) (drop ((b.max_frontier + 1) * frame_width) xs), ← k.rest)
