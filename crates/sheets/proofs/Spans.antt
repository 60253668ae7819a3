-- No segment that the walk hands over ends past the bound of a lane's length.
use Prim.Native.Nat.{ℕ, zero, suc, ◌+◌, ◌-◌, ◌≤◌, ◌<◌}
use native.Mathlib.Omega.{arith}
use native.Mathlib.Decide.{dec_lt}
use mathlib.Core.Path.{◌≡◌, refl, sym, ap, subst}
use mathlib.Core.Bool.{Bool, true, false, not, ◌||◌}
use mathlib.Core.List.{List, [], ◌∷◌, ◌++◌, map, append_assoc, append-nil, Memᴰ}
use lib.Dec.{leb, ltb, eqb}
use lib.ListN.{length, get_or, get_or-eq_default}
use Rattle.ground.specs.Lists.{pick}
use Rattle.ground.proofs.Members.{mem_at}
use Rattle.storage.specs.declared.Port.{Port}
use Rattle.storage.specs.Records.{no_port, cut_offset, cut_of, same_turn}
use Rattle.image.specs.declared.Header.{Header}
use Rattle.image.specs.Panel.{Panel, panel_by, panel_of, lane_at, paths_at}
use Rattle.panel.specs.Inner.{Accepted}
use Rattle.graph.specs.Lookups.{bucket_lo, bucket_hi}
use Rattle.graph.proofs.PanelLaws.{lane_low, lane_ends, hub_in_lane}
use Rattle.evaluate.specs.Properties.{Each}
use Rattle.evaluate.specs.Segments.{Assignment, flat, clear, whole, native_of}
use Rattle.evaluate.proofs.Lists.{each_append}
use Rattle.search.specs.declared.SearchBudget.{SearchBudget}
use Rattle.search.specs.Walk.{pass, down, give, Place, Frame, Doing, Act, leave, doing, enter, begins, on_path, piece_to, reach, switched, closes, closed, same_place, terminal_task, member_task, onward, behind, outgoing, hub_open, next_port, spent, moved, port_unit, hub_unit, unit_of, takes_member}
use Rattle.search.specs.Run.{Walk, exhausted, on_evaluation, on_frontier, Phase, going, ended, limits_of, root, stacked, begin, spend, done_with, after_act, on_top, unit, units, stopped, run, seeds, seeded_with, seeded, short, after_seeding, walk_from, untouched, walk}
use Rattle.enumeration.proofs.Ports.{closed_path}
use Rattle.enumeration.proofs.Budgets.{walk_in}
use Rattle.lines.specs.Inner.{Low}

-- ---- a panel within the bounds

pub record Bounded (p : Panel) : Type 0 where
  pub lanes : (l : ℕ) → (lane_at p l).len ≤ 4294967295
  pub rows : (l i : ℕ) → cut_of (get_or (lane_at p l).ports i no_port) p.k ≤ 4294967295
  pub hub : (i : ℕ) → cut_of (get_or p.hub i no_port) p.k ≤ 4294967295

cut_up_to : (q : Port) (k : ℕ) → cut_of q k ≤ q.anchor + k
cut_up_to q k = go q.reverse
  where
    go : (r : Bool) → q.anchor + cut_offset k r ≤ q.anchor + k
    go true = omega arith
    go false = omega arith

module _ (s : List ℕ) (h : Header) (acc : Accepted s h) where
  same_k : (panel_of s).k ≡ h.k
  unfolding panel_of panel_by
  same_k = ap (λ (x : Header). x.k) (sym acc.counted.framed.header)

  none_low : cut_of no_port (panel_of s).k ≤ 4294967295
  none_low = let e = same_k in let n = acc.counted.framed.small in let c = cut_up_to no_port (panel_of s).k in omega arith

  port_low : (l : ℕ) (q : Port) → Memᴰ q (lane_at (panel_of s) l).ports → cut_of q (panel_of s).k ≤ 4294967295
  port_low l q m =
      let a = lane_ends s h acc l q m in
      let b = lane_low s h acc l in
      let c = cut_up_to q (panel_of s).k in
      omega arith

  at_low : (ps : List Port) → ((q : Port) → Memᴰ q ps → cut_of q (panel_of s).k ≤ 4294967295) → (i : ℕ) → cut_of (get_or ps i no_port) (panel_of s).k ≤ 4294967295
  at_low ps f i = go (dec_lt i (length ps))
    where
      go : Dec (i < length ps) → cut_of (get_or ps i no_port) (panel_of s).k ≤ 4294967295
      go (yes lt) = f (get_or ps i no_port) (mem_at no_port ps i lt)
      go (no g) =
          let past : length ps ≤ i = omega arith in
          subst (λ (q : Port). cut_of q (panel_of s).k ≤ 4294967295) (sym (get_or-eq_default ps no_port past)) none_low

  pub accepted_bounded : Bounded (panel_of s)
  accepted_bounded =
      record {
        lanes = lane_low s h acc;
        rows = λ l i. at_low (lane_at (panel_of s) l).ports (port_low l) i;
        hub = λ i. at_low (panel_of s).hub (λ q m. port_low q.source q (hub_in_lane s h acc q m)) i;
      }

-- ---- a unit on a frame

abbrev LowPlace : Place → Type 0
LowPlace a = (a.cut ≤ 4294967295) × Each Low (on_path a)

abbrev LowTask : Doing → Type 0
LowTask pass = Unit
LowTask (down c) = LowPlace c
LowTask (give rs) = Each Low (flat rs)

abbrev LowAct : Frame → Act → Type 0
LowAct f leave = Unit
LowAct f (doing t g) = LowTask t × (g.place ≡ f.place)

abbrev LowFrame : Frame → Type 0
LowFrame f = LowPlace f.place

abbrev pub LowAssignment : Assignment → Type 0
LowAssignment a = Each Low (flat a.routes)

module _ (p : Panel) (bounded : Bounded p) (paths : List ℕ) where
  closed_low : (a : Place) → LowPlace a → Each Low (flat (closed p a) ++ [])
  closed_low a h =
      let len = bounded.lanes a.source in
      let c = h.0 in
      let low : Low (piece_to a (lane_at p a.source).len) = omega arith in
      subst (Each Low) (sym (closed_path p a)) (each_append Low (on_path a) (piece_to a (lane_at p a.source).len ∷ []) h.1 (low, tt))

  terminal_low : (a : Place) → LowPlace a → LowTask (terminal_task p paths a)
  unfolding terminal_task
  terminal_low a h = go (closes p paths a) (eqb (suc a.slot) (length paths))
    where
      go : (c d : Bool) → LowTask (pick c (pick d (give (closed p a)) (down (begins (suc a.slot) (get_or paths (suc a.slot) 0) (closed p a)))) pass)
      go false d = tt
      go true true = subst (Each Low) (append-nil (flat (closed p a))) (closed_low a h)
      go true false = (omega arith, closed_low a h)

  member_low : (a : Place) (out q : Port) → cut_of out p.k ≤ 4294967295 → cut_of q p.k ≤ 4294967295 → LowPlace a → LowTask (member_task p a out q)
  unfolding member_task
  member_low a out q lo lq h = go (same_place p.k q out || not (clear (reach p a out) (on_path a)))
    where
      go : (c : Bool) → LowTask (pick c pass (down (switched p a out q)))
      go true = tt
      go false =
          let c = h.0 in
          let low : Low (reach p a out) = omega arith in
          (lq, subst (Each Low) (append_assoc (flat a.routes) a.route (reach p a out ∷ [])) (each_append Low (on_path a) (reach p a out ∷ []) h.1 (low, tt)))

  unit_low : (f : Frame) → LowFrame f → LowAct f (unit_of p paths f)
  unfolding unit_of hub_unit port_unit
  unit_low f h = go f.terminal (hub_open f) (ltb f.hub_next f.hub_end) (spent p f) (same_turn (next_port p f).reverse f.place.reverse)
    where
      go : (t o m l c : Bool)
          → LowAct f (pick t (doing (terminal_task p paths f.place) (moved f f.next f.hub_next f.hub_end))
          (pick o
          (pick m (doing (member_task p f.place (outgoing p f) (get_or p.hub f.hub_next no_port)) (moved f f.next (suc f.hub_next) f.hub_end)) (doing pass (moved f f.next 0 0)))
          (pick l leave
          (doing pass
          (pick c (moved f (onward f.place.reverse f.next) (bucket_lo p (next_port p f).word) (bucket_hi p (next_port p f).word)) (moved f (onward f.place.reverse f.next) 0 0))))))
      go true o m l c = (terminal_low f.place h, refl)
      go false true true l c =
          (member_low f.place (outgoing p f) (get_or p.hub f.hub_next no_port) (bounded.rows f.place.source (behind f.place.reverse f.next)) (bounded.hub f.hub_next) h, refl)
      go false true false l c = (tt, refl)
      go false false m true c = tt
      go false false m false true = (tt, refl)
      go false false m false false = (tt, refl)

-- ---- the walk

module _ (p : Panel) (b : SearchBudget) (bounded : Bounded p) where
  record LowWalk (w : Walk) : Type 0 where
    frames : Each LowFrame w.stack
    out : Each LowAssignment w.out

  begin_low : (w : Walk) → LowWalk w → LowWalk (walk_in (begin p w))
  unfolding enter
  begin_low w h = go (ltb w.families (length p.families))
    where
      go : (t : Bool) → LowWalk (walk_in (pick t (going (stacked w (root p w.families ∷ []))) (ended exhausted w)))
      go true = record { frames = ((omega arith, tt), tt); out = h.out }
      go false = h

  act_low : (w : Walk) (d : ℕ) (f : Frame) (rest : List Frame) (c : Act) → LowFrame f → Each LowFrame rest → Each LowAssignment w.out → LowAct f c
      → LowWalk (walk_in (after_act p (limits_of b) w d rest c))
  unfolding enter
  act_low w d f [] leave l s o k = begin_low (done_with (spend w d [])) (record { frames = tt; out = o })
  act_low w d f (g ∷ rest) leave l s o k = record { frames = s; out = o }
  act_low w d f rest (doing pass g) l s o k = record { frames = (subst LowPlace (sym k.1) l, s); out = o }
  act_low w d f rest (doing (down a) g) l s o k = go (leb b.max_frontier (suc (length rest)))
    where
      go : (t : Bool) → LowWalk (walk_in (pick t (ended (on_frontier a) (spend w d (g ∷ rest))) (going (spend w d (enter p a ∷ g ∷ rest)))))
      go true = record { frames = (subst LowPlace (sym k.1) l, s); out = o }
      go false = record { frames = (k.0, (subst LowPlace (sym k.1) l, s)); out = o }
  act_low w d f rest (doing (give rs) g) l s o k =
      record {
        frames = (subst LowPlace (sym k.1) l, s);
        out = each_append LowAssignment w.out (record { family = w.families; routes = rs } ∷ []) o (k.0, tt);
      }

  unit_walk_low : (w : Walk) → LowWalk w → LowWalk (walk_in (unit p (limits_of b) w))
  unit_walk_low w h = go (leb b.max_evaluations w.evaluations) (top w.stack h.frames)
    where
      top : (st : List Frame) → Each LowFrame st → LowWalk (walk_in (on_top p (limits_of b) w st))
      top [] s = begin_low w h
      top (f ∷ rest) s = act_low w (pick (takes_member f) 1 0) f rest (unit_of p (paths_at p w.families) f) s.0 s.1 h.out (unit_low p bounded (paths_at p w.families) f s.0)

      go : (t : Bool) → LowWalk (walk_in (on_top p (limits_of b) w w.stack)) → LowWalk (walk_in (pick t (ended on_evaluation w) (on_top p (limits_of b) w w.stack)))
      go true k = h
      go false k = k

  units_low : (n : ℕ) (s : Phase) → LowWalk (walk_in s) → LowWalk (walk_in (units p (limits_of b) n s))
  unfolding units
  units_low zero s h = h
  units_low (suc n) (ended e w) h = h
  units_low (suc n) (going w) h = units_low n (unit p (limits_of b) w) (unit_walk_low w h)

  native_low : (f : ℕ) → LowAssignment (native_of p f)
  native_low f = go (paths_at p f)
    where
      go : (l : List ℕ) → Each Low (flat (map (whole p) l))
      go [] = tt
      go (x ∷ l) = (bounded.lanes x, go l)

  seeds_low : (f : ℕ) (ls : List (List ℕ)) (w e : ℕ) → Each LowAssignment (seeds p f ls w e)
  unfolding seeds
  seeds_low f [] w e = tt
  seeds_low f (l ∷ ls) zero e = tt
  seeds_low f (l ∷ ls) (suc w) zero = tt
  seeds_low f (l ∷ ls) (suc w) (suc e) = (native_low f, seeds_low (suc f) ls w e)

  stopped_low : (s : Phase) → LowWalk (walk_in s) → LowWalk (stopped s).walk
  stopped_low (going w) h = h
  stopped_low (ended e w) h = h

  walk_low : LowWalk (walk p b).walk
  unfolding walk walk_from seeded after_seeding run
  walk_low = go (eqb start.natives (length p.families))
    where
      start : Walk
      start = seeded_with untouched (seeds p 0 p.families (b.max_work - 0) (b.max_evaluations - 0))

      fine : LowWalk start
      fine = record { frames = tt; out = seeds_low 0 p.families (b.max_work - 0) (b.max_evaluations - 0) }

      go : (t : Bool) → LowWalk (pick t (stopped (units p (limits_of b) (b.max_work - start.work) (begin p start))) (short b start)).walk
      go true = stopped_low (units p (limits_of b) (b.max_work - start.work) (begin p start)) (units_low (b.max_work - start.work) (begin p start) (begin_low start fine))
      go false = fine

  pub handed_low : Each LowAssignment (walk p b).walk.out
  handed_low = walk_low.out
