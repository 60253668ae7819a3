-- What the walk hands over fits a slot: a piece a frame, a route a path.
use Prim.Native.Nat.{ℕ, zero, suc, ◌+◌, ◌*◌, ◌-◌, ◌≤◌, ◌<◌, max}
use native.Mathlib.Omega.{arith}
use mathlib.Core.Path.{◌≡◌, refl, sym, ◌∙◌, ap, subst}
use mathlib.Core.Bool.{Bool, true, false, not, ◌||◌}
use mathlib.Core.List.{List, [], ◌∷◌, ◌++◌, map, append_assoc}
use lib.Dec.{leb, ltb, eqb}
use lib.ListN.{length, get_or, length-append, length-map}
use borrow.Author.Tests.{leb-false, eqb-true}
use Rattle.ground.specs.Lists.{pick}
use Rattle.storage.specs.declared.Port.{Port}
use Rattle.storage.specs.Records.{no_port, same_turn}
use Rattle.image.specs.Panel.{Panel, paths_at}
use Rattle.graph.specs.Lookups.{bucket_lo, bucket_hi}
use Rattle.evaluate.specs.Properties.{Each}
use Rattle.evaluate.specs.Segments.{Route, Assignment, flat, clear, whole, native_of}
use Rattle.evaluate.specs.Words.{segment_words, route_words, encode}
use Rattle.evaluate.proofs.Lists.{each_append, each_map}
use Rattle.search.specs.declared.SearchBudget.{SearchBudget}
use Rattle.search.specs.Walk.{pass, down, give, Place, Frame, Doing, Act, leave, doing, enter, begins, on_path, reach, switched, closes, closed, same_place, terminal_task, member_task, onward, outgoing, hub_open, next_port, spent, moved, port_unit, hub_unit, unit_of, takes_member}
use Rattle.search.specs.Run.{Walk, exhausted, on_evaluation, on_frontier, Phase, going, ended, limits_of, root, stacked, begin, spend, done_with, after_act, on_top, unit, units, stopped, run, seeds, seeded_with, seeded, short, after_seeding, walk_from, untouched, walk}
use Rattle.search.specs.Rooms.{most_paths, slot_width}
use Rattle.enumeration.proofs.Ports.{closed_path}
use Rattle.enumeration.proofs.Budgets.{walk_in}

-- ---- an assignment's words

segment-words : (r : Route) → length (segment_words r) ≡ 4 * length r
segment-words [] = refl
segment-words (s ∷ r) = let h = segment-words r in omega arith

route-words : (rs : List Route) → length (route_words rs) ≡ length rs + 4 * length (flat rs)
route-words [] = refl
route-words (r ∷ rs) =
    let h = route-words rs in
    let k = segment-words r in
    simp length-append (omega arith)

-- a word for its family, one for their number, one for each route, four for each segment
pub encode_length : (a : Assignment) → length (encode a) ≡ 2 + length a.routes + 4 * length (flat a.routes)
unfolding encode
encode_length a = let h = route-words a.routes in omega arith

-- ---- a unit on a frame

-- the route in hand is that of the slot
abbrev pub Slotted : Place → Type 0
Slotted a = length a.routes ≡ a.slot

-- one piece more at each descent, and one route for each path where it hands over
abbrev pub TaskOk : List ℕ → Place → Doing → Type 0
TaskOk paths a pass = Unit
TaskOk paths a (down c) = (length (on_path c) ≡ suc (length (on_path a))) × Slotted c
TaskOk paths a (give rs) = (length rs ≡ length paths) × (length (flat rs) ≡ suc (length (on_path a)))

abbrev pub ActOk : List ℕ → Frame → Act → Type 0
ActOk paths f leave = Unit
ActOk paths f (doing t g) = TaskOk paths f.place t × (g.place ≡ f.place)

module _ (p : Panel) (paths : List ℕ) where
  closed_routes : (a : Place) → length (closed p a) ≡ suc (length a.routes)
  closed_routes a = simp length-append (omega arith)

  closed_pieces : (a : Place) → length (flat (closed p a) ++ []) ≡ suc (length (on_path a))
  closed_pieces a = ap length (closed_path p a) ∙ simp length-append (omega arith)

  terminal_ok : (a : Place) → Slotted a → TaskOk paths a (terminal_task p paths a)
  unfolding terminal_task
  terminal_ok a h = go (closes p paths a) (eqb (suc a.slot) (length paths)) refl
    where
      go : (c d : Bool) → eqb (suc a.slot) (length paths) ≡ d → TaskOk paths a (pick c (pick d (give (closed p a)) (down (begins (suc a.slot) (get_or paths (suc a.slot) 0) (closed p a)))) pass)
      go false d e = tt
      go true true e =
          let n = eqb-true (suc a.slot) (length paths) e in
          let m = closed_routes a in
          let k : length (flat (closed p a)) + 0 ≡ suc (length (on_path a)) = sym (length-append (flat (closed p a)) []) ∙ closed_pieces a in
          (omega arith, omega arith)
      go true false e = (closed_pieces a, let m = closed_routes a in omega arith)

  member_ok : (a : Place) (out q : Port) → Slotted a → TaskOk paths a (member_task p a out q)
  unfolding member_task
  member_ok a out q h = go (same_place p.k q out || not (clear (reach p a out) (on_path a)))
    where
      go : (c : Bool) → TaskOk paths a (pick c pass (down (switched p a out q)))
      go true = tt
      go false = (ap length (sym (append_assoc (flat a.routes) a.route (reach p a out ∷ []))) ∙ simp length-append (omega arith), h)

  pub unit_ok : (f : Frame) → Slotted f.place → ActOk paths f (unit_of p paths f)
  unfolding unit_of hub_unit port_unit
  unit_ok f h = go f.terminal (hub_open f) (ltb f.hub_next f.hub_end) (spent p f) (same_turn (next_port p f).reverse f.place.reverse)
    where
      go : (t o m l c : Bool)
          → ActOk paths f (pick t (doing (terminal_task p paths f.place) (moved f f.next f.hub_next f.hub_end))
          (pick o
          (pick m (doing (member_task p f.place (outgoing p f) (get_or p.hub f.hub_next no_port)) (moved f f.next (suc f.hub_next) f.hub_end)) (doing pass (moved f f.next 0 0)))
          (pick l leave
          (doing pass
          (pick c (moved f (onward f.place.reverse f.next) (bucket_lo p (next_port p f).word) (bucket_hi p (next_port p f).word)) (moved f (onward f.place.reverse f.next) 0 0))))))
      go true o m l c = (terminal_ok f.place h, refl)
      go false true true l c = (member_ok f.place (outgoing p f) (get_or p.hub f.hub_next no_port) h, refl)
      go false true false l c = (tt, refl)
      go false false m true c = tt
      go false false m false true = (tt, refl)
      go false false m false false = (tt, refl)

-- ---- the walk

-- a frame has at most as many pieces as frames stand below it
abbrev pub StackOk : List Frame → Type 0
StackOk [] = Unit
StackOk (f ∷ rest) = ((length (on_path f.place) ≤ length rest) × Slotted f.place) × StackOk rest

most_at : (ls : List (List ℕ)) (f : ℕ) → length (get_or ls f []) ≤ most_paths ls
unfolding most_paths
most_at [] f = omega arith
most_at (l ∷ ls) zero = omega arith
most_at (l ∷ ls) (suc f) = let h = most_at ls f in omega arith

module _ (p : Panel) (b : SearchBudget) (room : 0 < b.max_frontier) where
  -- few routes and few segments
  pub record Small (a : Assignment) : Type 0 where
    pub routes : length a.routes ≤ most_paths p.families
    pub segments : length (flat a.routes) ≤ max b.max_frontier (most_paths p.families)

  -- what holds before and after every unit
  pub record WalkOk (w : Walk) : Type 0 where
    pub frames : StackOk w.stack
    pub depth : length w.stack ≤ b.max_frontier
    pub out : Each Small w.out

  pub begin_ok : (w : Walk) → WalkOk w → WalkOk (walk_in (begin p w))
  unfolding enter
  begin_ok w h = go (ltb w.families (length p.families))
    where
      go : (t : Bool) → WalkOk (walk_in (pick t (going (stacked w (root p w.families ∷ []))) (ended exhausted w)))
      go true = record { frames = ((omega arith, refl), tt); depth = room; out = h.out }
      go false = h

  pub act_ok : (w : Walk) (d : ℕ) (f : Frame) (rest : List Frame) (c : Act) → StackOk (f ∷ rest) → suc (length rest) ≤ b.max_frontier → Each Small w.out → ActOk (paths_at p w.families) f c
      → WalkOk (walk_in (after_act p (limits_of b) w d rest c))
  unfolding enter
  act_ok w d f [] leave s l o k = begin_ok (done_with (spend w d [])) (record { frames = tt; depth = omega arith; out = o })
  act_ok w d f (g ∷ rest) leave s l o k = record { frames = s.1; depth = omega arith; out = o }
  act_ok w d f rest (doing pass g) s l o k = record { frames = (subst (λ (a : Place). (length (on_path a) ≤ length rest) × Slotted a) (sym k.1) s.0, s.1); depth = l; out = o }
  act_ok w d f rest (doing (down a) g) s l o k = go (leb b.max_frontier (suc (length rest))) refl
    where
      same : (length (on_path g.place) ≤ length rest) × Slotted g.place
      same = subst (λ (a : Place). (length (on_path a) ≤ length rest) × Slotted a) (sym k.1) s.0

      go : (t : Bool) → leb b.max_frontier (suc (length rest)) ≡ t → WalkOk (walk_in (pick t (ended (on_frontier a) (spend w d (g ∷ rest))) (going (spend w d (enter p a ∷ g ∷ rest)))))
      go true e = record { frames = (same, s.1); depth = l; out = o }
      go false e =
          let deeper = leb-false b.max_frontier (suc (length rest)) e in
          let (n, m) = k.0 in
          let few = s.0.0 in
          record { frames = ((omega arith, m), (same, s.1)); depth = deeper; out = o }
  act_ok w d f rest (doing (give rs) g) s l o k =
      let (n, m) = k.0 in
      let few = s.0.0 in
      let most = most_at p.families w.families in
      record {
        frames = (subst (λ (a : Place). (length (on_path a) ≤ length rest) × Slotted a) (sym k.1) s.0, s.1);
        depth = l;
        out = each_append Small w.out (record { family = w.families; routes = rs } ∷ []) o (record { routes = omega arith; segments = omega arith }, tt);
      }

  pub unit_walk_ok : (w : Walk) → WalkOk w → WalkOk (walk_in (unit p (limits_of b) w))
  unit_walk_ok w h = go (leb b.max_evaluations w.evaluations) (top w.stack h.frames h.depth)
    where
      top : (st : List Frame) → StackOk st → length st ≤ b.max_frontier → WalkOk (walk_in (on_top p (limits_of b) w st))
      top [] s l = begin_ok w h
      top (f ∷ rest) s l = act_ok w (pick (takes_member f) 1 0) f rest (unit_of p (paths_at p w.families) f) s l h.out (unit_ok p (paths_at p w.families) f s.0.1)

      go : (t : Bool) → WalkOk (walk_in (on_top p (limits_of b) w w.stack)) → WalkOk (walk_in (pick t (ended on_evaluation w) (on_top p (limits_of b) w w.stack)))
      go true k = h
      go false k = k

  pub units_ok : (n : ℕ) (s : Phase) → WalkOk (walk_in s) → WalkOk (walk_in (units p (limits_of b) n s))
  unfolding units
  units_ok zero s h = h
  units_ok (suc n) (ended e w) h = h
  units_ok (suc n) (going w) h = units_ok n (unit p (limits_of b) w) (unit_walk_ok w h)

  pub native_small : (f : ℕ) → Small (native_of p f)
  native_small f =
      let most = most_at p.families f in
      let n : length (map (whole p) (paths_at p f)) ≡ length (paths_at p f) = length-map (paths_at p f) (whole p) in
      let m = pieces (paths_at p f) in
      record { routes = omega arith; segments = omega arith }
    where
      pieces : (l : List ℕ) → length (flat (map (whole p) l)) ≡ length l
      pieces [] = refl
      pieces (x ∷ l) = ap suc (pieces l)

  seeds_small : (f : ℕ) (ls : List (List ℕ)) (w e : ℕ) → Each Small (seeds p f ls w e)
  unfolding seeds
  seeds_small f [] w e = tt
  seeds_small f (l ∷ ls) zero e = tt
  seeds_small f (l ∷ ls) (suc w) zero = tt
  seeds_small f (l ∷ ls) (suc w) (suc e) = (native_small f, seeds_small (suc f) ls w e)

  stopped_ok : (s : Phase) → WalkOk (walk_in s) → WalkOk (stopped s).walk
  stopped_ok (going w) h = h
  stopped_ok (ended e w) h = h

  walk_ok : WalkOk (walk p b).walk
  unfolding walk walk_from seeded after_seeding run
  walk_ok = go (eqb start.natives (length p.families))
    where
      start : Walk
      start = seeded_with untouched (seeds p 0 p.families (b.max_work - 0) (b.max_evaluations - 0))

      fine : WalkOk start
      fine = record { frames = tt; depth = omega arith; out = seeds_small 0 p.families (b.max_work - 0) (b.max_evaluations - 0) }

      go : (t : Bool) → WalkOk (pick t (stopped (units p (limits_of b) (b.max_work - start.work) (begin p start))) (short b start)).walk
      go true = stopped_ok (units p (limits_of b) (b.max_work - start.work) (begin p start)) (units_ok (b.max_work - start.work) (begin p start) (begin_ok start fine))
      go false = fine

  pub small_fits : (a : Assignment) → Small a → length (encode a) ≤ slot_width p b
  unfolding slot_width
  small_fits a h =
      let n = encode_length a in
      let r = h.routes in
      let g = h.segments in
      omega arith

  -- each assignment that the walk hands over fits a slot
  pub handed_fits : Each (λ a. length (encode a) ≤ slot_width p b) (walk p b).walk.out
  handed_fits = each_map Small (λ a. length (encode a) ≤ slot_width p b) small_fits (walk p b).walk.out walk_ok.out
