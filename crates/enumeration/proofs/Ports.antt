-- The tasks of a place: which they are, and that each descent covers a free base.
use Prim.Native.Nat.{ℕ, suc, ◌+◌, ◌-◌, ◌*◌, ◌/◌, ◌≤◌, ◌<◌}
use native.Mathlib.Omega.{arith}
use native.Mathlib.Decide.{dec_lt}
use mathlib.Core.Path.{◌≡◌, refl, sym, ◌∙◌, ap, subst}
use mathlib.Core.Logic.{◌⊎◌, inl, inr}
use mathlib.Core.List.{List, [], ◌∷◌, ◌++◌, map, append_assoc, append-nil, Memᴰ}
use mathlib.Core.Bool.{Bool, true, false, not, ◌&&◌, ◌||◌, true≢false}
use lib.Dec.{leb, ltb, eqb}
use lib.ListN.{length, take, drop, get_or, get_or-eq_default}
use lib.Seq.{slice}
use borrow.Author.Tests.{ltb-true, ltb-false, leb-true, leb-false, eqb-true, le-leb, lt-ltb, not-true}
use Rattle.ground.specs.Lists.{pick, count}
use Rattle.ground.proofs.Members.{mem_take, mem_drop}
use Rattle.storage.specs.declared.Port.{Port}
use Rattle.storage.specs.Records.{same_turn, cut_as, cut_of}
use Rattle.storage.specs.Orders.{place_of, place_lt, record_lt, turn}
use Rattle.storage.proofs.OrderLaws.{turn_small}
use Rattle.image.specs.Panel.{Panel, PanelLane, lane_at, no_lane}
use Rattle.graph.specs.Lookups.{bucket_lo, bucket_hi}
use Rattle.evaluate.specs.Properties.{Pairs}
use Rattle.evaluate.specs.Segments.{flat, clear}
use Rattle.evaluate.proofs.NormalForm.{same_turn_is}
use Rattle.search.specs.Walk.{pass, down, give, Place, Doing, on_path, piece_to, reach, switched, closes, closed, begins, same_place, terminal_task, member_task, ports_here, first_port}
use Rattle.evaluate.proofs.Lists.{mem_reverse, mem_map, mem_map_in, Falling, falling_of, past_drop, past_take}
use Rattle.enumeration.proofs.Sim.{ports_in, ports_left, hub_tasks, port_tasks, over, tasks_of}
use Rattle.enumeration.proofs.Measure.{and_left, and_right, free, free_falls}

-- ---- what holds of an accepted panel

pub record Sound (p : Panel) : Type 0 where
  pub of_lane : (l : ℕ) (q : Port) → Memᴰ q (lane_at p l).ports → q.source ≡ l
  pub in_lane : (l : ℕ) (q : Port) → Memᴰ q (lane_at p l).ports → q.anchor + p.k ≤ (lane_at p l).len
  pub of_hub : (q : Port) → Memᴰ q p.hub → Memᴰ q (lane_at p q.source).ports
  pub all_hub : (l : ℕ) (q : Port) → Memᴰ q (lane_at p l).ports → Memᴰ q p.hub
  pub rows : (l : ℕ) → Pairs (λ q r. place_lt q r ≡ true) (lane_at p l).ports
  pub hub_rows : Pairs (λ q r. record_lt q r ≡ true) p.hub

-- a lane with a base is one of the panel
pub lane_of : (p : Panel) (l : ℕ) → 0 < (lane_at p l).len → l < length p.lanes
lane_of p l h = go (dec_lt l (length p.lanes))
  where
    go : Dec (l < length p.lanes) → l < length p.lanes
    go (yes lt) = lt
    go (no f) =
        let past : length p.lanes ≤ l = omega arith in
        let none : lane_at p l ≡ no_lane = get_or-eq_default p.lanes no_lane past in
        let zero : (lane_at p l).len ≡ 0 = ap (λ (x : PanelLane). x.len) none in
        let z : ⊥ = omega arith in
        absurd z

-- ---- the tasks of a place, taken apart

abbrev pub bucket : Panel → List ℕ → List Port
bucket p w = slice (bucket_lo p w) (bucket_hi p w) p.hub

-- t is the task of the member m of the bucket of the port q
pub record Switch (p : Panel) (a : Place) (qs : List Port) (t : Doing) : Type 0 where
  pub port : Port
  pub among : Memᴰ port qs
  pub turn : port.reverse ≡ a.reverse
  pub member : Port
  pub in_bucket : Memᴰ member (bucket p port.word)
  pub is : t ≡ member_task p a port member

module _ (p : Panel) (a : Place) (t : Doing) (busy : t ≡ pass → ⊥) where
  in_hub : (q : Port) (lo hi : ℕ) → Memᴰ t (hub_tasks p a q lo hi) → (m : Port) × Memᴰ m (slice lo hi p.hub) × (t ≡ member_task p a q m)
  in_hub q lo hi = go (ltb 0 hi)
    where
      ms : List Port
      ms = slice lo hi p.hub

      end : Memᴰ t (map (member_task p a q) ms) ⊎ Memᴰ t (pass ∷ []) → (m : Port) × Memᴰ m ms × (t ≡ member_task p a q m)
      end (inl m) = mem_map (member_task p a q) ms m
      end (inr m) = absurd (busy (mathlib.Core.List.Memᴰ.eq_of_singleton m))

      go : (b : Bool) → Memᴰ t (pick b (map (member_task p a q) ms ++ (pass ∷ [])) []) → (m : Port) × Memᴰ m ms × (t ≡ member_task p a q m)
      go true m = end (mathlib.Core.List.Memᴰ.append_cases (map (member_task p a q) ms) m)
      go false m = absurd (mathlib.Core.List.Memᴰ.not-nil m)

  in_port : (q : Port) (qs : List Port) → Memᴰ t (port_tasks p a q) → Switch p a (q ∷ qs) t
  in_port q qs m = first (mathlib.Core.List.Memᴰ.cases_cons m)
    where
      go : (b : Bool) → same_turn q.reverse a.reverse ≡ b → Memᴰ t (pick b (hub_tasks p a q (bucket_lo p q.word) (bucket_hi p q.word)) []) → Switch p a (q ∷ qs) t
      go true e k = let r = in_hub q (bucket_lo p q.word) (bucket_hi p q.word) k in
          record { port = q; among = mathlib.Core.List.Memᴰ.head refl; turn = same_turn_is q.reverse a.reverse e; member = r.0; in_bucket = r.1; is = r.2 }
      go false e k = absurd (mathlib.Core.List.Memᴰ.not-nil k)

      first : (t ≡ pass) ⊎ Memᴰ t (pick (same_turn q.reverse a.reverse) (hub_tasks p a q (bucket_lo p q.word) (bucket_hi p q.word)) []) → Switch p a (q ∷ qs) t
      first (inl e) = absurd (busy e)
      first (inr k) = go (same_turn q.reverse a.reverse) refl k

  pub in_over : (qs : List Port) → Memᴰ t (over p a qs) → Switch p a qs t
  in_over [] m = absurd (mathlib.Core.List.Memᴰ.not-nil m)
  in_over (q ∷ qs) m = go (in_over qs) (mathlib.Core.List.Memᴰ.append_cases (port_tasks p a q) m)
    where
      go : (Memᴰ t (over p a qs) → Switch p a qs t) → Memᴰ t (port_tasks p a q) ⊎ Memᴰ t (over p a qs) → Switch p a (q ∷ qs) t
      go f (inl k) = in_port q qs k
      go f (inr k) = let r = f k in record { port = r.port; among = mathlib.Core.List.Memᴰ.tail r.among; turn = r.turn; member = r.member; in_bucket = r.in_bucket; is = r.is }

  abbrev pub to_come : List Port
  to_come = ports_left p a a.reverse (first_port p a a.reverse)

  pub in_tasks : (paths : List ℕ) → Memᴰ t (tasks_of p paths a) → (t ≡ terminal_task p paths a) ⊎ Switch p a to_come t
  unfolding tasks_of
  in_tasks paths m = go (mathlib.Core.List.Memᴰ.cases_cons m)
    where
      go : (t ≡ terminal_task p paths a) ⊎ Memᴰ t (over p a to_come) → (t ≡ terminal_task p paths a) ⊎ Switch p a to_come t
      go (inl e) = inl e
      go (inr k) = inr (in_over to_come k)

-- ---- and put in

pub turn_test : (x y : Bool) → x ≡ y → same_turn x y ≡ true
turn_test true true e = refl
turn_test true false e = absurd (true≢false e)
turn_test false true e = absurd (true≢false (sym e))
turn_test false false e = refl

module _ (p : Panel) (a : Place) where
  hub_in : (q m : Port) (lo hi : ℕ) → Memᴰ m (slice lo hi p.hub) → Memᴰ (member_task p a q m) (hub_tasks p a q lo hi)
  hub_in q m lo hi i = go (ltb 0 hi) refl
    where
      go : (b : Bool) → ltb 0 hi ≡ b → Memᴰ (member_task p a q m) (pick b (map (member_task p a q) (slice lo hi p.hub) ++ (pass ∷ [])) [])
      go true e = mathlib.Core.List.Memᴰ.append_left (pass ∷ []) (mem_map_in (member_task p a q) i)
      go false e = let l : hi ≤ 0 = ltb-false 0 hi e in let z : hi ≡ 0 = omega arith in
          let j : Memᴰ m (take 0 p.hub) = subst (λ n. Memᴰ m (take n p.hub)) z (mem_drop lo _ (take hi p.hub) i) in absurd (mathlib.Core.List.Memᴰ.not-nil j)

  port-in : (q m : Port) → q.reverse ≡ a.reverse → Memᴰ m (bucket p q.word) → Memᴰ (member_task p a q m) (port_tasks p a q)
  port-in q m e i = rw (turn_test q.reverse a.reverse e) (mathlib.Core.List.Memᴰ.tail (hub_in q m (bucket_lo p q.word) (bucket_hi p q.word) i))

  pub over_in : (q m : Port) {qs : List Port} → Memᴰ q qs → q.reverse ≡ a.reverse → Memᴰ m (bucket p q.word) → Memᴰ (member_task p a q m) (over p a qs)
  over_in q m (mathlib.Core.List.Memᴰ.head {x = r} {xs = rs} c) e i = mathlib.Core.List.Memᴰ.append_left (over p a rs) (subst (λ y. Memᴰ (member_task p a q m) (port_tasks p a y)) c (port-in q m e i))
  over_in q m (mathlib.Core.List.Memᴰ.tail {x = r} {xs = rs} k) e i = mathlib.Core.List.Memᴰ.append_right (port_tasks p a r) (over_in q m k e i)

-- ---- each descent falls

-- the ports to come lie past the cut
abbrev pub Past : Bool → ℕ → ℕ → Type 0
Past false c q = c < q
Past true c q = q < c

pub flat_append : {A : Type 0} (ls ms : List (List A)) → flat (ls ++ ms) ≡ flat ls ++ flat ms
flat_append [] ms = refl
flat_append (k ∷ ls) ms = ap (λ x. k ++ x) (flat_append ls ms) ∙ sym (append_assoc k (flat ls) (flat ms))

flat_snoc : {A : Type 0} (ls : List (List A)) (l : List A) → flat (ls ++ (l ∷ [])) ≡ flat ls ++ l
flat_snoc ls l = flat_append ls (l ∷ []) ∙ ap (λ x. flat ls ++ x) (append-nil l)

anchors_rise : (q r : Port) → place_lt q r ≡ true → q.anchor ≤ r.anchor
unfolding place_lt place_of
anchors_rise q r e =
    let l = ltb-true (2 * q.anchor + turn q.reverse) (2 * r.anchor + turn r.reverse) e in
    let a = turn_small q.reverse in
    let b = turn_small r.reverse in
    omega arith

module _ (p : Panel) where
  abbrev pub Ok : Place → Type 0
  Ok a = a.cut ≤ (lane_at p a.source).len

  abbrev pub μ : Place → ℕ
  μ a = free p (on_path a)

  -- the tests by which a place finds its ports fall along a lane's list
  pub ahead_falls : (c : ℕ) (l : List Port) → Pairs (λ q r. place_lt q r ≡ true) l → Falling (λ q. leb (cut_as p.k false q.anchor) c) l
  ahead_falls c =
      falling_of (λ q r. place_lt q r ≡ true) (λ q. leb (cut_as p.k false q.anchor) c)
      (λ q r h e. let a = anchors_rise q r h in let b = leb-true (r.anchor + p.k / 2) c e in le-leb (q.anchor + p.k / 2) c (omega arith))

  pub behind_falls : (c : ℕ) (l : List Port) → Pairs (λ q r. place_lt q r ≡ true) l → Falling (λ q. ltb (cut_as p.k true q.anchor) c) l
  behind_falls c =
      falling_of (λ q r. place_lt q r ≡ true) (λ q. ltb (cut_as p.k true q.anchor) c)
      (λ q r h e. let a = anchors_rise q r h in let b = ltb-true (r.anchor + (p.k - p.k / 2)) c e in lt-ltb (q.anchor + (p.k - p.k / 2)) c (omega arith))

  pub cut_in : (r : Bool) (x n : ℕ) → x + p.k ≤ n → cut_as p.k r x ≤ n
  cut_in false x n h = omega arith
  cut_in true x n h = omega arith

  -- from a place to a cut that is past its own and in the lane
  piece_falls : (a : Place) → Ok a → (r : Bool) (to : ℕ) → Past r a.cut to → to ≤ (lane_at p a.source).len → clear (piece_to a to) (on_path a) ≡ true
      → free p (on_path a ++ (piece_to a to ∷ [])) < free p (on_path a)
  piece_falls a ok false to h k c = free_falls p (on_path a) (piece_to a to) (omega arith) (omega arith) c
  piece_falls a ok true to h k c = free_falls p (on_path a) (piece_to a to) (omega arith) (omega arith) c

  module _ (paths : List ℕ) (a b : Place) where
    pub terminal_down : down b ≡ terminal_task p paths a → (closes p paths a ≡ true) × (b ≡ begins (suc a.slot) (get_or paths (suc a.slot) 0) (closed p a))
    unfolding terminal_task
    terminal_down = go (closes p paths a) (eqb (suc a.slot) (length paths))
      where
        go : (c d : Bool) → ◌≡◌ {A = Doing} (down b) (pick c (pick d (give (closed p a)) (down (begins (suc a.slot) (get_or paths (suc a.slot) 0) (closed p a)))) pass)
            → (c ≡ true) × (b ≡ begins (suc a.slot) (get_or paths (suc a.slot) 0) (closed p a))
        go true true e = let z : ◌≡◌ {A = ℕ} 0 1 = cc in let x : ⊥ = omega arith in absurd x
        go true false e = (refl, cc)
        go false d e = let z : ◌≡◌ {A = ℕ} 0 1 = cc in let x : ⊥ = omega arith in absurd x

    pub member_down : (q m : Port) → down b ≡ member_task p a q m → (same_place p.k m q ≡ false) × (clear (reach p a q) (on_path a) ≡ true) × (b ≡ switched p a q m)
    unfolding member_task
    member_down q m = go (same_place p.k m q) (clear (reach p a q) (on_path a))
      where
        go : (c d : Bool) → ◌≡◌ {A = Doing} (down b) (pick (c || not d) pass (down (switched p a q m))) → (c ≡ false) × (d ≡ true) × (b ≡ switched p a q m)
        go true d e = let z : ◌≡◌ {A = ℕ} 0 1 = cc in let x : ⊥ = omega arith in absurd x
        go false true e = (refl, refl, cc)
        go false false e = let z : ◌≡◌ {A = ℕ} 0 1 = cc in let x : ⊥ = omega arith in absurd x

  pub closed_path : (a : Place) → flat (closed p a) ++ [] ≡ on_path a ++ (piece_to a (lane_at p a.source).len ∷ [])
  closed_path a = let s = piece_to a (lane_at p a.source).len in
      append-nil (flat (closed p a)) ∙ flat_snoc a.routes (a.route ++ (s ∷ [])) ∙ sym (append_assoc (flat a.routes) a.route (s ∷ []))

  -- what `closes` says
  pub record Closing (paths : List ℕ) (a : Place) : Type 0 where
    pub lane : a.source ≡ get_or paths a.slot 0
    pub forward : a.reverse ≡ false
    pub inside : a.cut < (lane_at p a.source).len
    pub clears : clear (piece_to a (lane_at p a.source).len) (on_path a) ≡ true

  pub closing : (paths : List ℕ) (a : Place) → closes p paths a ≡ true → Closing paths a
  closing paths a e =
      let x = eqb a.source (get_or paths a.slot 0) in
      let y = not a.reverse in
      let z = ltb a.cut (lane_at p a.source).len in
      let w = clear (piece_to a (lane_at p a.source).len) (on_path a) in
      let e₁ : (x && y && z) ≡ true = and_left (x && y && z) w e in
      let e₂ : (x && y) ≡ true = and_left (x && y) z e₁ in
      record {
        lane = eqb-true a.source (get_or paths a.slot 0) (and_left x y e₂);
        forward = not-true a.reverse (and_right x y e₂);
        inside = ltb-true a.cut (lane_at p a.source).len (and_right (x && y) z e₁);
        clears = and_right (x && y && z) w e;
      }

module _ (p : Panel) (sound : Sound p) where
  -- a port to come is one of the lane's, and past the cut
  pub coming : (a : Place) (r : Bool) (q : Port) → Memᴰ q (ports_in (ports_here p a) r (first_port p a r))
      → Memᴰ q (ports_here p a) × Past r a.cut (cut_as p.k r q.anchor)
  coming a false q m =
      let l = ports_here p a in
      let n = count (λ g. leb (cut_as p.k false g.anchor) a.cut) l in
      let e : suc n - 1 ≡ n = omega arith in
      let m' : Memᴰ q (drop n l) = subst (λ i. Memᴰ q (drop i l)) e m in
      (mem_drop n _ l m', leb-false (q.anchor + p.k / 2) a.cut (past_drop (λ g. leb (cut_as p.k false g.anchor) a.cut) l (ahead_falls p a.cut l (sound.rows a.source)) q m'))
  coming a true q m = go (mem_reverse (take n l) [] m)
    where
      l : List Port
      l = ports_here p a

      n : ℕ
      n = count (λ g. ltb (cut_as p.k true g.anchor) a.cut) l

      go : Memᴰ q (take n l) ⊎ Memᴰ q [] → Memᴰ q l × (q.anchor + (p.k - p.k / 2) < a.cut)
      go (inl k) = (mem_take n _ l k, ltb-true (q.anchor + (p.k - p.k / 2)) a.cut (past_take (λ g. ltb (cut_as p.k true g.anchor) a.cut) l (behind_falls p a.cut l (sound.rows a.source)) q k))
      go (inr k) = absurd (mathlib.Core.List.Memᴰ.not-nil k)

  pub falls : (paths : List ℕ) (a b : Place) → Ok p a → Memᴰ (down b) (tasks_of p paths a) → Ok p b × (μ p b < μ p a)
  falls paths a b ok m = go (in_tasks p a (down b) (λ e. let z : ◌≡◌ {A = ℕ} 0 1 = cc in omega arith) paths m)
    where
      go : (down b ≡ terminal_task p paths a) ⊎ Switch p a (ports_left p a a.reverse (first_port p a a.reverse)) (down b) → Ok p b × (μ p b < μ p a)
      go (inl e) =
          let r = terminal_down p paths a b e in
          let c = closing p paths a r.0 in
          let h : Past false a.cut (lane_at p a.source).len = c.inside in
          rw (r.1, closed_path p a) (omega arith, piece_falls p a ok false (lane_at p a.source).len h (omega arith) c.clears)
      go (inr s) =
          let r = member_down p paths a b s.port s.member s.is in
          let c = coming a a.reverse s.port s.among in
          let h : Past a.reverse a.cut (cut_of s.port p.k) = rw s.turn c.1 in
          let i : Memᴰ s.member p.hub = mem_take (bucket_hi p s.port.word) _ p.hub (mem_drop (bucket_lo p s.port.word) _ _ s.in_bucket) in
          rw (r.2, ← (append_assoc (flat a.routes) a.route (reach p a s.port ∷ []))) (
            cut_in p s.member.reverse s.member.anchor _ (sound.in_lane s.member.source s.member (sound.of_hub s.member i)),
            piece_falls p a ok a.reverse (cut_of s.port p.k) h (cut_in p s.port.reverse s.port.anchor _ (sound.in_lane a.source s.port c.0)) r.1,
          )
