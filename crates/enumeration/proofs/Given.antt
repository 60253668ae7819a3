-- From a place, the walk's tree gives exactly what completes it: a legal rest of the route, and legal routes for the later slots.
use Prim.Native.Nat.{ℕ, suc, ◌+◌, ◌-◌, ◌/◌, ◌≤◌, ◌<◌, min, max}
use native.Mathlib.Omega.{arith}
use mathlib.Core.Path.{◌≡◌, refl, sym, ◌∙◌, ap, subst}
use mathlib.Core.Logic.{◌⊎◌, inl, inr, ◌↔◌}
use mathlib.Core.List.{List, [], ◌∷◌, ◌++◌, append_assoc, Memᴰ}
use mathlib.Core.Bool.{Bool, true, false, not, ◌&&◌, ◌||◌, true≢false}
use lib.Dec.{leb, ltb, eqb}
use lib.ListN.{length, take, drop, get_or, drop_of_length-le}
use lib.Seq.{drop-cons, append_snoc}
use borrow.Author.Tests.{eqb-true, eqb-false, eq-eqb, lt-ltb, lt-leb}
use Rattle.ground.specs.Lists.{pick, count}
use Rattle.ground.proofs.Members.{mem_take, mem_drop}
use Rattle.storage.specs.declared.Port.{Port}
use Rattle.std.specs.declared.cmp.Ordering.{Ordering}
use Rattle.std.specs.declared.cmp.Ordering.TheVariants.{Less, Equal, Greater}
use Rattle.storage.specs.Records.{same_turn, cut_as, cut_of}
use Rattle.storage.specs.Orders.{word_order, word_below, word_up_to, bucket_of, is_less, is_greater, record_lt}
use Rattle.storage.proofs.OrderLaws.{word_same, word_self, below_before, up_to_before}
use Rattle.image.specs.Panel.{Panel, lane_at}
use Rattle.graph.specs.Lookups.{bucket_lo, bucket_hi}
use Rattle.evaluate.specs.declared.Segment.{Segment}
use Rattle.evaluate.specs.Properties.{Matched}
use Rattle.evaluate.specs.Segments.{Route, entry, exit, flat, clear, SoundSpan, joinable, Unjoined}
use Rattle.evaluate.specs.Legal.{Leaves, Joint}
use Rattle.evaluate.proofs.NormalForm.{same_turn_is, joins, Joins}
use Rattle.search.specs.Walk.{pass, down, give, Place, Doing, on_path, piece_to, reach, switched, closes, closed, begins, same_place, terminal_task, member_task, ports_here, first_port}
use Rattle.evaluate.proofs.Lists.{mem_drop_take, mem_reverse_in, past_take, past_drop, in_slice, in_drop, in_take, Falling, falling_of}
use Rattle.enumeration.proofs.Tree.{Gives, here, below}
use Rattle.enumeration.proofs.Sim.{ports_in, ports_left, over, tasks_of}
use Rattle.enumeration.proofs.Measure.{and_left, and_right}
use Rattle.enumeration.proofs.Ports.{Sound, lane_of, Switch, bucket, in_tasks, over_in, Past, coming, Closing, closing, terminal_down, member_down, closed_path, cut_in, ahead_falls, behind_falls, turn_test}

-- ---- words

between : (w : List ℕ) (m : Port) → word_below w m ≡ false → word_up_to w m ≡ true → m.word ≡ w
unfolding word_below word_up_to
between w m e f = go (word_order m.word w) refl e f
  where
    go : (o : Ordering) → word_order m.word w ≡ o → is_less o ≡ false → not (is_greater o) ≡ true → m.word ≡ w
    go Less q e f = absurd (true≢false e)
    go Equal q e f = word_same m.word w q
    go Greater q e f = absurd (true≢false (sym f))

own_below : (m : Port) → word_below m.word m ≡ false
unfolding word_below
own_below m = rw (word_self m.word)

own_up_to : (m : Port) → word_up_to m.word m ≡ true
unfolding word_up_to
own_up_to m = rw (word_self m.word)

-- ---- what completes a place

pub record Begins (s : Segment) (l c : ℕ) (r : Bool) : Type 0 where
  pub lane : s.source ≡ l
  pub cut : entry s ≡ c
  pub turn : s.reverse ≡ r

-- a route from a lane's cut to the target's end
abbrev pub Chain : Panel → ℕ → ℕ → ℕ → Bool → Route → Type 0
Chain p target l c r [] = ⊥
Chain p target l c r (s ∷ []) = Begins s l c r × SoundSpan p s × Leaves p target s
Chain p target l c r (s ∷ t ∷ ts) = Begins s l c r × SoundSpan p s × (Joint p s t × Unjoined s t) × Chain p target t.source (entry t) t.reverse (t ∷ ts)

abbrev pub RouteOf : Panel → ℕ → Route → Type 0
RouteOf p target r = Chain p target target 0 false r

-- each segment is clear of what stands before it
abbrev pub Clear : List Segment → List Segment → Type 0
Clear path [] = Unit
Clear path (s ∷ ss) = (clear s path ≡ true) × Clear (path ++ (s ∷ [])) ss

-- what is still to be done from a place
pub record Completes (p : Panel) (paths : List ℕ) (x : List Route) (a : Place) : Type 0 where
  pub more : Route
  pub later : List Route
  pub is : x ≡ a.routes ++ ((a.route ++ more) ∷ later)
  pub chain : Chain p (get_or paths a.slot 0) a.source a.cut a.reverse more
  pub rest : Matched (RouteOf p) (drop (suc a.slot) paths) later
  pub clears : Clear (on_path a) (more ++ flat later)

abbrev pub Fine : Panel → List ℕ → Place → Type 0
Fine p paths a = (a.cut ≤ (lane_at p a.source).len) × (a.slot < length paths)

-- ---- pieces

module _ (a : Place) (to : ℕ) where
  piece_entry : (r : Bool) → Past r a.cut to → pick r (max a.cut to) (min a.cut to) ≡ a.cut
  piece_entry false h = omega arith
  piece_entry true h = omega arith

  pub piece_exit : (r : Bool) → Past r a.cut to → pick r (min a.cut to) (max a.cut to) ≡ to
  piece_exit false h = omega arith
  piece_exit true h = omega arith

  piece_some : (r : Bool) → Past r a.cut to → min a.cut to < max a.cut to
  piece_some false h = omega arith
  piece_some true h = omega arith

module _ (p : Panel) (sound : Sound p) where
  piece_span : (a : Place) → a.cut ≤ (lane_at p a.source).len → (r : Bool) (to : ℕ) → Past r a.cut to → to ≤ (lane_at p a.source).len → SoundSpan p (piece_to a to)
  piece_span a ok r to h k = record { lane = lane_of p a.source (let x = piece_some a to r h in omega arith); some = piece_some a to r h; inside = omega arith }

  -- the bucket of a word holds the global records with that word
  below_falls : (w : List ℕ) → Falling (word_below w) p.hub
  below_falls w = falling_of (λ q r. record_lt q r ≡ true) (word_below w) (below_before w) p.hub sound.hub_rows

  up_to_falls : (w : List ℕ) → Falling (word_up_to w) p.hub
  up_to_falls w = falling_of (λ q r. record_lt q r ≡ true) (word_up_to w) (up_to_before w) p.hub sound.hub_rows

  pub bucket_word : (w : List ℕ) (m : Port) → Memᴰ m (bucket p w) → m.word ≡ w
  unfolding bucket_of
  bucket_word w m i =
      between w m
      (past_drop (word_below w) p.hub (below_falls w) m (mem_drop_take (bucket_lo p w) (bucket_hi p w) p.hub i))
      (past_take (word_up_to w) p.hub (up_to_falls w) m (mem_drop (bucket_lo p w) _ (take (bucket_hi p w) p.hub) i))

  bucket-in : (m : Port) → Memᴰ m p.hub → Memᴰ m (bucket p m.word)
  unfolding bucket_of
  bucket-in m i = in_slice (word_below m.word) (word_up_to m.word) m (own_below m) (own_up_to m) p.hub (below_falls m.word) (up_to_falls m.word) i

  module _ (paths : List ℕ) where
    -- ---- what the tree gives is legal

    give_terminal : (a : Place) (x : List Route) → give x ≡ terminal_task p paths a → (closes p paths a ≡ true) × (eqb (suc a.slot) (length paths) ≡ true) × (x ≡ closed p a)
    unfolding terminal_task
    give_terminal a x = go (closes p paths a) (eqb (suc a.slot) (length paths))
      where
        go : (c d : Bool) → ◌≡◌ {A = Doing} (give x) (pick c (pick d (give (closed p a)) (down (begins (suc a.slot) (get_or paths (suc a.slot) 0) (closed p a)))) pass)
            → (c ≡ true) × (d ≡ true) × (x ≡ closed p a)
        go true true e = (refl, refl, cc)
        go true false e = let z : ◌≡◌ {A = ℕ} 0 1 = cc in let y : ⊥ = omega arith in absurd y
        go false d e = let z : ◌≡◌ {A = ℕ} 0 1 = cc in let y : ⊥ = omega arith in absurd y

    give_member : (a : Place) (x : List Route) (q m : Port) → give x ≡ member_task p a q m → ⊥
    unfolding member_task
    give_member a x q m = go (same_place p.k m q || not (clear (reach p a q) (on_path a)))
      where
        go : (c : Bool) → ◌≡◌ {A = Doing} (give x) (pick c pass (down (switched p a q m))) → ⊥
        go true e = let z : ◌≡◌ {A = ℕ} 0 1 = cc in omega arith
        go false e = let z : ◌≡◌ {A = ℕ} 0 1 = cc in omega arith

    -- the closing piece is a last segment
    last_piece : (a : Place) → Fine p paths a → Closing p paths a → Chain p (get_or paths a.slot 0) a.source a.cut a.reverse (piece_to a (lane_at p a.source).len ∷ [])
    last_piece a ok c =
        let n = (lane_at p a.source).len in
        let h : Past false a.cut n = c.inside in (
          record { lane = refl; cut = rw c.forward (piece_entry a n false h); turn = refl },
          piece_span a ok.0 false n h (omega arith),
          record { lane = c.lane; forward = c.forward; at_end = rw (c.forward, ← c.lane) (piece_exit a n false h) },
        )

    complete_last : (a : Place) (x : List Route) → Fine p paths a → give x ≡ terminal_task p paths a → Completes p paths x a
    complete_last a x ok e =
        let r = give_terminal a x e in
        let c = closing p paths a r.0 in
        let n : suc a.slot ≡ length paths = eqb-true (suc a.slot) (length paths) r.1 in
        record {
          more = piece_to a (lane_at p a.source).len ∷ [];
          later = [];
          is = r.2;
          chain = last_piece a ok c;
          rest = rw (drop_of_length-le paths {i = suc a.slot} (omega arith)) tt;
          clears = (c.clears, tt);
        }

    down_last : (a b : Place) → down b ≡ terminal_task p paths a → eqb (suc a.slot) (length paths) ≡ false
    unfolding terminal_task
    down_last a b = go (closes p paths a) (eqb (suc a.slot) (length paths))
      where
        go : (c d : Bool) → ◌≡◌ {A = Doing} (down b) (pick c (pick d (give (closed p a)) (down (begins (suc a.slot) (get_or paths (suc a.slot) 0) (closed p a)))) pass) → d ≡ false
        go true true e = let z : ◌≡◌ {A = ℕ} 0 1 = cc in let y : ⊥ = omega arith in absurd y
        go true false e = refl
        go false d e = let z : ◌≡◌ {A = ℕ} 0 1 = cc in let y : ⊥ = omega arith in absurd y

    next_slot : (a b : Place) → Fine p paths a → down b ≡ terminal_task p paths a → suc a.slot < length paths
    next_slot a b ok e = let n = eqb-false (suc a.slot) (length paths) (down_last a b e) in let l = ok.1 in omega arith

    pub terminal_fine : (a b : Place) → Fine p paths a → down b ≡ terminal_task p paths a → Fine p paths b
    terminal_fine a b ok e = let r = terminal_down p paths a b e in rw r.1 (omega arith, next_slot a b ok e)

    terminal_step : (a b : Place) (x : List Route) → Fine p paths a → down b ≡ terminal_task p paths a → Completes p paths x b → Completes p paths x a
    terminal_step a b x ok e c₀ =
        let r = terminal_down p paths a b e in
        let c = subst (Completes p paths x) r.1 c₀ in
        let k = closing p paths a r.0 in
        let s = piece_to a (lane_at p a.source).len in
        record {
          more = s ∷ [];
          later = c.more ∷ c.later;
          is = c.is ∙ append_assoc a.routes ((a.route ++ (s ∷ [])) ∷ []) (c.more ∷ c.later);
          chain = last_piece a ok k;
          rest = rw (drop-cons paths (suc a.slot) 0 (next_slot a b ok e)) (c.chain, c.rest);
          clears = (k.clears, subst (λ l. Clear l (c.more ++ flat c.later)) (closed_path p a) c.clears);
        }

    -- a switch
    module _ (a b : Place) (ok : Fine p paths a) (w : Switch p a (ports_left p a a.reverse (first_port p a a.reverse)) (down b)) where
      abbrev q : Port
      q = w.port

      abbrev m : Port
      m = w.member

      abbrev s : Segment
      s = reach p a q

      found : Memᴰ q (ports_here p a) × Past a.reverse a.cut (cut_of q p.k)
      found = let c = coming p sound a a.reverse q w.among in (c.0, subst (λ r. Past a.reverse a.cut (cut_as p.k r q.anchor)) (sym w.turn) c.1)

      in_hub : Memᴰ m p.hub
      in_hub = mem_take (bucket_hi p q.word) _ p.hub (mem_drop (bucket_lo p q.word) _ (take (bucket_hi p q.word) p.hub) w.in_bucket)

      joint : (t : Segment) → Begins t m.source (cut_of m p.k) m.reverse → Joint p s t × Unjoined s t
      joint t g =
          let f = found in
          let x = piece_exit a (cut_of q p.k) a.reverse f.1 in
          let d = member_down p paths a b q m w.is in (
            record {
              left = q;
              leaves = record { among = f.0; cut_is = sym x; turn_is = w.turn };
              right = m;
              enters = record { among = rw g.lane (sound.of_hub m in_hub); cut_is = sym g.cut; turn_is = sym g.turn };
              words = sym (bucket_word q.word m w.in_bucket);
            },
            apart (joinable s t) refl f x d.0,
          )
        where
          same : Joins s t → Memᴰ q (ports_here p a) × Past a.reverse a.cut (cut_of q p.k) → exit s ≡ cut_of q p.k → same_place p.k m q ≡ true
          same j f x =
              rw (
                eq-eqb m.source q.source (sym g.lane ∙ sym j.lane ∙ sym (sound.of_lane a.source q f.0)),
                eq-eqb (cut_of m p.k) (cut_of q p.k) (sym g.cut ∙ sym j.cut ∙ x),
                turn_test m.reverse q.reverse (sym g.turn ∙ sym j.turn ∙ sym w.turn),
              ) refl

          apart : (c : Bool) → joinable s t ≡ c → Memᴰ q (ports_here p a) × Past a.reverse a.cut (cut_of q p.k) → exit s ≡ cut_of q p.k → same_place p.k m q ≡ false → joinable s t ≡ false
          apart false e f x d = e
          apart true e f x d = absurd (true≢false (sym (same (joins s t e) f x) ∙ d))

      head : Begins s a.source a.cut a.reverse × SoundSpan p s
      head = let f = found in let k = cut_in p q.reverse q.anchor (lane_at p a.source).len (sound.in_lane a.source q f.0) in
          (record { lane = refl; cut = piece_entry a (cut_of q p.k) a.reverse f.1; turn = refl }, piece_span a ok.0 a.reverse (cut_of q p.k) f.1 k)

      longer : (target : ℕ) (more : Route) → Chain p target m.source (cut_of m p.k) m.reverse more → Chain p target a.source a.cut a.reverse (s ∷ more)
      longer target [] c = absurd c
      longer target (t ∷ []) c = (head.0, head.1, joint t c.0, (record { lane = refl; cut = refl; turn = refl }, c.1, c.2))
      longer target (t ∷ u ∷ us) c = (head.0, head.1, joint t c.0, (record { lane = refl; cut = refl; turn = refl }, c.1, c.2, c.3))

      pub switch_fine : Fine p paths b
      switch_fine = let d = member_down p paths a b q m w.is in
          rw d.2 (cut_in p m.reverse m.anchor (lane_at p m.source).len (sound.in_lane m.source m (sound.of_hub m in_hub)), ok.1)

      switch_step : (x : List Route) → Completes p paths x b → Completes p paths x a
      switch_step x c₀ =
          let d = member_down p paths a b q m w.is in
          let c = subst (Completes p paths x) d.2 c₀ in
          record {
            more = s ∷ c.more;
            later = c.later;
            is = c.is ∙ ap (λ r. a.routes ++ (r ∷ c.later)) (append_snoc a.route s c.more);
            chain = longer (get_or paths a.slot 0) c.more c.chain;
            rest = c.rest;
            clears = (d.1, subst (λ l. Clear l (c.more ++ flat c.later)) (sym (append_assoc (flat a.routes) a.route (s ∷ []))) c.clears);
          }

    pub gives_legal : (x : List Route) {a : Place} → Gives (tasks_of p paths) x a → Fine p paths a → Completes p paths x a
    gives_legal x (here {a = a} i) ok = go (in_tasks p a (give x) (λ e. let z : ◌≡◌ {A = ℕ} 0 1 = cc in omega arith) paths i)
      where
        go : (give x ≡ terminal_task p paths a) ⊎ Switch p a (ports_left p a a.reverse (first_port p a a.reverse)) (give x) → Completes p paths x a
        go (inl e) = complete_last a x ok e
        go (inr w) = absurd (give_member a x w.port w.member w.is)
    gives_legal x (below {a = a} {b = b} i y) ok = go (gives_legal x y) (in_tasks p a (down b) (λ e. let z : ◌≡◌ {A = ℕ} 0 1 = cc in omega arith) paths i)
      where
        go : (Fine p paths b → Completes p paths x b) → (down b ≡ terminal_task p paths a) ⊎ Switch p a (ports_left p a a.reverse (first_port p a a.reverse)) (down b) → Completes p paths x a
        go f (inl e) = terminal_step a b x ok e (f (terminal_fine a b ok e))
        go f (inr w) = switch_step a b ok w x (f (switch_fine a b ok w))

    -- ---- what is legal is given

    seg_eq : (s t : Segment) → s.source ≡ t.source → s.start ≡ t.start → s.end ≡ t.end → s.reverse ≡ t.reverse → s ≡ t
    seg_eq s t e₁ e₂ e₃ e₄ i = record { source = e₁ i; start = e₂ i; end = e₃ i; reverse = e₄ i }

    -- the segment that begins at a place and goes somewhere is the piece to its exit
    is_piece : (a : Place) (s : Segment) → Begins s a.source a.cut a.reverse → s.start < s.end → Past a.reverse a.cut (exit s) × (s ≡ piece_to a (exit s))
    is_piece a s g h = go s.reverse refl g.cut (sym g.turn)
      where
        go : (r : Bool) → s.reverse ≡ r → pick r s.end s.start ≡ a.cut → a.reverse ≡ s.reverse → Past a.reverse a.cut (exit s) × (s ≡ piece_to a (exit s))
        go false e c d =
            let x : exit s ≡ s.end = ap (λ r. pick r s.start s.end) e in
            let y : a.cut < exit s = omega arith in
            (subst (λ r. Past r a.cut (exit s)) (sym (d ∙ e)) y, seg_eq s (piece_to a (exit s)) g.lane (omega arith) (omega arith) (sym d))
        go true e c d =
            let x : exit s ≡ s.start = ap (λ r. pick r s.start s.end) e in
            let y : exit s < a.cut = omega arith in
            (subst (λ r. Past r a.cut (exit s)) (sym (d ∙ e)) y, seg_eq s (piece_to a (exit s)) g.lane (omega arith) (omega arith) (sym d))

    abbrev Goal : List Route → List Route → Route → Type 0
    Goal x later more = (a : Place) → Fine p paths a → x ≡ a.routes ++ ((a.route ++ more) ∷ later) → Chain p (get_or paths a.slot 0) a.source a.cut a.reverse more
        → Matched (RouteOf p) (drop (suc a.slot) paths) later → Clear (on_path a) (more ++ flat later) → Gives (tasks_of p paths) x a

    -- a last segment closes
    closes_of : (a : Place) (s : Segment) → Begins s a.source a.cut a.reverse → SoundSpan p s → Leaves p (get_or paths a.slot 0) s → clear s (on_path a) ≡ true
        → (closes p paths a ≡ true) × (s ≡ piece_to a (lane_at p a.source).len)
    closes_of a s g h l c =
        let z = is_piece a s g h.some in
        let src : a.source ≡ get_or paths a.slot 0 = sym g.lane ∙ l.lane in
        let n : exit s ≡ (lane_at p a.source).len = l.at_end ∙ ap (λ i. (lane_at p i).len) (sym src) in
        let e : s ≡ piece_to a (lane_at p a.source).len = z.1 ∙ ap (piece_to a) n in
        let r : a.reverse ≡ false = sym g.turn ∙ l.forward in
        let past : a.cut < (lane_at p a.source).len = subst (λ i. a.cut < i) n (subst (λ t. Past t a.cut (exit s)) r z.0) in
        let c' : clear (piece_to a (lane_at p a.source).len) (on_path a) ≡ true = subst (λ y. clear y (on_path a) ≡ true) e c in
        (all_true (eq-eqb a.source (get_or paths a.slot 0) src) (ap not r) (lt-ltb a.cut (lane_at p a.source).len past) c', e)
      where
        all_true : {u v w x : Bool} → u ≡ true → v ≡ true → w ≡ true → x ≡ true → (u && v && w && x) ≡ true
        all_true e₁ e₂ e₃ e₄ = rw (e₁, e₂, e₃, e₄)

    terminal_give : (a : Place) → closes p paths a ≡ true → eqb (suc a.slot) (length paths) ≡ true → terminal_task p paths a ≡ give (closed p a)
    unfolding terminal_task
    terminal_give a e f = rw (e, f)

    terminal_next : (a : Place) → closes p paths a ≡ true → eqb (suc a.slot) (length paths) ≡ false → terminal_task p paths a ≡ down (begins (suc a.slot) (get_or paths (suc a.slot) 0) (closed p a))
    unfolding terminal_task
    terminal_next a e f = rw (e, f)

    first_task : (a : Place) (t : Doing) → terminal_task p paths a ≡ t → Memᴰ t (tasks_of p paths a)
    unfolding tasks_of
    first_task a t e = Memᴰ.head (sym e)

    end_here : (x : List Route) (s : Segment) → Goal x [] (s ∷ [])
    end_here x s a ok is ch rest cl = go (eqb (suc a.slot) (length paths)) refl (closes_of a s ch.0 ch.1 ch.2 cl.0)
      where
        go : (b : Bool) → eqb (suc a.slot) (length paths) ≡ b → (closes p paths a ≡ true) × (s ≡ piece_to a (lane_at p a.source).len) → Gives (tasks_of p paths) x a
        go true e c = here (first_task a (give x) (terminal_give a c.0 e ∙ ap give (sym (is ∙ ap (λ y. a.routes ++ ((a.route ++ (y ∷ [])) ∷ [])) c.1))))
        go false e c = let n = eqb-false (suc a.slot) (length paths) e in let l = ok.1 in
            absurd (rw (drop-cons paths (suc a.slot) 0 (omega arith)) at rest)

    end_next : (x : List Route) (r : Route) (rs : List Route) → ((more : Route) → Goal x rs more) → (s : Segment) → Goal x (r ∷ rs) (s ∷ [])
    end_next x r rs ih s a ok is ch rest cl = go (eqb (suc a.slot) (length paths)) refl (closes_of a s ch.0 ch.1 ch.2 cl.0)
      where
        n : ℕ
        n = suc a.slot

        go : (b : Bool) → eqb n (length paths) ≡ b → (closes p paths a ≡ true) × (s ≡ piece_to a (lane_at p a.source).len) → Gives (tasks_of p paths) x a
        go true e c = let z : n ≡ length paths = eqb-true n (length paths) e in
            absurd (rw (drop_of_length-le paths {i = n} (omega arith)) at rest)
        go false e c =
            let d = eqb-false n (length paths) e in
            let l = ok.1 in
            let k : suc a.slot < length paths = omega arith in
            let g : Matched (RouteOf p) (get_or paths n 0 ∷ drop (suc n) paths) (r ∷ rs) = rw (drop-cons paths n 0 k) at rest in
            let t = piece_to a (lane_at p a.source).len in
            let i : x ≡ closed p a ++ (r ∷ rs) = is ∙ ap (λ y. a.routes ++ ((a.route ++ (y ∷ [])) ∷ r ∷ rs)) c.1 ∙ sym (append_assoc a.routes ((a.route ++ (t ∷ [])) ∷ []) (r ∷ rs)) in
            let w : Clear (flat (closed p a) ++ []) (r ++ flat rs) = subst (λ y. Clear y (r ++ flat rs)) (ap (λ y. on_path a ++ (y ∷ [])) c.1 ∙ sym (closed_path p a)) cl.1 in
            below (first_task a (down (begins n (get_or paths n 0) (closed p a))) (terminal_next a c.0 e))
            (ih r (begins n (get_or paths n 0) (closed p a)) (omega arith, k) i g.0 g.1 w)

    -- a port of the lane past the cut is still to come
    to-come : (a : Place) (r : Bool) (q : Port) → Memᴰ q (ports_here p a) → Past r a.cut (cut_as p.k r q.anchor) → Memᴰ q (ports_in (ports_here p a) r (first_port p a r))
    to-come a false q m h =
        let l = ports_here p a in
        let t : Port → Bool = λ g. leb (cut_as p.k false g.anchor) a.cut in
        let n = count t l in
        let e : n ≡ suc n - 1 = omega arith in
        subst (λ i. Memᴰ q (drop i l)) e (in_drop t q (lt-leb (q.anchor + p.k / 2) a.cut h) l (ahead_falls p a.cut l (sound.rows a.source)) m)
    to-come a true q m h =
        let l = ports_here p a in
        let t : Port → Bool = λ g. ltb (cut_as p.k true g.anchor) a.cut in
        mem_reverse_in (take (count t l) l) [] (in_take t q (lt-ltb (q.anchor + (p.k - p.k / 2)) a.cut h) l (behind_falls p a.cut l (sound.rows a.source)) m)

    member_go : (a : Place) (q m : Port) → same_place p.k m q ≡ false → clear (reach p a q) (on_path a) ≡ true → member_task p a q m ≡ down (switched p a q m)
    unfolding member_task
    member_go a q m e f = rw (e, f)

    later_task : (a : Place) (t : Doing) → Memᴰ t (over p a (ports_left p a a.reverse (first_port p a a.reverse))) → Memᴰ t (tasks_of p paths a)
    unfolding tasks_of
    later_task a t i = Memᴰ.tail i

    not_same : (s t : Segment) (j : Joint p s t) → Unjoined s t → same_place p.k j.right j.left ≡ false
    not_same s t j n = go (same_place p.k m q) refl
      where
        q : Port
        q = j.left

        m : Port
        m = j.right

        go : (b : Bool) → same_place p.k m q ≡ b → b ≡ false
        go false e = refl
        go true e =
            let e₁ = and_left (eqb m.source q.source && eqb (cut_of m p.k) (cut_of q p.k)) (same_turn m.reverse q.reverse) e in
            let x : m.source ≡ q.source = eqb-true m.source q.source (and_left (eqb m.source q.source) (eqb (cut_of m p.k) (cut_of q p.k)) e₁) in
            let y : cut_of m p.k ≡ cut_of q p.k = eqb-true (cut_of m p.k) (cut_of q p.k) (and_right (eqb m.source q.source) (eqb (cut_of m p.k) (cut_of q p.k)) e₁) in
            let z : m.reverse ≡ q.reverse = same_turn_is m.reverse q.reverse (and_right (eqb m.source q.source && eqb (cut_of m p.k) (cut_of q p.k)) (same_turn m.reverse q.reverse) e) in
            let lane : s.source ≡ t.source = sym (sound.of_lane s.source q j.leaves.among) ∙ sym x ∙ sound.of_lane t.source m j.enters.among in
            let cut : exit s ≡ entry t = sym j.leaves.cut_is ∙ sym y ∙ j.enters.cut_is in
            let turn : s.reverse ≡ t.reverse = sym j.leaves.turn_is ∙ sym z ∙ j.enters.turn_is in
            let yes : joinable s t ≡ true = all_three (eq-eqb s.source t.source lane) (turn_test s.reverse t.reverse turn) (eq-eqb (exit s) (entry t) cut) in
            absurd (true≢false (sym yes ∙ n))
          where
            all_three : {u v w : Bool} → u ≡ true → v ≡ true → w ≡ true → (u && v && w) ≡ true
            all_three e₁ e₂ e₃ = rw (e₁, e₂, e₃)

    switch_on : (x later : List Route) (s t : Segment) (ts : Route) → Goal x later (t ∷ ts) → Goal x later (s ∷ t ∷ ts)
    switch_on x later s t ts ih a ok is ch rest cl =
        below (later_task a (down b) (subst (λ y. Memᴰ y (over p a (ports_left p a a.reverse (first_port p a a.reverse)))) (member_go a q m (not_same s t j ch.2.1) clears)
        (over_in p a q m among turn in_bucket)))
        (ih b fine is' chain rest clear')
      where
        j : Joint p s t
        j = ch.2.0

        q : Port
        q = j.left

        m : Port
        m = j.right

        g : Begins s a.source a.cut a.reverse
        g = ch.0

        z : Past a.reverse a.cut (exit s) × (s ≡ piece_to a (exit s))
        z = is_piece a s g ch.1.some

        e : s ≡ reach p a q
        e = z.1 ∙ ap (piece_to a) (sym j.leaves.cut_is)

        b : Place
        b = switched p a q m

        turn : q.reverse ≡ a.reverse
        turn = j.leaves.turn_is ∙ g.turn

        own : Memᴰ q (ports_here p a)
        own = subst (λ i. Memᴰ q (lane_at p i).ports) g.lane j.leaves.among

        among : Memᴰ q (ports_left p a a.reverse (first_port p a a.reverse))
        among = to-come a a.reverse q own (subst (λ r. Past a.reverse a.cut (cut_as p.k r q.anchor)) turn (subst (Past a.reverse a.cut) (sym j.leaves.cut_is) z.0))

        in_bucket : Memᴰ m (bucket p q.word)
        in_bucket = subst (λ w. Memᴰ m (bucket p w)) (sym j.words) (bucket-in m (sound.all_hub t.source m j.enters.among))

        clears : clear (reach p a q) (on_path a) ≡ true
        clears = subst (λ y. clear y (on_path a) ≡ true) e cl.0

        src : m.source ≡ t.source
        src = sound.of_lane t.source m j.enters.among

        fine : Fine p paths b
        fine = (cut_in p m.reverse m.anchor (lane_at p m.source).len (sound.in_lane m.source m (subst (λ i. Memᴰ m (lane_at p i).ports) (sym src) j.enters.among)), ok.1)

        is' : x ≡ a.routes ++ (((a.route ++ (reach p a q ∷ [])) ++ (t ∷ ts)) ∷ later)
        is' = is ∙ ap (λ y. a.routes ++ ((a.route ++ (y ∷ t ∷ ts)) ∷ later)) e ∙ ap (λ y. a.routes ++ (y ∷ later)) (sym (append_snoc a.route (reach p a q) (t ∷ ts)))

        chain : Chain p (get_or paths a.slot 0) m.source (cut_of m p.k) m.reverse (t ∷ ts)
        chain = subst (λ i. Chain p (get_or paths a.slot 0) i (cut_of m p.k) m.reverse (t ∷ ts)) (sym src)
            (subst (λ i. Chain p (get_or paths a.slot 0) t.source i m.reverse (t ∷ ts)) (sym j.enters.cut_is)
            (subst (λ i. Chain p (get_or paths a.slot 0) t.source (entry t) i (t ∷ ts)) (sym j.enters.turn_is) ch.3))

        clear' : Clear (flat a.routes ++ (a.route ++ (reach p a q ∷ []))) ((t ∷ ts) ++ flat later)
        clear' = subst (λ y. Clear y ((t ∷ ts) ++ flat later)) (ap (λ y. on_path a ++ (y ∷ [])) e ∙ append_assoc (flat a.routes) a.route (reach p a q ∷ [])) cl.1

    along : (x later : List Route) → ((s : Segment) → Goal x later (s ∷ [])) → (more : Route) → Goal x later more
    along x later end [] a ok is ch rest cl = absurd ch
    along x later end (s ∷ []) a ok is ch rest cl = end s a ok is ch rest cl
    along x later end (s ∷ t ∷ ts) a ok is ch rest cl = switch_on x later s t ts (along x later end (t ∷ ts)) a ok is ch rest cl

    every : (x later : List Route) (more : Route) → Goal x later more
    every x [] more = along x [] (end_here x) more
    every x (r ∷ rs) more = along x (r ∷ rs) (end_next x r rs (every x rs)) more

    -- from a place, exactly what completes it
    pub gives_iff : (x : List Route) (a : Place) → Fine p paths a → Gives (tasks_of p paths) x a ↔ Completes p paths x a
    gives_iff x a ok = (λ g. gives_legal x g ok, λ c. every x c.later c.more a ok c.is c.chain c.rest c.clears)
