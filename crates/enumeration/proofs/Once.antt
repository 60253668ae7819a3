-- The walk of a family hands over each legal assignment once.
use Prim.Native.Nat.{ℕ, suc, ◌+◌, ◌-◌, ◌*◌, ◌<◌}
use native.Mathlib.Omega.{arith}
use mathlib.Core.Path.{◌≡◌, refl, sym, ◌∙◌, ap, subst}
use mathlib.Core.Logic.{◌⊎◌, inl, inr, ◌↔◌}
use mathlib.Core.List.Memᴰ
use mathlib.Core.List.{List, [], ◌∷◌, ◌++◌, map, append_assoc, append_cancel_left, head-eq_of_cons-eq, tail-eq_of_cons-eq, nil≢cons, Memᴰ}
use mathlib.Core.Bool.{Bool, true, false, not, ◌||◌, true≢false}
use lib.Dec.{ltb, eqb}
use lib.ListN.{length, take, get_or}
use lib.Seq.{append_snoc}
use borrow.Author.Tests.{eqb-false, ltb-true}
use Rattle.ground.specs.Lists.{pick}
use Rattle.ground.proofs.Members.{mem_take, mem_drop}
use Rattle.storage.specs.declared.Port.{Port}
use Rattle.storage.specs.Records.{same_turn, cut_as, cut_of}
use Rattle.storage.specs.Orders.{place_of, place_lt, record_lt, turn}
use Rattle.storage.proofs.OrderLaws.{record_self}
use Rattle.image.specs.Panel.{Panel, lane_at}
use Rattle.graph.specs.Lookups.{bucket_lo, bucket_hi}
use Rattle.evaluate.specs.declared.Segment.{Segment}
use Rattle.evaluate.specs.Properties.{Pairs, Matched}
use Rattle.evaluate.specs.Segments.{Route, entry, exit, flat, clear}
use Rattle.evaluate.specs.Legal as Legality
use Rattle.evaluate.specs.Legal.{LegalRoute}
use Rattle.evaluate.proofs.CheckLegal.{flat_filled}
use Rattle.search.specs.Walk.{Task, pass, down, give, Place, Doing, on_path, piece_to, reach, switched, closes, closed, begins, same_place, terminal_task, member_task, ports_here, first_port, enter}
use Rattle.evaluate.proofs.Lists.{matched_map, mem_map, each_mem, mem_each, pairs_map, pairs_drop, pairs_take, pairs_reverse}
use Rattle.enumeration.proofs.Tree.{Yields, Apart, NoDup, enum, enum_once, enum_iff}
use Rattle.enumeration.proofs.Sim.{ports_in, ports_left, hub_tasks, port_tasks, over, tasks_of}
use Rattle.enumeration.proofs.Stack.{on, steps, walked}
use Rattle.enumeration.proofs.Ports.{Sound, Switch, bucket, in_over, in_tasks, Past, coming, cut_in, μ, falls}
use Rattle.enumeration.proofs.Given.{Begins, Chain, RouteOf, Completes, Fine, gives_legal, gives_iff, terminal_fine, switch_fine, piece_exit, bucket_word}
use Rattle.enumeration.proofs.Legal.{route_iff, clear_iff}

-- ---- records that differ

abbrev OtherPlace : Port → Port → Type 0
OtherPlace q r = q.anchor ≡ r.anchor → q.reverse ≡ r.reverse → ⊥

abbrev OtherPort : Port → Port → Type 0
OtherPort q r = q.word ≡ r.word → q.source ≡ r.source → q.anchor ≡ r.anchor → q.reverse ≡ r.reverse → ⊥

other_place : (q r : Port) → place_lt q r ≡ true → OtherPlace q r
unfolding place_lt place_of
other_place q r h e f =
    let l = ltb-true (2 * q.anchor + turn q.reverse) (2 * r.anchor + turn r.reverse) h in
    let t : turn q.reverse ≡ turn r.reverse = ap turn f in
    omega arith

other_port : (q r : Port) → record_lt q r ≡ true → OtherPort q r
other_port q r h e₁ e₂ e₃ e₄ =
    let e : q ≡ r = λ i. record { word = e₁ i; source = e₂ i; anchor = e₃ i; reverse = e₄ i } in
    true≢false (sym h ∙ ap (record_lt q) (sym e) ∙ record_self q)

-- ---- tasks apart

module _ {N X : Type 0} (tasks : N → List (Task N X)) where
  apart_append : (s t : List (Task N X)) → Apart tasks s → Apart tasks t
      → ((x : X) (u v : Task N X) → Memᴰ u s → Memᴰ v t → Yields tasks x u → Yields tasks x v → ⊥) → Apart tasks (s ++ t)
  apart_append [] t hs ht c = ht
  apart_append (a ∷ s) t hs ht c = (λ x u y m z. go x u y z (Memᴰ.append_cases s m), apart_append s t hs.1 ht (λ x u v m. c x u v (Memᴰ.tail m)))
    where
      go : (x : X) (u : Task N X) → Yields tasks x a → Yields tasks x u → Memᴰ u s ⊎ Memᴰ u t → ⊥
      go x u y z (inl m) = hs.0 x u y m z
      go x u y z (inr m) = c x a u (Memᴰ.head refl) m y z

  apart_map : {M : Type 0} (f : M → Task N X) (l : List M) → Pairs (λ m n. (x : X) → Yields tasks x (f m) → Yields tasks x (f n) → ⊥) l → Apart tasks (map f l)
  apart_map f [] h = tt
  apart_map f (a ∷ l) h = (λ x u y m z. let r = mem_map f l m in each_mem (λ n. (x : X) → Yields tasks x (f a) → Yields tasks x (f n) → ⊥) l h.0 r.1 x y (subst (Yields tasks x) r.2 z), apart_map f l h.1)

  apart_pass : (ts : List (Task N X)) → Apart tasks ts → Apart tasks (pass ∷ ts)
  apart_pass ts h = (λ x u y m z. y, h)

module _ (p : Panel) (sound : Sound p) (paths : List ℕ) (a : Place) (ok : Fine p paths a) where
  abbrev Y : List Route → Doing → Type 0
  Y x t = Yields (tasks_of p paths) x t

  -- what a switch through q to m gives
  record Via (q m : Port) (x : List Route) : Type 0 where
    next : Segment
    more : Route
    later : List Route
    is : x ≡ a.routes ++ ((a.route ++ (reach p a q ∷ next ∷ more)) ∷ later)
    begins : Begins next m.source (cut_of m p.k) m.reverse

  via : (q m : Port) → Memᴰ m p.hub → (x : List Route) → Y x (member_task p a q m) → Via q m x
  unfolding member_task
  via q m i x = go (same_place p.k m q || not (clear (reach p a q) (on_path a)))
    where
      b : Place
      b = switched p a q m

      fine : Fine p paths b
      fine = (cut_in p m.reverse m.anchor (lane_at p m.source).len (sound.in_lane m.source m (sound.of_hub m i)), ok.1)

      split : (more : Route) (later : List Route) → x ≡ a.routes ++ (((a.route ++ (reach p a q ∷ [])) ++ more) ∷ later)
          → Chain p (get_or paths a.slot 0) m.source (cut_of m p.k) m.reverse more → Via q m x
      split [] later e c = absurd c
      split (t ∷ []) later e c = record { next = t; more = []; later = later; is = e ∙ ap (λ y. a.routes ++ (y ∷ later)) (append_snoc a.route (reach p a q) (t ∷ [])); begins = c.0 }
      split (t ∷ u ∷ us) later e c = record { next = t; more = u ∷ us; later = later; is = e ∙ ap (λ y. a.routes ++ (y ∷ later)) (append_snoc a.route (reach p a q) (t ∷ u ∷ us)); begins = c.0 }

      go : (c : Bool) → Y x (pick c pass (down b)) → Via q m x
      go true y = absurd y
      go false y = let c = gives_legal p sound paths x y fine in split c.more c.later c.is c.chain

  -- what the terminal gives
  record Ending (x : List Route) : Type 0 where
    later : List Route
    is : x ≡ a.routes ++ ((a.route ++ (piece_to a (lane_at p a.source).len ∷ [])) ∷ later)

  ending : (x : List Route) → Y x (terminal_task p paths a) → Ending x
  unfolding terminal_task
  ending x = go (closes p paths a) (eqb (suc a.slot) (length paths)) refl
    where
      n : ℕ
      n = suc a.slot

      b : Place
      b = begins n (get_or paths n 0) (closed p a)

      go : (c d : Bool) → eqb n (length paths) ≡ d → Y x (pick c (pick d (give (closed p a)) (down b)) pass) → Ending x
      go false d e y = absurd y
      go true true e y = record { later = []; is = y }
      go true false e y =
          let l = ok.1 in
          let d = eqb-false n (length paths) e in
          let k : n < length paths = omega arith in
          let c = gives_legal p sound paths x y (omega arith, k) in
          record { later = c.more ∷ c.later; is = c.is ∙ append_assoc a.routes ((a.route ++ (piece_to a (lane_at p a.source).len ∷ [])) ∷ []) (c.more ∷ c.later) }

  -- the routes after the place are read off what is given
  cancel : (u v : Route) (us vs : List Route) (x : List Route) → x ≡ a.routes ++ ((a.route ++ u) ∷ us) → x ≡ a.routes ++ ((a.route ++ v) ∷ vs) → u ≡ v
  cancel u v us vs x e f = append_cancel_left a.route u v (head-eq_of_cons-eq (append_cancel_left a.routes ((a.route ++ u) ∷ us) ((a.route ++ v) ∷ vs) (sym e ∙ f)))

  ending_via : (q m : Port) (x : List Route) → Ending x → Via q m x → ⊥
  ending_via q m x e v = nil≢cons (tail-eq_of_cons-eq (cancel (piece_to a (lane_at p a.source).len ∷ []) (reach p a q ∷ v.next ∷ v.more) e.later v.later x e.is v.is))

  via_via : (q m q' m' : Port) (x : List Route) → Via q m x → Via q' m' x → (reach p a q ≡ reach p a q') × (m.source ≡ m'.source) × (cut_of m p.k ≡ cut_of m' p.k) × (m.reverse ≡ m'.reverse)
  via_via q m q' m' x v w =
      let c = cancel (reach p a q ∷ v.next ∷ v.more) (reach p a q' ∷ w.next ∷ w.more) v.later w.later x v.is w.is in
      let e : v.next ≡ w.next = head-eq_of_cons-eq (tail-eq_of_cons-eq c) in
      (head-eq_of_cons-eq c, sym v.begins.lane ∙ ap (λ s. s.source) e ∙ w.begins.lane, sym v.begins.cut ∙ ap entry e ∙ w.begins.cut, sym v.begins.turn ∙ ap (λ s. s.reverse) e ∙ w.begins.turn)

  same_anchor : (r : Bool) (x y : ℕ) → cut_as p.k r x ≡ cut_as p.k r y → x ≡ y
  same_anchor false x y e = omega arith
  same_anchor true x y e = omega arith

  anchors : (q r : Port) → q.reverse ≡ r.reverse → cut_of q p.k ≡ cut_of r p.k → q.anchor ≡ r.anchor
  anchors q r e f = same_anchor r.reverse q.anchor r.anchor (subst (λ t. cut_as p.k t q.anchor ≡ cut_of r p.k) e f)

  in_hub : (w : List ℕ) (m : Port) → Memᴰ m (bucket p w) → Memᴰ m p.hub
  in_hub w m i = mem_take (bucket_hi p w) _ p.hub (mem_drop (bucket_lo p w) _ (take (bucket_hi p w) p.hub) i)

  -- the members of one bucket
  members_apart : (q : Port) → (ms : List Port) → ((m : Port) → Memᴰ m ms → Memᴰ m p.hub × (m.word ≡ q.word)) → Pairs OtherPort ms
      → Pairs (λ m n. (x : List Route) → Y x (member_task p a q m) → Y x (member_task p a q n) → ⊥) ms
  members_apart q [] h k = tt
  members_apart q (m ∷ ms) h k = (
    mem_each (λ n. (x : List Route) → Y x (member_task p a q m) → Y x (member_task p a q n) → ⊥) ms
        (λ n i x y z.
        let hm = h m (Memᴰ.head refl) in
        let hn = h n (Memᴰ.tail i) in
        let v = via_via q m q n x (via q m hm.0 x y) (via q n hn.0 x z) in
        each_mem (OtherPort m) ms k.0 i (hm.1 ∙ sym hn.1) v.1 (anchors m n v.3 v.2) v.3),
    members_apart q ms (λ n i. h n (Memᴰ.tail i)) k.1,
  )

  hub_apart : (q : Port) → Apart (tasks_of p paths) (hub_tasks p a q (bucket_lo p q.word) (bucket_hi p q.word))
  hub_apart q = go (ltb 0 (bucket_hi p q.word))
    where
      ms : List Port
      ms = bucket p q.word

      go : (b : Bool) → Apart (tasks_of p paths) (pick b (map (member_task p a q) ms ++ (pass ∷ [])) [])
      go false = tt
      go true = apart_append (tasks_of p paths) (map (member_task p a q) ms) (pass ∷ [])
          (apart_map (tasks_of p paths) (member_task p a q) ms (members_apart q ms (λ m i. (in_hub q.word m i, bucket_word p sound q.word m i))
          (pairs_drop OtherPort (bucket_lo p q.word) (take (bucket_hi p q.word) p.hub) (pairs_take OtherPort (bucket_hi p q.word) p.hub (pairs_map (λ q r. record_lt q r ≡ true) OtherPort other_port p.hub sound.hub_rows)))))
          (apart_pass (tasks_of p paths) [] tt)
          (λ x u v i j y z. subst (Y x) (Memᴰ.eq_of_singleton j) z)

  port_apart : (q : Port) → Apart (tasks_of p paths) (port_tasks p a q)
  port_apart q = apart_pass (tasks_of p paths) _ (go (same_turn q.reverse a.reverse))
    where
      go : (b : Bool) → Apart (tasks_of p paths) (pick b (hub_tasks p a q (bucket_lo p q.word) (bucket_hi p q.word)) [])
      go true = hub_apart q
      go false = tt

  abbrev Ahead : Port → Type 0
  Ahead q = Past a.reverse a.cut (cut_as p.k a.reverse q.anchor)

  exit_of : (q : Port) → q.reverse ≡ a.reverse → Ahead q → exit (reach p a q) ≡ cut_as p.k a.reverse q.anchor
  exit_of q e h = let c : cut_of q p.k ≡ cut_as p.k a.reverse q.anchor = ap (λ t. cut_as p.k t q.anchor) e in
      ap (λ n. exit (piece_to a n)) c ∙ piece_exit a (cut_as p.k a.reverse q.anchor) a.reverse h

  busy : (x : List Route) (t : Doing) → Y x t → t ≡ pass → ⊥
  busy x t y e = subst (Y x) e y

  via_of : (qs : List Port) (x : List Route) (t : Doing) (w : Switch p a qs t) → Y x t → Via w.port w.member x
  via_of qs x t w y = via w.port w.member (in_hub w.port.word w.member w.in_bucket) x (subst (Y x) w.is y)

  over_apart : (qs : List Port) → Pairs OtherPlace qs → ((q : Port) → Memᴰ q qs → Ahead q) → Apart (tasks_of p paths) (over p a qs)
  over_apart [] h k = tt
  over_apart (q ∷ qs) h k = apart_append (tasks_of p paths) (port_tasks p a q) (over p a qs) (port_apart q) (over_apart qs h.1 (λ r m. k r (Memᴰ.tail m))) cross
    where
      cross : (x : List Route) (u v : Doing) → Memᴰ u (port_tasks p a q) → Memᴰ v (over p a qs) → Y x u → Y x v → ⊥
      cross x u v i j y z =
          let w₁ = in_over p a u (busy x u y) (q ∷ []) (Memᴰ.append_left [] i) in
          let w₂ = in_over p a v (busy x v z) qs j in
          let e : w₁.port ≡ q = Memᴰ.eq_of_singleton w₁.among in
          let c = via_via w₁.port w₁.member w₂.port w₂.member x (via_of (q ∷ []) x u w₁ y) (via_of qs x v w₂ z) in
          let a₁ : Ahead w₁.port = subst Ahead (sym e) (k q (Memᴰ.head refl)) in
          let a₂ : Ahead w₂.port = k w₂.port (Memᴰ.tail w₂.among) in
          let f : cut_as p.k a.reverse w₁.port.anchor ≡ cut_as p.k a.reverse w₂.port.anchor
          = sym (exit_of w₁.port w₁.turn a₁) ∙ ap exit c.0 ∙ exit_of w₂.port w₂.turn a₂ in
          each_mem (OtherPlace q) qs h.0 w₂.among (ap (λ r. r.anchor) (sym e) ∙ same_anchor a.reverse w₁.port.anchor w₂.port.anchor f)
          (ap (λ r. r.reverse) (sym e) ∙ w₁.turn ∙ sym w₂.turn)

  other_back : (q r : Port) → OtherPlace q r → OtherPlace r q
  other_back q r h e f = h (sym e) (sym f)

  left_pairs : (r : Bool) (n : ℕ) (l : List Port) → Pairs OtherPlace l → Pairs OtherPlace (ports_in l r n)
  left_pairs false n l h = pairs_drop OtherPlace (n - 1) l h
  left_pairs true n l h = pairs_reverse OtherPlace other_back (take n l) [] (pairs_take OtherPlace n l h) tt (λ x y m k. absurd (Memᴰ.not-nil k))

  tasks_apart : Apart (tasks_of p paths) (tasks_of p paths a)
  tasks_apart = unfold tasks_of in (
    λ x u y m z. let w = in_over p a u (busy x u z) to_come m in ending_via w.port w.member x (ending x y) (via_of to_come x u w z),
    over_apart to_come (left_pairs a.reverse (first_port p a a.reverse) (ports_here p a) (pairs_map (λ q r. place_lt q r ≡ true) OtherPlace other_place (ports_here p a) (sound.rows a.source))) (λ q m. (coming p sound a a.reverse q m).1),
  )
    where
      to_come : List Port
      to_come = ports_left p a a.reverse (first_port p a a.reverse)

module _ (p : Panel) (sound : Sound p) (paths : List ℕ) where
  fine_down : (a b : Place) → Fine p paths a → Memᴰ (down b) (tasks_of p paths a) → Fine p paths b
  fine_down a b ok m = go (in_tasks p a (down b) (λ e. let z : ◌≡◌ {A = ℕ} 0 1 = cc in omega arith) paths m)
    where
      go : (down b ≡ terminal_task p paths a) ⊎ Switch p a (ports_left p a a.reverse (first_port p a a.reverse)) (down b) → Fine p paths b
      go (inl e) = terminal_fine p sound paths a b ok e
      go (inr w) = switch_fine p sound paths a b ok w

  fine_falls : (a b : Place) → Fine p paths a → Memᴰ (down b) (tasks_of p paths a) → Fine p paths b × (μ p b < μ p a)
  fine_falls a b ok m = (fine_down a b ok m, (falls p sound paths a b ok.0 m).1)

-- the routes of a legal assignment of a family with these paths
pub record LegalRoutes (p : Panel) (paths : List ℕ) (rs : List Route) : Type 0 where
  pub routes : Matched (LegalRoute p) paths rs
  pub apart : Pairs Legality.Apart (flat rs)

-- out is each of them once
pub record EachOf (p : Panel) (paths : List ℕ) (out : List (List Route)) : Type 0 where
  pub legal : (x : List Route) → Memᴰ x out ↔ LegalRoutes p paths x
  pub once : NoDup out

abbrev pub root_of : List ℕ → Place
root_of paths = begins 0 (get_or paths 0 0) []

-- what completes the root is legal
root_iff : (p : Panel) (paths : List ℕ) (x : List Route) → 0 < length paths → Completes p paths x (root_of paths) ↔ LegalRoutes p paths x
root_iff p [] x h = let z : ⊥ = omega arith in absurd z
root_iff p (l ∷ ls) x h = (to, from x)
  where
    routes : (rs : List Route) → Matched (RouteOf p) (l ∷ ls) rs → Matched (LegalRoute p) (l ∷ ls) rs
    routes = matched_map (RouteOf p) (LegalRoute p) (λ t r. (route_iff p t r).0) (l ∷ ls)

    back : (rs : List Route) → Matched (LegalRoute p) (l ∷ ls) rs → Matched (RouteOf p) (l ∷ ls) rs
    back = matched_map (LegalRoute p) (RouteOf p) (λ t r. (route_iff p t r).1) (l ∷ ls)

    to : Completes p (l ∷ ls) x (root_of (l ∷ ls)) → LegalRoutes p (l ∷ ls) x
    to c =
        let rs = c.more ∷ c.later in
        let m = routes rs (c.chain, c.rest) in
        subst (LegalRoutes p (l ∷ ls)) (sym c.is) (record { routes = m; apart = (clear_iff (flat rs) (flat_filled p (l ∷ ls) rs m)).0 c.clears })

    from : (x : List Route) → LegalRoutes p (l ∷ ls) x → Completes p (l ∷ ls) x (root_of (l ∷ ls))
    from [] g = absurd g.routes
    from (r ∷ rs) g =
        let m = back (r ∷ rs) g.routes in
        record { more = r; later = rs; is = refl; chain = m.0; rest = m.1; clears = (clear_iff (flat (r ∷ rs)) (flat_filled p (l ∷ ls) (r ∷ rs) g.routes)).1 g.apart }

-- after some number of units the stack of a family is empty, and each legal assignment has been handed over once
pub family_walk : (p : Panel) → Sound p → (paths : List ℕ) → 0 < length paths
    → (n : ℕ) × (out : List (List Route)) × (steps p paths n (on (enter p (root_of paths) ∷ []) []) ≡ on [] out) × EachOf p paths out
family_walk p sound paths h =
    let root = root_of paths in
    let d = suc (μ p root) in
    let ok : Fine p paths root = (omega arith, h) in
    let enough : Fine p paths root × (μ p root < d) = (ok, omega arith) in
    let w = walked p paths (Fine p paths) (μ p) (fine_falls p sound paths) d root enough [] in (
      w.0,
      enum (tasks_of p paths) d root,
      w.1,
      record {
        legal = λ x.
            let i = enum_iff (tasks_of p paths) (Fine p paths) (μ p) (fine_falls p sound paths) d root x enough in
            let j = gives_iff p sound paths x root ok in
            let k = root_iff p paths x h in
            (λ m. k.0 (j.0 (i.0 m)), λ g. i.1 (j.1 (k.1 g)));
        once = enum_once (tasks_of p paths) (Fine p paths) (fine_down p sound paths) (λ a f. tasks_apart p sound paths a f) d root ok;
      },
    )
