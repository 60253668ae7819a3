-- Laws of refusals 25 to 30: one for each way through the code.
use Prim.Native.Nat.{ℕ, zero, suc, ◌+◌, ◌*◌, ◌-◌, ◌≤◌, ◌<◌}
use native.Mathlib.Omega.{arith}
use native.Mathlib.Numerals.{add-one}
use mathlib.Core.Path.{◌≡◌, refl, sym, ap, ◌∙◌}
use mathlib.Core.Bool.{Bool, true, false, not, ◌&&◌}
use mathlib.Core.List.{List, [], ◌∷◌}
use lib.Dec.{eqb}
use lib.ListN.{length, drop, get_or, get_or-eq_default}
use lib.Seq.{drop-cons}
use Rattle.ground.specs.Lists.{all, keep}
use Rattle.storage.specs.declared.Port.{Port}
use Rattle.storage.specs.Orders.{same_word}
use Rattle.image.specs.declared.Header.{Header}
use Rattle.image.specs.declared.Entry.{Entry}
use Rattle.image.specs.declared.Lane.{Lane}
use Rattle.image.specs.declared.Family.{Family}
use Rattle.image.specs.Image.{entries, no_entry, paths_of}
use Rattle.image.specs.Inner.{Framed, Groups}
use Rattle.image.specs.Panel.{Panel, no_lane, panel_of, lane_at, paths_at}
use Rattle.image.proofs.Laws.{panel_lanes, panel_entry, panel_families, family_length}
use Rattle.std.specs.declared.option.Option.{Option}
use Rattle.std.specs.declared.option.Option.TheVariants.{None, Some}
use Rattle.std.specs.Option.{unwrap_or}
use Rattle.graph.specs.Lookups.{found, ports_at}
use Rattle.evaluate.specs.declared.Segment.{Segment}
use Rattle.evaluate.specs.declared.Refusal.{Refusal}
use Rattle.evaluate.specs.Refusals.{no_refusal, unless, or_else, at}
use Rattle.evaluate.specs.Segments.{Route, entry, exit, sound_span, normalize}
use Rattle.evaluate.proofs.Ports.{same_word_is, word_same_of}
use Rattle.evaluate.specs.Check.{enters, leaves, match_refusal, joint_refusal, joints_refusal, normal_refusal, route_refusal, routes_refusal}
use Rattle.words.specs.declared.Cursor.{Cursor}
use Rattle.words.specs.Inner.{segment_of, segments_of, routes_of, Parsed, normal_of, normal_from, Reached}
use Rattle.words.proofs.Reading.{segments_none, segments_next, routes_none, routes_next, parsed_route, parsed_next}
use Rattle.std.proofs.Common.{nat_eq, MatchBool, ◌≢◌, lit<}
use Rattle.std.specs.Cmp.Lexicographic.{pointwise, told_text}
use Rattle.routes.specs.declared.RouteRefusal.{RouteRefusal}
use Rattle.routes.specs.declared.RouteRefusal.TheVariants.{Empty, Span, Ends, NoExit, NoEntry, Words}
use Rattle.routes.specs.Refusals.{number_of}

-- ---- lanes

no_such_lane : (s : List ℕ) (h : Header) (lane : ℕ) → Framed s h → h.lanes ≤ lane → lane_at (panel_of s) lane ≡ no_lane
no_such_lane s h lane f le = let n = panel_lanes s h f in get_or-eq_default (panel_of s).lanes no_lane {n = lane} (omega arith)

module _ (s : List ℕ) (h : Header) (lane : ℕ) (f : Framed s h) where
  pub lane_len_is : (e : Entry) → e ≡ get_or (entries h s) lane no_entry → e.len ≡ (lane_at (panel_of s) lane).len
  lane_len_is e q = ap (λ (x : Entry). x.len) q ∙ sym (panel_entry s h lane f).0

  pub lane_len_none : h.lanes ≤ lane → 0 ≡ (lane_at (panel_of s) lane).len
  lane_len_none le = rw (no_such_lane s h lane f le)

  module _ (cut : ℕ) (reverse : Bool) where
    pub port_is : (l : Lane) (r : Option Port) → l.number ≡ lane → r ≡ found (ports_at (panel_of s) l.number cut reverse) → r ≡ found (ports_at (panel_of s) lane cut reverse)
    port_is l r e q = q ∙ rw e

    pub port_none : h.lanes ≤ lane → None ≡ found (ports_at (panel_of s) lane cut reverse)
    unfolding ports_at keep
    port_none le = rw (no_such_lane s h lane f le)

pub ruleset lane_count = (panel_lanes)

-- ---- words of ports

pub word_is : (v w : List ℕ) (r : Bool) → r ≡ pointwise nat_eq v w → r ≡ same_word v w
word_is v w r e = go r (told_text v w r e)
  where
    go : (r : Bool) → MatchBool r (v ≡ w) (v ≢ w) → r ≡ same_word v w
    go true h = sym (word_same_of v w h)
    go false h = on (same_word v w) refl
      where
        on : (b : Bool) → same_word v w ≡ b → false ≡ b
        on true z = absurd (h (same_word_is v w z))
        on false z = refl

-- ---- 28, 29, 30: a joint

none_some : (q : Port) → None ≡ Some q → ⊥
none_some q e = let z : ◌≡◌ {A = ℕ} 0 1 = cc in omega arith

some_is : (g q : Port) → Some g ≡ Some q → g ≡ q
some_is g q e = ap (λ (o : Option Port). unwrap_or o g) e

match_28 : (l m : List Port) → None ≡ found l → 28 ≡ match_refusal l m
match_28 [] m e = refl
match_28 (q ∷ qs) m e = absurd (none_some q e)

match_29 : (l m : List Port) (g : Port) → Some g ≡ found l → None ≡ found m → 29 ≡ match_refusal l m
match_29 [] m g e f = absurd (none_some g (sym e))
match_29 (q ∷ qs) [] g e f = refl
match_29 (q ∷ qs) (r ∷ rs) g e f = absurd (none_some r f)

match_both : (l m : List Port) (g c : Port) → Some g ≡ found l → Some c ≡ found m → match_refusal l m ≡ unless (same_word g.word c.word) 30 0
match_both [] m g c e f = absurd (none_some g (sym e))
match_both (q ∷ qs) [] g c e f = absurd (none_some c (sym f))
match_both (q ∷ qs) (r ∷ rs) g c e f = rw (some_is g q e, some_is c r f)

module _ (p : Panel) (s t : Segment) (x y : ℕ) (ex : x ≡ exit s) (ey : y ≡ entry t) where
  pub joint_28 : None ≡ found (ports_at p s.source x s.reverse) → 28 ≡ joint_refusal p s t
  unfolding joint_refusal
  joint_28 e = match_28 (ports_at p s.source (exit s) s.reverse) (ports_at p t.source (entry t) t.reverse) (rw ex at e)

  module _ (g : Port) (eg : Some g ≡ found (ports_at p s.source x s.reverse)) where
    pub joint_29 : None ≡ found (ports_at p t.source y t.reverse) → 29 ≡ joint_refusal p s t
    unfolding joint_refusal
    joint_29 e = match_29 (ports_at p s.source (exit s) s.reverse) (ports_at p t.source (entry t) t.reverse) g (rw ex at eg) (rw ey at e)

    module _ (c : Port) (ec : Some c ≡ found (ports_at p t.source y t.reverse)) (w : Bool) (ew : w ≡ pointwise nat_eq g.word c.word) where
      meet : joint_refusal p s t ≡ unless w 30 0
      unfolding joint_refusal
      meet =
          match_both (ports_at p s.source (exit s) s.reverse) (ports_at p t.source (entry t) t.reverse) g c (rw ex at eg) (rw ey at ec)
          ∙ rw (word_is g.word c.word w ew)

      pub joint_30 : w ≡ false → 30 ≡ joint_refusal p s t
      joint_30 z = rw (meet, z)

      pub joint_0 : w ≡ true → 0 ≡ joint_refusal p s t
      joint_0 z = rw (meet, z)

-- ---- the normal form of a route, from a cursor on

from_next : (ws : List ℕ) (c d : Cursor) → Reached ws c.at c.left d → normal_from ws c ≡ c.segment ∷ d.segment ∷ normal_of ws d.at d.left
unfolding normal_from
from_next ws c d r = rw r.normal

from_last : (ws : List ℕ) (c : Cursor) → c.left ≤ 0 → normal_from ws c ≡ c.segment ∷ []
unfolding normal_from normal_of
from_last ws c h = rw (segments_none ws c.at c.left h)

-- 27: on the way to the last segment
pub record Ending (s ws : List ℕ) (target : ℕ) (first c : Cursor) : Type 0 where
  pub room : c.at + 4 * c.left ≤ length ws
  pub todo : leaves (panel_of s) target (normal_from ws first) ≡ leaves (panel_of s) target (normal_from ws c)

pub ending_start : {s ws : List ℕ} {target : ℕ} {c : Cursor} → c.at + 4 * c.left ≤ length ws → Ending s ws target c c
ending_start h = record { room = h; todo = refl }

module _ {s ws : List ℕ} {target : ℕ} {first c : Cursor} (e : Ending s ws target first c) where
  pub ending_again : {d : Cursor} → Reached ws c.at c.left d → Ending s ws target first d
  unfolding leaves normal_from
  ending_again {d} r = record { room = omega (arith, r.same, e.room); todo = e.todo ∙ rw (from_next ws c d r) }

  pub ending_ends : (len x : ℕ) (r : Bool) → c.left ≤ 0 → len ≡ (lane_at (panel_of s) target).len → x ≡ exit c.segment
      → r ≡ (eqb c.segment.source target && eqb x len && not c.segment.reverse) → r ≡ leaves (panel_of s) target (normal_from ws first)
  unfolding leaves
  ending_ends len x r h l q t = t ∙ rw (e.todo, from_last ws c h, l, q)

-- 28 to 30: joint by joint
pub record JointsFrom (s ws : List ℕ) (first c : Cursor) : Type 0 where
  pub room : c.at + 4 * c.left ≤ length ws
  pub todo : joints_refusal (panel_of s) (normal_from ws first) ≡ joints_refusal (panel_of s) (normal_from ws c)

pub joints_start : {s ws : List ℕ} {c : Cursor} → c.at + 4 * c.left ≤ length ws → JointsFrom s ws c c
joints_start h = record { room = h; todo = refl }

pub or_found : (n m : ℕ) → 0 < n → n ≡ or_else n m
or_found zero m h = let z : ⊥ = omega arith in absurd z
or_found (suc n) m h = refl

pub some_number : (e : RouteRefusal) → 0 < number_of e
some_number Empty = lit< tt
some_number Span = lit< tt
some_number Ends = lit< tt
some_number NoExit = lit< tt
some_number NoEntry = lit< tt
some_number Words = lit< tt

module _ {s ws : List ℕ} {first c : Cursor} (j : JointsFrom s ws first c) where
  module _ (d : Cursor) (r : Reached ws c.at c.left d) where
    pub joints_again : 0 ≡ joint_refusal (panel_of s) c.segment d.segment → JointsFrom s ws first d
    unfolding joints_refusal normal_from
    joints_again e = record { room = omega (arith, r.same, j.room); todo = j.todo ∙ rw (from_next ws c d r, ← e) }

    pub joints_found : (e : RouteRefusal) → number_of e ≡ joint_refusal (panel_of s) c.segment d.segment → number_of e ≡ joints_refusal (panel_of s) (normal_from ws first)
    unfolding joints_refusal
    joints_found e q = rw (j.todo, from_next ws c d r, ← q) (or_found (number_of e) (joints_refusal (panel_of s) (d.segment ∷ normal_of ws d.at d.left)) (some_number e))

  pub joints_ends : c.left ≤ 0 → 0 ≡ joints_refusal (panel_of s) (normal_from ws first)
  unfolding joints_refusal
  joints_ends z = rw (j.todo, from_last ws c z)

-- ---- 25 to 30: a route

module _ (s ws : List ℕ) (target place left : ℕ) (c : Cursor) (r : Reached ws place left c) (x : ℕ) (b : Bool) (ex : x ≡ entry c.segment)
    (eb : b ≡ (eqb c.segment.source target && eqb x 0 && not c.segment.reverse)) where
  here : enters target (normal_of ws place left) ≡ b
  unfolding normal_from
  here = rw (r.normal, eb, ex)

  pub normal_enters : b ≡ false → 27 ≡ normal_refusal (panel_of s) target (normal_of ws place left)
  unfolding normal_refusal
  normal_enters z = rw (here, z)

  module _ (zb : b ≡ true) (d : Bool) (ed : d ≡ leaves (panel_of s) target (normal_from ws c)) where
    pub normal_leaves : d ≡ false → 27 ≡ normal_refusal (panel_of s) target (normal_of ws place left)
    unfolding normal_refusal
    normal_leaves z = let l : leaves (panel_of s) target (normal_of ws place left) ≡ d = rw r.normal (sym ed) in rw (here, zb, l, z)

    pub normal_joints : (n : ℕ) → d ≡ true → n ≡ joints_refusal (panel_of s) (normal_from ws c) → n ≡ normal_refusal (panel_of s) target (normal_of ws place left)
    unfolding normal_refusal
    normal_joints n z e =
        let l : leaves (panel_of s) target (normal_of ws place left) ≡ d = rw r.normal (sym ed) in
        e ∙ rw (here, zb, l, z, r.normal)

module _ (s ws : List ℕ) (target place left : ℕ) where
  pub route_25 : left ≡ 0 → 25 ≡ route_refusal (panel_of s) target (segments_of left (drop place ws))
  unfolding route_refusal
  route_25 e = rw (segments_none ws place left (omega arith))

  module _ (n : left ≡ 0 → ⊥) (b : Bool) (e : b ≡ all (sound_span (panel_of s)) (segments_of left (drop place ws))) where
    some : route_refusal (panel_of s) target (segments_of left (drop place ws)) ≡ unless b 26 (normal_refusal (panel_of s) target (normal_of ws place left))
    unfolding route_refusal normal_of
    some =
        let q = segments_next ws place left (omega arith) in
        rw e (go (segments_of left (drop place ws)) (segment_of (drop place ws)) (segments_of (left - 1) (drop (place + 4) ws)) q)
      where
        go : (l : Route) (a : Segment) (m : Route) → l ≡ a ∷ m → route_refusal (panel_of s) target l ≡ unless (all (sound_span (panel_of s)) l) 26 (normal_refusal (panel_of s) target (normalize l))
        go l a m q = rw q

    pub route_26 : b ≡ false → 26 ≡ route_refusal (panel_of s) target (segments_of left (drop place ws))
    route_26 z = rw (some, z)

    pub route_rest : (r : ℕ) → b ≡ true → r ≡ normal_refusal (panel_of s) target (normal_of ws place left) → r ≡ route_refusal (panel_of s) target (segments_of left (drop place ws))
    route_rest r z q = q ∙ rw (some, z)

-- ---- route by route

pub paths_are : (s : List ℕ) (h : Header) (n : ℕ) → Framed s h → paths_at (panel_of s) n ≡ paths_of h s n
unfolding paths_of
paths_are s h n f = rw (panel_families s h f)

pub record RoutesFrom (s : List ℕ) (h : Header) (f : Family) (ws : List ℕ) (n place i : ℕ) : Type 0 where
  pub few : i ≤ n
  pub parsed : Parsed ws (n - i) place
  pub todo : routes_refusal (panel_of s) 0 (paths_of h s f.number) (routes_of n (drop 2 ws)) ≡ routes_refusal (panel_of s) i (drop i (paths_of h s f.number)) (routes_of (n - i) (drop place ws))

pub routes_start : {s : List ℕ} {h : Header} {f : Family} {ws : List ℕ} {n : ℕ} → Parsed ws n 2 → RoutesFrom s h f ws n 2 0
routes_start {s} {h} {f} {ws} {n} p = let e : n - 0 ≡ n = omega arith in record { few = omega arith; parsed = rw e p; todo = rw e }

pub at_found : (n i : ℕ) (r : Refusal) → 0 < n → record { number = n; place = i } ≡ at n i r
at_found zero i r h = let z : ⊥ = omega arith in absurd z
at_found (suc n) i r h = refl

module _ {s : List ℕ} {h : Header} {f : Family} {ws : List ℕ} {n place i : ℕ} (p : RoutesFrom s h f ws n place i) where
  pub routes_route : i < n → place + 1 + 4 * get_or ws place 0 ≤ length ws
  routes_route lt = parsed_route p.parsed (omega arith)

  module _ (g : Groups s h f) (eq : n ≡ f.count) (lt : i < n) (target k : ℕ) (et : target ≡ get_or (paths_of h s f.number) i 0) (ek : k ≡ get_or ws place 0) where
    here_at : routes_refusal (panel_of s) 0 (paths_of h s f.number) (routes_of n (drop 2 ws))
        ≡ at (route_refusal (panel_of s) target (segments_of k (drop (place + 1) ws))) i (routes_refusal (panel_of s) (i + 1) (drop (i + 1) (paths_of h s f.number)) (routes_of (n - (i + 1)) (drop (place + 1 + 4 * k) ws)))
    unfolding routes_refusal
    here_at =
        let l = family_length s h f g in
        let inside : i < length (paths_of h s f.number) = omega arith in
        let pos : 0 < n - i = omega arith in
        let less : n - i - 1 ≡ n - (i + 1) = omega arith in
        p.todo ∙ rw (drop-cons (paths_of h s f.number) i 0 inside, routes_next ws place (n - i) k pos ek, ← et, less) (simp add-one)

    pub routes_again : 0 ≡ route_refusal (panel_of s) target (segments_of k (drop (place + 1) ws)) → RoutesFrom s h f ws n (place + (1 + 4 * k)) (i + 1)
    routes_again z =
        let pos : 0 < n - i = omega arith in
        let less : n - i - 1 ≡ n - (i + 1) = omega arith in
        let sum : place + (1 + 4 * k) ≡ place + 1 + 4 * k = omega arith in
        rw sum (record { few = omega arith; parsed = rw (← less) (parsed_next p.parsed pos ek); todo = here_at ∙ rw (← z) })

    pub routes_found : (e : RouteRefusal) → number_of e ≡ route_refusal (panel_of s) target (segments_of k (drop (place + 1) ws))
        → record { number = number_of e; place = i } ≡ routes_refusal (panel_of s) 0 (paths_at (panel_of s) f.number) (routes_of f.count (drop 2 ws))
    routes_found e z = rw (paths_are s h f.number g.grouped.framed, ← eq, here_at, ← z) (at_found (number_of e) i _ (some_number e))

  pub routes_ends : Groups s h f → n ≡ f.count → n ≤ i → record { number = 0; place = 0 } ≡ routes_refusal (panel_of s) 0 (paths_at (panel_of s) f.number) (routes_of f.count (drop 2 ws))
  unfolding routes_refusal
  routes_ends g eq le =
      let z : n - i ≤ 0 = omega arith in
      rw (paths_are s h f.number g.grouped.framed, ← eq, p.todo, routes_none (drop place ws) (n - i) z) (none i (drop i (paths_of h s f.number)))
    where
      none : (i : ℕ) (l : List ℕ) → no_refusal ≡ routes_refusal (panel_of s) i l []
      none i [] = refl
      none i (t ∷ l) = refl

pub ruleset port_steps = (port_is, port_none)

pub ruleset leaving_steps = (ending_start, ending_again, ending_ends)

pub ruleset joint_steps = (joint_28, joint_29, joint_30, joint_0)

pub ruleset joints_steps = (joints_start, joints_again, joints_found, joints_ends)

pub ruleset normal_steps = (normal_enters, normal_leaves, normal_joints)

pub ruleset route_steps = (route_25, route_26, route_rest)

pub ruleset routes_steps = (routes_start, routes_route, routes_again, routes_found, routes_ends)
