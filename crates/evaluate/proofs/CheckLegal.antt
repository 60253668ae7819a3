-- The check accepts exactly the assignments whose spans are sound and whose normal form is legal.
use Prim.Native.Nat.{ℕ, zero, suc, ◌≤◌, ◌<◌}
use native.Mathlib.Omega.{arith}
use mathlib.Core.Path.{◌≡◌, refl, sym, ap, ◌∙◌, subst}
use mathlib.Core.Logic.{◌↔◌}
use mathlib.Core.Bool.{Bool, true, false, not, ◌&&◌, true≢false}
use mathlib.Core.List.{List, [], ◌∷◌, map}
use lib.Dec.{ltb, eqb}
use lib.ListN.{length}
use borrow.Author.Tests.{eq-eqb, eqb-true, lt-ltb, ltb-true, le-leb, not-true}
use Rattle.ground.specs.Lists.{all}
use Rattle.ground.proofs.ListLaws.{both}
use Rattle.storage.specs.declared.Port.{Port}
use Rattle.image.specs.Panel.{Panel, panel_of, lane_at, paths_at}
use Rattle.evaluate.specs.declared.Segment.{Segment}
use Rattle.evaluate.specs.declared.Refusal.{Refusal}
use Rattle.evaluate.proofs.Lists.{each_append, append_each}
use Rattle.evaluate.specs.Properties.{Each, Pairs, Neighbours, First, Last, Matched}
use Rattle.evaluate.specs.Refusals.{no_refusal, unless, or_else, at}
use Rattle.graph.specs.Check.{panel_refusal}
use Rattle.evaluate.specs.Segments.{Route, Assignment, entry, exit, flat, SoundSpan, sound_span, normalize, normal_form, overlap, clear, apart}
use Rattle.graph.specs.Lookups.{ports_at}
use Rattle.storage.specs.Orders.{same_word}
use Rattle.evaluate.specs.Words.{got, decode}
use Rattle.evaluate.specs.Legal.{Enters, Leaves, Joint, LegalRoute, Apart, Legal, SoundSpans}
use Rattle.evaluate.specs.Check.{most_words, is_empty, enters, leaves, match_refusal, joint_refusal, joints_refusal, normal_refusal, route_refusal, routes_refusal, overlap_refusal, and_after, assignment_refusal, words_refusal, given_refusal, check_refusal, check_answer}
use Rattle.evaluate.proofs.Bases.{overlap_share, share_overlap, sound_iff}
use Rattle.evaluate.proofs.NormalForm.{Filled, normal, sound_normal, filled_of}
use Rattle.evaluate.proofs.Ports.{Rows, rows_of, port_found, port_none, port_one, same_word_is, word_same_of}
use Rattle.evaluate.proofs.Native.{taken}

-- ---- numbers that are 0

pub unless_zero : (b : Bool) (n m : ℕ) → unless b (suc n) m ≡ 0 → (b ≡ true) × (m ≡ 0)
unless_zero true n m e = (refl, e)
unless_zero false n m e = let z : suc n ≡ 0 = e in let x : ⊥ = omega arith in absurd x

pub at_some : (n place : ℕ) (later : Refusal) → 0 < n → at n place later ≡ record { number = n; place = place }
at_some zero place later h = let z : ⊥ = omega arith in absurd z
at_some (suc n) place later h = refl

pub at_zero : (n i : ℕ) (later : Refusal) → (at n i later).number ≡ 0 → (n ≡ 0) × (later.number ≡ 0)
at_zero zero i later e = (refl, e)
at_zero (suc n) i later e = let z : suc n ≡ 0 = e in let x : ⊥ = omega arith in absurd x

zero_at : (n i : ℕ) (later : Refusal) → n ≡ 0 → later.number ≡ 0 → (at n i later).number ≡ 0
zero_at n i later e h = subst (λ (m : ℕ). (at m i later).number ≡ 0) (sym e) h

else_zero : (n m : ℕ) → or_else n m ≡ 0 → (n ≡ 0) × (m ≡ 0)
else_zero zero m e = (refl, e)
else_zero (suc n) m e = let z : suc n ≡ 0 = e in let x : ⊥ = omega arith in absurd x

-- ---- one route

enters_iff : (target : ℕ) (n : Route) → (enters target n ≡ true) ↔ First (Enters target) n
enters_iff target [] = (λ e. true≢false (sym e), λ h. absurd h)
enters_iff target (s ∷ r) = (to, from)
  where
    to : enters target (s ∷ r) ≡ true → Enters target s
    to e =
        let (uv, w) = both (eqb s.source target && eqb (entry s) 0) (not s.reverse) e in
        let (u, v) = both (eqb s.source target) (eqb (entry s) 0) uv in
        record { lane = eqb-true s.source target u; forward = not-true s.reverse w; at_start = eqb-true (entry s) 0 v }

    from : Enters target s → enters target (s ∷ r) ≡ true
    from h = rw (eq-eqb s.source target h.lane, eq-eqb (entry s) 0 h.at_start, h.forward)

module _ (p : Panel) where
  leaves_iff : (target : ℕ) (n : Route) → (leaves p target n ≡ true) ↔ Last (Leaves p target) n
  unfolding leaves
  leaves_iff target [] = (λ e. true≢false (sym e), λ h. absurd h)
  leaves_iff target (s ∷ []) = (to, from)
    where
      to : (eqb s.source target && eqb (exit s) (lane_at p target).len && not s.reverse) ≡ true → Leaves p target s
      to e =
          let (uv, w) = both (eqb s.source target && eqb (exit s) (lane_at p target).len) (not s.reverse) e in
          let (u, v) = both (eqb s.source target) (eqb (exit s) (lane_at p target).len) uv in
          record { lane = eqb-true s.source target u; forward = not-true s.reverse w; at_end = eqb-true (exit s) (lane_at p target).len v }

      from : Leaves p target s → (eqb s.source target && eqb (exit s) (lane_at p target).len && not s.reverse) ≡ true
      from h = rw (eq-eqb s.source target h.lane, eq-eqb (exit s) (lane_at p target).len h.at_end, h.forward)
  leaves_iff target (s ∷ t ∷ r) = leaves_iff target (t ∷ r)

  spans_iff : (r : Route) → (all (sound_span p) r ≡ true) ↔ Each (SoundSpan p) r
  unfolding all
  spans_iff [] = (λ e. tt, λ h. refl)
  spans_iff (s ∷ r) =
      let k = spans_iff r in (
        λ e. let (x, y) = both (sound_span p s) (all (sound_span p) r) e in ((sound_iff p s).0 x, k.0 y),
        λ h. rw ((sound_iff p s).1 h.0) (k.1 h.1),
      )

  module _ (rows : Rows p) where
    joint_to : (s t : Segment) → joint_refusal p s t ≡ 0 → Joint p s t
    unfolding joint_refusal
    joint_to s t h = go (ports_at p s.source (exit s) s.reverse) refl (ports_at p t.source (entry t) t.reverse) refl h
      where
        go : (qs : List Port) → ports_at p s.source (exit s) s.reverse ≡ qs → (ms : List Port) → ports_at p t.source (entry t) t.reverse ≡ ms → match_refusal qs ms ≡ 0 → Joint p s t
        go [] e ms f h = let z : ⊥ = omega arith in absurd z
        go (q ∷ qs) e [] f h = let z : ⊥ = omega arith in absurd z
        go (q ∷ qs) e (m ∷ ms) f h =
            record {
              left = q;
              leaves = port_found p rows s.source (exit s) s.reverse q qs e;
              right = m;
              enters = port_found p rows t.source (entry t) t.reverse m ms f;
              words = same_word_is q.word m.word (unless_zero (same_word q.word m.word) 29 0 h).0;
            }

    joint_from : (s t : Segment) → Joint p s t → joint_refusal p s t ≡ 0
    unfolding joint_refusal
    joint_from s t j = go (ports_at p s.source (exit s) s.reverse) refl (ports_at p t.source (entry t) t.reverse) refl
      where
        go : (qs : List Port) → ports_at p s.source (exit s) s.reverse ≡ qs → (ms : List Port) → ports_at p t.source (entry t) t.reverse ≡ ms → match_refusal qs ms ≡ 0
        go [] e ms f = absurd (port_none p rows s.source (exit s) s.reverse j.left e j.leaves)
        go (q ∷ qs) e [] f = absurd (port_none p rows t.source (entry t) t.reverse j.right f j.enters)
        go (q ∷ qs) e (m ∷ ms) f =
            let x : q ≡ j.left = port_one p rows s.source (exit s) s.reverse q j.left qs e j.leaves in
            let y : m ≡ j.right = port_one p rows t.source (entry t) t.reverse m j.right ms f j.enters in
            rw (word_same_of q.word m.word (ap (λ (z : Port). z.word) x ∙ j.words ∙ sym (ap (λ (z : Port). z.word) y)))

    joints_iff : (n : Route) → (joints_refusal p n ≡ 0) ↔ Neighbours (Joint p) n
    unfolding joints_refusal
    joints_iff [] = (λ e. tt, λ h. refl)
    joints_iff (s ∷ []) = (λ e. tt, λ h. refl)
    joints_iff (s ∷ t ∷ r) =
        let k = joints_iff (t ∷ r) in (
          λ e. let (x, y) = else_zero (joint_refusal p s t) (joints_refusal p (t ∷ r)) e in (joint_to s t x, k.0 y),
          λ h. rw (joint_from s t h.0) (k.1 h.1),
        )

    pub route_to : (target : ℕ) (r : Route) → route_refusal p target r ≡ 0 → Each (SoundSpan p) r × LegalRoute p target (normalize r)
    unfolding route_refusal normal_refusal
    route_to target r e =
        let n = normalize r in
        let (a, x) = unless_zero (not (is_empty r)) 24 (unless (all (sound_span p) r) 26 (unless (enters target n && leaves p target n) 27 (joints_refusal p n))) e in
        let (b, y) = unless_zero (all (sound_span p) r) 25 (unless (enters target n && leaves p target n) 27 (joints_refusal p n)) x in
        let (c, z) = unless_zero (enters target n && leaves p target n) 26 (joints_refusal p n) y in
        let (d, f) = both (enters target n) (leaves p target n) c in
        let spans : Each (SoundSpan p) r = (spans_iff r).0 b in (
          spans,
          record {
            spans = sound_normal p r spans;
            normal = normal r (filled_of p r spans);
            enters = (enters_iff target n).0 d;
            leaves = (leaves_iff target n).0 f;
            joints = (joints_iff n).0 z;
          },
        )

    some_route : (target : ℕ) (r : Route) → First (Enters target) (normalize r) → not (is_empty r) ≡ true
    some_route target [] h = absurd h
    some_route target (s ∷ r) h = refl

    pub route_from : (target : ℕ) (r : Route) → Each (SoundSpan p) r → LegalRoute p target (normalize r) → route_refusal p target r ≡ 0
    unfolding route_refusal normal_refusal
    route_from target r spans h =
        let n = normalize r in
        rw (some_route target r h.enters, (spans_iff r).1 spans, (enters_iff target n).1 h.enters, (leaves_iff target n).1 h.leaves) ((joints_iff n).1 h.joints)

    -- ---- all routes

    routes_to : (i : ℕ) (targets : List ℕ) (rs : List Route) → length rs ≡ length targets → (routes_refusal p i targets rs).number ≡ 0
        → Each (SoundSpan p) (flat rs) × Matched (LegalRoute p) targets (map normalize rs)
    unfolding routes_refusal
    routes_to i [] [] e h = (tt, tt)
    routes_to i [] (r ∷ rs) e h = let z : ⊥ = omega arith in absurd z
    routes_to i (l ∷ ls) [] e h = let z : ⊥ = omega arith in absurd z
    routes_to i (l ∷ ls) (r ∷ rs) e h =
        let (x, y) = at_zero (route_refusal p l r) i (routes_refusal p (suc i) ls rs) h in
        let (a, b) = route_to l r x in
        let (c, d) = routes_to (suc i) ls rs (omega arith) y in
        (each_append (SoundSpan p) r (flat rs) a c, (b, d))

    routes-from : (i : ℕ) (targets : List ℕ) (rs : List Route) → Each (SoundSpan p) (flat rs) → Matched (LegalRoute p) targets (map normalize rs)
        → (length rs ≡ length targets) × ((routes_refusal p i targets rs).number ≡ 0)
    unfolding routes_refusal
    routes-from i [] [] s h = (refl, refl)
    routes-from i [] (r ∷ rs) s h = absurd h
    routes-from i (l ∷ ls) [] s h = absurd h
    routes-from i (l ∷ ls) (r ∷ rs) s h =
        let (a, b) = append_each (SoundSpan p) r (flat rs) s in
        let (x, y) = routes-from (suc i) ls rs b h.1 in
        (ap suc x, zero_at (route_refusal p l r) i (routes_refusal p (suc i) ls rs) (route_from l r a h.0) y)

-- the segments of legal routes are not empty
pub flat_filled : (p : Panel) (targets : List ℕ) (ns : List Route) → Matched (LegalRoute p) targets ns → Filled (flat ns)
flat_filled p [] [] h = tt
flat_filled p [] (n ∷ ns) h = absurd h
flat_filled p (l ∷ ls) [] h = absurd h
flat_filled p (l ∷ ls) (n ∷ ns) h = each_append (λ s. s.start < s.end) n (flat ns) (filled_of p n h.0.spans) (flat_filled p ls ns h.1)

-- ---- no two share a base

pub clear_to : (s : Segment) (l : List Segment) → clear s l ≡ true → Each (Apart s) l
unfolding all
clear_to s [] e = tt
clear_to s (t ∷ l) e =
    let (x, y) = both (not (overlap s t)) (clear s l) e in
    (λ h. true≢false (sym (share_overlap s t h) ∙ not-true (overlap s t) x), clear_to s l y)

pub clear_from : (s : Segment) (l : List Segment) → s.start < s.end → Filled l → Each (Apart s) l → clear s l ≡ true
unfolding all
clear_from s [] hs f h = refl
clear_from s (t ∷ l) hs f h = rw (off (overlap s t) refl) (clear_from s l hs f.1 h.1)
  where
    off : (b : Bool) → overlap s t ≡ b → b ≡ false
    off true e = absurd (h.0 (overlap_share s t hs f.0 e))
    off false e = refl

apart_to : (l : List Segment) → apart l ≡ true → Pairs Apart l
unfolding apart
apart_to [] e = tt
apart_to (s ∷ l) e = let (x, y) = both (clear s l) (apart l) e in (clear_to s l x, apart_to l y)

apart_from_is : (l : List Segment) → Filled l → Pairs Apart l → apart l ≡ true
unfolding apart
apart_from_is [] f h = refl
apart_from_is (s ∷ l) f h = rw (clear_from s l f.0 f.1 h.0) (apart_from_is l f.1 h.1)

-- ---- the whole assignment

module _ (p : Panel) (rows : Rows p) (a : Assignment) where
  pub accepted_legal : (assignment_refusal p a).number ≡ 0 → SoundSpans p a × Legal p (normal_form a)
  unfolding assignment_refusal overlap_refusal
  accepted_legal e =
      let first = unless (ltb a.family (length p.families)) 23 (unless (eqb (length a.routes) (length (paths_at p a.family))) 24 0) in
      let inRoutes = routes_refusal p 0 (paths_at p a.family) a.routes in
      let last = unless (apart (flat (map normalize a.routes))) 31 0 in
      let (x, y) = at_zero first 0 (and_after inRoutes (at last 0 no_refusal)) e in
      let (u, v) = at_zero inRoutes.number inRoutes.place (at last 0 no_refusal) y in
      let (z, w) = at_zero last 0 no_refusal v in
      let (b, c) = unless_zero (ltb a.family (length p.families)) 22 (unless (eqb (length a.routes) (length (paths_at p a.family))) 24 0) x in
      let (d, f) = unless_zero (eqb (length a.routes) (length (paths_at p a.family))) 23 0 c in
      let (g, h) = routes_to p rows 0 (paths_at p a.family) a.routes (eqb-true (length a.routes) (length (paths_at p a.family)) d) u in (
        g,
        record {
          family = ltb-true a.family (length p.families) b;
          routes = h;
          apart = apart_to (flat (map normalize a.routes)) (unless_zero (apart (flat (map normalize a.routes))) 30 0 z).0;
        },
      )

  pub legal_accepted : SoundSpans p a → Legal p (normal_form a) → (assignment_refusal p a).number ≡ 0
  unfolding assignment_refusal overlap_refusal
  legal_accepted s h =
      let inRoutes = routes_refusal p 0 (paths_at p a.family) a.routes in
      let (n, u) = routes-from p rows 0 (paths_at p a.family) a.routes s h.routes in
      let off : apart (flat (map normalize a.routes)) ≡ true = apart_from_is (flat (map normalize a.routes)) (flat_filled p (paths_at p a.family) (map normalize a.routes) h.routes) h.apart in
      rw (lt-ltb a.family (length p.families) h.family, eq-eqb (length a.routes) (length (paths_at p a.family)) n, off)
      (zero_at inRoutes.number inRoutes.place no_refusal u refl)

-- ---- from the bytes

-- THE CHECK
pub check_legal : (s ws : List ℕ) (room : ℕ) (a : Assignment) → panel_refusal s ≡ 0 → decode ws ≡ got a [] → length ws ≤ most_words → length ws ≤ room
    → ((check_answer s ws room).refusal ≡ 0) ↔ (SoundSpans (panel_of s) a × Legal (panel_of s) (normal_form a))
unfolding check_answer check_refusal words_refusal given_refusal
check_legal s ws room a e said few fits =
    let t = taken s e in
    let rows : Rows (panel_of s) = rows_of s t.header t.accepted in
    rw (e, le-leb (length ws) room fits, le-leb (length ws) most_words few, said)
    (accepted_legal (panel_of s) rows a, λ h. legal_accepted (panel_of s) rows a h.0 h.1)
