-- Laws of the marks of an assignment.
use Prim.Native.Nat.{ℕ, ◌+◌, ◌*◌, ◌-◌, ◌≤◌, ◌<◌}
use native.Mathlib.Omega.{arith}
use mathlib.Core.Path.{◌≡◌, sym, ap, ◌∙◌}
use mathlib.Core.Bool.{Bool, true, false, not, ◌||◌}
use mathlib.Core.List.{List, []}
use lib.Dec.{eqb}
use lib.ListN.{length, drop, get_or, length-append, get_or-eq_default}
use Rattle.ground.specs.Lists.{any}
use Rattle.ground.proofs.ListLaws.{each_length}
use Rattle.image.specs.declared.Header.{Header}
use Rattle.image.specs.declared.Entry.{Entry}
use Rattle.image.specs.Image.{entries, no_entry}
use Rattle.image.specs.Inner.{Framed}
use Rattle.image.specs.Panel.{panel_of, lane_at, no_lane}
use Rattle.image.proofs.Laws.{panel_entry, panel_lanes}
use Rattle.evaluate.specs.declared.Segment.{Segment}
use Rattle.evaluate.specs.Segments.{flat}
use Rattle.words.specs.Inner.{segment_of, segments_of, routes_of, assignment_of, Parsed}
use Rattle.words.proofs.Reading.{segments_none, segments_next, routes_none, routes_next, parsed_route, parsed_next}
use Rattle.words.proofs.Writing.{routes_length}
use Rattle.search.specs.Counters.{varies}
use Rattle.marks.specs.Inner.{lane_of, identity_of, Tells, marks_of}
use Rattle.marks.specs.declared.Marks.{Marks}

module _ (s : List ℕ) (h : Header) (lane : ℕ) (f : Framed s h) where
  pub identity_is : (e : Entry) → e ≡ get_or (entries h s) lane no_entry → e.identity ≡ (lane_at (panel_of s) lane).identity
  identity_is e q = ap (λ (x : Entry). x.identity) q ∙ sym (panel_entry s h lane f).1

  pub identity_none : h.lanes ≤ lane → 0 ≡ (lane_at (panel_of s) lane).identity
  identity_none le =
      let past : length (panel_of s).lanes ≤ lane = (let n = panel_lanes s h f in omega arith) in
      let none : lane_at (panel_of s) lane ≡ no_lane = get_or-eq_default (panel_of s).lanes no_lane past in
      rw none

-- ---- a route over two values

pub varies_none : (answers : Segment → ℕ → Type 0) (ws : List ℕ) (at left : ℕ) → left ≡ 0 → (f : Segment → ℕ) → Tells answers f → false ≡ varies f (segments_of left (drop at ws))
varies_none answers ws at left z f told = rw (segments_none ws at left (omega arith))

pub varies_told : (answers : Segment → ℕ → Type 0) (ws : List ℕ) (at left first : ℕ) (s : Segment) (r : Bool) → (left ≡ 0 → ⊥) → s ≡ segment_of (drop at ws) → answers s first → (f : Segment → ℕ) → Tells answers f
    → r ≡ any (λ t. not (eqb (f t) first)) (segments_of (left - 1) (drop (at + 4) ws)) → r ≡ varies f (segments_of left (drop at ws))
varies_told answers ws at left first s r some e a f told q = q ∙ rw (segments_next ws at left (omega arith), ← e, told s first a)

-- ---- any route from a place on: i have been asked

pub record Mixing (answers : Segment → ℕ → Type 0) (ws : List ℕ) (at routes place i : ℕ) : Type 0 where
  pub parsed : Parsed ws (routes - i) place
  pub todo : (f : Segment → ℕ) → Tells answers f → any (varies f) (routes_of routes (drop at ws)) ≡ any (varies f) (routes_of (routes - i) (drop place ws))

module _ {answers : Segment → ℕ → Type 0} {ws : List ℕ} {at routes place i : ℕ} (p : Mixing answers ws at routes place i) where
  pub mixing_route : i < routes → place + 1 + 4 * get_or ws place 0 ≤ length ws
  mixing_route h = parsed_route p.parsed (omega arith)

  module _ (more : i < routes) (k : ℕ) (r : Bool) (ek : k ≡ get_or ws place 0) (er : (f : Segment → ℕ) → Tells answers f → r ≡ varies f (segments_of k (drop (place + 1) ws))) where
    fewer : routes - i - 1 ≡ routes - (i + 1)
    fewer = omega arith

    after : (f : Segment → ℕ) → Tells answers f → any (varies f) (routes_of routes (drop at ws)) ≡ (r || any (varies f) (routes_of (routes - (i + 1)) (drop (place + 1 + 4 * k) ws)))
    unfolding any
    after f told = p.todo f told ∙ rw (routes_next ws place (routes - i) k (omega arith) ek, er f told, fewer)

    pub mixing_again : r ≡ false → Mixing answers ws at routes (place + (1 + 4 * k)) (i + 1)
    mixing_again z =
        let e : place + (1 + 4 * k) ≡ place + 1 + 4 * k = omega arith in
        rw e (record { parsed = rw (← fewer) (parsed_next p.parsed (omega arith) ek); todo = λ f told. after f told ∙ rw z })

    pub mixing_found : r ≡ true → (f : Segment → ℕ) → Tells answers f → true ≡ any (varies f) (routes_of routes (drop at ws))
    mixing_found z f told = rw (after f told, z)

  pub mixing_ends : routes ≤ i → (f : Segment → ℕ) → Tells answers f → false ≡ any (varies f) (routes_of routes (drop at ws))
  unfolding any
  mixing_ends z f told = rw (p.todo f told, routes_none (drop place ws) (routes - i) (omega arith))

-- ---- the segments of all routes

segments_many : (ws : List ℕ) (n : ℕ) → length (segments_of n ws) ≡ n
unfolding segments_of
segments_many ws n = each_length segment_of 4 (segment_of []) n ws

-- i of them have been counted
pub record Counting (ws : List ℕ) (at routes place i count : ℕ) : Type 0 where
  pub parsed : Parsed ws (routes - i) place
  pub few : count ≤ place
  pub todo : length (flat (routes_of routes (drop at ws))) ≡ count + length (flat (routes_of (routes - i) (drop place ws)))

module _ {ws : List ℕ} {at routes place i count : ℕ} (p : Counting ws at routes place i count) where
  pub counting_route : i < routes → place + 1 + 4 * get_or ws place 0 ≤ length ws
  counting_route h = parsed_route p.parsed (omega arith)

  pub counting_next : (k : ℕ) → i < routes → k ≡ get_or ws place 0 → Counting ws at routes (place + (1 + 4 * k)) (i + 1) (count + k)
  counting_next k more ek =
      let n = routes - (i + 1) in
      let fewer : routes - i - 1 ≡ n = omega arith in
      let e : place + (1 + 4 * k) ≡ place + 1 + 4 * k = omega arith in
      let here = routes_next ws place (routes - i) k (omega arith) ek in
      let long : length (flat (routes_of (routes - i) (drop place ws))) ≡ k + length (flat (routes_of n (drop (place + 1 + 4 * k) ws))) =
      rw (here, fewer) (length-append (segments_of k (drop (place + 1) ws)) (flat (routes_of n (drop (place + 1 + 4 * k) ws))) ∙ rw (segments_many (drop (place + 1) ws) k)) in
      rw e (record { parsed = rw (← fewer) (parsed_next p.parsed (omega arith) ek); few = omega (arith, p.few); todo = omega (arith, p.todo, long) })

  pub counting_ends : routes ≤ i → count ≡ length (flat (routes_of routes (drop at ws)))
  counting_ends z =
      let none : length (flat (routes_of (routes - i) (drop place ws))) ≡ 0 = rw (routes_none (drop place ws) (routes - i) (omega arith)) in
      omega (arith, p.todo, none)

pub marks_told : (s ws : List ℕ) (n w : ℕ) (a b : Bool) → a ≡ any (varies lane_of) (routes_of (get_or ws 1 0) (drop 2 ws)) → b ≡ any (varies (identity_of (panel_of s))) (routes_of (get_or ws 1 0) (drop 2 ws))
    → n ≡ length (flat (routes_of (get_or ws 1 0) (drop 2 ws))) → w ≡ n - get_or ws 1 0 → ◌≡◌ {A = Marks} (record { switches = w; lanes = a; identities = b }) (marks_of (panel_of s) (assignment_of ws))
unfolding marks_of
marks_told s ws n w a b ea eb en ew = rw (ea, eb, ew, en, routes_length (get_or ws 1 0) (drop 2 ws))
