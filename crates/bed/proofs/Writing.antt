-- Laws of writing lines: their lengths, and the lines put one behind the other.
use Prim.Native.Nat.{ℕ, zero, suc, ◌+◌, ◌-◌, ◌*◌, ◌/◌, ◌%◌, ◌≤◌, ◌<◌}
use native.Mathlib.Omega.{arith}
use mathlib.Core.Path.{◌≡◌, refl, sym, ap, ◌∙◌, subst}
use mathlib.Core.Bool.{Bool, true, false, ◌&&◌}
use mathlib.Core.List.{List, [], ◌∷◌, ◌++◌, append_assoc}
use lib.Dec.{leb, ltb}
use lib.ListN.{length, drop, get_or, length-append}
use Rattle.ground.specs.Lists.{pick}
use Rattle.evaluate.specs.declared.Segment.{Segment}
use Rattle.evaluate.specs.Properties.{Each}
use Rattle.evaluate.specs.Segments.{Route}
use Rattle.words.specs.Inner.{segment_of, segments_of, routes_of, Parsed}
use Rattle.words.proofs.Reading.{segments_none, segments_next, routes_none, routes_next, parsed_inside, parsed_next, parsed_route}
use Rattle.search.specs.Sheet.{digits, decimal, turn_text}
use Rattle.text.specs.Inner.{Put}
use Rattle.text.proofs.Laws.{Onto, onto_piece, onto_end}
use Rattle.names.specs.Names.{lines_of, name_at, name_ok}
use Rattle.names.specs.Inner.{Table}
use Rattle.names.proofs.Laws as tables
use Rattle.ground.proofs.ListLaws.{both}
use borrow.Author.Tests.{leb-true}
use Rattle.rows.specs.Rows.{row_text, score_text}
use Rattle.texts.specs.Bed.{route_text, routes_text}
use Rattle.bed.specs.Inner.{OnLane, Long}

-- ---- one line

digits_few : (n x : ℕ) → length (digits n x) ≤ n
unfolding digits
digits_few zero x = omega arith
digits_few (suc n) x = go (ltb x 10) (digits_few n (x / 10))
  where
    go : (b : Bool) → length (digits n (x / 10)) ≤ n → length (pick b ((48 + x) ∷ []) (digits n (x / 10) ++ ((48 + x % 10) ∷ []))) ≤ suc n
    go true h = omega arith
    go false h = let l = length-append (digits n (x / 10)) ((48 + x % 10) ∷ []) in omega arith

turn_one : (r : Bool) → length (turn_text r) ≡ 1
turn_one true = refl
turn_one false = refl

-- a name, three numbers, and nine bytes more
pub row_bytes : (ns : List (List ℕ)) (k : ℕ) (s : Segment) → length (row_text ns k s ++ (10 ∷ [])) ≡ length (name_at ns s.source) + length (decimal s.start) + length (decimal s.end) + length (decimal k) + 9
unfolding row_text
row_bytes ns k s =
    let t = turn_one s.reverse in
    let r3 : List ℕ = score_text ++ (9 ∷ turn_text s.reverse) in
    let r2 : List ℕ = (114 ∷ decimal k) ++ (9 ∷ r3) in
    let r1 : List ℕ = decimal s.end ++ (9 ∷ r2) in
    let r0 : List ℕ = decimal s.start ++ (9 ∷ r1) in
    let l5 = length-append (row_text ns k s) (10 ∷ []) in
    let l4 = length-append (name_at ns s.source) (9 ∷ r0) in
    let l3 = length-append (decimal s.start) (9 ∷ r1) in
    let l2 = length-append (decimal s.end) (9 ∷ r2) in
    let l1 = length-append (decimal k) (9 ∷ r3) in
    omega arith

row_short : (ns : List (List ℕ)) (k : ℕ) (s : Segment) → length (name_at ns s.source) ≤ 64 → length (row_text ns k s ++ (10 ∷ [])) ≤ 133
row_short ns k s h =
    let e = row_bytes ns k s in
    let a = digits_few 20 s.start in
    let b = digits_few 20 s.end in
    let c = digits_few 20 k in
    omega arith

pub name_short : (s : List ℕ) → name_ok s ≡ true → length s ≤ 64
unfolding name_ok
name_short s e =
    let (a, b) = both (leb 1 (length s) && leb (length s) 64) _ e in
    leb-true (length s) 64 (both (leb 1 (length s)) (leb (length s) 64) a).1

pub lane_short : {names starts ends heads links : List ℕ} {lanes : ℕ} → Table names starts ends heads links lanes → (lane : ℕ) → lane < lanes → length (name_at (lines_of names) lane) ≤ 64
lane_short {names} {lanes = lanes} t lane lt = name_short (name_at (lines_of names) lane) (tables.lane_name_ok (tables.good_table names lanes t.good) lane lt)

pub row_long : {names starts ends heads links : List ℕ} {lanes : ℕ} (s : Segment) → Table names starts ends heads links lanes → OnLane lanes s
    → (k : ℕ) {xs ys : List ℕ} {n : ℕ} → length xs ≡ 192 → Put (row_text (lines_of names) k s ++ (10 ∷ [])) xs 0 ys n → Long (row_text (lines_of names) k s ++ (10 ∷ [])) 1 n
row_long {names} s t on k l p =
    let h = row_short (lines_of names) k s (lane_short t s.source on) in
    let q = p.after in
    record { is = omega arith; small = omega arith }

-- ---- a route

pub record Measuring (ns : List (List ℕ)) (lanes k : ℕ) (ws : List ℕ) (from left place n sum : ℕ) : Type 0 where
  pub inside : place + 4 * n ≤ length ws
  pub few : left ≤ 16384
  pub on : Each (OnLane lanes) (segments_of n (drop place ws))
  pub todo : length (route_text ns k (segments_of left (drop from ws))) ≡ sum + length (route_text ns k (segments_of n (drop place ws)))
  pub small : sum + 133 * n ≤ 133 * left

row_then : (ns : List (List ℕ)) (k : ℕ) (s : Segment) (r : Route) → route_text ns k (s ∷ r) ≡ (row_text ns k s ++ (10 ∷ [])) ++ route_text ns k r
unfolding route_text
row_then ns k s r = sym (append_assoc (row_text ns k s) (10 ∷ []) (route_text ns k r))

module _ {ns : List (List ℕ)} {lanes k : ℕ} {ws : List ℕ} {from left place n sum : ℕ} (m : Measuring ns lanes k ws from left place n sum) where
  module _ (s : Segment) (pos : 0 < n) (e : s ≡ segment_of (drop place ws)) where
    both_on : OnLane lanes s × Each (OnLane lanes) (segments_of (n - 1) (drop (place + 4) ws))
    both_on = rw e (subst (λ (r : Route). Each (OnLane lanes) r) (segments_next ws place n pos) m.on)

    pub measuring_on : OnLane lanes s
    measuring_on = both_on.0

    module _ (r : ℕ) (l : Long (row_text ns k s ++ (10 ∷ [])) 1 r) where
      pub measuring_next : Measuring ns lanes k ws from left (place + 4) (n - 1) (sum + r)
      measuring_next =
          let i = m.inside in
          let b = m.small in
          let c = l.small in
          let rest = segments_of (n - 1) (drop (place + 4) ws) in
          let t : length (route_text ns k (segments_of n (drop place ws))) ≡ r + length (route_text ns k rest)
          = rw (segments_next ws place n pos, ← e, row_then ns k s rest, length-append (row_text ns k s ++ (10 ∷ [])) (route_text ns k rest), l.is) in
          record { inside = omega arith; few = m.few; on = both_on.1; todo = omega (arith, m.todo, t); small = omega arith }

  pub measuring_ends : n ≤ 0 → Long (route_text ns k (segments_of left (drop from ws))) left sum
  unfolding route_text
  measuring_ends z =
      let none : length (route_text ns k (segments_of n (drop place ws))) ≡ 0 = rw (segments_none ws place n z) in
      let b = m.small in
      record { is = omega (arith, m.todo, none); small = omega arith }

-- i segments have been measured
pub measuring_step : {ns : List (List ℕ)} {lanes k : ℕ} {ws : List ℕ} {from left sum : ℕ} (i : ℕ) {s : Segment} {r : ℕ} → Measuring ns lanes k ws from left (from + 4 * i) (left - i) sum → i < left
    → s ≡ segment_of (drop (from + 4 * i) ws) → Long (row_text ns k s ++ (10 ∷ [])) 1 r → Measuring ns lanes k ws from left (from + 4 * (i + 1)) (left - (i + 1)) (sum + r)
measuring_step {from = from} {left = left} i {s} {r} m lt e l =
    let a : from + 4 * i + 4 ≡ from + 4 * (i + 1) = omega arith in
    let b : left - i - 1 ≡ left - (i + 1) = omega arith in
    rw (← a, ← b) (measuring_next m s (omega arith) e r l)

-- ---- all routes

pub record Summing (ns : List (List ℕ)) (lanes : ℕ) (ws : List ℕ) (routes place slot sum : ℕ) : Type 0 where
  pub few : slot ≤ routes
  pub parsed : Parsed ws (routes - slot) place
  pub on : Each (Each (OnLane lanes)) (routes_of (routes - slot) (drop place ws))
  pub short : length ws ≤ 65536
  pub todo : length (routes_text ns 0 (routes_of routes (drop 2 ws))) ≡ sum + length (routes_text ns slot (routes_of (routes - slot) (drop place ws)))
  pub small : sum ≤ 133 * place

module _ {ns : List (List ℕ)} {lanes : ℕ} {ws : List ℕ} {routes place slot sum : ℕ} (m : Summing ns lanes ws routes place slot sum) where
  pub summing_route : slot < routes → place + 1 + 4 * get_or ws place 0 ≤ length ws
  summing_route lt = let pos : 0 < routes - slot = omega arith in parsed_route m.parsed pos

  module _ (k : ℕ) (lt : slot < routes) (e : k ≡ get_or ws place 0) where
    pos : 0 < routes - slot
    pos = omega arith

    both_in : Each (OnLane lanes) (segments_of k (drop (place + 1) ws)) × Each (Each (OnLane lanes)) (routes_of (routes - slot - 1) (drop (place + 1 + 4 * k) ws))
    both_in = subst (λ (l : List Route). Each (Each (OnLane lanes)) l) (routes_next ws place (routes - slot) k pos e) m.on

    pub summing_on : Each (OnLane lanes) (segments_of k (drop (place + 1) ws))
    summing_on = both_in.0

    pub summing_inside : place + 1 + 4 * k ≤ length ws
    summing_inside = parsed_inside m.parsed pos e

    module _ (r : ℕ) (l : Long (route_text ns slot (segments_of k (drop (place + 1) ws))) k r) where
      pub summing_next : Summing ns lanes ws routes (place + 1 + 4 * k) (slot + 1) (sum + r)
      unfolding routes_text
      summing_next =
          let less : routes - slot - 1 ≡ routes - (slot + 1) = omega arith in
          let one : slot + 1 ≡ suc slot = omega arith in
          let a = m.small in
          let c = l.small in
          let seg = segments_of k (drop (place + 1) ws) in
          let rest = routes_of (routes - (slot + 1)) (drop (place + 1 + 4 * k) ws) in
          let q : routes_text ns slot (routes_of (routes - slot) (drop place ws)) ≡ route_text ns slot seg ++ routes_text ns (slot + 1) rest
          = rw (routes_next ws place (routes - slot) k pos e, less, one) in
          let t : length (routes_text ns slot (routes_of (routes - slot) (drop place ws))) ≡ r + length (routes_text ns (slot + 1) rest)
          = ap length q ∙ length-append (route_text ns slot seg) (routes_text ns (slot + 1) rest) ∙ ap (λ (x : ℕ). x + length (routes_text ns (slot + 1) rest)) (sym l.is) in
          record {
            few = omega arith;
            parsed = subst (λ (x : ℕ). Parsed ws x (place + 1 + 4 * k)) less (parsed_next m.parsed pos e);
            on = subst (λ (x : ℕ). Each (Each (OnLane lanes)) (routes_of x (drop (place + 1 + 4 * k) ws))) less both_in.1;
            short = m.short;
            todo = omega (arith, m.todo, t);
            small = omega arith;
          }

  pub summing_ends : routes ≤ slot → sum ≡ length (routes_text ns 0 (routes_of routes (drop 2 ws)))
  unfolding routes_text
  summing_ends z =
      let none_left : routes - slot ≤ 0 = omega arith in
      let none : length (routes_text ns slot (routes_of (routes - slot) (drop place ws))) ≡ 0 = rw (routes_none (drop place ws) (routes - slot) none_left) in
      omega (arith, m.todo, none)

-- ---- the lines of a route

pub record Writing (ns : List (List ℕ)) (lanes k : ℕ) (ws : List ℕ) (from left : ℕ) (xs : List ℕ) (at place n : ℕ) (ys : List ℕ) (to : ℕ) : Type 0 where
  pub inside : place + 4 * n ≤ length ws
  pub on : Each (OnLane lanes) (segments_of n (drop place ws))
  pub onto : Onto (route_text ns k (segments_of left (drop from ws))) xs at (route_text ns k (segments_of n (drop place ws))) ys to

module _ {ns : List (List ℕ)} {lanes k : ℕ} {ws : List ℕ} {from left : ℕ} {xs : List ℕ} {at place n : ℕ} {ys : List ℕ} {to : ℕ} (w : Writing ns lanes k ws from left xs at place n ys to) where
  module _ (s : Segment) (pos : 0 < n) (e : s ≡ segment_of (drop place ws)) where
    lanes_on : OnLane lanes s × Each (OnLane lanes) (segments_of (n - 1) (drop (place + 4) ws))
    lanes_on = rw e (subst (λ (r : Route). Each (OnLane lanes) r) (segments_next ws place n pos) w.on)

    pub writing_on : OnLane lanes s
    writing_on = lanes_on.0

    pub writing_next : {zs : List ℕ} {m : ℕ} → Put (row_text ns k s ++ (10 ∷ [])) ys to zs m → Writing ns lanes k ws from left xs at (place + 4) (n - 1) zs m
    writing_next p =
        let rest = segments_of (n - 1) (drop (place + 4) ws) in
        let q : route_text ns k (segments_of n (drop place ws)) ≡ (row_text ns k s ++ (10 ∷ [])) ++ route_text ns k rest = rw (segments_next ws place n pos, ← e) (row_then ns k s rest) in
        record {
          inside = (let i = w.inside in omega arith);
          on = lanes_on.1;
          onto = onto_piece (row_text ns k s ++ (10 ∷ [])) (route_text ns k rest)
              (subst (λ (l : List ℕ). Onto (route_text ns k (segments_of left (drop from ws))) xs at l ys to) q w.onto) p;
        }

  pub writing_ends : n ≤ 0 → Put (route_text ns k (segments_of left (drop from ws))) xs at ys to
  unfolding route_text
  writing_ends z = onto_end (subst (λ (r : Route). Onto (route_text ns k (segments_of left (drop from ws))) xs at (route_text ns k r) ys to) (segments_none ws place n z) w.onto)

-- i segments' lines have been written
pub writing_step : {ns : List (List ℕ)} {lanes k : ℕ} {ws : List ℕ} {from left : ℕ} {xs : List ℕ} {at : ℕ} {ys zs : List ℕ} {to n : ℕ} (i : ℕ) {s : Segment} → Writing ns lanes k ws from left xs at (from + 4 * i) (left - i) ys to → i < left
    → s ≡ segment_of (drop (from + 4 * i) ws) → Put (row_text ns k s ++ (10 ∷ [])) ys to zs n → Writing ns lanes k ws from left xs at (from + 4 * (i + 1)) (left - (i + 1)) zs n
writing_step {from = from} {left = left} i {s} w lt e p =
    let a : from + 4 * i + 4 ≡ from + 4 * (i + 1) = omega arith in
    let b : left - i - 1 ≡ left - (i + 1) = omega arith in
    rw (← a, ← b) (writing_next w s (omega arith) e p)

-- ---- the lines of all routes

pub record Listing (ns : List (List ℕ)) (lanes : ℕ) (ws : List ℕ) (routes : ℕ) (xs : List ℕ) (place slot : ℕ) (ys : List ℕ) (to : ℕ) : Type 0 where
  pub few : slot ≤ routes
  pub parsed : Parsed ws (routes - slot) place
  pub on : Each (Each (OnLane lanes)) (routes_of (routes - slot) (drop place ws))
  pub onto : Onto (routes_text ns 0 (routes_of routes (drop 2 ws))) xs 0 (routes_text ns slot (routes_of (routes - slot) (drop place ws))) ys to

module _ {ns : List (List ℕ)} {lanes : ℕ} {ws : List ℕ} {routes : ℕ} {xs : List ℕ} {place slot : ℕ} {ys : List ℕ} {to : ℕ} (w : Listing ns lanes ws routes xs place slot ys to) where
  pub listing_route : slot < routes → place + 1 + 4 * get_or ws place 0 ≤ length ws
  listing_route lt = let pos : 0 < routes - slot = omega arith in parsed_route w.parsed pos

  module _ (k : ℕ) (lt : slot < routes) (e : k ≡ get_or ws place 0) where
    ahead : 0 < routes - slot
    ahead = omega arith

    lanes_in : Each (OnLane lanes) (segments_of k (drop (place + 1) ws)) × Each (Each (OnLane lanes)) (routes_of (routes - slot - 1) (drop (place + 1 + 4 * k) ws))
    lanes_in = subst (λ (l : List Route). Each (Each (OnLane lanes)) l) (routes_next ws place (routes - slot) k ahead e) w.on

    pub listing_on : Each (OnLane lanes) (segments_of k (drop (place + 1) ws))
    listing_on = lanes_in.0

    pub listing_next : {zs : List ℕ} {m : ℕ} → Put (route_text ns slot (segments_of k (drop (place + 1) ws))) ys to zs m → Listing ns lanes ws routes xs (place + 1 + 4 * k) (slot + 1) zs m
    unfolding routes_text
    listing_next {zs} {m} p =
        let less : routes - slot - 1 ≡ routes - (slot + 1) = omega arith in
        let one : slot + 1 ≡ suc slot = omega arith in
        let rest = routes_of (routes - (slot + 1)) (drop (place + 1 + 4 * k) ws) in
        let q : routes_text ns slot (routes_of (routes - slot) (drop place ws)) ≡ route_text ns slot (segments_of k (drop (place + 1) ws)) ++ routes_text ns (slot + 1) rest
        = rw (routes_next ws place (routes - slot) k ahead e, less, one) in
        record {
          few = omega arith;
          parsed = subst (λ (x : ℕ). Parsed ws x (place + 1 + 4 * k)) less (parsed_next w.parsed ahead e);
          on = subst (λ (x : ℕ). Each (Each (OnLane lanes)) (routes_of x (drop (place + 1 + 4 * k) ws))) less lanes_in.1;
          onto = onto_piece (route_text ns slot (segments_of k (drop (place + 1) ws))) (routes_text ns (slot + 1) rest)
              (subst (λ (l : List ℕ). Onto (routes_text ns 0 (routes_of routes (drop 2 ws))) xs 0 l ys to) q w.onto) p;
        }

  pub listing_ends : routes ≤ slot → Put (routes_text ns 0 (routes_of routes (drop 2 ws))) xs 0 ys to
  unfolding routes_text
  listing_ends z =
      let none : routes - slot ≤ 0 = omega arith in
      onto_end (subst (λ (r : List Route). Onto (routes_text ns 0 (routes_of routes (drop 2 ws))) xs 0 (routes_text ns slot r) ys to) (routes_none (drop place ws) (routes - slot) none) w.onto)
