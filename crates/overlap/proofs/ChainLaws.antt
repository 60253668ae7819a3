-- Laws of the chains: what a segment is held against is enough, and nothing else is looked at.
use Prim.Native.Nat.{ℕ, zero, suc, ◌+◌, ◌*◌, ◌-◌, ◌/◌, ◌%◌, ◌≤◌, ◌<◌, min, max}
use native.Mathlib.Omega.{arith}
use native.Mathlib.Nat.{min-le_left, min-le_right, le-max_left, le-max_right}
use mathlib.Core.Path.{◌≡◌, refl, sym, ap, ap₂, ◌∙◌}
use mathlib.Core.Bool.{Bool, true, false, not, ◌&&◌, and-false}
use mathlib.Core.List.{List, [], ◌∷◌, ◌++◌}
use lib.Dec.{leb, ltb, eqb}
use lib.ListN.{length, drop, get_or, set, replicate, length-set, length-replicate}
use lib.Seq.{get_or-set_same, get_or-set_other}
use borrow.Author.Tests.{le-ltb, leb-true, ne_eqb, eqb-true, eqb-false}
use Rattle.ground.specs.Lists.{pick, all}
use Rattle.evaluate.specs.declared.Segment.{Segment}
use Rattle.evaluate.specs.Segments.{overlap, clear, apart, flat}
use Rattle.words.specs.Inner.{segment_of, segments_of, routes_of, Parsed, RouteAt}
use Rattle.words.proofs.Reading.{segments_none, segments_next, routes_none, routes_next, parsed_route, parsed_next}
use Rattle.overlap.specs.Chains.{bucket, chain, chain_of, Within, outside, Descends, Linked, clear_seen, all_off, LinkedOne, LinkedRoute}
use Rattle.overlap.proofs.Given.{overlap_sym}

-- ---- one chain

module _ (links : List ℕ) (d : Descends links) where
  pub goes_down : {e : ℕ} → 0 < e → get_or links (e / 4) 0 < e
  unfolding Descends
  goes_down {e} h = let q = d (e / 4) in omega arith

  enough : (ws : List ℕ) (n m e : ℕ) → e ≤ n → e ≤ m → chain ws links n e ≡ chain ws links m e
  unfolding chain
  enough ws zero zero e a b = refl
  enough ws zero (suc m) e a b = let z : e ≡ 0 = omega arith in rw z
  enough ws (suc n) zero e a b = let z : e ≡ 0 = omega arith in rw z
  enough ws (suc n) (suc m) e a b = go (eqb e 0) refl (λ h. let q = goes_down {e = e} h in enough ws n m (get_or links (e / 4) 0) (omega arith) (omega arith))
    where
      go : (t : Bool) → eqb e 0 ≡ t → (0 < e → chain ws links n (get_or links (e / 4) 0) ≡ chain ws links m (get_or links (e / 4) 0))
          → pick t [] (segment_of (drop e ws) ∷ chain ws links n (get_or links (e / 4) 0)) ≡ pick t [] (segment_of (drop e ws) ∷ chain ws links m (get_or links (e / 4) 0))
      go true p ih = refl
      go false p ih = let ne = eqb-false e 0 p in ap (λ (l : List Segment). segment_of (drop e ws) ∷ l) (ih (omega arith))

  chain_next : (ws : List ℕ) (e : ℕ) → 0 < e → chain_of ws links e ≡ segment_of (drop e ws) ∷ chain_of ws links (get_or links (e / 4) 0)
  unfolding chain_of chain
  chain_next ws zero h = let z : ⊥ = omega arith in absurd z
  chain_next ws (suc n) h =
      let q = goes_down {e = suc n} h in
      let ne : suc n ≡ 0 → ⊥ = λ z. omega arith in
      rw (ne_eqb (suc n) 0 ne) (ap (λ (l : List Segment). segment_of (drop (suc n) ws) ∷ l) (enough ws n (get_or links (suc n / 4) 0) (get_or links (suc n / 4) 0) (omega arith) (omega arith)))

  -- a store behind a chain leaves it as it is
  stored : (ws : List ℕ) (j v n e : ℕ) → e ≤ 4 * j - 1 → chain ws (set links j v) n e ≡ chain ws links n e
  unfolding chain Descends
  stored ws j v zero e h = refl
  stored ws j v (suc n) e h = go (eqb e 0) refl (let q = d (e / 4) in stored ws j v n (get_or links (e / 4) 0) (omega arith))
    where
      go : (t : Bool) → eqb e 0 ≡ t → chain ws (set links j v) n (get_or links (e / 4) 0) ≡ chain ws links n (get_or links (e / 4) 0)
          → pick t [] (segment_of (drop e ws) ∷ chain ws (set links j v) n (get_or (set links j v) (e / 4) 0)) ≡ pick t [] (segment_of (drop e ws) ∷ chain ws links n (get_or links (e / 4) 0))
      go true p ih = refl
      go false p ih =
          let ne = eqb-false e 0 p in
          let other : e / 4 ≡ j → ⊥ = λ z. omega arith in
          rw (get_or-set_other links j (e / 4) v 0 other, ih)

chain_none : (ws links : List ℕ) (e : ℕ) → e ≤ 0 → chain_of ws links e ≡ []
unfolding chain_of chain
chain_none ws links zero h = refl
chain_none ws links (suc e) h = let z : ⊥ = omega arith in absurd z

-- ---- the loop along a chain

pub record Following (ws links : List ℕ) (s : Segment) (head e : ℕ) : Type 0 where
  pub near : e ≤ head
  pub todo : clear s (chain_of ws links head) ≡ clear s (chain_of ws links e)

pub follow_start : {ws links : List ℕ} {s : Segment} {head : ℕ} → Following ws links s head head
follow_start = record { near = omega arith; todo = refl }

module _ {ws links : List ℕ} {s : Segment} {head e : ℕ} (p : Following ws links s head e) where
  module _ (d : Descends links) (pos : 0 < e) (r : Bool) (er : r ≡ overlap s (segment_of (drop e ws))) where
    pub follow_again : r ≡ false → Following ws links s head (get_or links (e / 4) 0)
    unfolding all
    follow_again z =
        let q = goes_down links d {e = e} pos in
        record { near = omega (arith, p.near); todo = p.todo ∙ rw (chain_next links d ws e pos, ← er, z) }

    pub follow_fails : r ≡ true → false ≡ clear s (chain_of ws links head)
    unfolding all
    follow_fails z = rw (p.todo, chain_next links d ws e pos, ← er, z)

  pub follow_ends : e ≤ 0 → true ≡ clear s (chain_of ws links head)
  unfolding all
  follow_ends z = rw (p.todo, chain_none ws links e z)

pub ruleset follow_steps = (follow_start, goes_down, follow_again, follow_fails, follow_ends)

-- ---- a chain between two numbers

within_none : (low top : ℕ) (l : List Segment) → l ≡ [] → Within low top l
unfolding Within
within_none low top [] e = tt
within_none low top (t ∷ l) e = let z : ◌≡◌ {A = ℕ} 0 1 = cc in absurd (omega arith)

within_wider : {low low' top top' : ℕ} → low' ≤ low → top ≤ top' → (l : List Segment) → Within low top l → Within low' top' l
unfolding Within
within_wider a b [] w = tt
within_wider a b (t ∷ l) w = (record { from = omega (arith, w.0.from); until = omega (arith, w.0.until) }, within_wider a b l w.1)

within_more : (low top : ℕ) (t : Segment) (l : List Segment) → Within low top l → Within (min low t.start) (max top t.end) (t ∷ l)
unfolding Within
within_more low top t l w =
    (record { from = min-le_right low t.start; until = le-max_right top t.end }, within_wider (min-le_left low t.start) (le-max_left top t.end) l w)

module _ (low top : ℕ) (s : Segment) where
  behind : top ≤ s.start → (l : List Segment) → Within low top l → clear s l ≡ true
  unfolding Within all
  behind h [] w = refl
  behind h (t ∷ l) w =
      let z : ltb s.start t.end ≡ false = le-ltb s.start t.end (omega (arith, w.0.until)) in
      rw (z, and-false (eqb s.source t.source)) (behind h l w.1)

  ahead : s.end ≤ low → (l : List Segment) → Within low top l → clear s l ≡ true
  unfolding Within all
  ahead h [] w = refl
  ahead h (t ∷ l) w =
      let z : ltb t.start s.end ≡ false = le-ltb t.start s.end (omega (arith, w.0.from)) in
      rw (z, and-false (eqb s.source t.source && ltb s.start t.end)) (ahead h l w.1)

  outside_clear : (l : List Segment) → Within low top l → outside s low top ≡ true → clear s l ≡ true
  unfolding outside
  outside_clear l w = go (leb top s.start) refl
    where
      go : (c : Bool) → leb top s.start ≡ c → pick c true (leb s.end low) ≡ true → clear s l ≡ true
      go true e z = behind (leb-true top s.start e) l w
      go false e z = ahead (leb-true s.end low z) l w

  pub clear_outside : (l : List Segment) → Within low top l → (r : Bool) → r ≡ outside s low top → r ≡ true → true ≡ clear s l
  clear_outside l w r er z = sym (outside_clear l w (sym er ∙ z))

-- ---- one segment more

pub head_fits : {ws heads links lows tops : List ℕ} {at n : ℕ} (b : ℕ) → Linked ws heads links lows tops at → at + 4 ≤ n → get_or heads b 0 + 4 ≤ n
head_fits b l h = let q = l.before b in omega arith

pub head_within : {ws heads links lows tops : List ℕ} {at : ℕ} (b : ℕ) → Linked ws heads links lows tops at → Within (get_or lows b 0) (get_or tops b 0) (chain_of ws links (get_or heads b 0))
head_within b l = l.within b

linked_later : {ws heads links lows tops : List ℕ} {a c : ℕ} → a ≤ c → Linked ws heads links lows tops a → Linked ws heads links lows tops c
linked_later h l =
    record {
      lanes = l.lanes;
      places = l.places;
      down = l.down;
      before = λ b. let q = l.before b in omega arith;
      low_lanes = l.low_lanes;
      top_lanes = l.top_lanes;
      within = l.within;
    }

bucket_small : (s : Segment) → bucket s < 4096
unfolding bucket
bucket_small s = omega arith

other_lane : (u t : Segment) → (bucket u ≡ bucket t → ⊥) → overlap u t ≡ false
unfolding bucket
other_lane u t h = go (eqb u.source t.source) refl
  where
    go : (c : Bool) → eqb u.source t.source ≡ c → (c && ltb u.start t.end && ltb t.start u.end) ≡ false
    go true e = absurd (h (ap (λ (x : ℕ). x % 4096) (eqb-true u.source t.source e)))
    go false e = refl

mix : (a b c d : Bool) → ((a && b) && (c && d)) ≡ ((a && c) && (b && d))
mix false b c d = refl
mix true true c d = refl
mix true false true d = refl
mix true false false d = refl

turn : (c s a : Bool) → ((c && s) && a) ≡ (s && (c && a))
turn true true a = refl
turn true false a = refl
turn false true a = refl
turn false false a = refl

module _ (ws heads links lows tops : List ℕ) (at : ℕ) (l : Linked ws heads links lows tops at) (pos : 0 < at) (small : at < 65536)
    (t : Segment) (et : t ≡ segment_of (drop at ws)) (b head : ℕ) (eb : b ≡ bucket t) (eh : head ≡ get_or heads b 0)
    (low top : ℕ) (el : low ≡ get_or lows b 0) (eu : top ≡ get_or tops b 0) where
  hh : length heads ≡ 4096
  hh = l.lanes

  hl : length links ≡ 16384
  hl = l.places

  earlier : head ≤ 4 * (at / 4) - 1
  earlier = let q = l.before b in omega arith

  descends : Descends (set links (at / 4) head)
  unfolding Descends
  descends j = go (eqb j (at / 4)) refl
    where
      go : (c : Bool) → eqb j (at / 4) ≡ c → get_or (set links (at / 4) head) j 0 ≤ 4 * j - 1
      go true e =
          let q : j ≡ at / 4 = eqb-true j (at / 4) e in
          let room : at / 4 < length links = omega (arith, hl) in
          rw (q, get_or-set_same links (at / 4) head 0 room) earlier
      go false e = rw (get_or-set_other links (at / 4) j head 0 (eqb-false j (at / 4) e)) (l.down j)

  same_chain : (e : ℕ) → e ≤ 4 * (at / 4) - 1 → chain_of ws (set links (at / 4) head) e ≡ chain_of ws links e
  unfolding chain_of
  same_chain e h = stored links l.down ws (at / 4) head e e h

  in_heads : b < length heads
  in_heads = let s = bucket_small t in omega (arith, hh)

  own_chain : chain_of ws (set links (at / 4) head) (get_or (set heads b at) b 0) ≡ t ∷ chain_of ws links head
  own_chain =
      let inl : at / 4 < length links = omega (arith, hl) in
      rw (get_or-set_same heads b at 0 in_heads, chain_next (set links (at / 4) head) descends ws at pos, get_or-set_same links (at / 4) head 0 inl, ← et)
      (ap (λ (m : List Segment). t ∷ m) (same_chain head earlier))

  other_chain : (c : ℕ) → (c ≡ b → ⊥) → chain_of ws (set links (at / 4) head) (get_or (set heads b at) c 0) ≡ chain_of ws links (get_or heads c 0)
  other_chain c ne =
      let q = l.before c in
      let le : get_or heads c 0 ≤ 4 * (at / 4) - 1 = omega arith in
      rw (get_or-set_other heads b c at 0 ne) (same_chain (get_or heads c 0) le)

  below : (c : ℕ) → get_or (set heads b at) c 0 ≤ at + 4 - 4
  below c = go (eqb c b) refl
    where
      go : (x : Bool) → eqb c b ≡ x → get_or (set heads b at) c 0 ≤ at + 4 - 4
      go true e = rw (eqb-true c b e, get_or-set_same heads b at 0 in_heads) (omega arith)
      go false e = let q = l.before c in rw (get_or-set_other heads b c at 0 (eqb-false c b e)) (omega arith)

  between : (c : ℕ)
      → Within (get_or (set lows b (min low t.start)) c 0) (get_or (set tops b (max top t.end)) c 0) (chain_of ws (set links (at / 4) head) (get_or (set heads b at) c 0))
  between c = go (eqb c b) refl
    where
      go : (x : Bool) → eqb c b ≡ x
          → Within (get_or (set lows b (min low t.start)) c 0) (get_or (set tops b (max top t.end)) c 0) (chain_of ws (set links (at / 4) head) (get_or (set heads b at) c 0))
      go true e =
          let s = bucket_small t in
          let in-lows : b < length lows = omega (arith, l.low_lanes) in
          let in-tops : b < length tops = omega (arith, l.top_lanes) in
          let w : Within low top (chain_of ws links head) = rw (el, eu, eh) (l.within b) in
          rw (eqb-true c b e, get_or-set_same lows b (min low t.start) 0 in-lows, get_or-set_same tops b (max top t.end) 0 in-tops, own_chain)
          (within_more low top t (chain_of ws links head) w)
      go false e =
          let ne = eqb-false c b e in
          rw (get_or-set_other lows b c (min low t.start) 0 ne, get_or-set_other tops b c (max top t.end) 0 ne, other_chain c ne) (l.within c)

  linked_next : Linked ws (set heads b at) (set links (at / 4) head) (set lows b (min low t.start)) (set tops b (max top t.end)) (at + 4)
  linked_next =
      record {
        lanes = length-set heads b at ∙ hh;
        places = length-set links (at / 4) head ∙ hl;
        down = descends;
        before = below;
        low_lanes = length-set lows b (min low t.start) ∙ l.low_lanes;
        top_lanes = length-set tops b (max top t.end) ∙ l.top_lanes;
        within = between;
      }

  one : (u : Segment) → clear_seen ws (set heads b at) (set links (at / 4) head) u ≡ (not (overlap u t) && clear_seen ws heads links u)
  unfolding clear_seen all
  one u = go (eqb (bucket u) b) refl
    where
      go : (c : Bool) → eqb (bucket u) b ≡ c
          → clear u (chain_of ws (set links (at / 4) head) (get_or (set heads b at) (bucket u) 0)) ≡ (not (overlap u t) && clear u (chain_of ws links (get_or heads (bucket u) 0)))
      go true e = rw (eqb-true (bucket u) b e, own_chain, eh)
      go false e =
          let ne = eqb-false (bucket u) b e in
          let off : overlap u t ≡ false = other_lane u t (λ z. ne (z ∙ sym eb)) in
          rw (other_chain (bucket u) ne, off)

  seen : (rest : List Segment) → all (clear_seen ws (set heads b at) (set links (at / 4) head)) rest ≡ (clear t rest && all (clear_seen ws heads links) rest)
  unfolding all
  seen [] = refl
  seen (u ∷ rest) =
      ap₂ ◌&&◌ (one u ∙ ap (λ (x : Bool). not x && clear_seen ws heads links u) (overlap_sym u t)) (seen rest)
      ∙ mix (not (overlap t u)) (clear_seen ws heads links u) (clear t rest) (all (clear_seen ws heads links) rest)

  module _ (r : Bool) (er : r ≡ clear t (chain_of ws links head)) where
    first : clear_seen ws heads links t ≡ r
    unfolding clear_seen
    first = rw (er, eh, eb)

    pub link_clear : (low' top' : ℕ) → low' ≡ min low t.start → top' ≡ max top t.end → r ≡ true
        → LinkedOne ws at heads links (set heads b at) (set links (at / 4) head) (set lows b low') (set tops b top') true
    unfolding all_off all apart
    link_clear low' top' ml mt z = record { linked = rw (ml, mt) linked_next; same = λ rest. rw (← et, first, z, seen rest) (turn (clear t rest) (all (clear_seen ws heads links) rest) (apart rest)) }

    pub link_met : r ≡ false → LinkedOne ws at heads links heads links lows tops false
    unfolding all_off all
    link_met z = record { linked = linked_later (omega arith) l; same = λ rest. rw (← et, first, z) }

-- ---- a route: i of its segments have been chained

pub record Linking (ws : List ℕ) (at left : ℕ) (heads links heads' links' lows' tops' : List ℕ) (i : ℕ) : Type 0 where
  pub linked : Linked ws heads' links' lows' tops' (at + 4 * i)
  pub todo : (rest : List Segment) → all_off ws heads' links' (segments_of (left - i) (drop (at + 4 * i) ws) ++ rest) ≡ all_off ws heads links (segments_of left (drop at ws) ++ rest)

pub linking_start : {ws heads links lows tops : List ℕ} {at left : ℕ} → Linked ws heads links lows tops at → Linking ws at left heads links heads links lows tops 0
linking_start {ws} {heads} {links} {lows} {tops} {at} {left} l =
    let z : at + 4 * 0 ≡ at = omega arith in
    let y : left - 0 ≡ left = omega arith in
    record { linked = rw z l; todo = λ rest. rw (z, y) }

module _ {ws heads links heads₁ links₁ lows₁ tops₁ : List ℕ} {at left i : ℕ} (p : Linking ws at left heads links heads₁ links₁ lows₁ tops₁ i) where
  module _ {heads₂ links₂ lows₂ tops₂ : List ℕ} (more : i < left) (r : Bool) (o : LinkedOne ws (at + 4 * i) heads₁ links₁ heads₂ links₂ lows₂ tops₂ r) where
    step : (rest : List Segment) → (r && all_off ws heads₂ links₂ (segments_of (left - (i + 1)) (drop (at + 4 * (i + 1)) ws) ++ rest)) ≡ all_off ws heads links (segments_of left (drop at ws) ++ rest)
    step rest =
        let z : left - i - 1 ≡ left - (i + 1) = omega arith in
        let y : at + 4 * i + 4 ≡ at + 4 * (i + 1) = omega arith in
        o.same (segments_of (left - (i + 1)) (drop (at + 4 * (i + 1)) ws) ++ rest) ∙ rw (segments_next ws (at + 4 * i) (left - i) (omega arith), z, y) at (p.todo rest)

    pub linking_again : r ≡ true → Linking ws at left heads links heads₂ links₂ lows₂ tops₂ (i + 1)
    linking_again z = record { linked = linked_later (omega arith) o.linked; todo = λ rest. ap (λ (x : Bool). x && all_off ws heads₂ links₂ (segments_of (left - (i + 1)) (drop (at + 4 * (i + 1)) ws) ++ rest)) (sym z) ∙ step rest }

    pub linking_fails : r ≡ false → LinkedRoute ws at left heads links heads₂ links₂ lows₂ tops₂ false
    linking_fails z =
        record {
          linked = linked_later (omega arith) o.linked;
          same = λ rest. ap (λ (x : Bool). x && all_off ws heads₂ links₂ (segments_of (left - (i + 1)) (drop (at + 4 * (i + 1)) ws) ++ rest)) (sym z) ∙ step rest;
        }

  pub linking_ends : i ≤ left → left ≤ i → LinkedRoute ws at left heads links heads₁ links₁ lows₁ tops₁ true
  linking_ends low z = record { linked = linked_later (omega arith) p.linked; same = λ rest. sym (rw (segments_none ws (at + 4 * i) (left - i) (omega arith)) at (sym (p.todo rest))) }

-- ---- all routes

-- i of them have been chained
pub record AllLinked (ws : List ℕ) (at routes : ℕ) (heads links lows tops : List ℕ) (place i : ℕ) : Type 0 where
  pub parsed : Parsed ws (routes - i) place
  pub linked : Linked ws heads links lows tops place
  pub todo : all_off ws heads links (flat (routes_of (routes - i) (drop place ws))) ≡ apart (flat (routes_of routes (drop at ws)))

get_d_zeros : (n j : ℕ) → get_or {A = ℕ} (replicate n 0) j 0 ≡ 0
get_d_zeros zero j = refl
get_d_zeros (suc n) zero = refl
get_d_zeros (suc n) (suc j) = get_d_zeros n j

zero_at : (l : List ℕ) (n j : ℕ) → l ≡ replicate n 0 → get_or l j 0 ≡ 0
zero_at l n j q = rw q (get_d_zeros n j)

all_empty : (ws heads links : List ℕ) → heads ≡ replicate 4096 0 → (b : ℕ) → chain_of ws links (get_or heads b 0) ≡ []
all_empty ws heads links e b = let z : get_or heads b 0 ≡ 0 = zero_at heads 4096 b e in chain_none ws links (get_or heads b 0) (omega arith)

all_clear : (ws heads links : List ℕ) → heads ≡ replicate 4096 0 → (l : List Segment) → all (clear_seen ws heads links) l ≡ true
unfolding all clear_seen
all_clear ws heads links e [] = refl
all_clear ws heads links e (u ∷ l) = rw (all_empty ws heads links e (bucket u)) (all_clear ws heads links e l)

pub all_linked_start : {ws heads links lows tops : List ℕ} {at routes : ℕ} → Parsed ws routes at
    → heads ≡ replicate 4096 0 → links ≡ replicate 16384 0 → lows ≡ replicate 4096 18446744073709551615 → tops ≡ replicate 4096 0
    → AllLinked ws at routes heads links lows tops at 0
unfolding Descends all_off
all_linked_start {ws} {heads} {links} {lows} {tops} {at} {routes} p e f g h =
    let all : routes - 0 ≡ routes = omega arith in
    record {
      parsed = rw all p;
      linked =
          record {
            lanes = rw e (length-replicate {A = ℕ} 4096 0);
            places = rw f (length-replicate {A = ℕ} 16384 0);
            down = λ j. let z : get_or links j 0 ≡ 0 = zero_at links 16384 j f in omega arith;
            before = λ b. let z : get_or heads b 0 ≡ 0 = zero_at heads 4096 b e in omega arith;
            low_lanes = rw g (length-replicate {A = ℕ} 4096 18446744073709551615);
            top_lanes = rw h (length-replicate {A = ℕ} 4096 0);
            within = λ b. within_none (get_or lows b 0) (get_or tops b 0) (chain_of ws links (get_or heads b 0)) (all_empty ws heads links e b);
          };
      todo = rw (all, all_clear ws heads links e (flat (routes_of routes (drop at ws))));
    }

module _ {ws heads links lows tops : List ℕ} {at routes place i : ℕ} (p : AllLinked ws at routes heads links lows tops place i) where
  pub all_linked_route : i < routes → place + 1 + 4 * get_or ws place 0 ≤ length ws
  all_linked_route h = parsed_route p.parsed (omega arith)

  pub all_linked_here : Linked ws heads links lows tops (place + 1)
  all_linked_here = linked_later (omega arith) p.linked

  module _ {heads₁ links₁ lows₁ tops₁ : List ℕ} (more : i < routes) (k : ℕ) (c : RouteAt ws place k) (r : Bool) (o : LinkedRoute ws (place + 1) k heads links heads₁ links₁ lows₁ tops₁ r) where
    fewer : routes - i - 1 ≡ routes - (i + 1)
    fewer = omega arith

    after : (r && all_off ws heads₁ links₁ (flat (routes_of (routes - (i + 1)) (drop (place + 1 + 4 * k) ws)))) ≡ apart (flat (routes_of routes (drop at ws)))
    after = o.same (flat (routes_of (routes - (i + 1)) (drop (place + 1 + 4 * k) ws))) ∙ sym (rw (routes_next ws place (routes - i) k (omega arith) c.count, fewer) at (sym p.todo))

    pub all_linked_again : r ≡ true → AllLinked ws at routes heads₁ links₁ lows₁ tops₁ (place + 1 + 4 * k) (i + 1)
    all_linked_again z =
        record {
          parsed = rw (← fewer) (parsed_next p.parsed (omega arith) c.count);
          linked = o.linked;
          todo = ap (λ (x : Bool). x && all_off ws heads₁ links₁ (flat (routes_of (routes - (i + 1)) (drop (place + 1 + 4 * k) ws)))) (sym z) ∙ after;
        }

    pub all_linked_fails : r ≡ false → false ≡ apart (flat (routes_of routes (drop at ws)))
    all_linked_fails z = ap (λ (x : Bool). x && all_off ws heads₁ links₁ (flat (routes_of (routes - (i + 1)) (drop (place + 1 + 4 * k) ws)))) (sym z) ∙ after

  pub all_linked_ends : routes ≤ i → true ≡ apart (flat (routes_of routes (drop at ws)))
  unfolding all_off all apart
  all_linked_ends z = rw (routes_none (drop place ws) (routes - i) (omega arith)) at p.todo
