-- The normal form written: word by word into a room whose other words stay.
use Prim.Native.Nat.{ℕ, zero, suc, ◌+◌, ◌*◌, ◌-◌, ◌≤◌, ◌<◌}
use native.Mathlib.Omega.{arith}
use native.Mathlib.Numerals.{add-one, add-four}
use mathlib.Core.Path.{◌≡◌, refl, sym, ap, ◌∙◌}
use mathlib.Core.Bool.{Bool, true, false}
use mathlib.Core.List.{List, [], ◌∷◌, ◌++◌, map}
use lib.ListN.{length, drop, get_or, set, length-map, length-append}
use lib.Seq.{sets, length-sets, set_comm}
use mir.Val.{bool_byte}
use Rattle.evaluate.specs.declared.Segment.{Segment}
use Rattle.evaluate.specs.Segments.{Route, normalize}
use Rattle.evaluate.specs.Words.{bit, segment_words, encode}
use Rattle.words.specs.declared.Cursor.{Cursor}
use Rattle.words.specs.Inner.{routes_of, Parsed, normal_of, normal_from, Reached, route_head, RoutePut, normal_routes, RoutesPut, NormalPut}
use Rattle.words.proofs.Reading.{segments_none, routes_none, routes_next, parsed_route, parsed_next}

pub byte_bit : (b : Bool) → bool_byte b ≡ bit b
byte_bit true = refl
byte_bit false = refl

-- ---- words put one behind the other

pub sets_append : (us vs l : List ℕ) (i : ℕ) → sets l i (us ++ vs) ≡ sets (sets l i us) (i + length us) vs
sets_append [] vs l i = let z : i + 0 ≡ i = omega arith in rw z
sets_append (u ∷ us) vs l i = let z : i + suc (length us) ≡ suc i + length us = omega arith in sets_append us vs (set l i u) (suc i) ∙ rw z

set_under : (vs l : List ℕ) (i j a : ℕ) → i < j → set (sets l j vs) i a ≡ sets (set l i a) j vs
set_under [] l i j a h = refl
set_under (v ∷ vs) l i j a h =
    let n : j ≡ i → ⊥ = λ e. omega arith in
    set_under vs (set l j v) i (suc j) a (omega arith) ∙ ap (λ (x : List ℕ). sets x (suc j) vs) (set_comm l j i v a n)

pub segment_words_length : (r : Route) → length (segment_words r) ≡ 4 * length r
segment_words_length [] = refl
segment_words_length (s ∷ r) = let e = segment_words_length r in omega arith

normal_none : (ws : List ℕ) (at n : ℕ) → n ≤ 0 → normal_of ws at n ≡ []
unfolding normal_of
normal_none ws at n h = rw (segments_none ws at n h)

-- ---- a route

pub record Putting (ws : List ℕ) (to at left : ℕ) (xs ys : List ℕ) (next count place n : ℕ) : Type 0 where
  pub far : next ≤ place
  pub same : place + 4 * n ≡ at + 4 * left
  pub long : length ys ≡ length xs
  pub rest : sets ys next (segment_words (normal_of ws place n)) ≡ sets xs (to + 1) (segment_words (normal_of ws at left))
  pub counted : count + length (normal_of ws place n) ≡ length (normal_of ws at left)
  pub after : next + 4 * length (normal_of ws place n) ≡ to + 1 + 4 * length (normal_of ws at left)

pub putting_start : {ws xs : List ℕ} {to at left : ℕ} → to < at → Putting ws to at left xs xs (to + 1) 0 at left
putting_start h = record { far = omega arith; same = refl; long = refl; rest = refl; counted = omega arith; after = refl }

module _ {ws xs ys : List ℕ} {to at left next count place n : ℕ} (p : Putting ws to at left xs ys next count place n) where
  pub putting_more : {zs : List ℕ} {c : Cursor} (s : Segment) → Reached ws place n c → s ≡ c.segment → zs ≡ sets ys next (segment_words (s ∷ []))
      → Putting ws to at left xs zs (next + 4) (count + 1) c.at c.left
  unfolding normal_from
  putting_more {zs} {c} s r f e =
      let m : normal_of ws place n ≡ s ∷ normal_of ws c.at c.left = r.normal ∙ rw f in
      let o = p.counted in
      let a = p.after in
      let l : length (normal_of ws place n) ≡ suc (length (normal_of ws c.at c.left)) = ap length m in
      record {
        far = omega (arith, p.far, r.further);
        same = r.same ∙ p.same;
        long = rw (e, length-sets ys next (segment_words (s ∷ []))) p.long;
        rest = rw (e, add-four) (ap (λ (t : Route). sets ys next (segment_words t)) (sym m)) ∙ p.rest;
        counted = omega arith;
        after = omega arith;
      }

  pub putting_done : n ≤ 0 → RoutePut ws to at left xs (set ys to count) next
  putting_done z =
      let e : normal_of ws place n ≡ [] = normal_none ws place n z in
      let w : ys ≡ sets xs (to + 1) (segment_words (normal_of ws at left)) = rw e at p.rest in
      let l : length (normal_of ws place n) ≡ 0 = ap length e in
      let o = p.counted in
      let a = p.after in
      let c : count ≡ length (normal_of ws at left) = omega arith in
      record {
        words = rw (w, c, add-one) (set_under (segment_words (normal_of ws at left)) xs to (suc to) (length (normal_of ws at left)) (omega arith));
        after = omega arith;
        few = omega (arith, p.far, p.same);
      }

-- ---- the assignment

pub routes_length : (n : ℕ) (ws : List ℕ) → length (routes_of n ws) ≡ n
unfolding routes_of
routes_length zero ws = refl
routes_length (suc n) ws = ap suc (routes_length n _)

-- i of N routes have been put
pub record Encoding (ws : List ℕ) (N : ℕ) (xs ys : List ℕ) (to at i : ℕ) : Type 0 where
  pub parsed : Parsed ws (N - i) at
  pub far : to ≤ at
  pub long : length ys ≡ length xs
  pub rest : sets ys to (normal_routes ws (N - i) at) ≡ sets xs 2 (normal_routes ws N 2)
  pub after : to + length (normal_routes ws (N - i) at) ≡ 2 + length (normal_routes ws N 2)

pub encoding_start : {ws xs : List ℕ} {N : ℕ} → Parsed ws N 2 → Encoding ws N xs xs 2 2 0
encoding_start {ws} {xs} {N} p =
    let z : N - 0 ≡ N = omega arith in
    record { parsed = rw z p; far = omega arith; long = refl; rest = rw z; after = rw z }

pub encoding_route : {ws xs ys : List ℕ} {N to at i : ℕ} → Encoding ws N xs ys to at i → i < N → at + 1 + 4 * get_or ws at 0 ≤ length ws
encoding_route p h = parsed_route p.parsed (omega arith)

module _ {ws xs ys : List ℕ} {N to at i : ℕ} (p : Encoding ws N xs ys to at i) (k : ℕ) (more : i < N) (e : k ≡ get_or ws at 0) where
  one : N - i - 1 ≡ N - (i + 1)
  one = omega arith

  here : normal_routes ws (N - i) at ≡ route_head (normal_of ws (at + 1) k) ++ normal_routes ws (N - (i + 1)) (at + 1 + 4 * k)
  unfolding normal_routes normal_of
  here = rw (routes_next ws at (N - i) k (omega arith) e, one)

  pub encoding_more : {zs : List ℕ} {next : ℕ} → RoutePut ws to (at + 1) k ys zs next → Encoding ws N xs zs next (at + (1 + 4 * k)) (i + 1)
  encoding_more {zs} {next} r =
      let n = N - (i + 1) in
      let y : at + (1 + 4 * k) ≡ at + 1 + 4 * k = omega arith in
      let l = segment_words_length (normal_of ws (at + 1) k) in
      let q : to + length (route_head (normal_of ws (at + 1) k)) ≡ next = rw r.after (omega arith) in
      let a = length-append (route_head (normal_of ws (at + 1) k)) (normal_routes ws n (at + 1 + 4 * k)) in
      let b : length (normal_routes ws (N - i) at) ≡ length (route_head (normal_of ws (at + 1) k) ++ normal_routes ws n (at + 1 + 4 * k)) = ap length here in
      let sum : to + length (route_head (normal_of ws (at + 1) k)) + length (normal_routes ws n (at + 1 + 4 * k)) ≡ to + length (normal_routes ws (N - i) at) = omega arith in
      rw y (record {
        parsed = rw (← one) (parsed_next p.parsed (omega arith) e);
        far = omega (arith, r.few);
        long = rw (r.words, length-sets ys to (route_head (normal_of ws (at + 1) k))) p.long;
        rest = rw (r.words, ← q, ← sets_append (route_head (normal_of ws (at + 1) k)) (normal_routes ws n (at + 1 + 4 * k)) ys to, ← here) p.rest;
        after = rw (← q) (sum ∙ p.after);
      })

nothing_left : (ws : List ℕ) (n at : ℕ) → n ≤ 0 → normal_routes ws n at ≡ []
unfolding normal_routes
nothing_left ws n at z = rw (routes_none (drop at ws) n z)

pub encoding_done : {ws xs ys : List ℕ} {N to at i : ℕ} → Encoding ws N xs ys to at i → N ≤ i → RoutesPut ws N xs ys to
encoding_done {ws} {xs} {ys} {N} {to} {at} {i} p z =
    let e : normal_routes ws (N - i) at ≡ [] = nothing_left ws (N - i) at (omega arith) in
    let l : to + 0 ≡ 2 + length (normal_routes ws N 2) = rw e at p.after in
    record { words = rw e at p.rest; after = omega arith; few = omega (arith, p.far, p.parsed.inside) }

pub ruleset encoding = (encoding_start, encoding_route, encoding_more, encoding_done)

pub normal_put : {ws xs ys : List ℕ} {r : ℕ} → RoutesPut ws (get_or ws 1 0) (set (set xs 0 (get_or ws 0 0)) 1 (get_or ws 1 0)) ys r → NormalPut ws xs ys r
unfolding normal_routes encode
normal_put {ws} {xs} {ys} {r} p =
    let c : length (map normalize (routes_of (get_or ws 1 0) (drop 2 ws))) ≡ get_or ws 1 0 = length-map (routes_of (get_or ws 1 0) (drop 2 ws)) normalize ∙ routes_length (get_or ws 1 0) (drop 2 ws) in
    record { words = p.words ∙ rw c; long = p.after ∙ omega arith; few = p.few }
