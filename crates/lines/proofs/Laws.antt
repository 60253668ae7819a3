-- Laws of the sheet's lines.
use Prim.Native.Nat.{ℕ, zero, suc, ◌+◌, ◌-◌, ◌*◌, ◌≤◌, ◌<◌, min}
use native.Mathlib.Decide.{dec_lt}
use native.Mathlib.Omega.{arith}
use mathlib.Core.Path.{◌≡◌, refl, sym, ap, ◌∙◌, subst}
use mathlib.Core.Bool.{Bool, true, false}
use mathlib.Core.List.{List, [], ◌∷◌, ◌++◌, append_assoc}
use lib.Dec.{eqb}
use lib.ListN.{length, drop, get_or, length-drop, drop_of_length-le, get_or-eq_default}
use lib.Seq.{drop-cons, drop-drop, get_or-drop}
use borrow.Author.Tests.{eq-eqb, ne_eqb}
use Rattle.ground.specs.Lists.{pick}
use borrow.Author.Rules.{Fits-under}
use mir.Val.{Fits}
use mir.Syntax.{w64}
use Rattle.image.specs.declared.Header.{Header}
use Rattle.image.specs.declared.Family.{Family}
use Rattle.image.specs.Image.{paths_of}
use Rattle.image.specs.Inner.{Groups}
use Rattle.image.specs.Panel.{Panel, panel_of, paths_at}
use Rattle.image.proofs.Laws.{panel_families, families_length}
use Rattle.panel.specs.Inner.{Accepted}
use Rattle.evaluate.specs.declared.Segment.{Segment}
use Rattle.evaluate.specs.Properties.{Each}
use Rattle.evaluate.specs.Segments.{Route, Assignment}
use Rattle.search.specs.declared.SearchReply.{SearchReply}
use Rattle.search.specs.Sheet.{status_text, status_bytes, refused_text, work_text, evaluations_text, natives_text, donors_text, non_native_text, mixed_text, mixed_identity_text, switches_text, families_text, optima_text, foreign_text, route_text, decimal, line, field, turn_text, tally_lines, route_lines, routes_lines, refusal_line, foreign_in, foreign_on, foreign}
use Rattle.words.specs.Inner.{segment_of, segments_of, routes_of, assignment_of}
use Rattle.words.proofs.Reading.{segments_none, segments_next, routes_none, routes_next}
use Rattle.routes.proofs.Laws.{paths_are}
use Rattle.text.specs.Inner.{Put}
use Rattle.text.proofs.Laws.{put_then, word_then, Onto, onto_start, onto_piece, onto_end}
use Rattle.lines.specs.Inner.{status_from, tally_in, slot_text, segment_line, Begin, Readable, Low, Few, Incumbent, incumbent_text, sheet_of}

-- ---- the status

pub status_put : (status : ℕ) (bytes : List ℕ) {xs ys zs us : List ℕ} {at n m k : ℕ} → bytes ≡ status_bytes (status_from status) → Put (status_text ++ (32 ∷ [])) xs at ys n → Put bytes ys n zs m → Put (10 ∷ []) zs m us k
    → Put (line (status_text ∷ status_bytes (status_from status) ∷ [])) xs at us k
status_put status bytes e p q r = rw (← e) (word_then status_text (bytes ++ (10 ∷ [])) 32 p (put_then bytes (10 ∷ []) q r))

pub refusal_put : (number place : ℕ) {xs ys zs us : List ℕ} {at n m k : ℕ} → Put (refused_text ++ (32 ∷ [])) xs at ys n → Put (decimal number ++ (32 ∷ [])) ys n zs m → Put (decimal place ++ (10 ∷ [])) zs m us k
    → Put (refusal_line (record { number = number; place = place })) xs at us k
unfolding refusal_line
refusal_put number place p q r = word_then refused_text (decimal number ++ (32 ∷ (decimal place ++ (10 ∷ [])))) 32 p (word_then (decimal number) (decimal place ++ (10 ∷ [])) 32 q r)

-- ---- the counters

pub tally_put : (r : SearchReply) {x0 x1 x2 x3 x4 x5 x6 x7 x8 x9 : List ℕ} {n0 n1 n2 n3 n4 n5 n6 n7 n8 n9 : ℕ}
    → Put (field work_text r.work) x0 n0 x1 n1
    → Put (field evaluations_text r.evaluations) x1 n1 x2 n2
    → Put (field natives_text r.natives) x2 n2 x3 n3
    → Put (field donors_text r.donors) x3 n3 x4 n4
    → Put (field non_native_text r.non_native) x4 n4 x5 n5
    → Put (field mixed_text r.mixed) x5 n5 x6 n6
    → Put (field mixed_identity_text r.mixed_identity) x6 n6 x7 n7
    → Put (field switches_text r.switches) x7 n7 x8 n8
    → Put (field families_text r.families) x8 n8 x9 n9
    → Put (tally_lines (tally_in r)) x0 n0 x9 n9
tally_put r a b c d e f g h i = put_then _ _ a (put_then _ _ b (put_then _ _ c (put_then _ _ d (put_then _ _ e (put_then _ _ f (put_then _ _ g (put_then _ _ h i)))))))

-- ---- segments

pub slot_put : (slot : ℕ) {xs ys zs : List ℕ} {at n m : ℕ} → Put (route_text ++ (32 ∷ [])) xs at ys n → Put (decimal slot ++ (32 ∷ [])) ys n zs m → Put (slot_text slot) xs at zs m
slot_put slot p q = word_then route_text (decimal slot ++ (32 ∷ [])) 32 p q

pub segment-put : (slot : ℕ) (s : Segment) {xs bs cs ds es fs : List ℕ} {at a b c d e : ℕ} → Put (slot_text slot) xs at bs a → Put (decimal s.source ++ (32 ∷ [])) bs a cs b → Put (decimal s.start ++ (32 ∷ [])) cs b ds c
    → Put (decimal s.end ++ (32 ∷ [])) ds c es d → Put (turn_text s.reverse ++ (10 ∷ [])) es d fs e → Put (segment_line slot s) xs at fs e
segment-put slot s {xs} {bs} {cs} {ds} {es} {fs} {at} {a} {b} {c} {d} {e} p q r t u =
    let rest : List ℕ = decimal s.source ++ (32 ∷ (decimal s.start ++ (32 ∷ (decimal s.end ++ (32 ∷ (turn_text s.reverse ++ (10 ∷ []))))))) in
    let tail : Put rest bs a fs e
    = word_then (decimal s.source) _ 32 q (word_then (decimal s.start) _ 32 r (word_then (decimal s.end) (turn_text s.reverse ++ (10 ∷ [])) 32 t u)) in
    subst (λ (l : List ℕ). Put l xs at fs e) (append_assoc route_text (32 ∷ (decimal slot ++ (32 ∷ []))) rest ∙ ap (λ (l : List ℕ). route_text ++ (32 ∷ l)) (append_assoc (decimal slot) (32 ∷ []) rest))
    (put_then (slot_text slot) rest p tail)

pub turn_back : (r : Bool) {xs ys : List ℕ} {at n : ℕ} → r ≡ true → Put (45 ∷ 10 ∷ []) xs at ys n → Put (turn_text r ++ (10 ∷ [])) xs at ys n
turn_back r e p = rw e p

pub turn_on : (r : Bool) {xs ys : List ℕ} {at n : ℕ} → r ≡ false → Put (43 ∷ 10 ∷ []) xs at ys n → Put (turn_text r ++ (10 ∷ [])) xs at ys n
turn_on r e p = rw e p

-- ---- a route's lines

-- the segments from i on
segments_on : (ws : List ℕ) (from left i : ℕ) → i < left → segments_of (left - i) (drop (from + 4 * i) ws) ≡ segment_of (drop (from + 4 * i) ws) ∷ segments_of (left - (i + 1)) (drop (from + 4 * (i + 1)) ws)
segments_on ws from left i h =
    let n : left - i - 1 ≡ left - (i + 1) = omega arith in
    let place : from + 4 * i + 4 ≡ from + 4 * (i + 1) = omega arith in
    rw (segments_next ws (from + 4 * i) (left - i) (omega arith), n, place)

segments_all : (ws : List ℕ) (from left : ℕ) → segments_of (left - 0) (drop (from + 4 * 0) ws) ≡ segments_of left (drop from ws)
segments_all ws from left =
    let n : left - 0 ≡ left = omega arith in
    let place : from + 4 * 0 ≡ from = omega arith in
    rw (n, place)

-- those from i on are still to be put
pub record Writing (slot : ℕ) (ws : List ℕ) (from left : ℕ) (xs : List ℕ) (at i : ℕ) (ys : List ℕ) (to : ℕ) : Type 0 where
  pub onto : Onto (route_lines slot (segments_of left (drop from ws))) xs at (route_lines slot (segments_of (left - i) (drop (from + 4 * i) ws))) ys to

pub writing_start : (slot : ℕ) (ws : List ℕ) (from left : ℕ) (xs : List ℕ) (at : ℕ) → Writing slot ws from left xs at 0 xs at
writing_start slot ws from left xs at = record { onto = rw (segments_all ws from left) (onto_start (route_lines slot (segments_of left (drop from ws))) xs at) }

module _ {slot : ℕ} {ws : List ℕ} {from left : ℕ} {xs : List ℕ} {at i : ℕ} {ys : List ℕ} {to : ℕ} (w : Writing slot ws from left xs at i ys to) where
  pub writing_next : (s : Segment) {zs : List ℕ} {m : ℕ} → i < left → s ≡ segment_of (drop (from + 4 * i) ws) → Put (segment_line slot s) ys to zs m → Writing slot ws from left xs at (i + 1) zs m
  unfolding route_lines
  writing_next s {zs} {m} h e p =
      let rest : List ℕ = route_lines slot (segments_of (left - (i + 1)) (drop (from + 4 * (i + 1)) ws)) in
      let q : route_lines slot (segments_of (left - i) (drop (from + 4 * i) ws)) ≡ segment_line slot s ++ rest = rw (segments_on ws from left i h, ← e) in
      record { onto = onto_piece (segment_line slot s) rest (subst (λ (l : List ℕ). Onto (route_lines slot (segments_of left (drop from ws))) xs at l ys to) q w.onto) p }

  pub writing_ends : left ≤ i → Put (route_lines slot (segments_of left (drop from ws))) xs at ys to
  unfolding route_lines
  writing_ends h = onto_end (subst (λ (r : Route). Onto (route_lines slot (segments_of left (drop from ws))) xs at (route_lines slot r) ys to) (segments_none ws (from + 4 * i) (left - i) (omega arith)) w.onto)

-- ---- words that begin with routes

readable_step : (ws : List ℕ) (at n k : ℕ) → 0 < n → k ≡ get_or ws at 0 → Begin n (drop at ws) → (1 + 4 * k ≤ length (drop at ws)) × Begin (n - 1) (drop (at + 1 + 4 * k) ws)
unfolding Begin
readable_step ws at zero k h e u = let z : ⊥ = omega arith in absurd z
readable_step ws at (suc n) k h e u =
    let m : suc n - 1 ≡ n = omega arith in
    let z : at + 0 ≡ at = omega arith in
    let f : get_or (drop at ws) 0 0 ≡ k = get_or-drop at ws 0 0 ∙ rw z (sym e) in
    let q : at + (1 + 4 * k) ≡ at + 1 + 4 * k = omega arith in
    let past : drop (1 + 4 * get_or (drop at ws) 0 0) (drop at ws) ≡ drop (at + 1 + 4 * k) ws = rw f (drop-drop (1 + 4 * k) at ws ∙ rw q) in
    (subst (λ (x : ℕ). 1 + 4 * x ≤ length (drop at ws)) f u.0, rw m (subst (λ (l : List ℕ). Begin n l) past u.1))

module _ {ws : List ℕ} {n at k : ℕ} (r : Readable ws n at) (pos : 0 < n) (e : k ≡ get_or ws at 0) where
  readable_inside : at + 1 + 4 * k ≤ length ws
  readable_inside =
      let u : 1 + 4 * k ≤ length ws - at = rw (← length-drop at ws) (readable_step ws at n k pos e r.all).0 in
      omega (arith, r.inside)

  readable_next : Readable ws (n - 1) (at + 1 + 4 * k)
  readable_next = record { inside = readable_inside; all = (readable_step ws at n k pos e r.all).1 }

-- ---- the lines of all routes

pub record Listing (ws : List ℕ) (routes : ℕ) (xs : List ℕ) (at place slot : ℕ) (ys : List ℕ) (to : ℕ) : Type 0 where
  pub readable : Readable ws (routes - slot) place
  pub onto : Onto (routes_lines 0 (routes_of routes (drop 2 ws))) xs at (routes_lines slot (routes_of (routes - slot) (drop place ws))) ys to

pub listing_start : (ws : List ℕ) (routes : ℕ) (xs : List ℕ) (at : ℕ) → Readable ws routes 2 → Listing ws routes xs at 2 0 xs at
listing_start ws routes xs at r =
    let z : routes - 0 ≡ routes = omega arith in
    record { readable = rw z r; onto = rw z (onto_start (routes_lines 0 (routes_of routes (drop 2 ws))) xs at) }

module _ {ws : List ℕ} {routes : ℕ} {xs : List ℕ} {at place slot : ℕ} {ys : List ℕ} {to : ℕ} (w : Listing ws routes xs at place slot ys to) where
  pub listing_route : slot < routes → place + 1 + 4 * get_or ws place 0 ≤ length ws
  listing_route lt = let pos : 0 < routes - slot = omega arith in readable_inside w.readable pos refl

  pub listing_next : (k : ℕ) {zs : List ℕ} {m : ℕ} → slot < routes → k ≡ get_or ws place 0 → Put (route_lines slot (segments_of k (drop (place + 1) ws))) ys to zs m
      → Listing ws routes xs at (place + (1 + 4 * k)) (slot + 1) zs m
  unfolding routes_lines
  listing_next k {zs} {m} lt e p =
      let pos : 0 < routes - slot = omega arith in
      let less : routes - slot - 1 ≡ routes - (slot + 1) = omega arith in
      let one : slot + 1 ≡ suc slot = omega arith in
      let past : place + 1 + 4 * k ≡ place + (1 + 4 * k) = omega arith in
      let rest : List ℕ = routes_lines (slot + 1) (routes_of (routes - (slot + 1)) (drop (place + (1 + 4 * k)) ws)) in
      let q : routes_lines slot (routes_of (routes - slot) (drop place ws)) ≡ route_lines slot (segments_of k (drop (place + 1) ws)) ++ rest
      = rw (routes_next ws place (routes - slot) k pos e, less, past, one) in
      record {
        readable = rw (← past, ← less) (readable_next w.readable pos e);
        onto = onto_piece (route_lines slot (segments_of k (drop (place + 1) ws))) rest
            (subst (λ (l : List ℕ). Onto (routes_lines 0 (routes_of routes (drop 2 ws))) xs at l ys to) q w.onto) p;
      }

  pub listing_ends : routes ≤ slot → Put (routes_lines 0 (routes_of routes (drop 2 ws))) xs at ys to
  unfolding routes_lines
  listing_ends z =
      let none : routes - slot ≤ 0 = omega arith in
      onto_end (subst (λ (r : List Route). Onto (routes_lines 0 (routes_of routes (drop 2 ws))) xs at (routes_lines slot r) ys to) (routes_none (drop place ws) (routes - slot) none) w.onto)

-- ---- foreign bases

pub foreign_none : (s : Segment) (target : ℕ) → s.source ≡ target → Few (pick (eqb s.source target) 0 (s.end - s.start)) 1 0
foreign_none s target e = record { is = rw (eq-eqb s.source target e); small = omega arith }

pub foreign_some : (s : Segment) (target r : ℕ) → Low s → (s.source ≡ target → ⊥) → r ≡ s.end - s.start → Few (pick (eqb s.source target) 0 (s.end - s.start)) 1 r
foreign_some s target r l e q = record { is = q ∙ rw (ne_eqb s.source target e); small = omega arith }

-- those from i on are still to be added
pub record Summing (target : ℕ) (ws : List ℕ) (at left i sum : ℕ) : Type 0 where
  pub low : Each Low (segments_of (left - i) (drop (at + 4 * i) ws))
  pub todo : foreign_in target (segments_of left (drop at ws)) ≡ sum + foreign_in target (segments_of (left - i) (drop (at + 4 * i) ws))
  pub few : sum ≤ 4294967295 * i

pub summing_start : (target : ℕ) (ws : List ℕ) (at left : ℕ) → Each Low (segments_of left (drop at ws)) → Summing target ws at left 0 0
summing_start target ws at left l = record { low = rw (segments_all ws at left) l; todo = rw (segments_all ws at left) (omega arith); few = omega arith }

module _ {target : ℕ} {ws : List ℕ} {at left i sum : ℕ} (w : Summing target ws at left i sum) where
  module _ (s : Segment) (h : i < left) (e : s ≡ segment_of (drop (at + 4 * i) ws)) where
    split_low : Low s × Each Low (segments_of (left - (i + 1)) (drop (at + 4 * (i + 1)) ws))
    split_low = rw e (subst (λ (r : Route). Each Low r) (segments_on ws at left i h) w.low)

    pub summing_low : Low s
    summing_low = split_low.0

    module _ (r : ℕ) (f : Few (pick (eqb s.source target) 0 (s.end - s.start)) 1 r) where
      pub summing_fits : left ≤ 16384 → Fits w64 (sum + r)
      summing_fits b =
          let a = w.few in
          let c = f.small in
          let lt : sum + r < 70368744177664 = omega arith in
          Fits-under w64 (sum + r) 70368744177664 lt tt

      pub summing_next : Summing target ws at left (i + 1) (sum + r)
      summing_next =
          let a = w.few in
          let c = f.small in
          let t : foreign_in target (segments_of (left - i) (drop (at + 4 * i) ws)) ≡ r + foreign_in target (segments_of (left - (i + 1)) (drop (at + 4 * (i + 1)) ws)) = rw (segments_on ws at left i h, ← e, f.is) in
          record { low = split_low.1; todo = omega (arith, w.todo, t); few = omega arith }

  pub summing_ends : i ≤ left → left ≤ i → Few (foreign_in target (segments_of left (drop at ws))) left sum
  summing_ends h z =
      let none : foreign_in target (segments_of (left - i) (drop (at + 4 * i) ws)) ≡ 0 = rw (segments_none ws (at + 4 * i) (left - i) (omega arith)) in
      let a = w.few in
      record { is = omega (arith, w.todo, none); small = omega arith }

-- of the routes that have a path
pub record Adding (paths ws : List ℕ) (routes place slot sum : ℕ) : Type 0 where
  pub readable : Readable ws (routes - slot) place
  pub low : Each (Each Low) (routes_of (routes - slot) (drop place ws))
  pub todo : foreign_on paths (routes_of routes (drop 2 ws)) ≡ sum + foreign_on (drop slot paths) (routes_of (routes - slot) (drop place ws))
  pub small : sum ≤ 4294967295 * place

pub adding_start : (paths ws : List ℕ) (routes : ℕ) → Incumbent ws routes → Adding paths ws routes 2 0 0
adding_start paths ws routes i =
    let z : routes - 0 ≡ routes = omega arith in
    record { readable = rw z i.readable; low = rw z i.low; todo = rw z (omega arith); small = omega arith }

foreign_of_none : (l : List ℕ) → foreign_on l [] ≡ 0
foreign_of_none [] = refl
foreign_of_none (x ∷ l) = refl

module _ {paths ws : List ℕ} {routes place slot sum : ℕ} (w : Adding paths ws routes place slot sum) where
  pub adding_route : slot < routes → place + 1 + 4 * get_or ws place 0 ≤ length ws
  adding_route lt = let pos : 0 < routes - slot = omega arith in readable_inside w.readable pos refl

  module _ (k : ℕ) (lt : slot < routes) (ek : k ≡ get_or ws place 0) where
    pos : 0 < routes - slot
    pos = omega arith

    lows : Each Low (segments_of k (drop (place + 1) ws)) × Each (Each Low) (routes_of (routes - slot - 1) (drop (place + 1 + 4 * k) ws))
    lows = subst (λ (l : List Route). Each (Each Low) l) (routes_next ws place (routes - slot) k pos ek) w.low

    pub adding_low : Each Low (segments_of k (drop (place + 1) ws))
    adding_low = lows.0

    module _ (target r : ℕ) (in-paths : slot < length paths) (et : target ≡ get_or paths slot 0) (f : Few (foreign_in target (segments_of k (drop (place + 1) ws))) k r) where
      pub adding_fits : length ws ≤ 65536 → Fits w64 (sum + r)
      adding_fits b =
          let a = w.small in
          let c = f.small in
          let i : place + 1 + 4 * k ≤ length ws = readable_inside w.readable pos ek in
          let bound : sum + r < 562949953421312 = omega arith in
          Fits-under w64 (sum + r) 562949953421312 bound tt

      pub adding_next : Adding paths ws routes (place + (1 + 4 * k)) (slot + 1) (sum + r)
      adding_next =
          let less : routes - slot - 1 ≡ routes - (slot + 1) = omega arith in
          let one : slot + 1 ≡ suc slot = omega arith in
          let past : place + 1 + 4 * k ≡ place + (1 + 4 * k) = omega arith in
          let a = w.small in
          let c = f.small in
          let t : foreign_on (drop slot paths) (routes_of (routes - slot) (drop place ws)) ≡ r + foreign_on (drop (slot + 1) paths) (routes_of (routes - (slot + 1)) (drop (place + (1 + 4 * k)) ws))
          = rw (routes_next ws place (routes - slot) k pos ek, drop-cons paths slot 0 in-paths, ← et, f.is, less, past, one) in
          record {
            readable = rw (← past, ← less) (readable_next w.readable pos ek);
            low = rw (← past, ← less) lows.1;
            todo = omega (arith, w.todo, t);
            small = omega arith;
          }

  pub adding_ends : min routes (length paths) ≤ slot → sum ≡ foreign_on paths (routes_of routes (drop 2 ws))
  adding_ends z = go (dec_lt slot routes)
    where
      go : Dec (slot < routes) → sum ≡ foreign_on paths (routes_of routes (drop 2 ws))
      go (yes lt) =
          let none : foreign_on (drop slot paths) (routes_of (routes - slot) (drop place ws)) ≡ 0 = rw (drop_of_length-le paths {i = slot} (omega arith)) in
          omega (arith, w.todo, none)
      go (no f) =
          let none : foreign_on (drop slot paths) (routes_of (routes - slot) (drop place ws)) ≡ 0 = rw (routes_none (drop place ws) (routes - slot) (omega arith)) (foreign_of_none (drop slot paths)) in
          omega (arith, w.todo, none)

pub foreign_told : (s ws : List ℕ) (h : Header) (f : Family) (r : ℕ) → Groups s h f → f.number ≡ get_or ws 0 0 → r ≡ foreign_on (paths_of h s f.number) (routes_of (get_or ws 1 0) (drop 2 ws))
    → r ≡ foreign (panel_of s) (assignment_of ws)
unfolding foreign
foreign_told s ws h f r g e q = q ∙ rw (e, paths_are s h (get_or ws 0 0) g.grouped.framed)

pub foreign_no_family : (s ws : List ℕ) (h : Header) → Accepted s h → h.families ≤ get_or ws 0 0 → 0 ≡ foreign (panel_of s) (assignment_of ws)
unfolding foreign
foreign_no_family s ws h acc le =
    let e = panel_families s h acc.counted.framed in
    let n : length (panel_of s).families ≡ h.families = rw e (families_length s h) in
    let none : paths_at (panel_of s) (get_or ws 0 0) ≡ [] = get_or-eq_default (panel_of s).families [] (omega arith) in
    rw none

-- ---- the sheet

pub incumbent_put : (s ws : List ℕ) (bases : ℕ) {xs ys zs : List ℕ} {at n m : ℕ} → bases ≡ foreign (panel_of s) (assignment_of ws) → Put (field foreign_text bases) xs at ys n → Put (routes_lines 0 (routes_of (get_or ws 1 0) (drop 2 ws))) ys n zs m
    → Put (incumbent_text (panel_of s) (assignment_of ws)) xs at zs m
incumbent_put s ws bases {xs} {ys} {zs} {at} {n} {m} e p q =
    put_then (field foreign_text (foreign (panel_of s) (assignment_of ws))) (routes_lines 0 (routes_of (get_or ws 1 0) (drop 2 ws))) (subst (λ (x : ℕ). Put (field foreign_text x) xs at ys n) e p) q

pub sheet_put : (p : Panel) (r : SearchReply) (a : Assignment) {xs bs cs ds es : List ℕ} {at b c d e : ℕ} → Put (line (status_text ∷ status_bytes (status_from r.status) ∷ [])) xs at bs b → Put (tally_lines (tally_in r)) bs b cs c
    → Put (field optima_text r.optima) cs c ds d → Put (incumbent_text p a) ds d es e → Put (sheet_of p r a) xs at es e
unfolding sheet_of
sheet_put p r a w x y z =
    put_then (line (status_text ∷ status_bytes (status_from r.status) ∷ [])) (tally_lines (tally_in r) ++ (field optima_text r.optima ++ incumbent_text p a)) w
    (put_then (tally_lines (tally_in r)) (field optima_text r.optima ++ incumbent_text p a) x (put_then (field optima_text r.optima) (incumbent_text p a) y z))
