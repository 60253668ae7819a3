-- Laws of the spelling call: one for each way through the code.
use Prim.Native.Nat.{ℕ, zero, suc, ◌+◌, ◌-◌, ◌*◌, ◌≤◌, ◌<◌, min}
use native.Mathlib.Omega.{arith}
use native.Mathlib.Decide.{dec_le}
use native.Mathlib.Numerals.{add-one}
use mathlib.Core.Path.{◌≡◌, refl, sym, ap, ap₂, ◌∙◌, subst}
use mathlib.Core.Bool.{Bool, true, false}
use mathlib.Core.Logic.{◌⊎◌, inl, inr}
use mathlib.Core.List.{List, [], ◌∷◌, ◌++◌}
use lib.Dec.{leb, eqb}
use lib.ListN.{length, drop, get_or, set, length-set}
use lib.Seq.{sets, length-sets, drop-cons, drop-nil, take-nil}
use borrow.Author.Tests.{lt-ltb, le-ltb, le-leb, lt-leb, ne_eqb}
use Rattle.storage.specs.Bytes.{part}
use Rattle.evaluate.specs.declared.Segment.{Segment}
use Rattle.evaluate.specs.Properties.{Each}
use Rattle.evaluate.specs.Refusals.{at}
use Rattle.evaluate.specs.Segments.{Route}
use Rattle.words.specs.Inner.{segment_of, segments_of, routes_of, assignment_of, Parsed, Formed, RouteAt}
use Rattle.words.proofs.Reading.{segments_none, segments_next, routes_next, parsed_route, parsed_next}
use Rattle.words.proofs.Writing.{sets_append}
use Rattle.letters.specs.Letters.{oriented}
use Rattle.letters.proofs.Reverse.{oriented_length}
use Rattle.letters.proofs.Pieces.{part_length}
use Rattle.spell.specs.Spelling.{crop}
use Rattle.spell.specs.Inner.{size_of, sizes, SlotAt, crop_by, letters_by, route_by, Inside}
use Rattle.spell.proofs.Crops.{crop_append}

-- ---- a piece, letter by letter

pub record Copying (w xs ys : List ℕ) (to from end i : ℕ) : Type 0 where
  pub above : from ≤ i
  pub within : i ≤ end
  pub long : length ys ≡ length xs
  pub rest : sets ys (to + (i - from)) (part w i (end - i)) ≡ sets xs to (part w from (end - from))

pub copying_start : (w xs : List ℕ) (to from end : ℕ) → from ≤ end → Copying w xs xs to from end from
copying_start w xs to from end h = let z : to + (from - from) ≡ to = omega arith in record { above = omega arith; within = h; long = refl; rest = rw z }

part_next : (w : List ℕ) (i end : ℕ) → i < end → end ≤ length w → part w i (end - i) ≡ get_or w i 0 ∷ part w (i + 1) (end - (i + 1))
part_next w i end h k =
    let e : end - i ≡ suc (end - (i + 1)) = omega arith in
    let f : i < length w = omega arith in
    rw (e, drop-cons w i 0 f, add-one)

module _ (d : List ℕ) (first n : ℕ) (r : Bool) (room : first + n ≤ length d) (xs ys : List ℕ) (to from end i : ℕ) (few : end ≤ n)
    (so : Copying (oriented r (part d first n)) xs ys to from end i) where
  pub copying_more : (x : ℕ) → i < end → x ≡ get_or (oriented r (part d first n)) i 0 → Copying (oriented r (part d first n)) xs (set ys (to + (i - from)) x) to from end (i + 1)
  copying_more x lt e =
      let l = oriented_length r (part d first n) ∙ part_length d first n room in
      let q = part_next (oriented r (part d first n)) i end lt (omega arith) in
      let a = so.above in
      let next : to + (i + 1 - from) ≡ suc (to + (i - from)) = omega arith in
      record {
        above = omega arith;
        within = omega arith;
        long = length-set ys (to + (i - from)) x ∙ so.long;
        rest = rw (next, e) (sym (ap (sets ys (to + (i - from))) q)) ∙ so.rest;
      }

pub copying_done : (w xs ys : List ℕ) (to from end i : ℕ) → Copying w xs ys to from end i → end ≤ i → ys ≡ sets xs to (part w from (end - from))
copying_done w xs ys to from end i so le =
    let z : end - i ≡ 0 = omega arith in
    let e : sets ys (to + (i - from)) (part w i (end - i)) ≡ ys = rw z in
    sym e ∙ so.rest

-- ---- the route of a slot

pub record Slots (ws : List ℕ) (slot at i : ℕ) : Type 0 where
  pub few : i ≤ slot
  pub some : slot < get_or ws 1 0
  pub parsed : Parsed ws (get_or ws 1 0 - i) at
  pub rest : get_or (routes_of (get_or ws 1 0 - i) (drop at ws)) (slot - i) [] ≡ get_or (assignment_of ws).routes slot []

pub slots_start : (ws : List ℕ) (slot : ℕ) → Formed ws → slot < get_or ws 1 0 → Slots ws slot 2 0
slots_start ws slot f lt =
    let a : get_or ws 1 0 - 0 ≡ get_or ws 1 0 = omega arith in
    let b : slot - 0 ≡ slot = omega arith in
    record { few = omega arith; some = lt; parsed = rw a f.parsed; rest = rw (a, b) }

module _ (ws : List ℕ) (slot at i : ℕ) (so : Slots ws slot at i) where
  pub slots_room : at + 1 + 4 * get_or ws at 0 ≤ length ws
  slots_room = let a = so.few in let b = so.some in parsed_route so.parsed (omega arith)

  more : 0 < get_or ws 1 0 - i
  more = let a = so.few in let b = so.some in omega arith

  pub slots_more : (k : ℕ) → i < slot → RouteAt ws at k → Slots ws slot (at + (1 + 4 * k)) (i + 1)
  slots_more k lt r =
      let q : at + (1 + 4 * k) ≡ at + 1 + 4 * k = omega arith in
      let a : get_or ws 1 0 - i - 1 ≡ get_or ws 1 0 - (i + 1) = omega arith in
      let b : slot - i ≡ suc (slot - (i + 1)) = omega arith in
      let next = routes_next ws at (get_or ws 1 0 - i) k more r.count in
      record {
        few = omega arith;
        some = so.some;
        parsed = rw (q, ← a) (parsed_next so.parsed more r.count);
        rest = rw (q, ← a) (sym (ap₂ (λ (l : List Route) (n : ℕ). get_or l n []) next b)) ∙ so.rest;
      }

  pub slots_done : slot ≤ i → SlotAt ws slot at
  slots_done le =
      let e = so.few in
      let b : slot - i ≡ 0 = omega arith in
      let next = routes_next ws at (get_or ws 1 0 - i) (get_or ws at 0) more refl in
      record { room = slots_room; is = sym (ap₂ (λ (l : List Route) (n : ℕ). get_or l n []) next b) ∙ so.rest }

-- ---- the segments from number i on of those that stand from a place on

unfoldable pub from_on : List ℕ → ℕ → ℕ → ℕ → Route
from_on ws at left i = segments_of (left - i) (drop (at + 4 * i) ws)

module _ (ws : List ℕ) (at left : ℕ) where
  from_start : from_on ws at left 0 ≡ segments_of left (drop at ws)
  unfolding from_on
  from_start =
      let a : left - 0 ≡ left = omega arith in
      let b : at + 4 * 0 ≡ at = omega arith in
      rw (a, b)

  module _ (i : ℕ) where
    from_next : (s : Segment) → i < left → s ≡ segment_of (drop (at + 4 * i) ws) → from_on ws at left i ≡ s ∷ from_on ws at left (i + 1)
    unfolding from_on
    from_next s lt e =
        let a : left - i - 1 ≡ left - (i + 1) = omega arith in
        let b : at + 4 * i + 4 ≡ at + 4 * (i + 1) = omega arith in
        segments_next ws (at + 4 * i) (left - i) (omega arith) ∙ rw (a, b, e)

    from_none : left ≤ i → from_on ws at left i ≡ []
    unfolding from_on
    from_none le = segments_none ws (at + 4 * i) (left - i) (omega arith)

-- ---- whether a route has so many letters

pub record Fewer (ws : List ℕ) (at left to i more : ℕ) : Type 0 where
  pub rest : leb more (sizes (from_on ws at left i)) ≡ leb to (sizes (segments_of left (drop at ws)))

pub fewer_start : (ws : List ℕ) (at left to : ℕ) → Fewer ws at left to 0 to
fewer_start ws at left to = record { rest = ap (λ (r : Route). leb to (sizes r)) (from_start ws at left) }

leb_off : (a m n : ℕ) → leb (a - m) n ≡ leb a (m + n)
leb_off a m n = go (dec_le a (m + n))
  where
    go : Dec (a ≤ m + n) → leb (a - m) n ≡ leb a (m + n)
    go (yes h) = le-leb (a - m) n (omega arith) ∙ sym (le-leb a (m + n) h)
    go (no h) = lt-leb (a - m) n (omega arith) ∙ sym (lt-leb a (m + n) (omega arith))

sizes_next : (s : Segment) (r l : Route) → l ≡ s ∷ r → sizes l ≡ size_of s + sizes r
unfolding sizes
sizes_next s r l e = rw e

module _ (ws : List ℕ) (at left to i more : ℕ) (so : Fewer ws at left to i more) where
  pub fewer_more : (s : Segment) (m : ℕ) → i < left → s ≡ segment_of (drop (at + 4 * i) ws) → m ≡ size_of s → Fewer ws at left to (i + 1) (more - m)
  fewer_more s m lt es em =
      record { rest = leb_off more m (sizes (from_on ws at left (i + 1))) ∙ ap (leb more) (ap (λ (x : ℕ). x + sizes (from_on ws at left (i + 1))) em ∙ sym (sizes_next s (from_on ws at left (i + 1)) (from_on ws at left i) (from_next ws at left i s lt es))) ∙ so.rest }

  pub fewer_done : left ≤ i → eqb more 0 ≡ leb to (sizes (segments_of left (drop at ws)))
  unfolding sizes
  fewer_done z = ends more ∙ ap (λ (r : Route). leb more (sizes r)) (sym (from_none ws at left i z)) ∙ so.rest
    where
      ends : (x : ℕ) → eqb x 0 ≡ leb x 0
      ends zero = refl
      ends (suc x) = ne_eqb (suc x) 0 (λ e. omega arith) ∙ sym (lt-leb (suc x) 0 (omega arith))

-- ---- 41, 37

module _ (ws : List ℕ) (slot from to room : ℕ) where
  pub crop_empty : (get_or ws 1 0 ≤ slot) ⊎ ((slot < get_or ws 1 0) × (to ≤ from)) → 41 ≡ crop_by ws slot from to room
  unfolding crop_by
  crop_empty (inl h) = rw (le-ltb slot (get_or ws 1 0) h)
  crop_empty (inr (lt, h)) = rw (lt-ltb slot (get_or ws 1 0) lt, le-ltb from to h)

  module _ (lt : slot < get_or ws 1 0) where
    module _ (some : from < to) (at left : ℕ) (here : SlotAt ws slot at) (count : RouteAt ws at left) (b : Bool) (eb : b ≡ leb to (sizes (segments_of left (drop (at + 1) ws)))) where
      long : leb to (sizes (get_or (assignment_of ws).routes slot [])) ≡ b
      long = sym (eb ∙ ap (λ (r : Route). leb to (sizes r)) (ap (λ (n : ℕ). segments_of n (drop (at + 1) ws)) count.count ∙ here.is))

      pub crop_past : b ≡ false → 41 ≡ crop_by ws slot from to room
      unfolding crop_by
      crop_past z = rw (lt-ltb slot (get_or ws 1 0) lt, lt-ltb from to some, long, z)

      pub crop_short : b ≡ true → room < to - from → 37 ≡ crop_by ws slot from to room
      unfolding crop_by
      crop_short z h = rw (lt-ltb slot (get_or ws 1 0) lt, lt-ltb from to some, long, z, lt-leb (to - from) room h)

      pub crop_none : b ≡ true → to - from ≤ room → 0 ≡ crop_by ws slot from to room
      unfolding crop_by
      crop_none z h = rw (lt-ltb slot (get_or ws 1 0) lt, lt-ltb from to some, long, z, le-leb (to - from) room h)

-- ---- the crop, segment by segment

parts : (next lo hi a b : ℕ) → a ≤ b → b ≤ hi → a ≤ lo → lo + b ≤ hi + a → next + (b - a) + (hi - b - (lo - a)) ≡ next + (hi - lo)
parts next lo hi a b h k l m = omega arith

pub record Cropping (bases d ws xs ys : List ℕ) (at left from to next lo hi i : ℕ) : Type 0 where
  pub long : length ys ≡ length xs
  pub order : lo ≤ hi
  pub far : hi ≤ sizes (from_on ws at left i)
  pub room : next + (hi - lo) ≤ length xs
  pub inside : Each (Inside bases d) (from_on ws at left i)
  pub rest : sets ys next (crop lo hi (route_by bases d (from_on ws at left i))) ≡ sets xs 0 (crop from to (route_by bases d (segments_of left (drop at ws))))

pub cropping_start : (bases d ws xs : List ℕ) (at left from to : ℕ) → Each (Inside bases d) (segments_of left (drop at ws)) → from ≤ to → to ≤ sizes (segments_of left (drop at ws)) → to - from ≤ length xs
    → Cropping bases d ws xs xs at left from to 0 from to 0
cropping_start bases d ws xs at left from to i o f r =
    let e = from_start ws at left in
    record { long = refl; order = o; far = rw e f; room = omega arith; inside = subst (λ (r : Route). Each (Inside bases d) r) (sym e) i; rest = rw e }

route_by_next : (bases d : List ℕ) (s : Segment) (r l : Route) → l ≡ s ∷ r → route_by bases d l ≡ letters_by bases d s ++ route_by bases d r
unfolding route_by
route_by_next bases d s r l e = rw e

module _ (bases d : List ℕ) (s : Segment) (i : Inside bases d s) where
  pub segment_room : (n : ℕ) → n ≡ size_of s → get_or bases s.source 0 + s.start + n ≤ length d
  segment_room n e = let a = i.order in let b = i.room in omega arith

  letters_by_length : length (letters_by bases d s) ≡ size_of s
  unfolding letters_by
  letters_by_length = oriented_length s.reverse (part d (get_or bases s.source 0 + s.start) (size_of s)) ∙ part_length d (get_or bases s.source 0 + s.start) (size_of s) (segment_room (size_of s) refl)

pub segment-put : (bases d : List ℕ) (s : Segment) (xs ys : List ℕ) (to n from end : ℕ) → n ≡ size_of s
    → ys ≡ sets xs to (part (oriented s.reverse (part d (get_or bases s.source 0 + s.start) n)) from (end - from)) → ys ≡ sets xs to (part (letters_by bases d s) from (end - from))
unfolding letters_by
segment-put bases d s xs ys to n from end e q = q ∙ ap (λ (m : ℕ). sets xs to (part (oriented s.reverse (part d (get_or bases s.source 0 + s.start) m)) from (end - from))) e

module _ (bases d ws xs ys : List ℕ) (at left from to next lo hi i : ℕ) (so : Cropping bases d ws xs ys at left from to next lo hi i)
    (lt : i < left) (s : Segment) (es : s ≡ segment_of (drop (at + 4 * i) ws)) where
  behind : Route
  behind = from_on ws at left (i + 1)

  cons : from_on ws at left i ≡ s ∷ behind
  unfolding behind
  cons = from_next ws at left i s lt es

  both_inside : Inside bases d s × Each (Inside bases d) behind
  both_inside = subst (λ (r : Route). Each (Inside bases d) r) cons so.inside

  pub segment_inside : Inside bases d s
  segment_inside = both_inside.0

  module _ (m : ℕ) (em : m ≡ size_of s) where
    module _ (a b : ℕ) (ea : a ≡ min lo m) (eb : b ≡ min hi m) where
      pub piece_order : a ≤ b
      piece_order = let o = so.order in omega arith

      pub piece_few : b ≤ size_of s
      piece_few = omega arith

      pub piece_fits : next + (b - a) ≤ length ys
      piece_fits = let o = so.order in let r = so.room in let l = so.long in omega arith

      pub cropping_more : (zs : List ℕ) → zs ≡ sets ys next (part (letters_by bases d s) a (b - a))
          → Cropping bases d ws xs zs at left from to (next + (b - a)) (lo - a) (hi - b) (i + 1)
      unfolding behind
      cropping_more zs ez =
          let o = so.order in
          let r = so.room in
          let f = so.far in
          let q : sizes (from_on ws at left i) ≡ m + sizes behind = sizes_next s behind (from_on ws at left i) cons ∙ ap (λ (x : ℕ). x + sizes behind) (sym em) in
          record {
            long = ap length ez ∙ length-sets ys next piece' ∙ so.long;
            order = omega arith;
            far = omega arith;
            room = rw (parts next lo hi a b piece_order (omega arith) (omega arith) (omega arith)) r;
            inside = both_inside.1;
            rest = step ∙ so.rest;
          }
        where
          u : List ℕ
          u = letters_by bases d s

          v : List ℕ
          v = route_by bases d behind

          piece' : List ℕ
          piece' = part u a (b - a)

          u_long : length u ≡ m
          u_long = letters_by_length bases d s segment_inside ∙ sym em

          piece_long : length piece' ≡ b - a
          piece_long = let o = piece_order in let w = piece_few in let l = u_long in part_length u a (b - a) (omega arith)

          whole : route_by bases d (from_on ws at left i) ≡ u ++ v
          whole = route_by_next bases d s behind (from_on ws at left i) cons

          cut : crop lo hi (route_by bases d (from_on ws at left i)) ≡ piece' ++ crop (lo - a) (hi - b) v
          cut = ap (crop lo hi) whole ∙ crop_append u v lo hi so.order m a b u_long ea eb

          step : sets zs (next + (b - a)) (crop (lo - a) (hi - b) v) ≡ sets ys next (crop lo hi (route_by bases d (from_on ws at left i)))
          step = ap₂ (λ (z : List ℕ) (x : ℕ). sets z (next + x) (crop (lo - a) (hi - b) v)) ez (sym piece_long) ∙ sym (ap (sets ys next) cut ∙ sets_append piece' (crop (lo - a) (hi - b) v) ys next)

pub cropping_done : (bases d ws xs ys : List ℕ) (at left from to next lo hi i : ℕ) → Cropping bases d ws xs ys at left from to next lo hi i → left ≤ i
    → ys ≡ sets xs 0 (crop from to (route_by bases d (segments_of left (drop at ws))))
unfolding route_by
cropping_done bases d ws xs ys at left from to next lo hi i so z =
    let e : crop lo hi (route_by bases d (from_on ws at left i)) ≡ [] = ap (λ (r : Route). crop lo hi (route_by bases d r)) (from_none ws at left i z) ∙ empty lo (hi - lo) in
    ap (sets ys next) (sym e) ∙ so.rest
  where
    empty : (i j : ℕ) → part [] i j ≡ []
    empty i j = rw (drop-nil i, take-nil j)
