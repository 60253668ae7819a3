-- Crops of lists, and what a route spells: how many letters, and by the table of where the lanes' letters begin.
use Prim.Native.Nat.{ℕ, ◌+◌, ◌-◌, ◌≤◌, ◌<◌, min}
use native.Mathlib.Omega.{arith}
use native.Mathlib.Decide.{dec_le}
use mathlib.Core.Path.{◌≡◌, refl, sym, ap, ap₂, ◌∙◌}
use mathlib.Core.Bool.{◌&&◌}
use mathlib.Core.List.{List, [], ◌∷◌, ◌++◌, append-nil}
use lib.Dec.{leb, ltb}
use lib.ListN.{length, take, drop, length-append, length-drop}
use lib.Seq.{take-append-le, drop-append-le, take-append-add, drop-append-add, take_all}
use borrow.Author.Tests.{leb-true, ltb-true, le-leb, lt-ltb}
use Rattle.ground.specs.Lists.{sum}
use Rattle.ground.proofs.ListLaws.{both}
use Rattle.storage.specs.Bytes.{part}
use Rattle.image.specs.declared.Header.{Header}
use Rattle.image.specs.Panel.{Panel, panel_of}
use Rattle.image.proofs.Laws.{panel_lanes}
use Rattle.evaluate.specs.declared.Segment.{Segment}
use Rattle.evaluate.specs.Properties.{Each}
use Rattle.evaluate.specs.Refusals.{unless}
use Rattle.evaluate.specs.Segments.{Route, SoundSpan}
use Rattle.evaluate.proofs.CheckLegal.{unless_zero}
use Rattle.letters.specs.Letters.{lengths}
use Rattle.letters.specs.Inner.{Based}
use Rattle.letters.proofs.Pieces.{part_length, part_join, lane_room, piece_is, piece_length}
use Rattle.spell.specs.Spelling.{spell_segment, spell_route, crop, crop_number}
use Rattle.spell.specs.Inner.{size_of, sizes, letters_by, route_by, Inside}

-- ---- crops

pub crop_length : (l : List ℕ) (from to : ℕ) → from ≤ to → to ≤ length l → length (crop from to l) ≡ to - from
crop_length l from to h k = part_length l from (to - from) (omega arith)

-- "A crop cut into two non-empty ones spells the two parts joined."
pub crop_cut : (l : List ℕ) (from mid to : ℕ) → from ≤ mid → mid ≤ to → crop from mid l ++ crop mid to l ≡ crop from to l
crop_cut l from mid to h k =
    let e : from + (mid - from) ≡ mid = omega arith in
    let f : mid - from + (to - mid) ≡ to - from = omega arith in
    ap (λ (n : ℕ). part l from (mid - from) ++ part l n (to - mid)) (sym e) ∙ part_join l from (mid - from) (to - mid) ∙ ap (part l from) f

-- a crop of two lists joined: what it has of the first, and of the second
module _ (u v : List ℕ) (lo hi : ℕ) (order : lo ≤ hi) where
  pub early : hi ≤ length u → crop lo hi (u ++ v) ≡ crop lo hi u
  early h =
      let d : drop lo (u ++ v) ≡ drop lo u ++ v = drop-append-le lo u v (omega arith) in
      let n : hi - lo ≤ length (drop lo u) = rw length-drop (omega arith) in
      rw (d, take-append-le (hi - lo) (drop lo u) v n)

  across : lo ≤ length u → length u ≤ hi → crop lo hi (u ++ v) ≡ drop lo u ++ take (hi - length u) v
  across h k =
      let d : drop lo (u ++ v) ≡ drop lo u ++ v = drop-append-le lo u v h in
      let l = length-drop lo u in
      let n : hi - lo ≡ length (drop lo u) + (hi - length u) = omega arith in
      rw (d, n, take-append-add (drop lo u) v (hi - length u))

  pub later : length u ≤ lo → crop lo hi (u ++ v) ≡ crop (lo - length u) (hi - length u) v
  later h =
      let e : lo ≡ length u + (lo - length u) = omega arith in
      let d : drop lo (u ++ v) ≡ drop (lo - length u) v = ap (λ (n : ℕ). drop n (u ++ v)) e ∙ drop-append-add u v (lo - length u) in
      let n : hi - length u - (lo - length u) ≡ hi - lo = omega arith in
      rw (d, n)

  pub crop_append : (m a b : ℕ) → length u ≡ m → a ≡ min lo m → b ≡ min hi m → crop lo hi (u ++ v) ≡ part u a (b - a) ++ crop (lo - a) (hi - b) v
  crop_append m a b em ea eb = go (dec_le hi m) (dec_le lo m)
    where
      go : Dec (hi ≤ m) → Dec (lo ≤ m) → crop lo hi (u ++ v) ≡ part u a (b - a) ++ crop (lo - a) (hi - b) v
      go (yes h) q =
          let x : a ≡ lo = omega arith in
          let y : b ≡ hi = omega arith in
          let z : hi - hi - (lo - lo) ≡ 0 = omega arith in
          early (omega arith) ∙ rw (x, y, z) (sym (append-nil (crop lo hi u)))
      go (no h) (yes k) =
          let x : a ≡ lo = omega arith in
          let y : b ≡ length u = omega arith in
          let z : lo - lo ≡ 0 = omega arith in
          let n : hi - length u - 0 ≡ hi - length u = omega arith in
          let t : take (length u - lo) (drop lo u) ≡ drop lo u = take_all (length u - lo) (drop lo u) (rw length-drop (omega arith)) in
          across (omega arith) (omega arith) ∙ rw (x, y, z, n, t)
      go (no h) (no k) =
          let x : a ≡ length u = omega arith in
          let y : b ≡ length u = omega arith in
          let z : length u - length u ≡ 0 = omega arith in
          later (omega arith) ∙ rw (x, y, z)

-- ---- 41 and 37

pub record Fits (routes size slot from to room : ℕ) : Type 0 where
  pub named : slot < routes
  pub some : from < to
  pub far : to ≤ size
  pub short : to - from ≤ room

module _ (routes size slot from to room : ℕ) where
  pub fits_of : crop_number routes size slot from to room ≡ 0 → Fits routes size slot from to room
  fits_of e =
      let a = ltb slot routes in
      let b = ltb from to in
      let c = leb to size in
      let (x, y) = unless_zero (a && b && c) 40 (unless (leb (to - from) room) 37 0) e in
      let (z, w) = unless_zero (leb (to - from) room) 36 0 y in
      let (u, v) = both (a && b) c x in
      let (t, q) = both a b u in
      record { named = ltb-true _ _ t; some = ltb-true _ _ q; far = leb-true _ _ v; short = leb-true _ _ z }

  pub of_fits : Fits routes size slot from to room → crop_number routes size slot from to room ≡ 0
  of_fits f = rw (lt-ltb slot routes f.named, lt-ltb from to f.some, le-leb to size f.far, le-leb (to - from) room f.short)

-- ---- how many letters a route spells

module _ (p : Panel) (d : List ℕ) (total : sum (lengths p) ≡ length d) where
  pub segment_length : (s : Segment) → SoundSpan p s → length (spell_segment p d s) ≡ size_of s
  unfolding spell_segment
  segment_length s ok =
      let a = ok.some in
      let b = ok.inside in
      piece_length p d total s.source ok.lane s.start (s.end - s.start) s.reverse (omega arith)

  pub route_length : (r : Route) → Each (SoundSpan p) r → length (spell_route p d r) ≡ sizes r
  unfolding spell_route sizes
  route_length [] ok = refl
  route_length (s ∷ r) ok =
      let a = segment_length s ok.0 in
      let b = route_length r ok.1 in
      length-append (spell_segment p d s) (spell_route p d r) ∙ ap₂ (λ (x y : ℕ). x + y) a b

-- ---- by the table

module _ (s : List ℕ) (h : Header) (d bases : List ℕ) (b : Based s h d bases) where
  known : (g : Segment) → SoundSpan (panel_of s) g → g.source < h.lanes
  known g ok = let n = panel_lanes s h b.lettered.accepted.counted.framed in let k = ok.lane in omega arith

  pub inside_of : (r : Route) → Each (SoundSpan (panel_of s)) r → Each (Inside bases d) r
  inside_of [] ok = tt
  inside_of (g ∷ r) ok = (here g ok.0, inside_of r ok.1)
    where
      here : (g : Segment) → SoundSpan (panel_of s) g → Inside bases d g
      here g ok =
          let k = known g ok in
          let few = b.lettered.accepted.counted.framed.few_lanes in
          let room = lane_room (panel_of s) d b.lettered.total g.source ok.lane in
          let e = b.each g.source k in
          let x = ok.some in
          let y = ok.inside in
          record { lane = omega arith; order = omega arith; room = omega arith }

  segment_by : (g : Segment) → SoundSpan (panel_of s) g → letters_by bases d g ≡ spell_segment (panel_of s) d g
  unfolding letters_by spell_segment
  segment_by g ok =
      let e = b.each g.source (known g ok) in
      let x = ok.some in
      let y = ok.inside in
      rw e (sym (piece_is (panel_of s) d b.lettered.total g.source ok.lane g.start (g.end - g.start) g.reverse (omega arith)))

  pub route-by : (r : Route) → Each (SoundSpan (panel_of s)) r → route_by bases d r ≡ spell_route (panel_of s) d r
  unfolding route_by spell_route
  route-by [] ok = refl
  route-by (g ∷ r) ok = ap₂ (λ (x y : List ℕ). x ++ y) (segment_by g ok.0) (route-by r ok.1)
