-- The tests say what they stand for: two spans overlap exactly when they share a base, and a span is sound as its record says.
use Prim.Native.Nat.{◌<◌, max}
use native.Mathlib.Omega.{arith}
use mathlib.Core.Path.{◌≡◌, refl, sym, ◌∙◌}
use mathlib.Core.Logic.{◌↔◌}
use mathlib.Core.Bool.{true, ◌&&◌}
use lib.Dec.{leb, ltb, eqb}
use lib.ListN.{length}
use borrow.Author.Tests.{eq-eqb, eqb-true, lt-ltb, ltb-true, le-leb, leb-true}
use Rattle.ground.proofs.ListLaws.{both}
use Rattle.image.specs.Panel.{Panel, lane_at}
use Rattle.evaluate.specs.declared.Segment.{Segment}
use Rattle.evaluate.specs.Segments.{Share, overlap, SoundSpan, sound_span}

pub overlap_share : (s t : Segment) → s.start < s.end → t.start < t.end → overlap s t ≡ true → Share s t
overlap_share s t hs ht e =
    let (uv, w) = both (eqb s.source t.source && ltb s.start t.end) (ltb t.start s.end) e in
    let (u, v) = both (eqb s.source t.source) (ltb s.start t.end) uv in
    let a : s.start < t.end = ltb-true s.start t.end v in
    let b : t.start < s.end = ltb-true t.start s.end w in
    record {
      lane = t.source;
      base = max s.start t.start;
      left = record { lane = eqb-true s.source t.source u; from = omega arith; below = omega arith };
      right = record { lane = refl; from = omega arith; below = omega arith };
    }

pub share_overlap : (s t : Segment) → Share s t → overlap s t ≡ true
share_overlap s t h =
    let a : s.start < t.end = omega (arith, h.left.from, h.right.below) in
    let b : t.start < s.end = omega (arith, h.right.from, h.left.below) in
    rw (eq-eqb s.source t.source (h.left.lane ∙ sym h.right.lane), lt-ltb s.start t.end a, lt-ltb t.start s.end b)

-- For the reader: of spans that are not empty, the test says that they share a base exactly when they do
pub overlap_iff : (s t : Segment) → s.start < s.end → t.start < t.end → (overlap s t ≡ true) ↔ Share s t
overlap_iff s t hs ht = (overlap_share s t hs ht, share_overlap s t)

pub sound_iff : (p : Panel) (s : Segment) → (sound_span p s ≡ true) ↔ SoundSpan p s
sound_iff p s = (to, from)
  where
    to : sound_span p s ≡ true → SoundSpan p s
    to e =
        let (uv, w) = both (ltb s.source (length p.lanes) && ltb s.start s.end) (leb s.end (lane_at p s.source).len) e in
        let (u, v) = both (ltb s.source (length p.lanes)) (ltb s.start s.end) uv in
        record { lane = ltb-true s.source (length p.lanes) u; some = ltb-true s.start s.end v; inside = leb-true s.end (lane_at p s.source).len w }

    from : SoundSpan p s → sound_span p s ≡ true
    from h = rw (lt-ltb s.source (length p.lanes) h.lane, lt-ltb s.start s.end h.some, le-leb s.end (lane_at p s.source).len h.inside)
