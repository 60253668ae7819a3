-- Laws of the spans: a segment outside the span of its lane shares no base with the earlier ones.
use Prim.Native.Nat.{ℕ, ◌%◌, ◌≤◌, ◌<◌, min, max}
use native.Mathlib.Omega.{arith}
use native.Mathlib.Nat.{min-le_left, min-le_right, le-max_left, le-max_right}
use mathlib.Core.Path.{◌≡◌, refl, sym, ap, ap₂, ◌∙◌}
use mathlib.Core.Bool.{Bool, true, false, not, ◌&&◌}
use mathlib.Core.List.{List, [], ◌∷◌, ◌++◌, map}
use lib.Dec.{ltb, eqb}
use lib.ListN.{length, drop, get_or, set, replicate, length-set, length-replicate, drop_of_length-le}
use lib.Seq.{get_or-set_same, get_or-set_other}
use borrow.Author.Tests.{eqb-true, eqb-false}
use Rattle.ground.specs.Lists.{all}
use Rattle.ground.proofs.ListLaws.{both}
use Rattle.evaluate.specs.declared.Segment.{Segment}
use Rattle.evaluate.specs.Properties.{Each}
use Rattle.evaluate.specs.Segments.{overlap, clear, apart}
use Rattle.evaluate.proofs.Lists.{each_map, each_append}
use Rattle.overlap.specs.Chains.{bucket, Between, Within, outside}
use Rattle.overlap.proofs.Laws.{clear_append}
use Rattle.overlap.proofs.Given.{overlap_sym}
use Rattle.overlap.proofs.ChainLaws.{clear_outside}
use Rattle.names.specs.Names.{lines_of}
use Rattle.names.proofs.Cutting.{lines_nothing}
use Rattle.rows.specs.Rows.{segment_of}
use Rattle.texts.specs.declared.Line.{Line}
use Rattle.texts.specs.Inner.{Lined, LineAt}
use Rattle.bed_spread.specs.Inner.{Widened}

-- ---- one segment

span_small : (s : Segment) → bucket s < 4096
unfolding bucket
span_small s = omega arith

-- ---- the earlier ones

-- a segment lies within the span of its lane
pub record Inside (lows tops : List ℕ) (t : Segment) : Type 0 where
  pub from : get_or lows (bucket t) 0 ≤ t.start
  pub until : t.end ≤ get_or tops (bucket t) 0

other_lane : (t s : Segment) → (bucket t ≡ bucket s → ⊥) → overlap t s ≡ false
unfolding bucket
other_lane t s h = go (eqb t.source s.source) refl
  where
    go : (c : Bool) → eqb t.source s.source ≡ c → (c && ltb t.start s.end && ltb s.start t.end) ≡ false
    go true e = absurd (h (ap (λ (x : ℕ). x % 4096) (eqb-true t.source s.source e)))
    go false e = refl

same_lane : (low top : ℕ) (s t : Segment) → Between low top t → outside s low top ≡ true → not (overlap s t) ≡ true
unfolding Within all
same_lane low top s t b o = (both (not (overlap s t)) true (sym (clear_outside low top s (t ∷ []) (b, tt) true (sym o) refl))).0

module _ (lows tops : List ℕ) (s : Segment) (out : outside s (get_or lows (bucket s) 0) (get_or tops (bucket s) 0) ≡ true) where
  off : (t : Segment) → Inside lows tops t → not (overlap t s) ≡ true
  off t i = go (eqb (bucket t) (bucket s)) refl
    where
      go : (c : Bool) → eqb (bucket t) (bucket s) ≡ c → not (overlap t s) ≡ true
      go true e =
          let q : bucket t ≡ bucket s = eqb-true (bucket t) (bucket s) e in
          let w : Between (get_or lows (bucket s) 0) (get_or tops (bucket s) 0) t = rw (← q) (record { from = i.from; until = i.until }) in
          ap not (overlap_sym t s) ∙ same_lane (get_or lows (bucket s) 0) (get_or tops (bucket s) 0) s t w out
      go false e = ap not (other_lane t s (eqb-false (bucket t) (bucket s) e))

  apart_more : (l : List Segment) → apart l ≡ true → Each (Inside lows tops) l → apart (l ++ (s ∷ [])) ≡ true
  unfolding apart all
  apart_more [] e h = refl
  apart_more (t ∷ l) e h =
      let (a, b) = both (clear t l) (apart l) e in
      let o : clear t (s ∷ []) ≡ true = ap (λ (x : Bool). x && true) (off t h.0) in
      ap₂ ◌&&◌ (clear_append t l (s ∷ []) ∙ ap₂ ◌&&◌ a o) (apart_more l b h.1)

module _ (lows tops : List ℕ) (low_lanes : length lows ≡ 4096) (top_lanes : length tops ≡ 4096) (s : Segment) where
  abbrev lower : List ℕ
  lower = set lows (bucket s) (min (get_or lows (bucket s) 0) s.start)

  abbrev higher : List ℕ
  higher = set tops (bucket s) (max (get_or tops (bucket s) 0) s.end)

  low_here : get_or lower (bucket s) 0 ≡ min (get_or lows (bucket s) 0) s.start
  low_here = let b = span_small s in get_or-set_same lows (bucket s) (min (get_or lows (bucket s) 0) s.start) 0 (omega arith)

  top_here : get_or higher (bucket s) 0 ≡ max (get_or tops (bucket s) 0) s.end
  top_here = let b = span_small s in get_or-set_same tops (bucket s) (max (get_or tops (bucket s) 0) s.end) 0 (omega arith)

  inside_new : Inside lower higher s
  inside_new = record { from = rw low_here (min-le_right (get_or lows (bucket s) 0) s.start); until = rw top_here (le-max_right (get_or tops (bucket s) 0) s.end) }

  inside_still : (t : Segment) → Inside lows tops t → Inside lower higher t
  inside_still t i = go (eqb (bucket t) (bucket s)) refl
    where
      go : (c : Bool) → eqb (bucket t) (bucket s) ≡ c → Inside lower higher t
      go true e =
          let q : bucket t ≡ bucket s = eqb-true (bucket t) (bucket s) e in
          let f = i.from in
          let u = i.until in
          let a = min-le_left (get_or lows (bucket s) 0) s.start in
          let b = le-max_left (get_or tops (bucket s) 0) s.end in
          let x : get_or lows (bucket t) 0 ≡ get_or lows (bucket s) 0 = ap (λ (k : ℕ). get_or lows k 0) q in
          let y : get_or tops (bucket t) 0 ≡ get_or tops (bucket s) 0 = ap (λ (k : ℕ). get_or tops k 0) q in
          let v : get_or lower (bucket t) 0 ≡ min (get_or lows (bucket s) 0) s.start = ap (λ (k : ℕ). get_or lower k 0) q ∙ low_here in
          let w : get_or higher (bucket t) 0 ≡ max (get_or tops (bucket s) 0) s.end = ap (λ (k : ℕ). get_or higher k 0) q ∙ top_here in
          record { from = omega arith; until = omega arith }
      go false e =
          let ne = eqb-false (bucket t) (bucket s) e in
          record {
            from = rw (get_or-set_other lows (bucket s) (bucket t) (min (get_or lows (bucket s) 0) s.start) 0 ne) i.from;
            until = rw (get_or-set_other tops (bucket s) (bucket t) (max (get_or tops (bucket s) 0) s.end) 0 ne) i.until;
          }

  inside_more : (l : List Segment) → Each (Inside lows tops) l → Each (Inside lower higher) (l ++ (s ∷ []))
  inside_more l h = each_append (Inside lower higher) l (s ∷ []) (each_map (Inside lows tops) (Inside lower higher) inside_still l h) (inside_new, tt)

-- ---- line by line

pub record Spreading (ns : List (List ℕ)) (text lows tops : List ℕ) (at : ℕ) : Type 0 where
  pub lined : Lined text at
  pub low_lanes : length lows ≡ 4096
  pub top_lanes : length tops ≡ 4096
  pub seen : List Segment
  pub same : seen ++ map (segment_of ns) (lines_of (drop at text)) ≡ map (segment_of ns) (lines_of text)
  pub off : apart seen ≡ true
  pub within : Each (Inside lows tops) seen

pub spreading_start : {ns : List (List ℕ)} {text lows tops : List ℕ} → Lined text 0 → lows ≡ replicate 4096 18446744073709551615 → tops ≡ replicate 4096 0 → Spreading ns text lows tops 0
unfolding apart
spreading_start l e f =
    record {
      lined = l;
      low_lanes = ap length e ∙ length-replicate {A = ℕ} 4096 18446744073709551615;
      top_lanes = ap length f ∙ length-replicate {A = ℕ} 4096 0;
      seen = [];
      same = refl;
      off = refl;
      within = tt;
    }

append_one : (l m : List Segment) (s : Segment) → (l ++ (s ∷ [])) ++ m ≡ l ++ (s ∷ m)
append_one [] m s = refl
append_one (t ∷ l) m s = ap (λ (k : List Segment). t ∷ k) (append_one l m s)

append_nothing : (l : List Segment) → l ++ [] ≡ l
append_nothing [] = refl
append_nothing (t ∷ l) = ap (λ (k : List Segment). t ∷ k) (append_nothing l)

module _ {ns : List (List ℕ)} {text lows tops : List ℕ} {at : ℕ} (p : Spreading ns text lows tops at) where
  module _ (l : Line) (d : LineAt ns text at l) where
    here : map (segment_of ns) (lines_of (drop at text)) ≡ l.segment ∷ map (segment_of ns) (lines_of (drop l.next text))
    here = ap (map (segment_of ns)) d.lines ∙ ap (λ (s : Segment). s ∷ map (segment_of ns) (lines_of (drop l.next text))) (sym d.segment)

    pub spreading_again : {lows' tops' : List ℕ} (r : Bool) → Widened lows tops l.segment lows' tops' r → r ≡ true → Spreading ns text lows' tops' l.next
    spreading_again r w z =
        let s = l.segment in
        let low = min (get_or lows (bucket s) 0) s.start in
        let top = max (get_or tops (bucket s) 0) s.end in
        rw (w.down z, w.up z)
        (record {
          lined = d.rest;
          low_lanes = length-set lows (bucket s) low ∙ p.low_lanes;
          top_lanes = length-set tops (bucket s) top ∙ p.top_lanes;
          seen = p.seen ++ (s ∷ []);
          same = append_one p.seen (map (segment_of ns) (lines_of (drop l.next text))) s ∙ ap (λ (m : List Segment). p.seen ++ m) (sym here) ∙ p.same;
          off = apart_more lows tops s (w.off z) p.seen p.off p.within;
          within = inside_more lows tops p.low_lanes p.top_lanes s p.seen p.within;
        })

  pub spreading_ends : length text ≤ at → apart (map (segment_of ns) (lines_of text)) ≡ true
  spreading_ends h =
      let z : map (segment_of ns) (lines_of (drop at text)) ≡ [] = ap (λ (k : List ℕ). map (segment_of ns) (lines_of k)) (drop_of_length-le text {i = at} (omega arith)) ∙ ap (map (segment_of ns)) lines_nothing in
      ap apart (sym p.same ∙ ap (λ (m : List Segment). p.seen ++ m) z ∙ append_nothing p.seen) ∙ p.off
