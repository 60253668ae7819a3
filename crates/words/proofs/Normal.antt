-- The normal form, segment by segment, from the words.
use Prim.Native.Nat.{ℕ, ◌+◌, ◌*◌, ◌-◌, ◌≤◌, ◌<◌}
use native.Mathlib.Omega.{arith}
use mathlib.Core.Path.{◌≡◌, ◌∙◌}
use mathlib.Core.Bool.{Bool, true, false}
use mathlib.Core.List.{List, ◌∷◌}
use lib.ListN.{drop}
use Rattle.evaluate.specs.declared.Segment.{Segment}
use Rattle.evaluate.specs.Segments.{joinable, joined, joining}
use Rattle.words.specs.Inner.{segment_of, segments_of, normal_of, normal_from, Reached}
use Rattle.words.proofs.Reading.{segments_none, segments_next}

-- i segments have been joined into the one at hand
pub record Joining (ws : List ℕ) (at left : ℕ) (segment : Segment) (i : ℕ) : Type 0 where
  pub normal : normal_of ws at left ≡ joining segment (segments_of (left - i) (drop (at + 4 * i) ws))

pub joining_start : {ws : List ℕ} {at left : ℕ} {s : Segment} → 0 < left → s ≡ segment_of (drop at ws) → Joining ws at left s 1
unfolding normal_of
joining_start {ws} {at} {left} {s} h e = record { normal = rw (segments_next ws at left h, ← e) }

module _ {ws : List ℕ} {at left : ℕ} {s : Segment} {i : ℕ} (j : Joining ws at left s i) where
  module _ (t : Segment) (b : Bool) (low : 1 ≤ i) (more : i < left) (e : t ≡ segment_of (drop (at + 4 * i) ws)) (q : b ≡ joinable s t) where
    here : segments_of (left - i) (drop (at + 4 * i) ws) ≡ t ∷ segments_of (left - (i + 1)) (drop (at + 4 * (i + 1)) ws)
    here =
        let z : left - i - 1 ≡ left - (i + 1) = omega arith in
        let y : at + 4 * i + 4 ≡ at + 4 * (i + 1) = omega arith in
        rw (segments_next ws (at + 4 * i) (left - i) (omega arith), ← e, z, y)

    pub joining_more : {u : Segment} → b ≡ true → u ≡ joined s t → Joining ws at left u (i + 1)
    unfolding joining
    joining_more z f = record { normal = j.normal ∙ rw (here, ← q, z, f) }

    pub joining_stops : b ≡ false → Reached ws at left (record { segment = s; at = at + 4 * i; left = left - i })
    unfolding joining normal_from normal_of
    joining_stops z =
        record {
          fewer = omega arith;
          further = omega arith;
          same = omega arith;
          normal = j.normal ∙ rw (here, ← q, z);
        }

  pub joining_ends : 0 < left → left ≤ i → Reached ws at left (record { segment = s; at = at + 4 * left; left = 0 })
  unfolding joining normal_from normal_of
  joining_ends h z =
      record {
        fewer = h;
        further = omega arith;
        same = omega arith;
        normal = j.normal ∙ rw (segments_none ws (at + 4 * i) (left - i) (omega arith), segments_none ws (at + 4 * left) 0 (omega arith));
      }

pub ruleset joining_steps = (joining_start, joining_more, joining_stops, joining_ends)
