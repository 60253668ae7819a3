-- Chains over a range that ask each segment from a place on.
use Rattle.std.proofs.Common.{ℕ, zero, suc, ◌+◌, ◌*◌, ◌-◌, ◌≡◌, refl, ap, ◌∙◌, arith, Bool, true, false, not, ◌&&◌, ◌||◌, List, drop}
use Rattle.std.specs.List.{range_with_len, list_all, list_any, FoldsTo}
use Rattle.std.specs.Option.{MatchOption}
use Rattle.std.specs.Fn.{Called}
use Rattle.std.specs.Iterator.{YieldsThen}
use Rattle.std.proofs.iter.Yields.{nat_range_steps}
use Rattle.std.proofs.lemmas.Iterator.{YieldsList-from_range}
use Rattle.std.proofs.lemmas.Iterator.Search.{all_from_yields_List, any_from_yields_List}
use denote.Param.Members.{Mut}
use lib.Seq.{drop-drop}
use Rattle.std.specs.declared.ops.Range.{Range}
use Rattle.std.specs.declared.option.Option.{Option}
use Rattle.ground.specs.Lists.{each, all, any}
use Rattle.evaluate.specs.declared.Segment.{Segment}
use Rattle.words.specs.Inner.{segment_of, segments_of}

-- what the call has told: `all` goes on at true, and `any` at false
abbrev Ran : {F : Type 0} → Mut F (ℕ × Unit {0}) Bool → Range ℕ → F → ℕ → ℕ → Bool → Bool → Type 0
Ran {F} g u h a left on r =
    (xs : List ℕ) × (o : Option ℕ) × (j : F) × YieldsThen nat_range_steps (record { start = a; end = left }) xs o u × FoldsTo (λ p x q. Called g p (x, tt) on q) h xs j
    × MatchOption o (r ≡ on) (λ x. (r ≡ not on) × ((k : F) × Called g j (x, tt) (not on) k))

-- what the closure answers of segment i: (λ i b q k. search (rules, tests)) finds it
abbrev Asks : {F : Type 0} → Mut F (ℕ × Unit {0}) Bool → F → (Segment → Bool) → List ℕ → ℕ → Type 0
Asks {F} g h f ws at = (i : ℕ) (b : Bool) (q : F) → Called g h (i, tt) b q → (q ≡ h) × (b ≡ f (segment_of (drop (at + 4 * i) ws)))

module _ (f : Segment → Bool) (ws : List ℕ) (at : ℕ) where
  all_here : (n a : ℕ) → list_all (λ i. f (segment_of (drop (at + 4 * i) ws))) (range_with_len a n) ≡ all f (segments_of n (drop (at + 4 * a) ws))
  unfolding all segments_of each
  all_here zero a = refl
  all_here (suc n) a =
      let e : at + 4 * (a + 1) ≡ at + 4 * a + 4 = omega arith in
      let rest : list_all (λ i. f (segment_of (drop (at + 4 * i) ws))) (range_with_len (a + 1) n) ≡ all f (segments_of n (drop (at + 4 * (a + 1)) ws)) = all_here n (a + 1) in
      ap (λ (b : Bool). f (segment_of (drop (at + 4 * a) ws)) && b) (rest ∙ rw (e, ← drop-drop 4 (at + 4 * a) ws))

  any_here : (n a : ℕ) → list_any (λ i. f (segment_of (drop (at + 4 * i) ws))) (range_with_len a n) ≡ any f (segments_of n (drop (at + 4 * a) ws))
  unfolding any segments_of each
  any_here zero a = refl
  any_here (suc n) a =
      let e : at + 4 * (a + 1) ≡ at + 4 * a + 4 = omega arith in
      let rest : list_any (λ i. f (segment_of (drop (at + 4 * i) ws))) (range_with_len (a + 1) n) ≡ any f (segments_of n (drop (at + 4 * (a + 1)) ws)) = any_here n (a + 1) in
      ap (λ (b : Bool). f (segment_of (drop (at + 4 * a) ws)) || b) (rest ∙ rw (e, ← drop-drop 4 (at + 4 * a) ws))

  module _ {F : Type 0} {g : Mut F (ℕ × Unit {0}) Bool} {u : Range ℕ} {h : F} (left : ℕ) (r : Bool) where
    -- `(0..left).all(..)`
    pub all_segments : Ran g u h 0 left true r → Asks g h f ws at → r ≡ all f (segments_of left (drop at ws))
    all_segments ran asks =
        let e : at + 4 * 0 ≡ at = omega arith in
        all_from_yields_List (λ i. f (segment_of (drop (at + 4 * i) ws))) u h r ran (YieldsList-from_range 0 left left refl (omega arith)) asks ∙ all_here left 0 ∙ rw e

    -- `(1..left).any(..)`
    pub any_later : Ran g u h 1 left false r → Asks g h f ws at → r ≡ any f (segments_of (left - 1) (drop (at + 4) ws))
    any_later ran asks =
        any_from_yields_List (λ i. f (segment_of (drop (at + 4 * i) ws))) u h r ran (YieldsList-from_range 1 left (left - 1) refl refl) asks ∙ any_here (left - 1) 1
