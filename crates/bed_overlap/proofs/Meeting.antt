-- Laws of blocks held against each other: two segments share a base within a block, or one of it and one behind it.
use Prim.Native.Nat.{ℕ, ◌+◌, ◌*◌, ◌≤◌}
use native.Mathlib.Omega.{arith}
use mathlib.Core.Path.{◌≡◌, refl, sym, ap, ap₂, ◌∙◌}
use Rattle.std.proofs.Common.{Option}
use Rattle.std.specs.Bool.{then_some}
use mathlib.Core.Bool.{Bool, true, false, ◌&&◌, true≢false}
use mathlib.Core.List.{List, [], ◌∷◌, ◌++◌, map}
use lib.ListN.{length, take, drop, take-append-drop}
use lib.Seq.{sets}
use Rattle.ground.specs.Lists.{all}
use Rattle.ground.proofs.ListLaws.{both}
use Rattle.evaluate.specs.declared.Segment.{Segment}
use Rattle.evaluate.specs.Segments.{clear, apart}
use Rattle.evaluate.specs.Words.{segment_words}
use Rattle.overlap.proofs.Laws.{clear_append}
use Rattle.names.specs.Names.{lines_of}
use Rattle.rows.specs.Rows.{segment_of}
use Rattle.texts.specs.Inner.{Lined}
use Rattle.bed_overlap.specs.declared.Block.{Block}
use Rattle.bed_overlap.specs.Inner.{segments_from, block_at, Behind, BlockPut, standing, BlockApart}
use Rattle.bed_overlap.proofs.Standing.{standing_none, standing_put}
use Rattle.bed_overlap.proofs.Blocks.{segments_nothing}

-- ---- two lists, one behind the other

-- each of the first is clear of the second
unfoldable pub crossed : List Segment → List Segment → Bool
crossed l m = all (λ s. clear s m) l

mix : (a b c d : Bool) → ((a && b) && (c && d)) ≡ ((a && c) && (b && d))
mix false b c d = refl
mix true true c d = refl
mix true false true d = refl
mix true false false d = refl

apart_append : (l m : List Segment) → apart (l ++ m) ≡ (apart l && (crossed l m && apart m))
unfolding apart crossed all
apart_append [] m = refl
apart_append (s ∷ l) m =
    ap₂ ◌&&◌ (clear_append s l m) (apart_append l m)
    ∙ go (clear s l) (clear s m) (apart l) (crossed l m) (apart m)
  where
    go : (a b c d e : Bool) → ((a && b) && (c && (d && e))) ≡ ((a && c) && ((b && d) && e))
    go false b c d e = refl
    go true true c d e = refl
    go true false true d e = refl
    go true false false d e = refl

crossed_append : (l m k : List Segment) → crossed l (m ++ k) ≡ (crossed l m && crossed l k)
unfolding crossed all
crossed_append [] m k = refl
crossed_append (s ∷ l) m k = ap₂ ◌&&◌ (clear_append s m k) (crossed_append l m k) ∙ mix (clear s m) (clear s k) (crossed l m) (crossed l k)

crossed_nothing : (l : List Segment) → crossed l [] ≡ true
unfolding crossed all
crossed_nothing [] = refl
crossed_nothing (s ∷ l) = crossed_nothing l

record Both (l m : List Segment) : Type 0 where
  first : apart l ≡ true
  cross : crossed l m ≡ true
  second : apart m ≡ true

both_apart : (l m : List Segment) → apart (l ++ m) ≡ true → Both l m
both_apart l m e =
    let (a, b) = both (apart l) (crossed l m && apart m) (sym (apart_append l m) ∙ e) in
    let (c, d) = both (crossed l m) (apart m) b in
    record { first = a; cross = c; second = d }

-- ---- a block and what is behind it

block_rest : {ns : List (List ℕ)} {text : List ℕ} {at next : ℕ} → Behind ns text at next → segments_from ns text at ≡ block_at ns text at ++ segments_from ns text next
unfolding block_at
block_rest {ns} {text} {at} {next} b = sym (ap (λ (l : List Segment). take 1024 (segments_from ns text at) ++ l) b.rest ∙ take-append-drop 1024 (segments_from ns text at))

-- ---- against each later one

pub record Meeting (ns : List (List ℕ)) (text : List ℕ) (at count : ℕ) (xs ys : List ℕ) (from : ℕ) : Type 0 where
  pub lined : Lined text from
  pub stands : standing count ys ≡ standing count xs
  pub later : apart (segments_from ns text at) ≡ true → apart (segments_from ns text from) ≡ true
  pub todo : (apart (standing count xs) && (crossed (standing count xs) (segments_from ns text from) && apart (segments_from ns text at)))
      ≡ apart (standing count xs ++ segments_from ns text at)

pub meeting_start : {ns : List (List ℕ)} {text : List ℕ} {at count : ℕ} {xs : List ℕ} → Lined text at → Meeting ns text at count xs xs at
meeting_start {ns} {text} {at} {count} {xs} l =
    record { lined = l; stands = refl; later = λ h. h; todo = sym (apart_append (standing count xs) (segments_from ns text at)) }

module _ {ns : List (List ℕ)} {text : List ℕ} {at count : ℕ} {xs ys : List ℕ} {from : ℕ} (m : Meeting ns text at count xs ys from) where
  abbrev here : List Segment
  here = standing count xs

  abbrev there : List Segment
  there = block_at ns text from

  stood : apart (standing count ys ++ there) ≡ apart (here ++ there)
  stood = ap (λ (l : List Segment). apart (l ++ there)) m.stands

  module _ {next : ℕ} (h : Behind ns text from next) where
    crossed_rest : crossed here (segments_from ns text from) ≡ (crossed here there && crossed here (segments_from ns text next))
    crossed_rest = ap (crossed here) (block_rest h) ∙ crossed_append here there (segments_from ns text next)

    rest_apart : apart (segments_from ns text at) ≡ true → Both there (segments_from ns text next)
    rest_apart e = both_apart there (segments_from ns text next) (sym (ap apart (block_rest h)) ∙ m.later e)

    module _ (told : apart (standing count ys ++ block_at ns text from) ≡ true) where
      on : crossed here (segments_from ns text from) ≡ crossed here (segments_from ns text next)
      on = let c = both_apart here there (sym stood ∙ told) in crossed_rest ∙ rw c.cross

      pub meeting_again : {zs : List ℕ} → standing count zs ≡ standing count ys → Meeting ns text at count xs zs next
      meeting_again e =
          record {
            lined = h.lined;
            stands = e ∙ m.stands;
            later = λ q. (rest_apart q).second;
            todo = ap (λ (x : Bool). apart here && (x && apart (segments_from ns text at))) (sym on) ∙ m.todo;
          }

      pub meeting_ends : length text ≤ next → (true && apart (segments_from ns text at)) ≡ apart (standing count xs ++ segments_from ns text at)
      meeting_ends le =
          let z = segments_nothing ns text next le in
          let c : crossed here (segments_from ns text from) ≡ true = on ∙ ap (crossed here) z ∙ crossed_nothing here in
          sym (rw ((both_apart here there (sym stood ∙ told)).first, c)) ∙ m.todo

  -- were all apart, these would be
  pub meeting_fails : apart (standing count ys ++ block_at ns text from) ≡ false → (false && apart (segments_from ns text at)) ≡ apart (standing count xs ++ segments_from ns text at)
  unfolding block_at
  meeting_fails e = go (apart (here ++ segments_from ns text at)) refl
    where
      parts : segments_from ns text from ≡ there ++ drop 1024 (segments_from ns text from)
      parts = sym (take-append-drop 1024 (segments_from ns text from))

      pair : apart (here ++ segments_from ns text at) ≡ true → apart (here ++ there) ≡ true
      pair q =
          let (x, yz) = both (apart here) (crossed here (segments_from ns text from) && apart (segments_from ns text at)) (m.todo ∙ q) in
          let (y, z) = both (crossed here (segments_from ns text from)) (apart (segments_from ns text at)) yz in
          let (u, v) = both (crossed here there) (crossed here (drop 1024 (segments_from ns text from))) (sym (ap (crossed here) parts ∙ crossed_append here there (drop 1024 (segments_from ns text from))) ∙ y) in
          let w = both_apart there (drop 1024 (segments_from ns text from)) (sym (ap apart parts) ∙ m.later z) in
          apart_append here there ∙ rw (x, u, w.first)

      go : (t : Bool) → apart (here ++ segments_from ns text at) ≡ t → false ≡ t
      go true q = absurd (true≢false (sym (pair q) ∙ sym stood ∙ e))
      go false q = refl

-- ---- a block against itself and each later one

module _ {ns : List (List ℕ)} {text : List ℕ} {at : ℕ} {xs ys : List ℕ} {b : Block} (p : BlockPut ns text at 1 xs ys b) (long : 8193 ≤ length xs) where
  block_stands : standing b.count ys ≡ block_at ns text at
  block_stands =
      let f = p.few in
      let c = p.counted in
      let z : 0 + length (block_at ns text at) ≡ b.count = omega arith in
      let h : 1 + 4 * 0 + 4 * length (block_at ns text at) ≤ length xs = omega arith in
      let s : standing (0 + length (block_at ns text at)) (sets xs 1 (segment_words (block_at ns text at))) ≡ standing 0 xs ++ block_at ns text at = standing_put 0 xs (block_at ns text at) h in
      ap₂ standing (sym z) p.words ∙ s ∙ ap (λ (l : List Segment). l ++ block_at ns text at) (standing_none xs)

  whole : apart (standing b.count ys ++ segments_from ns text b.next) ≡ apart (segments_from ns text at)
  whole = ap apart (ap (λ (l : List Segment). l ++ segments_from ns text b.next) block_stands ∙ sym (block_rest p.behind))

  pub block_told : (r : Bool) {o : Option ℕ} → (r && apart (segments_from ns text b.next)) ≡ apart (standing b.count ys ++ segments_from ns text b.next) → o ≡ then_some r b.next → BlockApart ns text at o
  block_told r {o} e q = rw q (go r (e ∙ whole))
    where
      go : (r : Bool) → (r && apart (segments_from ns text b.next)) ≡ apart (segments_from ns text at) → BlockApart ns text at (then_some r b.next)
      go true k = (k, p.behind)
      go false k = sym k

-- ---- block by block

pub record Going (ns : List (List ℕ)) (text : List ℕ) (at : ℕ) : Type 0 where
  pub lined : Lined text at
  pub todo : apart (segments_from ns text 0) ≡ apart (segments_from ns text at)

-- one pass has told it
pub all_spread : (ns : List (List ℕ)) (text : List ℕ) (r : Bool) → (r ≡ true → apart (map (segment_of ns) (lines_of text)) ≡ true) → r ≡ true → true ≡ apart (segments_from ns text 0)
unfolding segments_from
all_spread ns text r h t = sym (h t)

module _ {ns : List (List ℕ)} {text : List ℕ} {at : ℕ} (g : Going ns text at) where
  pub going_ends : length text ≤ at → true ≡ apart (segments_from ns text 0)
  unfolding apart
  going_ends h = sym (g.todo ∙ ap apart (segments_nothing ns text at h))
