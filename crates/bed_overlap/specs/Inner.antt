-- The segments of a text's lines, and what the functions that hold them against each other block by block promise; only `segments_from` is part of a public promise.
use Rattle.std.specs.Prelude.{ℕ, ◌≤◌, ◌<◌, ◌≡◌, Bool, true, false, Option, MatchOption, List, ◌++◌, map, length, take, drop, set}
use Rattle.std.proofs.lemmas.List.Edits.{sets}
use Rattle.evaluate.specs.declared.Segment.{Segment}
use Rattle.evaluate.specs.Segments.{apart}
use Rattle.evaluate.specs.Words.{segment_words}
use Rattle.words.specs.Inner.{segments_of}
use Rattle.names.specs.Names.{lines_of}
use Rattle.rows.specs.Rows.{segment_of}
use Rattle.texts.specs.Inner.{Lined}
use Rattle.bed_overlap.specs.declared.Block.{Block}

-- the segments of the lines from a place on
unfoldable pub segments_from : List (List ℕ) → List ℕ → ℕ → List Segment
segments_from ns text at = map (segment_of ns) (lines_of (drop at text))

-- those of the block that begins there
unfoldable pub block_at : List (List ℕ) → List ℕ → ℕ → List Segment
block_at ns text at = take 1024 (segments_from ns text at)

-- the place behind a block
pub record Behind (ns : List (List ℕ)) (text : List ℕ) (at next : ℕ) : Type 0 where
  pub rest : segments_from ns text next ≡ drop 1024 (segments_from ns text at)
  pub lined : Lined text next
  pub order : at ≤ next
  pub further : at < length text → at < next

-- the words of a block have been put from `to` on
pub record BlockPut (ns : List (List ℕ)) (text : List ℕ) (at to : ℕ) (xs ys : List ℕ) (r : Block) : Type 0 where
  pub words : ys ≡ sets xs to (segment_words (block_at ns text at))
  pub counted : r.count ≡ length (block_at ns text at)
  pub few : r.count ≤ 1024
  pub behind : Behind ns text at r.next

-- the segments that stand in a room, its first word aside
unfoldable pub standing : ℕ → List ℕ → List Segment
standing n xs = segments_of n (drop 1 xs)

-- whether no two of them share a base; their count has been put before them
pub record FirstApart (count : ℕ) (xs ys : List ℕ) (r : Bool) : Type 0 where
  pub told : r ≡ apart (standing count xs)
  pub words : ys ≡ set xs 0 count

-- the same of them and a block put behind them: where they do not, the place behind the block
pub record NextApart (ns : List (List ℕ)) (text : List ℕ) (at count : ℕ) (xs ys : List ℕ) (r : Option ℕ) : Type 0 where
  pub told : MatchOption r (apart (standing count xs ++ block_at ns text at) ≡ false) (λ next. (apart (standing count xs ++ block_at ns text at) ≡ true) × Behind ns text at next)
  pub same : standing count ys ≡ standing count xs

-- a block is clear of itself and of all behind it, and the place behind it, or two share a base
abbrev pub BlockApart : List (List ℕ) → List ℕ → ℕ → Option ℕ → Type 0
BlockApart ns text at r = MatchOption r (apart (segments_from ns text at) ≡ false) (λ next. (apart (segments_from ns text next) ≡ apart (segments_from ns text at)) × Behind ns text at next)
