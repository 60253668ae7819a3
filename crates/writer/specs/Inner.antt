-- The words of an assignment as they are written; nothing here is part of a public promise.
use Rattle.std.specs.Prelude.{ℕ, suc, ◌+◌, ◌≤◌, ◌<◌, ◌≡◌, List, [], ◌∷◌, ◌++◌, length, set, drop}
use Rattle.std.proofs.lemmas.List.Edits.{sets}
use Rattle.evaluate.specs.declared.Segment.{Segment}
use Rattle.evaluate.specs.Words.{segment_words, route_words}
use Rattle.frames.specs.Inner.{Path, path_at}
use Rattle.writer.specs.declared.Pen.{Pen}

unfoldable pub segment_put : List ℕ → ℕ → Segment → List ℕ
segment_put xs at s = sets xs at (segment_words (s ∷ []))

unfoldable pub whole_put : List ℕ → ℕ → ℕ → ℕ → List ℕ
whole_put xs at lane len = sets xs at (1 ∷ lane ∷ 0 ∷ len ∷ 0 ∷ [])

unfoldable pub begun : List ℕ → ℕ → List ℕ
begun xs family = sets xs 0 (family ∷ 1 ∷ 0 ∷ [])

-- the words of a path: its routes, the one in hand the last
abbrev pub path_words : ℕ → Path → List ℕ
path_words family a = family ∷ suc (length a.routes) ∷ (route_words a.routes ++ (length a.route ∷ segment_words a.route))

-- what is written is the words of the path; the rest of the room is as it was
pub record Penned (family : ℕ) (a : Path) (zs xs : List ℕ) (p : Pen) : Type 0 where
  pub words : xs ≡ path_words family a ++ drop (length (path_words family a)) zs
  pub head : p.head ≡ 2 + length (route_words a.routes)
  pub at : p.at ≡ length (path_words family a)
  pub count : p.count ≡ length a.route
  pub routes : p.routes ≡ suc (length a.routes)

-- room for n words more
pub record Roomy (xs : List ℕ) (p : Pen) (n : ℕ) : Type 0 where
  pub room : p.at + n ≤ length xs
  pub second : 1 < p.head
  pub head : p.head < p.at
  pub count : p.count < p.at
  pub routes : p.routes < p.at

pub record Added (xs ys : List ℕ) (p : Pen) (s : Segment) (r : Pen) : Type 0 where
  pub room : ys ≡ set (segment_put xs p.at s) p.head (p.count + 1)
  pub pen : r ≡ record { head = p.head; at = p.at + 4; count = p.count + 1; routes = p.routes }

pub record Opened (xs ys : List ℕ) (p : Pen) (r : Pen) : Type 0 where
  pub room : ys ≡ set (set xs p.at 0) 1 (p.routes + 1)
  pub pen : r ≡ record { head = p.at; at = p.at + 1; count = 0; routes = p.routes + 1 }

-- one piece further on the path of the frames
pub record Pieced (frames : List ℕ) (i : ℕ) (xs ys : List ℕ) (p r : Pen) : Type 0 where
  pub on : (family : ℕ) (zs : List ℕ) → Penned family (path_at frames i) zs xs p → Penned family (path_at frames (i + 1)) zs ys r

-- the room begins with these words, and the rest is as it was
pub record Written (words : List ℕ) (xs ys : List ℕ) (r : ℕ) : Type 0 where
  pub room : ys ≡ words ++ drop (length words) xs
  pub count : r ≡ length words
