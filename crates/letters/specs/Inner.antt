-- What inner functions promise each other; nothing here is part of a public promise.
use Rattle.std.specs.Prelude.{ℕ, ◌<◌, ◌≡◌, List, length, take, get_or}
use Rattle.ground.specs.Lists.{sum}
use Rattle.image.specs.declared.Header.{Header}
use Rattle.image.specs.Panel.{panel_of}
use Rattle.panel.specs.Inner.{Accepted}
use Rattle.letters.specs.Letters.{lengths}

-- the letters of an accepted panel are as many as its lanes are long
pub record Lettered (s : List ℕ) (h : Header) (d : List ℕ) : Type 0 where
  pub accepted : Accepted s h
  pub total : sum (lengths (panel_of s)) ≡ length d

-- a table of where each lane's letters begin
pub record Based (s : List ℕ) (h : Header) (d bases : List ℕ) : Type 0 where
  pub lettered : Lettered s h d
  pub each : (i : ℕ) → i < h.lanes → get_or bases i 0 ≡ sum (take i (lengths (panel_of s)))
