-- Where an assignment and its score stand in the lent rooms after a search (01, "Room left behind").
use Rattle.std.specs.Prelude.{ℕ, suc, ◌*◌, ◌<◌, ◌≡◌, List, length, take, drop, get_or, Float}
use Rattle.evaluate.specs.Words.{encode}
use Rattle.search.specs.Budget.{zero_score}
use Rattle.search.specs.Keep.{Evaluated}
use Rattle.search.specs.Rooms.{pad_to}
use Rattle.search.specs.Answers.{Rooms}

-- slot n of the kept room, of v words
abbrev pub slot_at : ℕ → Rooms → ℕ → List ℕ
slot_at v rooms n = take v (drop (n * v) rooms.kept)

-- kept score n
abbrev pub score_at : Rooms → ℕ → Float
score_at rooms n = get_or rooms.scores n zero_score

-- slot n, of v words, has the evaluation e: the words of its assignment, filled up with zeros, and its score
pub record InSlot (v : ℕ) (rooms : Rooms) (n : ℕ) (e : Evaluated) : Type 0 where
  pub words : slot_at v rooms n ≡ pad_to v (encode e.assignment)
  pub score : score_at rooms n ≡ e.score

-- the slots behind slot 0 have the list l, as many as the reply says; `In n a` says that slot n has a
pub record Behind {A : Type 0} (In : ℕ → A → Type 0) (optima : ℕ) (l : List A) : Type 0 where
  pub many : optima ≡ length l
  pub slots : (d : A) (j : ℕ) → j < length l → In (suc j) (get_or l j d)
