-- A larger budget only adds (02, item 13): what a second run with a larger budget has of the first.
use Rattle.std.specs.Prelude.{ℕ, ◌≤◌, ◌≡◌, ◌⊎◌, true, length, take, Float}
use mathlib.Core.List.{List, [], ◌∷◌, ◌++◌, Memᴰ}
use Rattle.std.specs.Float.Ieee as Ieee
use Rattle.evaluate.specs.Segments.{Assignment}
use Rattle.search.specs.declared.SearchBudget.{SearchBudget}
use Rattle.search.specs.declared.SearchReply.{SearchReply}
use Rattle.search.specs.declared.ListReply.{ListReply}
use Rattle.search.specs.declared.Status.TheVariants.{Certified}
use Rattle.search.specs.Budget.{WalkNoSmaller}
use Rattle.search.specs.Counters.{status_number}
use Rattle.search.specs.Keep.{Evaluated, score_of, ties_to}
use Rattle.search.specs.Answers.{Rooms, ListRooms, search_answer, search_rooms, list_answer, list_rooms}
use Rattle.certificate.specs.Terms.{Agreed, Exhausted, handed_over, kept_by}

-- "no budget smaller, tie width the same": as a number, so -0.0 and 0.0 are the same
pub record NoSmaller (b c : SearchBudget) : Type 0 where
  pub walk : WalkNoSmaller b c
  pub optima : b.max_optima ≤ c.max_optima
  pub width : Ieee.eq b.tie_width c.tie_width ≡ true

-- i is the smaller run's incumbent, j the larger's: it "scores no higher", and is the same one unless it scores lower
pub record NoWorse (i j : Evaluated) : Type 0 where
  pub no_higher : Ieee.le j.score i.score ≡ true
  pub same_or_lower : (j ≡ i) ⊎ (Ieee.lt j.score i.score ≡ true)

-- "the same counters", all nine
pub record SameCounters (q r : SearchReply) : Type 0 where
  pub work : r.work ≡ q.work
  pub evaluations : r.evaluations ≡ q.evaluations
  pub natives : r.natives ≡ q.natives
  pub donors : r.donors ≡ q.donors
  pub non_native : r.non_native ≡ q.non_native
  pub mixed : r.mixed ≡ q.mixed
  pub mixed_identity : r.mixed_identity ≡ q.mixed_identity
  pub switches : r.switches ≡ q.switches
  pub families : r.families ≡ q.families

-- max_optima is what it was, or nothing was discarded
abbrev pub Roomy : SearchBudget → SearchBudget → SearchReply → Type 0
Roomy b c q = (c.max_optima ≡ b.max_optima) ⊎ (q.discarded ≡ 0)

-- the reply is the smaller run's in all its fields, and the same is kept: incumbent, tied list and discarded mark
pub record AsItWas (s : List ℕ) (b c : SearchBudget) (xs : List Float) (q r : SearchReply) : Type 0 where
  pub reply : r ≡ q
  pub kept : kept_by s c xs ≡ kept_by s b xs

-- what the run under c, with reply r, has of the run under b, with reply q
pub record OnlyAdds (s : List ℕ) (b c : SearchBudget) (xs : List Float) (q r : SearchReply) : Type 0 where
  -- "The assignments handed over by the smaller run are the first of those of the larger"
  pub more : List Assignment
  pub handed : handed_over s c ≡ handed_over s b ++ more
  -- there is an incumbent if the smaller run had one, and it is no worse
  pub incumbent : (i : Evaluated) → (kept_by s b xs).best ≡ i ∷ [] → (j : Evaluated) × ((kept_by s c xs).best ≡ j ∷ []) × NoWorse i j
  -- "an exhausted run stays exhausted with the same counters"; it hands over no more, and has its incumbent
  pub exhausted : Exhausted q → Exhausted r
  pub counters : Exhausted q → SameCounters q r
  pub no_more : Exhausted q → handed_over s c ≡ handed_over s b
  pub best : Exhausted q → (kept_by s c xs).best ≡ (kept_by s b xs).best
  -- a certified run stays as it was, even if max_optima is larger; so does an exhausted one with max_optima the same or nothing discarded
  pub certified : q.status ≡ status_number Certified → AsItWas s b c xs q r
  pub settled : Exhausted q → Roomy b c q → AsItWas s b c xs q r
  -- of any run with max_optima the same or nothing discarded: what was tied and is within the tie width of the new incumbent stays tied,
  -- in its order, and what is new comes behind it
  pub stay : Roomy b c q → (j : Evaluated) → (kept_by s c xs).best ≡ j ∷ []
      → (new : List Evaluated) × ((kept_by s c xs).tied ≡ ties_to score_of j.score b.tie_width (kept_by s b xs).tied ++ new)
  -- with max_optima larger and some discarded: if no more is handed over, and equal assignments have identical scores, what was tied stays tied
  pub none_lost : handed_over s c ≡ handed_over s b → Agreed s b xs → (e : Evaluated) → Memᴰ e (kept_by s b xs).tied → Memᴰ e (kept_by s c xs).tied
  -- with max_optima the same a discarded mark stays
  pub marked : c.max_optima ≡ b.max_optima → q.discarded ≡ 1 → r.discarded ≡ 1

-- "same panel and score list, both runs first ones and unrefused, no budget smaller, tie width the same"; each run has rooms of its own
abbrev pub LargerOnlyAdds : Type 0
LargerOnlyAdds =
    (s : List ℕ) (b c : SearchBudget) (xs : List Float) (rooms others : Rooms)
    → (search_answer s b xs rooms).refusal ≡ 0 → (search_answer s c xs others).refusal ≡ 0 → NoSmaller b c
    → OnlyAdds s b c xs (search_answer s b xs rooms) (search_answer s c xs others)

-- "same score list": scores behind those that a run asks for change nothing of it, so a list that grows with the budget serves as one
abbrev pub ScoresBehind : Type 0
ScoresBehind =
    (s : List ℕ) (b : SearchBudget) (xs more : List Float) (rooms : Rooms) → (search_answer s b xs rooms).refusal ≡ 0
    → (search_answer s b (xs ++ more) rooms ≡ search_answer s b xs rooms) × (search_rooms s b (xs ++ more) rooms ≡ search_rooms s b xs rooms)

-- What a run hands over, the listing lists: with as much room, the listing under c begins with that under b.
pub record ListsFirst (q r : ListReply) (out others : List ℕ) : Type 0 where
  pub evaluations : q.evaluations ≤ r.evaluations
  pub written : q.written ≤ r.written
  pub words : q.words ≤ r.words
  pub first : take q.words others ≡ take q.words out

abbrev pub LargerListsMore : Type 0
LargerListsMore =
    (s : List ℕ) (b c : SearchBudget) (from : ℕ) (rooms others : ListRooms)
    → (list_answer s b from rooms).refusal ≡ 0 → (list_answer s c from others).refusal ≡ 0 → WalkNoSmaller b c → length rooms.out ≤ length others.out
    → ListsFirst (list_answer s b from rooms) (list_answer s c from others) (list_rooms s b from rooms).out (list_rooms s c from others).out
