-- The words in which the certificate, and behind it demand 3, are put. Each is a line or two over the definitions of 01.
use Rattle.std.specs.Prelude.{ℕ, ◌≤◌, ◌<◌, ◌≡◌, ◌⊎◌, ◌↔◌, true, false, length, take, Float}
use mathlib.Core.List.{List, [], ◌∷◌, ◌++◌, Memᴰ}
use Rattle.std.specs.Float.Ieee as Ieee
use Rattle.std.specs.Float.Ieee.Scale.{finite}
use Rattle.image.specs.Panel.{Panel, panel_of}
use Rattle.evaluate.specs.Properties.{Pairs, Neighbours, Matched}
use Rattle.graph.specs.Check.{panel_refusal}
use Rattle.evaluate.specs.Segments.{Assignment}
use Rattle.evaluate.specs.Words.{got, decode}
use Rattle.evaluate.specs.Legal.{Legal}
use Rattle.evaluate.specs.Check.{most_words}
use Rattle.search.specs.declared.SearchBudget.{SearchBudget}
use Rattle.search.specs.declared.SearchReply.{SearchReply}
use Rattle.search.specs.declared.Status.TheVariants.{Certified, SupportIncomplete}
use Rattle.search.specs.Budget.{budget_refusal}
use Rattle.search.specs.Run.{walk, natives_of}
use Rattle.search.specs.Counters.{status_number}
use Rattle.search.specs.Keep.{Kept, Evaluated, tied_to, evaluated}
use Rattle.search.specs.Search.{search}
use Rattle.search.specs.Rooms.{rooms_refusal}
use Rattle.search.specs.Answers.{Rooms}

-- ---- what is given

-- a panel that none of refusals 1 to 8 meets
abbrev pub PanelAccepted : List ℕ → Type 0
PanelAccepted s = panel_refusal s ≡ 0

-- words of an assignment within 01's bounds, with room for them in out
pub record Within (ws : List ℕ) (room : ℕ) (a : Assignment) : Type 0 where
  pub said : decode ws ≡ got a []
  pub few : length ws ≤ most_words
  pub fits : length ws ≤ room

-- what the search hands over for evaluation, in order
abbrev pub handed_over : List ℕ → SearchBudget → List Assignment
handed_over s b = (walk (panel_of s) b).walk.out

-- an evaluation's score is finite
abbrev pub FiniteScore : Assignment → Float → Type 0
FiniteScore a x = finite x ≡ true

-- the evaluations with their scores
abbrev pub evaluations : List ℕ → SearchBudget → List Float → List Evaluated
evaluations s b xs = evaluated (handed_over s b) xs

-- the search gives the assignment a the score x
abbrev pub Scores : List ℕ → SearchBudget → List Float → Assignment → Float → Type 0
Scores s b xs a x = Memᴰ (record { assignment = a; score = x }) (evaluations s b xs)

-- "equal scores for equal assignments": identical ones, of 0.0 and -0.0 too
abbrev pub Agreed : List ℕ → SearchBudget → List Float → Type 0
Agreed s b xs = (a : Assignment) (x y : Float) → Scores s b xs a x → Scores s b xs a y → x ≡ y

-- "an accepted panel, budget and rooms, at least one family, a finite score for every evaluation and equal scores for equal assignments"
pub record Admitted (s : List ℕ) (b : SearchBudget) (xs : List Float) (rooms : Rooms) : Type 0 where
  pub panel : PanelAccepted s
  pub budget : budget_refusal b ≡ 0
  pub roomy : rooms_refusal (panel_of s) b (length rooms.frames) (length rooms.kept) (length rooms.scores) ≡ 0
  pub families : 0 < length (panel_of s).families
  pub scored : Matched FiniteScore (handed_over s b) (take (length (handed_over s b)) xs)
  pub agreed : Agreed s b xs

-- ---- what is told

-- the status says that the domain is exhausted, with or without complete support
abbrev pub Exhausted : SearchReply → Type 0
Exhausted r = (r.status ≡ status_number Certified) ⊎ (r.status ≡ status_number SupportIncomplete)

-- no two are equal
abbrev pub NoTwo : {A : Type 0} → List A → Type 0
NoTwo l = Pairs (λ a b. a ≡ b → ⊥) l

-- "one native per family and after them each legal assignment exactly once", family by family
pub record NativesThenLegal (p : Panel) (out : List Assignment) : Type 0 where
  pub walked : List Assignment
  pub first : out ≡ natives_of p ++ walked
  pub legal : (a : Assignment) → Memᴰ a walked ↔ Legal p a
  pub once : NoTwo walked
  pub in_order : Neighbours (λ a c. a.family ≤ c.family) walked

-- what the search keeps
abbrev pub kept_by : List ℕ → SearchBudget → List Float → Kept Evaluated
kept_by s b xs = (search (panel_of s) b xs).state.kept

-- a legal assignment with its score, and "no legal assignment scores below" it
pub record Least (s : List ℕ) (b : SearchBudget) (xs : List Float) (i : Evaluated) : Type 0 where
  pub legal : Legal (panel_of s) i.assignment
  pub scores : Scores s b xs i.assignment i.score
  pub none : (a : Assignment) (x : Float) → Legal (panel_of s) a → Scores s b xs a x → Ieee.lt x i.score ≡ false

-- a legal assignment with its score, which is "within the tie width by 01's subtraction" of the incumbent's
pub record Ties (s : List ℕ) (b : SearchBudget) (xs : List Float) (i e : Evaluated) : Type 0 where
  pub legal : Legal (panel_of s) e.assignment
  pub scores : Scores s b xs e.assignment e.score
  pub near : tied_to i.score b.tie_width e.score ≡ true

-- "in the order in which they were first handed over": a is handed over before c ever is
pub record Earlier (out : List Assignment) (a c : Assignment) : Type 0 where
  pub before : List Assignment
  pub after : List Assignment
  pub split : out ≡ before ++ (a ∷ after)
  pub none : Memᴰ c before → ⊥

-- a complete list: it holds exactly what belongs to it, no assignment twice, in the order in which they were first handed over; `of` tells
-- the assignment of each
pub record Complete {A : Type 0} (of : A → Assignment) (out : List Assignment) (Belongs : A → Type 0) (l : List A) : Type 0 where
  pub exact : (a : A) → Memᴰ a l ↔ Belongs a
  pub once : Pairs (λ a c. of a ≡ of c → ⊥) l
  pub in_order : Pairs (λ a c. Earlier out (of a) (of c)) l

-- the assignment of an evaluation
abbrev pub assignment_of : Evaluated → Assignment
assignment_of e = e.assignment
