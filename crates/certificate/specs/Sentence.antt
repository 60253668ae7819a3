-- THE CERTIFICATE IN ONE SENTENCE, of one run of the exported search, over f, the users' scoring function; lower is better. Below, s is the
-- panel's bytes, b the budget, xs the lent scores, r the reply, and after the lent rooms at exit.
use Rattle.std.specs.Prelude.{ℕ, ◌<◌, ◌≡◌, ◌↔◌, true, false, length, take, Float}
use mathlib.Core.List.{List, Memᴰ}
use Rattle.std.specs.Float.Ieee as Ieee
use Rattle.std.specs.Float.{binary64}
use Rattle.image.specs.Panel.{Panel, panel_of}
use Rattle.evaluate.specs.Properties.{Matched}
use Rattle.evaluate.specs.Segments.{Assignment}
use Rattle.evaluate.specs.Words.{encode}
use Rattle.evaluate.specs.Legal.{Legal}
use Rattle.search.specs.declared.SearchBudget.{SearchBudget}
use Rattle.search.specs.declared.SearchReply.{SearchReply}
use Rattle.search.specs.declared.Status.TheVariants.{Certified}
use Rattle.search.specs.Run.{Unbudgeted, Suffices}
use Rattle.search.specs.Counters.{status_number}
use Rattle.search.specs.Rooms.{pad_to, slot_width}
use Rattle.search.specs.Answers.{Rooms}
use Rattle.certificate.specs.Terms.{handed_over, Exhausted, NativesThenLegal, NoTwo, Complete}
use Rattle.certificate.specs.Slots.{slot_at, score_at, Behind}

-- the scores are f's: for each assignment of out there is one, and it equals f's as doubles do (0.0 and -0.0 are equal)
abbrev pub ScoredBy : (Assignment → Float) → List Assignment → List Float → Type 0
ScoredBy f out xs = Matched (λ a x. Ieee.eq x (f a) ≡ true) out (take (length out) xs)

-- a is tied with i
pub record Tied (f : Assignment → Float) (p : Panel) (width : Float) (i a : Assignment) : Type 0 where
  -- a is a legal assignment
  pub legal : Legal p a
  -- its score minus that of i, by one double subtraction, is within the tie width
  pub near : Ieee.le (Ieee.sub binary64 (f a) (f i)) width ≡ true

-- i is the best by f of all legal assignments of the panel p, and all of the tied list are tied with it
pub record Best (f : Assignment → Float) (p : Panel) (width : Float) (i : Assignment) (tied : List Assignment) : Type 0 where
  -- i is a legal assignment, and no legal assignment has a score below that of i
  pub legal : Legal p i
  pub least : (a : Assignment) → Legal p a → Ieee.lt (f a) (f i) ≡ false
  -- each of the tied list is tied with i, and none is there twice
  pub within : (a : Assignment) → Memᴰ a tied → Tied f p width i a
  pub once : NoTwo tied

-- slot n, of v words, has a and its score
pub record Slot (f : Assignment → Float) (v : ℕ) (after : Rooms) (n : ℕ) (a : Assignment) : Type 0 where
  -- the words of a, filled up with zeros
  pub words : slot_at v after n ≡ pad_to v (encode a)
  -- a score that equals f's of a, as doubles do
  pub score : Ieee.eq (score_at after n) (f a) ≡ true

-- what the rooms hold
pub record Found (f : Assignment → Float) (s : List ℕ) (b : SearchBudget) (after : Rooms) (r : SearchReply) : Type 0 where
  -- slot 0 has the incumbent, the slots behind it the tied list
  pub incumbent : Assignment
  pub tied : List Assignment
  pub slot : Slot f (slot_width (panel_of s) b) after 0 incumbent
  pub behind : Behind (Slot f (slot_width (panel_of s) b) after) r.optima tied
  -- they are the best
  pub best : Best f (panel_of s) b.tie_width incumbent tied
  -- and with status 1 an assignment is in the tied list exactly when it is tied with the incumbent, each once, in the order in which they were
  -- first handed over
  pub complete : r.status ≡ status_number Certified → Complete (λ a. a) (handed_over s b) (Tied f (panel_of s) b.tie_width incumbent) tied

-- what a run tells that was not refused
pub record Certificate (s : List ℕ) (b : SearchBudget) (xs : List Float) (after : Rooms) (r : SearchReply) : Type 0 where
  -- the walk without budgets ends
  pub ends : Unbudgeted (panel_of s)
  -- the status is 1 or 2 exactly when the three budgets suffice against it
  pub when : (u : Unbudgeted (panel_of s)) → Exhausted r ↔ Suffices (panel_of s) b u
  -- as many evaluations as assignments handed over
  pub counted : r.evaluations ≡ length (handed_over s b)
  -- with status 1 or 2 these are one native per family and after them each legal assignment exactly once
  pub evaluated : Exhausted r → NativesThenLegal (panel_of s) (handed_over s b)
  -- and where there is a family, the rooms hold the best of them, by every scoring function with which the lent scores agree
  pub found : Exhausted r → 0 < length (panel_of s).families → (f : Assignment → Float) → ScoredBy f (handed_over s b) xs → Found f s b after r

-- THE SENTENCE
abbrev pub Sentence : List ℕ → SearchBudget → List Float → Rooms → SearchReply → Type 0
Sentence s b xs after r = r.refusal ≡ 0 → Certificate s b xs after r
