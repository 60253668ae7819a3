-- A larger budget only adds (02, item 13), of two runs of the exported search on one panel and one score list: the budgets b and c, the
-- replies q and r, and each run's rooms as they stand afterwards.
use Rattle.std.specs.Prelude.{ℕ, ◌≤◌, ◌<◌, ◌≡◌, length, take, Float}
use mathlib.Core.List.{List, ◌++◌, Memᴰ}
use Rattle.image.specs.Panel.{panel_of}
use Rattle.search.specs.declared.SearchBudget.{SearchBudget}
use Rattle.search.specs.declared.SearchReply.{SearchReply}
use Rattle.search.specs.declared.Status.TheVariants.{Certified}
use Rattle.search.specs.Counters.{status_number}
use Rattle.search.specs.Keep.{Evaluated, score_of, ties_to}
use Rattle.search.specs.Rooms.{slot_width}
use Rattle.search.specs.Answers.{Rooms}
use Rattle.certificate.specs.Terms.{Agreed, Exhausted, handed_over}
use Rattle.certificate.specs.Slots.{InSlot, Behind}
use Rattle.certificate.specs.Larger.{NoSmaller, NoWorse, SameCounters, Roomy}

-- neither run was refused, and no budget of the second is smaller
pub record Raised (b c : SearchBudget) (q r : SearchReply) : Type 0 where
  pub first : q.refusal ≡ 0
  pub second : r.refusal ≡ 0
  pub budgets : NoSmaller b c

-- what both rooms hold
pub record Held (s : List ℕ) (b c : SearchBudget) (xs : List Float) (after later : Rooms) (q r : SearchReply) : Type 0 where
  -- slot 0 and score 0: the incumbent of the first run, and that of the second
  pub old : Evaluated
  pub new : Evaluated
  pub old_slot : InSlot (slot_width (panel_of s) b) after 0 old
  pub new_slot : InSlot (slot_width (panel_of s) c) later 0 new
  pub no_worse : NoWorse old new
  pub same : Exhausted q → new ≡ old
  -- the tied lists
  pub old_tied : List Evaluated
  pub new_tied : List Evaluated
  pub old_slots : Behind (InSlot (slot_width (panel_of s) b) after) q.optima old_tied
  pub new_slots : Behind (InSlot (slot_width (panel_of s) c) later) r.optima new_tied
  pub certified : q.status ≡ status_number Certified → new_tied ≡ old_tied
  pub settled : Exhausted q → Roomy b c q → new_tied ≡ old_tied
  pub stay : Roomy b c q → (more : List Evaluated) × (new_tied ≡ ties_to score_of new.score b.tie_width old_tied ++ more)
  pub none_lost : r.evaluations ≡ q.evaluations → Agreed s b xs → (e : Evaluated) → Memᴰ e old_tied → Memᴰ e new_tied

-- what the second run has of the first
pub record Added (s : List ℕ) (b c : SearchBudget) (xs : List Float) (after later : Rooms) (q r : SearchReply) : Type 0 where
  -- each run hands over as many as its reply says, and the first run's are the first of the second's
  pub counted : q.evaluations ≡ length (handed_over s b)
  pub counted_again : r.evaluations ≡ length (handed_over s c)
  pub no_fewer : q.evaluations ≤ r.evaluations
  pub handed : handed_over s b ≡ take q.evaluations (handed_over s c)
  -- with an evaluation there is an incumbent
  pub held : 0 < q.evaluations → Held s b c xs after later q r
  -- an exhausted run stays exhausted with the same counters
  pub exhausted : Exhausted q → Exhausted r
  pub counters : Exhausted q → SameCounters q r
  -- certified, or exhausted with nothing discarded or max_optima the same: the reply is the same in all its fields
  pub certified : q.status ≡ status_number Certified → r ≡ q
  pub settled : Exhausted q → Roomy b c q → r ≡ q
  pub marked : c.max_optima ≡ b.max_optima → q.discarded ≡ 1 → r.discarded ≡ 1

-- A LARGER BUDGET ONLY ADDS
abbrev pub RaisedOnlyAdds : List ℕ → SearchBudget → SearchBudget → List Float → Rooms → Rooms → SearchReply → SearchReply → Type 0
RaisedOnlyAdds s b c xs after later q r = Raised b c q r → Added s b c xs after later q r
