-- The certificate's sister sentences, of one call each: the exported listing, by which a user learns what to score, and the exported check.
-- Below, s is the panel's bytes, b the budget, r the reply.
use Rattle.std.specs.Prelude.{ℕ, ◌+◌, ◌≤◌, ◌<◌, ◌≡◌, ◌↔◌, List, ◌∷◌, map, length, take, drop}
use Rattle.image.specs.Panel.{panel_of}
use Rattle.evaluate.specs.declared.AssignmentReply.{AssignmentReply}
use Rattle.evaluate.specs.Segments.{Assignment, normal_form, flat}
use Rattle.evaluate.specs.Words.{encode}
use Rattle.evaluate.specs.Legal.{Legal, SoundSpans}
use Rattle.evaluate.specs.Check.{most_words, over}
use Rattle.search.specs.declared.SearchBudget.{SearchBudget}
use Rattle.search.specs.declared.ListReply.{ListReply}
use Rattle.search.specs.declared.Status.TheVariants.{Certified}
use Rattle.search.specs.Run.{Unbudgeted, Suffices}
use Rattle.search.specs.Counters.{status_number}
use Rattle.search.specs.Rooms.{slot_width}
use Rattle.certificate.specs.Terms.{PanelAccepted, handed_over, NativesThenLegal}

-- ---- the listing

-- what is on a page: of the assignments handed over, in order, so many behind the first `from`
abbrev pub page : List ℕ → SearchBudget → ℕ → ℕ → List Assignment
page s b from many = take many (drop from (handed_over s b))

-- what a listing tells that was not refused; `out` is lent for a page, `after` is out at exit
pub record Listed (s : List ℕ) (b : SearchBudget) (from : ℕ) (out after : List ℕ) (r : ListReply) : Type 0 where
  -- so many scores the search wants, one for each assignment handed over
  pub evaluations : r.evaluations ≡ length (handed_over s b)
  -- so many are on the page
  pub count : r.written ≡ length (page s b from r.written)
  -- out begins with their words, one assignment behind the other; the rest stays
  pub words : after ≡ over (flat (map encode (page s b from r.written))) out
  pub many : r.words ≡ length (flat (map encode (page s b from r.written)))
  -- the page is the longest that fits: of what is left, the next one does not
  pub left : (a : Assignment) (rest : List Assignment) → drop (from + r.written) (handed_over s b) ≡ a ∷ rest → length out < r.words + length (encode a)
  -- into a slot's room each of them fits, so pages go on until all are listed
  pub more : slot_width (panel_of s) b ≤ length out → from < r.evaluations → 0 < r.written
  -- the walk without budgets ends
  pub ends : Unbudgeted (panel_of s)
  -- the status is 1 exactly when the three budgets suffice against it
  pub when : (u : Unbudgeted (panel_of s)) → (r.status ≡ status_number Certified) ↔ Suffices (panel_of s) b u
  -- and then what is listed is one native per family and after them each legal assignment exactly once
  pub whole : r.status ≡ status_number Certified → NativesThenLegal (panel_of s) (handed_over s b)

-- THE LISTING'S SENTENCE
abbrev pub Listing : List ℕ → SearchBudget → ℕ → List ℕ → List ℕ → ListReply → Type 0
Listing s b from out after r = r.refusal ≡ 0 → Listed s b from out after r

-- ---- the check

-- the words ws say an assignment that is legal but for its neighbours not yet joined
pub record Accepts (s ws : List ℕ) (room : ℕ) : Type 0 where
  -- the panel is one that no refusal meets
  pub panel : PanelAccepted s
  -- there are not too many words, and there is room for them
  pub few : length ws ≤ most_words
  pub fits : length ws ≤ room
  -- they are the words of an assignment
  pub assignment : Assignment
  pub words : ws ≡ encode assignment
  -- whose spans are sound and whose normal form is legal
  pub spans : SoundSpans (panel_of s) assignment
  pub legal : Legal (panel_of s) (normal_form assignment)

-- THE CHECK'S SENTENCE, of every call: `out` lent, `after` at exit
pub record Judged (s ws out after : List ℕ) (r : AssignmentReply) : Type 0 where
  -- it accepts exactly these
  pub accepts : (r.refusal ≡ 0) ↔ Accepts s ws (length out)
  -- out then begins with the words of the normal form; the rest stays
  pub normal : (a : Assignment) → ws ≡ encode a → r.refusal ≡ 0 → after ≡ over (encode (normal_form a)) out
  pub many : (a : Assignment) → ws ≡ encode a → r.refusal ≡ 0 → r.words ≡ length (encode (normal_form a))
  -- the words of a legal assignment are accepted and come back as they are
  pub legal : (a : Assignment) → ws ≡ encode a → PanelAccepted s → Legal (panel_of s) a → length ws ≤ most_words → length ws ≤ length out → (r.refusal ≡ 0) × (after ≡ over ws out)
  -- a refusal changes nothing
  pub none : (r.refusal ≡ 0 → ⊥) → after ≡ out
