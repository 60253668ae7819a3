-- Room left behind, word for word (01, section of that name), and refusal 13.
use Rattle.std.specs.Prelude.{ℕ, ◌+◌, ◌*◌, ◌-◌, max, Bool, true, ◌&&◌, ◌||◌, List, [], ◌∷◌, ◌++◌, map, leb, eqb, length, replicate, Float}
use Rattle.ground.specs.Lists.{pick}
use Rattle.image.specs.Panel.{Panel}
use Rattle.evaluate.specs.declared.Segment.{Segment}
use Rattle.evaluate.specs.Refusals.{unless}
use Rattle.evaluate.specs.Segments.{flat}
use Rattle.evaluate.specs.Words.{bit, encode}
use Rattle.evaluate.specs.Check.{over}
use Rattle.search.specs.declared.SearchBudget.{SearchBudget}
use Rattle.search.specs.Budget.{zero_score}
use Rattle.search.specs.Walk.{Place, Frame, on_path}
use Rattle.search.specs.Run.{Ending, exhausted, on_work, on_evaluation, on_frontier}
use Rattle.search.specs.Keep.{Kept, Evaluated, score_of}

-- with zeros behind, up to n words
abbrev pub pad_to : ℕ → List ℕ → List ℕ
pad_to n l = l ++ replicate (n - length l) 0

-- ---- frame room

-- "records of 10 words"
abbrev pub frame_width : ℕ
frame_width = 10

-- "start and end of the piece leading here (0, 0 at the root)"
abbrev pub piece_here : List Segment → List ℕ
piece_here [] = 0 ∷ 0 ∷ []
piece_here (s ∷ []) = s.start ∷ s.end ∷ []
piece_here (s ∷ t ∷ l) = piece_here (t ∷ l)

-- "slot, source, cut, reverse, terminal pending, next port + 1, hub next and end", and the piece
abbrev pub place_words : Place → Bool → ℕ → ℕ → ℕ → List ℕ
place_words a terminal next lo hi =
    a.slot ∷ a.source ∷ a.cut ∷ bit a.reverse ∷ bit terminal ∷ next ∷ lo ∷ hi ∷ piece_here (on_path a)

abbrev pub frame_words : Frame → List ℕ
frame_words f = place_words f.place f.terminal f.next f.hub_next f.hub_end

-- the frames as they lie, the root first
unfoldable pub stack_words : List Frame → List ℕ
stack_words [] = []
stack_words (f ∷ rest) = stack_words rest ++ frame_words f

-- "A pending child follows the frames, terminal pending 1, port and hub words 0."
abbrev pub pending_words : Ending → List ℕ
pending_words exhausted = []
pending_words on_work = []
pending_words on_evaluation = []
pending_words (on_frontier a) = place_words a true 0 0 0

-- "max_frontier + 1 records"
abbrev pub frames_needed : SearchBudget → ℕ
frames_needed b = (b.max_frontier + 1) * frame_width

unfoldable pub frames_left : SearchBudget → Ending → List Frame → List ℕ
frames_left b e stack = pad_to (frames_needed b) (stack_words stack ++ pending_words e)

-- ---- kept room and kept scores

-- "P the most paths of a family or 0"
unfoldable pub most_paths : List (List ℕ) → ℕ
most_paths [] = 0
most_paths (paths ∷ l) = max (length paths) (most_paths l)

-- "R the larger of max_frontier and P", "V = 2 + P + 4R words"
abbrev pub width_for : ℕ → ℕ → ℕ
width_for paths frontier = 2 + paths + 4 * max frontier paths

unfoldable pub slot_width : Panel → SearchBudget → ℕ
slot_width p b = width_for (most_paths p.families) b.max_frontier

-- an assignment in its slot of v words
abbrev pub slot_words : ℕ → Evaluated → List ℕ
slot_words v e = pad_to v (encode e.assignment)

-- "max_optima + 2 slots (incumbent, tied optima in order, a spare)"
abbrev pub kept_needed : Panel → SearchBudget → ℕ
kept_needed p b = (b.max_optima + 2) * slot_width p b

-- "Unused needed words and the spare are 0."
unfoldable pub kept_left : Panel → SearchBudget → Kept Evaluated → List ℕ
kept_left p b k =
    pad_to (kept_needed p b)
    (pad_to (slot_width p b) (flat (map (slot_words (slot_width p b)) k.best)) ++ flat (map (slot_words (slot_width p b)) k.tied))

-- "Kept scores: max_optima + 1 doubles, in slot order."
abbrev pub scores_needed : SearchBudget → ℕ
scores_needed b = b.max_optima + 1

abbrev pub pad_scores : ℕ → List Float → List Float
pad_scores n l = l ++ replicate (n - length l) zero_score

unfoldable pub kept_scores_left : SearchBudget → Kept Evaluated → List Float
kept_scores_left b k = pad_scores (scores_needed b) (pad_scores 1 (map score_of k.best) ++ map score_of k.tied)

-- ---- 13, and a room at exit

-- 13: "a lent room shorter than stated"
unfoldable pub rooms_refusal : Panel → SearchBudget → ℕ → ℕ → ℕ → ℕ
rooms_refusal p b frames kept scores = unless (leb (frames_needed b) frames && leb (kept_needed p b) kept && leb (scores_needed b) scores) 13 0

-- "Listing needs the frame room and one slot V"
unfoldable pub list_rooms_refusal : Panel → SearchBudget → ℕ → ℕ → ℕ
list_rooms_refusal p b frames slot = unless (leb (frames_needed b) frames && leb (slot_width p b) slot) 13 0

-- "On 14 and 15 the needed words of every lent room are zero; other refusals change no buffer. Words past the needed part are never written."
abbrev pub clears : ℕ → Bool
clears number = eqb number 14 || eqb number 15

unfoldable pub left_in : {A : Type 0} → ℕ → List A → List A → List A → List A
left_in number words zeros room = pick (eqb number 0) (over words room) (pick (clears number) (over zeros room) room)
