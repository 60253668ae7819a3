-- Writing and reading undo each other (02, item 2): "Writing and reading back gives the same words for every assignment that the check
-- accepts in normal form." They do for every assignment that it accepts, normal form or not; and a text that is read, written again, is the
-- same text. Each call promises its half; that what the check accepts is written at all is a statement besides.
use Rattle.std.specs.Prelude.{ℕ, ◌*◌, ◌≤◌, ◌≡◌, true, List, length, take, get_or}
use Rattle.image.specs.Panel.{panel_of}
use Rattle.evaluate.specs.Check.{check_answer, normal_words, over}
use Rattle.names.specs.Names.{table_ok}
use Rattle.bed.specs.declared.BedReply.{BedReply}
use Rattle.bed.specs.Answers.{bed_text, write_answer, write_out, read_answer, read_out}

-- the reply of a call that wrote so much
abbrev pub wrote : ℕ → BedReply
wrote n = record { refusal = 0; place = 0; length = n }

-- what was written into out, read with the words' family and with room for them, is the words; past them the room stays
abbrev pub WriteHolds : List ℕ → List ℕ → List ℕ → BedReply → List ℕ → Type 0
WriteHolds s names ws r out =
    r.refusal ≡ 0 → (room : List ℕ) → length ws ≤ length room
    → (read_answer s names (get_or ws 0 0) (take r.length out) (length room) ≡ wrote (length ws))
    × (read_out s names (get_or ws 0 0) (take r.length out) room ≡ over ws room)

-- the words that were read into out, written with room for their text, are the text; past it the room stays
abbrev pub ReadHolds : List ℕ → List ℕ → List ℕ → BedReply → List ℕ → Type 0
ReadHolds s names text r out =
    r.refusal ≡ 0 → (room : List ℕ) → length text ≤ length room
    → (write_answer s names (take r.length out) (length room) ≡ wrote (length text))
    × (write_out s names (take r.length out) room ≡ over text room)

-- an assignment that the check accepts is written, with a good table and room for its text; and so is its normal form
abbrev pub Writes : Type 0
Writes =
    (s names ws : List ℕ) (n room : ℕ) → (check_answer s ws n).refusal ≡ 0 → table_ok (length (panel_of s).lanes) names ≡ true
    → (length (bed_text names ws) ≤ room → write_answer s names ws room ≡ wrote (length (bed_text names ws)))
    × (length (bed_text names (normal_words ws)) ≤ room → write_answer s names (normal_words ws) room ≡ wrote (length (bed_text names (normal_words ws))))

-- 25 bytes of room for each word of such an assignment suffice
abbrev pub RoomSuffices : Type 0
RoomSuffices =
    (s names ws : List ℕ) (n : ℕ) → (check_answer s ws n).refusal ≡ 0 → table_ok (length (panel_of s).lanes) names ≡ true → length (bed_text names ws) ≤ 25 * length ws
