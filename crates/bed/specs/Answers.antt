-- What writing and reading BED answer, and out afterwards (02, item 2): "after 1 to 8 comes 34 (name table bad). Writing then gives the
-- check's from 22 on and last 37 (out too short); reading gives 35 (a line not in this form), 36 (a name not in the table), 37, then the
-- check's." 35 and then 36 are each of the whole text; 34 to 37 have place 0.
use Rattle.std.specs.Prelude.{ℕ, List, [], leb, eqb, length}
use Rattle.ground.specs.Lists.{pick}
use Rattle.image.specs.Panel.{Panel, panel_of}
use Rattle.graph.specs.Check.{panel_refusal}
use Rattle.evaluate.specs.declared.Refusal.{Refusal}
use Rattle.evaluate.specs.Refusals.{no_refusal, unless, at}
use Rattle.evaluate.specs.Segments.{Assignment}
use Rattle.evaluate.specs.Words.{Read, malformed, got, decode}
use Rattle.evaluate.specs.Check.{given_refusal, and_after, over}
use Rattle.names.specs.Names.{lines_of, table_ok}
use Rattle.texts.specs.Bed.{routes_text, text_ok, all_known, held}
use Rattle.bed.specs.declared.BedReply.{BedReply}

-- 34
abbrev pub table_refusal : Panel → List ℕ → ℕ
table_refusal p names = unless (table_ok (length p.lanes) names) 34 0

-- 1 to 8, 34, and what comes later
abbrev pub after_table : List ℕ → List ℕ → Refusal → Refusal
after_table s names later = at (panel_refusal s) 0 (at (table_refusal (panel_of s) names) 0 later)

-- 37
abbrev pub room_refusal : ℕ → ℕ → ℕ
room_refusal needed room = unless (leb needed room) 37 0

-- ---- writing

abbrev pub text_of : List ℕ → Read Assignment → List ℕ
text_of names malformed = []
text_of names (got a ws) = routes_text (lines_of names) 0 a.routes

-- the BED text of an assignment's words
unfoldable pub bed_text : List ℕ → List ℕ → List ℕ
bed_text names ws = text_of names (decode ws)

-- the check's from 22 on, and 37
unfoldable pub words_then_room : Panel → List ℕ → List ℕ → ℕ → Refusal
words_then_room p names ws room = and_after (given_refusal p ws) (at (room_refusal (length (bed_text names ws)) room) 0 no_refusal)

-- of the panel's bytes, the name table, the assignment's words and the bytes of room in out
unfoldable pub writing_refusal : List ℕ → List ℕ → List ℕ → ℕ → Refusal
writing_refusal s names ws room = after_table s names (words_then_room (panel_of s) names ws room)

-- ---- reading

-- 35, 36, 37, and then the check's
unfoldable pub text_refusal : Panel → List (List ℕ) → ℕ → List ℕ → ℕ → Refusal
text_refusal p ns family text room =
    at (unless (text_ok text) 35 (unless (all_known ns text) 36 (room_refusal (length (held ns family text)) room))) 0
    (given_refusal p (held ns family text))

-- of the panel's bytes, the name table, the family, the text and the words of room in out
unfoldable pub reading_refusal : List ℕ → List ℕ → ℕ → List ℕ → ℕ → Refusal
reading_refusal s names family text room = after_table s names (text_refusal (panel_of s) (lines_of names) family text room)

-- ---- the answers, and out afterwards: what is written lies first, the rest stays; on a refusal nothing changes

abbrev pub unrefused : Refusal → List ℕ → List ℕ
unrefused r l = pick (eqb r.number 0) l []

abbrev pub reply_of : Refusal → List ℕ → BedReply
reply_of r l = record { refusal = r.number; place = r.place; length = length (unrefused r l) }

unfoldable pub write_answer : List ℕ → List ℕ → List ℕ → ℕ → BedReply
write_answer s names ws room = reply_of (writing_refusal s names ws room) (bed_text names ws)

unfoldable pub write_out : List ℕ → List ℕ → List ℕ → List ℕ → List ℕ
write_out s names ws out = over (unrefused (writing_refusal s names ws (length out)) (bed_text names ws)) out

unfoldable pub read_answer : List ℕ → List ℕ → ℕ → List ℕ → ℕ → BedReply
read_answer s names family text room = reply_of (reading_refusal s names family text room) (held (lines_of names) family text)

unfoldable pub read_out : List ℕ → List ℕ → ℕ → List ℕ → List ℕ → List ℕ
read_out s names family text out = over (unrefused (reading_refusal s names family text (length out)) (held (lines_of names) family text)) out
