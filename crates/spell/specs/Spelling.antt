-- What a route spells, and the answer of the spelling call (02, "The DNA behind the ports").
use Rattle.std.specs.Prelude.{ℕ, ◌-◌, ◌&&◌, List, [], ◌∷◌, ◌++◌, leb, ltb, eqb, length, get_or}
use Rattle.ground.specs.Lists.{pick}
use Rattle.storage.specs.Bytes.{part}
use Rattle.image.specs.Panel.{Panel, panel_of}
use Rattle.graph.specs.Check.{panel_refusal}
use Rattle.evaluate.specs.declared.Segment.{Segment}
use Rattle.evaluate.specs.declared.Refusal.{Refusal}
use Rattle.evaluate.specs.Refusals.{no_refusal, unless, at}
use Rattle.evaluate.specs.Segments.{Route, Assignment}
use Rattle.evaluate.specs.Words.{Read, malformed, got, decode}
use Rattle.evaluate.specs.Check.{and_after, over, given_refusal}
use Rattle.letters.specs.Letters.{piece, letters_refusal}
use Rattle.spell.specs.declared.SpellReply.{SpellReply}

-- a segment spells its lane's letters from start up to end; a reverse one their reverse complement
unfoldable pub spell_segment : Panel → List ℕ → Segment → List ℕ
spell_segment p d s = piece p d s.source s.start (s.end - s.start) s.reverse

-- a route spells its segments in order
unfoldable pub spell_route : Panel → List ℕ → Route → List ℕ
spell_route p d [] = []
spell_route p d (s ∷ r) = spell_segment p d s ++ spell_route p d r

-- a crop: the letters from number from up to number to, counted from 0
abbrev pub crop : ℕ → ℕ → List ℕ → List ℕ
crop from to l = part l from (to - from)

abbrev pub routes_in : Read Assignment → List Route
routes_in malformed = []
routes_in (got a ws) = a.routes

-- the route of a slot, as the words give it
abbrev pub route_in : List ℕ → ℕ → Route
route_in ws slot = get_or (routes_in (decode ws)) slot []

-- a crop of the route of a slot
unfoldable pub spelled : Panel → List ℕ → List ℕ → ℕ → ℕ → ℕ → List ℕ
spelled p d ws slot from to = crop from to (spell_route p d (route_in ws slot))

-- 41: "no such slot, or crop empty or past its route", of so many routes, and so many letters of the slot's; then 37: "out too short"
abbrev pub crop_number : ℕ → ℕ → ℕ → ℕ → ℕ → ℕ → ℕ
crop_number routes size slot from to room = unless (ltb slot routes && ltb from to && leb to size) 41 (unless (leb (to - from) room) 37 0)

unfoldable pub crop_refusal : Panel → List ℕ → List ℕ → ℕ → ℕ → ℕ → ℕ → ℕ
crop_refusal p d ws slot from to room = crop_number (length (routes_in (decode ws))) (length (spell_route p d (route_in ws slot))) slot from to room

-- 39 and 40, "the check's from 22 on", 41 and 37, of an accepted panel
abbrev pub spelling_refusal : Panel → List ℕ → List ℕ → ℕ → ℕ → ℕ → ℕ → Refusal
spelling_refusal p d ws slot from to room = at (letters_refusal p d) 0 (and_after (given_refusal p ws) (at (crop_refusal p d ws slot from to room) 0 no_refusal))

-- 1 to 8 first: of the image's bytes, the letters, the assignment's words, the slot, the crop, and the bytes of room in out
unfoldable pub spell_refusal : List ℕ → List ℕ → List ℕ → ℕ → ℕ → ℕ → ℕ → Refusal
spell_refusal s d ws slot from to room = at (panel_refusal s) 0 (spelling_refusal (panel_of s) d ws slot from to room)

-- what is written: the crop, or on a refusal nothing
abbrev pub spelled_by : Refusal → Panel → List ℕ → List ℕ → ℕ → ℕ → ℕ → List ℕ
spelled_by r p d ws slot from to = pick (eqb r.number 0) (spelled p d ws slot from to) []

-- the answer: the refusal, and how many letters of out were written
unfoldable pub spell_answer : List ℕ → List ℕ → List ℕ → ℕ → ℕ → ℕ → ℕ → SpellReply
spell_answer s d ws slot from to room =
    record {
      refusal = (spell_refusal s d ws slot from to room).number;
      place = (spell_refusal s d ws slot from to room).place;
      letters = length (spelled_by (spell_refusal s d ws slot from to room) (panel_of s) d ws slot from to);
    }

-- out afterwards: it begins with the crop, the rest stays
unfoldable pub spell_out : List ℕ → List ℕ → List ℕ → ℕ → ℕ → ℕ → List ℕ → List ℕ
spell_out s d ws slot from to out = over (spelled_by (spell_refusal s d ws slot from to (length out)) (panel_of s) d ws slot from to) out
