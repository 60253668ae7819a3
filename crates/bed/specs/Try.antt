-- BED computed on panel E with the lanes named anna and b: what is written, what is read, each of 34 to 37 and their order.
use Rattle.std.specs.Prelude.{ℕ, ◌≡◌, refl, List, [], ◌∷◌, ◌++◌, replicate}
use Prim.Native.String.{String}
use Rattle.ground.specs.Lists.{each, split, sum, all, any, count, keep, after, rising, numbers_from, distinct}
use Rattle.ground.specs.Texts.{bytes_of}
use Rattle.storage.specs.Bytes.{little, number}
use Rattle.storage.specs.Records.{port_of, stands_at}
use Rattle.storage.specs.Orders.{word_order, port_order}
use Rattle.image.specs.Header.{header_of, sound2, sound3, opened}
use Rattle.image.specs.Image.{entry_of, entries, counts, path_counts, paths, lane_ports, hub, ports_of, start_of, families, paths_of}
use Rattle.image.specs.Panel.{Panel, zip_lanes, panel_by, panel_of}
use Rattle.families.specs.Families.{count_ok, names, no_twice, sound5a, sound5b, sound5}
use Rattle.panel.specs.Refusals.{length_ok, sound4, letter, sound_place, sound_record, sound_records, hub_rising, lane_rising, lanes_rising, listed, sound8, from, own_row, own_rows, sound6, sound7}
use Rattle.storage.specs.Orders.{place_of, place_lt, record_lt, same_port}
use Rattle.graph.specs.Check.{ports_checked, later, checked}
use Rattle.graph.specs.PanelE.{panel_e}
use Rattle.evaluate.specs.declared.Refusal.{Refusal}
use Rattle.graph.specs.Check.{panel_refusal}
use Rattle.evaluate.specs.Segments.{joining, apart}
use Rattle.graph.specs.Lookups.{ports_at}
use Rattle.evaluate.specs.Words.{encode, read_segments, read_routes, read_assignment, decode}
use Rattle.evaluate.specs.Check.{leaves, joint_refusal, joints_refusal, normal_refusal, route_refusal, routes_refusal, overlap_refusal, assignment_refusal, given_refusal}
use Rattle.search.specs.Sheet.{digits}
use Rattle.names.specs.Names.{same, cut, lines_of, ended, name_ok, table_ok, lane_of}
use Rattle.rows.specs.Rows.{row_text, value_from, is_number, is_row, slot_of, segment_of}
use Rattle.bed.specs.declared.BedReply.{BedReply}
use Rattle.texts.specs.Bed.{route_text, routes_text, slots_from, text_ok, all_known, gathered, routes_in, held}
use Rattle.bed.specs.Answers.{bed_text, words_then_room, writing_refusal, text_refusal, reading_refusal, write_answer, write_out, read_answer, read_out}

record Calls : Type 0 where
  write : String → List ℕ → ℕ → BedReply
  text : String → List ℕ → List ℕ → List ℕ
  read : String → ℕ → String → ℕ → BedReply
  words : String → ℕ → String → List ℕ → List ℕ
  bytes : String → List ℕ
  none : List ℕ
  places : List (List ℕ)

-- two lanes of 10 bases without a port, and a family of both
abbrev two : Panel
two = record { k = 2; lanes = record { len = 10; identity = 0; ports = [] } ∷ record { len = 10; identity = 1; ports = [] } ∷ []; families = (0 ∷ 1 ∷ []) ∷ []; hub = [] }

abbrev at' : Refusal → List ℕ
at' q = q.number ∷ q.place ∷ []

-- the calls on panel E
unfoldable E : Calls
unfolding bytes_of little number each split sum all any count keep after rising numbers_from distinct port_of word_order port_order header_of sound2 sound3 opened entry_of entries counts path_counts paths lane_ports hub ports_of start_of families paths_of zip_lanes panel_by panel_of count_ok names no_twice sound5a sound5b sound5 length_ok sound4 letter sound_place sound_record sound_records place_of place_lt record_lt hub_rising lane_rising lanes_rising same_port listed sound8 from own_row own_rows sound6 sound7 ports_checked later checked panel_e panel_refusal joining apart ports_at stands_at encode read_segments read_routes read_assignment decode leaves joint_refusal joints_refusal normal_refusal route_refusal routes_refusal overlap_refusal assignment_refusal digits same cut lines_of ended name_ok table_ok lane_of row_text value_from is_number is_row slot_of segment_of route_text routes_text slots_from text_ok all_known gathered routes_in held given_refusal bed_text words_then_room writing_refusal text_refusal reading_refusal write_answer write_out read_answer read_out
E =
    record {
      write = λ names ws room. write_answer panel_e (bytes_of names) ws room;
      text = λ names ws out. write_out panel_e (bytes_of names) ws out;
      read = λ names family t room. read_answer panel_e (bytes_of names) family (bytes_of t) room;
      words = λ names family t out. read_out panel_e (bytes_of names) family (bytes_of t) out;
      bytes = bytes_of;
      none = (write_answer [] (98 ∷ []) [] 0).refusal ∷ (read_answer [] (98 ∷ []) 0 (98 ∷ []) 0).refusal ∷ [];
      places =
          at' (words_then_room two (bytes_of "anna\nb\n") (0 ∷ 2 ∷ 1 ∷ 0 ∷ 0 ∷ 10 ∷ 0 ∷ 1 ∷ 1 ∷ 0 ∷ 9 ∷ 0 ∷ []) 99)
          ∷ at' (text_refusal two (bytes_of "anna" ∷ bytes_of "b" ∷ []) 0 (bytes_of "anna\t0\t10\tr0\t0\t+\nb\t0\t9\tr1\t0\t+\n") 99) ∷ [];
    }

-- a refusal, its place and the length
abbrev shown : BedReply → List ℕ
shown r = r.refusal ∷ r.place ∷ r.length ∷ []

abbrev refused : ℕ → List ℕ
refused n = n ∷ 0 ∷ 0 ∷ []

-- the mosaic of 01's sheet, and its lines
abbrev mosaic : List ℕ
mosaic = 0 ∷ 1 ∷ 3 ∷ 0 ∷ 0 ∷ 4 ∷ 0 ∷ 1 ∷ 6 ∷ 8 ∷ 0 ∷ 0 ∷ 7 ∷ 10 ∷ 0 ∷ []

abbrev lines : String
lines = "anna\t0\t4\tr0\t0\t+\nb\t6\t8\tr0\t0\t+\nanna\t7\t10\tr0\t0\t+\n"

-- the native, in two segments: what the check accepts, though it is not in normal form
abbrev halves : List ℕ
halves = 0 ∷ 1 ∷ 2 ∷ 0 ∷ 0 ∷ 4 ∷ 0 ∷ 0 ∷ 4 ∷ 10 ∷ 0 ∷ []

abbrev halves_lines : String
halves_lines = "anna\t0\t4\tr0\t0\t+\nanna\t4\t10\tr0\t0\t+\n"

-- ---- writing

-- the text at the front of out, the rest as it was; segments as given, not joined
written : shown (E.write "anna\nb\n" mosaic 46) ∷ E.text "anna\nb\n" mosaic (replicate 48 7) ∷ E.text "anna\nb\n" halves (replicate 34 7) ∷ []
    ≡ (0 ∷ 0 ∷ 46 ∷ []) ∷ (E.bytes lines ++ (7 ∷ 7 ∷ [])) ∷ (E.bytes halves_lines ++ (7 ∷ [])) ∷ []
unfolding E
written = refl

-- 37 where a byte is missing, and out stays
write_short : shown (E.write "anna\nb\n" mosaic 45) ∷ E.text "anna\nb\n" mosaic (replicate 45 7) ∷ []
    ≡ refused 37 ∷ replicate 45 7 ∷ []
unfolding E
write_short = refl

-- 34 (a name twice; a last line without its line feed) before a refusal of the check and before 37; those of the check, 22, 25 and 27, before 37:
-- the last one has a text of 15 bytes and no room for it
write_order : shown (E.write "b\nb\n" mosaic 99) ∷ shown (E.write "anna\nb" mosaic 99) ∷ shown (E.write "b\nb\n" (0 ∷ 1 ∷ 0 ∷ []) 99) ∷ shown (E.write "b\nb\n" mosaic 0)
    ∷ shown (E.write "anna\nb\n" [] 0) ∷ shown (E.write "anna\nb\n" (0 ∷ 1 ∷ 0 ∷ []) 0) ∷ shown (E.write "anna\nb\n" (0 ∷ 1 ∷ 1 ∷ 0 ∷ 0 ∷ 9 ∷ 0 ∷ []) 0) ∷ []
    ≡ refused 34 ∷ refused 34 ∷ refused 34 ∷ refused 34 ∷ refused 22 ∷ refused 25 ∷ refused 27 ∷ []
unfolding E
write_order = refl

-- ---- reading

-- the words at the front of out, the rest as it was; as the lines hold them, not joined
read : shown (E.read "anna\nb\n" 0 lines 15) ∷ E.words "anna\nb\n" 0 lines (replicate 16 7) ∷ E.words "anna\nb\n" 0 halves_lines (replicate 12 7) ∷ []
    ≡ (0 ∷ 0 ∷ 15 ∷ []) ∷ (mosaic ++ (7 ∷ [])) ∷ (halves ++ (7 ∷ [])) ∷ []
unfolding E
read = refl

-- 34 first; 35 of the second line before 36 of the first; 36 before 37; 37 before the check's, here 23
read_order : shown (E.read "b\nb\n" 0 "b" 0) ∷ shown (E.read "anna\nb\n" 9 "c\t0\t4\tr0\t0\t+\nb\n" 0) ∷ shown (E.read "anna\nb\n" 9 "c\t0\t4\tr0\t0\t+\n" 0) ∷ shown (E.read "anna\nb\n" 9 lines 14) ∷ shown (E.read "anna\nb\n" 9 lines 15) ∷ []
    ≡ refused 34 ∷ refused 35 ∷ refused 36 ∷ refused 37 ∷ refused 23 ∷ []
unfolding E
read_order = refl

-- 36 has place 0, in whichever slot the name stands
read_place : shown (E.read "anna\nb\n" 0 "anna\t0\t10\tr0\t0\t+\nc\t0\t10\tr1\t0\t+\n" 99) ≡ refused 36
unfolding E
read_place = refl

-- the check's: no line, so no route (24); a span that ends past its lane, one that starts behind its end (26); out stays
read_checked : shown (E.read "anna\nb\n" 0 "" 2) ∷ shown (E.read "anna\nb\n" 0 "anna\t0\t11\tr0\t0\t+\n" 9) ∷ shown (E.read "anna\nb\n" 0 "anna\t0\t7\tr0\t0\t+\nb\t8\t6\tr0\t0\t-\n" 11)
    ∷ E.words "anna\nb\n" 0 "" (replicate 2 7) ∷ []
    ≡ refused 24 ∷ refused 26 ∷ refused 26 ∷ replicate 2 7 ∷ []
unfolding E
read_checked = refl

-- 1 to 8 before all: no image, no table, no text
first_of_all : E.none ≡ 1 ∷ 1 ∷ []
unfolding E
first_of_all = refl

-- the check's places: of two routes over lanes of 10 bases, the second ends at 9
places : E.places ≡ (27 ∷ 1 ∷ []) ∷ (27 ∷ 1 ∷ []) ∷ []
unfolding E
places = refl
