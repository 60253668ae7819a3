-- Spelling computed: on panel E with letters that fit it, each refusal; a legal route with every pair of orientations, and its places; crops within a reverse piece; k 1.
use Rattle.std.specs.Prelude.{ℕ, ◌≡◌, refl, Bool, true, false, List, [], ◌∷◌, ◌++◌, map, take, set, replicate}
use Rattle.ground.specs.Lists.{each, split, sum, all, any, count, keep, after, rising, numbers_from, distinct}
use Rattle.storage.specs.Bytes.{little, number}
use Rattle.storage.specs.Records.{port_of, stands_at}
use Rattle.storage.specs.Orders.{word_order, port_order, place_of, place_lt, record_lt, same_port}
use Rattle.image.specs.Header.{header_of, sound2, sound3, opened}
use Rattle.image.specs.Image.{entry_of, entries, counts, path_counts, paths, lane_ports, hub, ports_of, start_of, families, paths_of}
use Rattle.image.specs.Panel.{zip_lanes, panel_by, panel_of}
use Rattle.families.specs.Families.{count_ok, names, no_twice, sound5a, sound5b, sound5}
use Rattle.panel.specs.Refusals.{length_ok, sound4, letter, sound_place, sound_record, sound_records, hub_rising, lane_rising, lanes_rising, listed, sound8, from, own_row, own_rows, sound6, sound7}
use Rattle.graph.specs.Check.{ports_checked, later, checked, panel_refusal}
use Rattle.graph.specs.Lookups.{ports_at}
use Rattle.graph.specs.PanelE.{panel_e}
use Rattle.evaluate.specs.declared.Segment.{Segment}
use Rattle.evaluate.specs.declared.Refusal.{Refusal}
use Rattle.evaluate.specs.Segments.{joining, apart}
use Rattle.evaluate.specs.Words.{encode, read_segments, read_routes, read_assignment, decode}
use Rattle.evaluate.specs.Refusals.{no_refusal, at}
use Rattle.evaluate.specs.Check.{and_after, leaves, joint_refusal, joints_refusal, normal_refusal, route_refusal, routes_refusal, overlap_refusal, assignment_refusal, given_refusal}
use Rattle.letters.specs.Try.{panel_r, letters_r, panel_q, letters_q}
use Rattle.letters.specs.Letters.{complement, reverse_complement, lengths, lane_letters, piece, sound39, word_fits, row_fits, sound40, letters_refusal, letters_answer}
use Rattle.spell.specs.declared.SpellReply.{SpellReply}
use Rattle.spell.specs.Spelling.{spell_segment, spell_route, spelled, crop_refusal, spell_refusal, spell_answer, spell_out}
use Rattle.spell.specs.Theorems.{around}

-- TTTACTGGTA and CCCCCACGGC: the letters of E's two lanes
abbrev letters_e : List ℕ
letters_e = 84 ∷ 84 ∷ 84 ∷ 65 ∷ 67 ∷ 84 ∷ 71 ∷ 71 ∷ 84 ∷ 65 ∷ 67 ∷ 67 ∷ 67 ∷ 67 ∷ 67 ∷ 65 ∷ 67 ∷ 71 ∷ 71 ∷ 67 ∷ []

-- the mosaic of 01's sheet: lane 0 from 0 to 4, lane 1 from 6 to 8, lane 0 from 7 to 10
abbrev mosaic : List ℕ
mosaic = 0 ∷ 1 ∷ 3 ∷ 0 ∷ 0 ∷ 4 ∷ 0 ∷ 1 ∷ 6 ∷ 8 ∷ 0 ∷ 0 ∷ 7 ∷ 10 ∷ 0 ∷ []

abbrev shown : SpellReply → List ℕ
shown r = r.refusal ∷ r.place ∷ r.letters ∷ []

record Calls : Type 0 where
  letters : List ℕ → Refusal
  answer : List ℕ → List ℕ → ℕ → ℕ → ℕ → ℕ → SpellReply
  out : List ℕ → List ℕ → ℕ → ℕ → ℕ → List ℕ → List ℕ

unfoldable E : Calls
unfolding little number each split sum all any count keep after rising numbers_from distinct port_of word_order port_order header_of sound2 sound3 opened entry_of entries counts path_counts paths lane_ports hub ports_of start_of families paths_of zip_lanes panel_by panel_of count_ok names no_twice sound5a sound5b sound5 length_ok sound4 letter sound_place sound_record sound_records place_of place_lt record_lt hub_rising lane_rising lanes_rising same_port listed sound8 from own_row own_rows sound6 sound7 ports_checked later checked panel_e panel_refusal joining apart ports_at stands_at encode read_segments read_routes read_assignment decode leaves joint_refusal joints_refusal normal_refusal route_refusal routes_refusal overlap_refusal assignment_refusal complement reverse_complement lengths lane_letters piece sound39 word_fits row_fits sound40 letters_refusal letters_answer given_refusal spell_segment spell_route spelled crop_refusal spell_refusal spell_answer spell_out
E = record { letters = letters_answer panel_e; answer = spell_answer panel_e; out = spell_out panel_e }

-- the letters fit; 39: one too few, one too many, an N, and before a word that differs; 40: the word's letter at lane 0's anchor 3, and at lane 1's anchor 7
checks : map (λ (r : Refusal). r.number) (E.letters letters_e ∷ E.letters (take 19 letters_e) ∷ E.letters (letters_e ++ 65 ∷ []) ∷ E.letters (set letters_e 0 78) ∷ E.letters (set (set letters_e 3 67) 19 78) ∷ E.letters (set letters_e 3 67) ∷ E.letters (set letters_e 18 84) ∷ [])
    ≡ 0 ∷ 39 ∷ 39 ∷ 39 ∷ 39 ∷ 40 ∷ 40 ∷ []
unfolding E
checks = refl

-- the mosaic spells TTTACGGTA; a crop of it, and out afterwards
whole : (shown (E.answer letters_e mosaic 0 0 9 9) ∷ E.out letters_e mosaic 0 0 9 (replicate 10 0) ∷ E.out letters_e mosaic 0 3 7 (replicate 5 0) ∷ [])
    ≡ (0 ∷ 0 ∷ 9 ∷ []) ∷ (84 ∷ 84 ∷ 84 ∷ 65 ∷ 67 ∷ 71 ∷ 71 ∷ 84 ∷ 65 ∷ 0 ∷ []) ∷ (65 ∷ 67 ∷ 71 ∷ 71 ∷ 0 ∷ []) ∷ []
unfolding E
whole = refl

-- 40 before 22, 22, 29, 41 (no such slot, empty, turned round, past the route and before 37), 37
refusals : map shown (E.answer (set letters_e 3 67) [] 0 0 9 9 ∷ E.answer letters_e [] 0 0 9 9 ∷ E.answer letters_e (set mosaic 8 7) 0 0 9 9 ∷ E.answer letters_e mosaic 1 0 9 9 ∷ E.answer letters_e mosaic 0 4 4 9
    ∷ E.answer letters_e mosaic 0 5 4 9 ∷ E.answer letters_e mosaic 0 0 10 9 ∷ E.answer letters_e mosaic 0 0 9 8 ∷ [])
    ≡ (40 ∷ 0 ∷ 0 ∷ []) ∷ (22 ∷ 0 ∷ 0 ∷ []) ∷ (29 ∷ 0 ∷ 0 ∷ []) ∷ (41 ∷ 0 ∷ 0 ∷ []) ∷ (41 ∷ 0 ∷ 0 ∷ []) ∷ (41 ∷ 0 ∷ 0 ∷ []) ∷ (41 ∷ 0 ∷ 0 ∷ []) ∷ (37 ∷ 0 ∷ 0 ∷ []) ∷ []
unfolding E
refusals = refl

-- a crop that begins later tells its own letters; around the switches of the mosaic, at letters 4 and 6, stand its words AC and GG
switches : shown (E.answer letters_e mosaic 0 3 7 4) ∷ E.out letters_e mosaic 0 3 5 (replicate 2 0) ∷ E.out letters_e mosaic 0 5 7 (replicate 2 0) ∷ [] ≡ (0 ∷ 0 ∷ 4 ∷ []) ∷ (65 ∷ 67 ∷ []) ∷ (71 ∷ 71 ∷ []) ∷ []
unfolding E
switches = refl

-- out stays on 37 and on 41
untouched : E.out letters_e mosaic 0 0 9 (replicate 8 7) ∷ E.out letters_e mosaic 0 4 4 (replicate 8 7) ∷ [] ≡ replicate 8 7 ∷ replicate 8 7 ∷ []
unfolding E
untouched = refl

-- 39 before 22
before_22 : shown (E.answer (take 19 letters_e) [] 0 0 9 9) ≡ 39 ∷ 0 ∷ 0 ∷ []
unfolding E
before_22 = refl

-- 1 before 39, in both calls
first_of_all : (letters_answer [] (78 ∷ [])).number ∷ (spell_answer [] (78 ∷ []) [] 0 0 0 0).refusal ∷ [] ≡ 1 ∷ 1 ∷ []
unfolding letters_answer spell_answer spell_refusal panel_refusal checked opened
first_of_all = refl

-- ---- a route with every pair of orientations, k 3: one letter before a switch, two after it

-- TA of lane 0, CCG of lane 1, lane 2 from 6 down to 2, lane 3 from 5 down to 2, AGA of lane 0; and beside it lane 4
abbrev routes_q : List ℕ
routes_q = 0 ∷ 2 ∷ 5 ∷ 0 ∷ 0 ∷ 2 ∷ 0 ∷ 1 ∷ 3 ∷ 6 ∷ 0 ∷ 2 ∷ 2 ∷ 6 ∷ 1 ∷ 3 ∷ 2 ∷ 5 ∷ 1 ∷ 0 ∷ 6 ∷ 9 ∷ 0 ∷ 1 ∷ 4 ∷ 0 ∷ 1 ∷ 0 ∷ []

unfoldable spells_q : List ℕ → ℕ → ℕ → ℕ → List ℕ
unfolding split complement reverse_complement lengths lane_letters piece read_segments read_routes read_assignment decode spell_segment spell_route spelled
spells_q = spelled panel_q letters_q

-- it is legal; with its last piece reverse it is 27 in route 1
legal : (given_refusal panel_q routes_q).number ∷ (given_refusal panel_q (set routes_q 27 1)).number ∷ (given_refusal panel_q (set routes_q 27 1)).place ∷ [] ≡ 0 ∷ 27 ∷ 1 ∷ []
unfolding sum all any count keep word_order port_order joining apart ports_at stands_at read_segments read_routes read_assignment decode leaves joint_refusal joints_refusal normal_refusal route_refusal routes_refusal overlap_refusal assignment_refusal given_refusal
legal = refl

-- TACCGTTCTCGCAGA, and the words around its switches: from forward to forward, to reverse, from reverse to reverse, to forward; the other slot is G
four : spells_q routes_q 0 0 15 ∷ spells_q routes_q 0 1 4 ∷ spells_q routes_q 0 4 7 ∷ spells_q routes_q 0 8 11 ∷ spells_q routes_q 0 11 14 ∷ spells_q routes_q 1 0 1 ∷ []
    ≡ (84 ∷ 65 ∷ 67 ∷ 67 ∷ 71 ∷ 84 ∷ 84 ∷ 67 ∷ 84 ∷ 67 ∷ 71 ∷ 67 ∷ 65 ∷ 71 ∷ 65 ∷ []) ∷ (65 ∷ 67 ∷ 67 ∷ []) ∷ (71 ∷ 84 ∷ 84 ∷ []) ∷ (84 ∷ 67 ∷ 71 ∷ []) ∷ (67 ∷ 65 ∷ 71 ∷ []) ∷ (71 ∷ []) ∷ []
unfolding spells_q
four = refl

unfoldable after_given : List ℕ → ℕ → ℕ → ℕ → ℕ → Refusal
unfolding split sum all any count keep word_order port_order joining apart ports_at stands_at read_segments read_routes read_assignment decode leaves joint_refusal joints_refusal normal_refusal route_refusal routes_refusal overlap_refusal assignment_refusal given_refusal complement reverse_complement lengths lane_letters piece spell_segment spell_route crop_refusal
after_given ws slot from to room = and_after (given_refusal panel_q ws) (at (crop_refusal panel_q letters_q ws slot from to room) 0 no_refusal)

-- 41 and 37 have place 0 in slot 1 too: past its route, too short a room, no such slot; 27 comes before 41
places : map (λ (r : Refusal). r.number ∷ r.place ∷ []) (after_given routes_q 1 0 2 9 ∷ after_given routes_q 1 0 1 0 ∷ after_given routes_q 2 0 1 9 ∷ after_given (set routes_q 27 1) 2 0 1 9 ∷ after_given routes_q 1 0 1 1 ∷ [])
    ≡ (41 ∷ 0 ∷ []) ∷ (37 ∷ 0 ∷ []) ∷ (41 ∷ 0 ∷ []) ∷ (27 ∷ 1 ∷ []) ∷ (0 ∷ 0 ∷ []) ∷ []
unfolding after_given
places = refl

-- ---- crops within a reverse piece

-- lane 0 from 0 to 2, then lane 1 from 3 down to 0
abbrev turning : List ℕ
turning = 0 ∷ 1 ∷ 2 ∷ 0 ∷ 0 ∷ 2 ∷ 0 ∷ 1 ∷ 0 ∷ 3 ∷ 1 ∷ []

-- the same with the reverse piece in two, from 3 to 2 and from 2 to 0
abbrev turning_apart : List ℕ
turning_apart = 0 ∷ 1 ∷ 3 ∷ 0 ∷ 0 ∷ 2 ∷ 0 ∷ 1 ∷ 2 ∷ 3 ∷ 1 ∷ 1 ∷ 0 ∷ 2 ∷ 1 ∷ []

-- the two pieces as two routes
abbrev two_routes : List ℕ
two_routes = 0 ∷ 2 ∷ 1 ∷ 0 ∷ 0 ∷ 2 ∷ 0 ∷ 1 ∷ 1 ∷ 0 ∷ 3 ∷ 1 ∷ []

unfoldable spells : List ℕ → ℕ → ℕ → ℕ → List ℕ
unfolding split complement reverse_complement lengths lane_letters piece read_segments read_routes read_assignment decode spell_segment spell_route spelled
spells = spelled panel_r letters_r

-- TACCA, whole, around its switch, and within the reverse piece, which is turned before it is cropped
crops : spells turning 0 0 5 ∷ spells turning 0 1 4 ∷ spells turning 0 2 4 ∷ spells turning 0 4 5 ∷ [] ≡ (84 ∷ 65 ∷ 67 ∷ 67 ∷ 65 ∷ []) ∷ (65 ∷ 67 ∷ 67 ∷ []) ∷ (67 ∷ 67 ∷ []) ∷ (65 ∷ []) ∷ []
unfolding spells
crops = refl

-- pieces end to end spell the same; a crop across their seam, and the two sides of it
apart_or_not : spells turning_apart 0 0 5 ∷ spells turning_apart 0 2 4 ∷ spells turning_apart 0 2 3 ∷ spells turning_apart 0 3 4 ∷ [] ≡ (84 ∷ 65 ∷ 67 ∷ 67 ∷ 65 ∷ []) ∷ (67 ∷ 67 ∷ []) ∷ (67 ∷ []) ∷ (67 ∷ []) ∷ []
unfolding spells
apart_or_not = refl

-- each slot its own route
slots : spells two_routes 0 0 2 ∷ spells two_routes 1 0 3 ∷ [] ≡ (84 ∷ 65 ∷ []) ∷ (67 ∷ 67 ∷ 65 ∷ []) ∷ []
unfolding spells
slots = refl

-- ---- k 1: no letter before a switch, one after it

abbrev segment : ℕ → ℕ → ℕ → Bool → Segment
segment lane start end reverse = record { source = lane; start = start; end = end; reverse = reverse }

-- the panel R with k 1: lane 0 to 2 and lane 1 from 2 down to 0 spell TACA; the letter behind the switch is C
single : around (record { k = 1; lanes = panel_r.lanes; families = []; hub = [] }) letters_r (segment 0 0 2 false ∷ segment 1 0 2 true ∷ []) 2 ≡ 67 ∷ []
unfolding split complement reverse_complement lengths lane_letters piece spell_segment spell_route around
single = refl
