-- The walk, the search and the listing computed on panel E.
use Rattle.std.specs.Prelude.{ℕ, ◌/◌, ◌%◌, ◌≡◌, refl, false, List, [], ◌∷◌, ◌++◌, map, length, take, replicate, pos, Float}
use Rattle.std.specs.Float.Ieee as Ieee
use Rattle.std.specs.Float.{fin, binary64}
use Rattle.ground.specs.Lists.{each, split, sum, all, any, count, keep, after, rising, numbers_from, distinct}
use Rattle.storage.specs.Bytes.{little, number}
use Rattle.storage.specs.Records.{port_of}
use Rattle.storage.specs.Orders.{word_order, port_order, bucket_of, word_below, word_up_to}
use Rattle.image.specs.Header.{header_of, sound2, sound3, opened}
use Rattle.image.specs.Image.{entry_of, entries, counts, path_counts, paths, lane_ports, hub, ports_of, start_of, families, paths_of}
use Rattle.image.specs.Panel.{zip_lanes, panel_by, panel_of}
use Rattle.families.specs.Families.{count_ok, names, no_twice, sound5a, sound5b, sound5}
use Rattle.panel.specs.Refusals.{length_ok, sound4, letter, sound_place, sound_record, sound_records, hub_rising, lane_rising, lanes_rising, listed, sound8, from, own_row, own_rows, sound6, sound7}
use Rattle.storage.specs.Orders.{place_of, place_lt, record_lt, same_port}
use Rattle.graph.specs.Check.{ports_checked, later, checked}
use Rattle.graph.specs.PanelE.{panel_e}
use Rattle.graph.specs.Check.{panel_refusal}
use Rattle.evaluate.specs.Words.{encode}
use Rattle.search.specs.declared.SearchBudget.{SearchBudget}
use Rattle.search.specs.declared.SearchReply.{SearchReply}
use Rattle.search.specs.declared.ListReply.{ListReply}
use Rattle.search.specs.Budget.{width_ok, budget_ok, budget_in_bounds, budget_refusal}
use Rattle.search.specs.Walk.{enter, terminal_task, member_task, port_unit, hub_unit, unit_of}
use Rattle.search.specs.Run.{Walked, Phase, going, ended, unlimited, units, run, seeds, seeded, after_seeding, walk_from, continued, walk, natives_of, outset, deepest}
use Rattle.search.specs.Counters.{most_switches, tally_of, stop_of, status_of, status_number}
use Rattle.search.specs.Keep.{ties_to, lowered, added, keep_one, keep_all, same_list, evaluated, scores_refusal}
use Rattle.search.specs.Search.{walked, evaluation_refusal, kept_of, searched_as, search_from, search}
use Rattle.search.specs.Rooms.{stack_words, frames_left, most_paths, slot_width, kept_left, kept_scores_left, rooms_refusal, list_rooms_refusal, left_in}
use Rattle.search.specs.Sheet.{foreign, digits, route_lines, routes_lines, sheet, refusal_line}
use Rattle.search.specs.Job.{job_ok, budget_in, scores_in, program_rooms, job_refusal, printed}
use Rattle.search.specs.Answers.{Rooms, ListRooms, search_refusal, reply_of, search_answer, rooms_after, search_rooms, list_refusal, fitting, written, list_reply_of, list_answer, listed_in, list_rooms}

-- a double by its bits
abbrev double : ℕ → Float
double bits = Ieee.of_bits binary64 bits

abbrev budget : ℕ → ℕ → ℕ → ℕ → ℕ → SearchBudget
budget w e f o t = record { max_work = w; max_evaluations = e; max_frontier = f; max_optima = o; tie_width = double t }

-- rooms with fives in every word, of these lengths
abbrev rooms : ℕ → ℕ → ℕ → Rooms
rooms f k x = record { frames = replicate f 5; kept = replicate k 5; scores = replicate x (double 0x4014000000000000) }

abbrev shown : SearchReply → List ℕ
shown r =
    r.refusal ∷ r.place ∷ r.status ∷ r.work ∷ r.evaluations ∷ r.natives ∷ r.donors ∷ r.non_native ∷ r.mixed ∷ r.mixed_identity
    ∷ r.switches ∷ r.families ∷ r.optima ∷ r.discarded ∷ r.frames ∷ r.pending ∷ []

-- a number below 65,536 as eight bytes
abbrev word : ℕ → List ℕ
word n = n % 256 ∷ n / 256 ∷ 0 ∷ 0 ∷ 0 ∷ 0 ∷ 0 ∷ 0 ∷ []

-- a double's two upper bytes, with zeros below
abbrev bits : ℕ → ℕ → List ℕ
bits low high = 0 ∷ 0 ∷ 0 ∷ 0 ∷ 0 ∷ 0 ∷ low ∷ high ∷ []

-- the public calls, the unbudgeted walk, and the program's jobs of three scores, on panel E
record Calls : Type 0 where
  answer : SearchBudget → List Float → Rooms → SearchReply
  rooms : SearchBudget → List Float → Rooms → Rooms
  list : SearchBudget → ℕ → ListRooms → ListReply
  list_rooms : SearchBudget → ℕ → ListRooms → ListRooms
  units : ℕ → Phase
  deepest : ℕ → ℕ
  continued : SearchBudget → SearchBudget → Walked
  print : List ℕ → List ℕ

unfoldable E : Calls
unfolding little number each split sum all any count keep after rising numbers_from distinct port_of word_order port_order header_of sound2 sound3 opened entry_of entries counts path_counts paths lane_ports hub ports_of start_of families paths_of zip_lanes panel_by panel_of count_ok names no_twice sound5a sound5b sound5 length_ok sound4 letter sound_place sound_record sound_records place_of place_lt record_lt hub_rising lane_rising lanes_rising same_port listed sound8 from own_row own_rows sound6 sound7 ports_checked later checked panel_e panel_refusal encode width_ok budget_ok budget_in_bounds budget_refusal enter terminal_task member_task port_unit hub_unit unit_of units run seeds seeded after_seeding walk_from walk natives_of outset deepest most_switches tally_of ties_to lowered added keep_one keep_all same_list evaluated scores_refusal walked evaluation_refusal kept_of searched_as search_from search stack_words frames_left most_paths slot_width kept_left kept_scores_left rooms_refusal list_rooms_refusal left_in search_refusal reply_of search_answer rooms_after search_rooms list_refusal fitting written list_reply_of list_answer listed_in list_rooms bucket_of word_below word_up_to Ieee.lt Ieee.le Ieee.sub Ieee.of_bits foreign digits route_lines routes_lines sheet refusal_line job_ok budget_in scores_in program_rooms job_refusal printed
E =
    record {
      answer = search_answer panel_e;
      rooms = search_rooms panel_e;
      list = list_answer panel_e;
      list_rooms = list_rooms panel_e;
      units = λ n. units (panel_of panel_e) unlimited n (outset (panel_of panel_e));
      deepest = λ n. deepest (panel_of panel_e) n (outset (panel_of panel_e));
      continued = λ b c. continued (panel_of panel_e) c (walk (panel_of panel_e) b);
      print = λ rest. printed (word 296 ++ (word 0 ++ (word 3 ++ (panel_e ++ rest))));
    }

abbrev on_e : SearchBudget → List ℕ → Rooms → List ℕ
on_e b xs rs = shown (E.answer b (map double xs) rs)

answer : on_e (budget 100000 1000 32 8 0) (0x4014000000000000 ∷ 0x4014000000000000 ∷ 0x4010000000000000 ∷ []) (rooms 330 1310 9)
    ≡ 0 ∷ 0 ∷ 1 ∷ 21 ∷ 3 ∷ 1 ∷ 6 ∷ 1 ∷ 1 ∷ 1 ∷ 2 ∷ 1 ∷ 1 ∷ 0 ∷ 0 ∷ 0 ∷ []
unfolding E Ieee.of_bits
answer = refl

-- scores 5, 5, 4
abbrev scores : List ℕ
scores = 0x4014000000000000 ∷ 0x4014000000000000 ∷ 0x4010000000000000 ∷ []

-- the refusal and its place
abbrev refused_on_e : SearchBudget → List ℕ → Rooms → List ℕ
refused_on_e b xs rs = take 2 (on_e b xs rs)

-- 11: a budget of 0; a tie width of -1, of infinity; -0.0 passes, and so do budgets of 2^64 - 1; 12: over the bounds; 13: each room one word short
refusals : refused_on_e (budget 0 1000 32 8 0) scores (rooms 330 1310 9)
    ∷ refused_on_e (budget 100000 0 32 8 0) scores (rooms 330 1310 9)
    ∷ refused_on_e (budget 100000 1000 0 8 0) scores (rooms 330 1310 9)
    ∷ refused_on_e (budget 100000 1000 32 0 0) scores (rooms 330 1310 9)
    ∷ refused_on_e (budget 100000 1000 2000 8 0xbff0000000000000) scores (rooms 330 1310 9)
    ∷ refused_on_e (budget 100000 1000 32 8 0x7ff0000000000000) scores (rooms 330 1310 9)
    ∷ refused_on_e (budget 0xffff_ffff_ffff_ffff 0xffff_ffff_ffff_ffff 32 8 0x8000000000000000) scores (rooms 330 1310 9)
    ∷ refused_on_e (budget 100000 1000 1025 8 0) scores (rooms 0 0 0)
    ∷ refused_on_e (budget 100000 1000 32 0xffff_ffff_ffff_ffff 0) scores (rooms 0 0 0)
    ∷ refused_on_e (budget 100000 1000 32 8 0) [] (rooms 329 1310 9)
    ∷ refused_on_e (budget 100000 1000 32 8 0) [] (rooms 330 1309 9)
    ∷ refused_on_e (budget 100000 1000 32 8 0) [] (rooms 330 1310 8)
    ∷ []
    ≡ (11 ∷ 0 ∷ []) ∷ (11 ∷ 0 ∷ []) ∷ (11 ∷ 0 ∷ []) ∷ (11 ∷ 0 ∷ []) ∷ (11 ∷ 0 ∷ []) ∷ (11 ∷ 0 ∷ []) ∷ (0 ∷ 0 ∷ []) ∷ (12 ∷ 0 ∷ []) ∷ (12 ∷ 0 ∷ [])
    ∷ (13 ∷ 0 ∷ []) ∷ (13 ∷ 0 ∷ []) ∷ (13 ∷ 0 ∷ []) ∷ []
unfolding E Ieee.of_bits
refusals = refl

-- 14 and 15 by the first evaluation concerned; scores that are not reached are not looked at
unscored : refused_on_e (budget 100000 1000 32 8 0) (0x4014000000000000 ∷ 0x4014000000000000 ∷ []) (rooms 330 1310 9)
    ∷ refused_on_e (budget 100000 1000 32 8 0) (0x4014000000000000 ∷ 0x7ff0000000000000 ∷ []) (rooms 330 1310 9)
    ∷ refused_on_e (budget 100000 2 32 8 0) (0x4014000000000000 ∷ 0x4014000000000000 ∷ 0x7ff0000000000000 ∷ []) (rooms 330 1310 9)
    ∷ []
    ≡ (14 ∷ 3 ∷ []) ∷ (15 ∷ 2 ∷ []) ∷ (0 ∷ 0 ∷ []) ∷ []
unfolding E Ieee.of_bits
unscored = refl

-- ---- a stopped walk, continued

-- its status with nothing discarded, its counters, its frames and how many it handed over
abbrev standing : Walked → List ℕ
standing r =
    status_number (status_of (stop_of r.ending) false) ∷ r.walk.work ∷ r.walk.evaluations ∷ r.walk.natives ∷ r.walk.donors ∷ r.walk.families ∷ length r.walk.stack ∷ length r.walk.out ∷ []

-- P9 with its pending child: with room for it as the one walk; without room pending still, at no cost. P6's last unit; P7's last units; the native
-- alone, and then eight units
taken-up : standing (E.continued (budget 100000 1000 2 8 0) (budget 100000 1000 32 8 0))
    ∷ standing (E.continued (budget 100000 1000 2 8 0) (budget 100000 1000 2 8 0))
    ∷ standing (E.continued (budget 20 1000 32 8 0) (budget 21 1000 32 8 0))
    ∷ standing (E.continued (budget 100000 3 32 8 0) (budget 100000 4 32 8 0))
    ∷ standing (E.continued (budget 100000 1 32 8 0) (budget 9 1000 32 8 0))
    ∷ []
    ≡ (1 ∷ 21 ∷ 3 ∷ 1 ∷ 6 ∷ 1 ∷ 0 ∷ 3 ∷ [])
    ∷ (5 ∷ 8 ∷ 2 ∷ 1 ∷ 3 ∷ 0 ∷ 2 ∷ 2 ∷ [])
    ∷ (1 ∷ 21 ∷ 3 ∷ 1 ∷ 6 ∷ 1 ∷ 0 ∷ 3 ∷ [])
    ∷ (1 ∷ 21 ∷ 3 ∷ 1 ∷ 6 ∷ 1 ∷ 0 ∷ 3 ∷ [])
    ∷ (3 ∷ 9 ∷ 3 ∷ 1 ∷ 3 ∷ 0 ∷ 3 ∷ 3 ∷ [])
    ∷ []
unfolding E Ieee.of_bits
taken-up = refl

-- ---- the rooms at exit, from rooms of fives

abbrev rooms_on_e : SearchBudget → List ℕ → Rooms → Rooms
rooms_on_e b xs rs = E.rooms b (map double xs) rs

-- P9's frames and pending child, and a word that stays
frames : (rooms_on_e (budget 100000 1000 2 1 0) scores (rooms 31 33 2)).frames
    ≡ 0 ∷ 0 ∷ 0 ∷ 0 ∷ 0 ∷ 2 ∷ 2 ∷ 2 ∷ 0 ∷ 0 ∷ (0 ∷ 1 ∷ 6 ∷ 0 ∷ 0 ∷ 3 ∷ 3 ∷ 4 ∷ 0 ∷ 4 ∷ (0 ∷ 0 ∷ 7 ∷ 0 ∷ 1 ∷ 0 ∷ 0 ∷ 0 ∷ 6 ∷ 8 ∷ (5 ∷ [])))
unfolding E Ieee.of_bits
frames = refl

-- after the sheet's walk: no frame; the mosaic as incumbent and as the one tied optimum, a spare; their scores
kept : rooms_on_e (budget 100000 1000 3 1 0) scores (rooms 40 46 3)
    ≡ record {
      frames = replicate 40 0;
      kept = 0 ∷ 1 ∷ 3 ∷ 0 ∷ 0 ∷ 4 ∷ 0 ∷ 1 ∷ 6 ∷ 8 ∷ 0 ∷ 0 ∷ 7 ∷ 10 ∷ 0 ∷ (0 ∷ 1 ∷ 3 ∷ 0 ∷ 0 ∷ 4 ∷ 0 ∷ 1 ∷ 6 ∷ 8 ∷ 0 ∷ 0 ∷ 7 ∷ 10 ∷ 0 ∷ (replicate 15 0 ++ (5 ∷ [])));
      scores = fin false 1 (pos 2) ∷ fin false 1 (pos 2) ∷ fin false 5 (pos 0) ∷ [];
    }
unfolding E Ieee.of_bits
kept = refl

-- 14 and 15: the needed words are zero, the others stay; 13: all stay
cleared : rooms_on_e (budget 100000 1000 2 1 0) [] (rooms 31 34 3)
    ≡ record { frames = replicate 30 0 ++ (5 ∷ []); kept = replicate 33 0 ++ (5 ∷ []); scores = fin false 0 (pos 0) ∷ fin false 0 (pos 0) ∷ fin false 5 (pos 0) ∷ [] }
unfolding E Ieee.of_bits
cleared = refl

unchanged : rooms_on_e (budget 100000 1000 2 1 0) scores (rooms 29 34 3) ≡ record { frames = replicate 29 5; kept = replicate 34 5; scores = replicate 3 (fin false 5 (pos 0)) }
unfolding E Ieee.of_bits
unchanged = refl

-- ---- the listing

abbrev listed_on_e : SearchBudget → ℕ → ListRooms → List ℕ
listed_on_e b skip rs =
    let r = E.list b skip rs in
    r.refusal ∷ r.place ∷ r.status ∷ r.written ∷ r.words ∷ r.evaluations ∷ []

abbrev list_room : ℕ → ℕ → ℕ → ListRooms
list_room f v o = record { frames = replicate f 5; slot = replicate v 5; out = replicate o 5 }

-- room for all three, for two, from the third on, from past the last on, a slot too short, a budget that stops
listing : listed_on_e (budget 100000 1000 32 8 0) 0 (list_room 330 131 29)
    ∷ listed_on_e (budget 100000 1000 32 8 0) 0 (list_room 330 131 28)
    ∷ listed_on_e (budget 100000 1000 32 8 0) 2 (list_room 330 131 28)
    ∷ listed_on_e (budget 100000 1000 32 8 0) 0xffff_ffff_ffff_ffff (list_room 330 131 28)
    ∷ listed_on_e (budget 100000 1000 32 8 0) 0 (list_room 330 130 28)
    ∷ listed_on_e (budget 9 1000 32 8 0) 0 (list_room 330 131 6)
    ∷ []
    ≡ (0 ∷ 0 ∷ 1 ∷ 3 ∷ 29 ∷ 3 ∷ []) ∷ (0 ∷ 0 ∷ 1 ∷ 2 ∷ 14 ∷ 3 ∷ []) ∷ (0 ∷ 0 ∷ 1 ∷ 1 ∷ 15 ∷ 3 ∷ []) ∷ (0 ∷ 0 ∷ 1 ∷ 0 ∷ 0 ∷ 3 ∷ []) ∷ (13 ∷ 0 ∷ 0 ∷ 0 ∷ 0 ∷ 0 ∷ [])
    ∷ (0 ∷ 0 ∷ 3 ∷ 0 ∷ 0 ∷ 3 ∷ []) ∷ []
unfolding E Ieee.of_bits
listing = refl

abbrev list_rooms_on_e : SearchBudget → ℕ → ListRooms → ListRooms
list_rooms_on_e b skip rs = E.list_rooms b skip rs

listed_words : list_rooms_on_e (budget 100000 1000 2 1 0) 1 (list_room 31 12 8)
    ≡ record {
      frames = 0 ∷ 0 ∷ 0 ∷ 0 ∷ 0 ∷ 2 ∷ 2 ∷ 2 ∷ 0 ∷ 0 ∷ (0 ∷ 1 ∷ 6 ∷ 0 ∷ 0 ∷ 3 ∷ 3 ∷ 4 ∷ 0 ∷ 4 ∷ (0 ∷ 0 ∷ 7 ∷ 0 ∷ 1 ∷ 0 ∷ 0 ∷ 0 ∷ 6 ∷ 8 ∷ (5 ∷ [])));
      slot = replicate 11 0 ++ (5 ∷ []);
      out = 0 ∷ 1 ∷ 1 ∷ 0 ∷ 0 ∷ 10 ∷ 0 ∷ 5 ∷ [];
    }
unfolding E Ieee.of_bits
listed_words = refl

-- ---- the unbudgeted walk of panel E: 21 units (one of them seeding), 3 evaluations, 3 frames at most

abbrev phase_words : Phase → List ℕ
phase_words (going w) = 0 ∷ w.work ∷ w.evaluations ∷ length w.stack ∷ []
phase_words (ended e w) = 1 ∷ w.work ∷ w.evaluations ∷ length w.stack ∷ []

abbrev free_on_e : ℕ → List ℕ
free_on_e n = E.deepest n ∷ phase_words (E.units n)

unbudgeted : free_on_e 19 ∷ free_on_e 20 ∷ free_on_e 0xffff_ffff_ffff_ffff ∷ []
    ≡ (3 ∷ 0 ∷ 20 ∷ 3 ∷ 1 ∷ []) ∷ (3 ∷ 1 ∷ 21 ∷ 3 ∷ 0 ∷ []) ∷ (3 ∷ 1 ∷ 21 ∷ 3 ∷ 0 ∷ []) ∷ []
unfolding E Ieee.of_bits
unbudgeted = refl

-- ---- the program: the sheet of 01 byte for byte; a job with a byte too many; a score that is a NaN

printed_sheet : E.print (bits 0x14 0x40 ++ (bits 0x14 0x40 ++ bits 0x10 0x40))
    ≡ 115 ∷ 116 ∷ 97 ∷ 116 ∷ 117 ∷ 115 ∷ 32 ∷ 100 ∷ 111 ∷ 109 ∷ 97 ∷ 105 ∷ 110 ∷ 45 ∷ 101 ∷ 120 ∷ 104 ∷ 97 ∷ 117 ∷ 115 ∷ 116 ∷ 101 ∷ 100 ∷ 45 ∷ 111 ∷ 112 ∷ 116 ∷ 105 ∷ 109 ∷ 117 ∷ 109 ∷ 45 ∷ 97 ∷ 110 ∷ 100 ∷ 45 ∷ 99 ∷ 111 ∷ 114 ∷ 114 ∷ 101 ∷ 108 ∷ 97 ∷ 116 ∷ 101 ∷ 100 ∷ 45 ∷ 115 ∷ 117 ∷ 112 ∷ 112 ∷ 111 ∷ 114 ∷ 116 ∷ 45 ∷ 99 ∷ 101 ∷ 114 ∷ 116 ∷ 105 ∷ 102 ∷ 105 ∷ 101 ∷ 100 ∷ 10 ∷ 119 ∷ 111 ∷ 114 ∷ 107 ∷ 32 ∷ 50 ∷ 49 ∷ 10 ∷ 101 ∷ 118 ∷ 97 ∷ 108 ∷ 117 ∷ 97 ∷ 116 ∷ 105 ∷ 111 ∷ 110 ∷ 115 ∷ 32 ∷ 51 ∷ 10 ∷ 110 ∷ 97 ∷ 116 ∷ 105 ∷ 118 ∷ 101 ∷ 115 ∷ 32 ∷ 49 ∷ 10 ∷ 100 ∷ 111 ∷ 110 ∷ 111 ∷ 114 ∷ 115 ∷ 32 ∷ 54 ∷ 10 ∷ 110 ∷ 111 ∷ 110 ∷ 45 ∷ 110 ∷ 97 ∷ 116 ∷ 105 ∷ 118 ∷ 101 ∷ 32 ∷ 49 ∷ 10 ∷ 109 ∷ 105 ∷ 120 ∷ 101 ∷ 100 ∷ 32 ∷ 49 ∷ 10 ∷ 109 ∷ 105 ∷ 120 ∷ 101 ∷ 100 ∷ 45 ∷ 105 ∷ 100 ∷ 101 ∷ 110 ∷ 116 ∷ 105 ∷ 116 ∷ 121 ∷ 32 ∷ 49 ∷ 10 ∷ 115 ∷ 119 ∷ 105 ∷ 116 ∷ 99 ∷ 104 ∷ 101 ∷ 115 ∷ 32 ∷ 50 ∷ 10 ∷ 102 ∷ 97 ∷ 109 ∷ 105 ∷ 108 ∷ 105 ∷ 101 ∷ 115 ∷ 32 ∷ 49 ∷ 10 ∷ 111 ∷ 112 ∷ 116 ∷ 105 ∷ 109 ∷ 97 ∷ 32 ∷ 49 ∷ 10 ∷ 102 ∷ 111 ∷ 114 ∷ 101 ∷ 105 ∷ 103 ∷ 110 ∷ 32 ∷ 50 ∷ 10 ∷ 114 ∷ 111 ∷ 117 ∷ 116 ∷ 101 ∷ 32 ∷ 48 ∷ 32 ∷ 48 ∷ 32 ∷ 48 ∷ 32 ∷ 52 ∷ 32 ∷ 43 ∷ 10 ∷ 114 ∷ 111 ∷ 117 ∷ 116 ∷ 101 ∷ 32 ∷ 48 ∷ 32 ∷ 49 ∷ 32 ∷ 54 ∷ 32 ∷ 56 ∷ 32 ∷ 43 ∷ 10 ∷ 114 ∷ 111 ∷ 117 ∷ 116 ∷ 101 ∷ 32 ∷ 48 ∷ 32 ∷ 48 ∷ 32 ∷ 55 ∷ 32 ∷ 49 ∷ 48 ∷ 32 ∷ 43 ∷ 10 ∷ []
unfolding E
printed_sheet = refl

-- "refused 16 0", "refused 15 2"
printed_refusals : E.print (bits 0x14 0x40 ++ (bits 0x14 0x40 ++ (0 ∷ bits 0x10 0x40))) ∷ E.print (bits 0x14 0x40 ++ (bits 0xf8 0x7f ++ bits 0x10 0x40)) ∷ []
    ≡ (114 ∷ 101 ∷ 102 ∷ 117 ∷ 115 ∷ 101 ∷ 100 ∷ 32 ∷ 49 ∷ 54 ∷ 32 ∷ 48 ∷ 10 ∷ []) ∷ (114 ∷ 101 ∷ 102 ∷ 117 ∷ 115 ∷ 101 ∷ 100 ∷ 32 ∷ 49 ∷ 53 ∷ 32 ∷ 50 ∷ 10 ∷ []) ∷ []
unfolding E
printed_refusals = refl
