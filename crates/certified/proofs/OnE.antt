-- For the reader: the sheet's sentence used. Two jobs on panel E, with the scores 5, 5, 4 and with 0.0, -0.0, 4.0, meet its premises.
use Prim.Native.Nat.{ℕ}
use Prim.Native.String.{String}
use native.Mathlib.Omega.{arith}
use mathlib.Core.Path.{◌≡◌, refl}
use mathlib.Core.Logic.{inl}
use mathlib.Core.List.{List, [], ◌∷◌, ◌++◌}
use lib.ListN.{length, replicate}
use lib.Ieee as Ieee
use lib.Ieee.{Float}
use Rattle.ground.specs.Texts.{bytes_of}
use Rattle.ground.specs.Lists.{each, split, sum, all, any, count, keep, after, rising, numbers_from, distinct}
use Rattle.storage.specs.Bytes.{little, number}
use Rattle.storage.specs.Records.{port_of}
use Rattle.storage.specs.Orders.{word_order, port_order, bucket_of, word_below, word_up_to, place_of, place_lt, record_lt, same_port}
use Rattle.image.specs.Header.{header_of, sound2, sound3, opened}
use Rattle.image.specs.Image.{entry_of, entries, counts, path_counts, paths, lane_ports, hub, ports_of, start_of, families, paths_of}
use Rattle.image.specs.Panel.{zip_lanes, panel_by, panel_of}
use Rattle.families.specs.Families.{count_ok, names, no_twice, sound5a, sound5b, sound5}
use Rattle.panel.specs.Refusals.{length_ok, sound4, letter, sound_place, sound_record, sound_records, hub_rising, lane_rising, lanes_rising, listed, sound8, from, own_row, own_rows, sound6, sound7}
use Rattle.graph.specs.Check.{ports_checked, later, checked, panel_refusal}
use Rattle.graph.specs.PanelE.{panel_e}
use Rattle.evaluate.specs.Segments.{Assignment}
use Rattle.evaluate.specs.Words.{encode}
use Rattle.search.specs.Budget.{width_ok, budget_ok, budget_in_bounds, budget_refusal}
use Rattle.search.specs.Walk.{enter, terminal_task, member_task, port_unit, hub_unit, unit_of}
use Rattle.search.specs.Run.{units, run, seeds, seeded, after_seeding, walk_from, walk}
use Rattle.search.specs.Counters.{most_switches, tally_of}
use Rattle.search.specs.Keep.{ties_to, lowered, added, keep_one, keep_all, same_list, evaluated, scores_refusal}
use Rattle.search.specs.Search.{walked, evaluation_refusal, kept_of, searched_as, search_from, search}
use Rattle.search.specs.Rooms.{most_paths, slot_width, rooms_refusal}
use Rattle.search.specs.Answers.{search_refusal}
use Rattle.search.specs.Sheet.{foreign, digits, route_lines, routes_lines, sheet, refusal_line}
use Rattle.search.specs.Job.{job_ok, budget_in, scores_in, program_rooms, job_refusal, printed}
use Rattle.certificate.specs.Terms.{Complete}
use Rattle.certificate.specs.Sentence.{ScoredBy, Tied}
use Rattle.certificate.proofs.SentenceOnE.{f, g}
use Rattle.certificate.specs.Sheet.{Begins, certified_line, panel_for, handed_for, Shows, Tells}
use Rattle.certificate.proofs.Sheet.{sheet_sentence}

-- panel E's 296 bytes, no budget words, three scores
abbrev job : List ℕ → List ℕ
job scores = 40 ∷ 1 ∷ (replicate 6 0 ++ (replicate 8 0 ++ (3 ∷ (replicate 7 0 ++ (panel_e ++ scores)))))

-- a double's two upper bytes, with zeros below
abbrev bits : ℕ → ℕ → List ℕ
bits low high = replicate 6 0 ++ (low ∷ high ∷ [])

unfoldable pub job5 : List ℕ
unfolding panel_e
job5 = job (bits 0x14 0x40 ++ (bits 0x14 0x40 ++ bits 0x10 0x40))

unfoldable pub job0 : List ℕ
unfolding panel_e
job0 = job (bits 0 0 ++ (bits 0 0x80 ++ bits 0x10 0x40))

-- the sheet of a job, with all that it comes to
unfoldable pub sheet_of : List ℕ → List ℕ
unfolding little number each split sum all any count keep after rising numbers_from distinct port_of word_order port_order header_of sound2 sound3 opened entry_of entries counts path_counts paths lane_ports hub ports_of start_of families paths_of zip_lanes panel_by panel_of count_ok names no_twice sound5a sound5b sound5 length_ok sound4 letter sound_place sound_record sound_records place_of place_lt record_lt hub_rising lane_rising lanes_rising same_port listed sound8 from own_row own_rows sound6 sound7 ports_checked later checked panel_e panel_refusal encode width_ok budget_ok budget_in_bounds budget_refusal enter terminal_task member_task port_unit hub_unit unit_of units run seeds seeded after_seeding walk_from walk most_switches tally_of ties_to lowered added keep_one keep_all same_list evaluated scores_refusal walked evaluation_refusal kept_of searched_as search_from search most_paths slot_width rooms_refusal search_refusal bucket_of word_below word_up_to Ieee.lt Ieee.le Ieee.sub Ieee.of_bits foreign digits route_lines routes_lines sheet refusal_line job_ok budget_in scores_in program_rooms job_refusal printed
sheet_of s = printed s

-- its scores are h's
unfoldable pub scored_as : (Assignment → Float) → List ℕ → Type 0
unfolding little number each split sum all count numbers_from port_of word_order header_of entry_of entries counts path_counts paths lane_ports hub families zip_lanes panel_by panel_of panel_e enter terminal_task member_task port_unit hub_unit unit_of units run seeds seeded after_seeding walk_from walk bucket_of word_below word_up_to Ieee.of_bits Ieee.eq budget_in scores_in
scored_as h s = ScoredBy h (handed_for s) (scores_in s)

-- how many families its panel has
unfoldable pub families_in : List ℕ → ℕ
unfolding little number each split sum port_of header_of entry_of entries counts path_counts paths lane_ports hub families zip_lanes panel_by panel_of panel_e
families_in s = length (panel_for s).families

-- a job's sheet begins with the certified line; its scores are h's, and its panel has a family
pub record Shown (s : List ℕ) (behind : String) (h : Assignment → Float) : Type 0 where
  pub sheet : sheet_of s ≡ bytes_of certified_line ++ bytes_of behind
  pub scored : scored_as h s
  pub family : families_in s ≡ 1

-- then the sentence tells all of it
module _ (s : List ℕ) (behind : String) (h : Assignment → Float) (w : Shown s behind h) where
  begins : Begins certified_line (printed s)
  unfolding sheet_of
  begins = record { rest = bytes_of behind; is = w.sheet }

  pub tells : Tells s (printed s)
  tells = sheet_sentence s (inl begins)

  pub shows : Shows h s (printed s)
  unfolding scored_as families_in
  shows = let n = w.family in tells.shows (omega arith) h w.scored

  pub complete : Complete (λ a. a) (handed_for s) (Tied h (panel_for s) (budget_in s).tie_width shows.incumbent) shows.tied
  complete = shows.complete begins

-- ---- 5, 5, 4

abbrev behind5 : String
behind5 = "work 21\nevaluations 3\nnatives 1\ndonors 6\nnon-native 1\nmixed 1\nmixed-identity 1\nswitches 2\nfamilies 1\noptima 1\nforeign 2\nroute 0 0 0 4 +\nroute 0 1 6 8 +\nroute 0 0 7 10 +\n"

shown5 : Shown job5 behind5 f
unfolding sheet_of scored_as families_in job5 bytes_of
shown5 = record { sheet = refl; scored = (refl, (refl, (refl, tt))); family = refl }

pub shows5 : Shows f job5 (printed job5)
shows5 = shows job5 behind5 f shown5

-- ---- 0.0, -0.0, 4.0, where g says -0.0

abbrev behind0 : String
behind0 = "work 21\nevaluations 3\nnatives 1\ndonors 6\nnon-native 1\nmixed 1\nmixed-identity 1\nswitches 2\nfamilies 1\noptima 1\nforeign 0\nroute 0 0 0 10 +\n"

shown0 : Shown job0 behind0 g
unfolding sheet_of scored_as families_in job0 bytes_of
shown0 = record { sheet = refl; scored = (refl, (refl, (refl, tt))); family = refl }

pub shows0 : Shows g job0 (printed job0)
shows0 = shows job0 behind0 g shown0
