-- The assignment check computed on panel E: what is accepted, and each of 21 to 31 with its place.
use Rattle.std.specs.Prelude.{ℕ, ◌≡◌, refl, true, false, List, [], ◌∷◌, leb, length, replicate}
use Rattle.ground.specs.Lists.{each, split, sum, all, any, count, keep, after, rising, numbers_from, distinct}
use Rattle.storage.specs.Bytes.{little, number}
use Rattle.storage.specs.Records.{port_of, stands_at}
use Rattle.storage.specs.Orders.{word_order, port_order}
use Rattle.image.specs.Header.{header_of, sound2, sound3, opened}
use Rattle.image.specs.Image.{entry_of, entries, counts, path_counts, paths, lane_ports, hub, ports_of, start_of, families, paths_of}
use Rattle.image.specs.Panel.{zip_lanes, panel_by, panel_of}
use Rattle.families.specs.Families.{count_ok, names, no_twice, sound5a, sound5b, sound5}
use Rattle.panel.specs.Refusals.{length_ok, sound4, letter, sound_place, sound_record, sound_records, hub_rising, lane_rising, lanes_rising, listed, sound8, from, own_row, own_rows, sound6, sound7}
use Rattle.storage.specs.Orders.{place_of, place_lt, record_lt, same_port}
use Rattle.graph.specs.Check.{ports_checked, later, checked}
use Rattle.graph.specs.PanelE.{panel_e}
use Rattle.evaluate.specs.declared.AssignmentReply.{AssignmentReply}
use Rattle.evaluate.specs.declared.Refusal.{Refusal}
use Rattle.graph.specs.Check.{panel_refusal}
use Rattle.evaluate.specs.Segments.{joining, apart}
use Rattle.graph.specs.Lookups.{ports_at}
use Rattle.evaluate.specs.Words.{encode, read_segments, read_routes, read_assignment, decode}
use Rattle.evaluate.specs.Check.{most_words, leaves, joint_refusal, joints_refusal, normal_refusal, route_refusal, routes_refusal, overlap_refusal, assignment_refusal, given_refusal, words_refusal, check_refusal, normal_words, check_answer, check_out}

-- the refusal, its place and the words of the answer
abbrev shown : AssignmentReply → List ℕ
shown r = r.refusal ∷ r.place ∷ r.words ∷ []

-- the check on panel E, what it leaves in out, and its refusals on panel E with both lanes in one family
record Calls : Type 0 where
  answer : List ℕ → ℕ → AssignmentReply
  out : List ℕ → List ℕ → List ℕ
  both : List ℕ → ℕ → Refusal

unfoldable E : Calls
unfolding little number each split sum all any count keep after rising numbers_from distinct port_of word_order port_order header_of sound2 sound3 opened entry_of entries counts path_counts paths lane_ports hub ports_of start_of families paths_of zip_lanes panel_by panel_of count_ok names no_twice sound5a sound5b sound5 length_ok sound4 letter sound_place sound_record sound_records place_of place_lt record_lt hub_rising lane_rising lanes_rising same_port listed sound8 from own_row own_rows sound6 sound7 ports_checked later checked panel_e panel_refusal joining apart ports_at stands_at encode read_segments read_routes read_assignment decode leaves joint_refusal joints_refusal normal_refusal route_refusal routes_refusal overlap_refusal assignment_refusal given_refusal words_refusal check_refusal normal_words check_answer check_out
E =
    let p = panel_of panel_e in
    record {
      answer = check_answer panel_e;
      out = check_out panel_e;
      both = words_refusal (record { k = p.k; lanes = p.lanes; families = (0 ∷ 1 ∷ []) ∷ []; hub = p.hub });
    }

-- what the check of these words answers on panel E, with so many words of room
abbrev on_e : ℕ → List ℕ → List ℕ
on_e room ws = shown (E.answer ws room)

-- accepted: the native, the native in two pieces, the mosaic of 01's sheet
accepted : on_e 7 (0 ∷ 1 ∷ 1 ∷ 0 ∷ 0 ∷ 10 ∷ 0 ∷ [])
    ∷ on_e 100 (0 ∷ 1 ∷ 2 ∷ 0 ∷ 0 ∷ 4 ∷ 0 ∷ 0 ∷ 4 ∷ 10 ∷ 0 ∷ [])
    ∷ on_e 100 (0 ∷ 1 ∷ 3 ∷ 0 ∷ 0 ∷ 4 ∷ 0 ∷ 1 ∷ 6 ∷ 8 ∷ 0 ∷ 0 ∷ 7 ∷ 10 ∷ 0 ∷ [])
    ∷ []
    ≡ (0 ∷ 0 ∷ 7 ∷ []) ∷ (0 ∷ 0 ∷ 7 ∷ []) ∷ (0 ∷ 0 ∷ 15 ∷ []) ∷ []
unfolding E
accepted = refl

-- 21 before 22; 22: no words, counts of 2^64 - 1, a reverse of 2, a left-over word
words : on_e 6 (0 ∷ 1 ∷ 1 ∷ 0 ∷ 0 ∷ 10 ∷ 2 ∷ [])
    ∷ on_e 100 []
    ∷ on_e 100 (0 ∷ 0xffff_ffff_ffff_ffff ∷ [])
    ∷ on_e 100 (0 ∷ 1 ∷ 0xffff_ffff_ffff_ffff ∷ 0 ∷ 0 ∷ 10 ∷ 0 ∷ [])
    ∷ on_e 100 (0 ∷ 1 ∷ 1 ∷ 0 ∷ 0 ∷ 10 ∷ 2 ∷ [])
    ∷ on_e 100 (0 ∷ 1 ∷ 1 ∷ 0 ∷ 0 ∷ 10 ∷ 0 ∷ 0 ∷ [])
    ∷ []
    ≡ (21 ∷ 0 ∷ 0 ∷ []) ∷ (22 ∷ 0 ∷ 0 ∷ []) ∷ (22 ∷ 0 ∷ 0 ∷ []) ∷ (22 ∷ 0 ∷ 0 ∷ []) ∷ (22 ∷ 0 ∷ 0 ∷ []) ∷ (22 ∷ 0 ∷ 0 ∷ []) ∷ []
unfolding E
words = refl

-- 65,536 words are not over the bound, 65,537 are: both are malformed here, so only the bound's test is shown
bound : leb (length {A = ℕ} (replicate 65536 0)) most_words ∷ leb (length {A = ℕ} (replicate 65537 0)) most_words ∷ [] ≡ true ∷ false ∷ []
bound = refl

-- 23, 24, 25, 26 three times, 27 three times, 28, 29, 30
routes : on_e 100 (1 ∷ 0 ∷ [])
    ∷ on_e 100 (0 ∷ 0 ∷ [])
    ∷ on_e 100 (0 ∷ 1 ∷ 0 ∷ [])
    ∷ on_e 100 (0 ∷ 1 ∷ 1 ∷ 2 ∷ 0 ∷ 10 ∷ 0 ∷ [])
    ∷ on_e 100 (0 ∷ 1 ∷ 1 ∷ 0 ∷ 4 ∷ 4 ∷ 0 ∷ [])
    ∷ on_e 100 (0 ∷ 1 ∷ 1 ∷ 0 ∷ 0 ∷ 0xffff_ffff_ffff_ffff ∷ 0 ∷ [])
    ∷ on_e 100 (0 ∷ 1 ∷ 1 ∷ 0 ∷ 1 ∷ 10 ∷ 0 ∷ [])
    ∷ on_e 100 (0 ∷ 1 ∷ 1 ∷ 1 ∷ 0 ∷ 10 ∷ 0 ∷ [])
    ∷ on_e 100 (0 ∷ 1 ∷ 1 ∷ 0 ∷ 0 ∷ 10 ∷ 1 ∷ [])
    ∷ on_e 100 (0 ∷ 1 ∷ 3 ∷ 0 ∷ 0 ∷ 5 ∷ 0 ∷ 1 ∷ 6 ∷ 8 ∷ 0 ∷ 0 ∷ 7 ∷ 10 ∷ 0 ∷ [])
    ∷ on_e 100 (0 ∷ 1 ∷ 3 ∷ 0 ∷ 0 ∷ 4 ∷ 0 ∷ 1 ∷ 5 ∷ 8 ∷ 0 ∷ 0 ∷ 7 ∷ 10 ∷ 0 ∷ [])
    ∷ on_e 100 (0 ∷ 1 ∷ 3 ∷ 0 ∷ 0 ∷ 4 ∷ 0 ∷ 1 ∷ 8 ∷ 9 ∷ 0 ∷ 0 ∷ 7 ∷ 10 ∷ 0 ∷ [])
    ∷ []
    ≡ (23 ∷ 0 ∷ 0 ∷ []) ∷ (24 ∷ 0 ∷ 0 ∷ []) ∷ (25 ∷ 0 ∷ 0 ∷ []) ∷ (26 ∷ 0 ∷ 0 ∷ []) ∷ (26 ∷ 0 ∷ 0 ∷ []) ∷ (26 ∷ 0 ∷ 0 ∷ [])
    ∷ (27 ∷ 0 ∷ 0 ∷ []) ∷ (27 ∷ 0 ∷ 0 ∷ []) ∷ (27 ∷ 0 ∷ 0 ∷ []) ∷ (28 ∷ 0 ∷ 0 ∷ []) ∷ (29 ∷ 0 ∷ 0 ∷ []) ∷ (30 ∷ 0 ∷ 0 ∷ []) ∷ []
unfolding E
routes = refl

abbrev on_both : List ℕ → List ℕ
on_both ws = (E.both ws 100).number ∷ (E.both ws 100).place ∷ []

-- both whole; 25 in route 1; 27 in route 0 before 25 in route 1; 26 in route 1 before an overlap; 31, where route 0 takes of lane 1
places : on_both (0 ∷ 2 ∷ 1 ∷ 0 ∷ 0 ∷ 10 ∷ 0 ∷ 1 ∷ 1 ∷ 0 ∷ 10 ∷ 0 ∷ [])
    ∷ on_both (0 ∷ 2 ∷ 1 ∷ 0 ∷ 0 ∷ 10 ∷ 0 ∷ 0 ∷ [])
    ∷ on_both (0 ∷ 2 ∷ 1 ∷ 0 ∷ 0 ∷ 9 ∷ 0 ∷ 0 ∷ [])
    ∷ on_both (0 ∷ 2 ∷ 3 ∷ 0 ∷ 0 ∷ 4 ∷ 0 ∷ 1 ∷ 6 ∷ 8 ∷ 0 ∷ 0 ∷ 7 ∷ 10 ∷ 0 ∷ 1 ∷ 1 ∷ 0 ∷ 11 ∷ 0 ∷ [])
    ∷ on_both (0 ∷ 2 ∷ 3 ∷ 0 ∷ 0 ∷ 4 ∷ 0 ∷ 1 ∷ 6 ∷ 8 ∷ 0 ∷ 0 ∷ 7 ∷ 10 ∷ 0 ∷ 1 ∷ 1 ∷ 0 ∷ 10 ∷ 0 ∷ [])
    ∷ []
    ≡ (0 ∷ 0 ∷ []) ∷ (25 ∷ 1 ∷ []) ∷ (27 ∷ 0 ∷ []) ∷ (26 ∷ 1 ∷ []) ∷ (31 ∷ 0 ∷ []) ∷ []
unfolding E
places = refl

-- out afterwards: the normal form and the rest as it was; on a refusal, as it was
abbrev out_on_e : List ℕ → List ℕ → List ℕ
out_on_e ws out = E.out ws out

written : out_on_e (0 ∷ 1 ∷ 2 ∷ 0 ∷ 0 ∷ 4 ∷ 0 ∷ 0 ∷ 4 ∷ 10 ∷ 0 ∷ []) (replicate 12 5)
    ∷ out_on_e (0 ∷ 1 ∷ 0 ∷ []) (replicate 4 5)
    ∷ []
    ≡ (0 ∷ 1 ∷ 1 ∷ 0 ∷ 0 ∷ 10 ∷ 0 ∷ 5 ∷ 5 ∷ 5 ∷ 5 ∷ 5 ∷ []) ∷ (5 ∷ 5 ∷ 5 ∷ 5 ∷ []) ∷ []
unfolding E
written = refl
