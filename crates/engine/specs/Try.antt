-- The plain engine's call computed on panel E, and on a family that is too deep by one place.
use Rattle.std.specs.Prelude.{ℕ, zero, suc, ◌/◌, ◌%◌, ◌≡◌, refl, List, [], ◌∷◌, ◌++◌, take, replicate}
use Rattle.ground.specs.Lists.{each, split, sum, all, any, count, keep, after, rising, numbers_from, distinct}
use Rattle.storage.specs.Bytes.{little, number}
use Rattle.storage.specs.Records.{port_of}
use Rattle.storage.specs.Orders.{word_order, port_order, bucket_of, word_below, word_up_to, place_of, place_lt, record_lt, same_port}
use Rattle.image.specs.Header.{header_of, sound2, sound3, opened}
use Rattle.image.specs.Image.{entry_of, entries, counts, path_counts, paths, lane_ports, hub, ports_of, start_of, families, paths_of}
use Rattle.image.specs.Panel.{zip_lanes, panel_by, panel_of}
use Rattle.families.specs.Families.{count_ok, names, no_twice, sound5a, sound5b, sound5}
use Rattle.panel.specs.Refusals.{length_ok, sound4, letter, sound_place, sound_record, sound_records, hub_rising, lane_rising, lanes_rising, listed, sound8, from, own_row, own_rows, sound6, sound7}
use Rattle.graph.specs.Check.{ports_checked, later, checked, panel_refusal}
use Rattle.graph.specs.PanelE.{panel_e}
use Rattle.evaluate.specs.Words.{encode}
use Rattle.search.specs.Answers.{fitting, written}
use Rattle.search.specs.Walk.{terminal_task, member_task}
use Rattle.plain.specs.Steps as plain
use Rattle.plain.specs.Steps.{hub_marks, port_marks, place_marks, family_marks, marks_from, plain_marks, goes_too_deep, plain_refusal}
use Rattle.engine.specs.declared.PlainReply.{PlainReply}
use Rattle.engine.specs.Answer.{plain_answer, plain_out}

abbrev shown : PlainReply → List ℕ
shown r = r.refusal ∷ r.place ∷ r.written ∷ r.words ∷ []

-- the call on an image: its reply, and out afterwards
record Calls : Type 0 where
  answer : ℕ → ℕ → List ℕ
  out : ℕ → List ℕ → List ℕ

unfoldable on : List ℕ → Calls
unfolding little number each split sum all any count keep after rising numbers_from distinct port_of word_order port_order header_of sound2 sound3 opened entry_of entries counts path_counts paths lane_ports hub ports_of start_of families paths_of zip_lanes panel_by panel_of count_ok names no_twice sound5a sound5b sound5 length_ok sound4 letter sound_place sound_record sound_records place_of place_lt record_lt hub_rising lane_rising lanes_rising same_port listed sound8 from own_row own_rows sound6 sound7 ports_checked later checked panel_refusal encode terminal_task member_task fitting written bucket_of word_below word_up_to hub_marks port_marks place_marks family_marks marks_from plain_marks plain.listed goes_too_deep plain_refusal plain_answer plain_out
on s = record { answer = λ from room. shown (plain_answer s from room); out = plain_out s }

-- the native route has 7 words, the mosaic 15
abbrev native : List ℕ
native = 0 ∷ 1 ∷ 1 ∷ 0 ∷ 0 ∷ 10 ∷ 0 ∷ []

abbrev mosaic : List ℕ
mosaic = 0 ∷ 1 ∷ 3 ∷ 0 ∷ 0 ∷ 4 ∷ 0 ∷ 1 ∷ 6 ∷ 8 ∷ 0 ∷ 0 ∷ 7 ∷ 10 ∷ 0 ∷ []

-- room for both, for the first, for none; from the second on, and from behind it
answers : (on panel_e).answer 0 22
    ∷ (on panel_e).answer 0 21
    ∷ (on panel_e).answer 0 6
    ∷ (on panel_e).answer 1 15
    ∷ (on panel_e).answer 1 14
    ∷ (on panel_e).answer 2 22
    ∷ (on panel_e).answer 0xffff_ffff_ffff_ffff 22
    ∷ (on (take 79 panel_e)).answer 0 22
    ∷ []
    ≡ (0 ∷ 0 ∷ 2 ∷ 22 ∷ []) ∷ (0 ∷ 0 ∷ 1 ∷ 7 ∷ []) ∷ (0 ∷ 0 ∷ 0 ∷ 0 ∷ []) ∷ (0 ∷ 0 ∷ 1 ∷ 15 ∷ []) ∷ (0 ∷ 0 ∷ 0 ∷ 0 ∷ []) ∷ (0 ∷ 0 ∷ 0 ∷ 0 ∷ []) ∷ (0 ∷ 0 ∷ 0 ∷ 0 ∷ []) ∷ (1 ∷ 0 ∷ 0 ∷ 0 ∷ []) ∷ []
unfolding on panel_e
answers = refl

-- the rest of out stays
outs : (on panel_e).out 0 (replicate 24 5) ∷ (on panel_e).out 0 (replicate 21 5) ∷ (on panel_e).out 1 (replicate 16 5) ∷ (on panel_e).out 2 (replicate 3 5) ∷ (on (take 79 panel_e)).out 0 (replicate 24 5) ∷ []
    ≡ (native ++ (mosaic ++ (5 ∷ 5 ∷ []))) ∷ (native ++ replicate 14 5) ∷ (mosaic ++ (5 ∷ [])) ∷ replicate 3 5 ∷ replicate 24 5 ∷ []
unfolding on panel_e
outs = refl

-- ---- 65 lanes of 4 bases, a family of the first 64, and A at 1 on the last two: 65 places, and so 42 with out as it was

abbrev word : ℕ → List ℕ → List ℕ
word n l = n % 256 ∷ n / 256 ∷ 0 ∷ 0 ∷ 0 ∷ 0 ∷ 0 ∷ 0 ∷ l

-- n lanes of 4 bases, with so many ports each
unfoldable lanes : ℕ → ℕ → List ℕ → List ℕ
lanes zero ports l = l
lanes (suc n) ports l = word 4 (word ports (word 0 (lanes n ports l)))

-- n paths, from lane i on
unfoldable lane_paths : ℕ → ℕ → List ℕ → List ℕ
lane_paths zero i l = l
lane_paths (suc n) i l = word i (lane_paths n (suc i) l)

abbrev ports : List ℕ → List ℕ
ports l = 65 ∷ word 63 (word 1 (0 ∷ 65 ∷ word 64 (word 1 (0 ∷ l))))

unfoldable deep_panel : List ℕ
deep_panel =
    word 1 (word 65 (word 1 (word 64 (word 2 (word 80 (word 1640 (word 1648 (word 2160 (word 2196
    (lanes 63 0 (lanes 2 1 (word 64 (lane_paths 64 0 (ports (ports [])))))))))))))))

-- whatever the room, and though the native assignment would fit; a panel that is unsound besides is refused for that
too-deep : (on deep_panel).answer 0 322 ∷ (on deep_panel).out 0 (replicate 322 5) ∷ (on deep_panel).answer 0 0 ∷ (on (deep_panel ++ (0 ∷ []))).answer 0 322 ∷ []
    ≡ (42 ∷ 0 ∷ 0 ∷ 0 ∷ []) ∷ replicate 322 5 ∷ (42 ∷ 0 ∷ 0 ∷ 0 ∷ []) ∷ (3 ∷ 0 ∷ 0 ∷ 0 ∷ []) ∷ []
unfolding on deep_panel lanes lane_paths
too-deep = refl
