-- Panel E is accepted, and edits of one byte are refused, each of 1 to 8 among them.
use Rattle.std.specs.Prelude.{ℕ, ◌≡◌, refl, [], ◌∷◌, set, take}
use Rattle.storage.specs.Bytes.{little, number}
use Rattle.ground.specs.Lists.{each, split, sum, all, any, count, after, rising, numbers_from, distinct}
use Rattle.storage.specs.Records.{port_of}
use Rattle.storage.specs.Orders.{word_order, port_order}
use Rattle.image.specs.Header.{header_of, sound2, sound3, opened}
use Rattle.image.specs.Image.{entry_of, entries, counts, path_counts, paths, lane_ports, hub, ports_of, start_of, families, paths_of}
use Rattle.families.specs.Families.{count_ok, names, no_twice, sound5a, sound5b, sound5}
use Rattle.storage.specs.Orders.{record_lt, same_port, place_of, place_lt}
use Rattle.panel.specs.Refusals.{length_ok, sound4, letter, sound_place, sound_record, sound_records, lane_rising, lanes_rising, hub_rising, listed, sound8, from, own_row, own_rows, sound6, sound7}
use Rattle.graph.specs.PanelE.{panel_e}
use Rattle.graph.specs.Check.{ports_checked, later, checked, panel_refusal}

-- what a check of panel E answers where byte i is b, and of its first 79 bytes
abbrev with : ℕ → ℕ → ℕ
with i b = panel_refusal (set panel_e i b)

codes : (with 0 2 ∷ panel_refusal (take 79 panel_e) ∷ with 0 33 ∷ with 40 81 ∷ with 88 3 ∷ with 128 65 ∷ with 136 2 ∷ with 144 66 ∷ with 162 2 ∷ with 154 6 ∷ with 220 84 ∷ with 230 4 ∷ [])
    ≡ (0 ∷ 1 ∷ 2 ∷ 3 ∷ 4 ∷ 5 ∷ 5 ∷ 6 ∷ 6 ∷ 7 ∷ 7 ∷ 8 ∷ [])
unfolding little number each split sum all any count after rising numbers_from distinct port_of word_order port_order header_of sound2 sound3 opened entry_of entries counts path_counts paths lane_ports hub ports_of start_of families paths_of count_ok names no_twice sound5a sound5b sound5 length_ok sound4 letter sound_place sound_record sound_records place_of place_lt record_lt hub_rising lane_rising lanes_rising same_port listed sound8 from own_row own_rows sound6 sound7 ports_checked later checked panel_refusal panel_e
codes = refl
