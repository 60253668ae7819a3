-- The text's definitions computed: what is written of routes, what a text holds, and which texts have the form.
use Rattle.std.specs.Prelude.{ℕ, ◌≡◌, refl, Bool, true, false, List, [], ◌∷◌, replicate}
use Prim.Native.String.{String}
use Rattle.ground.specs.Lists.{all, distinct}
use Rattle.ground.specs.Texts.{bytes_of}
use Rattle.evaluate.specs.declared.Segment.{Segment}
use Rattle.evaluate.specs.Segments.{Route}
use Rattle.evaluate.specs.Words.{encode}
use Rattle.search.specs.Sheet.{digits}
use Rattle.names.specs.Names.{same, cut, lines_of, ended, name_ok, table_ok, lane_of}
use Rattle.rows.specs.Rows.{row_text, value_from, is_number, is_row, slot_of, segment_of}
use Rattle.texts.specs.Bed.{route_text, routes_text, slots_from, text_ok, all_known, gathered, routes_in, held}

record Texts : Type 0 where
  table : ℕ → String → Bool
  raw : ℕ → List ℕ → Bool
  write : List Route → List ℕ
  good : String → Bool
  known : String → Bool
  words : ℕ → String → List ℕ
  bytes : String → List ℕ

-- by the names anna and b
unfoldable E : Texts
unfolding all distinct bytes_of encode digits same cut lines_of ended name_ok table_ok lane_of row_text value_from is_number is_row slot_of segment_of route_text routes_text slots_from text_ok all_known gathered routes_in held
E =
    record {
      table = λ lanes t. table_ok lanes (bytes_of t);
      raw = table_ok;
      write = routes_text (bytes_of "anna" ∷ bytes_of "b" ∷ []) 0;
      good = λ t. text_ok (bytes_of t);
      known = λ t. all_known (bytes_of "anna" ∷ bytes_of "b" ∷ []) (bytes_of t);
      words = λ f t. held (bytes_of "anna" ∷ bytes_of "b" ∷ []) f (bytes_of t);
      bytes = bytes_of;
    }

abbrev seg : ℕ → ℕ → ℕ → Bool → Segment
seg lane from to turn = record { source = lane; start = from; end = to; reverse = turn }

-- a line for each lane, the last one ended too; names that differ in a letter's case, or by being longer, are two
tables : E.table 2 "anna\nb\n" ∷ E.table 1 "~!\n" ∷ E.table 2 "a\nA\n" ∷ E.table 2 "a\nab\n" ∷ []
    ≡ replicate 4 true
unfolding E
tables = refl

-- not: the last line open, a line too few, one too many, an empty one behind, a name twice, an empty one
lines_bad : E.table 2 "anna\nb" ∷ E.table 1 "anna\nb" ∷ E.table 2 "anna\n" ∷ E.table 2 "anna\nb\nc\n" ∷ E.table 2 "anna\nb\n\n" ∷ E.table 2 "b\nb\n" ∷ E.table 3 "b\na\nb\n" ∷ E.table 2 "\nb\n" ∷ []
    ≡ replicate 8 false
unfolding E
lines_bad = refl

-- nor: a blank, a tab, CR before the line feed, a byte that does not print: 0, 127, 200
bytes_bad : E.table 1 "an na\n" ∷ E.table 1 "an\tna\n" ∷ E.table 1 "b\r\n" ∷ E.raw 1 (0 ∷ 10 ∷ []) ∷ E.raw 1 (127 ∷ 10 ∷ []) ∷ E.raw 1 (200 ∷ 10 ∷ []) ∷ []
    ≡ replicate 6 false
unfolding E
bytes_bad = refl

-- names of 64 bytes, not of 65, in the table and in a line
longest : E.table 1 "1234567890123456789012345678901234567890123456789012345678901234\n" ∷ E.table 1 "12345678901234567890123456789012345678901234567890123456789012345\n"
    ∷ E.good "1234567890123456789012345678901234567890123456789012345678901234\t0\t4\tr0\t0\t+\n" ∷ E.good "12345678901234567890123456789012345678901234567890123456789012345\t0\t4\tr0\t0\t+\n" ∷ []
    ≡ true ∷ false ∷ true ∷ false ∷ []
unfolding E
longest = refl

-- two routes, a line a segment as given: neighbours that the normal form would join are two lines
two-routes : E.write ((seg 0 0 4 false ∷ seg 0 4 10 false ∷ []) ∷ (seg 1 0 7 false ∷ seg 0 8 9 true ∷ []) ∷ [])
    ≡ E.bytes "anna\t0\t4\tr0\t0\t+\nanna\t4\t10\tr0\t0\t+\nb\t0\t7\tr1\t0\t+\nanna\t8\t9\tr1\t0\t-\n"
unfolding E
two-routes = refl

-- and read: the words as the lines hold them, not joined, family 3 beside them
two_read : E.words 3 "anna\t0\t4\tr0\t0\t+\nanna\t4\t10\tr0\t0\t+\nb\t0\t7\tr1\t0\t+\nanna\t8\t9\tr1\t0\t-\n"
    ≡ 3 ∷ 2 ∷ 2 ∷ 0 ∷ 0 ∷ 4 ∷ 0 ∷ 0 ∷ 4 ∷ 10 ∷ 0 ∷ 2 ∷ 1 ∷ 0 ∷ 7 ∷ 0 ∷ 0 ∷ 8 ∷ 9 ∷ 1 ∷ []
unfolding E
two_read = refl

-- no line holds no route
nothing : E.words 3 "" ≡ 3 ∷ 0 ∷ []
unfolding E
nothing = refl

-- the form: numbers up to 2^64 - 1, spans in any order, a name that is in no table; whether spans are sound is for the check
forms : E.good "" ∷ E.good "c\t0\t4\tr0\t0\t+\n" ∷ E.good "b\t18446744073709551615\t0\tr0\t0\t-\n" ∷ E.good "b\t5\t6\tr0\t0\t+\nb\t1\t2\tr0\t0\t+\nb\t0\t1\tr1\t0\t+\n" ∷ []
    ≡ replicate 4 true
unfolding E
forms = refl

-- not in the form: no line feed at the end, CR, a blank for a tab, an empty line, also behind a good one, five columns, seven, no name, a name with a
-- blank, a comment, a track line
lines_off : E.good "b\t0\t4\tr0\t0\t+" ∷ E.good "b\t0\t4\tr0\t0\t+\r\n" ∷ E.good "b 0\t4\tr0\t0\t+\n" ∷ E.good "\n" ∷ E.good "b\t0\t4\tr0\t0\t+\n\n" ∷ E.good "b\t0\t4\tr0\t0\n"
    ∷ E.good "b\t0\t4\tr0\t0\t+\t\n" ∷ E.good "\t0\t4\tr0\t0\t+\n" ∷ E.good "b b\t0\t4\tr0\t0\t+\n" ∷ E.good "#\n" ∷ E.good "track\n" ∷ []
    ≡ replicate 11 false
unfolding E
lines_off = refl

-- nor numbers: leading zeros, 2^64, no digit, a sign, the bytes before 0 and behind 9
numbers_off : E.good "b\t00\t4\tr0\t0\t+\n" ∷ E.good "b\t0\t04\tr0\t0\t+\n" ∷ E.good "b\t18446744073709551616\t4\tr0\t0\t+\n" ∷ E.good "b\t0\t18446744073709551616\tr0\t0\t+\n" ∷ E.good "b\t\t4\tr0\t0\t+\n"
    ∷ E.good "b\t0\t+4\tr0\t0\t+\n" ∷ E.good "b\t-0\t4\tr0\t0\t+\n" ∷ E.good "b\t/\t4\tr0\t0\t+\n" ∷ E.good "b\t0\t:\tr0\t0\t+\n" ∷ []
    ≡ replicate 9 false
unfolding E
numbers_off = refl

-- nor columns: a slot without its r, with another letter, with a leading zero, without a number; another score, or none; another strand, two, or none
columns_off : E.good "b\t0\t4\t0\t0\t+\n" ∷ E.good "b\t0\t4\tR0\t0\t+\n" ∷ E.good "b\t0\t4\t10\t0\t+\n" ∷ E.good "b\t0\t4\tr00\t0\t+\n" ∷ E.good "b\t0\t4\tr\t0\t+\n" ∷ E.good "b\t0\t4\tr0\t00\t+\n"
    ∷ E.good "b\t0\t4\tr0\t1\t+\n" ∷ E.good "b\t0\t4\tr0\t.\t+\n" ∷ E.good "b\t0\t4\tr0\t\t+\n" ∷ E.good "b\t0\t4\tr0\t0\t.\n" ∷ E.good "b\t0\t4\tr0\t0\t++\n" ∷ E.good "b\t0\t4\tr0\t0\t\n" ∷ []
    ≡ replicate 12 false
unfolding E
columns_off = refl

-- a slot of two digits
eleven : E.good "b\t0\t1\tr0\t0\t+\nb\t0\t1\tr1\t0\t+\nb\t0\t1\tr2\t0\t+\nb\t0\t1\tr3\t0\t+\nb\t0\t1\tr4\t0\t+\nb\t0\t1\tr5\t0\t+\nb\t0\t1\tr6\t0\t+\nb\t0\t1\tr7\t0\t+\nb\t0\t1\tr8\t0\t+\nb\t0\t1\tr9\t0\t+\nb\t0\t1\tr10\t0\t+\n" ≡ true
unfolding E
eleven = refl

-- nor slots that do not begin at 0, leave a gap, or come back, though no number is missing in r1, r0
slots_off : E.good "b\t0\t4\tr1\t0\t+\n" ∷ E.good "b\t0\t4\tr0\t0\t+\nb\t4\t5\tr2\t0\t+\n" ∷ E.good "b\t0\t4\tr1\t0\t+\nb\t4\t5\tr0\t0\t+\n" ∷ E.good "b\t0\t4\tr0\t0\t+\nb\t4\t5\tr1\t0\t+\nb\t6\t7\tr0\t0\t+\n" ∷ []
    ≡ replicate 4 false
unfolding E
slots_off = refl

-- c is not in the table, nor is an, of which anna is longer, nor annab
unknown : E.known "b\t0\t4\tr0\t0\t+\nanna\t0\t4\tr0\t0\t+\n" ∷ E.known "b\t0\t4\tr0\t0\t+\nc\t0\t4\tr0\t0\t+\n" ∷ E.known "an\t0\t4\tr0\t0\t+\n" ∷ E.known "annab\t0\t4\tr0\t0\t+\n" ∷ []
    ≡ true ∷ false ∷ false ∷ false ∷ []
unfolding E
unknown = refl
