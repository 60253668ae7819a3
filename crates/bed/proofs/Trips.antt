-- BED both ways, of the answers: what is written reads back as the same words, and what is read, written again, is the same text.
use Prim.Native.Nat.{ℕ, zero, suc, ◌+◌, ◌≤◌, ◌<◌}
use native.Mathlib.Omega.{arith}
use mathlib.Core.Path.{◌≡◌, refl, sym, ap, ◌∙◌}
use mathlib.Core.Bool.{true}
use mathlib.Core.List.{List, [], ◌∷◌}
use lib.Dec.{leb, ltb, eqb}
use lib.ListN.{length, take, drop, get_or}
use lib.Seq.{take-append_seam}
use borrow.Author.Tests.{le-leb, eq-eqb}
use Rattle.image.specs.declared.Header.{Header}
use Rattle.image.specs.Panel.{Panel, panel_of, paths_at}
use Rattle.panel.specs.Inner.{Accepted}
use Rattle.graph.specs.Check.{panel_refusal}
use Rattle.graph.proofs.PanelLaws.{lane_low}
use Rattle.evaluate.specs.declared.Segment.{Segment}
use Rattle.evaluate.specs.declared.Refusal.{Refusal}
use Rattle.evaluate.specs.Properties.{Each}
use Rattle.evaluate.specs.Refusals.{no_refusal, unless, at}
use Rattle.evaluate.specs.Segments.{Route, Assignment, SoundSpan}
use Rattle.evaluate.specs.Words.{Read, malformed, got, decode, encode}
use Rattle.evaluate.specs.Check.{most_words, routes_refusal, overlap_refusal, assignment_refusal, read_refusal, given_refusal, words_refusal, check_refusal, normal_words, check_answer, and_after, over}
use Rattle.evaluate.proofs.Lists.{each_map}
use Rattle.evaluate.proofs.Native.{taken}
use Rattle.evaluate.proofs.CheckLegal.{unless_zero, at_zero}
use Rattle.evaluate.proofs.RoundTrips.{encode_decode, decode_encode}
use Rattle.words.specs.Inner.{routes_of, assignment_of}
use Rattle.assignment.proofs.Given.{Given, given}
use Rattle.assignment.proofs.Normal.{normal_given}
use Rattle.names.specs.Names.{lines_of, name_at, table_ok}
use Rattle.names.proofs.Laws as tables
use Rattle.rows.specs.Rows.{too_large}
use Rattle.rows.proofs.RowTrips.{Writable}
use Rattle.texts.specs.Bed.{routes_text, text_ok, all_known, held, routes_in}
use Rattle.texts.proofs.Trips.{Writables, written_ok, written_known, written_held, read_back}
use Rattle.bed.specs.declared.BedReply.{BedReply}
use Rattle.bed.specs.Answers.{table_refusal, room_refusal, bed_text, words_then_room, writing_refusal, text_refusal, reading_refusal, unrefused, write_answer, write_out, read_answer, read_out}
use Rattle.bed.specs.Theorems.{wrote, WriteHolds, ReadHolds, Writes, RoomSuffices}
use Rattle.bed.proofs.Calls.{sound_spans}
use Rattle.bed.proofs.Writing.{name_short}
use Rattle.bed.proofs.Short.{Slight, routes_slight}
use Rattle.bed.proofs.Accepted.{routes_some, few_routes}

-- ---- unrefused writing

record Written (s names ws : List ℕ) (room : ℕ) : Type 0 where
  panel : panel_refusal s ≡ 0
  table : table_ok (length (panel_of s).lanes) names ≡ true
  given : (given_refusal (panel_of s) ws).number ≡ 0

written : (s names ws : List ℕ) (room : ℕ) → (writing_refusal s names ws room).number ≡ 0 → Written s names ws room
unfolding writing_refusal words_then_room
written s names ws room e =
    let last = at (room_refusal (length (bed_text names ws)) room) 0 no_refusal in
    let g = given_refusal (panel_of s) ws in
    let (a, b) = at_zero (panel_refusal s) 0 (at (table_refusal (panel_of s) names) 0 (and_after g last)) e in
    let (c, d) = at_zero (table_refusal (panel_of s) names) 0 (and_after g last) b in
    let (f, h) = at_zero g.number g.place last d in
    record { panel = a; table = (unless_zero (table_ok (length (panel_of s).lanes) names) 33 0 c).0; given = f }

-- routes of sound spans can be written
writable : (s : List ℕ) (h : Header) (names : List ℕ) → Accepted s h → tables.Good names (length (panel_of s).lanes) → (k : ℕ) → k < too_large → (x : Segment) → SoundSpan (panel_of s) x → Writable (lines_of names) k x
writable s h names acc g k small x sp =
    let l = lane_low s h acc x.source in
    let i = sp.inside in
    let j = sp.some in
    let c = g.count in
    let o = sp.lane in
    record {
      name = tables.lane_name_ok g x.source sp.lane;
      start = omega arith;
      end = omega arith;
      slot = small;
      lane = tables.own_lane g x.source sp.lane;
      inside = omega arith;
    }

writables : (s : List ℕ) (h : Header) (names : List ℕ) → Accepted s h → tables.Good names (length (panel_of s).lanes) → (k : ℕ) (rs : List Route) → k + length rs < too_large → Each (Each (SoundSpan (panel_of s))) rs → Each (λ r. 0 < length r) rs → Writables (lines_of names) k rs
writables s h names acc g k [] small sp some = tt
writables s h names acc g k (r ∷ rs) small sp some =
    (some.0, each_map (SoundSpan (panel_of s)) (Writable (lines_of names) k) (writable s h names acc g k (omega arith)) r sp.0, writables s h names acc g (suc k) rs (omega arith) sp.1 some.1)

module _ (s names ws : List ℕ) (room : ℕ) (w : Written s names ws room) where
  acc : Accepted s (taken s w.panel).header
  acc = (taken s w.panel).accepted

  took : Given (panel_of s) ws
  took = given (panel_of s) ws w.given

  abbrev rs : List Route
  rs = routes_of (get_or ws 1 0) (drop 2 ws)

  ready : Writables (lines_of names) 0 rs
  ready =
      let g = tables.good_table names (length (panel_of s).lanes) w.table in
      let f = few_routes ws took.formed took.few in
      writables s (taken s w.panel).header names acc g 0 rs (omega arith) (sound_spans s (taken s w.panel).header ws acc took) (routes_some s (taken s w.panel).header ws acc took)

  text_is : bed_text names ws ≡ routes_text (lines_of names) 0 rs
  unfolding bed_text
  text_is = rw took.formed.said

  words_are : encode (record { family = get_or ws 0 0; routes = rs }) ≡ ws
  words_are = encode_decode ws [] (assignment_of ws) took.formed.said

  text-ok : text_ok (bed_text names ws) ≡ true
  text-ok = rw text_is (written_ok (lines_of names) rs ready)

  text_known : all_known (lines_of names) (bed_text names ws) ≡ true
  text_known = rw text_is (written_known (lines_of names) rs ready)

  text_held : held (lines_of names) (get_or ws 0 0) (bed_text names ws) ≡ ws
  text_held = rw text_is (written_held (lines_of names) rs ready (get_or ws 0 0) ∙ words_are)

  reads_back : (room' : ℕ) → length ws ≤ room' → reading_refusal s names (get_or ws 0 0) (bed_text names ws) room' ≡ given_refusal (panel_of s) ws
  unfolding reading_refusal text_refusal
  reads_back room' fits = rw (w.panel, w.table, text-ok, text_known, text_held, le-leb (length ws) room' fits)

-- ---- the theorems

shown : (q : Refusal) (l : List ℕ) → q.number ≡ 0 → unrefused q l ≡ l
shown q l e = rw (eq-eqb q.number 0 e)

laid : (l out : List ℕ) → take (length l) (over l out) ≡ l
laid l out = take-append_seam l (drop (length l) out)

-- where nothing is refused there is no place
at_passes : (n i : ℕ) (later : Refusal) → (at n i later).number ≡ 0 → at n i later ≡ later
at_passes zero i later e = refl
at_passes (suc n) i later e = let z : suc n ≡ 0 = e in let x : ⊥ = omega arith in absurd x

assigned_nowhere : (p : Panel) (a : Assignment) → (assignment_refusal p a).number ≡ 0 → assignment_refusal p a ≡ no_refusal
unfolding assignment_refusal
assigned_nowhere p a e =
    let q = routes_refusal p 0 (paths_at p a.family) a.routes in
    let last = at (overlap_refusal a) 0 no_refusal in
    let first = unless (ltb a.family (length p.families)) 23 (unless (eqb (length a.routes) (length (paths_at p a.family))) 24 0) in
    let x = at_passes first 0 (and_after q last) e in
    let y = at_passes q.number q.place last (at_zero first 0 (and_after q last) e).1 in
    let z = at_passes (overlap_refusal a) 0 no_refusal (at_zero q.number q.place last (at_zero first 0 (and_after q last) e).1).1 in
    x ∙ y ∙ z

given_nowhere : (p : Panel) (ws : List ℕ) → (given_refusal p ws).number ≡ 0 → given_refusal p ws ≡ no_refusal
unfolding given_refusal
given_nowhere p ws e = at_passes (unless (leb (length ws) most_words) 22 0) 0 (read_refusal p (decode ws)) e ∙ go (decode ws) (at_zero (unless (leb (length ws) most_words) 22 0) 0 (read_refusal p (decode ws)) e).1
  where
    go : (d : Read Assignment) → (read_refusal p d).number ≡ 0 → read_refusal p d ≡ no_refusal
    go malformed h = let z : ◌≡◌ {A = ℕ} 22 0 = h in let x : ⊥ = omega arith in absurd x
    go (got a us) h = assigned_nowhere p a h

-- WRITE, THEN READ: words written as BED, read with their family and with room for them, are the same words
pub write_holds : (s names ws out : List ℕ) (r : BedReply) (out' : List ℕ) → r ≡ write_answer s names ws (length out) → out' ≡ write_out s names ws out → WriteHolds s names ws r out'
unfolding write_answer write_out read_answer read_out
write_holds s names ws out r out' er eo none room fits =
    let n : (writing_refusal s names ws (length out)).number ≡ 0 = ap (λ (x : BedReply). x.refusal) (sym er) ∙ none in
    let w = written s names ws (length out) n in
    let l = shown (writing_refusal s names ws (length out)) (bed_text names ws) n in
    let text : take r.length out' ≡ bed_text names ws = rw (er, eo, l) (laid (bed_text names ws) out) in
    let q : reading_refusal s names (get_or ws 0 0) (bed_text names ws) (length room) ≡ no_refusal = reads_back s names ws (length out) w (length room) fits ∙ given_nowhere (panel_of s) ws w.given in
    let h = text_held s names ws (length out) w in
    rw text (rw (q, h), rw (q, h))

-- ---- unrefused reading

record Taken (s names : List ℕ) (family : ℕ) (text : List ℕ) : Type 0 where
  panel : panel_refusal s ≡ 0
  table : table_refusal (panel_of s) names ≡ 0
  form : text_ok text ≡ true
  known : all_known (lines_of names) text ≡ true
  given : (given_refusal (panel_of s) (held (lines_of names) family text)).number ≡ 0

took_text : (s names : List ℕ) (family : ℕ) (text : List ℕ) (room : ℕ) → (reading_refusal s names family text room).number ≡ 0 → Taken s names family text
unfolding reading_refusal text_refusal
took_text s names family text room e =
    let ns = lines_of names in
    let ws = held ns family text in
    let g = given_refusal (panel_of s) ws in
    let tests = unless (text_ok text) 35 (unless (all_known ns text) 36 (room_refusal (length ws) room)) in
    let (a, b) = at_zero (panel_refusal s) 0 (at (table_refusal (panel_of s) names) 0 (at tests 0 g)) e in
    let (c, d) = at_zero (table_refusal (panel_of s) names) 0 (at tests 0 g) b in
    let (f, h) = at_zero tests 0 g d in
    let (ok, i) = unless_zero (text_ok text) 34 (unless (all_known ns text) 36 (room_refusal (length ws) room)) f in
    let (kn, j) = unless_zero (all_known ns text) 35 (room_refusal (length ws) room) i in
    record { panel = a; table = c; form = ok; known = kn; given = h }

text_again : (s names : List ℕ) (family : ℕ) (text : List ℕ) → Taken s names family text → bed_text names (held (lines_of names) family text) ≡ text
unfolding bed_text held
text_again s names family text t = rw (decode_encode (record { family = family; routes = routes_in (lines_of names) (lines_of text) })) (read_back (lines_of names) text t.form t.known)

-- READ, THEN WRITE: a text that is read without refusal, its words written again with room for them, is the same text
pub read_holds : (s names : List ℕ) (family : ℕ) (text out : List ℕ) (r : BedReply) (out' : List ℕ) → r ≡ read_answer s names family text (length out) → out' ≡ read_out s names family text out
    → ReadHolds s names text r out'
unfolding write_answer write_out read_answer read_out writing_refusal words_then_room
read_holds s names family text out r out' er eo none room fits =
    let n : (reading_refusal s names family text (length out)).number ≡ 0 = ap (λ (x : BedReply). x.refusal) (sym er) ∙ none in
    let t = took_text s names family text (length out) n in
    let ws = held (lines_of names) family text in
    let l = shown (reading_refusal s names family text (length out)) ws n in
    let words : take r.length out' ≡ ws = rw (er, eo, l) (laid ws out) in
    let again = text_again s names family text t in
    let g = given_nowhere (panel_of s) ws t.given in
    let f : leb (length text) (length room) ≡ true = le-leb (length text) (length room) fits in
    rw words (rw (t.panel, t.table, g, again, f), rw (t.panel, t.table, g, again, f))

-- ---- what the check accepts is written

unrefused_words : (s names ws : List ℕ) (room : ℕ) → panel_refusal s ≡ 0 → (given_refusal (panel_of s) ws).number ≡ 0 → table_ok (length (panel_of s).lanes) names ≡ true → length (bed_text names ws) ≤ room
    → write_answer s names ws room ≡ wrote (length (bed_text names ws))
unfolding write_answer writing_refusal words_then_room
unrefused_words s names ws room pn gn table fits = rw (pn, table, given_nowhere (panel_of s) ws gn, le-leb (length (bed_text names ws)) room fits)

module _ (s names ws : List ℕ) (n : ℕ) (e : (check_answer s ws n).refusal ≡ 0) where
  parts : (panel_refusal s ≡ 0) × ((given_refusal (panel_of s) ws).number ≡ 0)
  unfolding check_answer check_refusal words_refusal
  parts =
      let (pn, later) = at_zero (panel_refusal s) 0 (at (unless (leb (length ws) n) 21 0) 0 (given_refusal (panel_of s) ws)) e in
      (pn, (at_zero (unless (leb (length ws) n) 21 0) 0 (given_refusal (panel_of s) ws) later).1)

-- For the reader: what the check accepts is written, and its normal form
pub writes : Writes
writes s names ws n room e table =
    let (pn, gn) = parts s names ws n e in
    (unrefused_words s names ws room pn gn table, unrefused_words s names (normal_words ws) room pn (normal_given s ws pn gn) table)

slight : (s : List ℕ) (h : Header) (names : List ℕ) → Accepted s h → tables.Good names (length (panel_of s).lanes) → (x : Segment) → SoundSpan (panel_of s) x → Slight (lines_of names) x
slight s h names acc g x sp =
    let l = lane_low s h acc x.source in
    let i = sp.inside in
    let j = sp.some in
    record { name = name_short (name_at (lines_of names) x.source) (tables.lane_name_ok g x.source sp.lane); start = omega arith; end = omega arith }

-- For the reader: 25 bytes a word suffice
pub room_suffices : RoomSuffices
unfolding encode
room_suffices s names ws n e table =
    let (pn, gn) = parts s names ws n e in
    let w : Written s names ws 0 = record { panel = pn; table = table; given = gn } in
    let a = acc s names ws 0 w in
    let k = took s names ws 0 w in
    let g = tables.good_table names (length (panel_of s).lanes) table in
    let h = (taken s pn).header in
    let f = few_routes ws k.formed k.few in
    let spans = each_map (Each (SoundSpan (panel_of s))) (Each (Slight (lines_of names))) (λ r l. each_map (SoundSpan (panel_of s)) (Slight (lines_of names)) (slight s h names a g) r l)
    (rs s names ws 0 w) (sound_spans s h ws a k) in
    let short = routes_slight (lines_of names) 0 (rs s names ws 0 w) (omega arith) spans in
    let t = ap length (text_is s names ws 0 w) in
    let m = ap length (words_are s names ws 0 w) in
    omega arith
