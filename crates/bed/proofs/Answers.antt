-- Laws of the exported answers: 1 to 8 first, and what follows of each promise.
use Prim.Native.Nat.{ℕ}
use mathlib.Core.Path.{◌≡◌}
use mathlib.Core.List.{List}
use lib.ListN.{length}
use Rattle.image.specs.declared.Header.{Header}
use Rattle.image.specs.declared.PanelRefusal.{PanelRefusal}
use Rattle.image.specs.Header.{refusal_number}
use Rattle.std.specs.declared.result.Result.{Result}
use Rattle.std.specs.declared.result.Result.TheVariants.{Ok, Err}
use Rattle.image.specs.Panel.{panel_of}
use Rattle.graph.specs.Check.{checked}
use Rattle.evaluate.specs.Refusals.{at}
use Rattle.names.specs.Names.{lines_of}
use Rattle.texts.specs.Bed.{held}
use Rattle.bed.specs.declared.BedReply.{BedReply}
use Rattle.bed.specs.Answers.{table_refusal, bed_text, words_then_room, writing_refusal, text_refusal, reading_refusal, write_answer, write_out, read_answer, read_out}
use Rattle.bed.specs.Inner.{Replied}
use Rattle.bed.specs.Theorems.{WriteHolds, ReadHolds}
use Rattle.bed.proofs.Calls.{panel_passes, panel_stops}
use Rattle.bed.proofs.Trips.{write_holds, read_holds}

-- ---- writing

module _ (s names ws xs ys : List ℕ) (r : BedReply) (o : Result Header PanelRefusal) (eo : o ≡ checked s) where
  module _ (h : Header) (t : o ≡ Ok h) (a : BedReply) (er : r ≡ a) (d : Replied (at (table_refusal (panel_of s) names) 0 (words_then_room (panel_of s) names ws (length xs))) (bed_text names ws) xs ys a) where
    all : Replied (writing_refusal s names ws (length xs)) (bed_text names ws) xs ys r
    unfolding writing_refusal
    all = panel_passes s o eo (at (table_refusal (panel_of s) names) 0 (words_then_room (panel_of s) names ws (length xs))) (bed_text names ws) xs ys r h t (rw er d)

    pub write-answer : r ≡ write_answer s names ws (length xs)
    unfolding write_answer
    write-answer = all.answer

    pub write-out : ys ≡ write_out s names ws xs
    unfolding write_out
    write-out = all.room

    pub write_told : WriteHolds s names ws r ys
    write_told = write_holds s names ws xs r ys write-answer write-out

module _ (s names ws xs : List ℕ) (x : PanelRefusal) (n : ℕ) (is : n ≡ refusal_number x) (r : BedReply) (o : Result Header PanelRefusal) (eo : o ≡ checked s) (t : o ≡ Err x) (e : r ≡ record { refusal = n; place = 0; length = 0 }) where
  stopped : Replied (writing_refusal s names ws (length xs)) (bed_text names ws) xs xs r
  unfolding writing_refusal
  stopped = panel_stops s o eo (at (table_refusal (panel_of s) names) 0 (words_then_room (panel_of s) names ws (length xs))) (bed_text names ws) xs xs r x n t is e

  pub write_refused : r ≡ write_answer s names ws (length xs)
  unfolding write_answer
  write_refused = stopped.answer

  pub write_untouched : xs ≡ write_out s names ws xs
  unfolding write_out
  write_untouched = stopped.room

  pub write_stopped : WriteHolds s names ws r xs
  write_stopped = write_holds s names ws xs r xs write_refused write_untouched

-- ---- reading

module _ (s names : List ℕ) (family : ℕ) (text xs ys : List ℕ) (r : BedReply) (o : Result Header PanelRefusal) (eo : o ≡ checked s) where
  module _ (h : Header) (t : o ≡ Ok h) (a : BedReply) (er : r ≡ a) (d : Replied (at (table_refusal (panel_of s) names) 0 (text_refusal (panel_of s) (lines_of names) family text (length xs))) (held (lines_of names) family text) xs ys a) where
    whole : Replied (reading_refusal s names family text (length xs)) (held (lines_of names) family text) xs ys r
    unfolding reading_refusal
    whole = panel_passes s o eo (at (table_refusal (panel_of s) names) 0 (text_refusal (panel_of s) (lines_of names) family text (length xs))) (held (lines_of names) family text) xs ys r h t (rw er d)

    pub read_answer_is : r ≡ read_answer s names family text (length xs)
    unfolding read_answer
    read_answer_is = whole.answer

    pub read_out_is : ys ≡ read_out s names family text xs
    unfolding read_out
    read_out_is = whole.room

    pub read_told : ReadHolds s names text r ys
    read_told = read_holds s names family text xs r ys read_answer_is read_out_is

module _ (s names : List ℕ) (family : ℕ) (text xs : List ℕ) (x : PanelRefusal) (n : ℕ) (is : n ≡ refusal_number x) (r : BedReply) (o : Result Header PanelRefusal) (eo : o ≡ checked s) (t : o ≡ Err x) (e : r ≡ record { refusal = n; place = 0; length = 0 }) where
  halted : Replied (reading_refusal s names family text (length xs)) (held (lines_of names) family text) xs xs r
  unfolding reading_refusal
  halted = panel_stops s o eo (at (table_refusal (panel_of s) names) 0 (text_refusal (panel_of s) (lines_of names) family text (length xs))) (held (lines_of names) family text) xs xs r x n t is e

  pub read_refused : r ≡ read_answer s names family text (length xs)
  unfolding read_answer
  read_refused = halted.answer

  pub read_untouched : xs ≡ read_out s names family text xs
  unfolding read_out
  read_untouched = halted.room

  pub read_stopped : ReadHolds s names text r xs
  read_stopped = read_holds s names family text xs r xs read_refused read_untouched
