-- Laws of a text of the form, line by line.
use Prim.Native.Nat.{ℕ, ◌+◌, ◌-◌, ◌≤◌, ◌<◌}
use native.Mathlib.Omega.{arith}
use native.Mathlib.Decide.{dec_lt}
use mathlib.Core.Path.{◌≡◌, sym, ◌∙◌, subst}
use mathlib.Core.Bool.{true, ◌&&◌, true≢false}
use mathlib.Core.List.{List, ◌∷◌, map}
use lib.ListN.{length, take, drop}
use Rattle.ground.specs.Lists.{all}
use Rattle.ground.proofs.ListLaws.{both}
use Rattle.names.specs.Names.{lines_of, ended, lane_of}
use Rattle.names.specs.Inner.{Placed}
use Rattle.names.proofs.Cutting.{lines_here, ended_here, not_ended, order}
use Rattle.rows.specs.declared.Row.{Row}
use Rattle.rows.specs.Rows.{is_row, slot_of, segment_of}
use Rattle.rows.specs.Inner.{RowHeld}
use Rattle.texts.specs.declared.Line.{Line}
use Rattle.texts.specs.Bed.{slots_from, text_ok}
use Rattle.texts.specs.Inner.{Lined, LineAt}

module _ {text : List ℕ} {at : ℕ} (c : Lined text at) (e : ℕ) (lt : at < length text) (p : Placed text at 10 e) where
  pub line_ends : e < length text
  line_ends = go (dec_lt e (length text))
    where
      go : Dec (e < length text) → e < length text
      go (yes h) = h
      go (no h) = absurd (true≢false (sym c.ends ∙ not_ended p c.inside (omega arith) (omega arith)))

  pub line_fits : e + 1 ≤ length text
  line_fits = let l = line_ends in omega arith

  abbrev here : List ℕ
  here = take (e - at) (drop at text)

  lines_are : lines_of (drop at text) ≡ here ∷ lines_of (drop (e + 1) text)
  lines_are = lines_here p c.inside line_ends

  parts : (is_row here ≡ true) × (all is_row (lines_of (drop (e + 1) text)) ≡ true)
  unfolding all
  parts = both (is_row here) (all is_row (lines_of (drop (e + 1) text))) (subst (λ (l : List (List ℕ)). all is_row l ≡ true) lines_are c.rows)

  pub line_row : is_row (take (e - at) (drop at text)) ≡ true
  line_row = parts.0

  pub line_told : (ns : List (List ℕ)) {row : Row} {lane : ℕ} → RowHeld (take (e - at) (drop at text)) row → lane ≡ lane_of ns row.name.now
      → LineAt ns text at (record { segment = record { source = lane; start = row.start; end = row.end; reverse = row.reverse }; slot = row.slot; next = e + 1 })
  unfolding segment_of
  line_told ns {row} {lane} h el =
      let o = order p c.inside in
      record {
        line = here;
        lines = lines_are;
        segment = rw (el, h.name, h.start, h.end, h.reverse);
        slot = h.slot;
        further = omega arith;
        rest = record { inside = line_fits; ends = sym (ended_here p c.inside line_ends) ∙ c.ends; rows = parts.1 };
      }

-- a line of an iterator that goes over this text with this table
pub line_same : {names names' text text' : List ℕ} {at : ℕ} {l : Line} → names' ≡ names → text' ≡ text → LineAt (lines_of names') text' at l → LineAt (lines_of names) text at l
line_same e f d = rw (← e, ← f) d

-- ---- a text of the form

pub text_lined : (text : List ℕ) → text_ok text ≡ true → Lined text 0
unfolding text_ok
text_lined text h =
    let (g, s) = both (ended text && all is_row (lines_of text)) (slots_from 0 (map slot_of (lines_of text))) h in
    let (a, b) = both (ended text) (all is_row (lines_of text)) g in
    record { inside = omega arith; ends = a; rows = b }

pub text_slots : (text : List ℕ) → text_ok text ≡ true → slots_from 0 (map slot_of (lines_of text)) ≡ true
unfolding text_ok
text_slots text h = (both (ended text && all is_row (lines_of text)) (slots_from 0 (map slot_of (lines_of text))) h).1
