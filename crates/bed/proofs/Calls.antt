-- Laws of the calls' answers: one for each way through the code.
use Prim.Native.Nat.{ℕ, zero, suc, ◌≤◌, ◌<◌}
use native.Mathlib.Omega.{arith}
use mathlib.Core.Path.{◌≡◌, refl, sym, ◌∙◌, subst}
use mathlib.Core.Bool.{true, false}
use mathlib.Core.List.{List, [], ◌∷◌}
use lib.Dec.{leb, eqb}
use lib.ListN.{length, drop, get_or, replicate, length-replicate, get_or-replicate}
use lib.Seq.{take_all}
use borrow.Author.Tests.{le-leb, lt-leb, ne_eqb}
use Rattle.image.specs.declared.Header.{Header}
use Rattle.image.specs.declared.PanelRefusal.{PanelRefusal}
use Rattle.image.specs.Header.{refusal_number}
use Rattle.std.specs.declared.result.Result.{Result}
use Rattle.std.specs.declared.result.Result.TheVariants.{Ok, Err}
use Rattle.image.specs.Panel.{panel_of}
use Rattle.image.proofs.Laws.{panel_lanes}
use Rattle.panel.specs.Inner.{Accepted}
use Rattle.graph.specs.Check.{checked, panel_refusal}
use Rattle.evaluate.specs.declared.Refusal.{Refusal}
use Rattle.evaluate.specs.Properties.{Each}
use Rattle.evaluate.specs.Refusals.{no_refusal, at}
use Rattle.evaluate.specs.Segments.{SoundSpan, flat}
use Rattle.evaluate.specs.Check.{given_refusal, and_after}
use Rattle.evaluate.proofs.Lists.{append_each, each_map}
use Rattle.graph.proofs.Laws.{refusal_some}
use Rattle.evaluate.proofs.Ports.{rows_of}
use Rattle.evaluate.proofs.CheckLegal.{at_some, accepted_legal}
use Rattle.words.specs.Inner.{routes_of, assignment_of, Formed}
use Rattle.assignment.specs.declared.AssignmentRefusal.{AssignmentRefusal}
use Rattle.assignment.specs.declared.AssignmentRefusal.TheVariants.{Room, Words, Family, Count, Route, Overlap}
use Rattle.assignment.specs.Refusals.{number_of, place_of}
use Rattle.routes.proofs.Laws.{some_number}
use Rattle.assignment.proofs.Given.{Given, given}
use Rattle.text.specs.Inner.{Put}
use Rattle.text.proofs.Laws.{put_over, put_count}
use Rattle.names.specs.Names.{lines_of, table_ok}
use Rattle.names.specs.Inner.{Chained, last_of}
use Rattle.texts.specs.Bed.{routes_text}
use Rattle.bed.specs.declared.BedReply.{BedReply}
use Rattle.bed.specs.Answers.{table_refusal, room_refusal, bed_text, words_then_room}
use Rattle.bed.specs.Inner.{OnLane, Ready, Replied, last_refusal}

-- ---- refusals in order

-- an answer that refuses
pub refused : (q : Refusal) (text xs : List ℕ) (r : BedReply) → 0 < q.number → r ≡ record { refusal = q.number; place = q.place; length = 0 } → Replied q text xs xs r
refused q text xs r h e =
    let z : eqb q.number 0 ≡ false = ne_eqb q.number 0 (λ n. omega arith) in
    record { answer = e ∙ rw z; room = rw z }

pub some_refusal : (e : AssignmentRefusal) → 0 < number_of e
some_refusal Room = omega arith
some_refusal Words = omega arith
some_refusal Family = omega arith
some_refusal Count = omega arith
some_refusal (Route r) = some_number r.why
some_refusal Overlap = omega arith

pub refused_by : (q : Refusal) (n : ℕ) (text xs : List ℕ) (r : BedReply) → q ≡ record { number = suc n; place = 0 } → r ≡ record { refusal = suc n; place = 0; length = 0 } → Replied q text xs xs r
refused_by q n text xs r e f = subst (λ (x : Refusal). Replied x text xs xs r) (sym e) (refused (record { number = suc n; place = 0 }) text xs r (omega arith) f)

-- ---- 1 to 8, of both calls

module _ (s : List ℕ) (o : Result Header PanelRefusal) (eo : o ≡ checked s) (later : Refusal) (text xs ys : List ℕ) (r : BedReply) where
  pub panel_passes : (h : Header) → o ≡ Ok h → Replied later text xs ys r → Replied (at (panel_refusal s) 0 later) text xs ys r
  unfolding panel_refusal
  panel_passes h t d = rw (← eo, t) d

  pub panel_stops : (x : PanelRefusal) (n : ℕ) → o ≡ Err x → n ≡ refusal_number x → r ≡ record { refusal = n; place = 0; length = 0 } → Replied (at (panel_refusal s) 0 later) text xs xs r
  unfolding panel_refusal
  panel_stops x n t is e = rw (← eo, t, ← is) (go n refl)
    where
      go : (m : ℕ) → n ≡ m → Replied (at m 0 later) text xs xs r
      go zero q = let some = refusal_some x in let z : ⊥ = omega arith in absurd z
      go (suc m) q = refused_by (record { number = suc m; place = 0 }) m text xs r refl (e ∙ rw q)

-- ---- 34, of both calls

pub chained_none : (ns : List (List ℕ)) → Chained ns (replicate 4096 0) (replicate 4096 0) 0
unfolding last_of
chained_none ns =
    record {
      chains = length-replicate {A = ℕ} 4096 0;
      names = length-replicate {A = ℕ} 4096 0;
      last = λ c lt. get_or-replicate 4096 c 0 0 lt;
      before = λ j lt. let z : ⊥ = omega arith in absurd z;
    }

-- 34, by what the table's reading told
module _ (s : List ℕ) (h : Header) (names : List ℕ) (acc : Accepted s h) (later : Refusal) (text xs : List ℕ) where
  pub table_stops : table_ok h.lanes names ≡ false → Replied (at (table_refusal (panel_of s) names) 0 later) text xs xs (record { refusal = 34; place = 0; length = 0 })
  table_stops f = refused_by (at (table_refusal (panel_of s) names) 0 later) 33 text xs (record { refusal = 34; place = 0; length = 0 }) (rw (panel_lanes s h acc.counted.framed, f)) refl

  pub table_passes : table_ok h.lanes names ≡ true → {ys : List ℕ} {r : BedReply} → Replied later text xs ys r → Replied (at (table_refusal (panel_of s) names) 0 later) text xs ys r
  table_passes f d = rw (panel_lanes s h acc.counted.framed, f) d

-- ---- writing: 37, and the text

pub text_37 : (text xs : List ℕ) (n : ℕ) → n ≡ length text → length xs < n → Replied (last_refusal text (length xs)) text xs xs (record { refusal = 37; place = 0; length = 0 })
unfolding last_refusal
text_37 text xs n e lt = refused_by (last_refusal text (length xs)) 36 text xs (record { refusal = 37; place = 0; length = 0 }) (rw (lt-leb (length text) (length xs) (omega arith))) refl

pub text_put : (text xs ys : List ℕ) (n m : ℕ) → n ≡ length text → n ≤ length xs → Put text xs 0 ys m → Replied (last_refusal text (length xs)) text xs ys (record { refusal = 0; place = 0; length = m })
unfolding last_refusal
text_put text xs ys n m e le p =
    let fits : length text ≤ length xs = omega arith in
    let c : m ≡ length text = put_count p ∙ (omega arith) in
    let none : leb (length text) (length xs) ≡ true = le-leb (length text) (length xs) fits in
    record { answer = rw (none, c); room = rw none (put_over p ∙ rw (take_all (length xs) text fits)) }

pub ruleset text_steps = (text_37, text_put)

-- ---- writing: what the check accepts can be written

each_flat : {A : Type 0} (P : A → Type 0) (ls : List (List A)) → Each P (flat ls) → Each (Each P) ls
each_flat P [] h = tt
each_flat P (l ∷ ls) h = let (a, b) = append_each P l (flat ls) h in (a, each_flat P ls b)

pub sound_spans : (s : List ℕ) (h : Header) (ws : List ℕ) → Accepted s h → Given (panel_of s) ws → Each (Each (SoundSpan (panel_of s))) (routes_of (get_or ws 1 0) (drop 2 ws))
sound_spans s h ws acc t = each_flat (SoundSpan (panel_of s)) (routes_of (get_or ws 1 0) (drop 2 ws)) (accepted_legal (panel_of s) (rows_of s h acc) (assignment_of ws) t.none).0

ready : (s : List ℕ) (h : Header) (ws : List ℕ) → Accepted s h → Given (panel_of s) ws → Ready ws (get_or ws 1 0) h.lanes
ready s h ws acc t =
    let n = panel_lanes s h acc.counted.framed in
    record {
      parsed = t.formed.parsed;
      named = each_map (Each (SoundSpan (panel_of s))) (Each (OnLane h.lanes))
          (λ r k. each_map (SoundSpan (panel_of s)) (OnLane h.lanes) (λ x y. subst (λ (m : ℕ). x.source < m) n y.lane) r k)
          (routes_of (get_or ws 1 0) (drop 2 ws)) (sound_spans s h ws acc t);
      short = t.few;
    }

bed-text : (names ws : List ℕ) → Formed ws → bed_text names ws ≡ routes_text (lines_of names) 0 (routes_of (get_or ws 1 0) (drop 2 ws))
unfolding bed_text
bed-text names ws w = rw w.said

module _ (s : List ℕ) (h : Header) (ws : List ℕ) (acc : Accepted s h) (eq : no_refusal ≡ given_refusal (panel_of s) ws) where
  pub named_given : Given (panel_of s) ws
  named_given = given (panel_of s) ws (rw (← eq) refl)

  pub named_ready : Ready ws (get_or ws 1 0) h.lanes
  named_ready = ready s h ws acc named_given

  pub named_long : 2 ≤ length ws
  named_long = named_given.formed.long

module _ (s : List ℕ) (h : Header) (names ws xs : List ℕ) (acc : Accepted s h) where
  pub named_refused : (e : AssignmentRefusal) → record { number = number_of e; place = place_of e } ≡ given_refusal (panel_of s) ws → Replied (words_then_room (panel_of s) names ws (length xs)) (bed_text names ws) xs xs (record { refusal = number_of e; place = place_of e; length = 0 })
  unfolding words_then_room
  named_refused e eq =
      let q : Refusal = record { number = number_of e; place = place_of e } in
      let pos = some_refusal e in
      subst (λ (x : Refusal). Replied x (bed_text names ws) xs xs (record { refusal = number_of e; place = place_of e; length = 0 }))
      (sym (rw (← eq) (at_some (number_of e) (place_of e) (at (room_refusal (length (bed_text names ws)) (length xs)) 0 no_refusal) pos)))
      (refused q (bed_text names ws) xs (record { refusal = number_of e; place = place_of e; length = 0 }) pos refl)

  pub named_written : no_refusal ≡ given_refusal (panel_of s) ws → {ys : List ℕ} {r : BedReply} → Replied (last_refusal (routes_text (lines_of names) 0 (routes_of (get_or ws 1 0) (drop 2 ws))) (length xs)) (routes_text (lines_of names) 0 (routes_of (get_or ws 1 0) (drop 2 ws))) xs ys r
      → Replied (words_then_room (panel_of s) names ws (length xs)) (bed_text names ws) xs ys r
  unfolding words_then_room last_refusal
  named_written eq {ys} {r} d =
      let t = bed-text names ws (named_given s h ws acc eq).formed in
      let last = at (room_refusal (length (bed_text names ws)) (length xs)) 0 no_refusal in
      let first : and_after (given_refusal (panel_of s) ws) last ≡ last = rw (← eq) in
      subst (λ (x : Refusal). Replied x (bed_text names ws) xs ys r) (sym first)
      (subst (λ (x : List ℕ). Replied (last_refusal x (length xs)) x xs ys r) (sym t) d)

pub ruleset named_steps = (named_refused, named_ready, named_long, named_written)
