-- The listing's sentence and the check's, from the definitions of what the two calls answer.
use Prim.Native.Nat.{ℕ, zero, suc, ◌+◌, ◌-◌, ◌≤◌, ◌<◌}
use native.Mathlib.Omega.{arith}
use mathlib.Core.Path.{◌≡◌, refl, sym, ap, ◌∙◌, subst}
use mathlib.Core.Logic.{◌↔◌}
use mathlib.Core.Bool.{Bool, true, false}
use mathlib.Core.List.{List, [], ◌∷◌, ◌++◌, map, head-eq_of_cons-eq, Memᴰ}
use lib.Dec.{leb}
use lib.ListN.{length, take, drop, length-append, length-drop, length-map}
use lib.Seq.{take-add, drop-drop}
use borrow.Author.Tests.{leb-true, leb-false, le-leb, ne_eqb, eq-eqb}
use Rattle.ground.specs.Lists.{pick}
use Rattle.image.specs.Panel.{panel_of, Panel, paths_at}
use Rattle.graph.specs.Check.{panel_refusal}
use Rattle.evaluate.proofs.NormalForm.{normal_fixed}
use Rattle.evaluate.specs.Legal.{LegalRoute, Legal}
use Rattle.evaluate.specs.Properties.{Each, Matched}
use Rattle.evaluate.specs.declared.AssignmentReply.{AssignmentReply}
use Rattle.evaluate.specs.declared.Refusal.{Refusal}
use Rattle.evaluate.specs.Refusals.{no_refusal, at, unless}
use Rattle.evaluate.specs.Segments.{Assignment, normal_form, flat, Route, normalize, SoundSpan}
use Rattle.evaluate.specs.Words.{Read, malformed, got, encode, decode}
use Rattle.evaluate.specs.Check.{most_words, over, read_refusal, given_refusal, words_refusal, check_refusal, normal_words, written_by, check_answer, check_out}
use Rattle.evaluate.proofs.CheckLegal.{at_zero, unless_zero, check_legal}
use Rattle.evaluate.proofs.RoundTrips.{decode_encode, encode_decode}
use Rattle.evaluate.proofs.Lists.{each_mem, each_append}
use Rattle.ground.proofs.Members.{mem_drop}
use Rattle.search.specs.declared.SearchBudget.{SearchBudget}
use Rattle.search.specs.declared.ListReply.{ListReply}
use Rattle.search.specs.declared.Status.TheVariants.{Certified}
use Rattle.search.specs.Budget.{budget_refusal}
use Rattle.search.specs.Run.{Ending, exhausted, on_work, on_evaluation, on_frontier, walk}
use Rattle.search.specs.Counters.{stop_of, status_of, status_number}
use Rattle.search.specs.Rooms.{slot_width, list_rooms_refusal}
use Rattle.search.specs.Answers.{ListRooms, list_refusal, fitting, written, list_answer, list_rooms}
use Rattle.enumeration.proofs.Room.{handed_fits}
use Rattle.certificate.specs.Terms.{PanelAccepted, handed_over}
use Rattle.certificate.specs.Calls.{page, Listed, Listing, Accepts, Judged}
use Rattle.certificate.proofs.Reply.{some_frontier}
use Rattle.certificate.proofs.Walk.{ends_by_itself, handed_whole}
use Rattle.certificate.proofs.Listing.{unrefused, evaluations_listed, written_are, words_are, status-is, out_is}
use Rattle.certificate.proofs.Certificate.{demand3}

-- ---- what fits

-- it is what comes first
fitting_first : (room : ℕ) (l : List (List ℕ)) → fitting room l ≡ take (length (fitting room l)) l
unfolding fitting
fitting_first room [] = refl
fitting_first room (ws ∷ l) = go (fitting_first (room - length ws) l) (leb (length ws) room)
  where
    go : fitting (room - length ws) l ≡ take (length (fitting (room - length ws) l)) l → (c : Bool)
        → pick c (ws ∷ fitting (room - length ws) l) [] ≡ take (length (pick c (ws ∷ fitting (room - length ws) l) [])) (ws ∷ l)
    go rest true = ap (λ (t : List (List ℕ)). ws ∷ t) rest
    go rest false = refl

-- the next one does not fit
fitting_left : (room : ℕ) (l : List (List ℕ)) (ws : List ℕ) (rest : List (List ℕ)) → drop (length (fitting room l)) l ≡ ws ∷ rest
    → room < length (flat (fitting room l)) + length ws
unfolding fitting
fitting_left room [] ws rest e = let z : ◌≡◌ {A = ℕ} 0 (suc (length rest)) = ap length e in absurd (omega arith)
fitting_left room (us ∷ l) ws rest e = go (fitting_left (room - length us) l ws rest) (leb (length us) room) refl e
  where
    go : (drop (length (fitting (room - length us) l)) l ≡ ws ∷ rest → room - length us < length (flat (fitting (room - length us) l)) + length ws)
        → (c : Bool) → leb (length us) room ≡ c → drop (length (pick c (us ∷ fitting (room - length us) l) [])) (us ∷ l) ≡ ws ∷ rest
        → room < length (flat (pick c (us ∷ fitting (room - length us) l) [])) + length ws
    go then true q d =
        let fits : length us ≤ room = leb-true (length us) room q in
        let ih : room - length us < length (flat (fitting (room - length us) l)) + length ws = then d in
        let n : length (us ++ flat (fitting (room - length us) l)) ≡ length us + length (flat (fitting (room - length us) l)) = length-append us (flat (fitting (room - length us) l)) in
        omega arith
    go then false q d =
        let over : room < length us = leb-false (length us) room q in
        let same : length us ≡ length ws = ap length (head-eq_of_cons-eq d) in
        omega arith

-- the first one fits where there is room for it
fitting_some : (room : ℕ) (us : List ℕ) (l : List (List ℕ)) → length us ≤ room → 0 < length (fitting room (us ∷ l))
unfolding fitting
fitting_some room us l h = rw (le-leb (length us) room h) (omega arith)

map_take : (n : ℕ) (l : List Assignment) → take n (map encode l) ≡ map encode (take n l)
map_take zero l = refl
map_take (suc n) [] = refl
map_take (suc n) (a ∷ l) = ap (λ (t : List (List ℕ)). encode a ∷ t) (map_take n l)

map_drop : (n : ℕ) (l : List Assignment) → drop n (map encode l) ≡ map encode (drop n l)
map_drop zero l = refl
map_drop (suc n) [] = refl
map_drop (suc n) (a ∷ l) = map_drop n l

-- ---- the listing

ended_listing : (e : Ending) → (status_number (status_of (stop_of e) false) ≡ status_number Certified) ↔ (e ≡ exhausted)
ended_listing exhausted = (λ h. refl, λ q. refl)
ended_listing on_work = (λ q. absurd (omega arith), λ q. let z : ◌≡◌ {A = ℕ} 0 1 = cc in absurd (omega arith))
ended_listing on_evaluation = (λ q. absurd (omega arith), λ q. let z : ◌≡◌ {A = ℕ} 0 1 = cc in absurd (omega arith))
ended_listing (on_frontier a) = (λ q. absurd (omega arith), λ q. let z : ◌≡◌ {A = ℕ} 0 1 = cc in absurd (omega arith))

module _ (s : List ℕ) (b : SearchBudget) (from : ℕ) (lent : ListRooms) (passed : (list_answer s b from lent).refusal ≡ 0) where
  abbrev handed : List Assignment
  handed = handed_over s b

  abbrev room : ℕ
  room = length lent.out

  abbrev r : ListReply
  r = list_answer s b from lent

  abbrev fits : List (List ℕ)
  fits = written from room handed

  accepted : PanelAccepted s × (budget_refusal b ≡ 0)
  unfolding list_refusal
  accepted =
      let late : Refusal = at (list_rooms_refusal (panel_of s) b (length lent.frames) (length lent.slot)) 0 no_refusal in
      let (p, q) = at_zero (panel_refusal s) 0 (at (budget_refusal b) 0 late) (unrefused s b from lent passed) in
      (p, (at_zero (budget_refusal b) 0 late q).0)

  wrote : r.written ≡ length fits
  wrote = written_are s b from lent passed

  paged : fits ≡ map encode (page s b from r.written)
  unfolding written
  paged = fitting_first room (map encode (drop from handed)) ∙ ap (λ (n : ℕ). take n (map encode (drop from handed))) (sym wrote) ∙ map_take r.written (drop from handed)

  too_long : (a : Assignment) (rest : List Assignment) → drop (from + r.written) handed ≡ a ∷ rest → room < r.words + length (encode a)
  unfolding written
  too_long a rest e =
      let q : drop (length fits) (map encode (drop from handed)) ≡ encode a ∷ map encode rest
      = map_drop (length fits) (drop from handed) ∙ ap (map encode) (drop-drop (length fits) from handed)
      ∙ ap (λ (n : ℕ). map encode (drop (from + n) handed)) (sym wrote) ∙ ap (map encode) e in
      let n = words_are s b from lent passed in
      rw n (fitting_left room (map encode (drop from handed)) (encode a) (map encode rest) q)

  some : slot_width (panel_of s) b ≤ room → from < r.evaluations → 0 < r.written
  unfolding written
  some roomy lt = go (drop from handed) refl
    where
      go : (l : List Assignment) → drop from handed ≡ l → 0 < r.written
      go [] e =
          let n : length (drop from handed) ≡ 0 = ap length e in
          let m : length (drop from handed) ≡ length handed - from = length-drop from handed in
          let c = evaluations_listed s b from lent passed in
          absurd (omega arith)
      go (a ∷ l) e =
          let own : length (encode a) ≤ slot_width (panel_of s) b
          = each_mem (λ (a : Assignment). length (encode a) ≤ slot_width (panel_of s) b) handed (handed_fits (panel_of s) b (some_frontier b accepted.1))
          (mem_drop from a handed (subst (λ (t : List Assignment). Memᴰ a t) (sym e) (Memᴰ.head refl))) in
          let fit : length (encode a) ≤ room = omega arith in
          let k : 0 < length (fitting room (map encode (drop from handed))) = rw e (fitting_some room (encode a) (map encode l) fit) in
          let w = wrote in
          omega arith

  ended_iff : (r.status ≡ status_number Certified) ↔ ((walk (panel_of s) b).ending ≡ exhausted)
  ended_iff = rw (status-is s b from lent passed) (ended_listing (walk (panel_of s) b).ending)

  told : Listed s b from lent.out (list_rooms s b from lent).out r
  told =
      record {
        evaluations = evaluations_listed s b from lent passed;
        count = wrote ∙ ap (λ (l : List (List ℕ)). length l) paged ∙ length-map (page s b from r.written) encode;
        words = out_is s b from lent passed ∙ ap (λ (l : List (List ℕ)). over (flat l) lent.out) paged;
        many = words_are s b from lent passed ∙ ap (λ (l : List (List ℕ)). length (flat l)) paged;
        left = too_long;
        more = some;
        ends = demand3.ends s accepted.0;
        when = λ u.
            let j = ends_by_itself s b accepted.0 accepted.1 u in
            (λ h. j.0 (ended_iff.0 h), λ h. ended_iff.1 (j.1 h));
        whole = λ h. handed_whole s b accepted.0 accepted.1 (ended_iff.0 h);
      }

-- THE LISTING'S SENTENCE, of any reply and rooms that are the listing's
pub listing_of : (s : List ℕ) (b : SearchBudget) (from : ℕ) (lent after : ListRooms) (r : ListReply) → r ≡ list_answer s b from lent → after ≡ list_rooms s b from lent
    → Listing s b from lent.out after.out r
listing_of s b from lent after r er ea = rw (er, ea) (told s b from lent)

-- For the reader: a page, and the one that is asked for behind it, are one page
pub pages_join : (s : List ℕ) (b : SearchBudget) (from m n : ℕ) → page s b from (m + n) ≡ page s b from m ++ page s b (from + m) n
pages_join s b from m n = take-add m n (drop from (handed_over s b)) ∙ ap (λ (l : List Assignment). page s b from m ++ take n l) (drop-drop m from (handed_over s b))

-- ---- the check

-- a legal assignment is its own normal form
routes_fixed : (p : Panel) (targets : List ℕ) (rs : List Route) → Matched (LegalRoute p) targets rs → map normalize rs ≡ rs
routes_fixed p [] [] h = refl
routes_fixed p [] (r ∷ rs) h = absurd h
routes_fixed p (t ∷ targets) [] h = absurd h
routes_fixed p (t ∷ targets) (r ∷ rs) h =
    ap (λ (n : Route). n ∷ map normalize rs) (normal_fixed r h.0.normal) ∙ ap (λ (l : List Route). r ∷ l) (routes_fixed p targets rs h.1)

normal-of : (p : Panel) (a : Assignment) → Legal p a → normal_form a ≡ a
normal-of p a l = ap (λ (rs : List Route). record { family = a.family; routes = rs }) (routes_fixed p (paths_at p a.family) a.routes l.routes)

spans_of : (p : Panel) (targets : List ℕ) (rs : List Route) → Matched (LegalRoute p) targets rs → Each (SoundSpan p) (flat rs)
spans_of p [] [] h = tt
spans_of p [] (r ∷ rs) h = absurd h
spans_of p (t ∷ targets) [] h = absurd h
spans_of p (t ∷ targets) (r ∷ rs) h = each_append (SoundSpan p) r (flat rs) h.0.spans (spans_of p targets rs h.1)

module _ (s ws out : List ℕ) where
  abbrev q : Refusal
  q = check_refusal s ws (length out)

  to : (check_answer s ws (length out)).refusal ≡ 0 → Accepts s ws (length out)
  unfolding check_answer check_refusal words_refusal given_refusal
  to h =
      let (p, x) = at_zero (panel_refusal s) 0 (words_refusal (panel_of s) ws (length out)) h in
      let (y, g) = at_zero (unless (leb (length ws) (length out)) 21 0) 0 (given_refusal (panel_of s) ws) x in
      let (w, z) = at_zero (unless (leb (length ws) most_words) 22 0) 0 (read_refusal (panel_of s) (decode ws)) g in
      go p (leb-true (length ws) most_words (unless_zero (leb (length ws) most_words) 21 0 w).0) (leb-true (length ws) (length out) (unless_zero (leb (length ws) (length out)) 20 0 y).0)
      (decode ws) refl z
    where
      go : PanelAccepted s → length ws ≤ most_words → length ws ≤ length out → (d : Read Assignment) → decode ws ≡ d → (read_refusal (panel_of s) d).number ≡ 0 → Accepts s ws (length out)
      go p few fits malformed e z = absurd (let n : ◌≡◌ {A = ℕ} 22 0 = z in omega arith)
      go p few fits (got a us) e z =
          let c = (check_legal s ws (length out) a p (whole ws a us e) few fits).0 h in
          record { panel = p; few = few; fits = fits; assignment = a; words = sym (encode_decode ws us a e); spans = c.0; legal = c.1 }
        where
          whole : (ws : List ℕ) (a : Assignment) (us : List ℕ) → decode ws ≡ got a us → decode ws ≡ got a []
          whole ws a us e = ap decode (sym (encode_decode ws us a e)) ∙ decode_encode a

  from_words : (a : Assignment) → ws ≡ encode a → decode ws ≡ got a []
  from_words a e = ap decode e ∙ decode_encode a

  back : Accepts s ws (length out) → (check_answer s ws (length out)).refusal ≡ 0
  back h = (check_legal s ws (length out) h.assignment h.panel (from_words h.assignment h.words) h.few h.fits).1 (h.spans, h.legal)

  wrote_normal : (a : Assignment) → ws ≡ encode a → q.number ≡ 0 → written_by q ws ≡ encode (normal_form a)
  unfolding normal_words
  wrote_normal a e h = rw (eq-eqb q.number 0 h, from_words a e)

  wrote_none : (q.number ≡ 0 → ⊥) → written_by q ws ≡ []
  wrote_none h = rw (ne_eqb q.number 0 h)

  as_given : (a : Assignment) → ws ≡ encode a → PanelAccepted s → Legal (panel_of s) a → length ws ≤ most_words → length ws ≤ length out
      → ((check_answer s ws (length out)).refusal ≡ 0) × (check_out s ws out ≡ over ws out)
  unfolding check_answer check_out
  as_given a e p l few fits =
      let n = normal-of (panel_of s) a l in
      let h : q.number ≡ 0
      = back (record { panel = p; few = few; fits = fits; assignment = a; words = e; spans = spans_of (panel_of s) (paths_at (panel_of s) a.family) a.routes l.routes; legal = subst (Legal (panel_of s)) (sym n) l }) in
      (h, ap (λ (w : List ℕ). over w out) (wrote_normal a e h ∙ ap encode n ∙ sym e))

  judged : Judged s ws out (check_out s ws out) (check_answer s ws (length out))
  unfolding check_answer check_out
  judged =
      record {
        accepts = (to, back);
        normal = λ a e h. ap (λ (l : List ℕ). over l out) (wrote_normal a e h);
        many = λ a e h. ap (λ (l : List ℕ). length l) (wrote_normal a e h);
        legal = as_given;
        none = λ h. ap (λ (l : List ℕ). over l out) (wrote_none h);
      }

-- THE CHECK'S SENTENCE, of any reply and out that are the check's
pub judged_of : (s ws out after : List ℕ) (r : AssignmentReply) → r ≡ check_answer s ws (length out) → after ≡ check_out s ws out → Judged s ws out after r
judged_of s ws out after r er ea = rw (er, ea) (judged s ws out)
