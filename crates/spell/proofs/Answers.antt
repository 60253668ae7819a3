-- Laws of the spelling call's answer: one for each way through the code.
use Prim.Native.Nat.{ℕ, zero, suc, ◌+◌, ◌-◌, ◌≤◌, ◌<◌}
use native.Mathlib.Omega.{arith}
use mathlib.Core.Path.{◌≡◌, refl, sym, ap, ap₂, ◌∙◌, subst}
use mathlib.Core.Bool.{true, false}
use mathlib.Core.List.{List, [], ◌∷◌, ◌++◌}
use lib.Dec.{eqb}
use lib.ListN.{length, drop, get_or}
use lib.Seq.{sets, sets-eq}
use borrow.Author.Tests.{ne_eqb}
use Rattle.image.specs.declared.Header.{Header}
use Rattle.image.specs.declared.PanelRefusal.{PanelRefusal}
use Rattle.image.specs.Header.{refusal_number}
use Rattle.std.specs.declared.result.Result.{Result}
use Rattle.std.specs.declared.result.Result.TheVariants.{Ok, Err}
use Rattle.image.specs.Panel.{Panel, panel_of}
use Rattle.panel.specs.Inner.{Accepted}
use Rattle.graph.specs.Check.{checked, panel_refusal}
use Rattle.evaluate.specs.declared.Refusal.{Refusal}
use Rattle.evaluate.specs.Properties.{Each}
use Rattle.evaluate.specs.Refusals.{no_refusal, unless, at}
use Rattle.evaluate.specs.Segments.{Route, SoundSpan, flat}
use Rattle.evaluate.specs.Words.{decode}
use Rattle.evaluate.specs.Check.{and_after, given_refusal}
use Rattle.evaluate.proofs.Lists.{append_each}
use Rattle.graph.proofs.Laws.{refusal_some}
use Rattle.evaluate.proofs.Ports.{rows_of}
use Rattle.evaluate.proofs.CheckLegal.{at_some, accepted_legal, unless_zero}
use Rattle.words.specs.Inner.{segments_of, assignment_of, RouteAt}
use Rattle.words.proofs.Writing.{routes_length}
use Rattle.letters.specs.Letters.{letters_refusal, sound39, sound40}
use Rattle.letters.specs.declared.LettersRefusal.{LettersRefusal}
use Rattle.letters.specs.declared.LettersRefusal.TheVariants.{Letters, Words}
use Rattle.letters.specs.Refusals.{number_of as letters_number}
use Rattle.letters.specs.Inner.{Based}
use Rattle.letters.proofs.Laws.{panel_first, letters_told, at_last}
use Rattle.assignment.specs.declared.AssignmentRefusal.{AssignmentRefusal}
use Rattle.assignment.specs.Refusals.{number_of as given_number, place_of}
use Rattle.assignment.proofs.Numbers.{number_some}
use Rattle.assignment.proofs.Given.{given}
use Rattle.spell.specs.declared.SpellReply.{SpellReply}
use Rattle.spell.specs.declared.CropRefusal.{CropRefusal}
use Rattle.spell.specs.declared.CropRefusal.TheVariants.{Crop, Room}
use Rattle.spell.specs.Refusals.{number_of}
use Rattle.spell.specs.Spelling.{spell_route, crop, routes_in, route_in, spelled, crop_refusal, spelling_refusal, spell_refusal, spell_answer, spell_out}
use Rattle.spell.specs.Inner.{sizes, SlotAt, crop_by, route_by, Inside, Passed, Replied}
use Rattle.spell.proofs.Crops.{Fits, fits_of, crop_length, route_length, inside_of, route-by}

-- ---- the route of a slot

pub spans_at : (p : Panel) (rs : List Route) (slot : ℕ) → Each (SoundSpan p) (flat rs) → Each (SoundSpan p) (get_or rs slot [])
spans_at p [] slot e = tt
spans_at p (r ∷ rs) zero e = (append_each (SoundSpan p) r (flat rs) e).0
spans_at p (r ∷ rs) (suc slot) e = spans_at p rs slot (append_each (SoundSpan p) r (flat rs) e).1

module _ (s : List ℕ) (h : Header) (d ws : List ℕ) (ok : Passed s h d ws) where
  routes_are : routes_in (decode ws) ≡ (assignment_of ws).routes
  routes_are = ap routes_in ok.formed.said

  pub spans_of : (slot : ℕ) → Each (SoundSpan (panel_of s)) (get_or (assignment_of ws).routes slot [])
  spans_of slot = spans_at (panel_of s) (assignment_of ws).routes slot ok.spans

  pub slot_length : (slot : ℕ) → length (spell_route (panel_of s) d (get_or (assignment_of ws).routes slot [])) ≡ sizes (get_or (assignment_of ws).routes slot [])
  slot_length slot = route_length (panel_of s) d ok.lettered.total (get_or (assignment_of ws).routes slot []) (spans_of slot)

  pub crop-by : (slot from to room : ℕ) → crop_by ws slot from to room ≡ crop_refusal (panel_of s) d ws slot from to room
  unfolding crop_by crop_refusal
  crop-by slot from to room =
      let n : length (assignment_of ws).routes ≡ get_or ws 1 0 = routes_length (get_or ws 1 0) (drop 2 ws) in
      sym (rw (routes_are, n, slot_length slot))

-- ---- a crop that is not refused

module _ (ws : List ℕ) (slot from to room : ℕ) (none : 0 ≡ crop_by ws slot from to room) where
  pub crop_passes : Fits (get_or ws 1 0) (sizes (get_or (assignment_of ws).routes slot [])) slot from to room
  unfolding crop_by
  crop_passes = fits_of (get_or ws 1 0) (sizes (get_or (assignment_of ws).routes slot [])) slot from to room (sym none)

  pub crop_named : slot < get_or ws 1 0
  crop_named = crop_passes.named

  pub crop_order : from ≤ to
  crop_order = let e = crop_passes.some in omega arith

  pub crop_room : to - from ≤ room
  crop_room = crop_passes.short

  module _ (at left : ℕ) (here : SlotAt ws slot at) (count : RouteAt ws at left) where
    pub slot_segments : segments_of left (drop (at + 1) ws) ≡ get_or (assignment_of ws).routes slot []
    slot_segments = ap (λ (m : ℕ). segments_of m (drop (at + 1) ws)) count.count ∙ here.is

    pub slot_far : to ≤ sizes (segments_of left (drop (at + 1) ws))
    slot_far = rw slot_segments crop_passes.far

    pub slot_inside : (s : List ℕ) (h : Header) (d bases : List ℕ) → Passed s h d ws → Based s h d bases → Each (Inside bases d) (segments_of left (drop (at + 1) ws))
    slot_inside s h d bases ok b = rw slot_segments (inside_of s h d bases b (get_or (assignment_of ws).routes slot []) (spans_of s h d ws ok slot))

-- ---- the answer

crop_some : (e : CropRefusal) → 0 < number_of e
crop_some Crop = omega arith
crop_some Room = omega arith

letters_some : (e : LettersRefusal) → 0 < letters_number e
letters_some Letters = omega arith
letters_some Words = omega arith

-- what is answered to a refusal that is none of 0
pub replied_refused : (q : Refusal) (p : Panel) (d ws : List ℕ) (slot from to : ℕ) (xs : List ℕ) (r : SpellReply) → 0 < q.number → r ≡ record { refusal = q.number; place = q.place; letters = 0 }
    → Replied q p d ws slot from to xs xs r
replied_refused q p d ws slot from to xs r h e =
    let z : eqb q.number 0 ≡ false = ne_eqb q.number 0 (λ n. omega arith) in
    record { answer = e ∙ rw z; room = rw z }

module _ (s : List ℕ) (h : Header) (d ws : List ℕ) (ok : Passed s h d ws) (slot from to : ℕ) (xs : List ℕ) (r : SpellReply) where
  says : crop_by ws slot from to (length xs) ≡ crop_refusal (panel_of s) d ws slot from to (length xs)
  says = crop-by s h d ws ok slot from to (length xs)

  pub passed_refused : (e : CropRefusal) (n : ℕ) → number_of e ≡ crop_by ws slot from to (length xs) → n ≡ number_of e → r ≡ record { refusal = n; place = 0; letters = 0 } → Replied (at (crop_refusal (panel_of s) d ws slot from to (length xs)) 0 no_refusal) (panel_of s) d ws slot from to xs xs r
  passed_refused e n is en t =
      let lt = crop_some e in
      subst (λ (q : Refusal). Replied q (panel_of s) d ws slot from to xs xs r) (at_last n ∙ ap (λ (m : ℕ). at m 0 no_refusal) (en ∙ is ∙ says))
      (replied_refused (record { number = n; place = 0 }) (panel_of s) d ws slot from to xs r (omega arith) t)

  pub passed_spelled : 0 ≡ crop_by ws slot from to (length xs) → (at' left : ℕ) → SlotAt ws slot at' → RouteAt ws at' left → (bases ys : List ℕ) → Based s h d bases → ys ≡ sets xs 0 (crop from to (route_by bases d (segments_of left (drop (at' + 1) ws))))
      → r ≡ record { refusal = 0; place = 0; letters = to - from } → Replied (at (crop_refusal (panel_of s) d ws slot from to (length xs)) 0 no_refusal) (panel_of s) d ws slot from to xs ys r
  unfolding spelled
  passed_spelled nought at' left here count bases ys b put e =
      subst (λ (q : Refusal). Replied q (panel_of s) d ws slot from to xs ys r) (ap (λ (m : ℕ). at m 0 no_refusal) (nought ∙ says))
      (record { answer = e ∙ ap (λ (m : ℕ). record { refusal = 0; place = 0; letters = m }) (sym long); room = put ∙ ap (sets xs 0) same ∙ sets-eq w xs 0 fits ∙ ap (λ (m : ℕ). w ++ drop m xs) none })
    where
      w : List ℕ
      w = crop from to (spell_route (panel_of s) d (route_in ws slot))

      okay : Fits (get_or ws 1 0) (sizes (get_or (assignment_of ws).routes slot [])) slot from to (length xs)
      okay = crop_passes ws slot from to (length xs) nought

      same : crop from to (route_by bases d (segments_of left (drop (at' + 1) ws))) ≡ w
      same =
          ap (λ (x : Route). crop from to (route_by bases d x)) (slot_segments ws slot from to (length xs) nought at' left here count)
          ∙ ap (crop from to) (route-by s h d bases b (get_or (assignment_of ws).routes slot []) (spans_of s h d ws ok slot))
          ∙ ap (λ (x : List Route). crop from to (spell_route (panel_of s) d (get_or x slot []))) (sym (routes_are s h d ws ok))

      whole : length (spell_route (panel_of s) d (route_in ws slot)) ≡ sizes (get_or (assignment_of ws).routes slot [])
      whole = ap (λ (x : List Route). length (spell_route (panel_of s) d (get_or x slot []))) (routes_are s h d ws ok) ∙ slot_length s h d ws ok slot

      long : length w ≡ to - from
      long = let a = okay.some in let f = okay.far in let g = whole in crop_length (spell_route (panel_of s) d (route_in ws slot)) from to (omega arith) (omega arith)

      fits : 0 + length w ≤ length xs
      fits = let l = long in let f = okay.short in omega arith

      none : 0 + length w ≡ length w
      none = omega arith

-- ---- 39, 40, the check's from 22 on

module _ (s : List ℕ) (h : Header) (d ws : List ℕ) (slot from to : ℕ) (xs ys : List ℕ) (r : SpellReply) where
  pub accepted_letters : (e : LettersRefusal) (n : ℕ) → letters_number e ≡ letters_refusal (panel_of s) d → n ≡ letters_number e → r ≡ record { refusal = n; place = 0; letters = 0 }
      → Replied (spelling_refusal (panel_of s) d ws slot from to (length xs)) (panel_of s) d ws slot from to xs xs r
  accepted_letters e n is en t =
      let some = letters_some e in
      let lt : 0 < n = omega arith in
      subst (λ (q : Refusal). Replied q (panel_of s) d ws slot from to xs xs r) (sym (at_some n 0 (and_after (given_refusal (panel_of s) ws) (at (crop_refusal (panel_of s) d ws slot from to (length xs)) 0 no_refusal)) lt) ∙ ap (λ (m : ℕ). at m 0 (and_after (given_refusal (panel_of s) ws) (at (crop_refusal (panel_of s) d ws slot from to (length xs)) 0 no_refusal))) (en ∙ is))
      (replied_refused (record { number = n; place = 0 }) (panel_of s) d ws slot from to xs r lt t)

  module _ (nought : 0 ≡ letters_refusal (panel_of s) d) (q : Refusal) (eq : q ≡ given_refusal (panel_of s) ws) where
    pub accepted_given : 0 < q.number → r ≡ record { refusal = q.number; place = q.place; letters = 0 }
        → Replied (spelling_refusal (panel_of s) d ws slot from to (length xs)) (panel_of s) d ws slot from to xs xs r
    accepted_given lt e =
        subst (λ (x : Refusal). Replied x (panel_of s) d ws slot from to xs xs r)
        (sym (at_some q.number q.place (at (crop_refusal (panel_of s) d ws slot from to (length xs)) 0 no_refusal) lt)
        ∙ ap₂ (λ (m : ℕ) (x : Refusal). at m 0 (and_after x (at (crop_refusal (panel_of s) d ws slot from to (length xs)) 0 no_refusal))) nought eq)
        (replied_refused q (panel_of s) d ws slot from to xs r lt e)

    pub accepted_error : (e : AssignmentRefusal) (n p : ℕ) → q ≡ record { number = given_number e; place = place_of e } → n ≡ given_number e → p ≡ place_of e → r ≡ record { refusal = n; place = p; letters = 0 }
        → Replied (spelling_refusal (panel_of s) d ws slot from to (length xs)) (panel_of s) d ws slot from to xs xs r
    accepted_error e n p z en ep t =
        let some = number_some e in
        let number : q.number ≡ given_number e = ap (λ (x : Refusal). x.number) z in
        let where_ : q.place ≡ place_of e = ap (λ (x : Refusal). x.place) z in
        accepted_given (omega arith) (t ∙ rw (en, ep, number, where_))

    pub accepted_rest : q.number ≤ 0 → Replied (at (crop_refusal (panel_of s) d ws slot from to (length xs)) 0 no_refusal) (panel_of s) d ws slot from to xs ys r
        → Replied (spelling_refusal (panel_of s) d ws slot from to (length xs)) (panel_of s) d ws slot from to xs ys r
    accepted_rest le t =
        let m : 0 ≡ q.number = omega arith in
        subst (λ (x : Refusal). Replied x (panel_of s) d ws slot from to xs ys r)
        (ap (λ (m : ℕ). at m q.place (at (crop_refusal (panel_of s) d ws slot from to (length xs)) 0 no_refusal)) m
        ∙ ap₂ (λ (m : ℕ) (x : Refusal). at m 0 (and_after x (at (crop_refusal (panel_of s) d ws slot from to (length xs)) 0 no_refusal))) nought eq)
        t

pub passed_of : (s : List ℕ) (h : Header) (d ws : List ℕ) (q : Refusal) → Accepted s h → 0 ≡ letters_refusal (panel_of s) d → q ≡ given_refusal (panel_of s) ws → q.number ≤ 0 → Passed s h d ws
unfolding letters_refusal
passed_of s h d ws q acc none eq le =
    let e : unless (sound39 (panel_of s) d) 39 (unless (sound40 (panel_of s) d) 40 0) ≡ 0 = sym none in
    let g = given (panel_of s) ws (ap (λ (x : Refusal). x.number) (sym eq) ∙ (omega arith)) in
    record {
      lettered = letters_told s h d true acc (sym (unless_zero (sound39 (panel_of s) d) 38 (unless (sound40 (panel_of s) d) 40 0) e).0) refl;
      formed = g.formed;
      spans = (accepted_legal (panel_of s) (rows_of s h acc) (assignment_of ws) g.none).0;
    }

-- ---- 1 to 8

module _ (s d ws : List ℕ) (slot from to : ℕ) (xs ys : List ℕ) (r : SpellReply) where
  module _ (o : Result Header PanelRefusal) (eo : o ≡ checked s) (h : Header) (t : o ≡ Ok h)
      (a : Replied (spelling_refusal (panel_of s) d ws slot from to (length xs)) (panel_of s) d ws slot from to xs ys r) where
    passes : spelling_refusal (panel_of s) d ws slot from to (length xs) ≡ spell_refusal s d ws slot from to (length xs)
    unfolding spell_refusal panel_refusal
    passes = rw (← eo, t)

    pub spell-answer : r ≡ spell_answer s d ws slot from to (length xs)
    unfolding spell_answer
    spell-answer = a.answer ∙ rw passes

    pub spell-out : ys ≡ spell_out s d ws slot from to xs
    unfolding spell_out
    spell-out = a.room ∙ rw passes

  module _ (o : Result Header PanelRefusal) (eo : o ≡ checked s) (x : PanelRefusal) (n : ℕ) (is : n ≡ refusal_number x) (t : o ≡ Err x) where
    stops : record { number = n; place = 0 } ≡ spell_refusal s d ws slot from to (length xs)
    unfolding spell_refusal
    stops = panel_first s d o eo x n (spelling_refusal (panel_of s) d ws slot from to (length xs)) t is

    some : 0 < n
    some = let one = refusal_some x in omega arith

    refused : (r : SpellReply) → r ≡ record { refusal = n; place = 0; letters = 0 } → Replied (spell_refusal s d ws slot from to (length xs)) (panel_of s) d ws slot from to xs xs r
    refused r e = subst (λ (q : Refusal). Replied q (panel_of s) d ws slot from to xs xs r) stops (replied_refused (record { number = n; place = 0 }) (panel_of s) d ws slot from to xs r some e)

    pub spell_refused : r ≡ record { refusal = n; place = 0; letters = 0 } → r ≡ spell_answer s d ws slot from to (length xs)
    unfolding spell_answer
    spell_refused e = (refused r e).answer

    pub spell_untouched : xs ≡ spell_out s d ws slot from to xs
    unfolding spell_out
    spell_untouched = (refused (record { refusal = n; place = 0; letters = 0 }) refl).room
