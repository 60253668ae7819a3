-- What the calls spell: the words of the normal form are answered as those given, and crops around switches are the ports' words.
use Prim.Native.Nat.{ℕ, ◌+◌, ◌-◌, ◌/◌, ◌≤◌, ◌<◌}
use native.Mathlib.Omega.{arith}
use native.Mathlib.Decide.{dec_lt}
use mathlib.Core.Path.{◌≡◌, refl, sym, ap, ap₂, ◌∙◌, subst}
use mathlib.Core.Bool.{false}
use mathlib.Core.List.{List, [], ◌∷◌, ◌++◌, map, Memᴰ, cons≢nil}
use lib.Dec.{eqb}
use lib.Seq.{take_at, drop_at}
use lib.ListN.{length, take, drop, get_or, length-map, get_or-map, get_or-eq_default}
use borrow.Author.Tests.{ne_eqb}
use Rattle.storage.specs.Bytes.{part}
use Rattle.letters.proofs.Pieces.{part_part}
use Rattle.ground.proofs.Members.{mem_at}
use Rattle.image.specs.Panel.{Panel, panel_of}
use Rattle.image.proofs.Laws.{panel_k}
use Rattle.graph.specs.Check.{panel_refusal}
use Rattle.evaluate.specs.declared.Segment.{Segment}
use Rattle.evaluate.specs.Properties.{Each}
use Rattle.evaluate.specs.Refusals.{no_refusal}
use Rattle.evaluate.specs.Segments.{Route, SoundSpan, flat, normalize, normal_form}
use Rattle.evaluate.specs.Legal.{Legal, SoundSpans}
use Rattle.evaluate.specs.Words.{got, decode}
use Rattle.evaluate.specs.Check.{normal_words, given_refusal}
use Rattle.evaluate.proofs.Native.{taken}
use Rattle.evaluate.proofs.NormalForm.{filled_of}
use Rattle.words.specs.Inner.{assignment_of}
use Rattle.letters.specs.Letters.{letters_refusal}
use Rattle.assignment.proofs.Given.{given}
use Rattle.assignment.proofs.Normal.{given_legal, normal_said, normal_given}
use Rattle.spell.specs.Spelling.{spell_route, crop, routes_in, route_in, spelled, crop_number, crop_refusal, spell_refusal, spell_answer, spell_out}
use Rattle.spell.specs.Theorems.{around, ReadsWord, Switch, switch_at, SameCall, NormalWordsSpellTheSame, CallReadsWord, CallsReadWords, Spells, SpellHolds}
use Rattle.spell.specs.declared.SpellReply.{SpellReply}
use Rattle.spell.proofs.Crops.{crop_length, early, Fits}
use Rattle.spell.proofs.Answers.{spans_at}
use Rattle.spell.proofs.Normal.{normal_spells}
use Rattle.spell.proofs.Switches.{spell_last, spell_past, switches_read_words}
use Rattle.spell.proofs.Cuts.{NotRefused, not_refused, refused_not, crop_fits, fits_crop, spelled-into}

-- ---- its letters

module _ (p : Panel) where
  pub spells_slot : (d : List ℕ) (rs : List Route) (slot : ℕ) → Each (SoundSpan p) (flat rs) → spell_route p d (get_or (map normalize rs) slot []) ≡ spell_route p d (get_or rs slot [])
  spells_slot d rs slot ok =
      ap (spell_route p d) (get_or-map normalize rs slot []) ∙ normal_spells p d (get_or rs slot []) (filled_of p (get_or rs slot []) (spans_at p rs slot ok))

-- a part of a list that begins with a crop, within the crop
part_of_crop : (l rest : List ℕ) (from to a b k : ℕ) → from ≤ a → b ≤ to → to ≤ length l → a + k ≡ b → part (crop from to l ++ rest) (a - from) k ≡ crop a b l
part_of_crop l rest from to a b k lo hi far e =
    let n : length (crop from to l) ≡ to - from = crop_length l from to (omega arith) far in
    let x : a - from + k ≡ b - from = omega arith in
    let y : b - from - (a - from) ≡ k = omega arith in
    let z : from + (a - from) ≡ a = omega arith in
    let w : b - a ≡ k = omega arith in
    ap (λ (m : ℕ). part (crop from to l ++ rest) (a - from) m) (sym y) ∙ early (crop from to l) rest (a - from) (b - from) (omega arith) (omega arith)
    ∙ ap (λ (m : ℕ). part (crop from to l) (a - from) m) y ∙ part_part l from (to - from) (a - from) k (omega arith) (omega arith) ∙ rw (z, w)

spelled_is : (p : Panel) (d ws : List ℕ) (slot from to : ℕ) → spelled p d ws slot from to ≡ crop from to (spell_route p d (route_in ws slot))
unfolding spelled
spelled_is p d ws slot from to = refl

-- ---- the words

module _ (s d ws : List ℕ) (pn : panel_refusal s ≡ 0) (ln : letters_refusal (panel_of s) d ≡ 0) (gn : (given_refusal (panel_of s) ws).number ≡ 0) where
  said : decode ws ≡ got (assignment_of ws) []
  said = (given (panel_of s) ws gn).formed.said

  legal : SoundSpans (panel_of s) (assignment_of ws) × Legal (panel_of s) (normal_form (assignment_of ws))
  legal = given_legal s ws pn gn

  given_routes : routes_in (decode ws) ≡ (assignment_of ws).routes
  given_routes = ap routes_in said

  normal-routes : routes_in (decode (normal_words ws)) ≡ map normalize (assignment_of ws).routes
  normal-routes = ap routes_in (normal_said s ws pn gn)

  same_letters : (slot : ℕ) → spell_route (panel_of s) d (route_in (normal_words ws) slot) ≡ spell_route (panel_of s) d (route_in ws slot)
  same_letters slot =
      ap (λ (rs : List Route). spell_route (panel_of s) d (get_or rs slot [])) normal-routes ∙ spells_slot (panel_of s) d (assignment_of ws).routes slot legal.0
      ∙ ap (λ (rs : List Route). spell_route (panel_of s) d (get_or rs slot [])) (sym given_routes)

  same_count : length (routes_in (decode (normal_words ws))) ≡ length (routes_in (decode ws))
  same_count = ap length normal-routes ∙ length-map (assignment_of ws).routes normalize ∙ ap length (sym given_routes)

  same_crop : (slot from to room : ℕ) → crop_refusal (panel_of s) d (normal_words ws) slot from to room ≡ crop_refusal (panel_of s) d ws slot from to room
  unfolding crop_refusal
  same_crop slot from to room =
      ap₂ (λ (n : ℕ) (w : List ℕ). crop_number n (length w) slot from to room) same_count (same_letters slot)

  same_refusal : (slot from to room : ℕ) → spell_refusal s d (normal_words ws) slot from to room ≡ spell_refusal s d ws slot from to room
  unfolding spell_refusal
  same_refusal slot from to room = rw (pn, ln, normal_given s ws pn gn, gn, same_crop slot from to room)

  same_spelled : (slot from to : ℕ) → spelled (panel_of s) d (normal_words ws) slot from to ≡ spelled (panel_of s) d ws slot from to
  unfolding spelled
  same_spelled slot from to = ap (crop from to) (same_letters slot)

  same_call : (slot from to : ℕ) (out : List ℕ) → SameCall s d ws (normal_words ws) slot from to out
  unfolding spell_answer spell_out
  same_call slot from to out =
      record {
        answer = rw (same_refusal slot from to (length out), same_spelled slot from to);
        letters = rw (same_refusal slot from to (length out), same_spelled slot from to);
      }

  -- a slot whose route has a switch is one of the assignment's
  module _ (slot : ℕ) (before : Route) (u v : Segment) (after : Route) (e : normalize (route_in ws slot) ≡ before ++ u ∷ v ∷ after) where
    is : normalize (route_in ws slot) ≡ get_or (map normalize (assignment_of ws).routes) slot []
    is = ap (λ (rs : List Route). normalize (get_or rs slot [])) given_routes ∙ sym (get_or-map normalize (assignment_of ws).routes slot [])

    within : slot < length (assignment_of ws).routes
    within = go (dec_lt slot (length (assignment_of ws).routes))
      where
        longer : (l m : Route) (x y : Segment) → [] ≡ l ++ x ∷ y ∷ m → ⊥
        longer [] m x y q = cons≢nil (sym q)
        longer (z ∷ l) m x y q = cons≢nil (sym q)

        go : Dec (slot < length (assignment_of ws).routes) → slot < length (assignment_of ws).routes
        go (yes lt) = lt
        go (no f) =
            let n = length-map (assignment_of ws).routes normalize in
            let past : length (map normalize (assignment_of ws).routes) ≤ slot = omega arith in
            absurd (longer before after u v (sym (is ∙ get_or-eq_default (map normalize (assignment_of ws).routes) [] {n = slot} past) ∙ e))

    named : slot < length (routes_in (decode ws))
    named = subst (λ (rs : List Route). slot < length rs) (sym given_routes) within

    among : Memᴰ (normalize (route_in ws slot)) (map normalize (assignment_of ws).routes)
    among =
        let n = length-map (assignment_of ws).routes normalize in
        let w = within in
        subst (λ (x : Route). Memᴰ x (map normalize (assignment_of ws).routes)) (sym is) (mem_at [] (map normalize (assignment_of ws).routes) slot (omega arith))

  module _ (slot : ℕ) (first : Route) (u v : Segment) (last : Route) (w : Switch (panel_of s) d (normalize (route_in ws slot)) first u v last) where
    place : ℕ
    place = switch_at (panel_of s) d first u

    spells : spell_route (panel_of s) d (normalize (route_in ws slot)) ≡ spell_route (panel_of s) d (route_in ws slot)
    spells =
        normal_spells (panel_of s) d (route_in ws slot)
        (filled_of (panel_of s) (route_in ws slot) (subst (λ (rs : List Route). Each (SoundSpan (panel_of s)) (get_or rs slot [])) (sym given_routes) (spans_at (panel_of s) (assignment_of ws).routes slot legal.0)))

    -- the switch stands inside of the route's letters
    before_it : (panel_of s).k / 2 ≤ place
    unfolding place
    before_it = let q = spell_last (panel_of s) d first u in let h = w.long in omega arith

    behind_it : place + ((panel_of s).k - (panel_of s).k / 2) ≤ length (spell_route (panel_of s) d (route_in ws slot))
    unfolding place
    behind_it =
        let q = spell_past (panel_of s) d first u v last in
        let h = w.long_too in
        let z : length (spell_route (panel_of s) d (route_in ws slot)) ≡ length (spell_route (panel_of s) d (first ++ u ∷ v ∷ last)) = ap length (sym spells) ∙ ap (λ (r : Route). length (spell_route (panel_of s) d r)) w.is in
        omega arith

    some_k : 1 ≤ (panel_of s).k
    some_k = let t = taken s pn in let f = t.accepted.counted.framed in let k = panel_k s t.header f in let o = f.some in omega arith

    around_is : around (panel_of s) d (normalize (route_in ws slot)) (switch_at (panel_of s) d first u) ≡ spelled (panel_of s) d ws slot (place - (panel_of s).k / 2) (place + ((panel_of s).k - (panel_of s).k / 2))
    unfolding around spelled place
    around_is = ap (crop (place - (panel_of s).k / 2) (place + ((panel_of s).k - (panel_of s).k / 2))) spells

    -- the crop around it is the ports' word
    word_around : ReadsWord (panel_of s) (spelled (panel_of s) d ws slot (place - (panel_of s).k / 2) (place + ((panel_of s).k - (panel_of s).k / 2))) u v
    word_around =
        subst (λ (x : List ℕ). ReadsWord (panel_of s) x u v) around_is
        (switches_read_words s d pn ln (normal_form (assignment_of ws)) legal.1 (normalize (route_in ws slot)) (among slot first u v last w.is) first u v last w)

    accepted : (out : List ℕ) → (panel_of s).k ≤ length out → spell_refusal s d ws slot (place - (panel_of s).k / 2) (place + ((panel_of s).k - (panel_of s).k / 2)) (length out) ≡ no_refusal
    accepted out room =
        let a = before_it in
        let b = behind_it in
        let c = some_k in
        refused_not s d ws slot (place - (panel_of s).k / 2) (place + ((panel_of s).k - (panel_of s).k / 2)) (length out) (record {
          panel = pn;
          letters = ln;
          given = gn;
          crop = fits_crop (panel_of s) d ws slot (place - (panel_of s).k / 2) (place + ((panel_of s).k - (panel_of s).k / 2)) (length out) (record { named = named slot first u v last w.is; some = omega arith; far = b; short = omega arith });
        })

    call_reads : (out : List ℕ) → (panel_of s).k ≤ length out → CallReadsWord s d ws slot (switch_at (panel_of s) d first u) out u v
    unfolding place
    call_reads out room =
        record {
          accepted = accepted out room;
          reads = subst (λ (x : List ℕ). ReadsWord (panel_of s) x u v) (sym (spelled-into s d ws slot (place - (panel_of s).k / 2) (place + ((panel_of s).k - (panel_of s).k / 2)) out (accepted out room))) word_around;
        }

    -- where the crop has its letters, they stand in what begins with the crop
    inside : (from to : ℕ) (rest : List ℕ) → to ≤ length (spell_route (panel_of s) d (route_in ws slot)) → from ≤ switch_at (panel_of s) d first u - (panel_of s).k / 2 → switch_at (panel_of s) d first u + ((panel_of s).k - (panel_of s).k / 2) ≤ to
        → ReadsWord (panel_of s) (part (spelled (panel_of s) d ws slot from to ++ rest) (switch_at (panel_of s) d first u - (panel_of s).k / 2 - from) (panel_of s).k) u v
    unfolding place spelled
    inside from to rest far lo hi =
        let a = before_it in
        subst (λ (x : List ℕ). ReadsWord (panel_of s) x u v) (sym (part_of_crop (spell_route (panel_of s) d (route_in ws slot)) rest from to (place - (panel_of s).k / 2) (place + ((panel_of s).k - (panel_of s).k / 2)) (panel_of s).k lo hi far (omega arith))) word_around

-- For the reader: the second theorem, of the calls.
pub normal_words_spell_the_same : NormalWordsSpellTheSame
normal_words_spell_the_same s d ws pn ln gn slot from to out = same_call s d ws pn ln gn slot from to out

-- For the reader: the third theorem, of the calls.
pub calls_read_words : CallsReadWords
calls_read_words s d ws pn ln gn slot first u v last w out room = call_reads s d ws pn ln gn slot first u v last w out room

-- ---- what a reply says

module _ (s d ws : List ℕ) (slot from to : ℕ) (xs ys : List ℕ) (r : SpellReply) (er : r ≡ spell_answer s d ws slot from to (length xs)) (ey : ys ≡ spell_out s d ws slot from to xs) where
  refused_says : 0 < r.refusal → (r.letters ≡ 0) × (ys ≡ xs)
  unfolding spell_answer spell_out
  refused_says h =
      let n : eqb (spell_refusal s d ws slot from to (length xs)).number 0 ≡ false = ne_eqb (spell_refusal s d ws slot from to (length xs)).number 0 (λ z. let e : r.refusal ≡ 0 = ap (λ (q : SpellReply). q.refusal) er ∙ z in omega arith) in
      (ap (λ (q : SpellReply). q.letters) er ∙ rw n, ey ∙ rw n)

  module _ (z : r.refusal ≡ 0) where
    passed : NotRefused s d ws slot from to (length xs)
    unfolding spell_answer
    passed = not_refused s d ws slot from to (length xs) (sym (ap (λ (q : SpellReply). q.refusal) er) ∙ z)

    none : spell_refusal s d ws slot from to (length xs) ≡ no_refusal
    none = refused_not s d ws slot from to (length xs) passed

    fits : Fits (length (routes_in (decode ws))) (length (spell_route (panel_of s) d (route_in ws slot))) slot from to (length xs)
    fits = crop_fits (panel_of s) d ws slot from to (length xs) passed.crop

    long : length (spelled (panel_of s) d ws slot from to) ≡ to - from
    unfolding spelled
    long = let a = fits.some in crop_length (spell_route (panel_of s) d (route_in ws slot)) from to (omega arith) fits.far

    out_is : ys ≡ spelled (panel_of s) d ws slot from to ++ drop (to - from) xs
    unfolding spell_out
    out_is = ey ∙ rw none (ap (λ (n : ℕ). spelled (panel_of s) d ws slot from to ++ drop n xs) long)

    letters_told : r.letters ≡ to - from
    unfolding spell_answer
    letters_told = ap (λ (q : SpellReply). q.letters) er ∙ rw none long

    says : Spells s d ws slot from to xs r ys
    says =
        record {
          told = letters_told;
          begins = ap (take (to - from)) out_is ∙ take_at (spelled (panel_of s) d ws slot from to) (drop (to - from) xs) (to - from) long ∙ spelled_is (panel_of s) d ws slot from to;
          rest = ap (drop (to - from)) out_is ∙ drop_at (spelled (panel_of s) d ws slot from to) (drop (to - from) xs) (to - from) long;
          reads = λ first u v last w lo hi.
              subst (λ (x : List ℕ). ReadsWord (panel_of s) (part x (switch_at (panel_of s) d first u - (panel_of s).k / 2 - from) (panel_of s).k) u v) (sym out_is)
              (inside s d ws passed.panel passed.letters passed.given slot first u v last w from to (drop (to - from) xs) fits.far lo hi);
        }

  pub spell_holds : SpellHolds s d ws slot from to xs r ys
  spell_holds = record { refused = refused_says; spelled = says }
