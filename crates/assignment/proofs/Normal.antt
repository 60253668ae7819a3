-- Of words that are not refused, the words of the normal form are not.
use Prim.Native.Nat.{ℕ, suc, ◌≤◌}
use native.Mathlib.Omega.{arith}
use mathlib.Core.Path.{◌≡◌, refl, sym, ap, ap₂, ◌∙◌, subst}
use mathlib.Core.Bool.{Bool, true, false}
use mathlib.Core.List.{List, [], ◌∷◌, map}
use lib.ListN.{length, length-append}
use borrow.Author.Tests.{le-leb}
use Rattle.ground.specs.Lists.{pick}
use Rattle.image.specs.Panel.{Panel, panel_of}
use Rattle.graph.specs.Check.{panel_refusal}
use Rattle.evaluate.specs.declared.Segment.{Segment}
use Rattle.evaluate.specs.Properties.{Each}
use Rattle.evaluate.specs.Segments.{Route, Assignment, SoundSpan, flat, joinable, joined, joining, normalize, normal_form}
use Rattle.evaluate.specs.Legal.{Legal, SoundSpans}
use Rattle.evaluate.specs.Words.{got, segment_words, route_words, encode, decode}
use Rattle.evaluate.specs.Check.{read_normal, normal_words, given_refusal}
use Rattle.evaluate.proofs.Lists.{append_each, each_append}
use Rattle.evaluate.proofs.Native.{taken}
use Rattle.evaluate.proofs.NormalForm.{twice, filled_of, sound_normal}
use Rattle.evaluate.proofs.Ports.{Rows, rows_of}
use Rattle.evaluate.proofs.CheckLegal.{accepted_legal, legal_accepted}
use Rattle.evaluate.proofs.RoundTrips.{decode_encode, encode_decode}
use Rattle.words.specs.Inner.{assignment_of}
use Rattle.words.proofs.Writing.{segment_words_length}
use Rattle.assignment.proofs.Given.{Given, given}

-- ---- the normal form is no longer

joining_short : (s : Segment) (r : Route) → length (joining s r) ≤ suc (length r)
unfolding joining
joining_short s [] = omega arith
joining_short s (t ∷ r) = go (joinable s t) (joining_short (joined s t) r) (joining_short t r)
  where
    go : (b : Bool) → length (joining (joined s t) r) ≤ suc (length r) → length (joining t r) ≤ suc (length r) → length (pick b (joining (joined s t) r) (s ∷ joining t r)) ≤ suc (suc (length r))
    go true x y = omega arith
    go false x y = omega arith

normal_short : (r : Route) → length (normalize r) ≤ length r
normal_short [] = omega arith
normal_short (s ∷ r) = joining_short s r

words_short : (rs : List Route) → length (route_words (map normalize rs)) ≤ length (route_words rs)
words_short [] = omega arith
words_short (r ∷ rs) =
    let a = normal_short r in
    let b = words_short rs in
    let c = segment_words_length r in
    let d = segment_words_length (normalize r) in
    let e = length-append (segment_words r) (route_words rs) in
    let f = length-append (segment_words (normalize r)) (route_words (map normalize rs)) in
    omega arith

encode_short : (a : Assignment) → length (encode (normal_form a)) ≤ length (encode a)
unfolding encode
encode_short a = let e = words_short a.routes in omega arith

-- ---- its spans are sound, and it is its own normal form

module _ (p : Panel) where
  sound_routes : (rs : List Route) → Each (SoundSpan p) (flat rs) → Each (SoundSpan p) (flat (map normalize rs))
  sound_routes [] ok = tt
  sound_routes (r ∷ rs) ok =
      let (x, y) = append_each (SoundSpan p) r (flat rs) ok in
      each_append (SoundSpan p) (normalize r) (flat (map normalize rs)) (sound_normal p r x) (sound_routes rs y)

  twice_routes : (rs : List Route) → Each (SoundSpan p) (flat rs) → map normalize (map normalize rs) ≡ map normalize rs
  twice_routes [] ok = refl
  twice_routes (r ∷ rs) ok =
      let (x, y) = append_each (SoundSpan p) r (flat rs) ok in
      ap₂ (λ (q : Route) (l : List Route). q ∷ l) (twice r (filled_of p r x)) (twice_routes rs y)

-- ---- the words

module _ (s ws : List ℕ) (pn : panel_refusal s ≡ 0) (gn : (given_refusal (panel_of s) ws).number ≡ 0) where
  told : Given (panel_of s) ws
  told = given (panel_of s) ws gn

  rows : Rows (panel_of s)
  rows = let t = taken s pn in rows_of s t.header t.accepted

  pub given_legal : SoundSpans (panel_of s) (assignment_of ws) × Legal (panel_of s) (normal_form (assignment_of ws))
  given_legal = accepted_legal (panel_of s) rows (assignment_of ws) told.none

  normal_is : normal_words ws ≡ encode (normal_form (assignment_of ws))
  unfolding normal_words
  normal_is = ap read_normal told.formed.said

  pub normal_said : decode (normal_words ws) ≡ got (normal_form (assignment_of ws)) []
  normal_said = ap decode normal_is ∙ decode_encode (normal_form (assignment_of ws))

  normal_few : length (normal_words ws) ≤ 65536
  normal_few =
      let e : length (normal_words ws) ≡ length (encode (normal_form (assignment_of ws))) = ap length normal_is in
      let f : length (encode (assignment_of ws)) ≡ length ws = ap length (encode_decode ws [] (assignment_of ws) told.formed.said) in
      let g = encode_short (assignment_of ws) in
      let k = told.few in
      omega arith

  own_form : normal_form (normal_form (assignment_of ws)) ≡ normal_form (assignment_of ws)
  own_form = ap (λ (rs : List Route). record { family = (assignment_of ws).family; routes = rs }) (twice_routes (panel_of s) (assignment_of ws).routes given_legal.0)

  pub normal_given : (given_refusal (panel_of s) (normal_words ws)).number ≡ 0
  unfolding given_refusal
  normal_given =
      rw (le-leb (length (normal_words ws)) 65536 normal_few, normal_said)
      (legal_accepted (panel_of s) rows (normal_form (assignment_of ws)) (sound_routes (panel_of s) (assignment_of ws).routes given_legal.0)
      (subst (λ (x : Assignment). Legal (panel_of s) x) (sym own_form) given_legal.1))
