-- A route as given and its normal form spell the same.
use Prim.Native.Nat.{ℕ, ◌+◌, ◌-◌, ◌≤◌, ◌<◌, min, max}
use native.Mathlib.Omega.{arith}
use mathlib.Core.Path.{◌≡◌, refl, sym, ap, ap₂, ◌∙◌}
use mathlib.Core.Bool.{Bool, true, false}
use mathlib.Core.List.{List, [], ◌∷◌, ◌++◌, append_assoc}
use Rattle.ground.specs.Lists.{pick}
use Rattle.storage.specs.Bytes.{part}
use Rattle.image.specs.Panel.{Panel}
use Rattle.evaluate.specs.declared.Segment.{Segment}
use Rattle.evaluate.specs.Segments.{Route, joinable, joined, joining, normalize}
use Rattle.evaluate.proofs.NormalForm.{Filled, Joins, joins, joined_some, filled_of}
use Rattle.letters.specs.Letters.{reverse_complement, oriented, lane_letters, piece}
use Rattle.letters.proofs.Reverse.{turned_append}
use Rattle.letters.proofs.Pieces.{part_join}
use Rattle.spell.specs.Spelling.{spell_segment, spell_route}
use Rattle.spell.specs.Theorems.{NormalSpellsTheSame}

-- two parts that lie end to end, read in one orientation
two : (l : List ℕ) (r : Bool) (a b c e : ℕ) → a ≤ b → c ≤ e → pick r a b ≡ pick r e c → oriented r (part l a (b - a)) ++ oriented r (part l c (e - c)) ≡ oriented r (part l (min a c) (max b e - min a c))
two l false a b c e h k j =
    let x : min a c ≡ a = omega arith in
    let y : max b e ≡ e = omega arith in
    let z : c ≡ a + (b - a) = omega arith in
    let w : b - a + (e - c) ≡ e - a = omega arith in
    rw (x, y) (ap (λ (n : ℕ). part l a (b - a) ++ part l n (e - c)) z ∙ part_join l a (b - a) (e - c) ∙ ap (part l a) w)
two l true a b c e h k j =
    let x : min a c ≡ c = omega arith in
    let y : max b e ≡ b = omega arith in
    let z : a ≡ c + (e - c) = omega arith in
    let w : e - c + (b - a) ≡ b - c = omega arith in
    let q : part l c (e - c) ++ part l a (b - a) ≡ part l c (b - c) = ap (λ (n : ℕ). part l c (e - c) ++ part l n (b - a)) z ∙ part_join l c (e - c) (b - a) ∙ ap (part l c) w in
    rw (x, y) (sym (turned_append (part l c (e - c)) (part l a (b - a))) ∙ ap reverse_complement q)

module _ (p : Panel) (d : List ℕ) where
  joined_spells : (s t : Segment) → s.start < s.end → t.start < t.end → Joins s t → spell_segment p d s ++ spell_segment p d t ≡ spell_segment p d (joined s t)
  unfolding spell_segment piece
  joined_spells s t h k j =
      ap₂ (λ (lane : ℕ) (r : Bool). spell_segment p d s ++ oriented r (part (lane_letters p d lane) t.start (t.end - t.start))) (sym j.lane) (sym j.turn)
      ∙ two (lane_letters p d s.source) s.reverse s.start s.end t.start t.end (omega arith) (omega arith) cut
    where
      cut : pick s.reverse s.start s.end ≡ pick s.reverse t.end t.start
      cut = j.cut ∙ ap (λ (r : Bool). pick r t.end t.start) (sym j.turn)

  joining_spells : (s : Segment) (r : Route) → Filled (s ∷ r) → spell_route p d (joining s r) ≡ spell_segment p d s ++ spell_route p d r
  unfolding joining spell_route
  joining_spells s [] f = refl
  joining_spells s (t ∷ r) f = go (joinable s t) refl (λ j. joining_spells (joined s t) r (joined_some s t f.0 f.1.0 j, f.1.1)) (joining_spells t r f.1)
    where
      go : (c : Bool) → joinable s t ≡ c → (Joins s t → spell_route p d (joining (joined s t) r) ≡ spell_segment p d (joined s t) ++ spell_route p d r)
          → spell_route p d (joining t r) ≡ spell_segment p d t ++ spell_route p d r
          → spell_route p d (pick c (joining (joined s t) r) (s ∷ joining t r)) ≡ spell_segment p d s ++ (spell_segment p d t ++ spell_route p d r)
      go true e ih n =
          let j = joins s t e in
          ih j ∙ ap (λ (x : List ℕ). x ++ spell_route p d r) (sym (joined_spells s t f.0 f.1.0 j)) ∙ append_assoc (spell_segment p d s) (spell_segment p d t) (spell_route p d r)
      go false e ih n = ap (λ (x : List ℕ). spell_segment p d s ++ x) n

  pub normal_spells : (r : Route) → Filled r → spell_route p d (normalize r) ≡ spell_route p d r
  unfolding spell_route
  normal_spells [] f = refl
  normal_spells (s ∷ r) f = joining_spells s r f

-- For the reader: the second theorem, of routes.
pub normal_spells_the_same : NormalSpellsTheSame
normal_spells_the_same p d r ok = normal_spells p d r (filled_of p r ok)
