-- The normal form of spans that are not empty: it has nothing left to join, it is its own normal form, and it covers the same bases.
use Prim.Native.Nat.{ℕ, ◌≤◌, ◌<◌, min, max}
use native.Mathlib.Omega.{arith}
use native.Mathlib.Decide.{dec_lt}
use mathlib.Core.Path.{◌≡◌, refl, sym, ◌∙◌, ap, subst}
use mathlib.Core.Logic.{◌⊎◌, inl, inr, ⊎_elim, ◌↔◌}
use mathlib.Core.Bool.{Bool, true, false, ◌&&◌, true≢false}
use mathlib.Core.List.{[], ◌∷◌}
use lib.Dec.{eqb}
use borrow.Author.Tests.{eqb-true}
use Rattle.ground.specs.Lists.{pick}
use Rattle.ground.proofs.ListLaws.{both}
use Rattle.image.specs.Panel.{Panel, lane_at}
use Rattle.evaluate.specs.declared.Segment.{Segment}
use Rattle.evaluate.specs.Properties.{Each, Neighbours, First}
use Rattle.evaluate.specs.Segments.{Route, entry, exit, joinable, joined, joining, normalize, Unjoined, Holds, SoundSpan}
use Rattle.storage.specs.Records.{same_turn}

-- no span is empty
abbrev pub Filled : Route → Type 0
Filled r = Each (λ s. s.start < s.end) r

pub record Joins (s t : Segment) : Type 0 where
  pub lane : s.source ≡ t.source
  pub turn : s.reverse ≡ t.reverse
  pub cut : exit s ≡ entry t

pub same_turn_is : (a b : Bool) → same_turn a b ≡ true → a ≡ b
same_turn_is true true e = refl
same_turn_is true false e = sym e
same_turn_is false true e = e
same_turn_is false false e = refl

pub joins : (s t : Segment) → joinable s t ≡ true → Joins s t
joins s t e =
    let (uv, w) = both (eqb s.source t.source && same_turn s.reverse t.reverse) (eqb (exit s) (entry t)) e in
    let (u, v) = both (eqb s.source t.source) (same_turn s.reverse t.reverse) uv in
    record { lane = eqb-true s.source t.source u; turn = same_turn_is s.reverse t.reverse v; cut = eqb-true (exit s) (entry t) w }

module _ (s t : Segment) (hs : s.start < s.end) (ht : t.start < t.end) (j : Joins s t) where
  -- the two spans lie end to end
  pub end_to_end : (s.end ≡ t.start) ⊎ (t.end ≡ s.start)
  end_to_end = go s.reverse t.reverse j.turn j.cut
    where
      go : (a b : Bool) → a ≡ b → pick a s.start s.end ≡ pick b t.end t.start → (s.end ≡ t.start) ⊎ (t.end ≡ s.start)
      go false false e c = inl c
      go true true e c = inr (sym c)
      go false true e c = absurd (true≢false (sym e))
      go true false e c = absurd (true≢false e)

  pub joined_entry : entry (joined s t) ≡ entry s
  joined_entry = go s.reverse t.reverse j.turn j.cut
    where
      go : (a b : Bool) → a ≡ b → pick a s.start s.end ≡ pick b t.end t.start
          → pick a (max s.end t.end) (min s.start t.start) ≡ pick a s.end s.start
      go false false e c = omega arith
      go true true e c = omega arith
      go false true e c = absurd (true≢false (sym e))
      go true false e c = absurd (true≢false e)

  pub joined_some : (joined s t).start < (joined s t).end
  joined_some = omega arith

  pub joined_holds : (l x : ℕ) → Holds (joined s t) l x ↔ (Holds s l x ⊎ Holds t l x)
  joined_holds l x = (to, from)
    where
      to : Holds (joined s t) l x → Holds s l x ⊎ Holds t l x
      to h = ⊎_elim ahead behind end_to_end
        where
          lo : min s.start t.start ≤ x
          lo = h.from

          hi : x < max s.end t.end
          hi = h.below

          on : t.source ≡ l
          on = sym j.lane ∙ h.lane

          ahead : s.end ≡ t.start → Holds s l x ⊎ Holds t l x
          ahead e = go (dec_lt x s.end)
            where
              go : Dec (x < s.end) → Holds s l x ⊎ Holds t l x
              go (yes k) = inl (record { lane = h.lane; from = omega (arith, lo, hi, e); below = k })
              go (no k) = inr (record { lane = on; from = omega (arith, lo, hi, e); below = omega (arith, lo, hi, e) })

          behind : t.end ≡ s.start → Holds s l x ⊎ Holds t l x
          behind e = go (dec_lt x t.end)
            where
              go : Dec (x < t.end) → Holds s l x ⊎ Holds t l x
              go (yes k) = inr (record { lane = on; from = omega (arith, lo, hi, e); below = k })
              go (no k) = inl (record { lane = h.lane; from = omega (arith, lo, hi, e); below = omega (arith, lo, hi, e) })

      from : Holds s l x ⊎ Holds t l x → Holds (joined s t) l x
      from = ⊎_elim
          (λ h. record { lane = h.lane; from = omega (arith, h.from); below = omega (arith, h.below) })
          (λ h. record { lane = j.lane ∙ h.lane; from = omega (arith, h.from); below = omega (arith, h.below) })

-- ---- nothing is left to join

-- what does not join the first, does not join the first of its normal form
meets : (q s : Segment) (r : Route) → Filled (s ∷ r) → joinable q s ≡ false → First (λ u. joinable q u ≡ false) (joining s r)
unfolding joining
meets q s [] f h = h
meets q s (t ∷ r) f h = go (joinable s t) refl (λ j. meets q (joined s t) r (joined_some s t f.0 f.1.0 j, f.1.1) (on j))
  where
    on : Joins s t → joinable q (joined s t) ≡ false
    on j = ap (λ (n : ℕ). eqb q.source s.source && same_turn q.reverse s.reverse && eqb (exit q) n) (joined_entry s t f.0 f.1.0 j) ∙ h

    go : (c : Bool) → joinable s t ≡ c → (Joins s t → First (λ u. joinable q u ≡ false) (joining (joined s t) r))
        → First (λ u. joinable q u ≡ false) (pick c (joining (joined s t) r) (s ∷ joining t r))
    go true e ih = ih (joins s t e)
    go false e ih = h

before_normal : (s : Segment) (l : Route) → First (λ u. joinable s u ≡ false) l → Neighbours Unjoined l → Neighbours Unjoined (s ∷ l)
before_normal s [] h n = absurd h
before_normal s (u ∷ l) h n = (h, n)

joining_normal : (s : Segment) (r : Route) → Filled (s ∷ r) → Neighbours Unjoined (joining s r)
unfolding joining
joining_normal s [] f = tt
joining_normal s (t ∷ r) f =
    go (joinable s t) refl (λ j. joining_normal (joined s t) r (joined_some s t f.0 f.1.0 j, f.1.1)) (joining_normal t r f.1)
  where
    go : (c : Bool) → joinable s t ≡ c → (Joins s t → Neighbours Unjoined (joining (joined s t) r)) → Neighbours Unjoined (joining t r)
        → Neighbours Unjoined (pick c (joining (joined s t) r) (s ∷ joining t r))
    go true e ih n = ih (joins s t e)
    go false e ih n = before_normal s (joining t r) (meets s t r f.1 e) n

pub normal : (r : Route) → Filled r → Neighbours Unjoined (normalize r)
normal [] f = tt
normal (s ∷ r) f = joining_normal s r f

-- ---- what has nothing to join is its own normal form

joining_fixed : (s : Segment) (r : Route) → Neighbours Unjoined (s ∷ r) → joining s r ≡ s ∷ r
unfolding joining
joining_fixed s [] h = refl
joining_fixed s (t ∷ r) h = rw h.0 (ap (λ (l : Route). s ∷ l) (joining_fixed t r h.1))

pub normal_fixed : (r : Route) → Neighbours Unjoined r → normalize r ≡ r
normal_fixed [] h = refl
normal_fixed (s ∷ r) h = joining_fixed s r h

-- For the reader: a normal form is its own normal form
pub twice : (r : Route) → Filled r → normalize (normalize r) ≡ normalize r
twice r f = normal_fixed (normalize r) (normal r f)

-- ---- it covers the same bases

-- base x of lane l lies in one of the segments
abbrev pub Covers : Route → ℕ → ℕ → Type 0
Covers [] l x = ⊥
Covers (s ∷ r) l x = Holds s l x ⊎ Covers r l x

joining_covers : (l x : ℕ) (s : Segment) (r : Route) → Filled (s ∷ r) → Covers (joining s r) l x ↔ Covers (s ∷ r) l x
unfolding joining
joining_covers l x s [] f = (λ c. c, λ c. c)
joining_covers l x s (t ∷ r) f =
    go (joinable s t) refl (λ j. joining_covers l x (joined s t) r (joined_some s t f.0 f.1.0 j, f.1.1)) (joining_covers l x t r f.1)
  where
    joint : (j : Joins s t) → Covers (joining (joined s t) r) l x ↔ Covers (joined s t ∷ r) l x → Covers (joining (joined s t) r) l x ↔ Covers (s ∷ t ∷ r) l x
    joint j ih =
        let h = joined_holds s t f.0 f.1.0 j l x in (
          λ c. ⊎_elim (λ a. ⊎_elim inl (λ b. inr (inl b)) (h.0 a)) (λ a. inr (inr a)) (ih.0 c),
          λ c. ih.1 (⊎_elim (λ a. inl (h.1 (inl a))) (λ d. ⊎_elim (λ a. inl (h.1 (inr a))) inr d) c),
        )

    go : (c : Bool) → joinable s t ≡ c → (Joins s t → Covers (joining (joined s t) r) l x ↔ Covers (joined s t ∷ r) l x) → Covers (joining t r) l x ↔ Covers (t ∷ r) l x
        → Covers (pick c (joining (joined s t) r) (s ∷ joining t r)) l x ↔ Covers (s ∷ t ∷ r) l x
    go true e ih n = joint (joins s t e) (ih (joins s t e))
    go false e ih n = (λ c. ⊎_elim inl (λ a. inr (n.0 a)) c, λ c. ⊎_elim inl (λ a. inr (n.1 a)) c)

-- For the reader: the normal form covers the bases that the route as given covers, no more and no fewer
pub same_bases : (r : Route) → Filled r → (l x : ℕ) → Covers (normalize r) l x ↔ Covers r l x
same_bases [] f l x = (λ c. c, λ c. c)
same_bases (s ∷ r) f l x = joining_covers l x s r f

-- ---- and its spans are sound where the given ones are

module _ (p : Panel) where
  joined_sound : (s t : Segment) → SoundSpan p s → SoundSpan p t → Joins s t → SoundSpan p (joined s t)
  joined_sound s t h k j =
      let a = h.some in
      let b = k.some in
      let c = h.inside in
      let d : t.end ≤ (lane_at p s.source).len = subst (λ (i : ℕ). t.end ≤ (lane_at p i).len) (sym j.lane) k.inside in
      record { lane = h.lane; some = omega arith; inside = omega arith }

  joining_sound : (s : Segment) (r : Route) → Each (SoundSpan p) (s ∷ r) → Each (SoundSpan p) (joining s r)
  unfolding joining
  joining_sound s [] h = h
  joining_sound s (t ∷ r) h = go (joinable s t) refl (λ j. joining_sound (joined s t) r (joined_sound s t h.0 h.1.0 j, h.1.1)) (joining_sound t r h.1)
    where
      go : (c : Bool) → joinable s t ≡ c → (Joins s t → Each (SoundSpan p) (joining (joined s t) r)) → Each (SoundSpan p) (joining t r)
          → Each (SoundSpan p) (pick c (joining (joined s t) r) (s ∷ joining t r))
      go true e ih n = ih (joins s t e)
      go false e ih n = (h.0, n)

  pub sound_normal : (r : Route) → Each (SoundSpan p) r → Each (SoundSpan p) (normalize r)
  sound_normal [] h = tt
  sound_normal (s ∷ r) h = joining_sound s r h

  pub filled_of : (r : Route) → Each (SoundSpan p) r → Filled r
  filled_of [] h = tt
  filled_of (s ∷ r) h = (h.0.some, filled_of r h.1)
