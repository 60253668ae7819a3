-- Each descent covers a base that was free, so a path is never longer than the panel has bases.
use Prim.Native.Nat.{ℕ, zero, suc, ◌+◌, ◌≤◌, ◌<◌}
use native.Mathlib.Omega.{arith}
use native.Mathlib.Decide.{dec_lt}
use mathlib.Core.Path.{◌≡◌, refl, sym, ◌∙◌, subst}
use mathlib.Core.List.{List, [], ◌∷◌, ◌++◌}
use mathlib.Core.Bool.{Bool, true, false, not, ◌&&◌, ◌||◌, true≢false}
use lib.Dec.{leb, ltb, eqb}
use lib.ListN.{get_or}
use borrow.Author.Tests.{eqb-true, eq-eqb, lt-ltb, le-leb, leb-true, not-true}
use Rattle.ground.specs.Lists.{pick, all, any}
use Rattle.image.specs.Panel.{Panel, PanelLane, lane_at, no_lane}
use Rattle.evaluate.specs.declared.Segment.{Segment}
use Rattle.evaluate.specs.Segments.{overlap, clear}

-- ---- tests

pub and_left : (a b : Bool) → (a && b) ≡ true → a ≡ true
and_left true b e = refl
and_left false b e = e

pub and_right : (a b : Bool) → (a && b) ≡ true → b ≡ true
and_right true b e = e
and_right false b e = absurd (true≢false (sym e))

-- ---- the free bases

abbrev pub hits : Segment → ℕ → ℕ → Bool
hits s l x = eqb s.source l && leb s.start x && ltb x s.end

abbrev pub covered : List Segment → ℕ → ℕ → Bool
covered path l x = any (λ s. hits s l x) path

abbrev pub free_in : List Segment → ℕ → ℕ → ℕ
free_in path l zero = 0
free_in path l (suc n) = pick (covered path l n) 0 1 + free_in path l n

abbrev pub free_of : List Segment → ℕ → List PanelLane → ℕ
free_of path l [] = 0
free_of path l (e ∷ es) = free_in path l e.len + free_of path (suc l) es

any_snoc : {A : Type 0} (t : A → Bool) (l : List A) (s : A) → any t (l ++ (s ∷ [])) ≡ (any t l || t s)
unfolding any
any_snoc t [] s = go (t s)
  where
    go : (b : Bool) → (b || false) ≡ b
    go true = refl
    go false = refl
any_snoc t (a ∷ l) s = rw (any_snoc t l s) (go (t a))
  where
    go : (b : Bool) → (b || (any t l || t s)) ≡ (b || any t l || t s)
    go true = refl
    go false = refl

module _ (path : List Segment) (s : Segment) where
  free_in_le : (l n : ℕ) → free_in (path ++ (s ∷ [])) l n ≤ free_in path l n
  free_in_le l zero = omega arith
  free_in_le l (suc n) = rw (any_snoc (λ c. hits c l n) path s) (go (covered path l n) (hits s l n) (free_in_le l n))
    where
      go : (b c : Bool) → free_in (path ++ (s ∷ [])) l n ≤ free_in path l n → pick (b || c) 0 1 + free_in (path ++ (s ∷ [])) l n ≤ pick b 0 1 + free_in path l n
      go true c h = omega arith
      go false true h = omega arith
      go false false h = omega arith

  free_in_lt : (l n x : ℕ) → x < n → covered path l x ≡ false → hits s l x ≡ true → free_in (path ++ (s ∷ [])) l n < free_in path l n
  free_in_lt l zero x h c k = let z : ⊥ = omega arith in absurd z
  free_in_lt l (suc n) x h c k = rw (any_snoc (λ d. hits d l n) path s) (split (λ r. free_in_lt l n x r c k) (dec_lt x n))
    where
      later : (b d : Bool) → free_in (path ++ (s ∷ [])) l n < free_in path l n → pick (b || d) 0 1 + free_in (path ++ (s ∷ [])) l n < pick b 0 1 + free_in path l n
      later true d h = omega arith
      later false true h = omega arith
      later false false h = omega arith

      split : (x < n → free_in (path ++ (s ∷ [])) l n < free_in path l n) → Dec (x < n) → pick (covered path l n || hits s l n) 0 1 + free_in (path ++ (s ∷ [])) l n < pick (covered path l n) 0 1 + free_in path l n
      split rec (yes r) = later (covered path l n) (hits s l n) (rec r)
      split rec (no r) =
          let e : x ≡ n = omega arith in
          let c' : covered path l n ≡ false = subst (λ y. covered path l y ≡ false) e c in
          let k' : hits s l n ≡ true = subst (λ y. hits s l y ≡ true) e k in
          let m : free_in (path ++ (s ∷ [])) l n ≤ free_in path l n = free_in_le l n in
          rw (c', k') (omega arith)

  free_of_le : (l : ℕ) (es : List PanelLane) → free_of (path ++ (s ∷ [])) l es ≤ free_of path l es
  free_of_le l [] = omega arith
  free_of_le l (e ∷ es) = omega (arith, free_in_le l e.len, free_of_le (suc l) es)

  -- a base of a lane of the list that becomes covered
  free_of_lt : (l : ℕ) (es : List PanelLane) (i x : ℕ) → x < (get_or es i no_lane).len → covered path (l + i) x ≡ false → hits s (l + i) x ≡ true
      → free_of (path ++ (s ∷ [])) l es < free_of path l es
  free_of_lt l [] i x h c k = let z : ⊥ = omega arith in absurd z
  free_of_lt l (e ∷ es) zero x h c k = let z : l + 0 ≡ l = omega arith in
      omega (arith, free_in_lt l e.len x h (subst (λ y. covered path y x ≡ false) z c) (subst (λ y. hits s y x ≡ true) z k), free_of_le (suc l) es)
  free_of_lt l (e ∷ es) (suc i) x h c k = let z : l + suc i ≡ suc l + i = omega arith in
      omega (arith, free_in_le l e.len, free_of_lt (suc l) es i x h (subst (λ y. covered path y x ≡ false) z c) (subst (λ y. hits s y x ≡ true) z k))

-- a clear piece begins on a free base
pub begins_free : (s : Segment) (path : List Segment) → s.start < s.end → clear s path ≡ true → covered path s.source s.start ≡ false
unfolding all any
begins_free s [] h c = refl
begins_free s (b ∷ path) h c = go (hits b s.source s.start) refl (begins_free s path h (and_right (not (overlap s b)) (clear s path) c))
  where
    go : (t : Bool) → hits b s.source s.start ≡ t → covered path s.source s.start ≡ false → (t || covered path s.source s.start) ≡ false
    go false e r = r
    go true e r =
        let e₁ : (eqb b.source s.source && leb b.start s.start) ≡ true = and_left _ (ltb s.start b.end) e in
        let x : b.source ≡ s.source = eqb-true b.source s.source (and_left _ (leb b.start s.start) e₁) in
        let y : b.start ≤ s.start = leb-true b.start s.start (and_right (eqb b.source s.source) _ e₁) in
        let o : overlap s b ≡ true = rw (eq-eqb s.source b.source (sym x), and_right (eqb b.source s.source && leb b.start s.start) _ e, lt-ltb b.start s.end (omega arith)) refl in
        let n : overlap s b ≡ false = not-true (overlap s b) (and_left (not (overlap s b)) (clear s path) c) in
        (sym o) ∙ n

pub hits_start : (s : Segment) → s.start < s.end → hits s s.source s.start ≡ true
hits_start s h = rw (eq-eqb s.source s.source refl, le-leb s.start s.start (omega arith), lt-ltb s.start s.end h) refl

-- the measure
abbrev pub free : Panel → List Segment → ℕ
free p path = free_of path 0 p.lanes

pub free_falls : (p : Panel) (path : List Segment) (s : Segment) → s.start < s.end → s.start < (lane_at p s.source).len → clear s path ≡ true
    → free p (path ++ (s ∷ [])) < free p path
free_falls p path s h k c = let z : s.source ≡ 0 + s.source = omega arith in
    free_of_lt path s 0 p.lanes s.source s.start k (subst (λ y. covered path y s.start ≡ false) z (begins_free s path h c)) (subst (λ y. hits s y s.start ≡ true) z (hits_start s h))
