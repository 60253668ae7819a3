-- Of spans that are not empty, those as given share a base exactly when those of the normal form do.
use Prim.Native.Nat.{ℕ, zero, suc, ◌<◌}
use native.Mathlib.Omega.{arith}
use mathlib.Core.Path.{◌≡◌, refl, sym, ap, ap₂, ◌∙◌}
use mathlib.Core.Logic.{◌⊎◌, inl, inr, ⊎_elim}
use mathlib.Core.Bool.{Bool, true, false, not, ◌&&◌, and-false, true≢false}
use mathlib.Core.List.{List, [], ◌∷◌, ◌++◌, map}
use lib.Dec.{ltb, eqb}
use lib.ListN.{length}
use borrow.Author.Tests.{le-ltb, eq-eqb, ne_eqb, eqb-true, eqb-false}
use Rattle.ground.specs.Lists.{pick, all}
use Rattle.ground.proofs.ListLaws.{both}
use Rattle.image.specs.Panel.{Panel}
use Rattle.evaluate.specs.declared.Segment.{Segment}
use Rattle.evaluate.specs.Refusals.{unless, at}
use Rattle.evaluate.specs.declared.Refusal.{Refusal}
use Rattle.evaluate.specs.Properties.{Each}
use Rattle.evaluate.specs.Segments.{Route, joinable, joined, joining, normalize, overlap, clear, apart, flat, sound_span}
use Rattle.evaluate.specs.Check.{is_empty, normal_refusal, route_refusal, routes_refusal}
use Rattle.evaluate.proofs.Bases.{overlap_share, share_overlap, sound_iff}
use Rattle.evaluate.proofs.NormalForm.{Filled, Joins, joins, end_to_end, joined_some, joined_holds}
use Rattle.overlap.proofs.Laws.{and_assoc, clear_append}

-- ---- a joined segment meets what one of its two pieces meets

pub overlap_sym : (s t : Segment) → overlap s t ≡ overlap t s
overlap_sym s t = go (eqb s.source t.source) refl
  where
    turn : (c x y : Bool) → ((c && x) && y) ≡ ((c && y) && x)
    turn false x y = refl
    turn true true true = refl
    turn true true false = refl
    turn true false true = refl
    turn true false false = refl

    go : (c : Bool) → eqb s.source t.source ≡ c → overlap s t ≡ overlap t s
    go true e =
        let f : eqb t.source s.source ≡ true = eq-eqb t.source s.source (sym (eqb-true s.source t.source e)) in
        rw (e, f) (turn true (ltb s.start t.end) (ltb t.start s.end))
    go false e =
        let f : eqb t.source s.source ≡ false = ne_eqb t.source s.source (λ q. eqb-false s.source t.source e (sym q)) in
        rw (e, f)

module _ (s t : Segment) (hs : s.start < s.end) (ht : t.start < t.end) (j : Joins s t) where
  pieces_off : overlap s t ≡ false
  pieces_off = ⊎_elim ahead behind (end_to_end s t hs ht j)
    where
      ahead : s.end ≡ t.start → overlap s t ≡ false
      ahead e =
          let z : ltb t.start s.end ≡ false = le-ltb t.start s.end (omega arith) in
          rw z (and-false (eqb s.source t.source && ltb s.start t.end))

      behind : t.end ≡ s.start → overlap s t ≡ false
      behind e =
          let z : ltb s.start t.end ≡ false = le-ltb s.start t.end (omega arith) in
          rw (z, and-false (eqb s.source t.source))

  module _ (u : Segment) (hu : u.start < u.end) where
    to_piece : overlap (joined s t) u ≡ true → (overlap s u ≡ true) ⊎ (overlap t u ≡ true)
    to_piece e =
        let h = overlap_share (joined s t) u (joined_some s t hs ht j) hu e in
        ⊎_elim
        (λ l. inl (share_overlap s u (record { lane = h.lane; base = h.base; left = l; right = h.right })))
        (λ r. inr (share_overlap t u (record { lane = h.lane; base = h.base; left = r; right = h.right })))
        ((joined_holds s t hs ht j h.lane h.base).0 h.left)

    of_left : overlap s u ≡ true → overlap (joined s t) u ≡ true
    of_left e =
        let h = overlap_share s u hs hu e in
        share_overlap (joined s t) u (record { lane = h.lane; base = h.base; left = (joined_holds s t hs ht j h.lane h.base).1 (inl h.left); right = h.right })

    of_right : overlap t u ≡ true → overlap (joined s t) u ≡ true
    of_right e =
        let h = overlap_share t u ht hu e in
        share_overlap (joined s t) u (record { lane = h.lane; base = h.base; left = (joined_holds s t hs ht j h.lane h.base).1 (inr h.left); right = h.right })

    joined_off : not (overlap (joined s t) u) ≡ (not (overlap s u) && not (overlap t u))
    joined_off = go (overlap (joined s t) u) (overlap s u) (overlap t u) to_piece of_left of_right
      where
        go : (o a b : Bool) → (o ≡ true → (a ≡ true) ⊎ (b ≡ true)) → (a ≡ true → o ≡ true) → (b ≡ true → o ≡ true) → not o ≡ (not a && not b)
        go true true b f g h = refl
        go true false true f g h = refl
        go true false false f g h = absurd (⊎_elim (λ x. true≢false (sym x)) (λ x. true≢false (sym x)) (f refl))
        go false true b f g h = absurd (true≢false (sym (g refl)))
        go false false true f g h = absurd (true≢false (sym (h refl)))
        go false false false f g h = refl

    joined_off_right : not (overlap u (joined s t)) ≡ (not (overlap u s) && not (overlap u t))
    joined_off_right = rw (overlap_sym u (joined s t), overlap_sym u s, overlap_sym u t) joined_off

  joined_clear : (l : Route) → Filled l → clear (joined s t) l ≡ (clear s l && clear t l)
  unfolding all
  joined_clear [] h = refl
  joined_clear (u ∷ l) h =
      ap₂ ◌&&◌ (joined_off u h.0) (joined_clear l h.1)
      ∙ mix (not (overlap s u)) (not (overlap t u)) (clear s l) (clear t l)
    where
      mix : (a b c d : Bool) → ((a && b) && (c && d)) ≡ ((a && c) && (b && d))
      mix false b c d = refl
      mix true true c d = refl
      mix true false true d = refl
      mix true false false d = refl

-- ---- a route

filled_append : (l m : Route) → Filled l → Filled m → Filled (l ++ m)
filled_append [] m h k = k
filled_append (s ∷ l) m h k = (h.0, filled_append l m h.1 k)

clear_joining : (u : Segment) → u.start < u.end → (s : Segment) (r : Route) → Filled (s ∷ r) → clear u (joining s r) ≡ clear u (s ∷ r)
unfolding joining all
clear_joining u hu s [] f = refl
clear_joining u hu s (t ∷ r) f = go (joinable s t) refl (λ j. clear_joining u hu (joined s t) r (joined_some s t f.0 f.1.0 j, f.1.1)) (clear_joining u hu t r f.1)
  where
    go : (c : Bool) → joinable s t ≡ c → (Joins s t → clear u (joining (joined s t) r) ≡ clear u (joined s t ∷ r)) → clear u (joining t r) ≡ clear u (t ∷ r)
        → clear u (pick c (joining (joined s t) r) (s ∷ joining t r)) ≡ clear u (s ∷ t ∷ r)
    go true e ih n =
        let j = joins s t e in
        ih j ∙ ap (λ (b : Bool). b && clear u r) (joined_off_right s t f.0 f.1.0 j u hu) ∙ and_assoc (not (overlap u s)) (not (overlap u t)) (clear u r)
    go false e ih n = ap (λ (b : Bool). not (overlap u s) && b) n

clear_normal : (u : Segment) → u.start < u.end → (r : Route) → Filled r → clear u (normalize r) ≡ clear u r
clear_normal u hu [] f = refl
clear_normal u hu (s ∷ r) f = clear_joining u hu s r f

apart_joining : (m : Route) → Filled m → (s : Segment) (r : Route) → Filled (s ∷ r) → apart (joining s r ++ m) ≡ apart (s ∷ (r ++ m))
unfolding joining apart all
apart_joining m k s [] f = refl
apart_joining m k s (t ∷ r) f = go (joinable s t) refl (λ j. apart_joining m k (joined s t) r (joined_some s t f.0 f.1.0 j, f.1.1)) (apart_joining m k t r f.1)
  where
    full : Filled (r ++ m)
    full = filled_append r m f.1.1 k

    go : (c : Bool) → joinable s t ≡ c → (Joins s t → apart (joining (joined s t) r ++ m) ≡ apart (joined s t ∷ (r ++ m))) → apart (joining t r ++ m) ≡ apart (t ∷ (r ++ m))
        → apart (pick c (joining (joined s t) r) (s ∷ joining t r) ++ m) ≡ apart (s ∷ t ∷ (r ++ m))
    go true e ih n =
        let j = joins s t e in
        ih j ∙ rw (joined_clear s t f.0 f.1.0 j (r ++ m) full, pieces_off s t f.0 f.1.0 j) (and_assoc (clear s (r ++ m)) (clear t (r ++ m)) (apart (r ++ m)))
    go false e ih n =
        let c : clear s (joining t r ++ m) ≡ clear s (t ∷ (r ++ m)) = clear_append s (joining t r) m ∙ ap (λ (b : Bool). b && clear s m) (clear_joining s f.0 t r f.1) ∙ sym (clear_append s (t ∷ r) m) in
        ap₂ ◌&&◌ c n

apart_normal : (m : Route) → Filled m → (r : Route) → Filled r → apart (normalize r ++ m) ≡ apart (r ++ m)
apart_normal m k [] f = refl
apart_normal m k (s ∷ r) f = apart_joining m k s r f

-- ---- all routes

abbrev pub AllFilled : List Route → Type 0
AllFilled rs = Each Filled rs

clear_flat : (u : Segment) → u.start < u.end → (rs : List Route) → AllFilled rs → clear u (flat (map normalize rs)) ≡ clear u (flat rs)
clear_flat u hu [] h = refl
clear_flat u hu (r ∷ rs) h =
    clear_append u (normalize r) (flat (map normalize rs))
    ∙ ap₂ ◌&&◌ (clear_normal u hu r h.0) (clear_flat u hu rs h.1)
    ∙ sym (clear_append u r (flat rs))

behind : (l x y : Route) → Filled l → ((u : Segment) → u.start < u.end → clear u x ≡ clear u y) → apart x ≡ apart y → apart (l ++ x) ≡ apart (l ++ y)
unfolding apart
behind [] x y h c e = e
behind (s ∷ l) x y h c e = ap₂ ◌&&◌ (clear_append s l x ∙ ap (λ (b : Bool). clear s l && b) (c s h.0) ∙ sym (clear_append s l y)) (behind l x y h.1 c e)

joining_filled : (s : Segment) (r : Route) → Filled (s ∷ r) → Filled (joining s r)
unfolding joining
joining_filled s [] h = h
joining_filled s (t ∷ r) h = go (joinable s t) refl (λ j. joining_filled (joined s t) r (joined_some s t h.0 h.1.0 j, h.1.1)) (joining_filled t r h.1)
  where
    go : (c : Bool) → joinable s t ≡ c → (Joins s t → Filled (joining (joined s t) r)) → Filled (joining t r) → Filled (pick c (joining (joined s t) r) (s ∷ joining t r))
    go true e ih n = ih (joins s t e)
    go false e ih n = (h.0, n)

normal_filled : (rs : List Route) → AllFilled rs → Filled (flat (map normalize rs))
normal_filled [] h = tt
normal_filled (r ∷ rs) h = filled_append (normalize r) (flat (map normalize rs)) (normals r h.0) (normal_filled rs h.1)
  where
    normals : (r : Route) → Filled r → Filled (normalize r)
    normals [] h = tt
    normals (s ∷ r) h = joining_filled s r h

-- 31 may look at the segments as given
pub apart_given : (rs : List Route) → AllFilled rs → apart (flat (map normalize rs)) ≡ apart (flat rs)
apart_given [] h = refl
apart_given (r ∷ rs) h =
    apart_normal (flat (map normalize rs)) (normal_filled rs h.1) r h.0
    ∙ behind r (flat (map normalize rs)) (flat rs) h.0 (λ u hu. clear_flat u hu rs h.1) (apart_given rs h.1)

-- ---- where no route is refused, no span is empty

unless_none : (b : Bool) (n m : ℕ) → unless b (suc n) m ≡ 0 → (b ≡ true) × (m ≡ 0)
unless_none true n m e = (refl, e)
unless_none false n m e = let z : suc n ≡ 0 = e in let x : ⊥ = omega arith in absurd x

at_none : (n i : ℕ) (r : Refusal) → (at n i r).number ≡ 0 → (n ≡ 0) × (r.number ≡ 0)
at_none zero i r e = (refl, e)
at_none (suc n) i r e = let z : suc n ≡ 0 = e in let x : ⊥ = omega arith in absurd x

module _ (p : Panel) where
  sound_filled : (r : Route) → all (sound_span p) r ≡ true → Filled r
  unfolding all
  sound_filled [] e = tt
  sound_filled (s ∷ r) e = let (x, y) = both (sound_span p s) (all (sound_span p) r) e in (((sound_iff p s).0 x).some, sound_filled r y)

  route_filled : (target : ℕ) (r : Route) → route_refusal p target r ≡ 0 → Filled r
  unfolding route_refusal
  route_filled target r e =
      let (a, f) = unless_none (not (is_empty r)) 24 (unless (all (sound_span p) r) 26 (normal_refusal p target (normalize r))) e in
      let (b, g) = unless_none (all (sound_span p) r) 25 (normal_refusal p target (normalize r)) f in
      sound_filled r b

  pub routes_filled : (i : ℕ) (targets : List ℕ) (rs : List Route) → length rs ≡ length targets → (routes_refusal p i targets rs).number ≡ 0 → AllFilled rs
  unfolding routes_refusal
  routes_filled i [] [] l e = tt
  routes_filled i [] (r ∷ rs) l e = let z : ⊥ = omega arith in absurd z
  routes_filled i (t ∷ ts) [] l e = tt
  routes_filled i (t ∷ ts) (r ∷ rs) l e =
      let (a, f) = at_none (route_refusal p t r) i (routes_refusal p (suc i) ts rs) e in
      (route_filled t r a, routes_filled (suc i) ts rs (omega arith) f)
