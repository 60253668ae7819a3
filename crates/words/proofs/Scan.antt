-- How one walk over the words tells whether they are well formed.
use mathlib.Core.Path.{◌≡◌, refl, sym, ap, ap₂, ◌∙◌}
use mathlib.Core.Bool.{Bool, true, false}
use mathlib.Core.List.{List, [], ◌∷◌}
use Prim.Native.Nat.{ℕ, zero, suc, ◌+◌, ◌-◌, ◌≤◌, ◌<◌}
use native.Mathlib.Omega.{arith}
use native.Mathlib.Nat.{eq-or-lt_of_le}
use mathlib.Core.Logic.{⊎_elim}
use native.Mathlib.Numerals.{add-one, add-two, add-three, add-four}
use lib.Dec.{eqb}
use borrow.Author.Tests.{eq-eqb, ne_eqb}
use lib.ListN.{length, drop, get_or, length-drop, drop_of_length-le}
use lib.Seq.{drop-cons}
use Rattle.evaluate.specs.declared.Segment.{Segment}
use Rattle.evaluate.specs.Segments.{Route}
use Rattle.evaluate.specs.Words.{Read, malformed, got, before, read_segments, then_routes, read_routes, of_family, read_assignment, all_of, decode}
use Rattle.words.specs.Inner.{formed}

-- `left` routes are to come; and before them n segments
unfoldable pub ok_routes : ℕ → List ℕ → Bool
ok_routes left ws = formed (all_of (read_routes left ws))

unfoldable pub ok_segments : ℕ → ℕ → List ℕ → Bool
ok_segments n left ws = formed (all_of (then_routes (read_segments n ws) (read_routes left)))

done_before : {X : Type 0} (x : X) (r : Read (List X)) → formed (all_of (before x r)) ≡ formed (all_of r)
done_before x malformed = refl
done_before x (got l []) = refl
done_before x (got l (w ∷ ws)) = refl

done_family : (f : ℕ) (r : Read (List Route)) → formed (all_of (of_family f r)) ≡ formed (all_of r)
done_family f malformed = refl
done_family f (got l []) = refl
done_family f (got l (w ∷ ws)) = refl

segments_none : (left : ℕ) (ws : List ℕ) → ok_segments 0 left ws ≡ ok_routes left ws
unfolding ok_segments ok_routes read_segments
segments_none left ws = done_before [] (read_routes left ws)

one_more : (s : Segment) (r : Read Route) (f : List ℕ → Read (List Route)) → formed (all_of (then_routes (before s r) f)) ≡ formed (all_of (then_routes r f))
one_more s malformed f = refl
one_more s (got l us) f = done_before (s ∷ l) (f us) ∙ sym (done_before l (f us))

segments_next : (n left a b c d : ℕ) (ws : List ℕ) → d ≤ 1 → ok_segments (suc n) left (a ∷ b ∷ c ∷ d ∷ ws) ≡ ok_segments n left ws
unfolding ok_segments read_segments
segments_next n left a b c zero ws h = one_more (record { source = a; start = b; end = c; reverse = false }) (read_segments n ws) (read_routes left)
segments_next n left a b c (suc zero) ws h = one_more (record { source = a; start = b; end = c; reverse = true }) (read_segments n ws) (read_routes left)
segments_next n left a b c (suc (suc k)) ws h = let z : ⊥ = omega arith in absurd z

segments_turn : (n left a b c d : ℕ) (ws : List ℕ) → 1 < d → ok_segments (suc n) left (a ∷ b ∷ c ∷ d ∷ ws) ≡ false
unfolding ok_segments read_segments
segments_turn n left a b c zero ws h = let z : ⊥ = omega arith in absurd z
segments_turn n left a b c (suc zero) ws h = let z : ⊥ = omega arith in absurd z
segments_turn n left a b c (suc (suc k)) ws h = refl

segments_short : (n left : ℕ) (ws : List ℕ) → length ws < 4 → ok_segments (suc n) left ws ≡ false
unfolding ok_segments read_segments
segments_short n left [] h = refl
segments_short n left (a ∷ []) h = refl
segments_short n left (a ∷ b ∷ []) h = refl
segments_short n left (a ∷ b ∷ c ∷ []) h = refl
segments_short n left (a ∷ b ∷ c ∷ d ∷ ws) h = let z : ⊥ = omega arith in absurd z

-- ---- over the words from `at` on: i routes of `routes` have passed, and j segments of the next one
pub record Routing (ws : List ℕ) (routes i at : ℕ) : Type 0 where
  pub inside : at ≤ length ws
  pub rest : ok_routes (routes - i) (drop at ws) ≡ formed (decode ws)

pub record Segmenting (ws : List ℕ) (routes i segments j at : ℕ) : Type 0 where
  pub inside : at ≤ length ws
  pub rest : ok_segments (segments - j) (routes - (i + 1)) (drop at ws) ≡ formed (decode ws)

pub short : (ws : List ℕ) → length ws < 2 → false ≡ formed (decode ws)
unfolding decode read_assignment
short ws h = go ws h
  where
    go : (ws : List ℕ) → length ws < 2 → false ≡ formed (all_of (read_assignment ws))
    go [] h = refl
    go (a ∷ []) h = refl
    go (a ∷ b ∷ ws) h = let z : ⊥ = omega arith in absurd z

pub routing_start : {ws : List ℕ} → 2 ≤ length ws → Routing ws (get_or ws 1 0) 0 2
unfolding decode ok_routes read_assignment read_routes
routing_start {ws} h = record { inside = h; rest = let e : get_or ws 1 0 - 0 ≡ get_or ws 1 0 = omega arith in rw e (go ws h) }
  where
    go : (ws : List ℕ) → 2 ≤ length ws → formed (all_of (read_routes (get_or ws 1 0) (drop 2 ws))) ≡ formed (all_of (read_assignment ws))
    go [] h = let z : ⊥ = omega arith in absurd z
    go (a ∷ []) h = let z : ⊥ = omega arith in absurd z
    go (a ∷ b ∷ ws) h = sym (done_family a (read_routes b ws))

ends : (ws : List ℕ) (at : ℕ) → at ≤ length ws → ok_routes 0 (drop at ws) ≡ eqb at (length ws)
unfolding ok_routes read_routes
ends ws at h = ⊎_elim
    (λ e. let d : drop at ws ≡ [] = drop_of_length-le ws {i = at} (omega arith) in rw (d, eq-eqb at (length ws) e))
    (λ l. rw (drop-cons ws at 0 l, ne_eqb at (length ws) (omega arith)))
    (eq-or-lt_of_le h)

four : (ws : List ℕ) (at : ℕ) → at + 4 ≤ length ws → drop at ws ≡ get_or ws at 0 ∷ get_or ws (at + 1) 0 ∷ get_or ws (at + 2) 0 ∷ get_or ws (at + 3) 0 ∷ drop (at + 4) ws
four ws at h = rw (add-one, add-two, add-three, add-four) (drop-cons ws at 0 (omega arith) ∙ ap (λ (t : List ℕ). get_or ws at 0 ∷ t)
    (drop-cons ws (suc at) 0 (omega arith) ∙ ap (λ (t : List ℕ). get_or ws (suc at) 0 ∷ t)
    (drop-cons ws (suc (suc at)) 0 (omega arith) ∙ ap (λ (t : List ℕ). get_or ws (suc (suc at)) 0 ∷ t) (drop-cons ws (suc (suc (suc at))) 0 (omega arith)))))

module _ {ws : List ℕ} {routes i at : ℕ} (p : Routing ws routes i at) where
  pub routing_short : i < routes → length ws ≤ at → false ≡ formed (decode ws)
  unfolding ok_routes read_routes
  routing_short l h =
      let d : drop at ws ≡ [] = drop_of_length-le ws {i = at} h in
      let e : routes - i ≡ suc (routes - (i + 1)) = omega arith in
      rw (d, e) at p.rest

  pub routing_next : i < routes → at < length ws → Segmenting ws routes i (get_or ws at 0) 0 (at + 1)
  unfolding ok_routes ok_segments read_routes
  routing_next l h =
      let e : routes - i ≡ suc (routes - (i + 1)) = omega arith in
      let z : get_or ws at 0 - 0 ≡ get_or ws at 0 = omega arith in
      let f : ok_routes (routes - i) (drop at ws) ≡ ok_segments (get_or ws at 0) (routes - (i + 1)) (drop (at + 1) ws) = ap₂ ok_routes e (drop-cons ws at 0 h) ∙ simp add-one in
      record { inside = omega arith; rest = rw z (sym f ∙ p.rest) }

  pub routing_end : routes ≤ i → eqb at (length ws) ≡ formed (decode ws)
  unfolding ok_routes read_routes
  routing_end h =
      let e : routes - i ≡ 0 = omega arith in
      sym (ap (λ (n : ℕ). ok_routes n (drop at ws)) e ∙ ends ws at p.inside) ∙ p.rest

module _ {ws : List ℕ} {routes i segments j at : ℕ} (p : Segmenting ws routes i segments j at) where
  pub segments_end : segments ≤ j → Routing ws routes (i + 1) at
  segments_end h =
      let e : segments - j ≡ 0 = omega arith in
      record { inside = p.inside; rest = sym (ap (λ (n : ℕ). ok_segments n (routes - (i + 1)) (drop at ws)) e ∙ segments_none (routes - (i + 1)) (drop at ws)) ∙ p.rest }

  module _ (l : j < segments) where
    more : segments - j ≡ suc (segments - (j + 1))
    more = omega arith

    pub segments_few : length ws - at < 4 → false ≡ formed (decode ws)
    segments_few h =
        sym (ap (λ (n : ℕ). ok_segments n (routes - (i + 1)) (drop at ws)) more ∙ segments_short (segments - (j + 1)) (routes - (i + 1)) (drop at ws) (rw length-drop h)) ∙ p.rest

    module _ (h : 4 ≤ length ws - at) where
      stands : ok_segments (segments - j) (routes - (i + 1)) (drop at ws) ≡ ok_segments (suc (segments - (j + 1))) (routes - (i + 1)) (get_or ws at 0 ∷ get_or ws (at + 1) 0 ∷ get_or ws (at + 2) 0 ∷ get_or ws (at + 3) 0 ∷ drop (at + 4) ws)
      stands = ap₂ (λ (n : ℕ) (t : List ℕ). ok_segments n (routes - (i + 1)) t) more (four ws at (omega arith))

      pub segments_bad : 1 < get_or ws (at + 3) 0 → false ≡ formed (decode ws)
      segments_bad d = sym (stands ∙ segments_turn (segments - (j + 1)) (routes - (i + 1)) _ _ _ (get_or ws (at + 3) 0) (drop (at + 4) ws) d) ∙ p.rest

      pub segments_more : get_or ws (at + 3) 0 ≤ 1 → Segmenting ws routes i segments (j + 1) (at + 4)
      segments_more d =
          record {
            inside = omega arith;
            rest = sym (stands ∙ segments_next (segments - (j + 1)) (routes - (i + 1)) _ _ _ (get_or ws (at + 3) 0) (drop (at + 4) ws) d) ∙ p.rest;
          }

pub ruleset scanning = (short, routing_start, routing_short, routing_next, routing_end, segments_end, segments_few, segments_bad, segments_more)
