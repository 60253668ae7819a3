-- Words that are well formed, read in place, are the assignment that they say.
use Prim.Native.Nat.{ℕ, zero, suc, ◌+◌, ◌*◌, ◌-◌, ◌≤◌, ◌<◌}
use native.Mathlib.Omega.{arith}
use mathlib.Core.Path.{◌≡◌, refl, sym, ap, ap₂, ◌∙◌, subst}
use mathlib.Core.Bool.{Bool, true, false}
use mathlib.Core.List.{List, [], ◌∷◌}
use lib.Dec.{eqb}
use lib.ListN.{length, drop, get_or, length-drop}
use lib.Seq.{drop-drop, get_or-drop}
use Rattle.ground.specs.Lists.{each}
use Rattle.evaluate.specs.Segments.{Route, Assignment}
use Rattle.evaluate.specs.Words.{Read, malformed, got, before, turned, read_segments, then_routes, read_routes, of_family, read_assignment, all_of, decode}
use Rattle.words.specs.Inner.{segment_of, segments_of, routes_of, assignment_of, UsedUp, Parsed, formed, Formed}

-- ---- segments

pub segment_read : (ws : List ℕ) (at a b c : ℕ) (r : Bool) → a ≡ get_or ws at 0 → b ≡ get_or ws (at + 1) 0 → c ≡ get_or ws (at + 2) 0 → r ≡ eqb (get_or ws (at + 3) 0) 1
    → record { source = a; start = b; end = c; reverse = r } ≡ segment_of (drop at ws)
unfolding segment_of
segment_read ws at a b c r e f g h =
    let z : at + 0 ≡ at = omega arith in
    rw (e, f, g, h, get_or-drop at ws 0 0, get_or-drop at ws 1 0, get_or-drop at ws 2 0, get_or-drop at ws 3 0, z)

pub segments_none : (ws : List ℕ) (at n : ℕ) → n ≤ 0 → segments_of n (drop at ws) ≡ []
unfolding segments_of each
segments_none ws at zero h = refl
segments_none ws at (suc n) h = let z : ⊥ = omega arith in absurd z

pub segments_next : (ws : List ℕ) (at n : ℕ) → 0 < n → segments_of n (drop at ws) ≡ segment_of (drop at ws) ∷ segments_of (n - 1) (drop (at + 4) ws)
unfolding segments_of each
segments_next ws at zero h = let z : ⊥ = omega arith in absurd z
segments_next ws at (suc n) h = let e : suc n - 1 ≡ n = omega arith in rw (e, drop-drop 4 at ws)

-- ---- routes

pub routes_none : (ws : List ℕ) (n : ℕ) → n ≤ 0 → routes_of n ws ≡ []
unfolding routes_of
routes_none ws zero h = refl
routes_none ws (suc n) h = let z : ⊥ = omega arith in absurd z

first_at : (ws : List ℕ) (at : ℕ) → get_or (drop at ws) 0 0 ≡ get_or ws at 0
first_at ws at = let z : at + 0 ≡ at = omega arith in get_or-drop at ws 0 0 ∙ rw z

past : (ws : List ℕ) (at k : ℕ) → k ≡ get_or ws at 0 → drop (1 + 4 * get_or (drop at ws) 0 0) (drop at ws) ≡ drop (at + 1 + 4 * k) ws
past ws at k e =
    let f : get_or (drop at ws) 0 0 ≡ k = first_at ws at ∙ sym e in
    let q : at + (1 + 4 * k) ≡ at + 1 + 4 * k = omega arith in
    rw f (drop-drop (1 + 4 * k) at ws ∙ rw q)

pub routes_next : (ws : List ℕ) (at n k : ℕ) → 0 < n → k ≡ get_or ws at 0 → routes_of n (drop at ws) ≡ segments_of k (drop (at + 1) ws) ∷ routes_of (n - 1) (drop (at + 1 + 4 * k) ws)
unfolding routes_of
routes_next ws at zero k h e = let z : ⊥ = omega arith in absurd z
routes_next ws at (suc n) k h e =
    let m : suc n - 1 ≡ n = omega arith in
    let f : get_or (drop at ws) 0 0 ≡ k = first_at ws at ∙ sym e in
    rw (m, past ws at k e, f, drop-drop 1 at ws)

used_next : (ws : List ℕ) (at n k : ℕ) → 0 < n → k ≡ get_or ws at 0 → UsedUp n (drop at ws) → (1 + 4 * k ≤ length (drop at ws)) × UsedUp (n - 1) (drop (at + 1 + 4 * k) ws)
unfolding UsedUp
used_next ws at zero k h e u = let z : ⊥ = omega arith in absurd z
used_next ws at (suc n) k h e u =
    let m : suc n - 1 ≡ n = omega arith in
    let f : get_or (drop at ws) 0 0 ≡ k = first_at ws at ∙ sym e in
    (subst (λ (x : ℕ). 1 + 4 * x ≤ length (drop at ws)) f u.0, rw m (subst (λ (l : List ℕ). UsedUp n l) (past ws at k e) u.1))

module _ {ws : List ℕ} {n at k : ℕ} where
  pub parsed_inside : Parsed ws n at → 0 < n → k ≡ get_or ws at 0 → at + 1 + 4 * k ≤ length ws
  parsed_inside p h e =
      let u : 1 + 4 * k ≤ length ws - at = rw (← length-drop at ws) (used_next ws at n k h e p.all).0 in
      omega (arith, p.inside)

  pub parsed_next : Parsed ws n at → 0 < n → k ≡ get_or ws at 0 → Parsed ws (n - 1) (at + 1 + 4 * k)
  parsed_next p h e = record { inside = parsed_inside p h e; all = (used_next ws at n k h e p.all).1 }

pub parsed_route : {ws : List ℕ} {n at : ℕ} → Parsed ws n at → 0 < n → at + 1 + 4 * get_or ws at 0 ≤ length ws
parsed_route p h = parsed_inside p h refl

-- ---- what was read is what stands there

abbrev Segs : ℕ → List ℕ → Read Route → Type 0
Segs n ws malformed = Unit
Segs n ws (got l us) = (l ≡ segments_of n ws) × (us ≡ drop (4 * n) ws) × (4 * n ≤ length ws)

segs : (n : ℕ) (ws : List ℕ) → Segs n ws (read_segments n ws)
unfolding read_segments segments_of each segment_of
segs zero ws = (refl, refl, omega arith)
segs (suc n) [] = tt
segs (suc n) (a ∷ []) = tt
segs (suc n) (a ∷ b ∷ []) = tt
segs (suc n) (a ∷ b ∷ c ∷ []) = tt
segs (suc n) (a ∷ b ∷ c ∷ d ∷ ws) = go d (read_segments n ws) (segs n ws)
  where
    q : 4 * suc n ≡ suc (suc (suc (suc (4 * n))))
    q = omega arith

    one : (e : ℕ) (l : Route) (us : List ℕ) → Segs n ws (got l us) → (us ≡ drop (4 * suc n) (a ∷ b ∷ c ∷ e ∷ ws)) × (4 * suc n ≤ length (a ∷ b ∷ c ∷ e ∷ ws))
    one e l us h = (rw q h.1, rw q (let z = h.2 in omega arith))

    go : (e : ℕ) (r : Read Route) → Segs n ws r → Segs (suc n) (a ∷ b ∷ c ∷ e ∷ ws) (turned e (λ r. record { source = a; start = b; end = c; reverse = r }) r)
    go zero malformed h = tt
    go zero (got l us) h = (ap (λ (t : Route). record { source = a; start = b; end = c; reverse = false } ∷ t) h.0, (one 0 l us h).0, (one 0 l us h).1)
    go (suc zero) malformed h = tt
    go (suc zero) (got l us) h = (ap (λ (t : Route). record { source = a; start = b; end = c; reverse = true } ∷ t) h.0, (one 1 l us h).0, (one 1 l us h).1)
    go (suc (suc k)) malformed h = tt
    go (suc (suc k)) (got l us) h = tt

abbrev Rts : ℕ → List ℕ → Read (List Route) → Type 0
Rts n ws malformed = Unit
Rts n ws (got rs us) = (rs ≡ routes_of n ws) × (us ≡ [] → UsedUp n ws)

rts : (n : ℕ) (ws : List ℕ) → Rts n ws (read_routes n ws)
unfolding read_routes routes_of UsedUp
rts zero ws = (refl, λ e. e)
rts (suc n) [] = tt
rts (suc n) (k ∷ ws) = go (read_segments k ws) (segs k ws) (λ us. rts n us)
  where
    q : 1 + 4 * k ≡ suc (4 * k)
    q = omega arith

    on : (l : Route) (us : List ℕ) → Segs k ws (got l us) → (r : Read (List Route)) → Rts n us r → Rts (suc n) (k ∷ ws) (before l r)
    on l us h malformed e = tt
    on l us h (got rs vs) e =
        (rw (q, ← h.1, ← h.0, ← e.0), λ z. (rw q (let y = h.2 in omega arith), rw q (subst (λ (t : List ℕ). UsedUp n t) h.1 (e.1 z))))

    go : (r : Read Route) → Segs k ws r → ((us : List ℕ) → Rts n us (read_routes n us)) → Rts (suc n) (k ∷ ws) (then_routes r (read_routes n))
    go malformed h f = tt
    go (got l us) h f = on l us h (read_routes n us) (f us)

abbrev Told : List ℕ → Read Assignment → Type 0
Told ws malformed = Unit
Told ws (got a us) = (2 ≤ length ws) × (a ≡ assignment_of ws) × (us ≡ []) × UsedUp (get_or ws 1 0) (drop 2 ws)

told : (ws : List ℕ) → Told ws (decode ws)
unfolding decode read_assignment
told [] = tt
told (f ∷ []) = tt
told (f ∷ n ∷ ws) = go (read_routes n ws) (rts n ws)
  where
    go : (r : Read (List Route)) → Rts n ws r → Told (f ∷ n ∷ ws) (all_of (of_family f r))
    go malformed h = tt
    go (got rs []) h = (omega arith, ap (λ (t : List Route). record { family = f; routes = t }) h.0, refl, h.1 refl)
    go (got rs (u ∷ us)) h = tt

pub formed_told : (ws : List ℕ) (b : Bool) → b ≡ formed (decode ws) → b ≡ true → Formed ws
formed_told ws b e t = go (decode ws) refl (told ws) (sym e ∙ t)
  where
    go : (r : Read Assignment) → decode ws ≡ r → Told ws r → formed r ≡ true → Formed ws
    go malformed q h z = let y : ◌≡◌ {A = ℕ} 0 1 = cc in absurd (omega arith)
    go (got a us) q h z = record { long = h.0; said = q ∙ ap₂ (λ (x : Assignment) (y : List ℕ). got x y) h.1 h.2; parsed = record { inside = h.0; all = h.3 } }
