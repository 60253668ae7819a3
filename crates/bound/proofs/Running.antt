-- No bound is given exactly when the running bound stops being finite; and all that a reply says.
use mathlib.Core.Path.{◌≡◌, refl, sym, ap, ◌∙◌, subst}
use mathlib.Core.Logic.{◌⊎◌, inl, inr}
use Prim.Native.Nat.{ℕ, zero, suc, ◌≤◌}
use native.Mathlib.Nat.{suc-ne-zero, suc-le-suc_iff, le_of_suc-le-suc, zero-lt-suc}
use mathlib.Core.Bool.{Bool, true, false, cond, true≢false}
use mathlib.Core.List.{List, [], ◌∷◌}
use lib.ListN.{length, take}
use lib.Ieee.{Float}
use lib.Ieee.Scale.{finite}
use Rattle.bound.specs.declared.BoundReply.{BoundReply}
use Rattle.bound.specs.Bound.{after, zero64, some, no_bound, bound_from, in_range, lower_bound}
use Rattle.bound.specs.Bounded.{running, Stops, BoundHolds}
use Rattle.bound.proofs.Theorem.{bound_below}

-- as Stops, from any running bound
abbrev StopsFrom : Float → Float → List ℕ → Type 0
StopsFrom background bound counts = (i : ℕ) × (i ≤ length counts) × (finite (running background bound (take i counts)) ≡ false)

module _ (background : Float) where
  none_stops : (counts : List ℕ) (bound : Float) → (bound_from background bound counts).given ≡ 0 → StopsFrom background bound counts
  unfolding bound_from running
  none_stops [] bound q = absurd (suc-ne-zero 0 q)
  none_stops (c ∷ counts) bound q = go (finite (after background bound c)) refl (none_stops counts (after background bound c)) q
    where
      go : (b : Bool) → b ≡ finite (after background bound c) → ((bound_from background (after background bound c) counts).given ≡ 0 → StopsFrom background (after background bound c) counts)
          → (cond b (bound_from background (after background bound c) counts) (no_bound 0)).given ≡ 0 → StopsFrom background bound (c ∷ counts)
      go true e r q = let s = r q in (suc s.0, suc-le-suc_iff.1 s.1, s.2)
      go false e r q = (1, zero-lt-suc (length counts), sym e)

  stops_none : (counts : List ℕ) (bound : Float) → finite bound ≡ true → (i : ℕ) → i ≤ length counts → finite (running background bound (take i counts)) ≡ false → (bound_from background bound counts).given ≡ 0
  unfolding bound_from running
  stops_none [] bound f zero h q = absurd (true≢false (sym f ∙ q))
  stops_none [] bound f (suc i) h q = absurd (true≢false (sym f ∙ q))
  stops_none (c ∷ counts) bound f zero h q = absurd (true≢false (sym f ∙ q))
  stops_none (c ∷ counts) bound f (suc i) h q = go (finite (after background bound c)) refl (λ (k : finite (after background bound c) ≡ true). stops_none counts (after background bound c) k i (le_of_suc-le-suc h) q)
    where
      go : (b : Bool) → finite (after background bound c) ≡ b → (finite (after background bound c) ≡ true → (bound_from background (after background bound c) counts).given ≡ 0)
          → (cond b (bound_from background (after background bound c) counts) (no_bound 0)).given ≡ 0
      go true e r = r e
      go false e r = refl

  -- no bound, or the running bound after all counts
  from_passes : (counts : List ℕ) (bound : Float) → (bound_from background bound counts ≡ no_bound 0) ⊎ (bound_from background bound counts ≡ some (running background bound counts))
  unfolding bound_from running
  from_passes [] bound = inr refl
  from_passes (c ∷ counts) bound = go (finite (after background bound c)) (from_passes counts (after background bound c))
    where
      rest : BoundReply
      rest = bound_from background (after background bound c) counts

      last : BoundReply
      last = some (running background (after background bound c) counts)

      go : (b : Bool) → (rest ≡ no_bound 0) ⊎ (rest ≡ last) → (cond b rest (no_bound 0) ≡ no_bound 0) ⊎ (cond b rest (no_bound 0) ≡ last)
      go true r = r
      go false r = inl refl

-- a reply that is no bound or some bound is no bound where its word says so
ungiven : (r : BoundReply) (x : Float) → (r ≡ no_bound 0) ⊎ (r ≡ some x) → r.given ≡ 0 → r ≡ no_bound 0
ungiven r x (inl e) q = e
ungiven r x (inr e) q = absurd (suc-ne-zero 0 (sym (ap (λ (z : BoundReply). z.given) e) ∙ q))

holds : (counts : List ℕ) (background : Float) → BoundHolds counts background (lower_bound counts background)
unfolding lower_bound
holds counts background = record {
  refused = λ (h : in_range counts background ≡ false). rw h;
  passed = λ (h : in_range counts background ≡ true). rw h (from_passes background counts zero64);
  none = λ (h : in_range counts background ≡ true). rw h (
    λ (e : all ≡ no_bound 0). none_stops background counts zero64 (ap (λ (z : BoundReply). z.given) e),
    λ (s : Stops background counts). ungiven all (running background zero64 counts) (from_passes background counts zero64) (stops_none background counts zero64 refl s.0 s.1 s.2),
  );
  empty = λ (h : in_range counts background ≡ true) (e : counts ≡ []). rw h (subst (λ (l : List ℕ). bound_from background zero64 l ≡ some zero64) (sym e) (unfold bound_from in refl));
  below = bound_below counts background;
}
  where
    all : BoundReply
    all = bound_from background zero64 counts

-- so of any reply that is the definition's
pub bound_holds : (counts : List ℕ) (background : Float) (r : BoundReply) → r ≡ lower_bound counts background → BoundHolds counts background r
bound_holds counts background r q = subst (λ (z : BoundReply). BoundHolds counts background z) (sym q) (holds counts background)
