-- Compaction in place of a list by a test, and of slots and scores together, as one list.
use mathlib.Core.Path.{◌≡◌, refl, sym, ap, ◌∙◌}
use mathlib.Core.Bool.{Bool, true, false}
use mathlib.Core.List.{List, [], ◌∷◌, ◌++◌, append-nil}
use Prim.Native.Nat.{ℕ, zero, suc, ◌+◌, ◌*◌, ◌≤◌, ◌<◌, zero-le}
use native.Mathlib.Nat.{add-zero, le_of_suc-le-suc, not-suc-le-zero}
use native.Mathlib.Numerals.{add-one}
use native.Mathlib.Omega.{arith}
use lib.ListN.{length, take, drop, get_or, set, length-set}
use lib.Seq.{drop-drop, get_or-drop, take-suc-set, take_all, drop-set-lt}
use lib.Ieee.{Float, nan}
use Rattle.ground.specs.Lists.{keep, cons_if}
use Rattle.search.specs.Keep.{tied_to, ties_to}
use Rattle.slots.specs.Inner.{Held, held_in, slot_at, put_slot, Beyond, Retained}
use Rattle.slots.proofs.Slots.{slot_fits, length_slot, length_put, length_held, held_at, held_take, held_put, drop_put}

-- ---- those of a list that pass a test, kept at its front

keep_next : {A : Type 0} (f : A → Bool) (l : List A) (d : A) (i : ℕ) → i < length l → keep f (take (suc i) l) ≡ keep f (take i l) ++ cons_if (f (get_or l i d)) (get_or l i d) []
unfolding keep
keep_next f [] d i h = absurd (not-suc-le-zero h)
keep_next f (a ∷ l) d zero h = refl
keep_next {A} f (a ∷ l) d (suc i) h = go (f a) (keep_next f l d i (le_of_suc-le-suc h))
  where
    go : (b : Bool) → keep f (take (suc i) l) ≡ keep f (take i l) ++ cons_if (f (get_or l i d)) (get_or l i d) []
        → cons_if b a (keep f (take (suc i) l)) ≡ cons_if b a (keep f (take i l)) ++ cons_if (f (get_or l i d)) (get_or l i d) []
    go true e = ap (λ (t : List A). a ∷ t) e
    go false e = e

-- i of l₀ are done; those of them that pass are the first k of l, and the rest of l is as it was
pub record Packed {A : Type 0} (f : A → Bool) (l₀ l : List A) (k i : ℕ) : Type 0 where
  pub behind : k ≤ i
  pub size : length l ≡ length l₀
  pub front : take k l ≡ keep f (take i l₀)
  pub back : drop i l ≡ drop i l₀

packed_start : {A : Type 0} (f : A → Bool) (l : List A) → Packed f l l 0 0
unfolding keep
packed_start f l = record { behind = zero-le; size = refl; front = refl; back = refl }

module _ {A : Type 0} (f : A → Bool) (l₀ l : List A) (d : A) (k i : ℕ) (h : Packed f l₀ l k i) (li : i < length l₀) where
  same : get_or l i d ≡ get_or l₀ i d
  same = rw (get_or-drop i l 0, get_or-drop i l₀ 0, add-zero) at (ap (λ (x : List A). get_or x 0 d) h.back)

  back_on : drop (i + 1) l ≡ drop (i + 1) l₀
  back_on = sym (drop-drop 1 i l) ∙ ap (λ (x : List A). drop 1 x) h.back ∙ drop-drop 1 i l₀

  next : (b : Bool) → f (get_or l i d) ≡ b → keep f (take i l₀) ++ cons_if b (get_or l i d) [] ≡ keep f (take (i + 1) l₀)
  next b e = rw add-one (sym (keep_next f l₀ d i li ∙ rw (← same, e)))

  packed_skip : f (get_or l i d) ≡ false → Packed f l₀ l k (i + 1)
  packed_skip e =
      record { behind = omega (arith, h.behind); size = h.size; front = h.front ∙ sym (append-nil (keep f (take i l₀))) ∙ next false e; back = back_on }

  packed_keep : f (get_or l i d) ≡ true → Packed f l₀ (set l k (get_or l i d)) (k + 1) (i + 1)
  packed_keep e =
      let kl : k < length l = omega (arith, h.behind, h.size) in
      record {
        behind = omega (arith, h.behind);
        size = length-set l k (get_or l i d) ∙ h.size;
        front = rw (add-one k, take-suc-set l k (get_or l i d) kl) (ap (λ (t : List A). t ++ (get_or l i d ∷ [])) h.front ∙ next true e);
        back = drop-set-lt (i + 1) l k (get_or l i d) (omega (arith, h.behind)) ∙ back_on;
      }

-- ---- slots and scores

abbrev pub tests : Float → Float → Held → Bool
tests new w s = tied_to new w s.score

abbrev none : Held
none = record { words = []; score = nan }

pub record Packing (v n : ℕ) (new w : Float) (xs₀ : List ℕ) (ss₀ : List Float) (xs : List ℕ) (ss : List Float) (k i : ℕ) : Type 0 where
  pub far : i ≤ n
  pub behind : k ≤ i
  pub pack : Packed (tests new w) (held_in v n xs₀ ss₀) (held_in v n xs ss) k i
  pub beyond : Beyond v n xs₀ ss₀ xs ss

pub packing_none : {v n : ℕ} {new w : Float} (xs : List ℕ) (ss : List Float) → Packing v n new w xs ss xs ss 0 0
packing_none xs ss = record { far = omega arith; behind = omega arith; pack = packed_start _ _; beyond = record { longx = refl; longs = refl; restx = refl; rests = refl } }

test_is : (v n : ℕ) (new w : Float) (xs : List ℕ) (ss : List Float) (i : ℕ) → i < n → tests new w (get_or (held_in v n xs ss) i none) ≡ tied_to new w (get_or ss i nan)
test_is v n new w xs ss i l = ap (tests new w) (held_at v n i xs ss none l)

module _ {v n : ℕ} {new w : Float} {xs₀ : List ℕ} {ss₀ : List Float} {xs : List ℕ} {ss : List Float} {k i : ℕ} where
  pub packing_skip : {t : Bool} → Packing v n new w xs₀ ss₀ xs ss k i → i < n → t ≡ tied_to new w (get_or ss i nan) → t ≡ false → Packing v n new w xs₀ ss₀ xs ss k (i + 1)
  packing_skip p l is e =
      record {
        far = omega arith;
        behind = omega (arith, p.behind);
        pack = packed_skip (tests new w) (held_in v n xs₀ ss₀) (held_in v n xs ss) none k i p.pack (rw length_held l) (test_is v n new w xs ss i l ∙ (sym is ∙ e));
        beyond = p.beyond;
      }

  pub packing_keep : {t : Bool} {xs' : List ℕ} → n * v ≤ length xs₀ → n ≤ length ss₀ → Packing v n new w xs₀ ss₀ xs ss k i → i < n → t ≡ tied_to new w (get_or ss i nan) → t ≡ true
      → xs' ≡ put_slot v xs k (slot_at v xs i) → Packing v n new w xs₀ ss₀ xs' (set ss k (get_or ss i nan)) (k + 1) (i + 1)
  packing_keep {xs' = xs'} hx hs p l is e q =
      let b : k ≤ i = p.behind in
      let hx' : n * v ≤ length xs = rw p.beyond.longx hx in
      let hs' : n ≤ length ss = rw p.beyond.longs hs in
      let kn : k < n = omega arith in
      let lw : length (slot_at v xs i) ≡ v = length_slot v xs i (slot_fits i n v (length xs) l hx') in
      let s : held_in v n xs' (set ss k (get_or ss i nan)) ≡ set (held_in v n xs ss) k (get_or (held_in v n xs ss) i none) =
      rw q (held_put v n k xs ss (slot_at v xs i) (get_or ss i nan) kn hx' hs' lw ∙ ap (set (held_in v n xs ss) k) (sym (held_at v n i xs ss none l))) in
      record {
        far = omega arith;
        behind = omega arith;
        pack = rw s (packed_keep (tests new w) (held_in v n xs₀ ss₀) (held_in v n xs ss) none k i p.pack (rw length_held l) (test_is v n new w xs ss i l ∙ (sym is ∙ e)));
        beyond = record {
          longx = rw q (length_put v xs k (slot_at v xs i) lw (slot_fits k n v (length xs) kn hx')) ∙ p.beyond.longx;
          longs = length-set ss k (get_or ss i nan) ∙ p.beyond.longs;
          restx = rw q (drop_put v n k xs (slot_at v xs i) kn hx' lw) ∙ p.beyond.restx;
          rests = drop-set-lt n ss k (get_or ss i nan) kn ∙ p.beyond.rests;
        };
      }

  pub packing_all : Packing v n new w xs₀ ss₀ xs ss k i → n ≤ i → Retained v n new w xs₀ ss₀ xs ss k
  unfolding ties_to
  packing_all p l =
      let f : k ≤ n = omega (arith, p.behind, p.far) in
      let t : take i (held_in v n xs₀ ss₀) ≡ held_in v n xs₀ ss₀ = take_all i (held_in v n xs₀ ss₀) (rw length_held l) in
      record { few = f; tied = sym (held_take v k n xs ss f) ∙ p.pack.front ∙ rw t; beyond = p.beyond }

  pub packing_fits : n * v ≤ length xs₀ → Packing v n new w xs₀ ss₀ xs ss k i → i < n → i * v + v ≤ length xs
  packing_fits h p l = slot_fits i n v (length xs) l (rw p.beyond.longx h)

  pub packing_fits_k : n * v ≤ length xs₀ → Packing v n new w xs₀ ss₀ xs ss k i → i < n → k * v + v ≤ length xs
  packing_fits_k h p l = slot_fits k n v (length xs) (omega (arith, p.behind)) (rw p.beyond.longx h)
