-- Slots and scores blanked, and what is left of a tied list when its rest is.
use mathlib.Core.Path.{◌≡◌, refl, sym, ap, ap₂, ◌∙◌, subst}
use mathlib.Core.Bool.{Bool, ◌||◌}
use mathlib.Core.List.{List, [], ◌∷◌, ◌++◌, append-nil, append_assoc}
use Prim.Native.Nat.{ℕ, zero, suc, ◌+◌, ◌-◌, ◌*◌, ◌≤◌}
use native.Mathlib.Omega.{arith}
use native.Mathlib.Nat.{add-mul, one-mul, suc-mul}
use lib.ListN.{length, take, drop, replicate, length-drop, length-replicate, replicate-append-replicate, take-append-drop}
use lib.Seq.{drop-drop, take_at, drop_at, length-take-le, drop-append-le, take-append-le}
use lib.Ieee.{Float}
use Rattle.std.specs.List.{list_any, range_with_len}
use Rattle.ground.specs.Lists.{any}
use Rattle.search.specs.Budget.{zero_score}
use Rattle.search.specs.Keep.{has}
use Rattle.slots.specs.Inner.{splice, part, same_words, slot_at, slots_of, Held, same_held, blank, held_in, Beyond, Retained, Blanked, Pruned}
use Rattle.slots.proofs.Words.{length_splice, drop_splice}
use Rattle.slots.proofs.Slots.{length_held, held_take}

pub beyond_none : {v n : ℕ} (xs : List ℕ) (ss : List Float) → Beyond v n xs ss xs ss
beyond_none xs ss = record { longx = refl; longs = refl; restx = refl; rests = refl }

pub beyond_on : {v n : ℕ} {xs ys zs : List ℕ} {ss ts us : List Float} → Beyond v n xs ss ys ts → Beyond v n ys ts zs us → Beyond v n xs ss zs us
beyond_on a b = record { longx = b.longx ∙ a.longx; longs = b.longs ∙ a.longs; restx = b.restx ∙ a.restx; rests = b.rests ∙ a.rests }

-- words and scores cut at a slot
held_join : (v a n : ℕ) (xs ys : List ℕ) (ss ts : List Float) → length xs ≡ a * v → length ss ≡ a → held_in v (a + n) (xs ++ ys) (ss ++ ts) ≡ held_in v a xs ss ++ held_in v n ys ts
unfolding held_in
held_join v zero n [] ys [] ts h k = let e : 0 + n ≡ n = omega arith in rw e
held_join v zero n (x ∷ xs) ys ss ts h k = let z : 0 * v ≡ 0 = omega arith in absurd (let q : suc (length xs) ≡ 0 = h ∙ z in omega arith)
held_join v zero n [] ys (s ∷ ss) ts h k = absurd (omega arith)
held_join v (suc a) n xs ys [] ts h k = absurd (omega arith)
held_join v (suc a) n xs ys (s ∷ ss) ts h k =
    let e : suc a + n ≡ suc (a + n) = omega arith in
    let l : length xs ≡ v + a * v = h ∙ rw suc-mul (omega arith) in
    rw (e, take-append-le v xs ys (omega arith), drop-append-le v xs ys (omega arith))
    (ap (λ (t : List Held). record { words = take v xs; score = s } ∷ t) (held_join v a n (drop v xs) ys ss ts (simp length-drop (omega arith)) (omega arith)))

held_front : (v n : ℕ) (xs : List ℕ) (ss : List Float) → n * v ≤ length xs → n ≤ length ss → held_in v n (take (n * v) xs) (take n ss) ≡ held_in v n xs ss
unfolding held_in
held_front v n xs ss h k =
    let e : n + 0 ≡ n = omega arith in
    let j = held_join v n 0 (take (n * v) xs) (drop (n * v) xs) (take n ss) (drop n ss) (length-take-le (n * v) xs h) (length-take-le n ss k) in
    sym (append-nil (held_in v n (take (n * v) xs) (take n ss))) ∙ sym j ∙ rw (e, take-append-drop (n * v) xs, take-append-drop n ss)

held_zeros : (v n : ℕ) (xs : List ℕ) (ss : List Float) → held_in v n (replicate (n * v) 0 ++ xs) (replicate n zero_score ++ ss) ≡ replicate n (blank v)
unfolding held_in
held_zeros v zero xs ss = refl
held_zeros v (suc n) xs ss =
    let e : suc n * v ≡ v + n * v = rw suc-mul (omega arith) in
    let r : List ℕ = replicate (n * v) 0 ++ xs in
    rw (e, ← replicate-append-replicate {A = ℕ} v (n * v) 0, append_assoc, take_at (replicate v 0) r v (length-replicate v 0), drop_at (replicate v 0) r v (length-replicate v 0))
    (ap (λ (t : List Held). blank v ∷ t) (held_zeros v n xs ss))

pub blanked : {v from n : ℕ} {xs zs : List ℕ} {ss us : List Float} → (from + n) * v ≤ length xs → from + n ≤ length ss
    → zs ≡ splice xs (from * v) (replicate (n * v) 0) → us ≡ splice ss from (replicate n zero_score) → Blanked v from n xs ss zs us
unfolding splice
blanked {v} {from} {n} {xs} {zs} {ss} {us} hx hs ex es =
    let m : (from + n) * v ≡ from * v + n * v = add-mul from n v in
    let lx : length {A = ℕ} (replicate (n * v) 0) ≡ n * v = length-replicate (n * v) 0 in
    let ls : length (replicate n zero_score) ≡ n = length-replicate n zero_score in
    let fx : length (take (from * v) xs) ≡ from * v = length-take-le (from * v) xs (omega arith) in
    let fs : length (take from ss) ≡ from = length-take-le from ss (omega arith) in
    let ws : List ℕ = drop (from * v + n * v) xs in
    let ts : List Float = drop (from + n) ss in
    record {
      beyond = record {
        longx = ap length ex ∙ length_splice xs (from * v) (replicate (n * v) 0) (rw lx (omega arith));
        longs = ap length es ∙ length_splice ss from (replicate n zero_score) (rw ls hs);
        restx = rw (ex, m) (drop_splice xs (from * v) (n * v) (replicate (n * v) 0) lx (omega arith));
        rests = rw es (drop_splice ss from n (replicate n zero_score) ls hs);
      };
      done = rw (ex, es, lx, ls) (held_join v from n (take (from * v) xs) (replicate (n * v) 0 ++ ws) (take from ss) (replicate n zero_score ++ ts) fx fs
          ∙ ap₂ (λ (s t : List Held). s ++ t) (held_front v from xs ss (omega arith) (omega arith)) (held_zeros v n ws ts));
    }

-- ---- what is left when the rest of the tied is blanked
pub pruned : {v n : ℕ} {new w : Float} {xs₀ : List ℕ} {ss₀ : List Float} {xs₁ : List ℕ} {ss₁ : List Float} {xs : List ℕ} {ss : List Float} {r : ℕ}
    → Retained v n new w xs₀ ss₀ xs₁ ss₁ r → Blanked v r (n - r) xs₁ ss₁ xs ss → Pruned v n new w xs₀ ss₀ xs ss r
pruned {v} {n} {new} {w} {xs₀} {ss₀} {xs₁} {ss₁} {xs} {ss} {r} p q =
    let f : r ≤ n = p.few in
    let e : r + (n - r) ≡ n = omega arith in
    let b : Beyond v n xs₁ ss₁ xs ss = subst (λ (t : ℕ). Beyond v t xs₁ ss₁ xs ss) e q.beyond in
    let d : held_in v n xs ss ≡ held_in v r xs₁ ss₁ ++ replicate (n - r) (blank v) = subst (λ (t : ℕ). held_in v t xs ss ≡ held_in v r xs₁ ss₁ ++ replicate (n - r) (blank v)) e q.done in
    let s : held_in v r xs ss ≡ held_in v r xs₁ ss₁ = sym (held_take v r n xs ss f) ∙ ap (take r) d ∙ take_at (held_in v r xs₁ ss₁) (replicate (n - r) (blank v)) r (length_held v r xs₁ ss₁) in
    record {
      few = f;
      tied = s ∙ p.tied;
      rest = d ∙ ap (λ (l : List Held). l ++ replicate (n - r) (blank v)) (sym s);
      beyond = beyond_on p.beyond b;
    }

module _ {v n : ℕ} {new w : Float} {xs₀ : List ℕ} {ss₀ : List Float} {xs : List ℕ} {ss : List Float} {r : ℕ} where
  pub pruned_fits : Retained v n new w xs₀ ss₀ xs ss r → n * v ≤ length xs₀ → (r + (n - r)) * v ≤ length xs
  pruned_fits p h =
      let f : r ≤ n = p.few in
      let e : r + (n - r) ≡ n = omega arith in
      rw (e, p.beyond.longx) h

  pub pruned_scores : Retained v n new w xs₀ ss₀ xs ss r → n ≤ length ss₀ → r + (n - r) ≤ length ss
  pruned_scores p h = omega (arith, p.few, p.beyond.longs)

-- ---- the slots alone
pub has_held : (v n : ℕ) (xs : List ℕ) (ss : List Float) (s : Held) → has same_held s (held_in v n xs ss) ≡ has same_words s.words (slots_of v n xs)
unfolding held_in slots_of any
has_held v zero xs ss s = refl
has_held v (suc n) xs ss s = ap (λ (b : Bool). same_words (take v xs) s.words || b) (has_held v n (drop v xs) (drop 1 ss) s)

-- the slots behind the a-th, one after the other
looked : (v n a : ℕ) (xs ws : List ℕ) → list_any (λ i. same_words (slot_at v xs (i + 1)) ws) (range_with_len a n) ≡ has same_words ws (slots_of v n (drop ((a + 1) * v) xs))
unfolding slots_of slot_at part any
looked v zero a xs ws = refl
looked v (suc n) a xs ws =
    let f : (a + 1 + 1) * v ≡ (a + 1) * v + v = rw (add-mul (a + 1) 1 v, one-mul) in
    rw (drop-drop v ((a + 1) * v) xs, ← f) (ap (λ (b : Bool). same_words (take v (drop ((a + 1) * v) xs)) ws || b) (looked v n (a + 1) xs ws))

pub looked_all : {r : Bool} (v n : ℕ) (xs ws : List ℕ) → r ≡ list_any (λ i. same_words (slot_at v xs (i + 1)) ws) (range_with_len 0 n) → r ≡ has same_words ws (slots_of v n (drop v xs))
looked_all v n xs ws e =
    let f : (0 + 1) * v ≡ v = omega arith in
    e ∙ looked v n 0 xs ws ∙ rw f
