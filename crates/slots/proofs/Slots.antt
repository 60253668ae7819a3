-- A room of words as slots of v words, and with a list of scores as a list of scored words.
use mathlib.Core.Path.{◌≡◌, refl, ap, ◌∙◌}
use mathlib.Core.Logic.{◌⊎◌, inl, inr, ⊎_elim}
use mathlib.Core.List.{List, [], ◌∷◌, ◌++◌, append_assoc}
use Prim.Native.Nat.{ℕ, zero, suc, ◌+◌, ◌-◌, ◌*◌, ◌≤◌, ◌<◌}
use native.Mathlib.Nat.{suc-mul, zero-mul, mul-le-mul_right, le_trans, not-suc-le-zero, le_of_suc-le-suc}
use native.Mathlib.Omega.{arith}
use lib.ListN.{length, take, drop, get_or, set, length-append, length-drop}
use lib.Seq.{take-add, drop-drop, length-take-le, take_at, drop_at}
use lib.Ieee.{Float, nan}
use Rattle.slots.specs.Inner.{splice, part, slot_at, put_slot, Held, held_in}
use Rattle.slots.proofs.Words.{length_part, length_splice}

-- ---- numbers
pub slot_fits : (i n v l : ℕ) → i < n → n * v ≤ l → i * v + v ≤ l
slot_fits i n v l h k = le_trans (rw suc-mul at (mul-le-mul_right v h)) k

two_ways : (a b : ℕ) → (b ≤ a) ⊎ (a < b)
two_ways a zero = inl (omega arith)
two_ways zero (suc b) = inr (omega arith)
two_ways (suc a) (suc b) = ⊎_elim (λ h. inl (omega arith)) (λ h. inr (omega arith)) (two_ways a b)

-- For the reader: two slots are one, or lie apart
pub slots_apart : (from to v : ℕ) → (to * v ≤ from * v) ⊎ (from * v + v ≤ to * v)
slots_apart from to v = ⊎_elim (λ h. inl (mul-le-mul_right v h)) (λ h. inr (slot_fits from to v (to * v) h (omega arith))) (two_ways from to)

-- ---- a slot, one on
pub length_slot : (v : ℕ) (xs : List ℕ) (i : ℕ) → i * v + v ≤ length xs → length (slot_at v xs i) ≡ v
unfolding slot_at
length_slot v xs i h = length_part (i * v) v xs h

pub length_put : (v : ℕ) (xs : List ℕ) (i : ℕ) (ws : List ℕ) → length ws ≡ v → i * v + v ≤ length xs → length (put_slot v xs i ws) ≡ length xs
unfolding put_slot
length_put v xs i ws e h = length_splice xs (i * v) ws (rw e h)

pub slot_zero : (v : ℕ) (xs : List ℕ) → slot_at v xs 0 ≡ take v xs
unfolding slot_at part
slot_zero v xs = rw zero-mul

pub slot_suc : (v : ℕ) (xs : List ℕ) (i : ℕ) → slot_at v xs (suc i) ≡ slot_at v (drop v xs) i
unfolding slot_at part
slot_suc v xs i =
    let e : suc i * v ≡ v + i * v = rw suc-mul (omega arith) in
    rw (e, drop-drop (i * v) v xs)

pub put_zero : (v : ℕ) (xs ws : List ℕ) → length ws ≡ v → put_slot v xs 0 ws ≡ ws ++ drop v xs
unfolding put_slot splice
put_zero v xs ws e =
    let z : 0 * v + length ws ≡ v = rw (zero-mul, e) (omega arith) in
    rw (z, zero-mul)

pub put_suc : (v : ℕ) (xs : List ℕ) (i : ℕ) (ws : List ℕ) → put_slot v xs (suc i) ws ≡ take v xs ++ put_slot v (drop v xs) i ws
unfolding put_slot splice
put_suc v xs i ws =
    let e : suc i * v ≡ v + i * v = rw suc-mul (omega arith) in
    let f : v + i * v + length ws ≡ v + (i * v + length ws) = omega arith in
    rw (e, f, take-add v (i * v) xs, ← drop-drop (i * v + length ws) v xs) (simp append_assoc)

-- ---- the list of scored words
pub length_held : (v n : ℕ) (xs : List ℕ) (ss : List Float) → length (held_in v n xs ss) ≡ n
unfolding held_in
length_held v zero xs ss = refl
length_held v (suc n) xs ss = ap suc (length_held v n (drop v xs) (drop 1 ss))

pub held_at : (v n i : ℕ) (xs : List ℕ) (ss : List Float) (d : Held) → i < n
    → get_or (held_in v n xs ss) i d ≡ record { words = slot_at v xs i; score = get_or ss i nan }
unfolding held_in
held_at v zero i xs ss d h = absurd (not-suc-le-zero h)
held_at v (suc n) zero xs ss d h = rw slot_zero
held_at v (suc n) (suc i) xs [] d h = rw slot_suc (held_at v n i (drop v xs) [] d (le_of_suc-le-suc h))
held_at v (suc n) (suc i) xs (s ∷ ss) d h = rw slot_suc (held_at v n i (drop v xs) ss d (le_of_suc-le-suc h))

pub held_take : (v k n : ℕ) (xs : List ℕ) (ss : List Float) → k ≤ n → take k (held_in v n xs ss) ≡ held_in v k xs ss
unfolding held_in
held_take v zero n xs ss h = refl
held_take v (suc k) zero xs ss h = absurd (not-suc-le-zero h)
held_take v (suc k) (suc n) xs ss h = ap (λ (l : List Held). record { words = take v xs; score = get_or ss 0 nan } ∷ l) (held_take v k n (drop v xs) (drop 1 ss) (le_of_suc-le-suc h))

-- a slot and its score put
pub held_put : (v n j : ℕ) (xs : List ℕ) (ss : List Float) (ws : List ℕ) (x : Float) → j < n → n * v ≤ length xs → n ≤ length ss → length ws ≡ v
    → held_in v n (put_slot v xs j ws) (set ss j x) ≡ set (held_in v n xs ss) j (record { words = ws; score = x })
unfolding held_in
held_put v zero j xs ss ws x h k l e = absurd (not-suc-le-zero h)
held_put v (suc n) zero xs [] ws x h k l e = absurd (not-suc-le-zero l)
held_put v (suc n) zero xs (s ∷ ss) ws x h k l e = rw (put_zero v xs ws e, take_at ws (drop v xs) v e, drop_at ws (drop v xs) v e)
held_put v (suc n) (suc j) xs [] ws x h k l e = absurd (not-suc-le-zero l)
held_put v (suc n) (suc j) xs (s ∷ ss) ws x h k l e =
    let k' : n * v + v ≤ length xs = rw suc-mul at k in
    let lt : length (take v xs) ≡ v = length-take-le v xs (omega arith) in
    let p : List ℕ = put_slot v (drop v xs) j ws in
    rw (put_suc v xs j ws, take_at (take v xs) p v lt, drop_at (take v xs) p v lt)
    (ap (λ (t : List Held). record { words = take v xs; score = s } ∷ t) (held_put v n j (drop v xs) ss ws x (le_of_suc-le-suc h) (simp length-drop (omega arith)) (le_of_suc-le-suc l) e))

-- words past the slot
pub drop_put : (v n j : ℕ) (xs ws : List ℕ) → j < n → n * v ≤ length xs → length ws ≡ v → drop (n * v) (put_slot v xs j ws) ≡ drop (n * v) xs
unfolding put_slot splice
drop_put v n j xs ws h k e =
    let f : j * v + v ≤ n * v = slot_fits j n v (n * v) h (omega arith) in
    let lp : length (take (j * v) xs ++ ws) ≡ j * v + v = length-append (take (j * v) xs) ws ∙ rw (length-take-le (j * v) xs (omega arith), e) in
    let s : n * v ≡ j * v + v + (n * v - (j * v + v)) = omega arith in
    let q : List ℕ = drop (j * v + v) xs in
    rw (e, ← append_assoc (take (j * v) xs) ws q, s, ← drop-drop (n * v - (j * v + v)) (j * v + v) ((take (j * v) xs ++ ws) ++ q), drop_at (take (j * v) xs ++ ws) q (j * v + v) lp, drop-drop (n * v - (j * v + v)) (j * v + v) xs)
