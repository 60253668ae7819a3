-- Laws of the listing's evaluation.
use Prim.Native.Nat.{ℕ, suc, ◌+◌, ◌-◌, ◌≤◌, ◌<◌}
use native.Mathlib.Numerals.{add-one}
use native.Mathlib.Omega.{arith}
use mathlib.Core.Path.{◌≡◌, refl, sym, ap, ◌∙◌}
use mathlib.Core.Bool.{true, false}
use mathlib.Core.List.{List, [], ◌∷◌, ◌++◌, append_assoc}
use lib.ListN.{length, set, get_or, take, drop, length-append, length-set, length-drop, take-append-drop}
use lib.Seq.{take_at, drop_at, set_at, drop-drop, drop-cons, length-take-le, take-suc}
use borrow.Author.Tests.{le-leb, lt-leb}
use Rattle.evaluate.specs.Segments.{flat}
use Rattle.search.specs.Answers.{fitting}
use Rattle.listing.specs.declared.Listing.{Listing}
use Rattle.listing.specs.Inner.{to_list, lists_from, Handed}

-- ---- copying

-- the first i words are copied to a place
pub record Copying (os ws : List ℕ) (at n : ℕ) (xs : List ℕ) (i : ℕ) : Type 0 where
  pub room : xs ≡ take at os ++ (take i ws ++ drop (at + i) os)
  pub within : i ≤ n
  pub long : length xs ≡ length os

pub copying_start : (os ws : List ℕ) (at n : ℕ) → Copying os ws at n os 0
copying_start os ws at n = let e : at + 0 ≡ at = omega arith in record { room = rw e (sym (take-append-drop at os)); within = omega arith; long = refl }

pub copying_next : (os ws : List ℕ) (at n : ℕ) (xs : List ℕ) (i : ℕ) → Copying os ws at n xs i → i < n → at + n ≤ length os → n ≤ length ws → Copying os ws at n (set xs (at + i) (get_or ws i 0)) (i + 1)
copying_next os ws at n xs i k lt fits few =
    let front : length (take at os) ≡ at = length-take-le at os (omega arith) in
    let middle : length (take i ws) ≡ i = length-take-le i ws (omega arith) in
    let here : length (take at os ++ take i ws) ≡ at + i = length-append (take at os) (take i ws) ∙ rw (front, middle) in
    let cut : drop (at + i) os ≡ get_or os (at + i) 0 ∷ drop (suc (at + i)) os = drop-cons os (at + i) 0 (omega arith) in
    let more : take (suc i) ws ≡ take i ws ++ (get_or ws i 0 ∷ []) = take-suc ws i 0 (omega arith) in
    let past : at + suc i ≡ suc (at + i) = omega arith in
    let shape : xs ≡ (take at os ++ take i ws) ++ (get_or os (at + i) 0 ∷ drop (suc (at + i)) os) = k.room ∙ rw cut (sym (append_assoc (take at os) (take i ws) (get_or os (at + i) 0 ∷ drop (suc (at + i)) os))) in
    let stored : set xs (at + i) (get_or ws i 0) ≡ (take at os ++ take i ws) ++ (get_or ws i 0 ∷ drop (suc (at + i)) os) =
    ap (λ (l : List ℕ). set l (at + i) (get_or ws i 0)) shape ∙ set_at (take at os ++ take i ws) (get_or os (at + i) 0) (drop (suc (at + i)) os) (get_or ws i 0) (at + i) here in
    let regroup : (take at os ++ take i ws) ++ (get_or ws i 0 ∷ drop (suc (at + i)) os) ≡ take at os ++ ((take i ws ++ (get_or ws i 0 ∷ [])) ++ drop (suc (at + i)) os) = simp append_assoc in
    let l = k.long in
    record { room = rw add-one (stored ∙ regroup ∙ rw (more, past)); within = omega arith; long = length-set xs (at + i) (get_or ws i 0) ∙ l }

pub copying_done : (os ws : List ℕ) (at n : ℕ) (xs : List ℕ) (i : ℕ) → Copying os ws at n xs i → n ≤ i → xs ≡ take at os ++ (take n ws ++ drop (at + n) os)
copying_done os ws at n xs i k le = let o = k.within in let e : i ≡ n = omega arith in rw (← e) k.room

-- ---- an evaluation

module _ (ws xs : List ℕ) (l : Listing) (low : l.words ≤ length xs) (few : l.written ≤ l.words) where
  module _ (unfilled : l.full ≡ false) (now-due : l.skip ≤ 0) where
    none : l.skip ≡ 0
    none = omega arith

    lists_none : (t : List (List ℕ)) → length xs - l.words < length ws → lists_from xs l (ws ∷ t) ≡ []
    unfolding fitting
    lists_none t h = rw (unfilled, none, lt-leb (length ws) (length xs - l.words) h)

    pub handed-over : length xs - l.words < length ws → Handed ws xs xs l (record { skip = l.skip; full = true; written = l.written; words = l.words })
    handed-over h = record { room = λ t. rw (lists_none t h); written = λ t. rw (lists_none t h); words = λ t. rw (lists_none t h); long = refl; within = low; few = few }

    module _ (ys : List ℕ) (fits : length ws ≤ length xs - l.words) (some : 0 < length ws) (ey : ys ≡ take l.words xs ++ (ws ++ drop (l.words + length ws) xs)) where
      long_same : length ys ≡ length xs
      long_same =
          let a = length-append (take l.words xs) (ws ++ drop (l.words + length ws) xs) in
          let b = length-append ws (drop (l.words + length ws) xs) in
          let c = length-take-le l.words xs low in
          let d = length-drop (l.words + length ws) xs in
          let e = ap length ey in
          omega arith

      lists_some : (t : List (List ℕ)) → lists_from xs l (ws ∷ t) ≡ ws ∷ fitting (length xs - l.words - length ws) t
      unfolding fitting
      lists_some t = rw (unfilled, none, le-leb (length ws) (length xs - l.words) fits)

      lists_after : (t : List (List ℕ)) → to_list (length ys) l.full l.skip (l.words + length ws) t ≡ fitting (length xs - l.words - length ws) t
      lists_after t = let e : length xs - (l.words + length ws) ≡ length xs - l.words - length ws = omega arith in rw (unfilled, none, long_same, e)

      fill : (f : List ℕ) → take l.words xs ++ ((ws ++ f) ++ drop (l.words + length (ws ++ f)) xs) ≡ take (l.words + length ws) ys ++ (f ++ drop (l.words + length ws + length f) ys)
      fill f =
          let front : length (take l.words xs ++ ws) ≡ l.words + length ws = length-append (take l.words xs) ws ∙ ap (λ (k : ℕ). k + length ws) (length-take-le l.words xs low) in
          let shape : ys ≡ (take l.words xs ++ ws) ++ drop (l.words + length ws) xs = ey ∙ sym (append_assoc (take l.words xs) ws (drop (l.words + length ws) xs)) in
          let first : take (l.words + length ws) ys ≡ take l.words xs ++ ws = rw shape (take_at (take l.words xs ++ ws) (drop (l.words + length ws) xs) (l.words + length ws) front) in
          let rest : drop (l.words + length ws) ys ≡ drop (l.words + length ws) xs = rw shape (drop_at (take l.words xs ++ ws) (drop (l.words + length ws) xs) (l.words + length ws) front) in
          let past : drop (l.words + length ws + length f) ys ≡ drop (l.words + length ws + length f) xs =
          sym (drop-drop (length f) (l.words + length ws) ys) ∙ ap (λ (k : List ℕ). drop (length f) k) rest ∙ drop-drop (length f) (l.words + length ws) xs in
          let size : l.words + length (ws ++ f) ≡ l.words + length ws + length f = (let e = length-append ws f in omega arith) in
          rw (first, past, size) (simp append_assoc)

      pub handed_fits : Handed ws xs ys l (record { skip = l.skip; full = l.full; written = l.written + 1; words = l.words + length ws })
      handed_fits =
          record {
            room = λ t. rw (lists_some t, lists_after t) (fill (flat (fitting (length xs - l.words - length ws) t)));
            written = λ t. rw (lists_some t, lists_after t) (omega arith);
            words = λ t. rw (lists_some t, lists_after t) (let e = length-append ws (flat (fitting (length xs - l.words - length ws) t)) in omega arith);
            long = long_same;
            within = (let e = long_same in omega arith);
            few = omega arith;
          }

-- ---- the same of the first n words of a slot

module _ (slot xs : List ℕ) (l : Listing) (n : ℕ) (enough : n ≤ length slot) (low : l.words ≤ length xs) (few : l.written ≤ l.words) (unfilled : l.full ≡ false) (now-due : l.skip ≤ 0) where
  size : length (take n slot) ≡ n
  size = length-take-le n slot enough

  pub give_over : length xs - l.words < n → Handed (take n slot) xs xs l (record { skip = l.skip; full = true; written = l.written; words = l.words })
  give_over h = handed-over (take n slot) xs l low few unfilled now-due (rw size h)

  pub give_fits : (ys : List ℕ) → n ≤ length xs - l.words → 0 < n → ys ≡ take l.words xs ++ (take n slot ++ drop (l.words + n) xs)
      → Handed (take n slot) xs ys l (record { skip = l.skip; full = l.full; written = l.written + 1; words = l.words + n })
  give_fits ys h some e =
      let e2 : ys ≡ take l.words xs ++ (take n slot ++ drop (l.words + length (take n slot)) xs) = rw size e in
      rw size at (handed_fits (take n slot) xs l low few unfilled now-due ys (rw size h) (rw size some) e2)
