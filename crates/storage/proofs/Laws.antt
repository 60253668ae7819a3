-- Laws of bytes that the proofs cite.
use Prim.Native.Nat.{ℕ, zero, suc, ◌+◌, ◌-◌, ◌*◌, ◌/◌, ◌≤◌, ◌<◌}
use native.Mathlib.Nat.{not-suc-le-zero, sub-zero, suc-sub-suc}
use mathlib.Core.Path.{◌≡◌, refl, sym, ap, ◌∙◌}
use mathlib.Core.List.{List, [], ◌∷◌}
use native.Mathlib.Numerals.{add-one}
use native.Mathlib.Omega.{arith}
use lib.ListN.{drop, get_or, length, replicate}
use lib.Seq.{drop-cons, get_or-drop, drop-drop}
use lib.Dec.{eqb}
use Rattle.storage.specs.Bytes.{little, number, part}
use Rattle.ground.specs.Lists.{each}
use Rattle.ground.proofs.ListLaws.{both, place_fits, each_from}
use mathlib.Core.Bool.{Bool, true, false, beq}
use borrow.Author.Tests.{eq-eqb, ne_eqb, eqb-true}
use Rattle.storage.specs.Inner.{Records, Offset}
use Rattle.storage.specs.Records.{padded, port_of, no_port, cut_offset, cut_of, same_turn, stands_at}
use Rattle.storage.specs.Orders.{place_before}
use Rattle.storage.specs.declared.Port.{Port}
use Rattle.std.specs.Int.{from_le_bytes, w64}

-- `drop-cons` at the code's `i + 1`
pub drop_next : (xs : List ℕ) (at : ℕ) → at < length xs → drop at xs ≡ get_or xs at 0 ∷ drop (at + 1) xs
drop_next xs at h = rw (add-one, drop-cons xs at 0)

-- the n bytes from a place on, read one by one
abbrev pub le_at : ℕ → List ℕ → ℕ → ℕ
le_at zero xs at = 0
le_at (suc n) xs at = get_or xs at 0 + 256 * le_at n xs (at + 1)

pub little_at : (n : ℕ) (xs : List ℕ) (at : ℕ) → at + n ≤ length xs → little n (drop at xs) ≡ le_at n xs at
unfolding little
little_at zero xs at h = refl
little_at (suc n) xs at h =
    let lt : at < length xs = omega arith in
    rw (drop_next xs at lt, little_at n xs (at + 1) (omega arith))

pub number_at : (xs : List ℕ) (at r : ℕ) → at + 8 ≤ length xs → r ≡ le_at 8 xs at → r ≡ number (drop at xs)
unfolding number
number_at xs at r h e = e ∙ sym (little_at 8 xs at h)

again : (at n : ℕ) → at + n + 1 ≡ at + (n + 1)
again at n = omega arith

-- eight bytes, read one by one
pub le_bytes : (xs : List ℕ) (at : ℕ) → from_le_bytes w64 (get_or xs at 0 ∷ get_or xs (at + 1) 0 ∷ get_or xs (at + 2) 0 ∷ get_or xs (at + 3) 0 ∷ get_or xs (at + 4) 0 ∷ get_or xs (at + 5) 0 ∷ get_or xs (at + 6) 0 ∷ get_or xs (at + 7) 0 ∷ []) ≡ le_at 8 xs at
le_bytes xs at =
    rw (again at 1, again at 2, again at 3, again at 4, again at 5, again at 6) (omega arith)

pub drop_replicate : (n m : ℕ) → n ≤ m → drop {A = ℕ} n (replicate m 0) ≡ replicate (m - n) 0
drop_replicate zero m h = rw sub-zero
drop_replicate (suc n) zero h = absurd (not-suc-le-zero h)
drop_replicate (suc n) (suc m) h = rw suc-sub-suc (drop_replicate n m (omega arith))

-- the record at a place, from what was read behind it
pub port_read : (xs w : List ℕ) (at k s a b : ℕ) → w ≡ padded (part xs at k) k → s ≡ number (drop (at + k) xs) → a ≡ number (drop (at + k + 8) xs)
    → b ≡ get_or xs (at + k + 16) 0
    → ◌≡◌ {A = Port} (record { word = w; source = s; anchor = a; reverse = eqb b 1 }) (port_of k (drop at xs))
unfolding port_of
port_read xs w at k s a b e f g h =
    let f' : s ≡ number (drop k (drop at xs)) = f ∙ rw (drop-drop k at xs) in
    let e8 : at + k + 8 ≡ at + (k + 8) = omega arith in
    let e16 : at + k + 16 ≡ at + (k + 16) = omega arith in
    let g' : a ≡ number (drop (k + 8) (drop at xs)) = g ∙ rw (drop-drop (k + 8) at xs, e8) in
    let h' : b ≡ get_or (drop at xs) (k + 16) 0 = h ∙ rw (get_or-drop at xs (k + 16) 0, e16) in
    rw (e, f', g', h')

-- single fields of the record at a place
pub anchor_read : (xs : List ℕ) (at k a : ℕ) → a ≡ number (drop (at + k + 8) xs) → a ≡ (port_of k (drop at xs)).anchor
unfolding port_of
anchor_read xs at k a g =
    let e8 : at + k + 8 ≡ at + (k + 8) = omega arith in
    g ∙ rw (drop-drop (k + 8) at xs, e8)

pub source_read : (xs : List ℕ) (at k a : ℕ) → a ≡ number (drop (at + k) xs) → a ≡ (port_of k (drop at xs)).source
unfolding port_of
source_read xs at k a g = g ∙ rw (drop-drop k at xs)

pub reverse_read : (xs : List ℕ) (at k : ℕ) → eqb (get_or xs (at + k + 16) 0) 1 ≡ (port_of k (drop at xs)).reverse
unfolding port_of
reverse_read xs at k =
    let e16 : at + k + 16 ≡ at + (k + 16) = omega arith in
    rw (get_or-drop at xs (k + 16) 0, e16)

-- ---- record i of n that stand from base on

module _ (s : List ℕ) (base n k i : ℕ) (stand : Records s base n k) (lt : i < n) where
  pub offset_room : base + i * (k + 17) + (k + 17) ≤ length s
  offset_room = place_fits base n (k + 17) i (length s) lt stand.fits

  pub offset_is : Offset s base n k i (base + i * (k + 17))
  offset_is = record { place = refl; room = offset_room }

module _ (s : List ℕ) (base n k i at : ℕ) (off : Offset s base n k i at) (lt : i < n) where
  record_here : port_of k (drop at s) ≡ get_or (each (port_of k) (k + 17) n (drop base s)) i no_port
  record_here = rw off.place (sym (each_from (port_of k) (k + 17) no_port n s base i lt))

  pub record_is : (p : Port) → p ≡ port_of k (drop at s) → p ≡ get_or (each (port_of k) (k + 17) n (drop base s)) i no_port
  record_is p e = e ∙ record_here

  pub anchor_is : (a : ℕ) → a ≡ (port_of k (drop at s)).anchor → a ≡ (get_or (each (port_of k) (k + 17) n (drop base s)) i no_port).anchor
  anchor_is a e = e ∙ ap (λ (p : Port). p.anchor) record_here

  pub source_is : (a : ℕ) → a ≡ (port_of k (drop at s)).source → a ≡ (get_or (each (port_of k) (k + 17) n (drop base s)) i no_port).source
  source_is a e = e ∙ ap (λ (p : Port). p.source) record_here

  pub before_is : (anchor : ℕ) (reverse r : Bool) → r ≡ place_before anchor reverse (port_of k (drop at s)) → r ≡ place_before anchor reverse (get_or (each (port_of k) (k + 17) n (drop base s)) i no_port)
  before_is anchor reverse r e = e ∙ ap (place_before anchor reverse) record_here

-- record i and the next one
module _ (s : List ℕ) (base n k i at next : ℕ) (here : Offset s base n k i at) (there : Offset s base n k (i + 1) next) (lt : i + 1 < n) (f : Port → Port → Bool) where
  pub pair_is : (r : Bool) → r ≡ f (port_of k (drop at s)) (port_of k (drop next s)) → r ≡ f (get_or (each (port_of k) (k + 17) n (drop base s)) i no_port) (get_or (each (port_of k) (k + 17) n (drop base s)) (i + 1) no_port)
  pair_is r e =
      let lt' : i < n = omega arith in
      e ∙ rw (record_here s base n k i at here lt', record_here s base n k (i + 1) next there lt)

-- ---- cuts

pub offset_reverse : (k : ℕ) (r : Bool) → r ≡ true → k - k / 2 ≡ cut_offset k r
offset_reverse k r e = rw e

pub offset_forward : (k : ℕ) (r : Bool) → r ≡ false → k / 2 ≡ cut_offset k r
offset_forward k r e = rw e

module _ (k cut c : ℕ) (reverse : Bool) (p : Port) (e : c ≡ cut_of p k) where
  pub stands_there : (r : Bool) → c ≡ cut → r ≡ same_turn p.reverse reverse → r ≡ stands_at k cut reverse p
  unfolding stands_at
  stands_there r s t = rw (← e, eq-eqb c cut s) t

  pub stands_not : (c ≡ cut → ⊥) → false ≡ stands_at k cut reverse p
  unfolding stands_at
  stands_not n = rw (← e, ne_eqb c cut n)

pub turns_beq : (a b : Bool) → beq a b ≡ same_turn a b
turns_beq true true = refl
turns_beq true false = refl
turns_beq false true = refl
turns_beq false false = refl

-- a port that has this cut and orientation has the place of one anchor, and the cut is not before its offset
pub stands_place : (k cut : ℕ) (reverse : Bool) (p : Port) → stands_at k cut reverse p ≡ true → (p.anchor + cut_offset k reverse ≡ cut) × (p.reverse ≡ reverse)
unfolding stands_at
stands_place k cut reverse p e =
    let (a, b) = both (eqb (cut_of p k) cut) (same_turn p.reverse reverse) e in
    let same = turns_same p.reverse reverse b in
    let there = eqb-true (cut_of p k) cut a in
    (ap (λ (t : Bool). p.anchor + cut_offset k t) (sym same) ∙ there, same)
  where
    turns_same : (a b : Bool) → same_turn a b ≡ true → a ≡ b
    turns_same true true q = refl
    turns_same true false q = cc
    turns_same false true q = cc
    turns_same false false q = refl
