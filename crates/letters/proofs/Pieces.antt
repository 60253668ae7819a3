-- Parts of lists, and the letters of a lane as a part of all letters.
use Prim.Native.Nat.{ℕ, zero, suc, ◌+◌, ◌≤◌, ◌<◌}
use native.Mathlib.Omega.{arith}
use native.Mathlib.Nat.{not-suc-le-zero}
use mathlib.Core.Path.{◌≡◌, refl, sym, ap, ◌∙◌}
use mathlib.Core.Bool.{Bool}
use mathlib.Core.List.{List, [], ◌∷◌, ◌++◌}
use lib.ListN.{length, take, drop, get_or, length-drop, length-map, get_or-map}
use lib.Seq.{drop-drop, take-add, length-take-le, get_or-take, get_or-drop, ext_get_or}
use Rattle.ground.specs.Lists.{split, sum}
use Rattle.ground.proofs.ListLaws.{sum_part_le}
use Rattle.storage.specs.Bytes.{part}
use Rattle.image.specs.Panel.{Panel, no_lane, lane_at}
use Rattle.letters.specs.Letters.{oriented, lengths, length_of, lane_letters, piece}
use Rattle.letters.proofs.Reverse.{oriented_length}

-- ---- parts

pub part_length : (l : List ℕ) (at n : ℕ) → at + n ≤ length l → length (part l at n) ≡ n
part_length l at n h = length-take-le n (drop at l) (rw length-drop (omega arith))

pub part_at : (l : List ℕ) (at n i : ℕ) → i < n → get_or (part l at n) i 0 ≡ get_or l (at + i) 0
part_at l at n i h = rw (get_or-take n (drop at l) i 0 h, get_or-drop at l i 0)

-- a part of a part
pub part_part : (l : List ℕ) (a m b n : ℕ) → b + n ≤ m → a + m ≤ length l → part (part l a m) b n ≡ part l (a + b) n
part_part l a m b n h k =
    ext_get_or 0 (part (part l a m) b n) (part l (a + b) n) (long ∙ sym long') (λ i lt. at i (let q = long in omega arith))
  where
    inner : length (part l a m) ≡ m
    inner = part_length l a m k

    long : length (part (part l a m) b n) ≡ n
    long = let q = inner in part_length (part l a m) b n (omega arith)

    long' : length (part l (a + b) n) ≡ n
    long' = part_length l (a + b) n (omega arith)

    at : (i : ℕ) → i < n → get_or (part (part l a m) b n) i 0 ≡ get_or (part l (a + b) n) i 0
    at i lt =
        let e : a + (b + i) ≡ a + b + i = omega arith in
        part_at (part l a m) b n i lt ∙ part_at l a m (b + i) (omega arith) ∙ rw e (sym (part_at l (a + b) n i lt))

-- two parts one behind the other
pub part_join : (l : List ℕ) (a m n : ℕ) → part l a m ++ part l (a + m) n ≡ part l a (m + n)
part_join l a m n = sym (take-add m n (drop a l) ∙ rw (drop-drop m a l))

-- ---- one of the parts of these lengths
pub split_part : (ns l : List ℕ) (j : ℕ) → j < length ns → get_or (split ns l) j [] ≡ part l (sum (take j ns)) (get_or ns j 0)
unfolding split sum
split_part [] l j h = absurd (not-suc-le-zero h)
split_part (n ∷ ns) l zero h = refl
split_part (n ∷ ns) l (suc j) h = split_part ns (drop n l) j (omega arith) ∙ ap (take (get_or ns j 0)) (drop-drop (sum (take j ns)) n l)

-- ---- the letters of a lane

lanes_long : (p : Panel) → length (lengths p) ≡ length p.lanes
unfolding lengths
lanes_long p = length-map p.lanes length_of

pub length_is : (p : Panel) (lane : ℕ) → get_or (lengths p) lane 0 ≡ (lane_at p lane).len
unfolding lengths
length_is p lane = get_or-map length_of p.lanes lane no_lane

module _ (p : Panel) (d : List ℕ) (total : sum (lengths p) ≡ length d) (lane : ℕ) (known : lane < length p.lanes) where
  pub lane_room : sum (take lane (lengths p)) + (lane_at p lane).len ≤ length d
  lane_room =
      let n = lanes_long p in
      let e = length_is p lane in
      let q = sum_part_le (lengths p) lane (omega arith) in
      omega arith

  pub lane_part : lane_letters p d lane ≡ part d (sum (take lane (lengths p))) (lane_at p lane).len
  unfolding lane_letters
  lane_part = let n = lanes_long p in split_part (lengths p) d lane (omega arith) ∙ rw (length_is p lane)

  pub lane_letters_length : length (lane_letters p d lane) ≡ (lane_at p lane).len
  lane_letters_length = rw lane_part (part_length d (sum (take lane (lengths p))) (lane_at p lane).len lane_room)

  -- a piece of a lane stands among all letters
  pub piece_is : (from n : ℕ) (r : Bool) → from + n ≤ (lane_at p lane).len → piece p d lane from n r ≡ oriented r (part d (sum (take lane (lengths p)) + from) n)
  unfolding piece
  piece_is from n r h = ap (oriented r) (rw lane_part (part_part d (sum (take lane (lengths p))) (lane_at p lane).len from n h lane_room))

  pub piece_length : (from n : ℕ) (r : Bool) → from + n ≤ (lane_at p lane).len → length (piece p d lane from n r) ≡ n
  unfolding piece
  piece_length from n r h = let l = lane_letters_length in oriented_length r (part (lane_letters p d lane) from n) ∙ part_length (lane_letters p d lane) from n (omega arith)
