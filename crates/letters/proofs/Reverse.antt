-- The reverse complement: of a list joined, of its first and its last letters, and letter by letter.
use Prim.Native.Nat.{ℕ, suc, ◌-◌, ◌≤◌, ◌<◌}
use native.Mathlib.Omega.{arith}
use native.Mathlib.Decide.{dec_lt}
use native.Mathlib.Nat.{not-suc-le-zero}
use mathlib.Core.Path.{◌≡◌, refl, sym, ap, ◌∙◌}
use mathlib.Core.Bool.{Bool, true, false}
use mathlib.Core.List.{List, [], ◌∷◌, ◌++◌, map, reverse-cons, append_assoc, append-nil}
use lib.Dec.{eqb}
use lib.ListN.{length, take, drop, get_or, length-append, length-drop, take-append-drop, get_or-append}
use lib.Seq.{take_at, drop_at, get_or_at}
use borrow.Author.Tests.{eq-eqb, ne_eqb}
use Rattle.ground.specs.Lists.{pick}
use Rattle.letters.specs.Letters.{complement, reverse_complement, oriented}

module _ (b f t x : ℕ) where
  pub exchange_same : b ≡ f → t ≡ pick (eqb b f) t x
  exchange_same e = rw (eq-eqb b f e)

  pub exchange_other : (b ≡ f → ⊥) → x ≡ pick (eqb b f) t x
  exchange_other n = rw (ne_eqb b f n)

pub complement_is : (b t g c r : ℕ) → t ≡ pick (eqb b 84) 65 b → g ≡ pick (eqb b 71) 67 t → c ≡ pick (eqb b 67) 71 g → r ≡ pick (eqb b 65) 84 c → r ≡ complement b
unfolding complement
complement_is b t g c r et eg ec er = er ∙ rw (ec, eg, et)

turned_cons : (b : ℕ) (l : List ℕ) → reverse_complement (b ∷ l) ≡ reverse_complement l ++ (complement b ∷ [])
unfolding reverse_complement
turned_cons b l = reverse-cons (complement b) (map complement l)

turned_nil : reverse_complement [] ≡ []
unfolding reverse_complement
turned_nil = refl

pub turned_length : (l : List ℕ) → length (reverse_complement l) ≡ length l
turned_length [] = rw turned_nil
turned_length (b ∷ l) =
    let e = turned_length l in
    rw (turned_cons b l, length-append (reverse_complement l) (complement b ∷ [])) (omega arith)

-- of two joined: the second first
pub turned_append : (l m : List ℕ) → reverse_complement (l ++ m) ≡ reverse_complement m ++ reverse_complement l
turned_append [] m = rw turned_nil (sym (append-nil (reverse_complement m)))
turned_append (b ∷ l) m =
    rw (turned_cons b (l ++ m), turned_cons b l, turned_append l m) (append_assoc (reverse_complement m) (reverse_complement l) (complement b ∷ []))

module _ (l : List ℕ) (n : ℕ) (h : n ≤ length l) where
  halves : reverse_complement l ≡ reverse_complement (drop (length l - n) l) ++ reverse_complement (take (length l - n) l)
  halves = ap reverse_complement (sym (take-append-drop (length l - n) l)) ∙ turned_append (take (length l - n) l) (drop (length l - n) l)

  last : length (reverse_complement (drop (length l - n) l)) ≡ n
  last = turned_length (drop (length l - n) l) ∙ length-drop (length l - n) l ∙ (omega arith)

  -- its first letters are the last ones
  pub turned_take : take n (reverse_complement l) ≡ reverse_complement (drop (length l - n) l)
  turned_take = ap (take n) halves ∙ take_at (reverse_complement (drop (length l - n) l)) (reverse_complement (take (length l - n) l)) n last

  pub turned_drop : drop n (reverse_complement l) ≡ reverse_complement (take (length l - n) l)
  turned_drop = ap (drop n) halves ∙ drop_at (reverse_complement (drop (length l - n) l)) (reverse_complement (take (length l - n) l)) n last

pub turned_at : (l : List ℕ) (i : ℕ) → i < length l → get_or (reverse_complement l) i 0 ≡ complement (get_or l (length l - 1 - i) 0)
turned_at [] i h = absurd (not-suc-le-zero h)
turned_at (b ∷ l) i h = rw (turned_cons b l) (go (dec_lt i (length l)) (λ k. turned_at l i k))
  where
    go : Dec (i < length l) → (i < length l → get_or (reverse_complement l) i 0 ≡ complement (get_or l (length l - 1 - i) 0))
        → get_or (reverse_complement l ++ (complement b ∷ [])) i 0 ≡ complement (get_or (b ∷ l) (suc (length l) - 1 - i) 0)
    go (yes k) ih =
        let n = turned_length l in
        let e : suc (length l) - 1 - i ≡ suc (length l - 1 - i) = omega arith in
        rw e (get_or-append (reverse_complement l) (complement b ∷ []) 0 i (omega arith) ∙ ih k)
    go (no k) ih =
        let n = turned_length l in
        let e : suc (length l) - 1 - i ≡ 0 = omega arith in
        let f : length (reverse_complement l) ≡ i = omega arith in
        rw e (get_or_at (reverse_complement l) (complement b) [] 0 i f)

-- ---- either orientation

pub oriented_length : (r : Bool) (l : List ℕ) → length (oriented r l) ≡ length l
oriented_length true l = turned_length l
oriented_length false l = refl
