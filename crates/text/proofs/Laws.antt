-- Laws of a text that is put into a room, one piece behind the other.
use Prim.Native.Nat.{ℕ, suc, ◌+◌, ◌-◌, ◌/◌, ◌≤◌, ◌<◌, min}
use native.Mathlib.Omega.{arith}
use native.Mathlib.Nat.{zero-add}
use native.Mathlib.Decide.{dec_lt}
use mathlib.Core.Path.{◌≡◌, refl, sym, ap, ◌∙◌, subst}
use mathlib.Core.List.{List, [], ◌∷◌, ◌++◌, append-nil, append_assoc}
use lib.Dec.{ltb}
use lib.ListN.{length, take, drop, get_or, set, length-append, length-set, length-take, length-drop, drop_of_length-le, take-append-drop}
use lib.Seq.{sets, sets-eq, take_all, length-sets, set_out, drop-cons, drop-set-lt, get_or-set_same}
use Rattle.std.proofs.lemmas.List.{take_more}
use borrow.Author.Tests.{lt-ltb, le-ltb}
use Rattle.ground.specs.Lists.{pick}
use Rattle.evaluate.specs.Check.{over}
use Rattle.search.specs.Sheet.{digits, decimal, field}
use Rattle.words.proofs.Writing.{sets_append}
use Rattle.text.specs.Inner.{Put, last_digit, Digits}

-- ---- bytes that are set one behind the other

sets_out : (vs xs : List ℕ) (i : ℕ) → length xs ≤ i → sets xs i vs ≡ xs
sets_out [] xs i h = refl
sets_out (a ∷ vs) xs i h = rw (set_out xs i a h) (sets_out vs xs (suc i) (omega arith))

-- ---- one piece behind the other

pub put_none : (xs : List ℕ) (at : ℕ) → Put [] xs at xs at
put_none xs at = record { bytes = refl; after = omega arith }

pub put_in : (x : ℕ) (xs : List ℕ) (at : ℕ) → at < length xs → Put (x ∷ []) xs at (set xs at x) (at + 1)
put_in x xs at h = record { bytes = refl; after = omega arith }

pub put_out : (x : ℕ) (xs : List ℕ) (at : ℕ) → length xs ≤ at → Put (x ∷ []) xs at xs at
put_out x xs at h = record { bytes = sym (set_out xs at x h); after = omega arith }

pub put_then : (a b : List ℕ) {xs ys zs : List ℕ} {at n m : ℕ} → Put a xs at ys n → Put b ys n zs m → Put (a ++ b) xs at zs m
put_then a b {xs} {ys} {zs} {at} {n} {m} p q =
    let ly : length ys ≡ length xs = ap length p.bytes ∙ length-sets xs at a in
    let pa = p.after in
    let qa : m ≡ n + min (length b) (length xs - n) = q.after ∙ rw ly in
    let la : length (a ++ b) ≡ length a + length b = length-append a b in
    record { bytes = q.bytes ∙ rw (sets_append a b xs at, ← p.bytes) (same ly pa); after = rw la (omega arith) }
  where
    same : length ys ≡ length xs → n ≡ at + min (length a) (length xs - at) → sets ys n b ≡ sets ys (at + length a) b
    same ly pa = go (dec_lt (length xs) (at + length a))
      where
        go : Dec (length xs < at + length a) → sets ys n b ≡ sets ys (at + length a) b
        go (yes lt) = sets_out b ys n (omega arith) ∙ sym (sets_out b ys (at + length a) (omega arith))
        go (no f) = let e : n ≡ at + length a = omega arith in rw e

-- from the first place on: the text lies over what was there, as far as there is room
pub put_over : {text xs ys : List ℕ} {n : ℕ} → Put text xs 0 ys n → ys ≡ over (take (length xs) text) xs
put_over {text} {xs} {ys} {n} p = p.bytes ∙ cut ∙ laid
  where
    front : List ℕ
    front = take (length xs) text

    laid : sets xs 0 front ≡ over front xs
    laid =
        let k = length-take (length xs) text in
        sets-eq front xs 0 (omega arith) ∙ rw zero-add

    cut : sets xs 0 text ≡ sets xs 0 front
    cut = go (dec_lt (length xs) (length text))
      where
        go : Dec (length xs < length text) → sets xs 0 text ≡ sets xs 0 front
        go (yes lt) =
            let k = length-take (length xs) text in
            let m = length-sets xs 0 front in
            ap (sets xs 0) (sym (take-append-drop (length xs) text)) ∙ sets_append front (drop (length xs) text) xs 0 ∙ sets_out (drop (length xs) text) (sets xs 0 front) (0 + length front) (omega arith)
        go (no f) = ap (sets xs 0) (sym (take_all (length xs) text (omega arith)))

pub put_count : {text xs ys : List ℕ} {n : ℕ} → Put text xs 0 ys n → n ≡ min (length text) (length xs)
put_count p = p.after ∙ (omega arith)

-- what is still to be put, where a text is being put
pub record Onto (text xs : List ℕ) (at : ℕ) (rest ys : List ℕ) (to : ℕ) : Type 0 where
  pub long : length ys ≡ length xs
  pub then : (zs : List ℕ) (m : ℕ) → Put rest ys to zs m → Put text xs at zs m

pub put_length : {text xs ys : List ℕ} {at n : ℕ} → Put text xs at ys n → length ys ≡ length xs
put_length {text} {xs} {ys} {at} {n} p = ap length p.bytes ∙ length-sets xs at text

pub onto_start : (text xs : List ℕ) (at : ℕ) → Onto text xs at text xs at
onto_start text xs at = record { long = refl; then = λ zs m h. h }

pub onto_piece : {text xs ys zs : List ℕ} {at to m : ℕ} (a rest : List ℕ) → Onto text xs at (a ++ rest) ys to → Put a ys to zs m → Onto text xs at rest zs m
onto_piece a rest o p = record { long = put_length p ∙ o.long; then = λ us k h. o.then us k (put_then a rest p h) }

pub onto_end : {text xs ys : List ℕ} {at to : ℕ} → Onto text xs at [] ys to → Put text xs at ys to
onto_end {text} {xs} {ys} {at} {to} o = o.then ys to (put_none ys to)

-- the first bytes of a text, and one more; and all of them
pub put_next : (ts : List ℕ) (i : ℕ) {xs ys zs : List ℕ} {at to m : ℕ} → i < length ts → Put (take i ts) xs at ys to → Put (get_or ts i 0 ∷ []) ys to zs m → Put (take (i + 1) ts) xs at zs m
put_next ts i h p q = rw (take_more ts i 0 h) (put_then (take i ts) (get_or ts i 0 ∷ []) p q)

pub put_all : (ts : List ℕ) (i : ℕ) {xs ys : List ℕ} {at to : ℕ} → length ts ≤ i → Put (take i ts) xs at ys to → Put ts xs at ys to
put_all ts i {xs} {ys} {at} {to} h p = subst (λ (l : List ℕ). Put l xs at ys to) (take_all i ts h) p

-- ---- digits

-- the digits that stand from i on, behind those of what is left
pub record Counting (x i rest : ℕ) (ds : List ℕ) : Type 0 where
  pub low : i ≤ 20
  pub long : length ds ≡ 20
  pub said : decimal x ≡ digits i rest ++ drop i ds

pub counting_start : (x : ℕ) (ds : List ℕ) → length ds ≡ 20 → Counting x 20 x ds
counting_start x ds h = record { low = omega arith; long = h; said = sym (rw (drop_of_length-le ds {i = 20} (omega arith)) (append-nil (digits 20 x))) }

module _ {x i rest : ℕ} {ds : List ℕ} (c : Counting x i rest ds) (pos : 0 < i) where
  behind : (y : ℕ) → drop (i - 1) (set ds (i - 1) y) ≡ y ∷ drop i ds
  behind y =
      let n = c.long in
      let m = c.low in
      let lt : i - 1 < length ds = omega arith in
      let lt' : i - 1 < length (set ds (i - 1) y) = rw (length-set ds (i - 1) y) lt in
      let e : suc (i - 1) ≡ i = omega arith in
      drop-cons (set ds (i - 1) y) (i - 1) 0 lt' ∙ rw (get_or-set_same ds (i - 1) y 0 lt, e, drop-set-lt i ds (i - 1) y (omega arith))

  more : (y : ℕ) → digits i rest ≡ pick (ltb rest 10) ((48 + rest) ∷ []) (digits (i - 1) (rest / 10) ++ (last_digit rest ∷ []))
  unfolding digits
  more y = let e : suc (i - 1) ≡ i = omega arith in subst (λ (k : ℕ). digits k rest ≡ pick (ltb rest 10) ((48 + rest) ∷ []) (digits (i - 1) (rest / 10) ++ (last_digit rest ∷ []))) e refl

  pub counting_last : (y : ℕ) → y ≡ last_digit rest → rest < 10 → Digits x (set ds (i - 1) y) (i - 1)
  counting_last y ey h =
      let z : last_digit rest ≡ 48 + rest = omega arith in
      record { said = behind y ∙ rw (c.said, more y, lt-ltb rest 10 h, ey, z); long = length-set ds (i - 1) y ∙ c.long }

  pub counting_next : (y : ℕ) → y ≡ last_digit rest → 10 ≤ rest → Counting x (i - 1) (rest / 10) (set ds (i - 1) y)
  counting_next y ey h =
      record {
        low = (let m = c.low in omega arith);
        long = length-set ds (i - 1) y ∙ c.long;
        said = c.said ∙ rw (more y, le-ltb rest 10 h, behind y, ey) (append_assoc (digits (i - 1) (rest / 10)) (last_digit rest ∷ []) (drop i ds));
      }

pub counting_ends : {x i rest : ℕ} {ds : List ℕ} → Counting x i rest ds → i ≤ 0 → Digits x ds 0
unfolding digits
counting_ends {x} {i} {rest} {ds} c h = let z : i ≡ 0 = omega arith in record { said = rw (c.said, z); long = c.long }

pub number_put : {ds xs ys : List ℕ} {at n x from : ℕ} → Digits x ds from → Put (take (20 - from) (drop from ds)) xs at ys n → Put (decimal x) xs at ys n
number_put {ds} {xs} {ys} {at} {n} {x} {from} d p =
    let m = d.long in
    let e : take (20 - from) (drop from ds) ≡ drop from ds = take_all (20 - from) (drop from ds) (omega (arith, length-drop from ds)) in
    subst (λ (l : List ℕ). Put l xs at ys n) (e ∙ d.said) p

-- ---- lines

-- a word and the byte behind it, and what follows them
pub word_then : (w rest : List ℕ) (b : ℕ) {xs ys zs : List ℕ} {at n m : ℕ} → Put (w ++ (b ∷ [])) xs at ys n → Put rest ys n zs m → Put (w ++ (b ∷ rest)) xs at zs m
word_then w rest b {xs} {ys} {zs} {at} {n} {m} p q = subst (λ (l : List ℕ). Put l xs at zs m) (append_assoc w (b ∷ []) rest) (put_then (w ++ (b ∷ [])) rest p q)

pub field_put : (name : List ℕ) (x : ℕ) {xs ys zs : List ℕ} {at n m : ℕ} → Put (name ++ (32 ∷ [])) xs at ys n → Put (decimal x ++ (10 ∷ [])) ys n zs m → Put (field name x) xs at zs m
field_put name x p q = word_then name (decimal x ++ (10 ∷ [])) 32 p q
