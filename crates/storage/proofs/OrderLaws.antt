-- Laws of the orders: a comparison letter by letter, and that the order of records is one.
use Prim.Native.Nat.{ℕ, ◌+◌, ◌-◌, ◌*◌, ◌≤◌, ◌<◌}
use native.Mathlib.Omega.{arith}
use mathlib.Core.Path.{◌≡◌, refl, sym, ap, ◌∙◌}
use mathlib.Core.Bool.{Bool, true, false, not, cond}
use mathlib.Core.List.{List, [], ◌∷◌, ◌++◌}
use mathlib.Core.Logic.{◌⊎◌, inl, inr}
use lib.Dec.{ltb, eqb}
use lib.ListN.{length, take, drop, replicate, length-drop}
use lib.Seq.{length-take-le}
use borrow.Author.Tests.{lt-ltb, le-ltb, ltb-true, ltb-false, eqb-true, eqb-false}
use Rattle.ground.specs.Lists.{pick}
use Rattle.storage.specs.Records.{padded, port_of}
use Rattle.storage.specs.Orders.{and_then, num_order, flag_order, word_order, port_order, is_less, is_equal, is_greater, record_lt, same_port, turn, place_of, place_lt, place_before, word_below, word_up_to}
use Rattle.storage.specs.declared.Port.{Port}
use Rattle.std.specs.declared.cmp.Ordering.{Ordering}
use Rattle.std.specs.declared.cmp.Ordering.TheVariants.{Less, Equal, Greater}
use Rattle.std.specs.Ordering.{nat_cmp, bool_cmp, ordering_then, is_lt, is_le, is_eq, MatchOrdering}
use Rattle.std.specs.Cmp.Lexicographic.{slice_cmp}

-- ---- numbers

pub num_less : (x y : ℕ) → x < y → Less ≡ num_order x y
num_less x y h = rw (lt-ltb x y h)

pub num_equal : (x y : ℕ) → y ≤ x → x ≤ y → Equal ≡ num_order x y
num_equal x y h g = rw (le-ltb x y h, le-ltb y x g)

-- ---- what the language's comparisons answer

pub num_cmp : (x y : ℕ) → nat_cmp x y ≡ num_order x y
num_cmp x y = go (ltb x y) refl (eqb x y) refl
  where
    go : (t : Bool) → ltb x y ≡ t → (u : Bool) → eqb x y ≡ u → cond (ltb x y) Less (cond (eqb x y) Equal Greater) ≡ pick (ltb x y) Less (pick (ltb y x) Greater Equal)
    go true e u f = rw e
    go false e true f = let same : x ≡ y = eqb-true x y f in let back : ltb y x ≡ false = le-ltb y x (omega arith) in rw (e, f, back)
    go false e false f = let above : y < x = (let n = eqb-false x y f in let m = ltb-false x y e in omega arith) in let back : ltb y x ≡ true = lt-ltb y x above in rw (e, f, back)

pub flag_cmp : (x y : Bool) → bool_cmp x y ≡ flag_order x y
flag_cmp true true = refl
flag_cmp true false = refl
flag_cmp false true = refl
flag_cmp false false = refl

pub then_is : (a b : Ordering) → ordering_then a b ≡ and_then a b
then_is Less b = refl
then_is Equal b = refl
then_is Greater b = refl

-- one order and then another, as `then_with` answers it
pub then_told : (a b r : Ordering) {P : Type 0} → MatchOrdering a (r ≡ Less) P (r ≡ Greater) → (P → r ≡ b) → r ≡ and_then a b
then_told Less b r h f = h
then_told Equal b r h f = f h
then_told Greater b r h f = h

pub lt_is : (o : Ordering) → is_lt o ≡ is_less o
lt_is Less = refl
lt_is Equal = refl
lt_is Greater = refl

pub le_is : (o : Ordering) → is_le o ≡ not (is_greater o)
le_is Less = refl
le_is Equal = refl
le_is Greater = refl

pub eq_is : (o : Ordering) → is_eq o ≡ is_equal o
eq_is Less = refl
eq_is Equal = refl
eq_is Greater = refl

pub word_cmp : (a b : List ℕ) → slice_cmp nat_cmp a b ≡ word_order a b
unfolding word_order
word_cmp [] [] = refl
word_cmp [] (y ∷ b) = refl
word_cmp (x ∷ a) [] = refl
word_cmp (x ∷ a) (y ∷ b) = rw (num_cmp x y, word_cmp a b) (then_is (num_order x y) (word_order a b))

-- ---- padding keeps the order

tails_equal : (z : List ℕ) → word_order z z ≡ Equal
unfolding word_order
tails_equal [] = refl
tails_equal (x ∷ z) = rw (le-ltb x x (omega arith)) (tails_equal z)

same_tail : (a b z : List ℕ) → length a ≡ length b → word_order (a ++ z) (b ++ z) ≡ word_order a b
unfolding word_order
same_tail [] [] z h = tails_equal z
same_tail [] (y ∷ b) z h = let e : ⊥ = omega arith in absurd e
same_tail (x ∷ a) [] z h = let e : ⊥ = omega arith in absurd e
same_tail (x ∷ a) (y ∷ b) z h = ap (and_then (num_order x y)) (same_tail a b z (omega arith))

-- of equal lengths, padded words are in the order of the words
pub padded_order : (a b : List ℕ) (k : ℕ) → length a ≡ k → length b ≡ k → word_order (padded a k) (padded b k) ≡ word_order a b
padded_order a b k la lb = same_tail a b (replicate (32 - k) 0) (la ∙ sym lb)

-- ---- an order by parts is one where each part is

and_less : (a b : Ordering) → and_then a b ≡ Less → (a ≡ Less) ⊎ ((a ≡ Equal) × (b ≡ Less))
and_less Less b e = inl refl
and_less Equal b e = inr (refl, e)
and_less Greater b e = inl e

pub and_equal : (a b : Ordering) → and_then a b ≡ Equal → (a ≡ Equal) × (b ≡ Equal)
and_equal Less b e = (e, cc)
and_equal Equal b e = (refl, e)
and_equal Greater b e = (e, cc)

module _ {A : Type 0} (order : A → A → Ordering) (chain : (x y z : A) → order x y ≡ Less → order y z ≡ Less → order x z ≡ Less)
    (one : (x y : A) → order x y ≡ Equal → x ≡ y) (self : (x : A) → order x x ≡ Equal) where
  lex : (x y z : A) (a b c : Ordering) → (a ≡ Less → b ≡ Less → c ≡ Less) → and_then (order x y) a ≡ Less → and_then (order y z) b ≡ Less → and_then (order x z) c ≡ Less
  lex x y z a b c rest p q = go (and_less (order x y) a p) (and_less (order y z) b q)
    where
      go : (order x y ≡ Less) ⊎ ((order x y ≡ Equal) × (a ≡ Less)) → (order y z ≡ Less) ⊎ ((order y z ≡ Equal) × (b ≡ Less)) → and_then (order x z) c ≡ Less
      go (inl l) (inl m) = rw (chain x y z l m)
      go (inl l) (inr m) = let e : order x z ≡ Less = ap (order x) (sym (one y z m.0)) ∙ l in rw e
      go (inr l) (inl m) = let e : order x z ≡ Less = ap (λ (t : A). order t z) (one x y l.0) ∙ m in rw e
      go (inr l) (inr m) =
          let e : order x z ≡ Equal = ap (λ (t : A). order t z) (one x y l.0 ∙ one y z m.0) ∙ self z in
          rw e (rest l.1 m.1)

then_then : (w s t u : Ordering) → and_then (and_then (and_then w s) t) u ≡ and_then w (and_then s (and_then t u))
then_then Less s t u = refl
then_then Equal Less t u = refl
then_then Equal Equal t u = refl
then_then Equal Greater t u = refl
then_then Greater s t u = refl

pub num_same : (x y : ℕ) → num_order x y ≡ Equal → x ≡ y
num_same x y e = go (ltb x y) (ltb y x) refl refl e
  where
    go : (a b : Bool) → ltb x y ≡ a → ltb y x ≡ b → pick a Less (pick b Greater Equal) ≡ Equal → x ≡ y
    go true b p q h = let z : ◌≡◌ {A = ℕ} 0 1 = cc in absurd (omega arith)
    go false true p q h = let z : ◌≡◌ {A = ℕ} 0 1 = cc in absurd (omega arith)
    go false false p q h = let l = ltb-false x y p in let m = ltb-false y x q in omega arith

num_lt : (x y : ℕ) → num_order x y ≡ Less → x < y
num_lt x y e = go (ltb x y) (ltb y x) refl e
  where
    go : (a b : Bool) → ltb x y ≡ a → pick a Less (pick b Greater Equal) ≡ Less → x < y
    go true b p h = ltb-true x y p
    go false true p h = let z : ◌≡◌ {A = ℕ} 0 1 = cc in absurd (omega arith)
    go false false p h = let z : ◌≡◌ {A = ℕ} 0 1 = cc in absurd (omega arith)

num_gt : (x y : ℕ) → num_order x y ≡ Greater → y < x
num_gt x y e = go (ltb x y) (ltb y x) refl refl e
  where
    go : (a b : Bool) → ltb x y ≡ a → ltb y x ≡ b → pick a Less (pick b Greater Equal) ≡ Greater → y < x
    go true b p q h = let z : ◌≡◌ {A = ℕ} 0 1 = cc in absurd (omega arith)
    go false true p q h = ltb-true y x q
    go false false p q h = let z : ◌≡◌ {A = ℕ} 0 1 = cc in absurd (omega arith)

num_chain : (x y z : ℕ) → num_order x y ≡ Less → num_order y z ≡ Less → num_order x z ≡ Less
num_chain x y z p q = let a = num_lt x y p in let b = num_lt y z q in sym (num_less x z (omega arith))

num_self : (x : ℕ) → num_order x x ≡ Equal
num_self x = sym (num_equal x x (omega arith) (omega arith))

pub flag_same : (x y : Bool) → flag_order x y ≡ Equal → x ≡ y
flag_same true true e = refl
flag_same true false e = cc
flag_same false true e = cc
flag_same false false e = refl

flag_chain : (x y z : Bool) → flag_order x y ≡ Less → flag_order y z ≡ Less → flag_order x z ≡ Less
flag_chain true true z p q = q
flag_chain true false z p q = cc
flag_chain false true true p q = p
flag_chain false true false p q = cc
flag_chain false false z p q = q

flag_self : (x : Bool) → flag_order x x ≡ Equal
flag_self true = refl
flag_self false = refl

pub word_same : (a b : List ℕ) → word_order a b ≡ Equal → a ≡ b
unfolding word_order
word_same [] [] e = refl
word_same [] (y ∷ b) e = let z : ◌≡◌ {A = ℕ} 0 1 = cc in absurd (omega arith)
word_same (x ∷ a) [] e = let z : ◌≡◌ {A = ℕ} 0 1 = cc in absurd (omega arith)
word_same (x ∷ a) (y ∷ b) e =
    let (p, q) = and_equal (num_order x y) (word_order a b) e in
    rw (num_same x y p, word_same a b q)

pub word_chain : (a b c : List ℕ) → word_order a b ≡ Less → word_order b c ≡ Less → word_order a c ≡ Less
unfolding word_order
word_chain [] [] c p q = q
word_chain [] (y ∷ b) [] p q = cc
word_chain [] (y ∷ b) (z ∷ c) p q = refl
word_chain (x ∷ a) [] c p q = cc
word_chain (x ∷ a) (y ∷ b) [] p q = cc
word_chain (x ∷ a) (y ∷ b) (z ∷ c) p q = lex num_order num_chain num_same num_self x y z (word_order a b) (word_order b c) (word_order a c) (word_chain a b c) p q

pub word_self : (a : List ℕ) → word_order a a ≡ Equal
word_self a = tails_equal a

-- ---- records

pub port_chain : (p q r : Port) → port_order p q ≡ Less → port_order q r ≡ Less → port_order p r ≡ Less
unfolding port_order
port_chain p q r =
    lex word_order word_chain word_same word_self p.word q.word r.word _ _ _
    (lex num_order num_chain num_same num_self p.source q.source r.source _ _ _
    (lex num_order num_chain num_same num_self p.anchor q.anchor r.anchor _ _ _
    (flag_chain p.reverse q.reverse r.reverse)))

pub port_self : (p : Port) → port_order p p ≡ Equal
unfolding port_order
port_self p = rw (word_self p.word, num_self p.source, num_self p.anchor) (flag_self p.reverse)

less_of : (o : Ordering) → is_less o ≡ true → o ≡ Less
less_of Less e = refl
less_of Equal e = cc
less_of Greater e = cc

pub equal_of : (o : Ordering) → is_equal o ≡ true → o ≡ Equal
equal_of Less e = cc
equal_of Equal e = refl
equal_of Greater e = cc

pub record_chain : (p q r : Port) → record_lt p q ≡ true → record_lt q r ≡ true → record_lt p r ≡ true
unfolding record_lt
record_chain p q r a b = rw (port_chain p q r (less_of (port_order p q) a) (less_of (port_order q r) b))

-- no record stands before itself
pub record_self : (p : Port) → record_lt p p ≡ false
unfolding record_lt
record_self p = rw (port_self p)

-- what the order calls the same is one record
pub port_same : (p q : Port) → same_port p q ≡ true → p ≡ q
unfolding same_port port_order
port_same p q e =
    let (w, t) = and_equal (word_order p.word q.word) _ (equal_of _ e) in
    let (s, u) = and_equal (num_order p.source q.source) (and_then (num_order p.anchor q.anchor) (flag_order p.reverse q.reverse)) t in
    let (a, f) = and_equal (num_order p.anchor q.anchor) (flag_order p.reverse q.reverse) u in
    let ew = word_same p.word q.word w in
    let es = num_same p.source q.source s in
    let ea = num_same p.anchor q.anchor a in
    let ef = flag_same p.reverse q.reverse f in
    λ i. record { word = ew i; source = es i; anchor = ea i; reverse = ef i }

-- the words of rising records rise too, or stay
words_rise : (p q : Port) → record_lt p q ≡ true → (word_order p.word q.word ≡ Less) ⊎ (p.word ≡ q.word)
unfolding record_lt port_order
words_rise p q e = go (and_less (word_order p.word q.word) _ (less_of _ e))
  where
    go : {o : Ordering} → (word_order p.word q.word ≡ Less) ⊎ ((word_order p.word q.word ≡ Equal) × (o ≡ Less)) → (word_order p.word q.word ≡ Less) ⊎ (p.word ≡ q.word)
    go (inl l) = inl l
    go (inr m) = inr (word_same p.word q.word m.0)

pub below_before : (w : List ℕ) (p q : Port) → record_lt p q ≡ true → word_below w q ≡ true → word_below w p ≡ true
unfolding word_below
below_before w p q e t = go (words_rise p q e)
  where
    low : word_order q.word w ≡ Less
    low = less_of (word_order q.word w) t

    go : (word_order p.word q.word ≡ Less) ⊎ (p.word ≡ q.word) → is_less (word_order p.word w) ≡ true
    go (inl l) = rw (word_chain p.word q.word w l low)
    go (inr s) = rw (s, low)

not_greater : (o : Ordering) → not (is_greater o) ≡ true → (o ≡ Less) ⊎ (o ≡ Equal)
not_greater Less e = inl refl
not_greater Equal e = inr refl
not_greater Greater e = inl cc

pub below_up_to : (w : List ℕ) (p : Port) → word_below w p ≡ true → word_up_to w p ≡ true
unfolding word_below word_up_to
below_up_to w p t = let l = less_of (word_order p.word w) t in rw l

pub up_to_before : (w : List ℕ) (p q : Port) → record_lt p q ≡ true → word_up_to w q ≡ true → word_up_to w p ≡ true
unfolding word_up_to
up_to_before w p q e t = go (words_rise p q e) (not_greater (word_order q.word w) t)
  where
    go : (word_order p.word q.word ≡ Less) ⊎ (p.word ≡ q.word) → (word_order q.word w ≡ Less) ⊎ (word_order q.word w ≡ Equal) → not (is_greater (word_order p.word w)) ≡ true
    go (inl l) (inl m) = rw (word_chain p.word q.word w l m)
    go (inl l) (inr m) = let s : word_order p.word w ≡ Less = ap (word_order p.word) (sym (word_same q.word w m)) ∙ l in rw s
    go (inr s) (inl m) = rw (s, m)
    go (inr s) (inr m) = rw (s, m)

-- ---- places

pub turn_small : (b : Bool) → turn b ≤ 1
turn_small true = omega arith
turn_small false = omega arith

-- a place before another, by anchor and then forward before reverse
module _ (a b : ℕ) (t u : Bool) where
  place_less : a < b → true ≡ ltb (place_of a t) (place_of b u)
  unfolding place_of
  place_less l = sym (lt-ltb (2 * a + turn t) (2 * b + turn u) (omega (arith, turn_small t)))

  place_more : b < a → false ≡ ltb (place_of a t) (place_of b u)
  unfolding place_of
  place_more l = sym (le-ltb (2 * a + turn t) (2 * b + turn u) (omega (arith, turn_small u)))

  module _ (le : b ≤ a) (ge : a ≤ b) where
    place_turned : t ≡ true → false ≡ ltb (place_of a t) (place_of b u)
    unfolding place_of
    place_turned e =
        let f : turn t ≡ 1 = ap turn e in
        sym (le-ltb (2 * a + turn t) (2 * b + turn u) (omega (arith, turn_small u)))

    place_turn : t ≡ false → u ≡ ltb (place_of a t) (place_of b u)
    unfolding place_of
    place_turn e = go u refl
      where
        f : turn t ≡ 0
        f = ap turn e

        go : (v : Bool) → u ≡ v → u ≡ ltb (2 * a + turn t) (2 * b + turn u)
        go true q = let g : turn u ≡ 1 = ap turn q in q ∙ sym (lt-ltb (2 * a + turn t) (2 * b + turn u) (omega (arith, f)))
        go false q = let g : turn u ≡ 0 = ap turn q in q ∙ sym (le-ltb (2 * a + turn t) (2 * b + turn u) (omega (arith, f)))

-- a record whose anchor and orientation were read, before a place
module _ (p : Port) (here anchor : ℕ) (reverse : Bool) (eh : here ≡ p.anchor) where
  pub before_less : Less ≡ nat_cmp here anchor → true ≡ place_before anchor reverse p
  unfolding place_before
  before_less e = let l = num_lt here anchor (sym (e ∙ num_cmp here anchor)) in place_less p.anchor anchor p.reverse reverse (omega arith)

  pub before_more : Greater ≡ nat_cmp here anchor → false ≡ place_before anchor reverse p
  unfolding place_before
  before_more e = let l = num_gt here anchor (sym (e ∙ num_cmp here anchor)) in place_more p.anchor anchor p.reverse reverse (omega arith)

  module _ (e : Equal ≡ nat_cmp here anchor) where
    level : here ≡ anchor
    level = num_same here anchor (sym (e ∙ num_cmp here anchor))

    -- a place that is forward: no record at its anchor stands before it
    pub before_forward : reverse ≡ false → reverse ≡ place_before anchor reverse p
    unfolding place_before
    before_forward f = let l = level in f ∙ forward p.reverse refl
      where
        forward : (t : Bool) → p.reverse ≡ t → false ≡ ltb (place_of p.anchor p.reverse) (place_of anchor reverse)
        forward true g = let l = level in place_turned p.anchor anchor p.reverse reverse (omega arith) (omega arith) g
        forward false g = let l = level in sym f ∙ place_turn p.anchor anchor p.reverse reverse (omega arith) (omega arith) g

    -- one that is reverse: a record at its anchor stands before it that is not reverse
    pub before_reverse : (turned : Bool) → turned ≡ p.reverse → reverse ≡ true → not turned ≡ place_before anchor reverse p
    unfolding place_before
    before_reverse true et f = let l = level in place_turned p.anchor anchor p.reverse reverse (omega arith) (omega arith) (sym et)
    before_reverse false et f = let l = level in sym f ∙ place_turn p.anchor anchor p.reverse reverse (omega arith) (omega arith) (sym et)

-- ---- records compared where they stand

-- the order of two records, from the orders of their parts
module _ (xs : List ℕ) (a b k : ℕ) (ra : a + (k + 17) ≤ length xs) (rb : b + (k + 17) ≤ length xs) where
  pub parts_order : (w s t u : Ordering) → w ≡ word_order (take (length (take k (drop b xs))) (drop a xs)) (take k (drop b xs)) → s ≡ num_order (port_of k (drop a xs)).source (port_of k (drop b xs)).source
      → t ≡ num_order (port_of k (drop a xs)).anchor (port_of k (drop b xs)).anchor → u ≡ flag_order (port_of k (drop a xs)).reverse (port_of k (drop b xs)).reverse
      → and_then (and_then (and_then w s) t) u ≡ port_order (port_of k (drop a xs)) (port_of k (drop b xs))
  unfolding port_order port_of
  parts_order w s t u ew es et eu =
      let la : length (take k (drop a xs)) ≡ k = length-take-le k (drop a xs) (rw length-drop (omega arith)) in
      let lb : length (take k (drop b xs)) ≡ k = length-take-le k (drop b xs) (rw length-drop (omega arith)) in
      let order : w ≡ word_order (take k (drop a xs)) (take k (drop b xs)) = ew ∙ rw lb in
      rw (order, es, et, eu, padded_order (take k (drop a xs)) (take k (drop b xs)) k la lb) (then_then (word_order (take k (drop a xs)) (take k (drop b xs))) (num_order (port_of k (drop a xs)).source (port_of k (drop b xs)).source) (num_order (port_of k (drop a xs)).anchor (port_of k (drop b xs)).anchor) (flag_order (port_of k (drop a xs)).reverse (port_of k (drop b xs)).reverse))

pub less_told : (p q : Port) (o : Ordering) (r : Bool) → o ≡ port_order p q → r ≡ is_lt o → r ≡ record_lt p q
unfolding record_lt
less_told p q o r e f = f ∙ lt_is o ∙ ap is_less e

pub same_told : (p q : Port) (o : Ordering) (r : Bool) → o ≡ port_order p q → r ≡ is_eq o → r ≡ same_port p q
unfolding same_port
same_told p q o r e f = f ∙ eq_is o ∙ ap is_equal e

pub place_told : (p q : Port) (anchor : ℕ) (reverse r : Bool) → anchor ≡ q.anchor → reverse ≡ q.reverse → r ≡ place_before anchor reverse p → r ≡ place_lt p q
unfolding place_before place_lt
place_told p q anchor reverse r ea er f = f ∙ rw (ea, er)
