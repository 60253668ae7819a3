-- How long the text of an assignment is that the check accepts: 25 bytes for each of its words suffice.
use Prim.Native.Nat.{ℕ, zero, suc, ◌+◌, ◌*◌, ◌/◌, ◌%◌, ◌^◌, ◌≤◌, ◌<◌}
use native.Mathlib.Omega.{arith}
use native.Mathlib.Nat.{pow-suc}
use mathlib.Core.Path.{◌≡◌, refl}
use mathlib.Core.Bool.{Bool, true, false}
use mathlib.Core.List.{List, [], ◌∷◌, ◌++◌}
use lib.Dec.{ltb}
use lib.ListN.{length, length-append}
use borrow.Author.Tests.{ltb-false}
use Rattle.ground.specs.Lists.{pick}
use Rattle.evaluate.specs.declared.Segment.{Segment}
use Rattle.evaluate.specs.Properties.{Each}
use Rattle.evaluate.specs.Segments.{Route}
use Rattle.evaluate.specs.Words.{segment_words, route_words}
use Rattle.words.proofs.Writing.{segment_words_length}
use Rattle.search.specs.Sheet.{digits}
use Rattle.names.specs.Names.{name_at}
use Rattle.rows.specs.Rows.{row_text}
use Rattle.texts.specs.Bed.{route_text, routes_text}
use Rattle.bed.proofs.Writing.{row_bytes}

-- a number below 10^(k + 1) has at most k + 1 digits
digits_low : (k n x : ℕ) → x < 10 ^ suc k → length (digits n x) ≤ suc k
unfolding digits
digits_low k zero x h = omega arith
digits_low zero (suc n) x h = go (ltb x 10) refl
  where
    go : (b : Bool) → ltb x 10 ≡ b → length (pick b ((48 + x) ∷ []) (digits n (x / 10) ++ ((48 + x % 10) ∷ []))) ≤ 1
    go true e = omega arith
    go false e = let q = ltb-false x 10 e in let p : 10 ^ 1 ≡ 10 = refl in let z : ⊥ = omega (arith, h, p, q) in absurd z
digits_low (suc k) (suc n) x h = go (ltb x 10) (digits_low k n (x / 10) less)
  where
    p : 10 ^ suc (suc k) ≡ 10 ^ suc k * 10
    p = pow-suc 10 (suc k)

    less : x / 10 < 10 ^ suc k
    less = omega (arith, h, p)

    go : (b : Bool) → length (digits n (x / 10)) ≤ suc k → length (pick b ((48 + x) ∷ []) (digits n (x / 10) ++ ((48 + x % 10) ∷ []))) ≤ suc (suc k)
    go true l = omega arith
    go false l = let a = length-append (digits n (x / 10)) ((48 + x % 10) ∷ []) in omega arith

ten : 10 ^ 10 ≡ 10000000000
ten = refl

five : 10 ^ 5 ≡ 100000
five = refl

-- a segment of an accepted assignment, as far as its line's length goes
pub record Slight (ns : List (List ℕ)) (s : Segment) : Type 0 where
  pub name : length (name_at ns s.source) ≤ 64
  pub start : s.start ≤ 4294967295
  pub end : s.end ≤ 4294967295

row_slight : (ns : List (List ℕ)) (k : ℕ) (s : Segment) → k < 65536 → Slight ns s → length (row_text ns k s ++ (10 ∷ [])) ≤ 98
row_slight ns k s few h =
    let e = row_bytes ns k s in
    let n = h.name in
    let u = h.start in
    let v = h.end in
    let a = digits_low 9 20 s.start (rw ten (omega arith)) in
    let b = digits_low 9 20 s.end (rw ten (omega arith)) in
    let c = digits_low 4 20 k (rw five (omega arith)) in
    omega arith

route_slight : (ns : List (List ℕ)) (k : ℕ) (r : Route) → k < 65536 → Each (Slight ns) r → length (route_text ns k r) ≤ 98 * length r
unfolding route_text
route_slight ns k [] few h = omega arith
route_slight ns k (s ∷ r) few h =
    let a = row_slight ns k s few h.0 in
    let b = route_slight ns k r few h.1 in
    let c = length-append (row_text ns k s) (10 ∷ []) in
    let d = length-append (row_text ns k s) (10 ∷ route_text ns k r) in
    omega arith

pub routes_slight : (ns : List (List ℕ)) (k : ℕ) (rs : List Route) → k + length rs ≤ 65536 → Each (Each (Slight ns)) rs → length (routes_text ns k rs) ≤ 25 * length (route_words rs)
unfolding routes_text
routes_slight ns k [] few h = omega arith
routes_slight ns k (r ∷ rs) few h =
    let a = route_slight ns k r (omega arith) h.0 in
    let b = routes_slight ns (suc k) rs (omega arith) h.1 in
    let c = segment_words_length r in
    let d = length-append (segment_words r) (route_words rs) in
    let e = length-append (route_text ns k r) (routes_text ns (suc k) rs) in
    omega arith
