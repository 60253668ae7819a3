-- Laws of reading a line: one for each way through the code.
use Prim.Native.Nat.{ℕ, ◌+◌, ◌-◌, ◌*◌, ◌≤◌, ◌<◌}
use native.Mathlib.Omega.{arith}
use native.Mathlib.Numerals.{add-one}
use mathlib.Core.Path.{◌≡◌, refl, sym, ◌∙◌, subst}
use Rattle.std.proofs.Common.{Some, None}
use Rattle.std.specs.Bool.{then_some}
use mathlib.Core.Bool.{Bool, true, false, not, ◌&&◌, ◌||◌, true≢false}
use mathlib.Core.List.{List, [], ◌∷◌, ◌++◌, append_assoc}
use lib.Dec.{eqb, ltb}
use lib.ListN.{length, take, drop, get_or, drop_of_length-le}
use lib.Seq.{drop-cons}
use borrow.Author.Tests.{ne_eqb, lt-ltb, le-ltb}
use Rattle.ground.specs.Lists.{all}
use Rattle.search.specs.Sheet.{turn_text, decimal}
use Rattle.evaluate.specs.declared.Segment.{Segment}
use Rattle.text.specs.Inner.{Put}
use Rattle.text.proofs.Laws.{put_then}
use Rattle.names.specs.Names.{same, cut, name_ok, name_at}
use Rattle.names.specs.Inner.{Spans, Cuts}
use Rattle.names.proofs.Laws.{same_equal, same_self, part_is}
use Rattle.names.proofs.Bytes.{same_is}
use Rattle.std.specs.Cmp.Lexicographic.{pointwise}
use Rattle.rows.specs.declared.Row.{Row}
use Rattle.rows.specs.Rows.{digit, value_from, value_of, too_large, is_number, is_slot, is_turn, is_row, column, slot_of, score_text, row_text}
use Rattle.rows.specs.Inner.{fits, RowHeld}
use Rattle.rows.proofs.Numbers.{value_grows}
use Rattle.rows.proofs.RowTrips.{formed}

-- ---- digits

abbrev fine : ℕ → List ℕ → Bool
fine v s = all digit s && ltb (value_from v s) too_large

pub record Spelling (s : List ℕ) (value i : ℕ) : Type 0 where
  pub small : value < too_large
  pub todo : fine 0 s ≡ fine value (drop i s)
  pub same : value_of s ≡ value_from value (drop i s)

module _ {s : List ℕ} {value i : ℕ} (sp : Spelling s value i) (lt : i < length s) where
  here : drop i s ≡ get_or s i 0 ∷ drop (i + 1) s
  here = drop-cons s i 0 lt ∙ rw add-one

  pub digits_other : digit (get_or s i 0) ≡ false → None ≡ then_some (fits s) (value_of s)
  unfolding all
  digits_other f = let e : fits s ≡ false = sp.todo ∙ rw (here, f) in rw e

  module _ (is : digit (get_or s i 0) ≡ true) where
    next : fine 0 s ≡ fine (10 * value + (get_or s i 0 - 48)) (drop (i + 1) s)
    unfolding all value_from
    next = sp.todo ∙ rw (here, is)

    pub digits_over : too_large ≤ 10 * value + (get_or s i 0 - 48) → None ≡ then_some (fits s) (value_of s)
    digits_over h =
        let g = value_grows (10 * value + (get_or s i 0 - 48)) (drop (i + 1) s) in
        let over : too_large ≤ value_from (10 * value + (get_or s i 0 - 48)) (drop (i + 1) s) = omega arith in
        let e : fits s ≡ false = next ∙ rw (le-ltb (value_from (10 * value + (get_or s i 0 - 48)) (drop (i + 1) s)) too_large over) (off (all digit (drop (i + 1) s))) in
        rw e
      where
        off : (b : Bool) → (b && false) ≡ false
        off true = refl
        off false = refl

    pub spelling_next : (v : ℕ) → v ≡ 10 * value + (get_or s i 0 - 48) → v < too_large → Spelling s v (i + 1)
    unfolding value_from
    spelling_next v ev h = rw ev (record { small = omega arith; todo = next; same = sp.same ∙ rw here })

pub spelling_ends : {s : List ℕ} {value i : ℕ} → Spelling s value i → length s ≤ i → Some value ≡ then_some (fits s) (value_of s)
unfolding all value_from
spelling_ends {s} {value} {i} sp h =
    let d : drop i s ≡ [] = drop_of_length-le s {i = i} h in
    let v : value_of s ≡ value = sp.same ∙ rw d in
    let e : fits s ≡ true = sp.todo ∙ rw (d, lt-ltb value too_large sp.small) in
    rw (e, v)

-- ---- an answer that is there where a test holds

none_if : {A : Type 0} (b : Bool) (v : A) → None ≡ then_some b v → b ≡ false
none_if true v e = absurd (cc)
none_if false v e = refl

some_if : {A : Type 0} (b : Bool) (v x : A) → Some x ≡ then_some b v → (b ≡ true) × (x ≡ v)
some_if true v x e = (refl, cc)
some_if false v x e = absurd (cc)

-- ---- strand

pub turn_forward : (s : List ℕ) → 1 ≤ length s → length s < 2 → get_or s 0 0 ≡ 43 → Some false ≡ then_some (is_turn s) (same s (45 ∷ []))
unfolding same
turn_forward [] h k e = absurd (omega arith)
turn_forward (x ∷ []) h k e = rw e
turn_forward (x ∷ y ∷ s) h k e = absurd (omega arith)

pub turn_reverse : (s : List ℕ) → 1 ≤ length s → length s < 2 → get_or s 0 0 ≡ 45 → Some true ≡ then_some (is_turn s) (same s (45 ∷ []))
unfolding same
turn_reverse [] h k e = absurd (omega arith)
turn_reverse (x ∷ []) h k e = rw e
turn_reverse (x ∷ y ∷ s) h k e = absurd (omega arith)

pub turn_other : (s : List ℕ) → 1 ≤ length s → length s < 2 → (get_or s 0 0 ≡ 43 → ⊥) → (get_or s 0 0 ≡ 45 → ⊥) → None ≡ then_some (is_turn s) (same s (45 ∷ []))
unfolding same
turn_other [] h k e f = absurd (omega arith)
turn_other (x ∷ []) h k e f = rw (ne_eqb x 43 e, ne_eqb x 45 f)
turn_other (x ∷ y ∷ s) h k e f = absurd (omega arith)

pub turn_long : (s : List ℕ) → 2 ≤ length s → None ≡ then_some (is_turn s) (same s (45 ∷ []))
unfolding same
turn_long [] h = absurd (omega arith)
turn_long (x ∷ []) h = absurd (omega arith)
turn_long (x ∷ y ∷ s) h = go (eqb x 43) (eqb x 45)
  where
    go : (a b : Bool) → None ≡ then_some ((a && false) || (b && false)) (b && false)
    go true true = refl
    go true false = refl
    go false true = refl
    go false false = refl

pub turn_empty : (s : List ℕ) → length s < 1 → None ≡ then_some (is_turn s) (same s (45 ∷ []))
unfolding same
turn_empty [] h = refl
turn_empty (x ∷ s) h = absurd (omega arith)

-- ---- the line

pub column_is : {line starts ends x : List ℕ} (j : ℕ) → Spans line (cut 9 line) starts ends 6 → j < 6 → x ≡ take (get_or ends j 0 - get_or starts j 0) (drop (get_or starts j 0) line) → x ≡ column j line
column_is j sp lt e = part_is e (sp j lt)

not_row : (line : List ℕ) → (is_row line ≡ true → ⊥) → is_row line ≡ false
not_row line f = go (is_row line) refl
  where
    go : (b : Bool) → is_row line ≡ b → b ≡ false
    go true e = absurd (f e)
    go false e = refl

module _ (line : List ℕ) {x : List ℕ} where
  pub off_name : {r : Bool} → x ≡ column 0 line → r ≡ name_ok x → r ≡ false → is_row line ≡ false
  off_name e n f = not_row line (λ h. true≢false (sym (formed line h).name ∙ rw (← e, ← n) f))

  pub off_start : (v : ℕ) → x ≡ column 1 line → None ≡ then_some (is_number x) v → is_row line ≡ false
  off_start v e n = not_row line (λ h. true≢false (sym (formed line h).start ∙ rw (← e) (none_if (is_number x) v n)))

  pub off_end : (v : ℕ) → x ≡ column 2 line → None ≡ then_some (is_number x) v → is_row line ≡ false
  off_end v e n = not_row line (λ h. true≢false (sym (formed line h).end ∙ rw (← e) (none_if (is_number x) v n)))

  pub off_slot : (v : ℕ) → x ≡ column 3 line → None ≡ then_some (is_slot x) v → is_row line ≡ false
  off_slot v e n = not_row line (λ h. true≢false (sym (formed line h).slot ∙ rw (← e) (none_if (is_slot x) v n)))

  pub off_score : {y : List ℕ} {r : Bool} → x ≡ column 4 line → y ≡ 48 ∷ [] → r ≡ not (pointwise eqb x y) → r ≡ true → is_row line ≡ false
  off_score {y} {r} e ey n t = not_row line (λ h. true≢false (sym t ∙ n ∙ rw (e, (formed line h).score, ey)))

  pub off_turn : (v : Bool) → x ≡ column 5 line → None ≡ then_some (is_turn x) v → is_row line ≡ false
  off_turn v e n = not_row line (λ h. true≢false (sym (formed line h).turn ∙ rw (← e) (none_if (is_turn x) v n)))

pub score_is : {x y : List ℕ} {r : Bool} → y ≡ 48 ∷ [] → r ≡ not (pointwise eqb x y) → r ≡ false → x ≡ 48 ∷ []
score_is {x} {y} {r} ey n f = same_equal x y (sym (same_is x y) ∙ go (pointwise eqb x y) (sym n ∙ f)) ∙ ey
  where
    go : (b : Bool) → not b ≡ false → b ≡ true
    go true e = refl
    go false e = absurd (true≢false e)

pub row_told : {line a b c d e f : List ℕ} {start end slot : ℕ} {named reverse : Bool} → length (cut 9 line) ≡ 6
    → a ≡ column 0 line → named ≡ name_ok a → named ≡ true → b ≡ column 1 line → Some start ≡ then_some (is_number b) (value_of b) → c ≡ column 2 line → Some end ≡ then_some (is_number c) (value_of c)
    → d ≡ column 3 line → Some slot ≡ then_some (is_slot d) (value_of (drop 1 d)) → e ≡ column 4 line → e ≡ 48 ∷ [] → f ≡ column 5 line → Some reverse ≡ then_some (is_turn f) (same f (45 ∷ []))
    → (row : Row) → row.name.now ≡ a → row.start ≡ start → row.end ≡ end → row.slot ≡ slot → row.reverse ≡ reverse → (is_row line ≡ true) × RowHeld line row
unfolding is_row slot_of
row_told {line} {a} {b} {c} {d} {e} {f} {start} {end} {slot} {named} {reverse} six ea n t eb s ec u ed l ee z ef r row qa qs qe ql qr =
    let (s1, s2) = some_if (is_number b) (value_of b) start s in
    let (u1, u2) = some_if (is_number c) (value_of c) end u in
    let (l1, l2) = some_if (is_slot d) (value_of (drop 1 d)) slot l in
    let (r1, r2) = some_if (is_turn f) (same f (45 ∷ [])) reverse r in (
      rw (six, ← ea, sym n ∙ t, ← eb, s1, ← ec, u1, ← ed, l1, ← ee, z, same_self (48 ∷ []), ← ef, r1),
      record { name = qa ∙ ea; start = rw (← eb) (qs ∙ s2); end = rw (← ec) (qe ∙ u2); slot = rw (← ed) (ql ∙ l2); reverse = rw (← ef) (qr ∙ r2) },
    )

pub row_other : {line starts ends : List ℕ} {room count : ℕ} → Cuts line 9 room starts ends count → room ≡ 7 → (count ≡ 6 → ⊥) → is_row line ≡ false
row_other {line} c r ne = let k = c.count in not_row line (λ h. ne (let n = (formed line h).count in omega arith))

-- ---- written

pub row_put : (names : List (List ℕ)) (slot : ℕ) (s : Segment) {name xs ys bs cs ds es : List ℕ} {at a b c d e : ℕ} → name ≡ name_at names s.source → Put name xs at ys a → Put (9 ∷ decimal s.start) ys a bs b → Put (9 ∷ decimal s.end) bs b cs c
    → Put (9 ∷ 114 ∷ decimal slot) cs c ds d → Put (9 ∷ 48 ∷ 9 ∷ (turn_text s.reverse ++ (10 ∷ []))) ds d es e → Put (row_text names slot s ++ (10 ∷ [])) xs at es e
unfolding row_text
row_put names slot s {name} {xs} {ys} {bs} {cs} {ds} {es} {at} {a} {b} {c} {d} {e} en p q r t u =
    subst (λ (l : List ℕ). Put l xs at es e) same_text
    (put_then (name_at names s.source) (9 ∷ (decimal s.start ++ rest1)) (subst (λ (l : List ℕ). Put l xs at ys a) en p)
    (put_then (9 ∷ decimal s.start) rest1 q
    (put_then (9 ∷ decimal s.end) rest2 r
    (put_then (9 ∷ 114 ∷ decimal slot) rest3 t u))))
  where
    rest3 : List ℕ
    rest3 = 9 ∷ 48 ∷ 9 ∷ (turn_text s.reverse ++ (10 ∷ []))

    rest2 : List ℕ
    rest2 = 9 ∷ 114 ∷ (decimal slot ++ rest3)

    rest1 : List ℕ
    rest1 = 9 ∷ (decimal s.end ++ rest2)

    same_text : name_at names s.source ++ (9 ∷ (decimal s.start ++ rest1)) ≡ (name_at names s.source ++ (9 ∷ (decimal s.start ++ (9 ∷ (decimal s.end ++ (9 ∷ ((114 ∷ decimal slot) ++ (9 ∷ (score_text ++ (9 ∷ turn_text s.reverse)))))))))) ++ (10 ∷ [])
    same_text = rw (append_assoc (name_at names s.source), append_assoc (decimal s.start), append_assoc (decimal s.end), append_assoc (decimal slot))

pub tab_put : (x : ℕ) {xs ys zs : List ℕ} {at n m : ℕ} → Put (9 ∷ []) xs at ys n → Put (decimal x) ys n zs m → Put (9 ∷ decimal x) xs at zs m
tab_put x p q = put_then (9 ∷ []) (decimal x) p q

pub slot_put : (x : ℕ) {xs ys zs : List ℕ} {at n m : ℕ} → Put (9 ∷ 114 ∷ []) xs at ys n → Put (decimal x) ys n zs m → Put (9 ∷ 114 ∷ decimal x) xs at zs m
slot_put x p q = put_then (9 ∷ 114 ∷ []) (decimal x) p q
