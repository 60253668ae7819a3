-- A segment to its line and back, and a line to what it holds and back.
use Prim.Native.Nat.{ℕ, ◌<◌}
use native.Mathlib.Omega.{arith}
use mathlib.Core.Path.{◌≡◌, refl, sym, ap, ap₂, ◌∙◌}
use mathlib.Core.Bool.{Bool, true, false, ◌&&◌, ◌||◌, true≢false}
use mathlib.Core.List.{List, [], ◌∷◌, ◌++◌}
use lib.Dec.{eqb, leb}
use lib.ListN.{length, drop, get_or}
use borrow.Author.Tests.{ne_eqb, eqb-true, leb-true}
use Rattle.ground.specs.Lists.{all, within}
use Rattle.ground.proofs.ListLaws.{both}
use Rattle.search.specs.Sheet.{decimal, turn_text}
use Rattle.evaluate.specs.declared.Segment.{Segment}
use Rattle.names.specs.Names.{same, cut, printing, name_ok, lane_of, name_at}
use Rattle.names.proofs.Laws.{same_equal, same_self, lane_named}
use Rattle.names.proofs.Cutting.{other, free, cut_append, cut_free, join_with, join_cut}
use Rattle.rows.specs.Rows.{digit, value_of, too_large, is_number, is_slot, is_turn, is_row, column, slot_of, segment_of, score_text, row_text}
use Rattle.rows.proofs.Numbers.{decimal_number, decimal_value, number_decimal, number_digits}

-- ---- no column holds a tab or a line feed

all_from : (f g : ℕ → Bool) → ((x : ℕ) → f x ≡ true → g x ≡ true) → (l : List ℕ) → all f l ≡ true → all g l ≡ true
unfolding all
all_from f g h [] e = refl
all_from f g h (x ∷ l) e = let (p, q) = both (f x) (all f l) e in rw (h x p, all_from f g h l q)

pub all_append : (f : ℕ → Bool) (l m : List ℕ) → all f l ≡ true → all f m ≡ true → all f (l ++ m) ≡ true
unfolding all
all_append f [] m e d = d
all_append f (x ∷ l) m e d = let (p, q) = both (f x) (all f l) e in rw (p, all_append f l m q d)

pub within_other : (lo hi b x : ℕ) → b < lo → within lo hi x ≡ true → other b x ≡ true
unfolding other
within_other lo hi b x h e = let p = leb-true lo x (both (leb lo x) (leb x hi) e).0 in rw (ne_eqb x b (λ q. omega arith))

pub name_free : (b : ℕ) (s : List ℕ) → b < 33 → name_ok s ≡ true → free b s ≡ true
unfolding name_ok
name_free b s h e = all_from printing (other b) (λ x. within_other 33 126 b x h) s (both (within 1 64 (length s)) (all printing s) e).1

pub digits_free : (b : ℕ) (s : List ℕ) → b < 48 → all digit s ≡ true → free b s ≡ true
digits_free b s h e = all_from digit (other b) (λ x. within_other 48 57 b x h) s e

decimal_free : (b x : ℕ) → b < 48 → x < too_large → free b (decimal x) ≡ true
decimal_free b x h l = digits_free b (decimal x) h (number_digits (decimal x) (decimal_number x l))

turn_free : (b : ℕ) (r : Bool) → b < 43 → free b (turn_text r) ≡ true
unfolding all other
turn_free b true h = rw (ne_eqb 45 b (λ e. omega arith))
turn_free b false h = rw (ne_eqb 43 b (λ e. omega arith))

tab_free : (l : List ℕ) → free 10 l ≡ true → free 10 (9 ∷ l) ≡ true
unfolding all other
tab_free l h = h

join_six : (a b c d e f : List ℕ) → e ≡ 48 ∷ [] → join_with 9 (a ∷ b ∷ c ∷ d ∷ e ∷ f ∷ []) ≡ a ++ (9 ∷ (b ++ (9 ∷ (c ++ (9 ∷ (d ++ (9 ∷ (score_text ++ (9 ∷ f)))))))))
unfolding join_with
join_six a b c d e f h = rw h

-- ---- a segment's line

pub record Writable (ns : List (List ℕ)) (k : ℕ) (s : Segment) : Type 0 where
  pub name : name_ok (name_at ns s.source) ≡ true
  pub start : s.start < too_large
  pub end : s.end < too_large
  pub slot : k < too_large
  pub lane : lane_of ns (name_at ns s.source) ≡ s.source
  pub inside : s.source < length ns

module _ (ns : List (List ℕ)) (k : ℕ) (s : Segment) (w : Writable ns k s) where
  abbrev columns : List (List ℕ)
  columns = name_at ns s.source ∷ decimal s.start ∷ decimal s.end ∷ (114 ∷ decimal k) ∷ (48 ∷ []) ∷ turn_text s.reverse ∷ []

  slot_free : (b : ℕ) → b < 48 → free b (114 ∷ decimal k) ≡ true
  unfolding all other
  slot_free b h = rw (ne_eqb 114 b (λ e. omega arith)) (decimal_free b k h w.slot)

  score_free : (b : ℕ) → b < 48 → free b (48 ∷ []) ≡ true
  unfolding all other
  score_free b h = rw (ne_eqb 48 b (λ e. omega arith))

  row_cut : cut 9 (row_text ns k s) ≡ columns
  unfolding row_text
  row_cut =
      let name = name_at ns s.source in
      let e5 : cut 9 (turn_text s.reverse) ≡ turn_text s.reverse ∷ [] = cut_free 9 (turn_text s.reverse) (turn_free 9 s.reverse (omega arith)) in
      let t4 : List ℕ = score_text ++ (9 ∷ turn_text s.reverse) in
      let e4 : cut 9 t4 ≡ (48 ∷ []) ∷ turn_text s.reverse ∷ [] = cut_append 9 (48 ∷ []) (turn_text s.reverse) (score_free 9 (omega arith)) ∙ rw e5 in
      let t3 : List ℕ = (114 ∷ decimal k) ++ (9 ∷ t4) in
      let e3 : cut 9 t3 ≡ (114 ∷ decimal k) ∷ (48 ∷ []) ∷ turn_text s.reverse ∷ [] = cut_append 9 (114 ∷ decimal k) t4 (slot_free 9 (omega arith)) ∙ ap (λ (c : List (List ℕ)). (114 ∷ decimal k) ∷ c) e4 in
      let t2 : List ℕ = decimal s.end ++ (9 ∷ t3) in
      let e2 : cut 9 t2 ≡ decimal s.end ∷ (114 ∷ decimal k) ∷ (48 ∷ []) ∷ turn_text s.reverse ∷ [] = cut_append 9 (decimal s.end) t3 (decimal_free 9 s.end (omega arith) w.end) ∙ ap (λ (c : List (List ℕ)). decimal s.end ∷ c) e3 in
      let t1 : List ℕ = decimal s.start ++ (9 ∷ t2) in
      let e1 : cut 9 t1 ≡ decimal s.start ∷ decimal s.end ∷ (114 ∷ decimal k) ∷ (48 ∷ []) ∷ turn_text s.reverse ∷ [] = cut_append 9 (decimal s.start) t2 (decimal_free 9 s.start (omega arith) w.start) ∙ ap (λ (c : List (List ℕ)). decimal s.start ∷ c) e2 in
      cut_append 9 name t1 (name_free 9 name (omega arith) w.name) ∙ ap (λ (c : List (List ℕ)). name ∷ c) e1

  turn_is_is : (r : Bool) → is_turn (turn_text r) ≡ true
  unfolding same
  turn_is_is true = refl
  turn_is_is false = refl

  turn_same : (r : Bool) → same (turn_text r) (turn_text true) ≡ r
  unfolding same
  turn_same true = refl
  turn_same false = refl

  pub row_is : is_row (row_text ns k s) ≡ true
  unfolding is_row
  row_is = rw (row_cut, w.name, decimal_number s.start w.start, decimal_number s.end w.end, decimal_number k w.slot, same_self (48 ∷ [])) (turn_is_is s.reverse)

  pub row_slot : slot_of (row_text ns k s) ≡ k
  unfolding slot_of
  row_slot = rw (row_cut) (decimal_value k w.slot)

  pub row_segment : segment_of ns (row_text ns k s) ≡ s
  unfolding segment_of
  row_segment =
      let a = w.lane in
      let b = decimal_value s.start w.start in
      let c = decimal_value s.end w.end in
      let d = turn_same s.reverse in
      rw row_cut (λ i. record { source = a i; start = b i; end = c i; reverse = d i })

  pub row_name : column 0 (row_text ns k s) ≡ name_at ns s.source
  row_name = rw row_cut

  -- it is one line
  pub row_free : free 10 (row_text ns k s) ≡ true
  unfolding row_text
  row_free =
      all_append (other 10) (name_at ns s.source) rest0 (name_free 10 (name_at ns s.source) (omega arith) w.name)
      (tabbed rest1 (all_append (other 10) (decimal s.start) (9 ∷ rest2) (decimal_free 10 s.start (omega arith) w.start)
      (tabbed rest2 (all_append (other 10) (decimal s.end) (9 ∷ rest3) (decimal_free 10 s.end (omega arith) w.end)
      (tabbed rest3 (all_append (other 10) (114 ∷ decimal k) (9 ∷ rest4) (slot_free 10 (omega arith))
      (tabbed rest4 (all_append (other 10) (48 ∷ []) (9 ∷ turn_text s.reverse) (score_free 10 (omega arith))
      (tabbed (turn_text s.reverse) (turn_free 10 s.reverse (omega arith)))))))))))
    where
      rest4 : List ℕ
      rest4 = (48 ∷ []) ++ (9 ∷ turn_text s.reverse)

      rest3 : List ℕ
      rest3 = (114 ∷ decimal k) ++ (9 ∷ rest4)

      rest2 : List ℕ
      rest2 = decimal s.end ++ (9 ∷ rest3)

      rest1 : List ℕ
      rest1 = decimal s.start ++ (9 ∷ rest2)

      rest0 : List ℕ
      rest0 = 9 ∷ rest1

      tabbed : (l : List ℕ) → free 10 l ≡ true → free 10 (9 ∷ l) ≡ true
      tabbed l h = tab_free l h
      -- ---- a line of the form

six : (c : List (List ℕ)) → length c ≡ 6 → c ≡ get_or c 0 [] ∷ get_or c 1 [] ∷ get_or c 2 [] ∷ get_or c 3 [] ∷ get_or c 4 [] ∷ get_or c 5 [] ∷ []
six [] h = let z : ⊥ = omega arith in absurd z
six (a ∷ []) h = let z : ⊥ = omega arith in absurd z
six (a ∷ b ∷ []) h = let z : ⊥ = omega arith in absurd z
six (a ∷ b ∷ c ∷ []) h = let z : ⊥ = omega arith in absurd z
six (a ∷ b ∷ c ∷ d ∷ []) h = let z : ⊥ = omega arith in absurd z
six (a ∷ b ∷ c ∷ d ∷ e ∷ []) h = let z : ⊥ = omega arith in absurd z
six (a ∷ b ∷ c ∷ d ∷ e ∷ f ∷ []) h = refl
six (a ∷ b ∷ c ∷ d ∷ e ∷ f ∷ g ∷ l) h = let z : ⊥ = omega arith in absurd z

pub record Formed (line : List ℕ) : Type 0 where
  pub count : length (cut 9 line) ≡ 6
  pub name : name_ok (column 0 line) ≡ true
  pub start : is_number (column 1 line) ≡ true
  pub end : is_number (column 2 line) ≡ true
  pub slot : is_slot (column 3 line) ≡ true
  pub score : column 4 line ≡ 48 ∷ []
  pub turn : is_turn (column 5 line) ≡ true

pub formed : (line : List ℕ) → is_row line ≡ true → Formed line
unfolding is_row
formed line h =
    let (a, t) = both (eqb (length (cut 9 line)) 6 && name_ok (column 0 line) && is_number (column 1 line) && is_number (column 2 line) && is_slot (column 3 line) && same (column 4 line) score_text) (is_turn (column 5 line)) h in
    let (b, c) = both (eqb (length (cut 9 line)) 6 && name_ok (column 0 line) && is_number (column 1 line) && is_number (column 2 line) && is_slot (column 3 line)) (same (column 4 line) score_text) a in
    let (d, l) = both (eqb (length (cut 9 line)) 6 && name_ok (column 0 line) && is_number (column 1 line) && is_number (column 2 line)) (is_slot (column 3 line)) b in
    let (f, e) = both (eqb (length (cut 9 line)) 6 && name_ok (column 0 line) && is_number (column 1 line)) (is_number (column 2 line)) d in
    let (g, s) = both (eqb (length (cut 9 line)) 6 && name_ok (column 0 line)) (is_number (column 1 line)) f in
    let (m, n) = both (eqb (length (cut 9 line)) 6) (name_ok (column 0 line)) g in
    record {
      count = eqb-true (length (cut 9 line)) 6 m;
      name = n;
      start = s;
      end = e;
      slot = l;
      score = same_equal (column 4 line) score_text c;
      turn = t;
    }

slot_back : (c : List ℕ) → is_slot c ≡ true → 114 ∷ decimal (value_of (drop 1 c)) ≡ c
slot_back [] h = absurd (true≢false (sym h))
slot_back (x ∷ c) h = let (a, b) = both (eqb x 114) (is_number c) h in ap₂ (λ (y : ℕ) (l : List ℕ). y ∷ l) (sym (eqb-true x 114 a)) (number_decimal c b)

turn_back : (c : List ℕ) → is_turn c ≡ true → turn_text (same c (turn_text true)) ≡ c
turn_back c h = go (same c (turn_text true)) refl
  where
    first : (a b : Bool) → (a || b) ≡ true → b ≡ false → a ≡ true
    first true b e f = refl
    first false b e f = absurd (true≢false (sym e ∙ f))

    go : (b : Bool) → same c (turn_text true) ≡ b → turn_text b ≡ c
    go true e = sym (same_equal c (turn_text true) e)
    go false e = sym (same_equal c (turn_text false) (first (same c (turn_text false)) (same c (turn_text true)) h e))

abbrev glue : List ℕ → List ℕ → List ℕ → List ℕ → List ℕ → List ℕ
glue a b c d f = a ++ (9 ∷ (b ++ (9 ∷ (c ++ (9 ∷ (d ++ (9 ∷ (score_text ++ (9 ∷ f)))))))))

-- written again it is the same line
pub row_back : (ns : List (List ℕ)) (line : List ℕ) → is_row line ≡ true → lane_of ns (column 0 line) < length ns → row_text ns (slot_of line) (segment_of ns line) ≡ line
unfolding row_text slot_of segment_of
row_back ns line h known =
    let f = formed line h in
    let e : join_with 9 (cut 9 line) ≡ line = join_cut 9 line in
    rw (lane_named ns (column 0 line) known, number_decimal (column 1 line) f.start, number_decimal (column 2 line) f.end, turn_back (column 5 line) f.turn)
    (ap (λ (d : List ℕ). glue (column 0 line) (column 1 line) (column 2 line) d (column 5 line)) (slot_back (column 3 line) f.slot) ∙ together (cut 9 line) f.count f.score ∙ e)
  where
    together : (c : List (List ℕ)) → length c ≡ 6 → get_or c 4 [] ≡ 48 ∷ []
        → get_or c 0 [] ++ (9 ∷ (get_or c 1 [] ++ (9 ∷ (get_or c 2 [] ++ (9 ∷ (get_or c 3 [] ++ (9 ∷ (score_text ++ (9 ∷ get_or c 5 []))))))))) ≡ join_with 9 c
    together c k z = sym (ap (join_with 9) (six c k) ∙ joined z)
      where
        joined : get_or c 4 [] ≡ 48 ∷ [] → join_with 9 (get_or c 0 [] ∷ get_or c 1 [] ∷ get_or c 2 [] ∷ get_or c 3 [] ∷ get_or c 4 [] ∷ get_or c 5 [] ∷ [])
            ≡ get_or c 0 [] ++ (9 ∷ (get_or c 1 [] ++ (9 ∷ (get_or c 2 [] ++ (9 ∷ (get_or c 3 [] ++ (9 ∷ (score_text ++ (9 ∷ get_or c 5 [])))))))))
        joined z = join_six (get_or c 0 []) (get_or c 1 []) (get_or c 2 []) (get_or c 3 []) (get_or c 4 []) (get_or c 5 []) z
