-- Laws of a text that is read line by line.
use Prim.Native.Nat.{ℕ, suc, ◌+◌, ◌-◌, ◌*◌, ◌≤◌, ◌<◌}
use native.Mathlib.Omega.{arith}
use mathlib.Core.Path.{◌≡◌, refl, sym, ap, ◌∙◌}
use Rattle.std.proofs.Common.{Option, Some, None, is_some, unwrap_or}
use mathlib.Core.Bool.{Bool, true, false, ◌&&◌, ◌||◌}
use mathlib.Core.List.{List, [], ◌∷◌, map}
use lib.Dec.{eqb}
use lib.ListN.{length, take, drop, get_or, drop_of_length-le, length-drop}
use borrow.Author.Tests.{le-ltb, lt-ltb, eq-eqb, eqb-true}
use Rattle.ground.specs.Lists.{pick, all}
use Rattle.ground.proofs.ListLaws.{both}
use Rattle.evaluate.specs.declared.Segment.{Segment}
use Rattle.evaluate.specs.Segments.{Route}
use Rattle.evaluate.specs.Words.{route_words, encode}
use Rattle.names.specs.Names.{lines_of, ended, lane_of, cut}
use Rattle.names.specs.Inner.{Placed, Finds, Table}
use Rattle.names.proofs.Cutting.{lines_here, ended_here, not_ended, lines_nothing, ended_nothing}
use Rattle.names.proofs.Laws as tables
use Rattle.rows.specs.Rows.{is_row, slot_of, segment_of, column}
use Rattle.texts.specs.Bed.{slots_from, text_ok, known, all_known, onto, gathered, routes_in, held}
use Rattle.texts.specs.Inner.{Counted, words_from}
use Rattle.texts.proofs.LineLaws.{text_slots}

-- ---- names

pub known_told : {names starts ends heads links name : List ℕ} {lanes : ℕ} (line : List ℕ) (o : Option ℕ) → Table names starts ends heads links lanes → name ≡ column 0 line → Finds (cut 10 names) lanes name o → is_some o ≡ known (lines_of names) line
known_told {names} {starts} {ends} {heads} {links} {name} {lanes} line o t en f = go o f (tables.found_lane name o g f)
  where
    g : tables.Good names lanes
    g = tables.good_table names lanes t.good

    go : (o : Option ℕ) → Finds (cut 10 names) lanes name o → unwrap_or o lanes ≡ lane_of (lines_of names) name → is_some o ≡ known (lines_of names) line
    go None f e = rw (← en, ← e, g.count) (sym (le-ltb lanes lanes (omega arith)))
    go (Some r) f e = rw (← en, ← e, g.count) (sym (lt-ltb r lanes f.0))

-- ---- slots

-- ---- what is left of a text, behind k routes

abbrev pub rest_ok : ℕ → List ℕ → Bool
rest_ok k s = ended s && all is_row (lines_of s) && slots_from k (map slot_of (lines_of s))

pub gathered_some : (ns : List (List ℕ)) (k : ℕ) (ls : List (List ℕ)) → 0 < length (gathered ns k ls)
unfolding gathered
gathered_some ns k [] = omega arith
gathered_some ns k (l ∷ ls) = go (eqb (slot_of l) k) (gathered ns k ls)
  where
    go : (b : Bool) (g : List Route) → 0 < length (pick b ([] ∷ onto (segment_of ns l) (gathered ns (suc k) ls)) (onto (segment_of ns l) g))
    go true g = omega arith
    go false [] = omega arith
    go false (r ∷ rs) = omega arith

onto_words : (s : Segment) (g : List Route) → 0 < length g → length (words_from (onto s g)) ≡ 4 + length (words_from g)
onto_words s [] h = let z : ⊥ = omega arith in absurd z
onto_words s (r ∷ rs) h = omega arith

onto_route : (s : Segment) (g : List Route) → 0 < length g → length (words_from ([] ∷ onto s g)) ≡ 5 + length (words_from g)
onto_route s [] h = let z : ⊥ = omega arith in absurd z
onto_route s (r ∷ rs) h = omega arith

onto_length : (s : Segment) (g : List Route) → 0 < length g → length (onto s g) ≡ length g
onto_length s [] h = let z : ⊥ = omega arith in absurd z
onto_length s (r ∷ rs) h = refl

-- how many routes begin behind the one at hand
abbrev pub begun : List Route → ℕ
begun g = length g - 1

-- one line more, of a slot that follows
pub record OneMore (ns : List (List ℕ)) (k slot : ℕ) (l : List ℕ) (ls : List (List ℕ)) : Type 0 where
  pub words : k + length (words_from (gathered ns k (l ∷ ls))) ≡ suc slot + 4 + length (words_from (gathered ns (suc slot) ls))
  pub routes : k + begun (gathered ns k (l ∷ ls)) ≡ suc slot + begun (gathered ns (suc slot) ls)

pub one_more : (ns : List (List ℕ)) (k : ℕ) (l : List ℕ) (ls : List (List ℕ)) → (eqb (slot_of l) k || eqb (suc (slot_of l)) k) ≡ true → OneMore ns k (slot_of l) l ls
unfolding gathered
one_more ns k l ls h = go (eqb (slot_of l) k) refl h
  where
    s : Segment
    s = segment_of ns l

    go : (t : Bool) → eqb (slot_of l) k ≡ t → (t || eqb (suc (slot_of l)) k) ≡ true → OneMore ns k (slot_of l) l ls
    go true e d =
        let q : slot_of l ≡ k = eqb-true (slot_of l) k e in
        let g = gathered ns (suc k) ls in
        let p = gathered_some ns (suc k) ls in
        let a = onto_route s g p in
        let b = onto_length s g p in
        record { words = rw (q, eq-eqb k k refl) (omega arith); routes = rw (q, eq-eqb k k refl) (omega arith) }
    go false e d =
        let q : suc (slot_of l) ≡ k = eqb-true (suc (slot_of l)) k d in
        let g = gathered ns k ls in
        let p = gathered_some ns k ls in
        let a = onto_words s g p in
        let b = onto_length s g p in
        record { words = rw (q, e) (omega arith); routes = rw (q, e) (omega arith) }

-- ---- the loop

pub record Scanning (ns : List (List ℕ)) (text : List ℕ) (at lines routes : ℕ) (sure : Bool) : Type 0 where
  pub inside : at ≤ length text
  pub few : lines ≤ at
  pub fewer : routes ≤ lines
  pub good : text_ok text ≡ rest_ok routes (drop at text)
  pub names : all_known ns text ≡ (sure && all (known ns) (lines_of (drop at text)))
  pub words : length (words_from (gathered ns 0 (lines_of text))) ≡ routes + 4 * lines + length (words_from (gathered ns routes (lines_of (drop at text))))
  pub count : begun (gathered ns 0 (lines_of text)) ≡ routes + begun (gathered ns routes (lines_of (drop at text)))

pub scanning_start : (ns : List (List ℕ)) (text : List ℕ) → Scanning ns text 0 0 0 true
unfolding text_ok all_known
scanning_start ns text = record { inside = omega arith; few = omega arith; fewer = omega arith; good = refl; names = refl; words = omega arith; count = omega arith }

module _ {ns : List (List ℕ)} {text : List ℕ} {at lines routes : ℕ} {sure : Bool} (c : Scanning ns text at lines routes sure) (lt : at < length text) (e : ℕ) (p : Placed text at 10 e) where
  pub scan_open : length text ≤ e → text_ok text ≡ false
  scan_open h = c.good ∙ rw (not_ended p c.inside lt h)

  module _ (more : e < length text) where
    abbrev line : List ℕ
    line = take (e - at) (drop at text)

    pub lines_are : lines_of (drop at text) ≡ line ∷ lines_of (drop (e + 1) text)
    lines_are = lines_here p c.inside more

    rest_is : (k : ℕ) → rest_ok k (drop at text) ≡ (ended (drop (e + 1) text) && (is_row line && all is_row (lines_of (drop (e + 1) text))) && ((eqb (slot_of line) k || eqb (suc (slot_of line)) k) && slots_from (suc (slot_of line)) (map slot_of (lines_of (drop (e + 1) text)))))
    unfolding all slots_from
    rest_is k = rw (lines_are, ended_here p c.inside more)

    pub scan_row : is_row (take (e - at) (drop at text)) ≡ false → text_ok text ≡ false
    scan_row f = c.good ∙ rest_is routes ∙ rw f (off (ended (drop (e + 1) text)) ((eqb (slot_of line) routes || eqb (suc (slot_of line)) routes) && slots_from (suc (slot_of line)) (map slot_of (lines_of (drop (e + 1) text)))))
      where
        off : (a b : Bool) → (a && false && b) ≡ false
        off true b = refl
        off false b = refl

    module _ (slot : ℕ) (slot_is : slot ≡ slot_of (take (e - at) (drop at text))) (b : Bool) (eb : b ≡ (eqb slot routes || eqb (suc slot) routes)) where
      asked : (eqb (slot_of line) routes || eqb (suc (slot_of line)) routes) ≡ b
      asked = rw (← slot_is) (sym eb)

      pub scan_slot : b ≡ false → text_ok text ≡ false
      scan_slot f = c.good ∙ rest_is routes ∙ rw (asked, f) (off (ended (drop (e + 1) text)) (is_row line && all is_row (lines_of (drop (e + 1) text))))
        where
          off : (x y : Bool) → (x && y && false) ≡ false
          off true true = refl
          off true false = refl
          off false y = refl

      module _ (bt : b ≡ true) where
        pub slot_few : slot ≤ routes
        slot_few = go (eqb slot routes) refl (sym eb ∙ bt)
          where
            go : (t : Bool) → eqb slot routes ≡ t → (t || eqb (suc slot) routes) ≡ true → slot ≤ routes
            go true q d = let z = eqb-true slot routes q in omega arith
            go false q d = let z = eqb-true (suc slot) routes d in omega arith

        pub scan_again : {sure' : Bool} → is_row (take (e - at) (drop at text)) ≡ true → sure' ≡ (sure && known ns (take (e - at) (drop at text))) → Scanning ns text (e + 1) (lines + 1) (slot + 1) sure'
        unfolding all
        scan_again {sure'} good es =
            let a = slot_few in
            let f = c.few in
            let g = c.fewer in
            let o = p.is in
            let one : slot + 1 ≡ suc (slot_of line) = rw slot_is (omega arith) in
            let m = one_more ns routes line (lines_of (drop (e + 1) text)) (asked ∙ bt) in
            let w = m.words in
            let q = m.routes in
            let cw : length (words_from (gathered ns 0 (lines_of text))) ≡ routes + 4 * lines + length (words_from (gathered ns routes (line ∷ lines_of (drop (e + 1) text)))) = rw (← lines_are) c.words in
            let cc' : begun (gathered ns 0 (lines_of text)) ≡ routes + begun (gathered ns routes (line ∷ lines_of (drop (e + 1) text))) = rw (← lines_are) c.count in
            record {
              inside = omega arith;
              few = omega arith;
              fewer = omega arith;
              good = c.good ∙ rest_is routes ∙ rw (good, asked, bt, one);
              names = c.names ∙ rw (lines_are, es) (assoc sure (known ns line) (all (known ns) (lines_of (drop (e + 1) text))));
              words = rw one (omega (arith, cw, w));
              count = rw one (omega (arith, cc', q));
            }
          where
            assoc : (x y z : Bool) → (x && (y && z)) ≡ ((x && y) && z)
            assoc true y z = refl
            assoc false y z = refl

-- the first line begins the first route
pub first_empty : (ns : List (List ℕ)) (ls : List (List ℕ)) → slots_from 0 (map slot_of ls) ≡ true → gathered ns 0 ls ≡ [] ∷ drop 1 (gathered ns 0 ls)
unfolding gathered slots_from
first_empty ns [] e = refl
first_empty ns (l ∷ ls) e = go (eqb (slot_of l) 0) refl (both (eqb (slot_of l) 0 || eqb (suc (slot_of l)) 0) (slots_from (suc (slot_of l)) (map slot_of ls)) e).0
  where
    go : (t : Bool) → eqb (slot_of l) 0 ≡ t → (t || eqb (suc (slot_of l)) 0) ≡ true → pick t ([] ∷ onto (segment_of ns l) (gathered ns 1 ls)) (onto (segment_of ns l) (gathered ns 0 ls)) ≡ [] ∷ drop 1 (pick t ([] ∷ onto (segment_of ns l) (gathered ns 1 ls)) (onto (segment_of ns l) (gathered ns 0 ls)))
    go true p d = refl
    go false p d = let q : suc (slot_of l) ≡ 0 = eqb-true (suc (slot_of l)) 0 d in let z : ⊥ = omega arith in absurd z

-- the words of a text of the form
pub held_words : (ns : List (List ℕ)) (f : ℕ) (text : List ℕ) → text_ok text ≡ true → held ns f text ≡ f ∷ begun (gathered ns 0 (lines_of text)) ∷ words_from (gathered ns 0 (lines_of text))
unfolding held encode routes_in
held_words ns f text h = go (gathered ns 0 (lines_of text)) (first_empty ns (lines_of text) (text_slots text h))
  where
    go : (g : List Route) → g ≡ [] ∷ drop 1 g → f ∷ length (drop 1 g) ∷ route_words (drop 1 g) ≡ f ∷ begun g ∷ words_from g
    go [] e = let l : length {A = Route} [] ≡ suc (length {A = Route} []) = ap length e in let z : ⊥ = omega arith in absurd z
    go (r ∷ rs) e =
        let q : r ≡ [] = ap (λ (g : List Route). get_or g 0 []) e in
        let m : suc (length rs) - 1 ≡ length rs = omega arith in
        rw (q, m)

module _ {ns : List (List ℕ)} {text : List ℕ} {at lines routes : ℕ} {sure : Bool} (c : Scanning ns text at lines routes sure) (h : length text ≤ at) where
  done : lines_of (drop at text) ≡ []
  done = ap lines_of (drop_of_length-le text {i = at} h) ∙ lines_nothing

  pub scanning_good : text_ok text ≡ true
  unfolding all slots_from
  scanning_good = c.good ∙ rw (drop_of_length-le text {i = at} h, ended_nothing, lines_nothing)

  pub scanning_known : all_known ns text ≡ sure
  unfolding all
  scanning_known = c.names ∙ rw done (both_true sure)
    where
      both_true : (x : Bool) → (x && true) ≡ x
      both_true true = refl
      both_true false = refl

  pub scanning_counts : Counted ns text (record { lines = lines; routes = routes })
  unfolding gathered routes_in
  scanning_counts =
      let k : begun (gathered ns 0 (lines_of text)) ≡ routes = c.count ∙ rw done (omega arith) in
      let w : length (words_from (gathered ns 0 (lines_of text))) ≡ routes + 4 * lines = c.words ∙ rw done (omega arith) in
      record {
        words = λ f. ap length (held_words ns f text scanning_good) ∙ (omega (arith, w, k));
        routes = length-drop 1 (gathered ns 0 (lines_of text)) ∙ k;
      }

-- ---- room for the words
