-- Laws of reading: one for each way through the code.
use Prim.Native.Nat.{ℕ, suc, ◌+◌, ◌*◌, ◌≤◌, ◌<◌}
use native.Mathlib.Omega.{arith}
use native.Mathlib.Nat.{zero-add}
use mathlib.Core.Path.{◌≡◌, refl, sym, ap, ◌∙◌, subst}
use mathlib.Core.Bool.{Bool, true, false}
use mathlib.Core.List.{List, [], ◌∷◌, map}
use lib.Dec.{eqb}
use lib.ListN.{length, set, length-set, length-drop}
use lib.Seq.{sets, sets-eq, get_or-set_same}
use borrow.Author.Tests.{le-leb, lt-leb}
use Rattle.ground.specs.Lists.{pick}
use Rattle.image.specs.declared.Header.{Header}
use Rattle.image.specs.declared.Family.{Family}
use Rattle.image.specs.Inner.{Groups}
use Rattle.image.specs.Panel.{Panel, panel_of, paths_at}
use Rattle.panel.specs.Inner.{Accepted}
use Rattle.evaluate.specs.declared.Segment.{Segment}
use Rattle.evaluate.specs.declared.Refusal.{Refusal}
use Rattle.evaluate.specs.Refusals.{no_refusal}
use Rattle.routes.specs.declared.RefusedRoute.{RefusedRoute}
use Rattle.routes.specs.Refusals.{number_of as route_number}
use Rattle.routes.proofs.Laws.{some_number}
use Rattle.assignment.specs.declared.AssignmentRefusal.{AssignmentRefusal}
use Rattle.assignment.specs.Refusals.{number_of, place_of}
use Rattle.evaluate.specs.Segments.{Route, apart, flat}
use Rattle.evaluate.specs.Check.{routes_refusal, assignment_refusal, given_refusal, over}
use Rattle.evaluate.proofs.RoundTrips.{decode_encode}
use Rattle.assignment.specs.Inner.{family_refusal}
use Rattle.assignment.proofs.Laws.{routes_refused, routes_overlap, routes_none, number_23, number_24, number_later}
use Rattle.assignment.proofs.Given.{given_many}
use Rattle.names.specs.Names.{lines_of}
use Rattle.rows.specs.Rows.{slot_of, segment_of}
use Rattle.texts.specs.declared.Scan.{Scan}
use Rattle.texts.specs.Bed.{text_ok, all_known, onto, gathered, routes_in, held}
use Rattle.texts.specs.Inner.{Counted, words_from, Holding}
use Rattle.texts.proofs.LineLaws.{text_lined, text_slots}
use Rattle.texts.proofs.Scanning.{first_empty, begun, held_words}
use Rattle.bed_overlap.specs.Inner.{segments_from}
use Rattle.bed.specs.declared.BedReply.{BedReply}
use Rattle.bed.specs.Answers.{text_refusal}
use Rattle.bed.specs.Inner.{Replied, held_in}
use Rattle.bed.proofs.Calls.{refused, refused_by, some_refusal}

-- ---- 25 to 31

-- the routes' segments one behind the other are the lines'
flat_onto : (s : Segment) (g : List Route) → flat (onto s g) ≡ s ∷ flat g
flat_onto s [] = refl
flat_onto s (r ∷ rs) = refl

flat_gathered : (ns : List (List ℕ)) (k : ℕ) (ls : List (List ℕ)) → flat (gathered ns k ls) ≡ map (segment_of ns) ls
unfolding gathered
flat_gathered ns k [] = refl
flat_gathered ns k (l ∷ ls) = go (eqb (slot_of l) k) (flat_gathered ns (suc k) ls) (flat_gathered ns k ls)
  where
    go : (b : Bool) → flat (gathered ns (suc k) ls) ≡ map (segment_of ns) ls → flat (gathered ns k ls) ≡ map (segment_of ns) ls
        → flat (pick b ([] ∷ onto (segment_of ns l) (gathered ns (suc k) ls)) (onto (segment_of ns l) (gathered ns k ls))) ≡ segment_of ns l ∷ map (segment_of ns) ls
    go true new old = flat_onto (segment_of ns l) (gathered ns (suc k) ls) ∙ ap (λ (m : List Segment). segment_of ns l ∷ m) new
    go false new old = flat_onto (segment_of ns l) (gathered ns k ls) ∙ ap (λ (m : List Segment). segment_of ns l ∷ m) old

flat_lines : (ns : List (List ℕ)) (text : List ℕ) → text_ok text ≡ true → segments_from ns text 0 ≡ flat (routes_in ns (lines_of text))
unfolding segments_from routes_in
flat_lines ns text h = sym (flat_gathered ns 0 (lines_of text)) ∙ ap flat (first_empty ns (lines_of text) (text_slots text h))

module _ (s : List ℕ) (h : Header) (names text : List ℕ) (f : Family) (g : Groups s h f) (ok : text_ok text ≡ true) (el : length (routes_in (lines_of names) (lines_of text)) ≡ f.count) where
  pub lines_refused : (e : RefusedRoute) → record { number = route_number e.why; place = e.route } ≡ routes_refusal (panel_of s) 0 (paths_at (panel_of s) f.number) (routes_in (lines_of names) (lines_of text))
      → record { number = route_number e.why; place = e.route } ≡ family_refusal (panel_of s) (held_in names f.number text)
  lines_refused e er = routes_refused s h (held_in names f.number text) f g refl el (record { number = route_number e.why; place = e.route }) er (some_number e.why)

  module _ (er : no_refusal ≡ routes_refusal (panel_of s) 0 (paths_at (panel_of s) f.number) (routes_in (lines_of names) (lines_of text))) (b : Bool) (eb : b ≡ apart (segments_from (lines_of names) text 0)) where
    pub lines_overlap : b ≡ false → record { number = 31; place = 0 } ≡ family_refusal (panel_of s) (held_in names f.number text)
    lines_overlap z = routes_overlap s h (held_in names f.number text) f g refl el no_refusal er (omega arith) b (eb ∙ ap apart (flat_lines (lines_of names) text ok)) _ z refl

    pub lines_none : b ≡ true → no_refusal ≡ family_refusal (panel_of s) (held_in names f.number text)
    lines_none z = routes_none s h (held_in names f.number text) f g refl el no_refusal er (omega arith) b (eb ∙ ap apart (flat_lines (lines_of names) text ok)) _ z refl

pub ruleset family_steps = (text_lined, lines_refused, lines_overlap, lines_none)

-- ---- 23, 24

module _ (s : List ℕ) (h : Header) (names text : List ℕ) (acc : Accepted s h) (family : ℕ) where
  pub held_23 : h.families ≤ family → record { number = 23; place = 0 } ≡ assignment_refusal (panel_of s) (held_in names family text)
  held_23 le = number_23 s h (held_in names family text) acc family refl _ le refl

  module _ (lt : family < h.families) (f : Family) (g : Groups s h f) (ef : f.number ≡ family) (n : ℕ) (el : length (routes_in (lines_of names) (lines_of text)) ≡ n) where
    pub held_24 : (n ≡ f.count → ⊥) → record { number = 24; place = 0 } ≡ assignment_refusal (panel_of s) (held_in names family text)
    held_24 ne = number_24 s h (held_in names family text) acc family refl _ lt f g ef n (sym el) ne refl

    pub held_later : (x : Refusal) → n ≡ f.count → x ≡ family_refusal (panel_of s) (held_in names f.number text) → x ≡ assignment_refusal (panel_of s) (held_in names family text)
    held_later x eq e = number_later s h (held_in names family text) acc family refl x lt f g ef n (sym el) eq (e ∙ rw ef)

pub ruleset held_steps = (held_23, held_24, held_later)

-- ---- the words

module _ (ns : List (List ℕ)) (family : ℕ) (text : List ℕ) (ok : text_ok text ≡ true) (routes : ℕ) (el : length (routes_in ns (lines_of text)) ≡ routes) where
  abbrev G : List Route
  G = gathered ns 0 (lines_of text)

  begun_are : begun G ≡ routes
  unfolding routes_in
  begun_are = sym (length-drop 1 G) ∙ el

  are : held ns family text ≡ family ∷ routes ∷ words_from G
  are = held_words ns family text ok ∙ ap (λ (n : ℕ). family ∷ n ∷ words_from G) begun_are

  long : length (held ns family text) ≡ 2 + length (words_from G)
  long = ap length are ∙ (omega arith)

  module _ (xs : List ℕ) (fits : length (held ns family text) ≤ length xs) (few : length (held ns family text) ≤ 65536) (small : routes ≤ 65536) where
    pub words_one : 0 < length xs
    words_one = let l = long in omega arith

    pub words_two : 1 < length (set xs 0 family)
    words_two = let l = long in let b = length-set xs 0 family in omega arith

    pub words_holding : Holding ns text routes (set (set xs 0 family) 1 routes)
    words_holding =
        let l = long in
        let a = length-set (set xs 0 family) 1 routes in
        let b = length-set xs 0 family in
        record { good = ok; fits = omega arith; short = omega arith; count = get_or-set_same (set xs 0 family) 1 routes 0 (omega arith); few = small }

    pub words_put : (ys : List ℕ) → ys ≡ sets (set (set xs 0 family) 1 routes) 2 (words_from G) → ys ≡ over (held ns family text) xs
    words_put ys e = e ∙ ap (sets xs 0) (sym are) ∙ sets-eq (held ns family text) xs 0 (omega arith) ∙ rw zero-add

-- ---- 22, and the answer

module _ {ns : List (List ℕ)} {text : List ℕ} {c : Scan} (sc : Counted ns text c) where
  pub words_few : (family : ℕ) → 2 + c.routes + 4 * c.lines ≤ 65536 → length (held ns family text) ≤ 65536
  words_few family h = let l = sc.words family in omega arith

  pub room_fits : (family room : ℕ) → 2 + c.routes + 4 * c.lines ≤ room → length (held ns family text) ≤ room
  room_fits family room h = let l = sc.words family in omega arith

module _ (p : Panel) (names : List ℕ) (family : ℕ) (text : List ℕ) {c : Scan} (sc : Counted (lines_of names) text c) where
  abbrev ws : List ℕ
  ws = held (lines_of names) family text

  many : length ws ≡ 2 + c.routes + 4 * c.lines
  many = sc.words family

  pub words_22 : (xs : List ℕ) → 65536 < 2 + c.routes + 4 * c.lines → Replied (given_refusal p ws) ws xs xs (record { refusal = 22; place = 0; length = 0 })
  words_22 xs lt =
      let l = many in
      refused_by (given_refusal p ws) 21 ws xs _ (sym (given_many p ws (record { number = 22; place = 0 }) (omega arith) refl)) refl

  module _ (le : 2 + c.routes + 4 * c.lines ≤ 65536) (xs : List ℕ) where
    is : assignment_refusal p (held_in names family text) ≡ given_refusal p ws
    unfolding given_refusal held
    is = sym (rw (le-leb (length ws) 65536 (words_few sc family le), decode_encode (held_in names family text)))

    pub words_refused : (e : AssignmentRefusal) → record { number = number_of e; place = place_of e } ≡ assignment_refusal p (held_in names family text)
        → Replied (given_refusal p ws) ws xs xs (record { refusal = number_of e; place = place_of e; length = 0 })
    words_refused e q = subst (λ (x : Refusal). Replied x ws xs xs (record { refusal = number_of e; place = place_of e; length = 0 })) (q ∙ is) (refused (record { number = number_of e; place = place_of e }) ws xs _ (some_refusal e) refl)

    pub words_given : (ys : List ℕ) (n : ℕ) → no_refusal ≡ assignment_refusal p (held_in names family text) → ys ≡ over ws xs → n ≡ 2 + c.routes + 4 * c.lines → Replied (given_refusal p ws) ws xs ys (record { refusal = 0; place = 0; length = n })
    words_given ys n q ey en = subst (λ (x : Refusal). Replied x ws xs ys (record { refusal = 0; place = 0; length = n })) (q ∙ is) (record { answer = rw (many, en); room = ey })

-- ---- 35, 36, 37

module _ (p : Panel) (ns : List (List ℕ)) (family : ℕ) (text xs : List ℕ) where
  pub text_35 : text_ok text ≡ false → Replied (text_refusal p ns family text (length xs)) (held ns family text) xs xs (record { refusal = 35; place = 0; length = 0 })
  unfolding text_refusal
  text_35 f = refused_by (text_refusal p ns family text (length xs)) 34 (held ns family text) xs _ (rw f) refl

  module _ (ok : text_ok text ≡ true) where
    pub text_36 : all_known ns text ≡ false → Replied (text_refusal p ns family text (length xs)) (held ns family text) xs xs (record { refusal = 36; place = 0; length = 0 })
    unfolding text_refusal
    text_36 f = refused_by (text_refusal p ns family text (length xs)) 35 (held ns family text) xs _ (rw (ok, f)) refl

    module _ (known : all_known ns text ≡ true) {c : Scan} (sc : Counted ns text c) where
      pub short_37 : length xs < 2 + c.routes + 4 * c.lines → Replied (text_refusal p ns family text (length xs)) (held ns family text) xs xs (record { refusal = 37; place = 0; length = 0 })
      unfolding text_refusal
      short_37 lt = let l = sc.words family in refused_by (text_refusal p ns family text (length xs)) 36 (held ns family text) xs _ (rw (ok, known, lt-leb (length (held ns family text)) (length xs) (omega arith))) refl

      pub text_read : {ys : List ℕ} {r : BedReply} → 2 + c.routes + 4 * c.lines ≤ length xs → Replied (given_refusal p (held ns family text)) (held ns family text) xs ys r → Replied (text_refusal p ns family text (length xs)) (held ns family text) xs ys r
      unfolding text_refusal
      text_read le d = let l = sc.words family in rw (ok, known, le-leb (length (held ns family text)) (length xs) (omega arith)) d

pub ruleset text_steps = (text_35, text_36, short_37, text_read, room_fits)
