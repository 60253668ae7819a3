-- Laws of the words of an assignment as they are written.
use Prim.Native.Nat.{ℕ, zero, suc, ◌+◌, ◌-◌, ◌*◌, ◌≤◌, ◌<◌}
use native.Mathlib.Numerals.{add-one}
use native.Mathlib.Omega.{arith}
use mathlib.Core.Path.{◌≡◌, refl, sym, ap, ap₂, ◌∙◌}
use mathlib.Core.Bool.{Bool, true, false}
use mathlib.Core.List.{List, [], ◌∷◌, ◌++◌, map, append_assoc, append-nil}
use lib.Dec.{eqb}
use lib.ListN.{length, set, get_or, take, drop, length-append, length-set, length-drop, length-map}
use lib.Seq.{sets, sets-eq, length-sets, take_at, drop_at, set_at, drop-drop, drop-cons, length-take-le, take-suc, take_all}
use borrow.Author.Tests.{eq-eqb, ne_eqb}
use Rattle.image.specs.declared.Header.{Header}
use Rattle.image.specs.declared.Entry.{Entry}
use Rattle.image.specs.declared.Family.{Family}
use Rattle.image.specs.Image.{entries, paths_of, no_entry}
use Rattle.image.specs.Inner.{Groups}
use Rattle.image.specs.Panel.{Panel, panel_of, lane_at, paths_at}
use Rattle.image.proofs.Laws.{panel_entry, family_length}
use Rattle.panel.specs.Inner.{Accepted}
use Rattle.advance.proofs.Laws.{paths_are, path_named}
use Rattle.evaluate.specs.declared.Segment.{Segment}
use Rattle.evaluate.specs.Segments.{Route, whole, native_of}
use Rattle.evaluate.specs.Words.{bit, segment_words, route_words, encode}
use Rattle.frames.specs.declared.Stored.{Stored}
use Rattle.frames.specs.Inner.{Path, longer, path_at, piece_at, stored_at}
use Rattle.frames.proofs.Laws.{path_zero, path_suc}
use Rattle.walks.specs.Inner.{assigned}
use Rattle.writer.specs.declared.Pen.{Pen}
use Rattle.writer.specs.Inner.{segment_put, whole_put, begun, path_words, Penned, Roomy, Added, Opened, Pieced, Written}

-- ---- words of longer lists

segments_last : (r : Route) (s : Segment) → segment_words (r ++ (s ∷ [])) ≡ segment_words r ++ segment_words (s ∷ [])
segments_last [] s = refl
segments_last (t ∷ r) s = ap (λ (l : List ℕ). t.source ∷ t.start ∷ t.end ∷ bit t.reverse ∷ l) (segments_last r s)

routes_last : (rs : List Route) (r : Route) → route_words (rs ++ (r ∷ [])) ≡ route_words rs ++ (length r ∷ segment_words r)
routes_last [] r = ap (λ (l : List ℕ). length r ∷ l) (append-nil (segment_words r))
routes_last (t ∷ rs) r = ap (λ (l : List ℕ). length t ∷ (segment_words t ++ l)) (routes_last rs r) ∙ ap (λ (l : List ℕ). length t ∷ l) (sym (append_assoc (segment_words t) (route_words rs) (length r ∷ segment_words r)))

segments_length : (r : Route) → length (segment_words r) ≡ 4 * length r
segments_length [] = refl
segments_length (s ∷ r) = let e = segments_length r in omega arith

routes_few : (rs : List Route) → length rs ≤ length (route_words rs)
routes_few [] = omega arith
routes_few (r ∷ rs) = let e = routes_few rs in let l = length-append (segment_words r) (route_words rs) in omega arith

last_length : {A : Type 0} (l : List A) (a : A) → length (l ++ (a ∷ [])) ≡ suc (length l)
last_length l a = length-append l (a ∷ []) ∙ omega arith

-- how many words a path has
size_is : (family : ℕ) (a : Path) → length (path_words family a) ≡ 2 + length (route_words a.routes) + 1 + 4 * length a.route
size_is family a = let e = length-append (route_words a.routes) (length a.route ∷ segment_words a.route) in let q = segments_length a.route in omega arith

-- ---- the pen

module _ (family : ℕ) (a : Path) (zs xs : List ℕ) (p : Pen) (k : Penned family a zs xs p) where
  pub penned_roomy : (n : ℕ) → length (path_words family a) + n ≤ length xs → Roomy xs p n
  penned_roomy n l =
      let z = size_is family a in
      let f = routes_few a.routes in
      let e1 = k.head in
      let e2 = k.at in
      let e3 = k.count in
      let e4 = k.routes in
      record { room = omega arith; second = omega arith; head = omega arith; count = omega arith; routes = omega arith }

  module _ (ys : List ℕ) (s : Segment) (r : Pen) (room : p.at + 4 ≤ length xs) (d : Added xs ys p s r) where
    add_size : length (path_words family (longer true a s)) ≡ length (path_words family a) + 4
    add_size =
        let z = size_is family a in
        let y = size_is family (longer true a s) in
        let l = last_length a.route s in
        omega arith

    added_room : ys ≡ path_words family (longer true a s) ++ drop (length (path_words family (longer true a s))) zs
    unfolding segment_put
    added_room =
        let front : take p.at xs ≡ path_words family a = rw k.words (take_at (path_words family a) (drop (length (path_words family a)) zs) p.at (sym k.at)) in
        let tail : drop p.at xs ≡ drop (length (path_words family a)) zs = rw k.words (drop_at (path_words family a) (drop (length (path_words family a)) zs) p.at (sym k.at)) in
        let back : drop (p.at + 4) xs ≡ drop (length (path_words family a) + 4) zs = sym (drop-drop 4 p.at xs) ∙ ap (λ (l : List ℕ). drop 4 l) tail ∙ drop-drop 4 (length (path_words family a)) zs in
        let put : sets xs p.at (segment_words (s ∷ [])) ≡ (path_words family a ++ segment_words (s ∷ [])) ++ drop (length (path_words family a) + 4) zs =
        sets-eq (segment_words (s ∷ [])) xs p.at room ∙ rw (front, back) in
        let shape : (path_words family a ++ segment_words (s ∷ [])) ++ drop (length (path_words family a) + 4) zs
        ≡ (family ∷ suc (length a.routes) ∷ route_words a.routes) ++ (length a.route ∷ (segment_words a.route ++ (segment_words (s ∷ []) ++ drop (length (path_words family a) + 4) zs))) = simp append_assoc in
        let count : p.count + 1 ≡ length (a.route ++ (s ∷ [])) = (let c = k.count in let l = last_length a.route s in omega arith) in
        let past : List ℕ = drop (length (path_words family a) + 4) zs in
        let here : length {A = ℕ} (family ∷ suc (length a.routes) ∷ route_words a.routes) ≡ p.head = (let e = k.head in omega arith) in
        let words : (family ∷ suc (length a.routes) ∷ route_words a.routes) ++ (length (a.route ++ (s ∷ [])) ∷ (segment_words a.route ++ segment_words (s ∷ []))) ≡ path_words family (longer true a s) =
        ap (λ (l : List ℕ). (family ∷ suc (length a.routes) ∷ route_words a.routes) ++ (length (a.route ++ (s ∷ [])) ∷ l)) (sym (segments_last a.route s)) in
        let regroup : (family ∷ suc (length a.routes) ∷ route_words a.routes) ++ (length (a.route ++ (s ∷ [])) ∷ (segment_words a.route ++ (segment_words (s ∷ []) ++ past)))
        ≡ ((family ∷ suc (length a.routes) ∷ route_words a.routes) ++ (length (a.route ++ (s ∷ [])) ∷ (segment_words a.route ++ segment_words (s ∷ [])))) ++ past = simp append_assoc in
        d.room ∙ ap₂ (λ (l : List ℕ) (n : ℕ). set l p.head n) (put ∙ shape) count
        ∙ set_at (family ∷ suc (length a.routes) ∷ route_words a.routes) (length a.route) (segment_words a.route ++ (segment_words (s ∷ []) ++ past)) (length (a.route ++ (s ∷ []))) p.head here
        ∙ regroup
        ∙ ap₂ (λ (l m : List ℕ). l ++ m) words (ap (λ (n : ℕ). drop n zs) (sym add_size))

    pub penned_segment : Penned family (longer true a s) zs ys r
    penned_segment =
        let l = last_length a.route s in
        let e1 = k.at in
        let e2 = k.count in
        let y = add_size in
        rw d.pen (record { words = added_room; head = k.head; at = omega arith; count = omega arith; routes = k.routes })

  module _ (ys : List ℕ) (r : Pen) (room : p.at + 1 ≤ length xs) (d : Opened xs ys p r) where
    next_size : length (path_words family (record { routes = a.routes ++ (a.route ∷ []); route = [] })) ≡ length (path_words family a) + 1
    next_size =
        let z = size_is family a in
        let y = size_is family (record { routes = a.routes ++ (a.route ∷ []); route = [] }) in
        let l = ap length (routes_last a.routes a.route) in
        let m = length-append (route_words a.routes) (length a.route ∷ segment_words a.route) in
        let q = segments_length a.route in
        omega arith

    next_words : path_words family (record { routes = a.routes ++ (a.route ∷ []); route = [] })
        ≡ family ∷ suc (suc (length a.routes)) ∷ ((route_words a.routes ++ (length a.route ∷ segment_words a.route)) ++ (0 ∷ []))
    next_words = rw (last_length a.routes a.route, routes_last a.routes a.route)

    long_enough : length (path_words family a) < length zs
    long_enough =
        let e = ap length k.words ∙ length-append (path_words family a) (drop (length (path_words family a)) zs) in
        let f = length-drop (length (path_words family a)) zs in
        let g = k.at in
        omega arith

    opened_room : ys ≡ path_words family (record { routes = a.routes ++ (a.route ∷ []); route = [] }) ++ drop (length (path_words family (record { routes = a.routes ++ (a.route ∷ []); route = [] }))) zs
    opened_room =
        let rest : List ℕ = drop (suc (length (path_words family a))) zs in
        let cut : drop (length (path_words family a)) zs ≡ get_or zs (length (path_words family a)) 0 ∷ drop (suc (length (path_words family a))) zs = drop-cons zs (length (path_words family a)) 0 long_enough in
        let one : set xs p.at 0 ≡ path_words family a ++ (0 ∷ drop (suc (length (path_words family a))) zs) =
        ap (λ (l : List ℕ). set l p.at 0) (k.words ∙ ap (λ (l : List ℕ). path_words family a ++ l) cut)
        ∙ (set_at (path_words family a) (get_or zs (length (path_words family a)) 0) (drop (suc (length (path_words family a))) zs) 0 p.at (sym k.at)) in
        let two : p.routes + 1 ≡ suc (suc (length a.routes)) = (let e = k.routes in omega arith) in
        let size : length (path_words family (record { routes = a.routes ++ (a.route ∷ []); route = [] })) ≡ suc (length (path_words family a)) = next_size ∙ add-one _ in
        let middle : List ℕ = route_words a.routes ++ (length a.route ∷ segment_words a.route) in
        let regroup : family ∷ suc (suc (length a.routes)) ∷ (middle ++ (0 ∷ rest)) ≡ (family ∷ suc (suc (length a.routes)) ∷ (middle ++ (0 ∷ []))) ++ rest = simp append_assoc in
        d.room ∙ ap₂ (λ (l : List ℕ) (m : ℕ). set l 1 m) one two
        ∙ set_at (family ∷ []) (suc (length a.routes)) (middle ++ (0 ∷ rest)) (suc (suc (length a.routes))) 1 refl
        ∙ regroup
        ∙ ap₂ (λ (l m : List ℕ). l ++ m) (sym next_words) (ap (λ (m : ℕ). drop m zs) (sym size))

    pub penned_route : Penned family (record { routes = a.routes ++ (a.route ∷ []); route = [] }) zs ys r
    penned_route =
        let e1 = k.at in
        let e2 = k.routes in
        let l = last_length a.routes a.route in
        let y = next_size in
        let z = size_is family a in
        let w = ap length (routes_last a.routes a.route) in
        let m = length-append (route_words a.routes) (length a.route ∷ segment_words a.route) in
        let q = segments_length a.route in
        rw d.pen (record { words = opened_room; head = omega arith; at = omega arith; count = refl; routes = omega arith })

-- ---- one piece

added_length : (xs ys : List ℕ) (p : Pen) (s : Segment) (r : Pen) → Added xs ys p s r → length ys ≡ length xs
unfolding segment_put
added_length xs ys p s r d = ap length d.room ∙ length-set (segment_put xs p.at s) p.head (p.count + 1) ∙ length-sets xs p.at (segment_words (s ∷ []))

pub roomy_after : (xs ys : List ℕ) (p : Pen) (s : Segment) (q : Pen) → Roomy xs p 5 → Added xs ys p s q → Roomy ys q 1
roomy_after xs ys p s q r d =
    let l = added_length xs ys p s q d in
    let a = r.room in
    let b = r.second in
    let c = r.head in
    let e = r.count in
    let f = r.routes in
    rw d.pen (record { room = omega arith; second = b; head = omega arith; count = omega arith; routes = omega arith })

step_path : (fs : List ℕ) (i : ℕ) (t : Bool) → eqb (stored_at fs i).slot (stored_at fs (i + 1)).slot ≡ t → path_at fs (i + 1) ≡ longer t (path_at fs i) (piece_at fs i)
unfolding piece_at
step_path fs i t e = rw add-one (path_suc fs i ∙ rw (← e, add-one))

module _ (fs : List ℕ) (i : ℕ) (xs ys : List ℕ) (p : Pen) (s : Segment) (q : Pen) (below above : Stored) (ro : Roomy xs p 5) (d : Added xs ys p s q) (es : s ≡ piece_at fs i) (eb : below ≡ stored_at fs i) (ea : above ≡ stored_at fs (i + 1)) where
  pub piece_same : below.slot ≡ above.slot → Pieced fs i xs ys p q
  piece_same e =
      let room : p.at + 4 ≤ length xs = (let a = ro.room in omega arith) in
      let t : eqb (stored_at fs i).slot (stored_at fs (i + 1)).slot ≡ true = rw (← eb, ← ea) (eq-eqb below.slot above.slot e) in
      record { on = λ family zs k. rw (step_path fs i true t, ← es) (penned_segment family (path_at fs i) zs xs p k ys s q room d) }

  pub piece_closes : (ws : List ℕ) (r : Pen) → (below.slot ≡ above.slot → ⊥) → Opened ys ws q r → Pieced fs i xs ws p r
  piece_closes ws r n o =
      let room : p.at + 4 ≤ length xs = (let a = ro.room in omega arith) in
      let more : q.at + 1 ≤ length ys = (roomy_after xs ys p s q ro d).room in
      let t : eqb (stored_at fs i).slot (stored_at fs (i + 1)).slot ≡ false = rw (← eb, ← ea) (ne_eqb below.slot above.slot n) in
      record { on = λ family zs k. rw (step_path fs i false t, ← es) (penned_route family (longer true (path_at fs i) s) zs ys q (penned_segment family (path_at fs i) zs xs p k ys s q room d) ws r more o) }

-- ---- the whole path

size_more : (family : ℕ) (a : Path) (s : Segment) (t : Bool) → length (path_words family a) + 4 ≤ length (path_words family (longer t a s))
size_more family a s true =
    let z = size_is family a in
    let y = size_is family (longer true a s) in
    let l = last_length a.route s in
    omega arith
size_more family a s false =
    let z = size_is family a in
    let y = size_is family (longer false a s) in
    let l = last_length a.route s in
    let w = ap length (routes_last a.routes (a.route ++ (s ∷ []))) in
    let m = length-append (route_words a.routes) (length (a.route ++ (s ∷ [])) ∷ segment_words (a.route ++ (s ∷ []))) in
    let q = segments_length (a.route ++ (s ∷ [])) in
    omega arith

size_step : (family : ℕ) (fs : List ℕ) (i : ℕ) → length (path_words family (path_at fs i)) + 4 ≤ length (path_words family (path_at fs (i + 1)))
size_step family fs i = rw (step_path fs i _ refl) (size_more family (path_at fs i) (piece_at fs i) (eqb (stored_at fs i).slot (stored_at fs (i + 1)).slot))

size_up : (family : ℕ) (fs : List ℕ) (i k : ℕ) → length (path_words family (path_at fs i)) ≤ length (path_words family (path_at fs (i + k)))
size_up family fs i zero = let e : i + 0 ≡ i = omega arith in rw e (omega arith)
size_up family fs i (suc k) =
    let a = size_up family fs i k in
    let b = size_step family fs (i + k) in
    let e : i + suc k ≡ i + k + 1 = omega arith in
    rw e (omega arith)

-- the words of the completed assignment are those of the path with its closing piece
encode_is : (family : ℕ) (fs : List ℕ) (top : ℕ) (s : Segment) → encode (assigned family fs top s) ≡ path_words family (longer true (path_at fs top) s)
unfolding encode
encode_is family fs top s = rw (last_length (path_at fs top).routes ((path_at fs top).route ++ (s ∷ [])), routes_last (path_at fs top).routes ((path_at fs top).route ++ (s ∷ [])))

encode_size : (family : ℕ) (fs : List ℕ) (top : ℕ) (s : Segment) → length (encode (assigned family fs top s)) ≡ length (path_words family (path_at fs top)) + 4
encode_size family fs top s =
    let e = ap length (encode_is family fs top s) in
    let z = size_is family (path_at fs top) in
    let y = size_is family (longer true (path_at fs top) s) in
    let l = last_length (path_at fs top).route s in
    omega arith

-- under way: the words of the path to frame i; zs is the room where the loop began
pub record Writing (family : ℕ) (fs : List ℕ) (top : ℕ) (s : Segment) (zs xs : List ℕ) (p : Pen) (i : ℕ) : Type 0 where
  pub penned : Penned family (path_at fs i) zs xs p
  pub within : i ≤ top
  pub long : length xs ≡ length zs
  pub room : length (encode (assigned family fs top s)) ≤ length zs

pub words_some : (family : ℕ) (fs : List ℕ) (top : ℕ) (s : Segment) (xs : List ℕ) → length (encode (assigned family fs top s)) ≤ length xs → 3 ≤ length xs
words_some family fs top s xs l = let e = encode_size family fs top s in let z = size_is family (path_at fs top) in omega arith

begun_is : (family : ℕ) (zs xs : List ℕ) → 3 ≤ length zs → xs ≡ begun zs family → xs ≡ (family ∷ 1 ∷ 0 ∷ []) ++ drop 3 zs
unfolding begun
begun_is family zs xs l e = e ∙ sets-eq (family ∷ 1 ∷ 0 ∷ []) zs 0 l

pub writing_start : (family : ℕ) (fs : List ℕ) (top : ℕ) (s : Segment) (zs xs : List ℕ) (p : Pen) → length (encode (assigned family fs top s)) ≤ length zs → xs ≡ begun zs family → p ≡ record { head = 2; at = 3; count = 0; routes = 1 }
    → length xs ≡ length zs → Writing family fs top s xs xs p 0
writing_start family fs top s zs xs p room e ep l =
    let b = begun_is family zs xs (words_some family fs top s zs room) e in
    let d : drop 3 xs ≡ drop 3 zs = rw b (drop_at (family ∷ 1 ∷ 0 ∷ []) (drop 3 zs) 3 refl) in
    record {
      penned = rw (path_zero fs, ep) (record { words = b ∙ ap (λ (t : List ℕ). (family ∷ 1 ∷ 0 ∷ []) ++ t) (sym d); head = refl; at = refl; count = refl; routes = refl });
      within = omega arith;
      long = refl;
      room = omega arith;
    }

module _ (family : ℕ) (fs : List ℕ) (top : ℕ) (s : Segment) (zs xs : List ℕ) (p : Pen) (i : ℕ) (w : Writing family fs top s zs xs p i) where
  pub piece_roomy : i < top → Roomy xs p 5
  piece_roomy lt =
      let e = encode_size family fs top s in
      let a = size_step family fs i in
      let k : i + 1 + (top - (i + 1)) ≡ top = omega arith in
      let b : length (path_words family (path_at fs (i + 1))) ≤ length (path_words family (path_at fs top)) = rw k at (size_up family fs (i + 1) (top - (i + 1))) in
      let l = w.long in
      let r = w.room in
      penned_roomy family (path_at fs i) zs xs p w.penned 5 (omega arith)

  pub writing_next : (ys : List ℕ) (q : Pen) → i < top → Pieced fs i xs ys p q → length ys ≡ length xs → Writing family fs top s zs ys q (i + 1)
  writing_next ys q lt d l = let m = w.long in record { penned = d.on family zs w.penned; within = omega arith; long = l ∙ m; room = w.room }

  module _ (le : top ≤ i) where
    at_top : i ≡ top
    at_top = let o = w.within in omega arith

    pub last_roomy : Roomy xs p 4
    last_roomy =
        let e = encode_size family fs top s in
        let l = w.long in
        let r = w.room in
        let q = at_top in
        penned_roomy family (path_at fs i) zs xs p w.penned 4 (rw at_top (omega arith))

    pub written_done : (es ys : List ℕ) (q : Pen) → Added xs ys p s q → zs ≡ begun es family → length zs ≡ length es → Written (encode (assigned family fs top s)) es ys q.at
    written_done es ys q d eb el =
        let k = penned_segment family (path_at fs i) zs xs p w.penned ys s q last_roomy.room d in
        let k2 : Penned family (longer true (path_at fs top) s) zs ys q = rw at_top at k in
        let e = encode_is family fs top s in
        let three : 3 ≤ length es = (let z = encode_size family fs top s in let y = size_is family (path_at fs top) in let r = w.room in omega arith) in
        let b = begun_is family es zs three eb in
        let n : length (encode (assigned family fs top s)) ≡ 3 + (length (encode (assigned family fs top s)) - 3) = (let z = encode_size family fs top s in let y = size_is family (path_at fs top) in omega arith) in
        let d3 : drop 3 zs ≡ drop 3 es = rw b (drop_at (family ∷ 1 ∷ 0 ∷ []) (drop 3 es) 3 refl) in
        let past : drop (length (encode (assigned family fs top s))) zs ≡ drop (length (encode (assigned family fs top s))) es =
        rw n (sym (drop-drop (length (encode (assigned family fs top s)) - 3) 3 zs) ∙ ap (λ (l : List ℕ). drop (length (encode (assigned family fs top s)) - 3) l) d3 ∙ drop-drop (length (encode (assigned family fs top s)) - 3) 3 es) in
        record { room = k2.words ∙ ap (λ (w : List ℕ). w ++ drop (length w) zs) (sym e) ∙ ap (λ (l : List ℕ). encode (assigned family fs top s) ++ l) past; count = k2.at ∙ sym (ap length e) }

-- ---- natives

pub whole_told : (s : List ℕ) (h : Header) (family : Family) (i lane at : ℕ) (e : Entry) (xs ys : List ℕ) → Accepted s h → lane ≡ get_or (paths_of h s family.number) i 0 → e ≡ get_or (entries h s) lane no_entry
    → ys ≡ whole_put xs at lane e.len → ys ≡ sets xs at (route_words (whole (panel_of s) (get_or (paths_at (panel_of s) family.number) i 0) ∷ []))
unfolding whole_put
whole_told s h family i lane at e xs ys acc el ee ey =
    let len : (lane_at (panel_of s) lane).len ≡ e.len = (panel_entry s h lane acc.counted.framed).0 ∙ ap (λ (x : Entry). x.len) (sym ee) in
    ey ∙ rw (paths_are s h family.number acc.counted.framed, ← el, len)

-- the natives of the first i paths are written
pub record Natives (p : Panel) (f n : ℕ) (zs xs : List ℕ) (i : ℕ) : Type 0 where
  pub words : xs ≡ (f ∷ n ∷ route_words (map (whole p) (take i (paths_at p f)))) ++ drop (2 + 5 * i) zs
  pub within : i ≤ n
  pub long : length xs ≡ length zs

routes_join : (rs qs : List Route) → route_words (rs ++ qs) ≡ route_words rs ++ route_words qs
routes_join [] qs = refl
routes_join (r ∷ rs) qs = ap (λ (l : List ℕ). length r ∷ (segment_words r ++ l)) (routes_join rs qs) ∙ ap (λ (l : List ℕ). length r ∷ l) (sym (append_assoc (segment_words r) (route_words rs) (route_words qs)))

wholes_length : (p : Panel) (l : List ℕ) → length (route_words (map (whole p) l)) ≡ 5 * length l
wholes_length p [] = refl
wholes_length p (a ∷ l) = let e = wholes_length p l in omega arith

map_last : (p : Panel) (l : List ℕ) (a : ℕ) → map (whole p) (l ++ (a ∷ [])) ≡ map (whole p) l ++ (whole p a ∷ [])
map_last p [] a = refl
map_last p (b ∷ l) a = ap (λ (r : List Route). whole p b ∷ r) (map_last p l a)

module _ (p : Panel) (f n : ℕ) (zs xs : List ℕ) (i : ℕ) (k : Natives p f n zs xs i) where
  abbrev at : ℕ
  at = 2 + 5 * i

  pub natives_next : (ys : List ℕ) → length (paths_at p f) ≡ n → i < n → at + 5 ≤ length xs → ys ≡ sets xs at (route_words (whole p (get_or (paths_at p f) i 0) ∷ [])) → Natives p f n zs ys (i + 1)
  natives_next ys long lt room e =
      let done = take i (paths_at p f) in
      let front : length {A = ℕ} (f ∷ n ∷ route_words (map (whole p) (take i (paths_at p f)))) ≡ at =
      (let w = wholes_length p (take i (paths_at p f)) in let l = length-take-le i (paths_at p f) (omega arith) in omega arith) in
      let one : take at xs ≡ f ∷ n ∷ route_words (map (whole p) (take i (paths_at p f))) = rw k.words (take_at (f ∷ n ∷ route_words (map (whole p) (take i (paths_at p f)))) (drop at zs) at front) in
      let rest : drop at xs ≡ drop at zs = rw k.words (drop_at (f ∷ n ∷ route_words (map (whole p) (take i (paths_at p f)))) (drop at zs) at front) in
      let two : drop (at + 5) xs ≡ drop (at + 5) zs = sym (drop-drop 5 at xs) ∙ ap (λ (l : List ℕ). drop 5 l) rest ∙ drop-drop 5 at zs in
      let more : take (suc i) (paths_at p f) ≡ take i (paths_at p f) ++ (get_or (paths_at p f) i 0 ∷ []) = take-suc (paths_at p f) i 0 (omega arith) in
      let put : ys ≡ ((f ∷ n ∷ route_words (map (whole p) (take i (paths_at p f)))) ++ route_words (whole p (get_or (paths_at p f) i 0) ∷ [])) ++ drop (at + 5) zs =
      e ∙ sets-eq (route_words (whole p (get_or (paths_at p f) i 0) ∷ [])) xs at room ∙ rw (one, two) in
      let words : route_words (map (whole p) (take (i + 1) (paths_at p f))) ≡ route_words (map (whole p) (take i (paths_at p f))) ++ route_words (whole p (get_or (paths_at p f) i 0) ∷ []) =
      rw (add-one, more, map_last p (take i (paths_at p f)) (get_or (paths_at p f) i 0)) (routes_join (map (whole p) (take i (paths_at p f))) (whole p (get_or (paths_at p f) i 0) ∷ [])) in
      let on : at + 5 ≡ 2 + 5 * (i + 1) = omega arith in
      record {
        words = put ∙ ap (λ (l : List ℕ). (f ∷ n ∷ l) ++ drop (at + 5) zs) (sym words) ∙ ap (λ (m : ℕ). (f ∷ n ∷ route_words (map (whole p) (take (i + 1) (paths_at p f)))) ++ drop m zs) on;
        within = omega arith;
        long = ap length e ∙ length-sets xs at (route_words (whole p (get_or (paths_at p f) i 0) ∷ [])) ∙ k.long;
      }

stores_are : (f n : ℕ) (es zs : List ℕ) → 2 ≤ length es → zs ≡ set (set es 0 f) 1 n → zs ≡ (f ∷ n ∷ []) ++ drop 2 es
stores_are f n es zs l e = e ∙ sets-eq (f ∷ n ∷ []) es 0 l

pub natives_start : (p : Panel) (f n : ℕ) (es : List ℕ) → 2 + 5 * n ≤ length es → Natives p f n (set (set es 0 f) 1 n) (set (set es 0 f) 1 n) 0
natives_start p f n es l =
    let b = stores_are f n es (set (set es 0 f) 1 n) (omega arith) refl in
    let d : drop 2 (set (set es 0 f) 1 n) ≡ drop 2 es = rw b (drop_at (f ∷ n ∷ []) (drop 2 es) 2 refl) in
    record { words = b ∙ ap (λ (t : List ℕ). (f ∷ n ∷ []) ++ t) (sym d); within = omega arith; long = refl }

pub natives_done : (p : Panel) (f n : ℕ) (es ys : List ℕ) (i : ℕ) → Natives p f n (set (set es 0 f) 1 n) ys i → n ≤ i → length (paths_at p f) ≡ n → 2 + 5 * n ≤ length es → Written (encode (native_of p f)) es ys (2 + 5 * n)
unfolding encode
natives_done p f n es ys i k le long l =
    let o = k.within in
    let same : i ≡ n = omega arith in
    let b = stores_are f n es (set (set es 0 f) 1 n) (omega arith) refl in
    let d2 : drop 2 (set (set es 0 f) 1 n) ≡ drop 2 es = rw b (drop_at (f ∷ n ∷ []) (drop 2 es) 2 refl) in
    let past : drop (2 + 5 * n) (set (set es 0 f) 1 n) ≡ drop (2 + 5 * n) es =
    sym (drop-drop (5 * n) 2 (set (set es 0 f) 1 n)) ∙ ap (λ (m : List ℕ). drop (5 * n) m) d2 ∙ drop-drop (5 * n) 2 es in
    let all-paths : take n (paths_at p f) ≡ paths_at p f = take_all n (paths_at p f) (omega arith) in
    let count : length (map (whole p) (paths_at p f)) ≡ n = length-map (paths_at p f) (whole p) ∙ long in
    let size : length (encode (native_of p f)) ≡ 2 + 5 * n = (let w = wholes_length p (paths_at p f) in omega arith) in
    let words : (f ∷ n ∷ route_words (map (whole p) (take n (paths_at p f)))) ≡ encode (native_of p f) = ap₂ (λ (c : ℕ) (m : List ℕ). f ∷ c ∷ route_words (map (whole p) m)) (sym count) all-paths in
    record { room = rw same at k.words ∙ ap₂ (λ (a b : List ℕ). a ++ b) words (past ∙ ap (λ (m : ℕ). drop m es) (sym size)); count = sym size }

pub native_length : (s : List ℕ) (h : Header) (family : Family) → Accepted s h → Groups s h family → length (paths_at (panel_of s) family.number) ≡ family.count
native_length s h family acc g = ap length (paths_are s h family.number acc.counted.framed) ∙ family_length s h family g

pub native_lane : (s : List ℕ) (h : Header) (family : Family) (i lane : ℕ) → Accepted s h → Groups s h family → i < family.count → lane ≡ get_or (paths_of h s family.number) i 0 → lane < h.lanes
native_lane = path_named

pub native_room : (p : Panel) (f n : ℕ) (zs xs : List ℕ) (i : ℕ) → Natives p f n zs xs i → i < n → 2 + 5 * n ≤ length zs → 2 + 5 * i + 5 ≤ length xs
native_room p f n zs xs i k lt room = let l = k.long in omega arith
