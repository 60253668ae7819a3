-- Around each switch of a legal assignment the letters read the ports' word.
-- The four cases: with h = k/2 and g = k - h, the left piece ends with the first h letters of its port's word and the right one begins with the last g of
-- its own. Forward, the left exit is anchor + h, so the h letters before it are those from the anchor on; reverse, it is anchor + g, and the last h letters
-- spelled are the reverse complement of those from anchor + g on. Forward, the right entry is anchor + h, followed by the g letters from there on; reverse, it is
-- anchor + g, and the first g letters spelled are the reverse complement of those from the anchor on.
use Prim.Native.Nat.{ℕ, ◌+◌, ◌-◌, ◌/◌, ◌≤◌, ◌<◌}
use native.Mathlib.Omega.{arith}
use mathlib.Core.Path.{◌≡◌, refl, sym, ap, ap₂, ◌∙◌, subst}
use mathlib.Core.Logic.{◌⊎◌, inl, inr}
use mathlib.Core.Bool.{Bool, true, false}
use mathlib.Core.List.Memᴰ
use mathlib.Core.List.{List, [], ◌∷◌, ◌++◌, append_assoc, append-nil, Memᴰ}
use lib.ListN.{length, take, drop, replicate, length-append, length-drop, take-append-drop}
use lib.Seq.{take-take, take_at, drop_at, take_all, take-append-le}
use Rattle.ground.specs.Lists.{pick, all}
use Rattle.ground.proofs.ListLaws.{both}
use Rattle.storage.specs.Bytes.{part}
use Rattle.storage.specs.Records.{padded, cut_of}
use Rattle.storage.specs.declared.Port.{Port}
use Rattle.image.specs.declared.Header.{Header}
use Rattle.image.specs.Panel.{Panel, panel_of, lane_at, paths_at}
use Rattle.panel.specs.Inner.{Accepted}
use Rattle.graph.proofs.PanelLaws.{lane_source, lane_ends}
use Rattle.evaluate.specs.declared.Segment.{Segment}
use Rattle.evaluate.specs.Properties.{Each, Neighbours, Matched}
use Rattle.evaluate.specs.Refusals.{unless}
use Rattle.evaluate.specs.Segments.{Route, SoundSpan}
use Rattle.evaluate.specs.Legal.{Joint, LegalRoute}
use Rattle.evaluate.proofs.Lists.{append_each}
use Rattle.evaluate.proofs.Native.{taken}
use Rattle.evaluate.proofs.Ports.{same_word_is}
use Rattle.evaluate.proofs.CheckLegal.{unless_zero}
use Rattle.letters.specs.Letters.{reverse_complement, oriented, lane_letters, piece, word_fits, port_letters, sound39, sound40, letters_refusal, row_fits}
use Rattle.letters.specs.Inner.{Lettered}
use Rattle.letters.proofs.Reverse.{turned_take, turned_drop}
use Rattle.letters.proofs.Pieces.{part_length, part_join, lane_letters_length, piece_length}
use Rattle.letters.proofs.Laws.{lane_fits, letters_told}
use Rattle.spell.specs.Spelling.{spell_segment, spell_route, crop}
use Rattle.spell.specs.Theorems.{around, ReadsWord, SwitchesReadWords}
use Rattle.spell.proofs.Crops.{crop_cut, early, later, segment_length}

-- ---- lists

part_take : (l : List ℕ) (a m j : ℕ) → j ≤ m → take j (part l a m) ≡ part l a j
part_take l a m j h = take-take j m (drop a l) h

part_drop : (l : List ℕ) (a m j : ℕ) → j ≤ m → a + j ≤ length l → drop j (part l a m) ≡ part l (a + j) (m - j)
part_drop l a m j h k =
    let e : j + (m - j) ≡ m = omega arith in
    ap (drop j) (ap (part l a) (sym e) ∙ sym (part_join l a j (m - j))) ∙ drop_at (part l a j) (part l (a + j) (m - j)) j (part_length l a j k)

-- the letters around the end of the second of four lists
around_seam : (b u v a : List ℕ) (h g : ℕ) → h ≤ length u → g ≤ length v
    → crop (length b + length u - h) (length b + length u + g) (b ++ (u ++ (v ++ a))) ≡ drop (length u - h) u ++ take g v
around_seam b u v a h g hu gv =
    sym (crop_cut w lo mid hi (omega arith) (omega arith)) ∙ ap₂ (λ (x y : List ℕ). x ++ y) before after
  where
    w : List ℕ
    w = b ++ (u ++ (v ++ a))

    lo : ℕ
    lo = length b + length u - h

    mid : ℕ
    mid = length b + length u

    hi : ℕ
    hi = length b + length u + g

    joint : length (b ++ u) ≡ length b + length u
    joint = length-append b u

    split : w ≡ (b ++ u) ++ (v ++ a)
    split = sym (append_assoc b u (v ++ a))

    before : crop lo mid w ≡ drop (length u - h) u
    before =
        let e = joint in
        let x : length b + length u - h - length b ≡ length u - h = omega arith in
        let y : length b + length u - length b - (length u - h) ≡ h = omega arith in
        let z : length (drop (length u - h) u) ≤ h = rw length-drop (omega arith) in
        ap (crop lo mid) split ∙ early (b ++ u) (v ++ a) lo mid (omega arith) (omega arith) ∙ later b u lo mid (omega arith) (omega arith)
        ∙ rw (x, y) (take_all h (drop (length u - h) u) z)

    after : crop mid hi w ≡ take g v
    after =
        let e = joint in
        let x : length b + length u - length (b ++ u) ≡ 0 = omega arith in
        let y : length b + length u + g - length (b ++ u) - 0 ≡ g = omega arith in
        ap (crop mid hi) split ∙ later (b ++ u) (v ++ a) mid hi (omega arith) (omega arith) ∙ rw (x, y) (take-append-le g v a gv)

-- ---- the four cases, h before and g after, k = h + g

-- the end of the left piece: the first h letters of its port
left_side : (l : List ℕ) (r : Bool) (from m anchor k h g : ℕ) → k ≡ h + g → from + m ≤ length l → anchor + k ≤ length l → h ≤ m → anchor + pick r g h ≡ pick r from (from + m)
    → drop (m - h) (oriented r (part l from m)) ≡ take h (oriented r (part l anchor k))
left_side l false from m anchor k h g ek room there hm cut =
    let x : from + (m - h) ≡ anchor = omega arith in
    let y : m - (m - h) ≡ h = omega arith in
    part_drop l from m (m - h) (omega arith) (omega arith) ∙ rw (x, y) (sym (part_take l anchor k h (omega arith)))
left_side l true from m anchor k h g ek room there hm cut = one ∙ sym two
  where
    long : length (part l from m) ≡ m
    long = part_length l from m room

    word : length (part l anchor k) ≡ k
    word = part_length l anchor k there

    one : drop (m - h) (reverse_complement (part l from m)) ≡ reverse_complement (part l from h)
    one =
        let y : m - (m - h) ≡ h = omega arith in
        turned_drop (part l from m) (m - h) (let e = long in omega arith) ∙ rw (long, y) (ap reverse_complement (part_take l from m h hm))

    two : take h (reverse_complement (part l anchor k)) ≡ reverse_complement (part l from h)
    two =
        let x : anchor + (k - h) ≡ from = omega arith in
        let y : k - (k - h) ≡ h = omega arith in
        turned_take (part l anchor k) h (let e = word in omega arith) ∙ rw word (ap reverse_complement (part_drop l anchor k (k - h) (omega arith) (omega arith) ∙ rw (x, y)))

-- the beginning of the right piece: the last g letters of its port
right_side : (l : List ℕ) (r : Bool) (from m anchor k h g : ℕ) → k ≡ h + g → from + m ≤ length l → anchor + k ≤ length l → g ≤ m → anchor + pick r g h ≡ pick r (from + m) from
    → take g (oriented r (part l from m)) ≡ drop h (oriented r (part l anchor k))
right_side l false from m anchor k h g ek room there gm cut =
    let y : k - h ≡ g = omega arith in
    let x : anchor + h ≡ from = cut in
    part_take l from m g gm ∙ sym (part_drop l anchor k h (omega arith) (omega arith) ∙ rw (x, y))
right_side l true from m anchor k h g ek room there gm cut = one ∙ sym two
  where
    long : length (part l from m) ≡ m
    long = part_length l from m room

    word : length (part l anchor k) ≡ k
    word = part_length l anchor k there

    one : take g (reverse_complement (part l from m)) ≡ reverse_complement (part l anchor g)
    one =
        let x : from + (m - g) ≡ anchor = omega arith in
        let y : m - (m - g) ≡ g = omega arith in
        turned_take (part l from m) g (let e = long in omega arith) ∙ rw long (ap reverse_complement (part_drop l from m (m - g) (omega arith) (omega arith) ∙ rw (x, y)))

    two : drop h (reverse_complement (part l anchor k)) ≡ reverse_complement (part l anchor g)
    two =
        let y : k - h ≡ g = omega arith in
        turned_drop (part l anchor k) h (let e = word in omega arith) ∙ rw (word, y) (ap reverse_complement (part_take l anchor k g (omega arith)))

-- ---- routes

neighbours_tail : {A : Type 0} (P : A → A → Type 0) (a : A) (l : List A) → Neighbours P (a ∷ l) → Neighbours P l
neighbours_tail P a [] n = tt
neighbours_tail P a (b ∷ l) n = n.1

neighbours_at : {A : Type 0} (P : A → A → Type 0) (l : List A) (u v : A) (m : List A) → Neighbours P (l ++ u ∷ v ∷ m) → P u v
neighbours_at P [] u v m n = n.0
neighbours_at P (a ∷ l) u v m n = neighbours_at P l u v m (neighbours_tail P a (l ++ u ∷ v ∷ m) n)

matched_mem : {A B : Type 0} (P : A → B → Type 0) (l : List A) (m : List B) (b : B) → Matched P l m → Memᴰ b m → (a : A) × P a b
matched_mem P [] [] b h i = absurd (Memᴰ.not-nil i)
matched_mem P [] (c ∷ m) b h i = absurd h
matched_mem P (a ∷ l) [] b h i = absurd h
matched_mem P (a ∷ l) (c ∷ m) b h i = go (Memᴰ.cases_cons i) (λ j. matched_mem P l m b h.1 j)
  where
    go : (b ≡ c) ⊎ Memᴰ b m → (Memᴰ b m → (x : _) × P x b) → (x : _) × P x b
    go (inl e) ih = (a, subst (λ x. P a x) (sym e) h.0)
    go (inr j) ih = ih j

pub spell_append : (p : Panel) (d : List ℕ) (q r : Route) → spell_route p d (q ++ r) ≡ spell_route p d q ++ spell_route p d r
unfolding spell_route
spell_append p d [] r = refl
spell_append p d (s ∷ q) r = ap (λ (x : List ℕ). spell_segment p d s ++ x) (spell_append p d q r) ∙ sym (append_assoc (spell_segment p d s) (spell_route p d q) (spell_route p d r))

spell_two : (p : Panel) (d : List ℕ) (u v : Segment) (r : Route) → spell_route p d (u ∷ v ∷ r) ≡ spell_segment p d u ++ (spell_segment p d v ++ spell_route p d r)
unfolding spell_route
spell_two p d u v r = refl

spell_one : (p : Panel) (d : List ℕ) (u : Segment) → length (spell_route p d (u ∷ [])) ≡ length (spell_segment p d u)
unfolding spell_route
spell_one p d u = ap length (append-nil (spell_segment p d u))

module _ (p : Panel) (d : List ℕ) (before : Route) (u : Segment) where
  pub spell_last : length (spell_route p d (before ++ u ∷ [])) ≡ length (spell_route p d before) + length (spell_segment p d u)
  spell_last = ap length (spell_append p d before (u ∷ [])) ∙ length-append (spell_route p d before) (spell_route p d (u ∷ [])) ∙ ap (λ (n : ℕ). length (spell_route p d before) + n) (spell_one p d u)

  module _ (v : Segment) (after : Route) where
    spell_whole : spell_route p d (before ++ u ∷ v ∷ after) ≡ spell_route p d before ++ (spell_segment p d u ++ (spell_segment p d v ++ spell_route p d after))
    spell_whole = spell_append p d before (u ∷ v ∷ after) ∙ ap (λ (x : List ℕ). spell_route p d before ++ x) (spell_two p d u v after)

    pub spell_past : length (spell_route p d (before ++ u ∷ [])) + length (spell_segment p d v) ≤ length (spell_route p d (before ++ u ∷ v ∷ after))
    spell_past =
        let a = spell_last in
        let b = ap length spell_whole in
        let c = length-append (spell_route p d before) (spell_segment p d u ++ (spell_segment p d v ++ spell_route p d after)) in
        let e = length-append (spell_segment p d u) (spell_segment p d v ++ spell_route p d after) in
        let f = length-append (spell_segment p d v) (spell_route p d after) in
        omega arith

-- ---- a switch

module _ (s : List ℕ) (h : Header) (acc : Accepted s h) (d : List ℕ) (lettered : Lettered s h d) (fit : (lane : ℕ) (q : Port) → Memᴰ q (lane_at (panel_of s) lane).ports → word_fits (panel_of s) d q ≡ true) where
  -- a port's word is what the letters of its lane read
  word_reads : (lane : ℕ) (q : Port) → Memᴰ q (lane_at (panel_of s) lane).ports → q.word ≡ padded (piece (panel_of s) d lane q.anchor (panel_of s).k q.reverse) (panel_of s).k
  unfolding word_fits
  word_reads lane q m =
      same_word_is q.word (padded (port_letters (panel_of s) d q) (panel_of s).k) (fit lane q m)
      ∙ ap (λ (x : ℕ). padded (piece (panel_of s) d x q.anchor (panel_of s).k q.reverse) (panel_of s).k) (lane_source s h acc lane q m)

  module _ (lane from m : ℕ) (r : Bool) (known : lane < length (panel_of s).lanes) (q : Port) (among : Memᴰ q (lane_at (panel_of s) lane).ports) (turn : q.reverse ≡ r) (inside : from + m ≤ (lane_at (panel_of s) lane).len) where
    long : length (lane_letters (panel_of s) d lane) ≡ (lane_at (panel_of s) lane).len
    long = lane_letters_length (panel_of s) d lettered.total lane known

    ends : q.anchor + (panel_of s).k ≤ length (lane_letters (panel_of s) d lane)
    ends = let e = long in let f = lane_ends s h acc lane q among in omega arith

    room : from + m ≤ length (lane_letters (panel_of s) d lane)
    room = let e = long in omega arith

    word_is : q.word ≡ padded (piece (panel_of s) d lane q.anchor (panel_of s).k r) (panel_of s).k
    word_is = word_reads lane q among ∙ ap (λ (x : Bool). padded (piece (panel_of s) d lane q.anchor (panel_of s).k x) (panel_of s).k) turn

    word_long : length (piece (panel_of s) d lane q.anchor (panel_of s).k r) ≡ (panel_of s).k
    word_long = let e = long in let f = ends in piece_length (panel_of s) d lettered.total lane known q.anchor (panel_of s).k r (omega arith)

    leaves_reads : (panel_of s).k / 2 ≤ m → cut_of q (panel_of s).k ≡ pick r from (from + m)
        → drop (m - (panel_of s).k / 2) (piece (panel_of s) d lane from m r) ≡ take ((panel_of s).k / 2) (piece (panel_of s) d lane q.anchor (panel_of s).k r)
    unfolding piece
    leaves_reads hm cut =
        left_side (lane_letters (panel_of s) d lane) r from m q.anchor (panel_of s).k ((panel_of s).k / 2) ((panel_of s).k - (panel_of s).k / 2) (omega arith) room ends hm
        (ap (λ (x : Bool). q.anchor + pick x ((panel_of s).k - (panel_of s).k / 2) ((panel_of s).k / 2)) (sym turn) ∙ cut)

    enters_reads : (panel_of s).k - (panel_of s).k / 2 ≤ m → cut_of q (panel_of s).k ≡ pick r (from + m) from
        → take ((panel_of s).k - (panel_of s).k / 2) (piece (panel_of s) d lane from m r) ≡ drop ((panel_of s).k / 2) (piece (panel_of s) d lane q.anchor (panel_of s).k r)
    unfolding piece
    enters_reads gm cut =
        right_side (lane_letters (panel_of s) d lane) r from m q.anchor (panel_of s).k ((panel_of s).k / 2) ((panel_of s).k - (panel_of s).k / 2) (omega arith) room ends gm
        (ap (λ (x : Bool). q.anchor + pick x ((panel_of s).k - (panel_of s).k / 2) ((panel_of s).k / 2)) (sym turn) ∙ cut)

  module _ (u v : Segment) (su : SoundSpan (panel_of s) u) (sv : SoundSpan (panel_of s) v) (j : Joint (panel_of s) u v)
      (hu : (panel_of s).k / 2 ≤ length (spell_segment (panel_of s) d u)) (gv : (panel_of s).k - (panel_of s).k / 2 ≤ length (spell_segment (panel_of s) d v)) where
    u_long : length (spell_segment (panel_of s) d u) ≡ u.end - u.start
    u_long = segment_length (panel_of s) d lettered.total u su

    v_long : length (spell_segment (panel_of s) d v) ≡ v.end - v.start
    v_long = segment_length (panel_of s) d lettered.total v sv

    u_end : u.start + (u.end - u.start) ≡ u.end
    u_end = let e = su.some in omega arith

    v_end : v.start + (v.end - v.start) ≡ v.end
    v_end = let e = sv.some in omega arith

    u_inside : u.start + (u.end - u.start) ≤ (lane_at (panel_of s) u.source).len
    u_inside = let e = u_end in let f = su.inside in omega arith

    v_inside : v.start + (v.end - v.start) ≤ (lane_at (panel_of s) v.source).len
    v_inside = let e = v_end in let f = sv.inside in omega arith

    -- the letters of the left port, and of the right one
    left_letters : List ℕ
    left_letters = piece (panel_of s) d u.source j.left.anchor (panel_of s).k u.reverse

    right_letters : List ℕ
    right_letters = piece (panel_of s) d v.source j.right.anchor (panel_of s).k v.reverse

    left_word : j.left.word ≡ padded left_letters (panel_of s).k
    unfolding left_letters
    left_word = word_is u.source u.start (u.end - u.start) u.reverse su.lane j.left j.leaves.among j.leaves.turn_is u_inside

    right_word : j.right.word ≡ padded right_letters (panel_of s).k
    unfolding right_letters
    right_word = word_is v.source v.start (v.end - v.start) v.reverse sv.lane j.right j.enters.among j.enters.turn_is v_inside

    left_long : length left_letters ≡ (panel_of s).k
    unfolding left_letters
    left_long = word_long u.source u.start (u.end - u.start) u.reverse su.lane j.left j.leaves.among j.leaves.turn_is u_inside

    right_long : length right_letters ≡ (panel_of s).k
    unfolding right_letters
    right_long = word_long v.source v.start (v.end - v.start) v.reverse sv.lane j.right j.enters.among j.enters.turn_is v_inside

    one_word : right_letters ≡ left_letters
    one_word =
        let e : padded right_letters (panel_of s).k ≡ padded left_letters (panel_of s).k = sym right_word ∙ sym j.words ∙ left_word in
        sym (take_at right_letters (replicate (32 - (panel_of s).k) 0) (panel_of s).k right_long) ∙ ap (take (panel_of s).k) e ∙ take_at left_letters (replicate (32 - (panel_of s).k) 0) (panel_of s).k left_long

    ending : drop (length (spell_segment (panel_of s) d u) - (panel_of s).k / 2) (spell_segment (panel_of s) d u) ≡ take ((panel_of s).k / 2) left_letters
    unfolding left_letters spell_segment
    ending =
        let e = u_long in
        ap (λ (n : ℕ). drop (n - (panel_of s).k / 2) (spell_segment (panel_of s) d u)) u_long
        ∙ leaves_reads u.source u.start (u.end - u.start) u.reverse su.lane j.left j.leaves.among j.leaves.turn_is u_inside (omega arith)
        (j.leaves.cut_is ∙ ap (λ (n : ℕ). pick u.reverse u.start n) (sym u_end))

    beginning : take ((panel_of s).k - (panel_of s).k / 2) (spell_segment (panel_of s) d v) ≡ drop ((panel_of s).k / 2) right_letters
    unfolding right_letters spell_segment
    beginning =
        let e = v_long in
        enters_reads v.source v.start (v.end - v.start) v.reverse sv.lane j.right j.enters.among j.enters.turn_is v_inside (omega arith)
        (j.enters.cut_is ∙ ap (λ (n : ℕ). pick v.reverse n v.start) (sym v_end))

    module _ (before after : Route) where
      letters_around : around (panel_of s) d (before ++ u ∷ v ∷ after) (length (spell_route (panel_of s) d (before ++ u ∷ []))) ≡ left_letters
      unfolding around
      letters_around =
          ap₂ (λ (n : ℕ) (w : List ℕ). crop (n - (panel_of s).k / 2) (n + ((panel_of s).k - (panel_of s).k / 2)) w) (spell_last (panel_of s) d before u) (spell_whole (panel_of s) d before u v after)
          ∙ around_seam (spell_route (panel_of s) d before) (spell_segment (panel_of s) d u) (spell_segment (panel_of s) d v) (spell_route (panel_of s) d after) ((panel_of s).k / 2) ((panel_of s).k - (panel_of s).k / 2) hu gv
          ∙ ap₂ (λ (x y : List ℕ). x ++ y) ending (beginning ∙ ap (drop ((panel_of s).k / 2)) one_word) ∙ take-append-drop ((panel_of s).k / 2) left_letters

      switch_reads : (r : Route) → r ≡ before ++ u ∷ v ∷ after → ReadsWord (panel_of s) (around (panel_of s) d r (length (spell_route (panel_of s) d (before ++ u ∷ [])))) u v
      switch_reads r e =
          let f = ap (λ (x : Route). around (panel_of s) d x (length (spell_route (panel_of s) d (before ++ u ∷ [])))) e ∙ letters_around in
          record {
            ports = j;
            left = left_word ∙ ap (λ (x : List ℕ). padded x (panel_of s).k) (sym f);
            right = right_word ∙ ap (λ (x : List ℕ). padded x (panel_of s).k) (one_word ∙ sym f);
          }

-- ---- from the bytes

letters_fit : (p : Panel) (d : List ℕ) → letters_refusal p d ≡ 0 → (sound39 p d ≡ true) × (sound40 p d ≡ true)
unfolding letters_refusal
letters_fit p d e =
    let (a, x) = unless_zero (sound39 p d) 38 (unless (sound40 p d) 40 0) e in
    let (b, y) = unless_zero (sound40 p d) 39 0 x in
    (a, b)

rows_fit : (p : Panel) (d : List ℕ) → sound40 p d ≡ true → all (row_fits p d) p.lanes ≡ true
unfolding sound40
rows_fit p d e = (both (all (row_fits p d) p.lanes) (all (word_fits p d) p.hub) e).0

pub switches_read_words : SwitchesReadWords
switches_read_words s d pn ln a legal r among first u v last w =
    let t = taken s pn in
    let h = t.header in
    let acc = t.accepted in
    let (x, y) = letters_fit (panel_of s) d ln in
    let lettered = letters_told s h d true acc (sym x) refl in
    let (target, route) = matched_mem (LegalRoute (panel_of s)) (paths_at (panel_of s) a.family) a.routes r legal.routes among in
    let spans : Each (SoundSpan (panel_of s)) (first ++ u ∷ v ∷ last) = subst (λ (z : Route). Each (SoundSpan (panel_of s)) z) w.is route.spans in
    let joints : Neighbours (Joint (panel_of s)) (first ++ u ∷ v ∷ last) = subst (λ (z : Route). Neighbours (Joint (panel_of s)) z) w.is route.joints in
    let both-sound = (append_each (SoundSpan (panel_of s)) first (u ∷ v ∷ last) spans).1 in
    switch_reads s h acc d lettered (lane_fits s h d acc (rows_fit (panel_of s) d y)) u v both-sound.0 both-sound.1.0 (neighbours_at (Joint (panel_of s)) first u v last joints) w.long w.long_too first last r w.is
