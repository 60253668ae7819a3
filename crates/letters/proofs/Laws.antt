-- Laws of 39 and 40: one for each way through the code.
use Prim.Native.Nat.{ℕ, zero, suc, ◌+◌, ◌-◌, ◌*◌, ◌≤◌, ◌<◌}
use native.Mathlib.Omega.{arith}
use mathlib.Core.Path.{◌≡◌, refl, sym, ap, ap₂, ◌∙◌, subst}
use mathlib.Core.Bool.{Bool, true, false, ◌&&◌}
use mathlib.Core.List.{List, [], ◌∷◌, Memᴰ}
use lib.Dec.{eqb, leb}
use lib.ListN.{length, take, drop, get_or, replicate, length-map}
use lib.Seq.{take_at, take_all, ext_get_or}
use mir.Val.{Fits}
use mir.Syntax.{w64}
use borrow.Author.Rules.{Fits-under}
use borrow.Author.Tests.{eq-eqb, eqb-true, leb-true}
use Rattle.std.specs.List.{list_all, range_with_len}
use Rattle.std.proofs.lemmas.List.Sums.{AllPass-from_list_all, list_all-from_AllPass}
use Rattle.std.proofs.lemmas.List.FromFn.{length-range_with_len, get_or-range_with_len}
use Rattle.ground.specs.Lists.{sum, all}
use Rattle.ground.proofs.ListLaws.{both, all_at, sum_part_le}
use Rattle.ground.proofs.Members.{all_mem, mem_at}
use Rattle.storage.specs.Bytes.{part}
use Rattle.storage.specs.Records.{port_of, no_port, padded}
use Rattle.storage.specs.Orders.{same_word}
use Rattle.storage.specs.Inner.{Offset}
use Rattle.storage.specs.declared.Port.{Port}
use Rattle.storage.proofs.Laws.{record_is}
use Rattle.image.specs.declared.Header.{Header}
use Rattle.image.specs.declared.Entry.{Entry}
use Rattle.image.specs.declared.Lane.{Lane}
use Rattle.image.specs.declared.PanelRefusal.{PanelRefusal}
use Rattle.image.specs.Header.{refusal_number}
use Rattle.std.specs.declared.result.Result.{Result}
use Rattle.std.specs.declared.result.Result.TheVariants.{Ok, Err}
use Rattle.image.specs.Image.{entries, no_entry, ports_of}
use Rattle.image.specs.Inner.{Framed, Stands}
use Rattle.image.specs.Panel.{Panel, panel_of, lane_at, no_lane}
use Rattle.image.proofs.Laws.{panel_entry, panel_lanes, panel_ports, panel_k, entries_length, Starting, row_length, lane_index, lane_port_is}
use Rattle.panel.specs.Refusals.{letter, length_ok}
use Rattle.panel.specs.Inner.{Accepted}
use Rattle.graph.specs.Check.{checked, panel_refusal}
use Rattle.graph.proofs.PanelLaws.{lane_known, lane_source, lane_ends, hub_in_lane}
use Rattle.evaluate.specs.declared.Refusal.{Refusal}
use Rattle.evaluate.specs.Refusals.{no_refusal, at}
use Rattle.evaluate.proofs.Ports.{same_word_is, word_same_of}
use Rattle.graph.proofs.Laws.{refusal_some}
use Rattle.letters.specs.declared.LettersRefusal.{LettersRefusal}
use Rattle.letters.specs.declared.CheckRefusal.{CheckRefusal}
use Rattle.letters.specs.declared.CheckRefusal.TheVariants.{BadPanel, BadLetters}
use Rattle.letters.specs.Refusals.{number_of, answer_of}
use Rattle.letters.specs.Letters.{complement, oriented, lengths, length_of, piece, sound39, word_fits, row_fits, sound40, letters_refusal, letters_answer}
use Rattle.letters.specs.Inner.{Lettered, Based}
use Rattle.letters.proofs.Reverse.{turned_at, oriented_length}
use Rattle.letters.proofs.Pieces.{part_length, part_at, length_is, lane_room, piece_is}

all_of : {A : Type 0} (f : A → Bool) (l : List A) → ((x : A) → Memᴰ x l → f x ≡ true) → all f l ≡ true
unfolding all
all_of f [] h = refl
all_of f (a ∷ l) h = rw (h a (mathlib.Core.List.Memᴰ.head refl)) (all_of f l (λ x m. h x (mathlib.Core.List.Memᴰ.tail m)))

-- ---- a letter as the code reads it

module _ (d : List ℕ) (first n i : ℕ) (r : Bool) (room : first + n ≤ length d) (lt : i < n) where
  pub letter_forward : (x : ℕ) → r ≡ false → x ≡ get_or d (first + i) 0 → x ≡ get_or (oriented r (part d first n)) i 0
  letter_forward x e q = q ∙ rw e (sym (part_at d first n i lt))

  pub letter_reverse : (x : ℕ) → r ≡ true → x ≡ complement (get_or d (first + (n - 1 - i)) 0) → x ≡ get_or (oriented r (part d first n)) i 0
  letter_reverse x e q =
      let l = part_length d first n room in
      let z : n - 1 - i < n = omega arith in
      q ∙ rw e (rw (turned_at (part d first n) i (omega arith), l) (ap complement (sym (part_at d first n (n - 1 - i) z))))

-- ---- 39

module _ (s : List ℕ) (h : Header) (f : Framed s h) where
  pub lengths_length : length (lengths (panel_of s)) ≡ h.lanes
  unfolding lengths
  lengths_length = length-map (panel_of s).lanes length_of ∙ panel_lanes s h f

  pub lane_length_is : (lane : ℕ) (e : Entry) → e ≡ get_or (entries h s) lane no_entry → e.len ≡ get_or (lengths (panel_of s)) lane 0
  lane_length_is lane e q = ap (λ (x : Entry). x.len) q ∙ sym (length_is (panel_of s) lane ∙ (panel_entry s h lane f).0)

pub whole : (d : List ℕ) → take (length d) (drop 0 d) ≡ d
whole d = take_all (length d) d (omega arith)

-- ---- where the lanes' letters begin

sum_few : (ns : List ℕ) → ((j : ℕ) → j < length ns → get_or ns j 0 ≤ 4294967295) → sum ns ≤ length ns * 4294967295
unfolding sum
sum_few [] h = omega arith
sum_few (n ∷ ns) h =
    let a = h 0 (omega arith) in
    let b = sum_few ns (λ j lt. h (suc j) (omega arith)) in
    omega arith

module _ (s : List ℕ) (h : Header) (acc : Accepted s h) where
  framed : Framed s h
  framed = acc.counted.framed

  lane_short : (j : ℕ) → j < h.lanes → get_or (lengths (panel_of s)) j 0 ≤ 4294967295
  unfolding length_ok
  lane_short j lt =
      let room : j < length (entries h s) = rw (entries_length s h framed) lt in
      let ok = all_at no_entry length_ok (entries h s) j acc.lengths room in
      let le = leb-true _ _ (both (leb 1 (get_or (entries h s) j no_entry).len) (leb (get_or (entries h s) j no_entry).len 4294967295) ok).1 in
      rw (length_is (panel_of s) j, (panel_entry s h j framed).0) le

  total_small : sum (lengths (panel_of s)) ≤ 17592186040320
  total_small =
      let n = lengths_length s h framed in
      let few = framed.few_lanes in
      let q = sum_few (lengths (panel_of s)) (λ j lt. lane_short j (omega arith)) in
      omega arith

pub base_fits : (s : List ℕ) (h : Header) (d bases : List ℕ) (at i x : ℕ) → Lettered s h d → Starting (lengths (panel_of s)) h.lanes bases at i → i < h.lanes → x ≡ get_or (lengths (panel_of s)) i 0 → Fits w64 (at + x)
base_fits s h d bases at i x l so lt is =
    let n = lengths_length s h l.accepted.counted.framed in
    let q = sum_part_le (lengths (panel_of s)) i (omega arith) in
    let t = total_small s h l.accepted in
    let e = so.to.so_far in
    Fits-under w64 (at + x) 17592186040321 (omega arith) tt

pub based : (s : List ℕ) (h : Header) (d bases : List ℕ) (at i : ℕ) → Lettered s h d → Starting (lengths (panel_of s)) h.lanes bases at i → h.lanes ≤ i → Based s h d bases
based s h d bases at i l so le = record { lettered = l; each = λ j lt. so.filled j (omega arith) }

-- ---- a word letter by letter

module _ (s : List ℕ) (at k : ℕ) (d : List ℕ) (first : ℕ) (r : Bool) (room : at + k ≤ length s) (there : first + k ≤ length d) where
  left : List ℕ
  left = part s at k

  right : List ℕ
  right = oriented r (part d first k)

  left_long : length left ≡ k
  unfolding left
  left_long = part_length s at k room

  right_long : length right ≡ k
  unfolding right
  right_long = oriented_length r (part d first k) ∙ part_length d first k there

  alike : ℕ → Bool
  alike i = eqb (get_or s (at + i) 0) (get_or right i 0)

  each_alike : list_all alike (range_with_len 0 k) ≡ true → left ≡ right
  unfolding left alike
  each_alike e = ext_get_or 0 left right (left_long ∙ sym right_long) (λ i lt. here i (let l = left_long in omega arith))
    where
      here : (i : ℕ) → i < k → get_or left i 0 ≡ get_or right i 0
      here i lt =
          let passes : alike (get_or (range_with_len 0 k) i 0) ≡ true = AllPass-from_list_all alike (range_with_len 0 k) e i 0 (rw length-range_with_len lt) in
          let place : get_or (range_with_len 0 k) i 0 ≡ i = get_or-range_with_len 0 k i 0 lt ∙ (omega arith) in
          part_at s at k i lt ∙ eqb-true _ _ (rw place at passes)

  all_alike : left ≡ right → list_all alike (range_with_len 0 k) ≡ true
  unfolding left alike
  all_alike e = list_all-from_AllPass alike (range_with_len 0 k) (λ i z lt. rw (place i z (rw length-range_with_len at lt)) (here i (rw length-range_with_len at lt)))
    where
      place : (i z : ℕ) → i < k → get_or (range_with_len 0 k) i z ≡ i
      place i z lt = get_or-range_with_len 0 k i z lt ∙ (omega arith)

      here : (i : ℕ) → i < k → alike i ≡ true
      here i lt = eq-eqb _ _ (sym (part_at s at k i lt) ∙ ap (λ (l : List ℕ). get_or l i 0) e)

  pub word_same : list_all (λ i. eqb (get_or s (at + i) 0) (get_or (oriented r (part d first k)) i 0)) (range_with_len 0 k) ≡ same_word (padded (part s at k) k) (padded (oriented r (part d first k)) k)
  unfolding left right alike
  word_same = go (same_word (padded left k) (padded right k)) (list_all alike (range_with_len 0 k)) refl refl
    where
      go : (b c : Bool) → same_word (padded left k) (padded right k) ≡ b → list_all alike (range_with_len 0 k) ≡ c → c ≡ b
      go true c e f =
          let z : padded left k ≡ padded right k = same_word_is (padded left k) (padded right k) e in
          sym f ∙ all_alike (sym (take_at left (replicate (32 - k) 0) k left_long) ∙ ap (take k) z ∙ take_at right (replicate (32 - k) 0) k right_long)
      go false true e f = sym (word_same_of (padded left k) (padded right k) (ap (λ (v : List ℕ). padded v k) (each_alike f))) ∙ e
      go false false e f = refl

pub fits_by : (p : Panel) (d : List ℕ) (q : Port) (lane k : ℕ) → q.source ≡ lane → p.k ≡ k → same_word q.word (padded (piece p d lane q.anchor k q.reverse) k) ≡ word_fits p d q
unfolding word_fits
fits_by p d q lane k e f = ap₂ (λ (a b : ℕ). same_word q.word (padded (piece p d a q.anchor b q.reverse) b)) (sym e) (sym f)

-- ---- record i of a lane's list

module _ (s : List ℕ) (h : Header) (d bases : List ℕ) (l : Lane) (i at : ℕ) (b : Based s h d bases) (st : Stands s h l) (lt : i < l.count) (off : Offset s h.lane_ports_at h.ports h.k (l.start + i) at) where
  frame : Framed s h
  frame = st.counted.framed

  port : Port
  port = port_of h.k (drop at s)

  port_word : port.word ≡ padded (part s at h.k) h.k
  unfolding port port_of
  port_word = refl

  port_is : port ≡ get_or (ports_of h s l.number) i no_port
  unfolding port
  port_is = lane_port_is s h l st i port lt (record_is s h.lane_ports_at h.ports h.k (l.start + i) at off (lane_index s h l st i lt) port refl)

  port_among : Memᴰ port (lane_at (panel_of s) l.number).ports
  port_among =
      let room : i < length (ports_of h s l.number) = rw (row_length s h l st) lt in
      let m = mem_at no_port (ports_of h s l.number) i room in
      let m' : Memᴰ port (ports_of h s l.number) = subst (λ (q : Port). Memᴰ q (ports_of h s l.number)) (sym port_is) m in
      subst (λ (x : List Port). Memᴰ port x) (sym (panel_ports s h l.number frame st.lane)) m'

  source_here : port.source ≡ l.number
  source_here = lane_source s h b.lettered.accepted l.number port port_among

  lane_some : l.number < length (panel_of s).lanes
  lane_some = rw (panel_lanes s h frame) st.lane

  ends : port.anchor + h.k ≤ (lane_at (panel_of s) l.number).len
  ends = let e = lane_ends s h b.lettered.accepted l.number port port_among in let k = panel_k s h frame in omega arith

  module _ (anchor : ℕ) (ea : anchor ≡ (port_of h.k (drop at s)).anchor) where
    pub word_room : get_or bases l.number 0 + anchor + h.k ≤ length d
    unfolding port
    word_room =
        let q = lane_room (panel_of s) d b.lettered.total l.number lane_some in
        let e = ends in
        let z = b.each l.number st.lane in
        omega arith

    pub word_fits_is : Fits w64 (get_or bases l.number 0 + anchor)
    word_fits_is =
        let q = word_room in
        let t = total_small s h b.lettered.accepted in
        let e = b.lettered.total in
        Fits-under w64 (get_or bases l.number 0 + anchor) 17592186040321 (omega arith) tt

    module _ (reverse : Bool) (er : reverse ≡ (port_of h.k (drop at s)).reverse) where
      here : piece (panel_of s) d l.number port.anchor h.k port.reverse ≡ oriented reverse (part d (get_or bases l.number 0 + anchor) h.k)
      unfolding port
      here = piece_is (panel_of s) d b.lettered.total l.number lane_some port.anchor h.k port.reverse ends ∙ rw (← ea, ← er, b.each l.number st.lane)

      same : same_word (padded (part s at h.k) h.k) (padded (oriented reverse (part d (get_or bases l.number 0 + anchor) h.k)) h.k) ≡ word_fits (panel_of s) d port
      same = ap₂ (λ (v w : List ℕ). same_word v (padded w h.k)) (sym port_word) (sym here) ∙ fits_by (panel_of s) d port l.number h.k source_here (panel_k s h frame)

      pub word_told : (r : Bool) → r ≡ same_word (padded (part s at h.k) h.k) (padded (oriented reverse (part d (get_or bases l.number 0 + anchor) h.k)) h.k)
          → r ≡ word_fits (panel_of s) d (get_or (ports_of h s l.number) i no_port)
      word_told r e = e ∙ same ∙ ap (word_fits (panel_of s) d) port_is

-- ---- a lane, all lanes

pub row_at : (s : List ℕ) (h : Header) (d : List ℕ) → Framed s h → (lane : ℕ) → lane < h.lanes → all (word_fits (panel_of s) d) (ports_of h s lane) ≡ row_fits (panel_of s) d (lane_at (panel_of s) lane)
unfolding row_fits
row_at s h d f lane lt = ap (all (word_fits (panel_of s) d)) (sym (panel_ports s h lane f lt))

module _ (s : List ℕ) (h : Header) (d : List ℕ) (acc : Accepted s h) where
  pub lanes_known : length (panel_of s).lanes ≡ h.lanes
  lanes_known = panel_lanes s h acc.counted.framed

  -- each record of a lane fits: then so does each global one, which is one of them
  pub lane_fits : all (row_fits (panel_of s) d) (panel_of s).lanes ≡ true → (lane : ℕ) (q : Port) → Memᴰ q (lane_at (panel_of s) lane).ports → word_fits (panel_of s) d q ≡ true
  unfolding row_fits
  lane_fits e lane q m =
      let n = lanes_known in
      let k = lane_known s h acc lane q m in
      let row = all_at no_lane (row_fits (panel_of s) d) (panel_of s).lanes lane e (omega arith) in
      all_mem (word_fits (panel_of s) d) (lane_at (panel_of s) lane).ports row q m

  hub_fits : all (row_fits (panel_of s) d) (panel_of s).lanes ≡ true → all (word_fits (panel_of s) d) (panel_of s).hub ≡ true
  hub_fits e = all_of (word_fits (panel_of s) d) (panel_of s).hub (λ q m. lane_fits e q.source q (hub_in_lane s h acc q m))

  pub lanes_suffice : all (row_fits (panel_of s) d) (panel_of s).lanes ≡ sound40 (panel_of s) d
  unfolding sound40
  lanes_suffice = go (all (row_fits (panel_of s) d) (panel_of s).lanes) refl
    where
      go : (b : Bool) → all (row_fits (panel_of s) d) (panel_of s).lanes ≡ b → b ≡ (b && all (word_fits (panel_of s) d) (panel_of s).hub)
      go false e = refl
      go true e = sym (hub_fits e)

  pub lanes_told : (r : Bool) → r ≡ all (row_fits (panel_of s) d) (panel_of s).lanes → r ≡ sound40 (panel_of s) d
  lanes_told r e = e ∙ lanes_suffice

-- ---- the calls

pub letters_told : (s : List ℕ) (h : Header) (d : List ℕ) (r : Bool) → Accepted s h → r ≡ sound39 (panel_of s) d → r ≡ true → Lettered s h d
unfolding sound39
letters_told s h d r acc e t = record { accepted = acc; total = eqb-true _ _ (both (eqb (sum (lengths (panel_of s))) (length d)) (all letter d) (sym e ∙ t)).0 }

module _ (p : Panel) (d : List ℕ) (a : Bool) (ea : a ≡ sound39 p d) where
  pub refused_39 : a ≡ false → 39 ≡ letters_refusal p d
  unfolding letters_refusal
  refused_39 z = rw (← ea, z)

  module _ (b : Bool) (eb : b ≡ sound40 p d) (t : a ≡ true) where
    pub refused_40 : b ≡ false → 40 ≡ letters_refusal p d
    unfolding letters_refusal
    refused_40 z = rw (← ea, t, ← eb, z)

    pub refused_none : b ≡ true → 0 ≡ letters_refusal p d
    unfolding letters_refusal
    refused_none z = rw (← ea, t, ← eb, z)

pub at_last : (n : ℕ) → record { number = n; place = 0 } ≡ at n 0 no_refusal
at_last zero = refl
at_last (suc n) = refl

module _ (s : List ℕ) (d : List ℕ) (o : Result Header PanelRefusal) (eo : o ≡ checked s) where
  pub answer_good : (h : Header) (n : ℕ) → o ≡ Ok h → n ≡ letters_refusal (panel_of s) d → record { number = n; place = 0 } ≡ letters_answer s d
  unfolding letters_answer panel_refusal
  answer_good h n t e = at_last n ∙ rw (← eo, t, e)

  -- 1 to 8 come first, whatever is asked after them
  pub panel_first : (x : PanelRefusal) (n : ℕ) (later : Refusal) → o ≡ Err x → n ≡ refusal_number x → record { number = n; place = 0 } ≡ at (panel_refusal s) 0 later
  unfolding panel_refusal
  panel_first x n later t is = let some = refusal_some x in rw (← eo, t, ← is) (go n (omega arith))
    where
      go : (m : ℕ) → 0 < m → record { number = m; place = 0 } ≡ at m 0 later
      go zero h = let z : ⊥ = omega arith in absurd z
      go (suc m) h = refl

  pub answer_refused : (x : PanelRefusal) (n : ℕ) → o ≡ Err x → n ≡ refusal_number x → record { number = n; place = 0 } ≡ letters_answer s d
  unfolding letters_answer
  answer_refused x n t is = panel_first x n (at (letters_refusal (panel_of s) d) 0 no_refusal) t is

-- what the call answers
module _ (s : List ℕ) (d : List ℕ) where
  pub call_panel : (x : PanelRefusal) (r : Result Unit CheckRefusal) (e : CheckRefusal) → Err x ≡ checked s → r ≡ Err e → e ≡ BadPanel x → answer_of r ≡ letters_answer s d
  call_panel x r e t q f = rw (q, f) (answer_refused s d (Err x) t x (refusal_number x) refl refl)

  pub call_letters : (h : Header) (x : LettersRefusal) (r : Result Unit CheckRefusal) (e : CheckRefusal) → Ok h ≡ checked s → number_of x ≡ letters_refusal (panel_of s) d → r ≡ Err e → e ≡ BadLetters x → answer_of r ≡ letters_answer s d
  call_letters h x r e t n q f = rw (q, f) (answer_good s d (Ok h) t h (number_of x) refl n)

  pub call_good : (h : Header) → Ok h ≡ checked s → 0 ≡ letters_refusal (panel_of s) d → no_refusal ≡ letters_answer s d
  call_good h t n = answer_good s d (Ok h) t h 0 refl n
