-- Laws of landings, of the first port past a cut, and of a port's bucket.
use Prim.Native.Nat.{ℕ, ◌+◌, ◌-◌, ◌*◌, ◌/◌, ◌%◌, ◌≤◌, ◌<◌}
use native.Mathlib.Nat.{eq-or-lt_of_le}
use native.Mathlib.Omega.{arith}
use native.Mathlib.Decide.{ℕ_discrete}
use mathlib.Core.Path.{◌≡◌, refl, sym, ap, ◌∙◌}
use mathlib.Core.Bool.{Bool, true, false, ◌&&◌, beq}
use Rattle.std.proofs.Math.Bool.{and_assoc}
use mathlib.Core.List.{List}
use mathlib.Core.Logic.{◌⊎◌, inl, inr}
use mir.Val.{Fits}
use borrow.Author.Rules.{Fits-under}
use mir.Syntax.{w64}
use lib.Dec.{eqb}
use lib.ListN.{length, get_or, take, drop, set, length-set, replicate, length-replicate, get_or-replicate}
use lib.Seq.{get_or-set_same, get_or-set_other}
use borrow.Author.Tests.{le-leb, leb-true, lt-ltb, ltb-true}
use Rattle.ground.specs.Lists.{count}
use Rattle.ground.proofs.ListLaws.{Falls, cut_start, point_counts}
use Rattle.storage.specs.Records.{port_of, cut_offset, no_port, padded, same_turn}
use Rattle.storage.specs.Orders.{place_of, bucket_of}
use Rattle.storage.specs.Inner.{Offset}
use Rattle.storage.specs.declared.Port.{Port}
use Rattle.storage.specs.declared.Members.{Members}
use Rattle.storage.proofs.Laws.{reverse_read, record_is}
use Rattle.storage.proofs.OrderLaws.{turn_small}
use Rattle.image.specs.declared.Header.{Header}
use Rattle.image.specs.declared.Lane.{Lane}
use Rattle.image.specs.Image.{ports_of, lane_ports, hub}
use Rattle.image.specs.Inner.{Stands}
use Rattle.image.specs.Panel.{panel_of}
use Rattle.image.proofs.Laws.{row_length, lane_port_is, lane_index}
use Rattle.panel.specs.Inner.{Accepted}
use Rattle.panel.specs.Refusals.{lane_rising, sound_port}
use Rattle.panel.proofs.Laws.{lane_rises, row_rises, lane_port_small, record_sound, port_small}
use Rattle.landings.specs.declared.Landing.{Landing}
use Rattle.landings.specs.Inner.{landing_of, same_landing, reached, Here, memo_words, seat_of, Known}

-- ---- where a port lands

pub offset_small : (k : ℕ) (b : Bool) → cut_offset k b ≤ k
offset_small k true = omega arith
offset_small k false = omega arith

pub landing_told : (s : List ℕ) (at k source anchor shift : ℕ) → source ≡ (port_of k (drop at s)).source → anchor ≡ (port_of k (drop at s)).anchor → shift ≡ cut_offset k (eqb (get_or s (at + k + 16) 0) 1)
    → ◌≡◌ {A = Landing} (record { source = source; cut = anchor + shift; reverse = eqb (get_or s (at + k + 16) 0) 1 }) (landing_of k (port_of k (drop at s)))
unfolding landing_of
landing_told s at k source anchor shift es ea eo = rw (es, ea, eo, reverse_read s at k)

pub lane_here : (s : List ℕ) (h : Header) (l : Lane) (i at : ℕ) → Accepted s h → Stands s h l → i < l.count → Offset s h.lane_ports_at h.ports h.k (l.start + i) at
    → Here s h.k (get_or (ports_of h s l.number) i no_port) at
lane_here s h l i at acc st lt off =
    let e = lane_port_is s h l st i _ lt (record_is s h.lane_ports_at h.ports h.k (l.start + i) at off (lane_index s h l st i lt) _ refl) in
    record { is = e; room = off.room; small = lane_port_small s h l i _ acc st lt e }

pub hub_here : (s : List ℕ) (h : Header) (i at : ℕ) → Accepted s h → i < h.ports → Offset s h.hub_at h.ports h.k i at → Here s h.k (get_or (hub h s) i no_port) at
unfolding hub
hub_here s h i at acc lt off =
    let e = record_is s h.hub_at h.ports h.k i at off lt _ refl in
    record { is = e; room = off.room; small = port_small s h (port_of h.k (drop at s)) acc.counted.framed acc.lengths (ap (sound_port h s) e ∙ record_sound s h h.hub_at i acc.hub_records lt) }

pub landing_here : (s : List ℕ) (k at : ℕ) (q : Port) (r : Landing) → Here s k q at → r ≡ landing_of k (port_of k (drop at s)) → r ≡ landing_of k q
landing_here s k at q r e t = t ∙ ap (landing_of k) e.is

-- two orientations, and two landings, as the code compares them
pub turns_same : (a b : Bool) → beq a b ≡ same_turn a b
turns_same true true = refl
turns_same true false = refl
turns_same false true = refl
turns_same false false = refl

pub landings_same : (a b : Landing) → (eqb a.source b.source && (eqb a.cut b.cut && beq a.reverse b.reverse)) ≡ same_landing a b
landings_same a b = rw (turns_same a.reverse b.reverse) (sym (and_assoc (eqb a.source b.source) (eqb a.cut b.cut) (same_turn a.reverse b.reverse)))

-- ---- the first port past a cut

pub anchors : (l : List Port) → lane_rising l ≡ true → (p q : ℕ) → p ≤ q → q < length l → (get_or l p no_port).anchor ≤ (get_or l q no_port).anchor
unfolding place_of
anchors l e p q le m = go (eq-or-lt_of_le le)
  where
    go : (p ≡ q) ⊎ (p < q) → (get_or l p no_port).anchor ≤ (get_or l q no_port).anchor
    go (inl same) = rw same (omega arith)
    go (inr lt) = let r = lane_rises l e p q lt m in omega (arith, turn_small (get_or l p no_port).reverse, turn_small (get_or l q no_port).reverse)

reached_falls : (k cut : ℕ) (reverse : Bool) (l : List Port) → lane_rising l ≡ true → Falls (reached k reverse cut) l no_port
unfolding reached
reached_falls k cut true l e p q le m t =
    let a = anchors l e p q le m in
    let b = ltb-true ((get_or l q no_port).anchor + (k - k / 2)) cut t in
    lt-ltb ((get_or l p no_port).anchor + (k - k / 2)) cut (omega arith)
reached_falls k cut false l e p q le m t =
    let a = anchors l e p q le m in
    let b = leb-true ((get_or l q no_port).anchor + k / 2) cut t in
    le-leb ((get_or l p no_port).anchor + k / 2) cut (omega arith)

pub reach_fits : (s : List ℕ) (h : Header) (l : Lane) (i anchor shift : ℕ) (b : Bool) → Accepted s h → Stands s h l → i < l.count → anchor ≡ (get_or (ports_of h s l.number) i no_port).anchor → shift ≡ cut_offset h.k b
    → Fits w64 (anchor + shift)
reach_fits s h l i anchor shift b acc st lt ea es =
    let m = lane_port_small s h l i _ acc st lt refl in
    let o = offset_small h.k b in
    let z : anchor + shift < 4294967296 = omega arith in
    Fits-under w64 (anchor + shift) 4294967296 z tt

-- where a search by halves of a lane's list ends
pub reached_point : (s : List ℕ) (h : Header) (l : Lane) (reverse : Bool) (cut r : ℕ) → Accepted s h → Stands s h l → (0 ≤ r) × (r ≤ l.count)
    → (0 < r → true ≡ reached h.k reverse cut (get_or (ports_of h s l.number) (r - 1) no_port)) → (r < l.count → false ≡ reached h.k reverse cut (get_or (ports_of h s l.number) r no_port))
    → r ≡ count (reached h.k reverse cut) (ports_of h s l.number)
reached_point s h l reverse cut r acc stands room last first =
    let falls : Falls (reached h.k reverse cut) (ports_of h s l.number) no_port = reached_falls h.k cut reverse (ports_of h s l.number) (row_rises s h l stands acc.rows) in
    let start = cut_start (reached h.k reverse cut) (ports_of h s l.number) no_port l.count in
    point_counts (reached h.k reverse cut) (ports_of h s l.number) no_port l.count 0 l.count r falls start (row_length s h l stands) room last first

-- ---- a port's bucket

word_of : (s : List ℕ) (k at : ℕ) → padded (take k (drop at s)) k ≡ (port_of k (drop at s)).word
unfolding port_of
word_of s k at = refl

pub bucket_told : (s : List ℕ) (k at : ℕ) (q : Port) (m : Members) (l : List Port) → Here s k q at → m ≡ bucket_of (padded (take (at + k - at) (drop at s)) k) l → m ≡ bucket_of q.word l
bucket_told s k at q m l e t =
    let d : at + k - at ≡ k = omega arith in
    let w : padded (take k (drop at s)) k ≡ q.word = word_of s k at ∙ ap (λ (p : Port). p.word) e.is in
    t ∙ rw (d, w)

-- ---- the memo of buckets

pub seat_room : (port : ℕ) → 3 * (port % 4096) + 2 < memo_words
seat_room port = omega arith

pub known_none : (s : List ℕ) (h : Header) (memo : List ℕ) → memo ≡ replicate memo_words 0 → Known s h memo
known_none s h memo e =
    record { long = ap length e ∙ length-replicate {A = ℕ} memo_words 0; told = λ port q. absurd (let z : get_or memo (seat_of port) 0 ≡ 0 = ap (λ (l : List ℕ). get_or l (seat_of port) 0) e ∙ get_or-replicate memo_words (seat_of port) 0 0 (omega (arith, seat_room port)) in omega arith) }

module _ (s : List ℕ) (h : Header) (l : Lane) (i port : ℕ) (st : Stands s h l) (lt : i < l.count) (e : port ≡ l.start + i) where
  word_at_seat : get_or (lane_ports h s) port no_port ≡ get_or (ports_of h s l.number) i no_port
  unfolding lane_ports
  word_at_seat = lane_port_is s h l st i _ lt (rw e)

  -- a bucket that stands in the memo
  pub known_is : (memo : List ℕ) → Known s h memo → get_or memo (seat_of port) 0 ≡ port + 1
      → ◌≡◌ {A = Members} (record { lo = get_or memo (seat_of port + 1) 0; hi = get_or memo (seat_of port + 2) 0 }) (bucket_of (get_or (ports_of h s l.number) i no_port).word (panel_of s).hub)
  known_is memo k q = k.told port q ∙ ap (λ (p : Port). bucket_of p.word (panel_of s).hub) word_at_seat

  -- a bucket that was sought takes its seat
  module _ (memo : List ℕ) (m : Members) (k : Known s h memo) (em : m ≡ bucket_of (get_or (ports_of h s l.number) i no_port).word (panel_of s).hub) where
    abbrev one : List ℕ
    one = set memo (seat_of port) (port + 1)

    abbrev two : List ℕ
    two = set one (seat_of port + 1) m.lo

    abbrev three : List ℕ
    three = set two (seat_of port + 2) m.hi

    room : seat_of port + 2 < memo_words
    room = seat_room port

    long_two : length two ≡ memo_words
    long_two = length-set one (seat_of port + 1) m.lo ∙ length-set memo (seat_of port) (port + 1) ∙ k.long

    -- another seat is as it was
    other : (j : ℕ) → (j ≡ seat_of port → ⊥) → (j ≡ seat_of port + 1 → ⊥) → (j ≡ seat_of port + 2 → ⊥) → get_or three j 0 ≡ get_or memo j 0
    other j a b c =
        get_or-set_other two (seat_of port + 2) j m.hi 0 c ∙ get_or-set_other one (seat_of port + 1) j m.lo 0 b
        ∙ get_or-set_other memo (seat_of port) j (port + 1) 0 a

    first : get_or three (seat_of port) 0 ≡ port + 1
    first =
        get_or-set_other two (seat_of port + 2) (seat_of port) m.hi 0 (λ e. let z : ⊥ = omega arith in z) ∙ get_or-set_other one (seat_of port + 1) (seat_of port) m.lo 0 (λ e. let z : ⊥ = omega arith in z)
        ∙ get_or-set_same memo (seat_of port) (port + 1) 0 (omega (arith, k.long, room))

    second : get_or three (seat_of port + 1) 0 ≡ m.lo
    second =
        get_or-set_other two (seat_of port + 2) (seat_of port + 1) m.hi 0 (λ e. let z : ⊥ = omega arith in z)
        ∙ get_or-set_same one (seat_of port + 1) m.lo 0 (rw (length-set memo (seat_of port) (port + 1)) (omega (arith, k.long, room)))

    third : get_or three (seat_of port + 2) 0 ≡ m.hi
    third = get_or-set_same two (seat_of port + 2) m.hi 0 (omega (arith, long_two, room))

    pub known_more : Known s h three
    known_more = record { long = length-set two (seat_of port + 2) m.hi ∙ long_two; told = λ q e. go q e (ℕ_discrete (seat_of q) (seat_of port)) }
      where
        go : (q : ℕ) → get_or three (seat_of q) 0 ≡ q + 1 → Dec (seat_of q ≡ seat_of port)
            → ◌≡◌ {A = Members} (record { lo = get_or three (seat_of q + 1) 0; hi = get_or three (seat_of q + 2) 0 }) (bucket_of (get_or (lane_ports h s) q no_port).word (panel_of s).hub)
        go q e (yes y) =
            let same : q ≡ port = (let z : get_or three (seat_of q) 0 ≡ port + 1 = rw y first in omega arith) in
            rw (y, second, third, same, word_at_seat) em
        go q e (no n) =
            let a = other (seat_of q) n (λ z. let y : ⊥ = omega arith in y) (λ z. let y : ⊥ = omega arith in y) in
            let b = other (seat_of q + 1) (λ z. let y : ⊥ = omega arith in y) (λ z. n (omega arith)) (λ z. let y : ⊥ = omega arith in y) in
            let c = other (seat_of q + 2) (λ z. let y : ⊥ = omega arith in y) (λ z. let y : ⊥ = omega arith in y) (λ z. n (omega arith)) in
            rw (b, c) (k.told q (sym a ∙ e))

-- the number of a port, and one more, are small
module _ (s : List ℕ) (h : Header) (l : Lane) (i : ℕ) (st : Stands s h l) (lt : i < l.count) where
  pub port_fits : Fits w64 (l.start + i)
  port_fits = let w = lane_index s h l st i lt in let z : l.start + i < 8388608 = omega (arith, st.counted.framed.few_ports) in Fits-under w64 (l.start + i) 8388608 z tt

  pub port_next_fits : Fits w64 (l.start + i + 1)
  port_next_fits = let w = lane_index s h l st i lt in let z : l.start + i + 1 < 8388608 = omega (arith, st.counted.framed.few_ports) in Fits-under w64 (l.start + i + 1) 8388608 z tt
