-- Laws of the panel check.
use Prim.Native.Nat.{ℕ, zero, suc, ◌+◌, ◌-◌, ◌*◌, ◌≤◌, ◌<◌}
use native.Mathlib.Omega.{arith}
use native.Mathlib.Nat.{eq-or-lt_of_le, mul-le-mul_right}
use mir.Val.{Fits}
use mir.Syntax.{w64}
use borrow.Author.Rules.{Fits-under}
use mathlib.Core.Path.{◌≡◌, refl, sym, ap, ◌∙◌}
use mathlib.Core.Bool.{Bool, true, false, ◌&&◌, ◌||◌}
use mathlib.Core.List.{List, [], ◌∷◌}
use mathlib.Core.Logic.{◌⊎◌, inl, inr}
use lib.Dec.{leb, ltb}
use lib.ListN.{length, drop, take, get_or}
use lib.Seq.{get_or-drop}
use borrow.Author.Tests.{le-leb, lt-leb, leb-true, lt-ltb, le-ltb, ltb-true, leb-false, ne_eqb}
use Rattle.ground.specs.Lists.{each, split, all, any, count, numbers_from}
use Rattle.ground.proofs.ListLaws.{both, each_length, each_from, all_at, all_next, all_done, Rises, rising_rises, Falls, Cut, any_at, numbers_at, numbers_length}
use Rattle.storage.specs.Records.{port_of, no_port}
use Rattle.storage.specs.Orders.{place_of, place, place_lt, place_before, same_port}
use Rattle.storage.specs.Inner.{Offset}
use Rattle.storage.specs.declared.Port.{Port}
use Rattle.storage.proofs.Laws.{record_is}
use Rattle.storage.proofs.OrderLaws.{port_same}
use Rattle.image.specs.declared.Header.{Header}
use Rattle.image.specs.declared.Entry.{Entry}
use Rattle.image.specs.declared.Lane.{Lane}
use Rattle.image.specs.Image.{entries, counts, lane_ports, ports_of, hub, no_entry}
use Rattle.image.specs.Inner.{Framed, Stands}
use Rattle.image.proofs.Laws.{row_length, lane_within, rows_length, entries_length, lane_port_is, lane_index}
use Rattle.panel.specs.Refusals.{length_ok, letter, sound_place, sound_port, sound_record, sound_records, is_true, lane_rising, lanes_rising, listed, own_row}
use Rattle.panel.specs.Inner.{Ordered, Accepted}

-- ---- 6

pub letter_else : (b : ℕ) → (b ≡ 65 → ⊥) → (b ≡ 67 → ⊥) → (b ≡ 71 → ⊥) → (b ≡ 84 → ⊥) → false ≡ letter b
unfolding letter
letter_else b f g h k = rw (ne_eqb b 65 f, ne_eqb b 67 g, ne_eqb b 71 h, ne_eqb b 84 k)

joined : (a b c : Bool) → (a && (b && c)) ≡ (a && b && c)
joined true b c = refl
joined false b c = refl

kept : (a : Bool) → (a && true) ≡ a
kept true = refl
kept false = refl

-- letters tested one by one, without a way out
module _ (w : List ℕ) (i : ℕ) (good : Bool) (so : all letter w ≡ (good && all letter (drop i w))) where
  pub tested_next : (r : Bool) → i < length w → r ≡ letter (get_or w i 0) → all letter w ≡ (good && r && all letter (drop (i + 1) w))
  tested_next r lt test = so ∙ rw (all_next 0 letter w i lt, test) (joined good (letter (get_or w i 0)) (all letter (drop (i + 1) w)))

  pub tested_all : length w ≤ i → good ≡ all letter w
  tested_all le = sym (so ∙ rw (all_done 0 letter w i le) (kept good))

leb_minus : (a k n : ℕ) → k ≤ n → leb a (n - k) ≡ leb (a + k) n
leb_minus a k n h = go (leb a (n - k)) refl
  where
    go : (t : Bool) → leb a (n - k) ≡ t → leb a (n - k) ≡ leb (a + k) n
    go true e = let q = leb-true a (n - k) e in e ∙ sym (le-leb (a + k) n (omega arith))
    go false e = let q = leb-false a (n - k) e in e ∙ sym (lt-leb (a + k) n (omega arith))

module _ (s : List ℕ) (h : Header) (source anchor : ℕ) where
  pub place_unnamed : h.lanes ≤ source → false ≡ sound_place h s source anchor
  unfolding sound_place
  place_unnamed l = rw (le-ltb source h.lanes l)

  module _ (named : source < h.lanes) (e : Entry) (is : e ≡ get_or (entries h s) source no_entry) where
    pub place_short : ¬ (h.k ≤ e.len) → false ≡ sound_place h s source anchor
    unfolding sound_place
    place_short l = rw (lt-ltb source h.lanes named, ← is, lt-leb (anchor + h.k) e.len (omega arith))

    pub place_ends : (last : ℕ) → h.k ≤ e.len → last ≡ e.len - h.k → leb anchor last ≡ sound_place h s source anchor
    unfolding sound_place
    place_ends last l f = rw f (leb_minus anchor h.k e.len l ∙ rw (lt-ltb source h.lanes named, ← is))

-- the reverse byte of a record
pub turned_at : (s : List ℕ) (at k : ℕ) → get_or (drop at s) (k + 16) 0 ≡ get_or s (at + k + 16) 0
turned_at s at k = let e : at + (k + 16) ≡ at + k + 16 = omega arith in rw (get_or-drop at s (k + 16) 0, e)

module _ (s : List ℕ) (h : Header) (base : ℕ) where
  pub marks_length : length (each (sound_record h s) (h.k + 17) h.ports (drop base s)) ≡ h.ports
  marks_length = each_length (sound_record h s) (h.k + 17) true h.ports (drop base s)

  pub mark_at : (i : ℕ) → i < h.ports → sound_record h s (drop (base + i * (h.k + 17)) s) ≡ get_or (each (sound_record h s) (h.k + 17) h.ports (drop base s)) i true
  mark_at i lt = sym (each_from (sound_record h s) (h.k + 17) true h.ports s base i lt)

-- ---- a lane's list by place

place_less_of : (a b : Port) → place_lt a b ≡ true → place a < place b
unfolding place_lt
place_less_of a b e = ltb-true (place a) (place b) e

pub lane_rises : (l : List Port) → lane_rising l ≡ true → Rises place l no_port
unfolding lane_rising
lane_rises l e = rising_rises place place_lt place_less_of no_port l e

before_falls : (anchor : ℕ) (reverse : Bool) (l : List Port) → lane_rising l ≡ true → Falls (place_before anchor reverse) l no_port
unfolding place_before
before_falls anchor reverse l e p q le m t = go (eq-or-lt_of_le le)
  where
    top : place (get_or l q no_port) < place_of anchor reverse
    top = ltb-true (place (get_or l q no_port)) (place_of anchor reverse) t

    go : (p ≡ q) ⊎ (p < q) → ltb (place (get_or l p no_port)) (place_of anchor reverse) ≡ true
    go (inl same) = rw same t
    go (inr lt) = let r = lane_rises l e p q lt m in lt-ltb (place (get_or l p no_port)) (place_of anchor reverse) (omega (arith, top))

pub lane_few : (s : List ℕ) (h : Header) (l : Lane) → Stands s h l → l.count ≤ 4194304
lane_few s h l stands = omega (arith, lane_within s h l stands, stands.counted.framed.few_ports)

-- the product of an anchor on a lane and its count
pub evenly_fits : (a len n : ℕ) → a < len → len ≤ 4294967295 → n ≤ 4194304 → Fits w64 (a * n)
evenly_fits a len n l m few =
    let x : a ≤ 4294967295 = omega arith in
    let p = mul-le-mul_right n x in
    let b : a * n < 18446744073709551615 = omega arith in
    Fits-under w64 (a * n) 18446744073709551615 b tt

-- a turn that looks at any place between
module _ (s : List ℕ) (h : Header) (l : Lane) (anchor : ℕ) (reverse : Bool) (lo hi at : ℕ) (r : Bool) (stands : Stands s h l) (rises : lane_rising (ports_of h s l.number) ≡ true)
    (so : Cut (place_before anchor reverse) (ports_of h s l.number) no_port l.count lo hi) (between : (lo ≤ at) × (at < hi)) (test : r ≡ place_before anchor reverse (get_or (ports_of h s l.number) at no_port)) where
  falls : Falls (place_before anchor reverse) (ports_of h s l.number) no_port
  falls = before_falls anchor reverse (ports_of h s l.number) rises

  pub places_up : r ≡ true → Cut (place_before anchor reverse) (ports_of h s l.number) no_port l.count (at + 1) hi
  places_up e =
      let w = so.within in
      let b = between.1 in
      let long = row_length s h l stands in
      record { order = omega arith; within = so.within; lower = λ p k. falls p at (omega arith) (omega arith) (sym test ∙ e); rest = so.rest }

  pub places_down : r ≡ false → Cut (place_before anchor reverse) (ports_of h s l.number) no_port l.count lo at
  places_down e =
      let w = so.within in
      let b = between.1 in
      record { order = between.0; within = omega arith; lower = so.lower; rest = λ q k m. go q k m (place_before anchor reverse (get_or (ports_of h s l.number) q no_port)) refl }
    where
      go : (q : ℕ) → at ≤ q → q < l.count → (t : Bool) → place_before anchor reverse (get_or (ports_of h s l.number) q no_port) ≡ t → place_before anchor reverse (get_or (ports_of h s l.number) q no_port) ≡ false
      go q k m true g = let long = row_length s h l stands in cc (falls at q k (omega arith) g)
      go q k m false g = g

-- ---- 8

same_place_is : (g a : Port) → same_port g a ≡ true → place a ≡ place g
same_place_is g a e = ap place (sym (port_same g a e))

before_is : (g a : Port) → place_before g.anchor g.reverse a ≡ ltb (place a) (place g)
unfolding place_before
before_is g a = refl

listed_is : (s : List ℕ) (h : Header) (g : Port) (n : ℕ) → n ≡ g.source → lane_rising (ports_of h s n) ≡ true
    → listed h s g ≡ (ltb (count (place_before g.anchor g.reverse) (ports_of h s n)) (length (ports_of h s n)) && same_port g (get_or (ports_of h s n) (count (place_before g.anchor g.reverse) (ports_of h s n)) no_port))
unfolding listed
listed_is s h g n e rises =
    ap (λ (m : ℕ). any (same_port g) (ports_of h s m)) (sym e)
    ∙ any_at place no_port (same_port g) (place_before g.anchor g.reverse) (place g) (same_place_is g) (before_is g) (ports_of h s n) (lane_rises (ports_of h s n) rises)

-- the row of a lane rises
pub row_rises : (s : List ℕ) (h : Header) (l : Lane) → Stands s h l → lanes_rising h s ≡ true → lane_rising (ports_of h s l.number) ≡ true
unfolding lanes_rising ports_of
row_rises s h l stands rows =
    let room : l.number < length (split (counts h s) (lane_ports h s)) = rw (rows_length s h stands.counted.framed) stands.lane in
    all_at [] lane_rising (split (counts h s) (lane_ports h s)) l.number rows room

-- a record whose lane, anchor and orientation were read
module _ (s : List ℕ) (h : Header) (g : Port) (l : Lane) (i source anchor : ℕ) (reverse : Bool) (stands : Stands s h l) (rows : lanes_rising h s ≡ true) (n : l.number ≡ source) (es : source ≡ g.source)
    (ea : anchor ≡ g.anchor) (er : reverse ≡ g.reverse) (at : i ≡ count (place_before anchor reverse) (ports_of h s l.number)) where
  listed_here : listed h s g ≡ (ltb i (length (ports_of h s l.number)) && same_port g (get_or (ports_of h s l.number) i no_port))
  listed_here =
      let at' : i ≡ count (place_before g.anchor g.reverse) (ports_of h s l.number) = at ∙ rw (ea, er) in
      listed_is s h g l.number (n ∙ es) (row_rises s h l stands rows) ∙ rw (← at')

  pub listed_told : (r : Bool) → r ≡ (ltb i l.count && same_port g (get_or (ports_of h s l.number) i no_port)) → r ≡ listed h s g
  listed_told r t = t ∙ sym (listed_here ∙ rw (row_length s h l stands))

any_one : {A : Type 0} (d : A) (f : A → Bool) (l : List A) (i : ℕ) → i < length l → f (get_or l i d) ≡ true → true ≡ any f l
unfolding any
any_one d f [] i lt e = absurd (omega arith)
any_one d f (a ∷ l) zero lt e = rw e
any_one d f (a ∷ l) (suc i) lt e = sym (rw (← (any_one d f l i (omega arith) e)) (or_true (f a)))
  where
    or_true : (b : Bool) → (b || true) ≡ true
    or_true true = refl
    or_true false = refl

-- one that is found at once
pub listed_near : (s : List ℕ) (h : Header) (g : Port) (l : Lane) (i source : ℕ) (r : Bool) → Stands s h l → l.number ≡ source → source ≡ g.source
    → r ≡ (ltb i l.count && same_port g (get_or (ports_of h s l.number) i no_port)) → r ≡ true → r ≡ listed h s g
unfolding listed
listed_near s h g l i source r stands n es t e =
    let (inside, same) = both (ltb i l.count) (same_port g (get_or (ports_of h s l.number) i no_port)) (sym t ∙ e) in
    let b = ltb-true i l.count inside in
    let m = row_length s h l stands in
    let room : i < length (ports_of h s l.number) = omega arith in
    e ∙ any_one no_port (same_port g) (ports_of h s l.number) i room same ∙ ap (λ (x : ℕ). any (same_port g) (ports_of h s x)) (n ∙ es)

pub hub_named : (s : List ℕ) (h : Header) (i : ℕ) (g : Port) → Ordered s h → i < h.ports → g ≡ get_or (hub h s) i no_port → g.source < h.lanes
unfolding hub sound_records sound_record sound_place
hub_named s h i g o lt is =
    let k = h.k in
    let at = drop (h.hub_at + i * (h.k + 17)) s in
    let room : i < length (each (sound_record h s) (h.k + 17) h.ports (drop h.hub_at s)) = rw (marks_length s h h.hub_at) lt in
    let told = all_at true is_true (each (sound_record h s) (h.k + 17) h.ports (drop h.hub_at s)) i o.named room in
    let mark : sound_record h s at ≡ true = sym (each_from (sound_record h s) (h.k + 17) true h.ports s h.hub_at i lt) ∙ told in
    let port : g ≡ port_of h.k at = is ∙ each_from (port_of h.k) (h.k + 17) no_port h.ports s h.hub_at i lt in
    let m = (both (all letter (take h.k at) && leb (get_or at (h.k + 16) 0) 1) (sound_port h s (port_of h.k at)) mark).1 in
    let n = (both (ltb (port_of h.k at).source h.lanes) (leb ((port_of h.k at).anchor + h.k) (get_or (entries h s) (port_of h.k at).source no_entry).len) m).0 in
    let e : g.source ≡ (port_of h.k at).source = ap (λ (p : Port). p.source) port in
    let b = ltb-true (port_of h.k at).source h.lanes n in
    omega arith

pub number_told : (s : List ℕ) (h : Header) (l : Lane) (lane : ℕ) (r : Bool) → l.number ≡ lane → r ≡ lane_rising (ports_of h s l.number) → r ≡ lane_rising (ports_of h s lane)
number_told s h l lane r e t = t ∙ ap (λ (n : ℕ). lane_rising (ports_of h s n)) e

-- the global record at its byte offset
module _ (s : List ℕ) (h : Header) (i at : ℕ) (off : Offset s h.hub_at h.ports h.k i at) (lt : i < h.ports) where
  hub_here : port_of h.k (drop at s) ≡ get_or (hub h s) i no_port
  unfolding hub
  hub_here = record_is s h.hub_at h.ports h.k i at off lt _ refl

  pub hub_named_at : Ordered s h → (port_of h.k (drop at s)).source < h.lanes
  hub_named_at o = hub_named s h i _ o lt hub_here

-- ---- what the tests say of one record

pub record_sound : (s : List ℕ) (h : Header) (base j : ℕ) → sound_records h s base ≡ true → j < h.ports
    → sound_port h s (get_or (each (port_of h.k) (h.k + 17) h.ports (drop base s)) j no_port) ≡ true
unfolding sound_records sound_record
record_sound s h base j e lt =
    let at = drop (base + j * (h.k + 17)) s in
    let room : j < length (each (sound_record h s) (h.k + 17) h.ports (drop base s)) = rw (marks_length s h base) lt in
    let told = all_at true is_true (each (sound_record h s) (h.k + 17) h.ports (drop base s)) j e room in
    let mark : sound_record h s at ≡ true = sym (each_from (sound_record h s) (h.k + 17) true h.ports s base j lt) ∙ told in
    let port = each_from (port_of h.k) (h.k + 17) no_port h.ports s base j lt in
    ap (sound_port h s) port ∙ (both (all letter (take h.k at) && leb (get_or at (h.k + 16) 0) 1) (sound_port h s (port_of h.k at)) mark).1

pub port_small : (s : List ℕ) (h : Header) (p : Port) → Framed s h → all length_ok (entries h s) ≡ true → sound_port h s p ≡ true → p.anchor + h.k ≤ 4294967295
unfolding sound_place length_ok
port_small s h p f lengths e =
    let (named, fits) = both (ltb p.source h.lanes) (leb (p.anchor + h.k) (get_or (entries h s) p.source no_entry).len) e in
    let n = ltb-true p.source h.lanes named in
    let room : p.source < length (entries h s) = rw (entries_length s h f) n in
    let ok = all_at no_entry length_ok (entries h s) p.source lengths room in
    let most = (both (leb 1 (get_or (entries h s) p.source no_entry).len) (leb (get_or (entries h s) p.source no_entry).len 4294967295) ok).1 in
    let a = leb-true (p.anchor + h.k) (get_or (entries h s) p.source no_entry).len fits in
    let b = leb-true (get_or (entries h s) p.source no_entry).len 4294967295 most in
    omega arith

pub lane_port_sound : (s : List ℕ) (h : Header) (l : Lane) (i : ℕ) (p : Port) → Accepted s h → Stands s h l → i < l.count → p ≡ get_or (ports_of h s l.number) i no_port → sound_port h s p ≡ true
lane_port_sound s h l i p acc st lt e =
    let same = lane_port_is s h l st i _ lt refl in
    ap (sound_port h s) (e ∙ sym same) ∙ record_sound s h h.lane_ports_at (l.start + i) acc.lane_records (lane_index s h l st i lt)

pub lane_port_small : (s : List ℕ) (h : Header) (l : Lane) (i : ℕ) (p : Port) → Accepted s h → Stands s h l → i < l.count → p ≡ get_or (ports_of h s l.number) i no_port → p.anchor + h.k ≤ 4294967295
lane_port_small s h l i p acc st lt e = port_small s h p acc.counted.framed acc.lengths (lane_port_sound s h l i p acc st lt e)

module _ (s : List ℕ) (h : Header) (i : ℕ) where
  pub own_at : i < h.lanes → own_row h s i ≡ own_row h s (get_or (numbers_from 0 h.lanes) i 0)
  own_at lt = ap (own_row h s) (let e = numbers_at 0 h.lanes i lt in omega arith)

  pub listed_at : i < h.ports → listed h s (port_of h.k (drop (h.hub_at + i * (h.k + 17)) s)) ≡ listed h s (get_or (hub h s) i no_port)
  unfolding hub
  listed_at lt = ap (listed h s) (sym (each_from (port_of h.k) (h.k + 17) no_port h.ports s h.hub_at i lt))

pub lanes_numbers : (h : Header) → length (numbers_from 0 h.lanes) ≡ h.lanes
lanes_numbers h = numbers_length 0 h.lanes
