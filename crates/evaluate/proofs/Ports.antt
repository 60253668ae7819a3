-- At most one port of a lane stands at a cut in an orientation; and words are compared rightly.
use Prim.Native.Nat.{ℕ, ◌+◌, ◌-◌, ◌*◌, ◌/◌, ◌<◌}
use native.Mathlib.Omega.{arith}
use native.Mathlib.Decide.{dec_lt}
use mathlib.Core.Path.{◌≡◌, refl, sym, ap, ◌∙◌, subst}
use mathlib.Core.Logic.{◌⊎◌, inl, inr}
use mathlib.Core.Bool.{Bool, true, false, true≢false}
use mathlib.Core.List.Memᴰ
use mathlib.Core.List.{List, [], ◌∷◌, Memᴰ}
use lib.Dec.{ltb, eqb}
use lib.ListN.{length, get_or-eq_default}
use borrow.Author.Tests.{eq-eqb, eqb-true, ltb-true}
use Rattle.ground.specs.Lists.{pick, keep, cons_if, after, rising, split}
use Rattle.ground.proofs.ListLaws.{both, all_at}
use Rattle.storage.specs.Records.{cut_of, same_turn, stands_at}
use Rattle.storage.specs.Orders.{word_order, same_word, turn, place_of, place, place_lt}
use Rattle.storage.proofs.OrderLaws.{word_same, word_self, equal_of}
use Rattle.storage.specs.declared.Port.{Port}
use Rattle.image.specs.declared.Header.{Header}
use Rattle.image.specs.Image.{counts, lane_ports, ports_of}
use Rattle.image.specs.Inner.{Framed}
use Rattle.image.specs.Panel.{Panel, panel_of, no_lane, lane_at}
use Rattle.image.proofs.Laws.{rows_length, panel_ports}
use Rattle.panel.specs.Refusals.{lane_rising, lanes_rising}
use Rattle.panel.specs.Inner.{Accepted}
use Rattle.graph.specs.Lookups.{PortAt, ports_at}
use Rattle.evaluate.proofs.NormalForm.{same_turn_is}
use Rattle.evaluate.proofs.Native.{lanes_length}

-- ---- words

pub same_word_is : (v w : List ℕ) → same_word v w ≡ true → v ≡ w
same_word_is v w e = word_same v w (equal_of (word_order v w) e)

pub word_same_of : (v w : List ℕ) → v ≡ w → same_word v w ≡ true
word_same_of v w e = subst (λ (u : List ℕ). same_word v u ≡ true) e (rw (word_self v))

-- ---- what is kept of a list

module _ {A : Type 0} (f : A → Bool) where
  pub keep_first : (l : List A) (q : A) (qs : List A) → keep f l ≡ q ∷ qs → Memᴰ q l × (f q ≡ true)
  unfolding keep
  keep_first [] q qs e = let z : ◌≡◌ {A = ℕ} 0 1 = cc in absurd (omega arith)
  keep_first (a ∷ l) q qs e = go (f a) refl e (λ r. keep_first l q qs r)
    where
      go : (b : Bool) → f a ≡ b → cons_if b a (keep f l) ≡ q ∷ qs → (keep f l ≡ q ∷ qs → Memᴰ q l × (f q ≡ true)) → Memᴰ q (a ∷ l) × (f q ≡ true)
      go true p r ih = let z : q ≡ a = cc in (Memᴰ.head z, ap f z ∙ p)
      go false p r ih = let (m, t) = ih r in (Memᴰ.tail m, t)

  pub keep_none : (l : List A) → keep f l ≡ [] → (m : A) → Memᴰ m l → f m ≡ true → ⊥
  unfolding keep
  keep_none [] e m i t = Memᴰ.not-nil i
  keep_none (a ∷ l) e m i t = go (f a) refl e (λ r j. keep_none l r m j t) (Memᴰ.cases_cons i)
    where
      go : (b : Bool) → f a ≡ b → cons_if b a (keep f l) ≡ [] → (keep f l ≡ [] → Memᴰ m l → ⊥) → (m ≡ a) ⊎ Memᴰ m l → ⊥
      go true p r ih j = let z : ◌≡◌ {A = ℕ} 0 1 = cc in omega arith
      go false p r ih (inl z) = true≢false (sym t ∙ ap f z ∙ p)
      go false p r ih (inr j) = ih r j

-- ---- one port at a cut

-- what a port at a cut is
stands : (k cut : ℕ) (r : Bool) (q : Port) → stands_at k cut r q ≡ true → (cut_of q k ≡ cut) × (q.reverse ≡ r)
unfolding stands_at
stands k cut r q e =
    let (a, b) = both (eqb (cut_of q k) cut) (same_turn q.reverse r) e in
    (eqb-true (cut_of q k) cut a, same_turn_is q.reverse r b)

turn_self : (r : Bool) → same_turn r r ≡ true
turn_self true = refl
turn_self false = refl

stands_of : (k cut : ℕ) (r : Bool) (q : Port) → cut_of q k ≡ cut → q.reverse ≡ r → stands_at k cut r q ≡ true
unfolding stands_at
stands_of k cut r q e t = rw (eq-eqb (cut_of q k) cut e) (subst (λ (b : Bool). same_turn q.reverse b ≡ true) t (turn_self q.reverse))

-- one cut and orientation, one place
one_place : (k : ℕ) (q m : Port) → cut_of q k ≡ cut_of m k → q.reverse ≡ m.reverse → place q ≡ place m
unfolding place_of
one_place k q m e t = go q.reverse m.reverse t e
  where
    go : (a b : Bool) → a ≡ b → q.anchor + pick a (k - k / 2) (k / 2) ≡ m.anchor + pick b (k - k / 2) (k / 2)
        → 2 * q.anchor + turn a ≡ 2 * m.anchor + turn b
    go false false p c = let z : q.anchor ≡ m.anchor = omega arith in rw z
    go true true p c = let z : q.anchor ≡ m.anchor = omega arith in rw z
    go false true p c = absurd (true≢false (sym p))
    go true false p c = absurd (true≢false p)

-- a list that rises: every later place is higher
ahead : (a : Port) (l : List Port) → after place_lt a l ≡ true → (m : Port) → Memᴰ m l → place a < place m
unfolding after place_lt
ahead a [] e m i = absurd (Memᴰ.not-nil i)
ahead a (b ∷ l) e m i =
    let (x, y) = both (ltb (place a) (place b)) (after place_lt b l) e in
    go (ltb-true (place a) (place b) x) (λ j. ahead b l y m j) (Memᴰ.cases_cons i)
  where
    go : place a < place b → (Memᴰ m l → place b < place m) → (m ≡ b) ⊎ Memᴰ m l → place a < place m
    go lt ih (inl z) = subst (λ (q : Port). place a < place q) (sym z) lt
    go lt ih (inr j) = let k = ih j in omega arith

tail_rises : (a : Port) (l : List Port) → rising place_lt (a ∷ l) ≡ true → rising place_lt l ≡ true
unfolding rising after
tail_rises a [] e = refl
tail_rises a (b ∷ l) e = (both (place_lt a b) (after place_lt b l) e).1

-- in a list that rises, the first that stands at a cut is the one that does
first_is : (k cut : ℕ) (r : Bool) (l : List Port) (q m : Port) (qs : List Port) → rising place_lt l ≡ true → keep (stands_at k cut r) l ≡ q ∷ qs
    → Memᴰ m l → cut_of m k ≡ cut → m.reverse ≡ r → q ≡ m
unfolding keep rising
first_is k cut r [] q m qs up e i c t = absurd (Memᴰ.not-nil i)
first_is k cut r (a ∷ l) q m qs up e i c t =
    go (stands_at k cut r a) refl e (Memᴰ.cases_cons i) (λ f j. first_is k cut r l q m qs (tail_rises a l up) f j c t)
  where
    rise : after place_lt a l ≡ true
    rise = up

    go : (b : Bool) → stands_at k cut r a ≡ b → cons_if b a (keep (stands_at k cut r) l) ≡ q ∷ qs → (m ≡ a) ⊎ Memᴰ m l
        → (keep (stands_at k cut r) l ≡ q ∷ qs → Memᴰ m l → q ≡ m) → q ≡ m
    go true p f (inl z) ih = let y : q ≡ a = cc in y ∙ sym z
    go true p f (inr j) ih =
        let (ca, ta) = stands k cut r a p in
        let z : place a ≡ place m = one_place k a m (ca ∙ sym c) (ta ∙ sym t) in
        let y : place a < place m = ahead a l rise m j in
        let x : ⊥ = omega arith in
        absurd x
    go false p f (inl z) ih = absurd (true≢false (sym (stands_of k cut r m c t) ∙ ap (stands_at k cut r) z ∙ p))
    go false p f (inr j) ih = ih f j

-- ---- over a panel whose lane lists rise

abbrev pub Rows : Panel → Type 0
Rows p = (lane : ℕ) → rising place_lt (lane_at p lane).ports ≡ true

module _ (p : Panel) (rows : Rows p) where
  pub port_found : (lane cut : ℕ) (r : Bool) (q : Port) (qs : List Port) → ports_at p lane cut r ≡ q ∷ qs → PortAt p lane cut r q
  unfolding ports_at
  port_found lane cut r q qs e =
      let (m, t) = keep_first (stands_at p.k cut r) (lane_at p lane).ports q qs e in
      let (c, u) = stands p.k cut r q t in
      record { among = m; cut_is = c; turn_is = u }

  pub port_none : (lane cut : ℕ) (r : Bool) (q : Port) → ports_at p lane cut r ≡ [] → PortAt p lane cut r q → ⊥
  unfolding ports_at
  port_none lane cut r q e h = keep_none (stands_at p.k cut r) (lane_at p lane).ports e q h.among (stands_of p.k cut r q h.cut_is h.turn_is)

  pub port_one : (lane cut : ℕ) (r : Bool) (q m : Port) (qs : List Port) → ports_at p lane cut r ≡ q ∷ qs → PortAt p lane cut r m → q ≡ m
  unfolding ports_at
  port_one lane cut r q m qs e h = first_is p.k cut r (lane_at p lane).ports q m qs (rows lane) e h.among h.cut_is h.turn_is

-- the lane lists of an accepted panel rise
pub rows_of : (s : List ℕ) (h : Header) → Accepted s h → Rows (panel_of s)
unfolding lanes_rising ports_of lane_rising rising
rows_of s h a lane = go (dec_lt lane h.lanes)
  where
    framed : Framed s h
    framed = a.counted.framed

    go : Dec (lane < h.lanes) → rising place_lt (lane_at (panel_of s) lane).ports ≡ true
    go (yes lt) =
        let room : lane < length (split (counts h s) (lane_ports h s)) = rw (rows_length s h framed) lt in
        rw (panel_ports s h lane framed lt) (all_at [] lane_rising (split (counts h s) (lane_ports h s)) lane a.rows room)
    go (no n) =
        let e : length (panel_of s).lanes ≡ h.lanes = lanes_length s h a in
        let d : lane_at (panel_of s) lane ≡ no_lane = get_or-eq_default (panel_of s).lanes no_lane {n = lane} (omega arith) in
        rw d refl
