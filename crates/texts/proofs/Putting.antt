-- Laws of the words that a text holds, put word by word.
use Prim.Native.Nat.{ℕ, suc, ◌+◌, ◌≤◌, ◌<◌}
use native.Mathlib.Omega.{arith}
use mathlib.Core.Path.{◌≡◌, refl, sym, ap, ap₂, ◌∙◌, subst}
use mathlib.Core.Bool.{Bool, true, false, ◌||◌}
use mathlib.Core.List.{List, [], ◌∷◌, ◌++◌, map}
use lib.Dec.{eqb}
use lib.ListN.{length, drop, get_or, set, drop_of_length-le, length-set}
use lib.Seq.{sets, length-sets, set_comm, set-set, set-get_or, get_or-set_same, get_or-set_other}
use borrow.Author.Tests.{eq-eqb, ne_eqb, eqb-true, eqb-false}
use Rattle.ground.specs.Lists.{pick}
use Rattle.ground.proofs.ListLaws.{both}
use Rattle.evaluate.specs.declared.Segment.{Segment}
use Rattle.evaluate.specs.Segments.{Route}
use Rattle.evaluate.specs.Words.{bit, segment_words}
use Rattle.words.proofs.Writing.{sets_append}
use Rattle.names.specs.Names.{lines_of}
use Rattle.names.proofs.Cutting.{lines_nothing}
use Rattle.rows.specs.Rows.{slot_of, segment_of}
use Rattle.texts.specs.declared.Line.{Line}
use Rattle.texts.specs.declared.Place.{Place}
use Rattle.texts.specs.Bed.{slots_from, onto, gathered}
use Rattle.texts.specs.Inner.{Lined, LineAt, place_for, words_from, Holding}
use Rattle.texts.proofs.LineLaws.{text_lined, text_slots}
use Rattle.texts.proofs.Scanning.{gathered_some, first_empty}

-- ---- words that are set

under : (vs l : List ℕ) (i j a : ℕ) → i < j → set (sets l j vs) i a ≡ sets (set l i a) j vs
under [] l i j a h = refl
under (v ∷ vs) l i j a h =
    let n : j ≡ i → ⊥ = λ e. omega arith in
    under vs (set l j v) i (suc j) a (omega arith) ∙ ap (λ (x : List ℕ). sets x (suc j) vs) (set_comm l j i v a n)

sets_get_d : (vs l : List ℕ) (i j : ℕ) → i < j → get_or (sets l j vs) i 0 ≡ get_or l i 0
sets_get_d [] l i j h = refl
sets_get_d (v ∷ vs) l i j h = sets_get_d vs (set l j v) i (suc j) (omega arith) ∙ get_or-set_other l j i v 0 (λ e. omega arith)

-- a count that is set again after the words behind it
twice : (vs l : List ℕ) (i j a b : ℕ) → i < j → set (sets (set l i a) j vs) i b ≡ sets (set l i b) j vs
twice vs l i j a b h = under vs (set l i a) i j b h ∙ ap (λ (x : List ℕ). sets x j vs) (set-set l i a b)

new_set : (ys : List ℕ) (to a : ℕ) (f w : List ℕ) → length f ≡ 4 → sets (set (sets (set ys to 1) (to + 1) f) to (1 + a)) (to + 1 + 4) w ≡ sets ys to (suc a ∷ (f ++ w))
new_set ys to a f w l =
    let o : 1 + a ≡ suc a = omega arith in
    let t : to + 1 ≡ suc to = omega arith in
    let k : suc to + 4 ≡ suc to + length f = rw l in
    rw (twice f ys to (to + 1) 1 (1 + a) (omega arith), o, t, k) (sym (sets_append f w (set ys to (suc a)) (suc to)))

old_set : (ys : List ℕ) (head to b a : ℕ) (f w : List ℕ) → length f ≡ 4 → head < to → sets (set (sets (set ys head b) to f) head (b + a)) (to + 4) w ≡ sets (set ys head (b + a)) to (f ++ w)
old_set ys head to b a f w l lt =
    let k : to + 4 ≡ to + length f = rw l in
    rw (twice f ys head to b (b + a) lt, k) (sym (sets_append f w (set ys head (b + a)) to))

-- the four words of a segment
abbrev four : Segment → List ℕ
four s = s.source ∷ s.start ∷ s.end ∷ bit s.reverse ∷ []

-- how many segments are added to the route at hand
abbrev added : List Route → ℕ
added [] = 0
added (r ∷ rs) = length r

new_words : (s : Segment) (g : List Route) → 0 < length g → words_from ([] ∷ onto s g) ≡ suc (added g) ∷ (four s ++ words_from g)
new_words s [] h = let z : ⊥ = omega arith in absurd z
new_words s (r ∷ rs) h = refl

old_words : (s : Segment) (g : List Route) → 0 < length g → words_from (onto s g) ≡ four s ++ words_from g
old_words s [] h = let z : ⊥ = omega arith in absurd z
old_words s (r ∷ rs) h = refl

old_added : (s : Segment) (g : List Route) → 0 < length g → added (onto s g) ≡ suc (added g)
old_added s [] h = let z : ⊥ = omega arith in absurd z
old_added s (r ∷ rs) h = refl

some_words : (ns : List (List ℕ)) (k : ℕ) (l : List ℕ) (ls : List (List ℕ)) → 4 ≤ length (words_from (gathered ns k (l ∷ ls)))
unfolding gathered
some_words ns k l ls = go (eqb (slot_of l) k) (gathered ns (suc k) ls) (gathered ns k ls)
  where
    go : (b : Bool) (g h : List Route) → 4 ≤ length (words_from (pick b ([] ∷ onto (segment_of ns l) g) (onto (segment_of ns l) h)))
    go true [] h = omega arith
    go true (r ∷ rs) h = omega arith
    go false g [] = omega arith
    go false g (r ∷ rs) = omega arith

-- ---- the loop

pub record Putting (ns : List (List ℕ)) (text xs : List ℕ) (at to head count routes : ℕ) (ys : List ℕ) : Type 0 where
  pub lined : Lined text at
  pub slots : slots_from routes (map slot_of (lines_of (drop at text))) ≡ true
  pub same : length ys ≡ length xs
  pub here : get_or ys head 0 ≡ count
  pub behind : head < to
  pub small : count ≤ 65536 + to
  pub few : routes ≤ to
  pub fits : to + length (words_from (gathered ns routes (lines_of (drop at text)))) ≤ length ys
  pub short : to + length (words_from (gathered ns routes (lines_of (drop at text)))) ≤ 65536
  pub todo : sets (set ys head (count + added (gathered ns routes (lines_of (drop at text))))) to (words_from (gathered ns routes (lines_of (drop at text))))
      ≡ sets xs 2 (words_from (gathered ns 0 (lines_of text)))

first_added : (ns : List (List ℕ)) (ls : List (List ℕ)) → slots_from 0 (map slot_of ls) ≡ true → added (gathered ns 0 ls) ≡ 0
first_added ns ls e = go (gathered ns 0 ls) (first_empty ns ls e)
  where
    go : (g : List Route) → g ≡ [] ∷ drop 1 g → added g ≡ 0
    go [] e = refl
    go (r ∷ rs) e = let q : r ≡ [] = ap (λ (g : List Route). get_or g 0 []) e in rw q

pub putting_start : {ns : List (List ℕ)} {text xs : List ℕ} {routes : ℕ} → Holding ns text routes xs → Putting ns text xs 0 2 1 routes 0 xs
putting_start {ns} {text} {xs} {routes} h =
    let z : added (gathered ns 0 (lines_of text)) ≡ 0 = first_added ns (lines_of text) (text_slots text h.good) in
    let k = h.few in
    let same : set xs 1 (routes + added (gathered ns 0 (lines_of text))) ≡ xs = (let q : routes + added (gathered ns 0 (lines_of text)) ≡ get_or xs 1 0 = rw (z, h.count) (omega arith) in rw q (set-get_or xs 1 0)) in
    record {
      lined = text_lined text h.good;
      slots = text_slots text h.good;
      same = refl;
      here = h.count;
      behind = omega arith;
      small = omega arith;
      few = omega arith;
      fits = h.fits;
      short = h.short;
      todo = ap (λ (l : List ℕ). sets l 2 (words_from (gathered ns 0 (lines_of text)))) same;
    }

module _ {ns : List (List ℕ)} {text xs : List ℕ} {at to head count routes : ℕ} {ys : List ℕ} (c : Putting ns text xs at to head count routes ys) where
  module _ (l : Line) (d : LineAt ns text at l) where
    abbrev rest : List (List ℕ)
    rest = lines_of (drop l.next text)

    record Parts : Type 0 where
      follow : (eqb (slot_of d.line) routes || eqb (suc (slot_of d.line)) routes) ≡ true
      slots : slots_from (suc (slot_of d.line)) (map slot_of rest) ≡ true

    parts : Parts
    unfolding slots_from
    parts =
        let g : slots_from routes (map slot_of (d.line ∷ rest)) ≡ true = subst (λ (m : List (List ℕ)). slots_from routes (map slot_of m) ≡ true) d.lines c.slots in
        let (f, fs) = both (eqb (slot_of d.line) routes || eqb (suc (slot_of d.line)) routes) (slots_from (suc (slot_of d.line)) (map slot_of rest)) g in
        record { follow = f; slots = fs }

    four_more : 4 ≤ length (words_from (gathered ns routes (lines_of (drop at text))))
    four_more = rw d.lines (some_words ns routes d.line rest)

    room_left : to + 4 ≤ 65536
    room_left = let f = c.short in let k = four_more in omega arith

    pub hold_to : to < 65536
    hold_to = let r = room_left in omega arith

    pub hold_count : count < 200000
    hold_count = let r = room_left in let s = c.small in omega arith

    pub hold_routes : routes < 200000
    hold_routes = let r = room_left in let s = c.few in omega arith

    abbrev after : Place → Type 0
    after q = Putting ns text xs l.next (q.to + 4) q.head q.count q.routes (sets (set ys q.head q.count) q.to (four (segment_of ns d.line)))

    new_case : slot_of d.line ≡ routes → after (record { to = to + 1; head = to; count = 1; routes = routes + 1 })
    unfolding gathered
    new_case q =
        let g = gathered ns (suc routes) rest in
        let pos = gathered_some ns (suc routes) rest in
        let one : routes + 1 ≡ suc routes = omega arith in
        let eg : gathered ns routes (lines_of (drop at text)) ≡ [] ∷ onto (segment_of ns d.line) g = ap (gathered ns routes) d.lines ∙ rw (q, eq-eqb routes routes refl) in
        let ew : words_from (gathered ns routes (lines_of (drop at text))) ≡ suc (added g) ∷ (four (segment_of ns d.line) ++ words_from g) = ap words_from eg ∙ new_words (segment_of ns d.line) g pos in
        let ea : count + added (gathered ns routes (lines_of (drop at text))) ≡ count = ap (λ (x : List Route). count + added x) eg ∙ (omega arith) in
        let lw : length (words_from (gathered ns routes (lines_of (drop at text)))) ≡ 5 + length (words_from g) = ap length ew ∙ (omega arith) in
        let f = c.fits in
        let s = c.short in
        let la = length-set ys to 1 in
        let lb = length-sets (set ys to 1) (to + 1) (four (segment_of ns d.line)) in
        let ls = c.same in
        let fw = c.few in
        let back : set ys head (count + added (gathered ns routes (lines_of (drop at text)))) ≡ ys = rw (ea, ← c.here) (set-get_or ys head 0) in
        let sl : slots_from (routes + 1) (map slot_of rest) ≡ true = subst (λ (x : ℕ). slots_from x (map slot_of rest) ≡ true) (ap suc q ∙ sym one) parts.slots in
        let old : sets ys to (suc (added g) ∷ (four (segment_of ns d.line) ++ words_from g)) ≡ sets xs 2 (words_from (gathered ns 0 (lines_of text)))
        = ap₂ (λ (x y : List ℕ). sets x to y) (sym back) (sym ew) ∙ c.todo in
        record {
          lined = d.rest;
          slots = sl;
          same = omega arith;
          here = sets_get_d (four (segment_of ns d.line)) (set ys to 1) to (to + 1) (omega arith) ∙ get_or-set_same ys to 1 0 (omega arith);
          behind = omega arith;
          small = omega arith;
          few = omega arith;
          fits = rw one (omega (arith, f, lw, la, lb));
          short = rw one (omega (arith, s, lw));
          todo = rw one (new_set ys to (added g) (four (segment_of ns d.line)) (words_from g) refl ∙ old);
        }

    old_case : (slot_of d.line ≡ routes → ⊥) → suc (slot_of d.line) ≡ routes → after (record { to = to; head = head; count = count + 1; routes = routes })
    unfolding gathered
    old_case ne q =
        let g = gathered ns routes rest in
        let pos = gathered_some ns routes rest in
        let eg : gathered ns routes (lines_of (drop at text)) ≡ onto (segment_of ns d.line) g = ap (gathered ns routes) d.lines ∙ rw (ne_eqb (slot_of d.line) routes ne) in
        let ew : words_from (gathered ns routes (lines_of (drop at text))) ≡ four (segment_of ns d.line) ++ words_from g = ap words_from eg ∙ old_words (segment_of ns d.line) g pos in
        let ea : count + added (gathered ns routes (lines_of (drop at text))) ≡ count + 1 + added g = ap (λ (x : List Route). count + added x) eg ∙ rw (old_added (segment_of ns d.line) g pos) (omega arith) in
        let lw : length (words_from (gathered ns routes (lines_of (drop at text)))) ≡ 4 + length (words_from g) = ap length ew ∙ (omega arith) in
        let f = c.fits in
        let s = c.short in
        let la = length-set ys head (count + 1) in
        let lb = length-sets (set ys head (count + 1)) to (four (segment_of ns d.line)) in
        let ls = c.same in
        let fw = c.few in
        let sm = c.small in
        let bh = c.behind in
        let old : sets (set ys head (count + 1 + added g)) to (four (segment_of ns d.line) ++ words_from g) ≡ sets xs 2 (words_from (gathered ns 0 (lines_of text)))
        = ap₂ (λ (x : ℕ) (y : List ℕ). sets (set ys head x) to y) (sym ea) (sym ew) ∙ c.todo in
        record {
          lined = d.rest;
          slots = subst (λ (x : ℕ). slots_from x (map slot_of rest) ≡ true) q parts.slots;
          same = omega arith;
          here = sets_get_d (four (segment_of ns d.line)) (set ys head (count + 1)) head to bh ∙ get_or-set_same ys head (count + 1) 0 (omega arith);
          behind = omega arith;
          small = omega arith;
          few = omega arith;
          fits = omega (arith, f, lw, la, lb);
          short = omega (arith, s, lw);
          todo = old_set ys head to (count + 1) (added g) (four (segment_of ns d.line)) (words_from g) refl bh ∙ old;
        }

    module _ (pl : Place) (ep : pl ≡ place_for to head count routes l.slot) where
      stands : (Q : Place → Type 0) → ((q : Place) → after q → q.head ≤ to → q.to ≤ to + 1 → Q q) → Q pl
      stands Q f = subst Q (sym ep) (go (eqb (slot_of d.line) routes) refl parts.follow)
        where
          b : head < to
          b = c.behind

          go : (t : Bool) → eqb (slot_of d.line) routes ≡ t → (t || eqb (suc (slot_of d.line)) routes) ≡ true → Q (place_for to head count routes l.slot)
          go true x u = let v = b in rw (d.slot, x) (f (record { to = to + 1; head = to; count = 1; routes = routes + 1 }) (new_case (eqb-true (slot_of d.line) routes x)) (omega arith) (omega arith))
          go false x u = let v = b in rw (d.slot, x) (f (record { to = to; head = head; count = count + 1; routes = routes }) (old_case (eqb-false (slot_of d.line) routes x) (eqb-true (suc (slot_of d.line)) routes u)) (omega arith) (omega arith))

      low : pl.to + 4 ≤ length ys
      low =
          stands (λ (q : Place). q.to + 4 ≤ length ys)
          (λ (q : Place) (a : after q) (hd : q.head ≤ to) (tn : q.to ≤ to + 1). let f = a.fits in let la = length-set ys q.head q.count in let lb = length-sets (set ys q.head q.count) q.to (four (segment_of ns d.line)) in omega arith)

      pub hold_head : pl.head < length ys
      hold_head = stands (λ (q : Place). q.head < length ys) (λ (q : Place) (a : after q) (hd : q.head ≤ to) (tn : q.to ≤ to + 1). let f = c.fits in let k = four_more in omega arith)

      pub hold_words : (h x : ℕ) → pl.to + 4 ≤ length (set ys h x)
      hold_words h x = rw (length-set ys h x) low

      pub hold_next : (zs : List ℕ) → zs ≡ sets (set ys pl.head pl.count) pl.to (segment_words (l.segment ∷ [])) → Putting ns text xs l.next (pl.to + 4) pl.head pl.count pl.routes zs
      hold_next zs ez =
          subst (λ (z : List ℕ). Putting ns text xs l.next (pl.to + 4) pl.head pl.count pl.routes z) (sym (ez ∙ ap (λ (s : Segment). sets (set ys pl.head pl.count) pl.to (four s)) d.segment))
          (stands after (λ (q : Place) (a : after q) (hd : q.head ≤ to) (tn : q.to ≤ to + 1). a))

pub putting_ends : {ns : List (List ℕ)} {text xs : List ℕ} {at to head count routes : ℕ} {ys : List ℕ} → Putting ns text xs at to head count routes ys → (n : ℕ) → n ≡ length text → n ≤ at → ys ≡ sets xs 2 (words_from (gathered ns 0 (lines_of text)))
unfolding gathered
putting_ends {ns} {text} {xs} {at} {to} {head} {count} {routes} {ys} c n en h =
    let d : lines_of (drop at text) ≡ [] = ap lines_of (drop_of_length-le text {i = at} (omega arith)) ∙ lines_nothing in
    let z : count + 0 ≡ get_or ys head 0 = sym (c.here ∙ (omega arith)) in
    sym (ap (λ (x : ℕ). set ys head x) z ∙ set-get_or ys head 0) ∙ (rw d at c.todo)
