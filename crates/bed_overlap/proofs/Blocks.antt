-- Laws of a block of lines whose segments are put into a room, and of a room's segments held against it.
use Prim.Native.Nat.{ℕ, zero, suc, ◌+◌, ◌-◌, ◌*◌, ◌≤◌, ◌<◌}
use native.Mathlib.Omega.{arith}
use mathlib.Core.Path.{◌≡◌, refl, sym, ap, ap₂, ◌∙◌, subst}
use Rattle.std.proofs.Common.{Option, MatchOption}
use Rattle.std.specs.Bool.{then_some}
use mathlib.Core.Bool.{Bool, true, false}
use mathlib.Core.List.{List, [], ◌∷◌, ◌++◌, map}
use lib.ListN.{length, take, drop, drop_of_length-le}
use lib.Seq.{sets, length-sets, take-nil, drop-nil}
use Rattle.evaluate.specs.declared.Segment.{Segment}
use Rattle.evaluate.specs.Segments.{apart}
use Rattle.evaluate.specs.Words.{segment_words}
use Rattle.words.proofs.Writing.{sets_append}
use Rattle.names.specs.Names.{lines_of}
use Rattle.names.proofs.Cutting.{lines_nothing}
use Rattle.rows.specs.Rows.{segment_of}
use Rattle.texts.specs.declared.Line.{Line}
use Rattle.texts.specs.Inner.{Lined, LineAt}
use Rattle.bed_overlap.specs.declared.Block.{Block}
use Rattle.bed_overlap.specs.Inner.{segments_from, block_at, Behind, BlockPut, standing, FirstApart, NextApart}
use Rattle.bed_overlap.proofs.Standing.{standing_set, standing_kept, standing_put}

-- ---- the segments of the lines

pub segments_nothing : (ns : List (List ℕ)) (text : List ℕ) (at : ℕ) → length text ≤ at → segments_from ns text at ≡ []
unfolding segments_from
segments_nothing ns text at h = ap (λ (l : List ℕ). map (segment_of ns) (lines_of l)) (drop_of_length-le text {i = at} h) ∙ ap (map (segment_of ns)) lines_nothing

segments_here : {ns : List (List ℕ)} {text : List ℕ} {at : ℕ} {l : Line} → LineAt ns text at l → segments_from ns text at ≡ l.segment ∷ segments_from ns text l.next
unfolding segments_from
segments_here {ns} {text} {at} {l} d = ap (map (segment_of ns)) d.lines ∙ ap (λ (s : Segment). s ∷ map (segment_of ns) (lines_of (drop l.next text))) (sym d.segment)

-- ---- put one by one

pub record Putting (ns : List (List ℕ)) (text : List ℕ) (at to : ℕ) (xs ys : List ℕ) (place from left : ℕ) : Type 0 where
  pub lined : Lined text from
  pub same : length ys ≡ length xs
  pub few : left ≤ 1024
  pub here : place + 4 * left ≡ to + 4096
  pub further : at + 1024 ≤ from + left
  pub words : sets ys place (segment_words (take left (segments_from ns text from))) ≡ sets xs to (segment_words (block_at ns text at))
  pub counted : 1024 + length (take left (segments_from ns text from)) ≡ left + length (block_at ns text at)
  pub rest : drop left (segments_from ns text from) ≡ drop 1024 (segments_from ns text at)

pub putting_start : {ns : List (List ℕ)} {text : List ℕ} {at to place : ℕ} {xs : List ℕ} → place ≡ to → Lined text at → Putting ns text at to xs xs place at 1024
unfolding block_at
putting_start e h = rw e (record { lined = h; same = refl; few = omega arith; here = omega arith; further = omega arith; words = refl; counted = refl; rest = refl })

module _ {ns : List (List ℕ)} {text : List ℕ} {at to : ℕ} {xs ys : List ℕ} {place from left : ℕ} (p : Putting ns text at to xs ys place from left) where
  putting_more : {l : Line} {zs : List ℕ} (s : Segment) → 0 < left → LineAt ns text from l → s ≡ l.segment → zs ≡ sets ys place (segment_words (s ∷ [])) → Putting ns text at to xs zs (place + 4) l.next (left - 1)
  putting_more {l} {zs} s lt d es ez = go left refl
    where
      here : segments_from ns text from ≡ s ∷ segments_from ns text l.next
      here = segments_here d ∙ ap (λ (t : Segment). t ∷ segments_from ns text l.next) (sym es)

      go : (m : ℕ) → left ≡ m → Putting ns text at to xs zs (place + 4) l.next (left - 1)
      go zero e = let z : ⊥ = omega arith in absurd z
      go (suc m) e =
          let less : left - 1 ≡ m = omega arith in
          let r = segments_from ns text l.next in
          let w = take m r in
          let t : take left (segments_from ns text from) ≡ s ∷ w = ap₂ (λ (k : ℕ) (x : List Segment). take k x) e here in
          let u : drop left (segments_from ns text from) ≡ drop m r = ap₂ (λ (k : ℕ) (x : List Segment). drop k x) e here in
          let ln : length (take left (segments_from ns text from)) ≡ suc (length w) = ap length t in
          let pf = p.few in
          let ph = p.here in
          let pu = p.further in
          let pc = p.counted in
          let df = d.further in
          let put : sets zs (place + 4) (segment_words w) ≡ sets ys place (segment_words (s ∷ w)) = rw ez (sym (sets_append (segment_words (s ∷ [])) (segment_words w) ys place)) in
          rw less
          (record {
            lined = d.rest;
            same = rw (ez, length-sets ys place (segment_words (s ∷ []))) p.same;
            few = omega arith;
            here = omega arith;
            further = omega arith;
            words = put ∙ ap (λ (x : List Segment). sets ys place (segment_words x)) (sym t) ∙ p.words;
            counted = omega arith;
            rest = sym u ∙ p.rest;
          })

  module _ (nothing : take left (segments_from ns text from) ≡ []) (all : drop left (segments_from ns text from) ≡ segments_from ns text from) (on : at < length text → at < from) where
    ended : BlockPut ns text at to xs ys (record { count = 1024 - left; next = from })
    ended =
        let z : length (take left (segments_from ns text from)) ≡ 0 = ap length nothing in
        let c = p.counted in
        let f = p.few in
        let g = p.further in
        record {
          words = sym (ap (λ (x : List Segment). sets ys place (segment_words x)) nothing) ∙ p.words;
          counted = omega arith;
          few = omega arith;
          behind = record { rest = sym all ∙ p.rest; lined = p.lined; order = omega arith; further = on };
        }

  putting_open : length text ≤ from → BlockPut ns text at to xs ys (record { count = 1024 - left; next = from })
  putting_open h =
      let z = segments_nothing ns text from h in
      ended (ap (take left) z ∙ take-nil left) (ap (drop left) z ∙ drop-nil left ∙ sym z) (λ k. omega arith)

-- i of them have been put
module _ {ns : List (List ℕ)} {text : List ℕ} {at to : ℕ} {xs ys : List ℕ} {from : ℕ} (i : ℕ) (p : Putting ns text at to xs ys (to + 4 * i) from (1024 - i)) where
  pub putting_again : {l : Line} {zs : List ℕ} → i < 1024 → LineAt ns text from l → zs ≡ sets ys (to + 4 * i) (segment_words (l.segment ∷ [])) → Putting ns text at to xs zs (to + 4 * (i + 1)) l.next (1024 - (i + 1))
  putting_again {l} {zs} lt d ez =
      let a : to + 4 * i + 4 ≡ to + 4 * (i + 1) = omega arith in
      let b : 1024 - i - 1 ≡ 1024 - (i + 1) = omega arith in
      rw (← a, ← b) (putting_more p l.segment (omega arith) d refl ez)

  pub putting_ended : i ≤ 1024 → length text ≤ from → BlockPut ns text at to xs ys (record { count = i; next = from })
  putting_ended few h =
      let e : 1024 - (1024 - i) ≡ i = omega arith in
      subst (λ (k : ℕ). BlockPut ns text at to xs ys (record { count = k; next = from })) e (putting_open p h)

  pub putting_full : 1024 ≤ i → BlockPut ns text at to xs ys (record { count = 1024; next = from })
  putting_full h =
      let z : 1024 - i ≡ 0 = omega arith in
      let f = p.further in
      let full : 1024 - (1024 - i) ≡ 1024 = omega arith in
      subst (λ (k : ℕ). BlockPut ns text at to xs ys (record { count = k; next = from })) full
      (ended p (ap (λ (k : ℕ). take k (segments_from ns text from)) z) (ap (λ (k : ℕ). drop k (segments_from ns text from)) z) (λ k. omega arith))

-- ---- a block behind the first ones of a room

module _ {ns : List (List ℕ)} {text : List ℕ} {at count : ℕ} {xs ys : List ℕ} {b : Block} (p : BlockPut ns text at (1 + 4 * count) xs ys b) (long : 8193 ≤ length xs) (few : count ≤ 1024) where
  fits : 1 + 4 * count + 4 * length (block_at ns text at) ≤ length xs
  fits = let c = p.counted in let f = p.few in omega arith

  pub next_told : {zs : List ℕ} {r : Bool} {o : Option ℕ} → FirstApart (count + b.count) ys zs r → o ≡ then_some r b.next → NextApart ns text at count xs zs o
  next_told {zs} {r} {o} f e = record { told = rw e (go r known); same = ap (standing count) f.words ∙ standing_set count ys (count + b.count) ∙ ap (standing count) p.words ∙ standing_kept count xs (block_at ns text at) fits }
    where
      known : r ≡ apart (standing count xs ++ block_at ns text at)
      known = f.told ∙ ap apart (ap₂ (λ (k : ℕ) (l : List ℕ). standing (count + k) l) p.counted p.words ∙ standing_put count xs (block_at ns text at) fits)

      go : (r : Bool) → r ≡ apart (standing count xs ++ block_at ns text at)
          → MatchOption (then_some r b.next) (apart (standing count xs ++ block_at ns text at) ≡ false) (λ next. (apart (standing count xs ++ block_at ns text at) ≡ true) × Behind ns text at next)
      go true k = (sym k, p.behind)
      go false k = sym k
