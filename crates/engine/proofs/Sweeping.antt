-- Laws of the sweep over the families, and of the call.
use Prim.Native.Nat.{ℕ, zero, suc, ◌+◌, ◌-◌, ◌≤◌, ◌<◌}
use native.Mathlib.Omega.{arith}
use native.Mathlib.Nat.{zero-add}
use native.Mathlib.Numerals.{add-one}
use mathlib.Core.Path.{◌≡◌, refl, sym, ◌∙◌, ap, subst}
use mathlib.Core.Bool.{Bool, true, false, true≢false}
use mathlib.Core.List.{List, [], ◌∷◌, ◌++◌, map, append-nil}
use lib.ListN.{length, take, drop, get_or}
use Rattle.ground.specs.Lists.{pick, sum}
use Rattle.image.specs.declared.Header.{Header}
use Rattle.image.specs.declared.Family.{Family}
use Rattle.image.specs.declared.PanelRefusal.{PanelRefusal}
use Rattle.image.specs.Header.{refusal_number}
use Rattle.std.specs.declared.result.Result.{Result}
use Rattle.std.specs.declared.result.Result.TheVariants.{Ok, Err}
use Rattle.image.specs.Image.{path_counts}
use Rattle.image.specs.Panel.{Panel, panel_of, paths_at}
use Rattle.image.proofs.Laws.{panel_families, families_length}
use Rattle.panel.specs.Inner.{Accepted}
use Rattle.graph.specs.Check.{checked, panel_refusal}
use Rattle.evaluate.specs.Segments.{Assignment, flat}
use Rattle.evaluate.specs.Words.{encode}
use Rattle.evaluate.specs.Check.{over}
use Rattle.search.specs.Walk.{Place, begins}
use Rattle.search.specs.Answers.{fitting, written}
use Rattle.frames.specs.declared.Stored.{Stored}
use Rattle.frames.specs.Inner.{no_path, frame_with}
use Rattle.frames.proofs.Laws.{frame_root}
use Rattle.landings.specs.Inner.{Known}
use Rattle.listing.specs.Inner.{lists_from, filled_with, to_list, none_listed}
use Rattle.engine.specs.declared.Here.{Here}
use Rattle.engine.specs.declared.Told.{Told}
use Rattle.engine.specs.declared.PlainReply.{PlainReply}
use Rattle.plain.specs.Steps.{depth, Mark, Marks, gives, too_deep, listed, goes_too_deep, place_marks, of_family, family_marks, marks_from, plain_marks, plain_list, plain_refusal}
use Rattle.engine.specs.Inner.{assignment_of, words_of, looking, listing_from, Gathered, Stepped, come_to, place_tells, Rooted, Ample, Swept, Replied}
use Rattle.engine.specs.Answer.{plain_answer, plain_out}
use borrow.Author.Tests.{ne_eqb}
use Rattle.graph.proofs.Laws.{refusal_some}
use Rattle.plain.proofs.Marks.{listed_join, family_deep}
use Rattle.engine.proofs.Gathering.{tells_none, tells_then}

-- ---- the families, one after the other

family_words : (f : ℕ) (l : Marks) → words_of f l ≡ map encode (listed (map (of_family f) l))
unfolding words_of listed
family_words f [] = refl
family_words f (gives x ∷ l) = ap (λ r. encode (assignment_of f x) ∷ r) (family_words f l)
family_words f (too_deep ∷ l) = family_words f l

map_join : (l m : List Assignment) → map encode (l ++ m) ≡ map encode l ++ map encode m
map_join [] m = refl
map_join (x ∷ l) m = ap (λ r. encode x ∷ r) (map_join l m)

abbrev words_in : List (Mark Assignment) → List (List ℕ)
words_in marks = map encode (listed marks)

wordless : words_in [] ≡ []
unfolding listed
wordless = refl

words_join : (m n : List (Mark Assignment)) → words_in (m ++ n) ≡ words_in m ++ words_in n
words_join m n = ap (map encode) (listed_join n m) ∙ map_join (listed m) (listed n)

module _ (s : List ℕ) (h : Header) where
  -- where a family's step stands
  abbrev outset : Family → Here
  outset family = record { h = h; family = family; top = 0; left = depth }

  families_are : Accepted s h → length (panel_of s).families ≡ h.families
  families_are acc = ap length (panel_families s h acc.counted.framed) ∙ families_length s h

  pub record Sweeping (path slot out : List ℕ) (l : Told) (memo p₁ s₁ o₁ : List ℕ) (n start : ℕ) (r : Told) : Type 0 where
    pub onward : (o₂ : List ℕ) (q : Told) → Swept o₁ r (marks_from (panel_of s) (h.families - n) n) o₂ q → Swept out l (plain_marks (panel_of s)) o₂ q
    pub few : n ≤ h.families
    pub starts : start ≡ sum (take n (path_counts h s))
    pub known : Known s h memo
    pub ample : Ample p₁ s₁ o₁ r
    pub long_path : length p₁ ≡ length path
    pub long_slot : length s₁ ≡ length slot
    pub long_out : length o₁ ≡ length out

  pub sweeping_start : {memo path slot out : List ℕ} {l : Told} → Accepted s h → Known s h memo → Ample path slot out l → Sweeping path slot out l memo path slot out 0 0 l
  unfolding plain_marks sum
  sweeping_start acc k a =
      let e : h.families - 0 ≡ length (panel_of s).families = (let f = families_are acc in omega arith) in
      record { onward = λ o₂ q t. rw e at t; few = omega arith; starts = refl; known = k; ample = a; long_path = refl; long_slot = refl; long_out = refl }

  module _ {path slot out : List ℕ} {l : Told} {memo p₁ s₁ o₁ : List ℕ} {n start : ℕ} {r : Told} (u : Sweeping path slot out l memo p₁ s₁ o₁ n start r) where
    pub sweeping_done : h.families ≤ n → Swept out l (plain_marks (panel_of s)) o₁ r
    unfolding marks_from
    sweeping_done k =
        let e : h.families - n ≡ 0 = omega arith in
        u.onward o₁ r (rw e (tells_none words_in wordless words_join u.ample.within u.ample.written))

    pub sweeping_next : {memo₂ p₂ s₂ o₂ : List ℕ} {q : Told} (family : Family) (c : Stored) (next : ℕ) → n < h.families → family.number ≡ n → Rooted s h family c
        → Stepped s (outset family) p₁ s₁ o₁ r (place_tells s (outset family) p₁ c) memo₂ p₂ s₂ o₂ q → next ≡ sum (take (family.number + 1) (path_counts h s))
        → Sweeping path slot out l memo₂ p₂ s₂ o₂ (n + 1) next q
    unfolding marks_from family_marks
    sweeping_next {memo₂} {p₂} {s₂} {o₂} {q} family c next lt num rooted t e =
        let a = u.ample in
        let room = a.pieces in
        let p = panel_of s in
        let x = t.long_path in
        let y = t.long_slot in
        let v = a.scratch in
        let first : Place = begins 0 (get_or (paths_at p family.number) 0 0) [] in
        let spot : come_to p₁ 0 c ≡ first = ap (λ f. f.place) (frame_root p₁ c (omega arith)) ∙ ap (λ (z : Stored). (frame_with no_path z).place) rooted.is in
        let told : Marks = place_marks p (paths_at p family.number) 64 first in
        let mine : Swept o₁ r (map (of_family family.number) told) o₂ q
        = record {
          lists = λ z. rw (← (family_words family.number told)) (rw spot at (t.tells.lists z));
          deep = rw (← (family_deep family.number told)) (rw spot at t.tells.deep);
          stays = t.tells.stays;
          looks = t.tells.looks;
        } in
        let mine' : Swept o₁ r (family_marks p n) o₂ q = rw num at mine in
        let k : h.families - n ≡ suc (h.families - suc n) = omega arith in
        record {
          onward = λ o₃ q₃ w. u.onward o₃ q₃ (rw k (tells_then words_in wordless words_join mine' (rw add-one at w)));
          few = omega arith;
          starts = e ∙ ap (λ (m : ℕ). sum (take (m + 1) (path_counts h s))) num;
          known = t.known;
          ample = record { pieces = omega arith; scratch = omega arith; within = t.within; written = t.written };
          long_path = x ∙ u.long_path;
          long_slot = y ∙ u.long_slot;
          long_out = t.long_out ∙ u.long_out;
        }

-- ---- the answer

drop_none : {A : Type 0} (n : ℕ) → drop {A = A} n [] ≡ []
drop_none zero = refl
drop_none (suc n) = refl

drop_words : (n : ℕ) (l : List Assignment) → drop n (map encode l) ≡ map encode (drop n l)
drop_words zero l = refl
drop_words (suc n) [] = refl
drop_words (suc n) (x ∷ l) = drop_words n l

split_back : {A : Type 0} (n : ℕ) (l : List A) → take n l ++ drop n l ≡ l
split_back zero l = refl
split_back (suc n) [] = refl
split_back (suc n) (x ∷ l) = ap (λ r. x ∷ r) (split_back n l)

none_left : (room : ℕ) (full : Bool) (skip words : ℕ) → to_list room full skip words [] ≡ []
unfolding fitting
none_left room true skip words = refl
none_left room false skip words = rw (drop_none skip) refl

module _ (p : Panel) (from : ℕ) (out out' : List ℕ) (l r : Told) (is : l ≡ listing_from from) (swept : Swept out l (plain_marks p) out' r) (flat-told : goes_too_deep (plain_marks p) ≡ false) where
  t : Swept out (listing_from from) (plain_marks p) out' r
  t = subst (λ (x : Told). Swept out x (plain_marks p) out' r) is swept

  mine : Gathered (map encode (listed (plain_marks p))) out out' (none_listed from) r.listing
  mine = t.lists (t.deep (λ z. flat-told) ∙ flat-told)

  abbrev told : List (List ℕ)
  told = written from (length out) (plain_list p)

  to-list : lists_from out (none_listed from) (map encode (listed (plain_marks p)) ++ []) ≡ told
  unfolding written
  to-list =
      let e : length out - 0 ≡ length out = omega arith in
      rw (append-nil (map encode (listed (plain_marks p))), e, drop_words from (plain_list p)) refl

  left_over : lists_from out' r.listing [] ≡ []
  left_over = none_left (length out') r.listing.full r.listing.skip r.listing.words

  out_told : out' ≡ over (flat told) out
  out_told =
      let e = mine.room [] in
      let x : filled_with out (none_listed from) (lists_from out (none_listed from) (map encode (listed (plain_marks p)) ++ [])) ≡ over (flat told) out = rw (to-list, zero-add (length (flat told))) refl in
      let z : r.listing.words + 0 ≡ r.listing.words = omega arith in
      let y : filled_with out' r.listing (lists_from out' r.listing []) ≡ out' = rw (left_over, z) (split_back r.listing.words out') in
      sym y ∙ sym e ∙ x

  written_told : r.listing.written ≡ length told
  written_told =
      let e = mine.written [] in
      let x : length (lists_from out (none_listed from) (map encode (listed (plain_marks p)) ++ [])) ≡ length told = ap length to-list in
      let y : length (lists_from out' r.listing []) ≡ 0 = ap length left_over in
      omega arith

  words_told : r.listing.words ≡ length (flat told)
  words_told =
      let e = mine.words [] in
      let x : length (flat (lists_from out (none_listed from) (map encode (listed (plain_marks p)) ++ []))) ≡ length (flat told) = ap (λ (l : List (List ℕ)). length (flat l)) to-list in
      let y : length (flat (lists_from out' r.listing [])) ≡ 0 = ap (λ (l : List (List ℕ)). length (flat l)) left_over in
      omega arith

  pub replied_told : (q : PlainReply) → q ≡ record { refusal = 0; place = 0; written = r.listing.written; words = r.listing.words } → Replied p from out out' q
  replied_told q e = record { reply = rw flat-told (e ∙ rw (written_told, words_told) refl); room = rw flat-told out_told }

-- what the first sweep tells
pub look_told : (p : Panel) (out out' : List ℕ) (l r : Told) (b : Bool) → l ≡ looking → Swept out l (plain_marks p) out' r → r.deep ≡ b → goes_too_deep (plain_marks p) ≡ b
look_told p out out' l r b q t e =
    let t' : Swept out looking (plain_marks p) out' r = subst (λ (x : Told). Swept out x (plain_marks p) out' r) q t in
    sym (t'.deep (λ z. absurd (true≢false z))) ∙ e

module _ (s : List ℕ) (from : ℕ) (out out' : List ℕ) (h : Header) (q : PlainReply) (o : Result Header PanelRefusal) (is : o ≡ checked s) (good : o ≡ Ok h) (t : Replied (panel_of s) from out out' q) where
  accepts : panel_refusal s ≡ 0
  unfolding panel_refusal
  accepts = rw (sym is ∙ good) refl

  number_is : (b : Bool) → goes_too_deep (plain_marks (panel_of s)) ≡ b → plain_refusal s ≡ record { number = pick b 42 0; place = 0 }
  unfolding plain_refusal
  number_is true e = rw (accepts, e) refl
  number_is false e = rw (accepts, e) refl

  pub list-answer : q ≡ plain_answer s from (length out)
  unfolding plain_answer
  list-answer = t.reply ∙ go (goes_too_deep (plain_marks (panel_of s))) refl
    where
      go : (b : Bool) → goes_too_deep (plain_marks (panel_of s)) ≡ b
          → pick b (record { refusal = 42; place = 0; written = 0; words = 0 }) (record { refusal = 0; place = 0; written = length (written from (length out) (plain_list (panel_of s))); words = length (flat (written from (length out) (plain_list (panel_of s)))) })
          ≡ plain_answer s from (length out)
      go true e = rw (number_is true e) refl
      go false e = rw (number_is false e) refl

  pub list-room : out' ≡ plain_out s from out
  unfolding plain_out
  list-room = t.room ∙ go (goes_too_deep (plain_marks (panel_of s))) refl
    where
      go : (b : Bool) → goes_too_deep (plain_marks (panel_of s)) ≡ b → pick b out (over (flat (written from (length out) (plain_list (panel_of s)))) out) ≡ plain_out s from out
      go true e = rw (number_is true e) refl
      go false e = rw (number_is false e) refl

module _ (s : List ℕ) (from : ℕ) (out : List ℕ) (x : PanelRefusal) (n : ℕ) (number : n ≡ refusal_number x) (o : Result Header PanelRefusal) (is : o ≡ checked s) (bad : o ≡ Err x) where
  refused_is : (m : ℕ) → n ≡ m → (plain_refusal s ≡ record { number = n; place = 0 }) × (n ≡ 0 → ⊥)
  unfolding plain_refusal panel_refusal
  refused_is zero e = let some = refusal_some x in let z : ⊥ = omega arith in absurd z
  refused_is (suc m) e = (rw (sym is ∙ bad, ← number, e) refl, λ z. (let y : ⊥ = omega arith in y))

  pub list_refused : (q : PlainReply) → q ≡ record { refusal = n; place = 0; written = 0; words = 0 } → q ≡ plain_answer s from (length out)
  unfolding plain_answer
  list_refused q e = let r = refused_is n refl in e ∙ rw (r.0, ne_eqb n 0 r.1) refl

  pub list_untouched : out ≡ plain_out s from out
  unfolding plain_out
  list_untouched = let r = refused_is n refl in rw (r.0, ne_eqb n 0 r.1) refl
