-- What a reply says, from the equations of the reply and of out.
use Prim.Native.Nat.{ℕ, zero, suc, ◌≤◌, ◌<◌}
use native.Mathlib.Omega.{arith}
use native.Mathlib.Decide.{dec_lt}
use mathlib.Core.Path.{◌≡◌, refl, sym, ◌∙◌, ap}
use mathlib.Core.Logic.{◌⊎◌, inl, inr}
use mathlib.Core.Bool.{Bool, true, false}
use mathlib.Core.List.{List}
use lib.Dec.{eqb}
use lib.ListN.{length}
use borrow.Author.Tests.{eqb-true, eqb-false, ne_eqb}
use Rattle.ground.specs.Lists.{pick}
use Rattle.image.specs.Panel.{panel_of}
use Rattle.graph.specs.Check.{panel_refusal}
use Rattle.evaluate.specs.Segments.{flat}
use Rattle.evaluate.specs.Check.{over}
use Rattle.search.specs.Answers.{written}
use Rattle.search.specs.Run.{Unbudgeted}
use Rattle.enumeration.proofs.Accepted.{accepted_unbudgeted}
use Rattle.plain.specs.Steps.{depth, plain_marks, plain_list, goes_too_deep, plain_refusal}
use Rattle.plain.specs.Statement.{deepest_of}
use Rattle.plain.proofs.Whole.{plain_lists, plain_refuses, plain_once}
use Rattle.engine.specs.declared.PlainReply.{PlainReply}
use Rattle.engine.specs.Answer.{refused_plain, wrote, plain_answer, plain_out, ListsFrom, PlainHolds}

module _ (s : List ℕ) (from : ℕ) (out : List ℕ) where
  abbrev told : PlainReply
  told = wrote (written from (length out) (plain_list (panel_of s)))

  -- by whether the panel is refused
  answered : (b : Bool) → eqb (plain_refusal s).number 0 ≡ b → plain_answer s from (length out) ≡ pick b told (refused_plain (plain_refusal s))
  unfolding plain_answer
  answered b e = rw e refl

  left_in_is : (b : Bool) → eqb (plain_refusal s).number 0 ≡ b → plain_out s from out ≡ pick b (over (flat (written from (length out) (plain_list (panel_of s)))) out) out
  unfolding plain_out
  left_in_is b e = rw e refl

  of_unsound : (panel_refusal s ≡ 0 → ⊥) → plain_refusal s ≡ record { number = panel_refusal s; place = 0 }
  unfolding plain_refusal
  of_unsound f = go (panel_refusal s) refl
    where
      go : (n : ℕ) → panel_refusal s ≡ n → plain_refusal s ≡ record { number = n; place = 0 }
      go zero e = absurd (f e)
      go (suc n) e = rw e refl

  of_sound : (b : Bool) → panel_refusal s ≡ 0 → goes_too_deep (plain_marks (panel_of s)) ≡ b → plain_refusal s ≡ record { number = pick b 42 0; place = 0 }
  unfolding plain_refusal
  of_sound true e d = rw (e, d) refl
  of_sound false e d = rw (e, d) refl

  sound_number : (b : Bool) → panel_refusal s ≡ 0 → goes_too_deep (plain_marks (panel_of s)) ≡ b → ((plain_refusal s).number ≡ 0) ⊎ ((plain_refusal s).number ≡ 42)
  sound_number true e d = inr (rw (of_sound true e d) refl)
  sound_number false e d = inl (rw (of_sound false e d) refl)

  no_place : (b : Bool) → eqb (panel_refusal s) 0 ≡ b → (plain_refusal s).place ≡ 0
  no_place false e = rw (of_unsound (eqb-false (panel_refusal s) 0 e)) refl
  no_place true e = go (goes_too_deep (plain_marks (panel_of s))) refl
    where
      go : (d : Bool) → goes_too_deep (plain_marks (panel_of s)) ≡ d → (plain_refusal s).place ≡ 0
      go true d = rw (of_sound true (eqb-true (panel_refusal s) 0 e) d) refl
      go false d = rw (of_sound false (eqb-true (panel_refusal s) 0 e) d) refl

  -- a panel that is not refused is sound
  accepts : (b : Bool) → eqb (panel_refusal s) 0 ≡ b → (plain_refusal s).number ≡ 0 → panel_refusal s ≡ 0
  accepts true e n = eqb-true (panel_refusal s) 0 e
  accepts false e n = let f = eqb-false (panel_refusal s) 0 e in absurd (f (rw (of_unsound f) at n))

  module _ (e : panel_refusal s ≡ 0) (n : (plain_refusal s).number ≡ 0) where
    shallow : (u : Unbudgeted (panel_of s)) → deepest_of (panel_of s) u ≤ depth
    shallow u = go (dec_lt depth (deepest_of (panel_of s) u))
      where
        go : Dec (depth < deepest_of (panel_of s) u) → deepest_of (panel_of s) u ≤ depth
        go (no f) = omega arith
        go (yes h) = let x = (plain_refuses s e u).1 h in let z : ⊥ = omega arith in absurd z

    lists-from : (r : PlainReply) (out' : List ℕ) → r ≡ plain_answer s from (length out) → out' ≡ plain_out s from out → ListsFrom s from out r out'
    lists-from r out' is left =
        let t : eqb (plain_refusal s).number 0 ≡ true = rw n refl in
        let a : r ≡ told = is ∙ answered true t in
        let u = accepted_unbudgeted s e in
        record {
          all = plain_list (panel_of s);
          walked = λ u. plain_lists s e u (shallow u);
          each = plain_once s e u (shallow u);
          many = ap (λ (r : PlainReply). r.written) a;
          words = ap (λ (r : PlainReply). r.words) a;
          room = left ∙ left_in_is true t;
        }

  pub plain_holds : (r : PlainReply) (out' : List ℕ) → r ≡ plain_answer s from (length out) → out' ≡ plain_out s from out → PlainHolds s from out r out'
  plain_holds r out' is left =
      record {
        unsound = λ f. number ∙ rw (of_unsound f) refl;
        sound = λ e. rw number (sound_number (goes_too_deep (plain_marks (panel_of s))) e refl);
        ends = accepted_unbudgeted s;
        deep = λ e u. rw number (plain_refuses s e u);
        refused = none;
        lists = λ e. let n = sym number ∙ e in lists-from (accepts (eqb (panel_refusal s) 0) refl n) n r out' is left;
        place = ap (λ (r : PlainReply). r.place) is ∙ by_place (eqb (plain_refusal s).number 0) refl;
      }
    where
      by_number : (b : Bool) → eqb (plain_refusal s).number 0 ≡ b → (plain_answer s from (length out)).refusal ≡ (plain_refusal s).number
      by_number true e = rw (answered true e) (sym (eqb-true (plain_refusal s).number 0 e))
      by_number false e = rw (answered false e) refl

      number : r.refusal ≡ (plain_refusal s).number
      number = ap (λ (r : PlainReply). r.refusal) is ∙ by_number (eqb (plain_refusal s).number 0) refl

      by_place : (b : Bool) → eqb (plain_refusal s).number 0 ≡ b → (plain_answer s from (length out)).place ≡ 0
      by_place true e = rw (answered true e) refl
      by_place false e = rw (answered false e) (no_place (eqb (panel_refusal s) 0) refl)

      none : (r.refusal ≡ 0 → ⊥) → (out' ≡ out) × (r.written ≡ 0) × (r.words ≡ 0)
      none f =
          let t : eqb (plain_refusal s).number 0 ≡ false = ne_eqb (plain_refusal s).number 0 (λ z. f (number ∙ z)) in
          let a : r ≡ refused_plain (plain_refusal s) = is ∙ answered false t in
          (left ∙ left_in_is false t, ap (λ (r : PlainReply). r.written) a, ap (λ (r : PlainReply). r.words) a)
