-- The answer by cases of refusals, and what it leaves of the rooms.
use Prim.Native.Nat.{ℕ, ◌≤◌, ◌<◌}
use native.Mathlib.Omega.{arith}
use mathlib.Core.Path.{◌≡◌, refl, sym, ap, subst, ◌∙◌}
use mathlib.Core.Bool.{Bool, true, false, ◌&&◌}
use mathlib.Core.List.{List, []}
use Rattle.std.specs.declared.result.Result.TheVariants.{Ok, Err}
use lib.Dec.{leb, eqb}
use lib.ListN.{length}
use borrow.Author.Tests.{eq-eqb, ne_eqb, leb-true}
use Rattle.ground.specs.Lists.{pick}
use Rattle.ground.proofs.ListLaws.{both}
use Rattle.image.specs.declared.Header.{Header}
use Rattle.image.specs.declared.PanelRefusal.{PanelRefusal}
use Rattle.image.specs.Header.{refusal_number}
use Rattle.std.specs.declared.result.Result.{Result}
use Rattle.std.specs.declared.result.Result.TheVariants.{Ok, Err}
use Rattle.image.specs.Panel.{Panel, panel_of}
use Rattle.graph.specs.Check.{checked, panel_refusal}
use Rattle.evaluate.specs.declared.Refusal.{Refusal}
use Rattle.evaluate.specs.Refusals.{no_refusal, unless, at}
use Rattle.evaluate.specs.Check.{over}
use Rattle.graph.proofs.Laws.{refusal_some}
use Rattle.search.specs.declared.SearchBudget.{SearchBudget}
use Rattle.search.specs.declared.ListReply.{ListReply}
use Rattle.search.specs.Budget.{budget_refusal}
use Rattle.search.specs.Rooms.{clears, left_in, slot_width, frames_needed, list_rooms_refusal}
use Rattle.search.specs.Answers.{ListRooms, refused_list, listed_in, list_refusal, list_answer, list_rooms}
use Rattle.budget.specs.declared.BudgetRefusal.{BudgetRefusal}
use Rattle.budget.specs.declared.BudgetRefusal.TheVariants.{Unsound, OverBound, ShortRoom}
use Rattle.budget.specs.Inner.{Bounded, number_of, list_rooms_by}
use Rattle.evaluate.proofs.CheckLegal.{at_some}
use Rattle.budget.proofs.Laws.{at_none, budget_bounded, budget_frontier, list-rooms-by}
use Rattle.listing.specs.Inner.{Told, list_panel_refusal, Checked, Replied}

-- ---- a refusal's answer

left_as_is : (n : ℕ) (ws room : List ℕ) → 0 < n → left_in n ws [] room ≡ room
unfolding left_in
left_as_is n ws room h = rw (ne_eqb n 0 (λ e. omega arith)) (go (clears n))
  where
    go : (t : Bool) → pick t (over [] room) room ≡ room
    go true = refl
    go false = refl

left_listed : (n : ℕ) (ws room : List ℕ) → n ≡ 0 → left_in n ws [] room ≡ over ws room
unfolding left_in
left_listed n ws room h = rw (eq-eqb n 0 h)

module _ (p : Panel) (b : SearchBudget) (from : ℕ) (q : Refusal) (rooms : ListRooms) (r : ListReply) where
  refused_reply : 0 < q.number → r ≡ refused_list q → Replied p b from q rooms rooms r
  unfolding listed_in
  refused_reply h e =
      let n : eqb q.number 0 ≡ false = ne_eqb q.number 0 (λ z. omega arith) in
      let f = left_as_is q.number _ rooms.frames h in
      let x = left_as_is q.number _ rooms.slot h in
      let o = left_as_is q.number _ rooms.out h in
      record {
        answer = e ∙ rw n;
        rooms = λ i. record { frames = sym f i; slot = sym x i; out = sym o i };
      }

  listed_reply : (after : ListRooms) → q.number ≡ 0 → Told p b from rooms.frames rooms.slot rooms.out after.frames after.slot after.out r → Replied p b from q rooms after r
  unfolding listed_in
  listed_reply after z t =
      let f = t.frames ∙ sym (left_listed q.number _ rooms.frames z) in
      let x = t.slot ∙ sym (left_listed q.number _ rooms.slot z) in
      let o = t.room ∙ sym (left_listed q.number _ rooms.out z) in
      record {
        answer = t.answer ∙ rw (eq-eqb q.number 0 z);
        rooms = λ i. record { frames = f i; slot = x i; out = o i };
      }

-- ---- 11 to 13

numbered : (e : BudgetRefusal) → 0 < number_of e
numbered Unsound = omega arith
numbered OverBound = omega arith
numbered ShortRoom = omega arith

pub panel_bounded : {b : SearchBudget} → 0 ≡ budget_refusal b → Bounded b
panel_bounded {b} passed = budget_bounded b (sym passed)

module _ (p : Panel) (b : SearchBudget) (v fs xs : ℕ) (passed : 0 ≡ budget_refusal b) (ev : v ≡ slot_width p b) where
  later : list_panel_refusal p b fs xs ≡ at (list_rooms_by b v fs xs) 0 no_refusal
  later =
      at_none (budget_refusal b) 0 (at (list_rooms_refusal p b fs xs) 0 no_refusal) (sym passed)
      ∙ ap (λ (n : ℕ). at n 0 no_refusal) (sym (list-rooms-by p b v fs xs ev))

  pub checked_short : (e : BudgetRefusal) → number_of e ≡ list_rooms_by b v fs xs → Checked p b fs xs (Err e)
  checked_short e k =
      record { refused = ap (λ (n : ℕ). record { number = n; place = 0 }) k ∙ sym (later ∙ at_some (list_rooms_by b v fs xs) 0 no_refusal (rw (← k) (numbered e))); fits = tt }

  pub checked_long : 0 ≡ list_rooms_by b v fs xs → Checked p b fs xs (Ok v)
  unfolding list_rooms_by
  checked_long k =
      record {
        refused = sym (later ∙ at_none (list_rooms_by b v fs xs) 0 no_refusal (sym k));
        fits = record { width = ev; some = budget_frontier b (sym passed); small = (panel_bounded passed).frontier; room = long.0; slot = long.1 };
      }
    where
      long : (frames_needed b ≤ fs) × (v ≤ xs)
      long = go (leb (frames_needed b) fs && leb v xs) refl (sym k)
        where
          go : (t : Bool) → leb (frames_needed b) fs && leb v xs ≡ t → unless t 13 0 ≡ 0 → (frames_needed b ≤ fs) × (v ≤ xs)
          go true f z =
              let q = both (leb (frames_needed b) fs) (leb v xs) f in
              (leb-true _ _ q.0, leb-true _ _ q.1)
          go false f z = let y : ⊥ = omega arith in absurd y

-- ---- the answer over an accepted panel

module _ {p : Panel} {b : SearchBudget} {from : ℕ} {rooms : ListRooms} {r : ListReply} where
  pub panel_refused : {e : BudgetRefusal} {n : ℕ} → Checked p b (length rooms.frames) (length rooms.slot) (Err e) → n ≡ number_of e → r ≡ refused_list (record { number = n; place = 0 })
      → Replied p b from (list_panel_refusal p b (length rooms.frames) (length rooms.slot)) rooms rooms r
  panel_refused {e} {n} k en er =
      subst (λ (x : Refusal). Replied p b from x rooms rooms r) k.refused (refused_reply p b from (record { number = number_of e; place = 0 }) rooms r (numbered e) (rw en at er))

  pub panel_told : {v : ℕ} {after : ListRooms} → Checked p b (length rooms.frames) (length rooms.slot) (Ok v) → Told p b from rooms.frames rooms.slot rooms.out after.frames after.slot after.out r
      → Replied p b from (list_panel_refusal p b (length rooms.frames) (length rooms.slot)) rooms after r
  panel_told {after = after} k t = subst (λ (x : Refusal). Replied p b from x rooms after r) k.refused (listed_reply p b from no_refusal rooms r after refl t)

-- ---- 1 to 8

module _ (s : List ℕ) (b : SearchBudget) (from : ℕ) (rooms after : ListRooms) (r : ListReply) (o : Result Header PanelRefusal) (eo : o ≡ checked s) where
  module _ (h : Header) (t : o ≡ Ok h) (d : Replied (panel_of s) b from (list_panel_refusal (panel_of s) b (length rooms.frames) (length rooms.slot)) rooms after r) where
    passes : list_refusal s b rooms ≡ list_panel_refusal (panel_of s) b (length rooms.frames) (length rooms.slot)
    unfolding list_refusal panel_refusal
    passes = rw (← eo, t)

    pub list-answer : r ≡ list_answer s b from rooms
    unfolding list_answer
    list-answer = d.answer ∙ rw passes

    pub list-rooms : after ≡ list_rooms s b from rooms
    unfolding list_rooms
    list-rooms = d.rooms ∙ rw passes

module _ (s : List ℕ) (b : SearchBudget) (from : ℕ) (rooms : ListRooms) (x : PanelRefusal) (n : ℕ) (is : n ≡ refusal_number x) (r : ListReply) (o : Result Header PanelRefusal) (eo : o ≡ checked s) (t : o ≡ Err x) where
  number_some : 0 < n
  number_some = let some = refusal_some x in omega arith

  stops : list_refusal s b rooms ≡ record { number = n; place = 0 }
  unfolding list_refusal panel_refusal
  stops = rw (← eo, t, ← is) (at_some n 0 (list_panel_refusal (panel_of s) b (length rooms.frames) (length rooms.slot)) number_some)

  told : r ≡ refused_list (record { number = n; place = 0 }) → Replied (panel_of s) b from (record { number = n; place = 0 }) rooms rooms r
  told e = refused_reply (panel_of s) b from (record { number = n; place = 0 }) rooms r number_some e

  pub list_refused : r ≡ refused_list (record { number = n; place = 0 }) → r ≡ list_answer s b from rooms
  unfolding list_answer
  list_refused e = (told e).answer ∙ rw stops

  pub list_untouched : r ≡ refused_list (record { number = n; place = 0 }) → rooms ≡ list_rooms s b from rooms
  unfolding list_rooms
  list_untouched e = (told e).rooms ∙ rw stops
