-- The search's answer and its rooms at exit.
use Prim.Native.Nat.{ℕ, zero, suc, ◌+◌, ◌-◌, ◌*◌, ◌≤◌, ◌<◌}
use native.Mathlib.Omega.{arith}
use mathlib.Core.Path.{◌≡◌, refl, sym, ap, subst, ◌∙◌}
use mathlib.Core.Bool.{Bool, true, false}
use mathlib.Core.List.{List, [], ◌∷◌, ◌++◌}
use lib.ListN.{length, drop, replicate, length-replicate}
use lib.Ieee.{Float}
use lib.Ieee.Scale.{finite}
use borrow.Author.Tests.{ne_eqb}
use Rattle.image.specs.declared.Header.{Header}
use Rattle.image.specs.declared.PanelRefusal.{PanelRefusal}
use Rattle.image.specs.Header.{refusal_number}
use Rattle.std.specs.declared.result.Result.{Result}
use Rattle.std.specs.declared.result.Result.TheVariants.{Ok, Err}
use Rattle.image.specs.Panel.{Panel, panel_of}
use Rattle.graph.specs.Check.{checked, panel_refusal}
use Rattle.evaluate.specs.declared.Refusal.{Refusal}
use Rattle.evaluate.specs.Refusals.{no_refusal, at}
use Rattle.evaluate.specs.Segments.{Assignment}
use Rattle.evaluate.specs.Check.{over}
use Rattle.graph.proofs.Laws.{refusal_some, refusal_few}
use Rattle.search.specs.declared.SearchBudget.{SearchBudget}
use Rattle.search.specs.declared.SearchReply.{SearchReply}
use Rattle.search.specs.declared.Stop.{Stop}
use Rattle.search.specs.declared.Stop.TheVariants.{Exhausted, Work, Evaluation, Frontier}
use Rattle.search.specs.Budget.{budget_refusal}
use Rattle.search.specs.Walk.{Place}
use Rattle.search.specs.Run.{walk}
use Rattle.search.specs.Counters.{stop_of}
use Rattle.search.specs.Keep.{nothing, scores_refusal, finite_or15}
use Rattle.search.specs.Search.{Searched, search, evaluation_refusal, fresh, walked, scores_to_come}
use Rattle.search.specs.Rooms.{frame_width, frames_needed, frames_left, kept_left, kept_scores_left, slot_width, rooms_refusal, clears, left_in}
use Rattle.search.specs.Answers.{is_pending, Rooms, search_refusal, refused_search, reply_of, search_answer, rooms_after, search_rooms}
use Rattle.frames.specs.Inner.{frame_of}
use Rattle.frames.proofs.Laws.{length_stack}
use Rattle.walks.specs.Inner.{ending_of, used_by, pending_at, zeroed}
use Rattle.walks.proofs.Laws.{frames-left}
use Rattle.kept.specs.Inner.{no_holding, Keeps, Left, Begun}
use Rattle.kept.proofs.Rooms.{keeps_none, left_on, keeps_count, keeps_discarded, room_left, scores_left, room_begun, scores_begun}
use Rattle.budget.specs.declared.BudgetRefusal.{BudgetRefusal}
use Rattle.budget.specs.declared.BudgetRefusal.TheVariants.{Unsound, OverBound, ShortRoom}
use Rattle.budget.specs.Inner.{Bounded, number_of as budget_number, rooms_by}
use Rattle.std.specs.declared.result.Result.TheVariants.{Ok, Err}
use Rattle.evaluate.proofs.CheckLegal.{at_some}
use Rattle.budget.proofs.Laws.{at_none, budget_bounded, budget_frontier, rooms-by, rooms_long}
use Rattle.enumeration.proofs.Room.{handed_fits}
use Rattle.searching.specs.declared.Unscored.{Unscored}
use Rattle.searching.specs.declared.Account.{Account}
use Rattle.searching.specs.declared.Found.{Found}
use Rattle.searching.specs.Inner.{number_of, none_counted, Onward, Told, Ended, Framable, replied_as, answer_in, rooms_in, Checked, refusal_on, answer_on, rooms_on}
use Rattle.searching.proofs.Rest.{outcome_start, refusal_start}
use Rattle.searching.proofs.Running.{numbered}

-- ---- the start

pub onward_start : {p : Panel} {b : SearchBudget} {v : ℕ} {xs : List Float} {ks₀ : List ℕ} {ss₀ : List Float} {ks : List ℕ} {ss : List Float} → v ≡ slot_width p b → 0 < b.max_frontier → Begun v b.max_optima ks₀ ss₀ ks ss
    → (account : Account) → account ≡ record { counted = none_counted; held = no_holding } → Onward p b v xs (walk p b) account ks ss
onward_start {p} {b} {v} {xs} {ks₀} {ss₀} {ks} {ss} e some g account ea = rw ea start
  where
    start : Onward p b v xs (walk p b) (record { counted = none_counted; held = no_holding }) ks ss
    start = record {
      kept = nothing;
      keeps = keeps_none g;
      same = outcome_start p b xs;
      refused = refusal_start p b xs;
      fits = rw e (handed_fits p b some);
      listed = omega arith;
      switched = omega arith;
      lanes = omega arith;
      identities = omega arith;
    }

-- ---- the reply

ending_stop : (e : Stop) (a : Place) → stop_of (ending_of e a) ≡ e
ending_stop Exhausted a = refl
ending_stop Work a = refl
ending_stop Evaluation a = refl
ending_stop Frontier a = refl

ending_pending : (e : Stop) (a : Place) → is_pending (ending_of e a) ≡ pending_at e
ending_pending Exhausted a = refl
ending_pending Work a = refl
ending_pending Evaluation a = refl
ending_pending Frontier a = refl

module _ {p : Panel} {b : SearchBudget} {v : ℕ} {xs : List Float} {fs ks : List ℕ} {ss : List Float} {r : Found} (t : Told p b v xs fs ks ss r) where
  pub told_reply : replied_as r ≡ reply_of (search p b xs)
  unfolding reply_of
  told_reply =
      rw
      (t.outcome, ending_stop r.stop (frame_of fs r.at.depth).place, ending_pending r.stop (frame_of fs r.at.depth).place, ← keeps_count t.keeps, ← keeps_discarded t.keeps, length_stack fs r.at.depth)

-- ---- the numbers of an evaluation's refusal

pub data Numbered : ℕ → Type 0 where
  passed : Numbered 0
  missing : Numbered 14
  unfit : Numbered 15

finite_numbered : (t : Bool) (n : ℕ) (q : Refusal) → Numbered q.number → Numbered (finite_or15 t n q).number
finite_numbered true n q h = h
finite_numbered false n q h = unfit

scores_numbered : (n : ℕ) (l : List Assignment) (xs : List Float) → Numbered (scores_refusal n l xs).number
unfolding scores_refusal
scores_numbered n [] xs = passed
scores_numbered n (a ∷ l) [] = missing
scores_numbered n (a ∷ l) (x ∷ xs) = finite_numbered (finite x) n (scores_refusal (suc n) l xs) (scores_numbered (suc n) l xs)

refusal_numbered : (p : Panel) (b : SearchBudget) (xs : List Float) → Numbered (evaluation_refusal p b xs fresh).number
unfolding evaluation_refusal
refusal_numbered p b xs = scores_numbered _ (walked p b fresh).walk.out (scores_to_come fresh xs)

cleared : (n : ℕ) → Numbered n → 0 < n → clears n ≡ true
cleared _ passed h = absurd (omega arith)
cleared _ missing h = refl
cleared _ unfit h = refl

left_none : {A : Type 0} (n : ℕ) (ws zs room : List A) → n ≡ 0 → left_in n ws zs room ≡ over ws room
unfolding left_in
left_none n ws zs room e = rw e

left_cleared : {A : Type 0} (n : ℕ) (ws zs room : List A) → 0 < n → clears n ≡ true → left_in n ws zs room ≡ over zs room
unfolding left_in
left_cleared n ws zs room h c = let d : n ≡ 0 → ⊥ = λ e. absurd (omega arith) in rw (ne_eqb n 0 d, c)

zero_front : (n : ℕ) (xs : List ℕ) → zeroed 0 n xs ≡ replicate n 0 ++ drop n xs
zero_front n xs = let z : n - 0 ≡ n = omega arith in rw z

-- ---- a search whose rooms were long enough

module _ {p : Panel} {b : SearchBudget} {v : ℕ} {xs : List Float} {fs ks : List ℕ} {ss : List Float} {ks₁ : List ℕ} {ss₁ : List Float} {fs' ks' : List ℕ} {ss' : List Float} (width : v ≡ slot_width p b) (room : Framable b fs)
    (begun : Begun v b.max_optima ks ss ks₁ ss₁) where
  module _ {r : Found} (e : Ended p b v xs fs ks₁ ss₁ fs' ks' ss' (Ok r)) where
    none : (evaluation_refusal p b xs fresh).number ≡ 0
    none = ap (λ (q : Refusal). q.number) (sym e.refused)

    found_told : Told p b v xs fs' ks' ss' r
    found_told = e.told

    pub found_answer : (q : SearchReply) → q ≡ replied_as r → q ≡ answer_in p b xs
    unfolding answer_in
    found_answer q eq = eq ∙ told_reply found_told ∙ rw none

    pub found_rooms : (gs : List ℕ) → gs ≡ zeroed (used_by r.stop r.at.depth * frame_width) ((b.max_frontier + 1) * frame_width) fs'
        → ◌≡◌ {A = Rooms} (record { frames = gs; kept = ks'; scores = ss' }) (rooms_in p b xs (record { frames = fs; kept = ks; scores = ss }))
    unfolding rooms_in rooms_after
    found_rooms gs eg = λ i. record { frames = frames_are i; kept = kept_are i; scores = scores_are i }
      where
        keeps_are : Keeps (slot_width p b) b.max_optima found_told.kept r.account.held ks' ss'
        keeps_are = subst (λ (w : ℕ). Keeps w b.max_optima found_told.kept r.account.held ks' ss') width found_told.keeps

        left_are : Left (slot_width p b) b.max_optima ks ss ks' ss'
        left_are = subst (λ (w : ℕ). Left w b.max_optima ks ss ks' ss') width (left_on begun.left e.left)

        frames_are : gs ≡ (rooms_in p b xs (record { frames = fs; kept = ks; scores = ss })).frames
        frames_are =
            frames-left b fs fs' gs r.stop r.at.depth e.frames found_told.words found_told.deep room.room eg
            ∙ ap (λ (x : Searched). over (frames_left b x.ending x.state.stack) fs) (sym found_told.outcome) ∙ sym (left_none (evaluation_refusal p b xs fresh).number _ _ fs none)

        kept_are : ks' ≡ (rooms_in p b xs (record { frames = fs; kept = ks; scores = ss })).kept
        kept_are =
            room_left p b keeps_are left_are ∙ ap (λ (x : Searched). over (kept_left p b x.state.kept) ks) (sym found_told.outcome)
            ∙ sym (left_none (evaluation_refusal p b xs fresh).number _ _ ks none)

        scores_are : ss' ≡ (rooms_in p b xs (record { frames = fs; kept = ks; scores = ss })).scores
        scores_are =
            scores_left p b keeps_are left_are ∙ ap (λ (x : Searched). over (kept_scores_left b x.state.kept) ss) (sym found_told.outcome)
            ∙ sym (left_none (evaluation_refusal p b xs fresh).number _ _ ss none)

  module _ {r : Unscored} (e : Ended p b v xs fs ks₁ ss₁ fs' ks' ss' (Err r)) where
    some_number : 0 < (evaluation_refusal p b xs fresh).number
    some_number = rw (← e.refused) (numbered r)

    pub unfound_answer : {n : ℕ} → n ≡ number_of r.refusal → (q : SearchReply) → q ≡ refused_search (record { number = n; place = r.place }) → q ≡ answer_in p b xs
    unfolding answer_in
    unfound_answer en q eq =
        let d : (evaluation_refusal p b xs fresh).number ≡ 0 → ⊥ = λ e. absurd (omega (arith, some_number)) in
        eq ∙ ap (λ (n : ℕ). refused_search (record { number = n; place = r.place })) en ∙ ap refused_search e.refused ∙ rw (ne_eqb (evaluation_refusal p b xs fresh).number 0 d)

    pub unfound_rooms : {ls : List ℕ} {ts : List Float} (gs : List ℕ) → gs ≡ zeroed (used_by Exhausted 0 * frame_width) ((b.max_frontier + 1) * frame_width) fs' → Begun v b.max_optima ks' ss' ls ts
        → ◌≡◌ {A = Rooms} (record { frames = gs; kept = ls; scores = ts }) (rooms_in p b xs (record { frames = fs; kept = ks; scores = ss }))
    unfolding rooms_in rooms_after
    unfound_rooms {ls} {ts} gs eg again = λ i. record { frames = frames_are i; kept = kept_are i; scores = scores_are i }
      where
        clear : clears (evaluation_refusal p b xs fresh).number ≡ true
        clear = cleared (evaluation_refusal p b xs fresh).number (refusal_numbered p b xs) some_number

        begun_are : Begun (slot_width p b) b.max_optima ks ss ls ts
        begun_are =
            let all : Begun v b.max_optima ks ss ls ts = record { ready = again.ready; left = left_on (left_on begun.left e.left) again.left } in
            subst (λ (w : ℕ). Begun w b.max_optima ks ss ls ts) width all

        frames_zero : gs ≡ over (replicate (frames_needed b) 0) fs
        frames_zero = eg ∙ zero_front (frames_needed b) fs' ∙ rw (length-replicate {A = ℕ} (frames_needed b) 0, ← e.frames.rest)

        frames_are : gs ≡ (rooms_in p b xs (record { frames = fs; kept = ks; scores = ss })).frames
        frames_are = frames_zero ∙ sym (left_cleared (evaluation_refusal p b xs fresh).number _ _ fs some_number clear)

        kept_are : ls ≡ (rooms_in p b xs (record { frames = fs; kept = ks; scores = ss })).kept
        kept_are = room_begun p b begun_are ∙ sym (left_cleared (evaluation_refusal p b xs fresh).number _ _ ks some_number clear)

        scores_are : ts ≡ (rooms_in p b xs (record { frames = fs; kept = ks; scores = ss })).scores
        scores_are = scores_begun p b begun_are ∙ sym (left_cleared (evaluation_refusal p b xs fresh).number _ _ ss some_number clear)

-- ---- a refusal before the walk changes no room

rooms_same : (p : Panel) (b : SearchBudget) (n : ℕ) (r : Searched) (rooms : Rooms) → 0 < n → clears n ≡ false → rooms_after p b n r rooms ≡ rooms
unfolding rooms_after left_in
rooms_same p b n r rooms h c = let d : n ≡ 0 → ⊥ = λ e. absurd (omega arith) in rw (ne_eqb n 0 d, c)

-- ---- 11 to 13

budget_some : (e : BudgetRefusal) → 0 < budget_number e
budget_some Unsound = omega arith
budget_some OverBound = omega arith
budget_some ShortRoom = omega arith

budget_kept : (e : BudgetRefusal) → clears (budget_number e) ≡ false
budget_kept Unsound = refl
budget_kept OverBound = refl
budget_kept ShortRoom = refl

pub panel_bounded : {b : SearchBudget} → 0 ≡ budget_refusal b → Bounded b
panel_bounded {b} sound = budget_bounded b (sym sound)

module _ (p : Panel) (b : SearchBudget) (v f k m : ℕ) (sound : 0 ≡ budget_refusal b) (ev : v ≡ slot_width p b) where
  later_on : at (budget_refusal b) 0 (at (rooms_refusal p b f k m) 0 no_refusal) ≡ at (rooms_by b v f k m) 0 no_refusal
  later_on =
      at_none (budget_refusal b) 0 (at (rooms_refusal p b f k m) 0 no_refusal) (sym sound)
      ∙ ap (λ (n : ℕ). at n 0 no_refusal) (sym (rooms-by p b v f k m ev))

  pub checked_short : (e : BudgetRefusal) → budget_number e ≡ rooms_by b v f k m → Checked p b f k m (Err e)
  checked_short e q =
      record { refused = ap (λ (n : ℕ). record { number = n; place = 0 }) q ∙ sym (later_on ∙ at_some (rooms_by b v f k m) 0 no_refusal (rw (← q) (budget_some e))); fits = tt }

  pub checked_long : 0 ≡ rooms_by b v f k m → Checked p b f k m (Ok v)
  checked_long q =
      let l = rooms_long p b f k m (sym (q ∙ rooms-by p b v f k m ev)) in
      record {
        refused = sym (later_on ∙ at_none (rooms_by b v f k m) 0 no_refusal (sym q));
        fits = record {
          width = ev;
          some = budget_frontier b (sym sound);
          few = (panel_bounded sound).frontier;
          framed = l.0;
          held = rw ev (let y = l.1 in omega arith);
          scored = (let y = l.2 in omega arith);
        };
      }

at_stops : (n m k : ℕ) (q : Refusal) → record { number = k; place = 0 } ≡ at n 0 (at m 0 no_refusal) → 0 < k → at n 0 (at m 0 q) ≡ record { number = k; place = 0 }
at_stops zero zero k q e z = absurd (let y = ap (λ (r : Refusal). r.number) e in omega arith)
at_stops zero (suc m) k q e z = sym e
at_stops (suc n) m k q e z = sym e

at_passes : (n m : ℕ) (q : Refusal) → no_refusal ≡ at n 0 (at m 0 no_refusal) → at n 0 (at m 0 q) ≡ q
at_passes zero zero q e = refl
at_passes zero (suc m) q e = absurd (let y = ap (λ (r : Refusal). r.number) e in omega arith)
at_passes (suc n) m q e = absurd (let y = ap (λ (r : Refusal). r.number) e in omega arith)

module _ (p : Panel) (b : SearchBudget) (xs : List Float) (fs ks : List ℕ) (ss : List Float) where
  module _ {e : BudgetRefusal} (k : Checked p b (length fs) (length ks) (length ss) (Err e)) where
    stops : refusal_on p b xs (record { frames = fs; kept = ks; scores = ss }) ≡ record { number = budget_number e; place = 0 }
    unfolding refusal_on
    stops = at_stops (budget_refusal b) (rooms_refusal p b (length fs) (length ks) (length ss)) (budget_number e) (evaluation_refusal p b xs fresh) k.refused (budget_some e)

    pub short_answer : {n : ℕ} → n ≡ budget_number e → (q : SearchReply) → q ≡ refused_search (record { number = n; place = 0 }) → q ≡ answer_on p b xs (record { frames = fs; kept = ks; scores = ss })
    unfolding answer_on
    short_answer en q eq =
        let d : budget_number e ≡ 0 → ⊥ = λ y. absurd (let z = budget_some e in omega arith) in
        eq ∙ ap (λ (n : ℕ). refused_search (record { number = n; place = 0 })) en ∙ rw (stops, ne_eqb (budget_number e) 0 d)

    pub short_rooms : ◌≡◌ {A = Rooms} (record { frames = fs; kept = ks; scores = ss }) (rooms_on p b xs (record { frames = fs; kept = ks; scores = ss }))
    unfolding rooms_on
    short_rooms =
        sym (ap (λ (r : Refusal). rooms_after p b r.number (search p b xs) (record { frames = fs; kept = ks; scores = ss })) stops ∙ rooms_same p b (budget_number e) (search p b xs) _ (budget_some e) (budget_kept e))

  module _ {v : ℕ} (k : Checked p b (length fs) (length ks) (length ss) (Ok v)) where
    passes : refusal_on p b xs (record { frames = fs; kept = ks; scores = ss }) ≡ evaluation_refusal p b xs fresh
    unfolding refusal_on
    passes = at_passes (budget_refusal b) (rooms_refusal p b (length fs) (length ks) (length ss)) (evaluation_refusal p b xs fresh) k.refused

    pub long_answer : (q : SearchReply) → q ≡ answer_in p b xs → q ≡ answer_on p b xs (record { frames = fs; kept = ks; scores = ss })
    unfolding answer_on answer_in
    long_answer q e = e ∙ rw passes

    pub long_rooms : (rooms : Rooms) → rooms ≡ rooms_in p b xs (record { frames = fs; kept = ks; scores = ss }) → rooms ≡ rooms_on p b xs (record { frames = fs; kept = ks; scores = ss })
    unfolding rooms_on rooms_in
    long_rooms rooms e = e ∙ rw passes

-- ---- the panel

few_kept : (n : ℕ) → n ≤ 8 → clears n ≡ false
few_kept n h = let d : n ≡ 14 → ⊥ = λ e. absurd (omega arith) in let f : n ≡ 15 → ⊥ = λ e. absurd (omega arith) in rw (ne_eqb n 14 d, ne_eqb n 15 f)

module _ (s : List ℕ) (b : SearchBudget) (xs : List Float) (rooms : Rooms) (o : Result Header PanelRefusal) (eo : o ≡ checked s) where
  module _ (x : PanelRefusal) (n : ℕ) (is : n ≡ refusal_number x) (t : o ≡ Err x) where
    number_some : 0 < n
    number_some = let some = refusal_some x in omega arith

    number_few : n ≤ 8
    number_few = let few = refusal_few x in omega arith

    panel_stops : search_refusal s b xs rooms ≡ record { number = n; place = 0 }
    unfolding search_refusal panel_refusal
    panel_stops = rw (← eo, t, ← is) (at_some n 0 _ number_some)

    pub panel_answer : (q : SearchReply) → q ≡ refused_search (record { number = n; place = 0 }) → q ≡ search_answer s b xs rooms
    unfolding search_answer
    panel_answer q e = let d : n ≡ 0 → ⊥ = λ y. absurd (omega (arith, number_some)) in e ∙ rw (panel_stops, ne_eqb n 0 d)

    pub panel_rooms : rooms ≡ search_rooms s b xs rooms
    unfolding search_rooms
    panel_rooms = sym (ap (λ (r : Refusal). rooms_after (panel_of s) b r.number (search (panel_of s) b xs) rooms) panel_stops ∙ rooms_same (panel_of s) b n (search (panel_of s) b xs) rooms number_some (few_kept n number_few))

  module _ (h : Header) (t : o ≡ Ok h) where
    panel_passes : search_refusal s b xs rooms ≡ refusal_on (panel_of s) b xs rooms
    unfolding search_refusal panel_refusal refusal_on
    panel_passes = rw (← eo, t)

    pub search-answer : (q : SearchReply) → q ≡ answer_on (panel_of s) b xs rooms → q ≡ search_answer s b xs rooms
    unfolding search_answer answer_on
    search-answer q e = e ∙ rw panel_passes

    pub search-rooms : (after : Rooms) → after ≡ rooms_on (panel_of s) b xs rooms → after ≡ search_rooms s b xs rooms
    unfolding search_rooms rooms_on
    search-rooms after e = e ∙ rw panel_passes
