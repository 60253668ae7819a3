-- Rooms that hold what is kept: from the start, over one more evaluation, and word for word at the end.
use mathlib.Core.Path.{◌≡◌, refl, sym, ap, ap₂, ◌∙◌}
use mathlib.Core.Bool.{Bool, true, false}
use Rattle.std.specs.declared.option.Option.{Option}
use Rattle.std.specs.declared.option.Option.TheVariants.{Some}
use Rattle.std.specs.Option.{is_some}
use mathlib.Core.List.{List, [], ◌∷◌, ◌++◌, append-nil, append_assoc, map}
use Prim.Native.Nat.{ℕ, zero, suc, ◌+◌, ◌-◌, ◌*◌, ◌≤◌, ◌<◌}
use native.Mathlib.Omega.{arith}
use native.Mathlib.Nat.{suc-mul, not-suc-le-zero}
use lib.ListN.{length, take, drop, get_or, replicate, length-drop, length-append, length-map, length-replicate, take-append-drop, replicate-append-replicate}
use lib.Seq.{take-add, length-take-le}
use lib.Ieee.{Float, nan}
use Rattle.ground.specs.Lists.{pick}
use Rattle.image.specs.Panel.{Panel}
use Rattle.evaluate.specs.Segments.{Assignment, flat}
use Rattle.evaluate.specs.Words.{encode}
use Rattle.evaluate.specs.Check.{over}
use Rattle.search.specs.declared.SearchBudget.{SearchBudget}
use Rattle.search.specs.Budget.{zero_score}
use Rattle.search.specs.Keep.{Kept, nothing, Evaluated, score_of, same_evaluated, keep_one}
use Rattle.search.specs.Rooms.{pad_to, pad_scores, slot_width, slot_words, kept_needed, kept_left, scores_needed, kept_scores_left}
use Rattle.slots.specs.Inner.{Held, held_score, same_held, put_slot, blank, held_in}
use Rattle.slots.proofs.Slots.{length_held, held_take}
use Rattle.kept.specs.Inner.{besides, first_of, ties_of, view_of, held_as, no_holding, Tidy, Ready, Left, Recorded, Begun, Keeps}
use Rattle.kept.specs.declared.Holding.{Holding}
use Rattle.kept.proofs.Steps.{spare_is}
use Rattle.kept.proofs.Spare.{noted}
use Rattle.kept.proofs.Assignments.{held_one}

-- ---- from the start, and over one more evaluation

pub keeps_none : {v m : ℕ} {xs₀ : List ℕ} {ss₀ : List Float} {xs : List ℕ} {ss : List Float} → Begun v m xs₀ ss₀ xs ss → Keeps v m nothing no_holding xs ss
unfolding view_of ties_of held_in
keeps_none p = record { ready = p.ready; view = refl }

pub keeps_one : {v m : ℕ} {width score : Float} {k : Kept Evaluated} {b : Option Holding} {xs zs : List ℕ} {ss ts : List Float} {r : Holding} (a : Assignment) → Keeps v m k b xs ss → length (encode a) ≤ v
    → Recorded v m width score b (put_slot v xs (m + 1) (pad_to v (encode a))) ss zs ts r
    → Keeps v m (keep_one score_of same_evaluated m width k (record { assignment = a; score = score })) (Some r) zs ts
keeps_one {v} {m} {width} {score} {k} {b} {xs} {zs} {ss} {ts} {r} a h l p =
    let n = noted (encode a) h.ready l p in
    record {
      ready = n.ready;
      view = n.view ∙ ap (λ (t : Kept Held). keep_one held_score same_held m width t (held_as v (record { assignment = a; score = score }))) h.view
          ∙ held_one v m width k (record { assignment = a; score = score });
    }

pub keeps_left : {v m : ℕ} {width score : Float} {k : Kept Evaluated} {b : Option Holding} {xs zs : List ℕ} {ss ts : List Float} {r : Holding} (a : Assignment) → Keeps v m k b xs ss → length (encode a) ≤ v
    → Recorded v m width score b (put_slot v xs (m + 1) (pad_to v (encode a))) ss zs ts r → Left v m xs ss zs ts
keeps_left a h l p = (noted (encode a) h.ready l p).left

pub left_none : {v m : ℕ} (xs : List ℕ) (ss : List Float) → Left v m xs ss xs ss
left_none xs ss = record { longx = refl; longs = refl; restx = refl; rests = refl }

pub left_on : {v m : ℕ} {xs ys zs : List ℕ} {ss ts us : List Float} → Left v m xs ss ys ts → Left v m ys ts zs us → Left v m xs ss zs us
left_on a b = record { longx = b.longx ∙ a.longx; longs = b.longs ∙ a.longs; restx = b.restx ∙ a.restx; rests = b.rests ∙ a.rests }

-- what is returned besides the rooms
pub keeps_count : {v m : ℕ} {k : Kept Evaluated} {b : Option Holding} {xs : List ℕ} {ss : List Float} → Keeps v m k b xs ss → (besides b).count ≡ length k.tied
unfolding view_of ties_of
keeps_count {v} {m} {k} {b} {xs} {ss} h = sym (length_held v (besides b).count (drop v xs) (drop 1 ss)) ∙ ap (λ (t : Kept Held). length t.tied) h.view ∙ rw length-map

pub keeps_discarded : {v m : ℕ} {k : Kept Evaluated} {b : Option Holding} {xs : List ℕ} {ss : List Float} → Keeps v m k b xs ss → (besides b).discarded ≡ k.discarded
unfolding view_of
keeps_discarded h = ap (λ (t : Kept Held). t.discarded) h.view

-- ---- lists

-- zeros behind a list that come to n in all
pad_by : {A : Type 0} (z : A) (n j : ℕ) (w l : List A) → w ≡ l ++ replicate j z → length w ≡ n → w ≡ l ++ replicate (n - length l) z
pad_by z n j w l e h =
    let s : length w ≡ length l + j = ap length e ∙ length-append l (replicate j z) ∙ rw length-replicate in
    let i : j ≡ n - length l = omega arith in
    e ∙ ap (λ (i : ℕ). l ++ replicate i z) i

abbrev all_words : List Held → List ℕ
all_words [] = []
all_words (s ∷ l) = s.words ++ all_words l

all_append : (l r : List Held) → all_words (l ++ r) ≡ all_words l ++ all_words r
all_append [] r = refl
all_append (s ∷ l) r = ap (λ (t : List ℕ). s.words ++ t) (all_append l r) ∙ sym (append_assoc s.words (all_words l) (all_words r))

all_blank : (v n : ℕ) → all_words (replicate n (blank v)) ≡ replicate (n * v) 0
all_blank v zero =
    let z : 0 * v ≡ 0 = omega arith in
    rw z
all_blank v (suc n) =
    let e : suc n * v ≡ v + n * v = rw suc-mul (omega arith) in
    rw (e, all_blank v n) (replicate-append-replicate v (n * v) 0)

all_held : (v : ℕ) (l : List Evaluated) → all_words (map (held_as v) l) ≡ flat (map (slot_words v) l)
all_held v [] = refl
all_held v (e ∷ l) = ap (λ (t : List ℕ). slot_words v e ++ t) (all_held v l)

scores_held : (v : ℕ) (l : List Evaluated) → map held_score (map (held_as v) l) ≡ map score_of l
scores_held v [] = refl
scores_held v (e ∷ l) = ap (λ (t : List Float). e.score ∷ t) (scores_held v l)

scores_append : (l r : List Held) → map held_score (l ++ r) ≡ map held_score l ++ map held_score r
scores_append [] r = refl
scores_append (s ∷ l) r = ap (λ (t : List Float). s.score ∷ t) (scores_append l r)

scores_blank : (v n : ℕ) → map held_score (replicate n (blank v)) ≡ replicate n zero_score
scores_blank v zero = refl
scores_blank v (suc n) = ap (λ (t : List Float). zero_score ∷ t) (scores_blank v n)

held_words : (v n : ℕ) (xs : List ℕ) (ss : List Float) → n * v ≤ length xs → all_words (held_in v n xs ss) ≡ take (n * v) xs
unfolding held_in
held_words v zero xs ss h =
    let z : 0 * v ≡ 0 = omega arith in
    rw z
held_words v (suc n) xs ss h =
    let e : suc n * v ≡ v + n * v = rw suc-mul (omega arith) in
    let h' : v + n * v ≤ length xs = rw e at h in
    rw (e, take-add v (n * v) xs) (ap (λ (t : List ℕ). take v xs ++ t) (held_words v n (drop v xs) (drop 1 ss) (rw length-drop (omega arith))))

held_scores : (v n : ℕ) (xs : List ℕ) (ss : List Float) → n ≤ length ss → map held_score (held_in v n xs ss) ≡ take n ss
unfolding held_in
held_scores v zero xs ss h = refl
held_scores v (suc n) xs [] h = absurd (not-suc-le-zero h)
held_scores v (suc n) xs (s ∷ ss) h = ap (λ (t : List Float). s ∷ t) (held_scores v n (drop v xs) ss (omega arith))

-- ---- the needed words

module _ {v m : ℕ} {b : Option Holding} {xs : List ℕ} {ss : List Float} where
  all_ties : Tidy v m b xs ss → ties_of v m xs ss ≡ (view_of v b xs ss).tied ++ replicate (m - (besides b).count) (blank v)
  unfolding view_of ties_of
  all_ties t = sym (take-append-drop (besides b).count (held_in v m (drop v xs) (drop 1 ss))) ∙ ap₂ (λ (x : List Held) (y : List Held). x ++ y) (held_take v (besides b).count m (drop v xs) (drop 1 ss) t.few) t.unused

  first_words : Tidy v m b xs ss → take v xs ≡ pad_to v (all_words (view_of v b xs ss).best)
  unfolding view_of
  first_words t = go (is_some b) refl
    where
      go : (h : Bool) → is_some b ≡ h → take v xs ≡ pad_to v (all_words (pick h (first_of v xs ss ∷ []) []))
      go true e =
          let lv : length (take v xs) ≡ v = length-take-le v xs (omega (arith, t.longx)) in
          let z : v - v ≡ 0 = omega arith in
          sym (rw (append-nil (take v xs), lv, z) (append-nil (take v xs)))
      go false e =
          let z : v - 0 ≡ v = omega arith in
          rw z (ap (λ (s : Held). s.words) (t.fresh e))

  first_score : Tidy v m b xs ss → get_or ss 0 nan ∷ [] ≡ pad_scores 1 (map held_score (view_of v b xs ss).best)
  unfolding view_of
  first_score t = go (is_some b) refl
    where
      go : (h : Bool) → is_some b ≡ h → get_or ss 0 nan ∷ [] ≡ pad_scores 1 (map held_score (pick h (first_of v xs ss ∷ []) []))
      go true e = refl
      go false e = ap (λ (s : Held). s.score ∷ []) (t.fresh e)

  needed_words : Ready v m b xs ss → take (m * v + v + v) xs
      ≡ (pad_to v (all_words (view_of v b xs ss).best) ++ all_words (view_of v b xs ss).tied) ++ replicate ((m - (besides b).count) * v + v) 0
  unfolding ties_of
  needed_words r =
      let t : Tidy v m b xs ss = r.tidy in
      let hx : m * v + v + v ≤ length xs = t.longx in
      let e : m * v + v + v ≡ v + (m * v + v) = omega arith in
      let ties : take (m * v) (drop v xs) ≡ all_words (view_of v b xs ss).tied ++ replicate ((m - (besides b).count) * v) 0 =
      sym (held_words v m (drop v xs) (drop 1 ss) (rw length-drop (omega arith))) ∙ ap all_words (all_ties t)
      ∙ all_append (view_of v b xs ss).tied (replicate (m - (besides b).count) (blank v)) ∙ ap (λ (l : List ℕ). all_words (view_of v b xs ss).tied ++ l) (all_blank v (m - (besides b).count)) in
      let s : take v (drop (m * v) (drop v xs)) ≡ replicate v 0 = sym (spare_is v m xs) ∙ r.spare in
      rw (e, take-add v (m * v + v) xs, take-add (m * v) v (drop v xs), s, ties, first_words t, ← replicate-append-replicate {A = ℕ} ((m - (besides b).count) * v) v 0) (simp append_assoc)

  needed_scores : Ready v m b xs ss → take (m + 1) ss ≡ (pad_scores 1 (map held_score (view_of v b xs ss).best) ++ map held_score (view_of v b xs ss).tied) ++ replicate (m - (besides b).count) zero_score
  unfolding held_in ties_of
  needed_scores r =
      let t : Tidy v m b xs ss = r.tidy in
      let hs : m < length ss = t.longs in
      let e : m + 1 ≡ suc m = omega arith in
      let ties : map held_score (held_in v m (drop v xs) (drop 1 ss)) ≡ map held_score (view_of v b xs ss).tied ++ replicate (m - (besides b).count) zero_score =
      ap (map held_score) (all_ties t) ∙ scores_append (view_of v b xs ss).tied (replicate (m - (besides b).count) (blank v)) ∙ ap (λ (l : List Float). map held_score (view_of v b xs ss).tied ++ l) (scores_blank v (m - (besides b).count)) in
      rw e (sym (held_scores v (suc m) xs ss (omega arith))
      ∙ ap₂ (λ (x : List Float) (y : List Float). x ++ y) (first_score t) ties ∙ sym (append_assoc (pad_scores 1 (map held_score (view_of v b xs ss).best)) (map held_score (view_of v b xs ss).tied) (replicate (m - (besides b).count) zero_score)))

-- ---- word for word

module _ {v m : ℕ} {k : Kept Evaluated} {b : Option Holding} {xs : List ℕ} {ss : List Float} (h : Keeps v m k b xs ss) where
  words_are : take ((m + 2) * v) xs ≡ pad_to ((m + 2) * v) (pad_to v (flat (map (slot_words v) k.best)) ++ flat (map (slot_words v) k.tied))
  words_are =
      let n2 : (m + 2) * v ≡ m * v + v + v = omega arith in
      let long : m * v + v + v ≤ length xs = h.ready.tidy.longx in
      pad_by 0 ((m + 2) * v) ((m - (besides b).count) * v + v) (take ((m + 2) * v) xs) (pad_to v (flat (map (slot_words v) k.best)) ++ flat (map (slot_words v) k.tied))
      (rw n2 (needed_words h.ready ∙ rw (h.view, all_held v k.best, all_held v k.tied)))
      (length-take-le ((m + 2) * v) xs (rw n2 long))

  scores_are : take (m + 1) ss ≡ pad_scores (m + 1) (pad_scores 1 (map score_of k.best) ++ map score_of k.tied)
  scores_are =
      let long : m < length ss = h.ready.tidy.longs in
      pad_by zero_score (m + 1) (m - (besides b).count) (take (m + 1) ss) (pad_scores 1 (map score_of k.best) ++ map score_of k.tied)
      (needed_scores h.ready ∙ rw (h.view, scores_held v k.best, scores_held v k.tied))
      (length-take-le (m + 1) ss (omega arith))

-- the first n words are these, and the rest is as it was
over_room : {A : Type 0} (n : ℕ) (xs xs₀ ws : List A) → n ≤ length xs → take n xs ≡ ws → drop n xs ≡ drop n xs₀ → xs ≡ over ws xs₀
over_room n xs xs₀ ws h e d =
    let lw : length ws ≡ n = ap length (sym e) ∙ length-take-le n xs h in
    sym (take-append-drop n xs) ∙ rw (lw, e, d)

module _ {k : Kept Evaluated} {b : Option Holding} {xs₀ : List ℕ} {ss₀ : List Float} {xs : List ℕ} {ss : List Float} (p : Panel) (budget : SearchBudget) where
  -- the kept room at exit
  pub room_left : Keeps (slot_width p budget) budget.max_optima k b xs ss → Left (slot_width p budget) budget.max_optima xs₀ ss₀ xs ss → xs ≡ over (kept_left p budget k) xs₀
  unfolding kept_left
  room_left h l =
      let n2 : kept_needed p budget ≡ budget.max_optima * slot_width p budget + slot_width p budget + slot_width p budget = omega arith in
      let long : budget.max_optima * slot_width p budget + slot_width p budget + slot_width p budget ≤ length xs = h.ready.tidy.longx in
      over_room (kept_needed p budget) xs xs₀ (kept_left p budget k) (rw n2 long) (words_are h) (rw n2 l.restx)

  -- the kept scores at exit
  pub scores_left : Keeps (slot_width p budget) budget.max_optima k b xs ss → Left (slot_width p budget) budget.max_optima xs₀ ss₀ xs ss → ss ≡ over (kept_scores_left budget k) ss₀
  unfolding kept_scores_left
  scores_left h l =
      let long : budget.max_optima < length ss = h.ready.tidy.longs in
      over_room (scores_needed budget) ss ss₀ (kept_scores_left budget k) (omega arith) (scores_are h) l.rests

-- with nothing kept they are zero
zeros : {A : Type 0} (z : A) (a n : ℕ) → a ≤ n → replicate a z ++ replicate (n - a) z ≡ replicate n z
zeros z a n h =
    let e : a + (n - a) ≡ n = omega arith in
    replicate-append-replicate a (n - a) z ∙ ap (λ (i : ℕ). replicate i z) e

pub none_left : (p : Panel) (budget : SearchBudget) → kept_left p budget nothing ≡ replicate (kept_needed p budget) 0
unfolding kept_left
none_left p budget =
    let n2 : kept_needed p budget ≡ budget.max_optima * slot_width p budget + slot_width p budget + slot_width p budget = omega arith in
    let e : slot_width p budget - 0 ≡ slot_width p budget = omega arith in
    let lr : length {A = ℕ} (replicate (slot_width p budget) 0) ≡ slot_width p budget = length-replicate (slot_width p budget) 0 in
    rw (append-nil {A = ℕ} (replicate (slot_width p budget - 0) 0), e, lr) (zeros 0 (slot_width p budget) (kept_needed p budget) (rw n2 (omega arith)))

pub none_scores_left : (budget : SearchBudget) → kept_scores_left budget nothing ≡ replicate (scores_needed budget) zero_score
unfolding kept_scores_left
none_scores_left budget = zeros zero_score 1 (budget.max_optima + 1) (omega arith)

module _ {xs₀ : List ℕ} {ss₀ : List Float} {xs : List ℕ} {ss : List Float} (p : Panel) (budget : SearchBudget) where
  pub room_begun : Begun (slot_width p budget) budget.max_optima xs₀ ss₀ xs ss → xs ≡ over (replicate (kept_needed p budget) 0) xs₀
  room_begun h = room_left p budget (keeps_none h) h.left ∙ ap (λ (ws : List ℕ). over ws xs₀) (none_left p budget)

  pub scores_begun : Begun (slot_width p budget) budget.max_optima xs₀ ss₀ xs ss → ss ≡ over (replicate (scores_needed budget) zero_score) ss₀
  scores_begun h = scores_left p budget (keeps_none h) h.left ∙ ap (λ (xs : List Float). over xs ss₀) (none_scores_left budget)
