-- What stands in the rooms: the incumbent's words and score first, and those of the tied list behind.
use Prim.Native.Nat.{ℕ, zero, suc, ◌+◌, ◌*◌, ◌-◌, ◌≤◌, ◌<◌}
use native.Mathlib.Omega.{arith}
use native.Mathlib.Nat.{not-suc-le-zero, zero-mul, suc-mul}
use mathlib.Core.Path.{◌≡◌, refl, sym, ap, ◌∙◌}
use mathlib.Core.List.{List, [], ◌∷◌, ◌++◌, map, append_assoc, append-nil, Memᴰ}
use lib.ListN.{length, take, drop, get_or, replicate}
use lib.Seq.{take_at, drop-drop, drop_at}
use lib.Ieee.{Float}
use Rattle.image.specs.Panel.{panel_of}
use Rattle.evaluate.specs.Properties.{Each}
use Rattle.evaluate.specs.Segments.{Assignment, flat}
use Rattle.evaluate.specs.Words.{encode}
use Rattle.evaluate.specs.Check.{over}
use Rattle.evaluate.proofs.Lists.{each_mem, mem_each}
use Rattle.search.specs.declared.SearchBudget.{SearchBudget}
use Rattle.search.specs.declared.SearchReply.{SearchReply}
use Rattle.search.specs.Budget.{zero_score}
use Rattle.search.specs.Keep.{Kept, Evaluated, score_of}
use Rattle.search.specs.Rooms.{pad_to, pad_scores, slot_width, slot_words, kept_needed, scores_needed, kept_left, kept_scores_left, left_in}
use Rattle.search.specs.Answers.{Rooms, search_refusal, reply_of, search_answer, rooms_after, search_rooms}
use Rattle.search.proofs.Sizes.{pad_length}
use Rattle.enumeration.proofs.Room.{handed_fits}
use Rattle.certificate.specs.Terms.{kept_by, evaluations, handed_over}
use Rattle.certificate.specs.Slots.{InSlot}
use Rattle.certificate.proofs.Reply.{some_frontier, reply-of}
use Rattle.certificate.proofs.Evaluated.{tied_evaluated, best_evaluated, handed-of}
use Rattle.certificate.proofs.Unrefused.{Unrefused, none_refuses}

-- ---- slots, one behind the other

abbrev Fits : ℕ → Evaluated → Type 0
Fits v e = length (encode e.assignment) ≤ v

slot_length : (v : ℕ) (e : Evaluated) → Fits v e → length (slot_words v e) ≡ v
slot_length v e h = pad_length v (encode e.assignment) h

slots_at : (v : ℕ) (t : List Evaluated) (more : List ℕ) (d : Evaluated) → Each (Fits v) t → (j : ℕ) → j < length t
    → take v (drop (j * v) (flat (map (slot_words v) t) ++ more)) ≡ slot_words v (get_or t j d)
slots_at v [] more d h j lt = absurd (not-suc-le-zero lt)
slots_at v (e ∷ t) more d h zero lt =
    rw zero-mul (ap (take v) (append_assoc (slot_words v e) (flat (map (slot_words v) t)) more) ∙ take_at (slot_words v e) (flat (map (slot_words v) t) ++ more) v (slot_length v e h.0))
slots_at v (e ∷ t) more d h (suc j) lt =
    ap (λ (l : List ℕ). take v (drop (suc j * v) l)) (append_assoc (slot_words v e) (flat (map (slot_words v) t)) more)
    ∙ ap (take v) (past (slot_words v e) (flat (map (slot_words v) t) ++ more) (slot_length v e h.0))
    ∙ slots_at v t more d h.1 j (omega arith)
  where
    past : (x ys : List ℕ) → length x ≡ v → drop (suc j * v) (x ++ ys) ≡ drop (j * v) ys
    past x ys n =
        let q : suc j * v ≡ v + j * v = suc-mul j v ∙ (omega arith) in
        ap (λ (k : ℕ). drop k (x ++ ys)) q ∙ sym (drop-drop (j * v) v (x ++ ys)) ∙ ap (drop (j * v)) (drop_at x ys v n)

scores_at : (t : List Evaluated) (more : List Float) (d : Evaluated) (j : ℕ) → j < length t → get_or (map score_of t ++ more) j zero_score ≡ (get_or t j d).score
scores_at [] more d j lt = absurd (not-suc-le-zero lt)
scores_at (e ∷ t) more d zero lt = refl
scores_at (e ∷ t) more d (suc j) lt = scores_at t more d j (omega arith)

-- ---- the rooms at exit

-- of a search that was not refused
module _ (s : List ℕ) (b : SearchBudget) (xs : List Float) (rooms : Rooms) (none : (search_refusal s b xs rooms).number ≡ 0) where
  abbrev v : ℕ
  v = slot_width (panel_of s) b

  abbrev kept : Kept Evaluated
  kept = kept_by s b xs

  kept_room : (search_rooms s b xs rooms).kept ≡ over (kept_left (panel_of s) b kept) rooms.kept
  unfolding search_rooms rooms_after left_in
  kept_room = rw none

  score_room : (search_rooms s b xs rooms).scores ≡ over (kept_scores_left b kept) rooms.scores
  unfolding search_rooms rooms_after left_in
  score_room = rw none

  -- with the incumbent i, the rooms are a slot and a score for each of i and the tied list, and more
  module _ (i : Evaluated) (is : kept.best ≡ i ∷ []) (own : Fits v i) where
    all_slots : (more : List ℕ) × ((search_rooms s b xs rooms).kept ≡ flat (map (slot_words v) (i ∷ kept.tied)) ++ more)
    unfolding kept_left
    all_slots = (
      replicate (kept_needed (panel_of s) b - length (first ++ behind)) 0 ++ drop (length (pad_to (kept_needed (panel_of s) b) (first ++ behind))) rooms.kept,
      kept_room
          ∙ append_assoc (first ++ behind) (replicate (kept_needed (panel_of s) b - length (first ++ behind)) 0) (drop (length (pad_to (kept_needed (panel_of s) b) (first ++ behind))) rooms.kept)
          ∙ ap (λ (l : List ℕ). l ++ behind ++ (replicate (kept_needed (panel_of s) b - length (first ++ behind)) 0 ++ drop (length (pad_to (kept_needed (panel_of s) b) (first ++ behind))) rooms.kept)) one,
    )
      where
        first : List ℕ
        first = pad_to v (flat (map (slot_words v) kept.best))

        behind : List ℕ
        behind = flat (map (slot_words v) kept.tied)

        one : pad_to v (flat (map (slot_words v) kept.best)) ≡ slot_words v i
        one =
            ap (λ (l : List Evaluated). pad_to v (flat (map (slot_words v) l))) is
            ∙ ap (pad_to v) (append-nil (slot_words v i))
            ∙ ap (λ (n : ℕ). slot_words v i ++ replicate n 0) (let n = slot_length v i own in no_more n)
            ∙ append-nil (slot_words v i)
          where
            no_more : length (slot_words v i) ≡ v → v - length (slot_words v i) ≡ 0
            no_more n = omega arith

    all_scores : (more : List Float) × ((search_rooms s b xs rooms).scores ≡ map score_of (i ∷ kept.tied) ++ more)
    unfolding kept_scores_left
    all_scores = (
      replicate (scores_needed b - length (first ++ behind)) zero_score ++ drop (length (pad_scores (scores_needed b) (first ++ behind))) rooms.scores,
      score_room
          ∙ append_assoc (first ++ behind) (replicate (scores_needed b - length (first ++ behind)) zero_score) (drop (length (pad_scores (scores_needed b) (first ++ behind))) rooms.scores)
          ∙ ap (λ (l : List Float). l ++ behind ++ (replicate (scores_needed b - length (first ++ behind)) zero_score ++ drop (length (pad_scores (scores_needed b) (first ++ behind))) rooms.scores)) one,
    )
      where
        first : List Float
        first = pad_scores 1 (map score_of kept.best)

        behind : List Float
        behind = map score_of kept.tied

        one : pad_scores 1 (map score_of kept.best) ≡ i.score ∷ []
        one =
            ap (λ (l : List Evaluated). pad_scores 1 (map score_of l)) is
            ∙ ap (λ (n : ℕ). (i.score ∷ []) ++ replicate n zero_score) (let e : 1 - length {A = Float} (i.score ∷ []) ≡ 0 = omega arith in e)

    in_slot : Each (Fits v) (i ∷ kept.tied) → (d : Evaluated) (n : ℕ) → n < length (i ∷ kept.tied) → InSlot v (search_rooms s b xs rooms) n (get_or (i ∷ kept.tied) n d)
    in_slot all d n lt =
        let (more, e) = all_slots in
        let (most, f) = all_scores in
        record {
          words = ap (λ (l : List ℕ). take v (drop (n * v) l)) e ∙ slots_at v (i ∷ kept.tied) more d all n lt;
          score = ap (λ (l : List Float). get_or l n zero_score) f ∙ scores_at (i ∷ kept.tied) most d n lt;
        }

  pub tied_many : (search_answer s b xs rooms).optima ≡ length (kept_by s b xs).tied
  unfolding reply_of
  tied_many = ap (λ (r : SearchReply). r.optima) (reply-of s b xs rooms none)

-- what is evaluated fits its slot
evaluated_fits : (s : List ℕ) (b : SearchBudget) (xs : List Float) (rooms : Rooms) → Unrefused s b xs rooms → (e : Evaluated) → Memᴰ e (evaluations s b xs)
    → Fits (slot_width (panel_of s) b) e
evaluated_fits s b xs rooms given e m =
    each_mem (λ (a : Assignment). length (encode a) ≤ slot_width (panel_of s) b) (handed_over s b) (handed_fits (panel_of s) b (some_frontier b given.budget))
    (handed-of s b xs given.scored e m)

kept_fit : (s : List ℕ) (b : SearchBudget) (xs : List Float) (rooms : Rooms) → Unrefused s b xs rooms → (i : Evaluated) → Memᴰ i (evaluations s b xs)
    → Each (Fits (slot_width (panel_of s) b)) (i ∷ (kept_by s b xs).tied)
kept_fit s b xs rooms given i m = (
  evaluated_fits s b xs rooms given i m,
  mem_each (Fits (slot_width (panel_of s) b)) (kept_by s b xs).tied (λ e k. evaluated_fits s b xs rooms given e (tied_evaluated s b xs e k)),
)

-- whatever the status: with the incumbent i, slot 0 has it, and the slots behind it the tied list
pub slot_has : (s : List ℕ) (b : SearchBudget) (xs : List Float) (rooms : Rooms) → (search_refusal s b xs rooms).number ≡ 0 → (i : Evaluated) → (kept_by s b xs).best ≡ i ∷ []
    → (d : Evaluated) (n : ℕ) → n < length (i ∷ (kept_by s b xs).tied) → InSlot (slot_width (panel_of s) b) (search_rooms s b xs rooms) n (get_or (i ∷ (kept_by s b xs).tied) n d)
slot_has s b xs rooms none i is d n lt =
    let given = none_refuses s b xs rooms none in
    let m = best_evaluated s b xs i is in
    in_slot s b xs rooms none i is (evaluated_fits s b xs rooms given i m) (kept_fit s b xs rooms given i m) d n lt
