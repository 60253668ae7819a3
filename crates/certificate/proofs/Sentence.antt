-- The sentence, from demand 3. A search whose lent scores equal f's as doubles do keeps the assignments that it would keep with f's own
-- scores; these are one for each assignment, so demand 3 speaks of that search.
use Prim.Native.Nat.{ℕ, zero, suc, ◌<◌}
use native.Mathlib.Omega.{arith}
use native.Mathlib.Nat.{not-suc-le-zero}
use mathlib.Core.Path.{◌≡◌, refl, sym, ap, ◌∙◌, subst}
use mathlib.Core.Logic.{⊎_elim}
use mathlib.Core.Bool.{Bool, true}
use mathlib.Core.List.Memᴰ
use mathlib.Core.List.{List, [], ◌∷◌, map, Memᴰ}
use lib.ListN.{length, take, get_or, length-map}
use lib.Ieee as Ieee
use lib.Ieee.{Float}
use lib.Ieee.Bits.{is_true}
use lib.Ieee.Scale.{finite}
use Rattle.ground.proofs.Members.{mem_at}
use Rattle.image.specs.Panel.{panel_of}
use Rattle.evaluate.specs.Properties.{Matched}
use Rattle.evaluate.specs.Segments.{Assignment}
use Rattle.evaluate.specs.Words.{encode}
use Rattle.evaluate.specs.Legal.{Legal}
use Rattle.evaluate.proofs.Lists.{mem_map, mem_map_in, each_mem, pairs_through}
use Rattle.search.specs.declared.SearchBudget.{SearchBudget}
use Rattle.search.specs.declared.SearchReply.{SearchReply}
use Rattle.search.specs.declared.Status.TheVariants.{Certified}
use Rattle.search.specs.Run.{walk}
use Rattle.search.specs.Counters.{stop_of, status_of, status_number}
use Rattle.search.specs.Keep.{Kept, nothing, Evaluated, score_of, same_assignment, same_evaluated, evaluated, near, tied_to}
use Rattle.search.specs.Rooms.{pad_to, slot_width}
use Rattle.search.specs.Answers.{Rooms, search_refusal, search_answer, search_rooms}
use Rattle.doubles.proofs.Order.{is_T}
use Rattle.doubles.proofs.Level.{Level, level, level_eq}
use Rattle.scoring.proofs.Alike.{matched_length, matched_at, KeptAlike, keep_alike}
use Rattle.scoring.proofs.Tied.{Well, kept_well}
use Rattle.certificate.specs.Terms.{FiniteScore, Admitted, Exhausted, Scores, evaluations, handed_over, kept_by, NativesThenLegal, Least, NoTwo, Earlier, Complete, assignment_of}
use Rattle.certificate.specs.Demand3.{TiedAre}
use Rattle.certificate.specs.Sentence.{ScoredBy, Tied, Slot, Found, Certificate, Sentence}
use Rattle.certificate.proofs.Reply.{admitted_passes, status-of, evaluations_are, exhausted_iff}
use Rattle.certificate.proofs.Unrefused.{unrefused, Unrefused, none_refuses}
use Rattle.certificate.proofs.Evaluated.{same_tells, kept_is, tied_evaluated, handed-of}
use Rattle.certificate.proofs.Walk.{ends_by_itself, handed_whole, handed_legal}
use Rattle.certificate.proofs.Slots.{slot_has, tied_many}
use Rattle.certificate.proofs.Certificate.{demand3}

-- ---- f's own scores

-- one assignment, with scores that are one number
abbrev Alike : Evaluated → Evaluated → Type 0
Alike d e = (d.assignment ≡ e.assignment) × Level d.score e.score

told_alike : (d e a c : Evaluated) → Alike d e → Alike a c → same_evaluated a d ≡ same_evaluated c e
told_alike d e a c h k = ap (λ (x : Assignment). same_assignment x d.assignment) k.0 ∙ ap (same_assignment c.assignment) h.0

-- alike with one alone
alike_one : (e : Evaluated) (l : List Evaluated) → Matched Alike l (e ∷ []) → (d : Evaluated) × (l ≡ d ∷ []) × Alike d e
alike_one e [] h = absurd h
alike_one e (d ∷ []) h = (d, refl, h.0)
alike_one e (d ∷ c ∷ l) h = absurd h.1

module _ (f : Assignment → Float) where
  level_of : (a : Assignment) (x : Float) → finite x ≡ true → Ieee.eq x (f a) ≡ true → Level x (f a)
  level_of a x p e = level x (f a) (is_T (finite x) p) (is_T (Ieee.eq x (f a)) e)

  -- they are finite
  own_finite : (out : List Assignment) (xs : List Float) → Matched FiniteScore out (take (length out) xs) → ScoredBy f out xs
      → Matched FiniteScore out (take (length out) (map f out))
  own_finite [] xs h k = tt
  own_finite (a ∷ out) [] h k = absurd h
  own_finite (a ∷ out) (x ∷ xs) h k = (is_true (finite (f a)) (level_of a x h.0 k.0).right, own_finite out xs h.1 k.1)

  -- the evaluations are alike
  own_alike : (out : List Assignment) (xs : List Float) → Matched FiniteScore out (take (length out) xs) → ScoredBy f out xs
      → Matched Alike (evaluated out xs) (evaluated out (map f out))
  unfolding evaluated
  own_alike [] xs h k = tt
  own_alike (a ∷ out) [] h k = absurd h
  own_alike (a ∷ out) (x ∷ xs) h k = ((refl, level_of a x h.0 k.0), own_alike out xs h.1 k.1)

  -- and each assignment has one score
  own_score : (out : List Assignment) (e : Evaluated) → Memᴰ e (evaluated out (map f out)) → e.score ≡ f e.assignment
  unfolding evaluated
  own_score [] e m = absurd (Memᴰ.not-nil m)
  own_score (a ∷ out) e m =
      ⊎_elim (λ q. ap (λ (d : Evaluated). d.score) q ∙ ap (λ (d : Evaluated). f d.assignment) (sym q)) (λ k. own_score out e k) (Memᴰ.cases_cons m)

get_d_map : (l : List Evaluated) (d : Evaluated) (a : Assignment) (j : ℕ) → j < length l → get_or (map assignment_of l) j a ≡ (get_or l j d).assignment
get_d_map [] d a j lt = absurd (not-suc-le-zero lt)
get_d_map (e ∷ l) d a zero lt = refl
get_d_map (e ∷ l) d a (suc j) lt = get_d_map l d a j (omega arith)

-- ---- one run

-- what was found, and that the search keeps it
pub record Shown (f : Assignment → Float) (s : List ℕ) (b : SearchBudget) (xs : List Float) (rooms : Rooms) : Type 0 where
  pub found : Found f s b (search_rooms s b xs rooms) (search_answer s b xs rooms)
  pub best : Evaluated
  pub is : (kept_by s b xs).best ≡ best ∷ []
  pub same : best.assignment ≡ found.incumbent

module _ (s : List ℕ) (b : SearchBudget) (xs : List Float) (rooms : Rooms) (passed : (search_answer s b xs rooms).refusal ≡ 0) where
  abbrev v : ℕ
  v = slot_width (panel_of s) b

  passes : (search_refusal s b xs rooms).number ≡ 0
  passes = unrefused s b xs rooms passed

  fine : Unrefused s b xs rooms
  fine = none_refuses s b xs rooms passes

  whole : Exhausted (search_answer s b xs rooms) → NativesThenLegal (panel_of s) (handed_over s b)
  whole told = handed_whole s b fine.panel fine.budget ((exhausted_iff s b xs rooms passes).0 told)

  -- ---- where it reports exhaustion, there is a family, and the scores are f's

  module _ (told : Exhausted (search_answer s b xs rooms)) (family : 0 < length (panel_of s).families) (f : Assignment → Float) (by-f : ScoredBy f (handed_over s b) xs) where
    abbrev ys : List Float
    ys = map f (handed_over s b)

    own : (a : Assignment) (x : Float) → Scores s b ys a x → x ≡ f a
    own a x m = own_score f (handed_over s b) (record { assignment = a; score = x }) m

    -- what is kept is alike
    alike : KeptAlike Alike (kept_by s b xs) (kept_by s b ys)
    alike =
        subst (λ (k : Kept Evaluated). KeptAlike Alike k (kept_by s b ys)) (sym (kept_is s b xs))
        (subst (KeptAlike Alike _) (sym (kept_is s b ys))
        (keep_alike score_of same_evaluated Alike (λ d e h. h.1) told_alike b.max_optima b.tie_width (evaluations s b xs) (evaluations s b ys) nothing nothing
        (own_alike f (handed_over s b) xs fine.scored by-f) (record { best = tt; tied = tt; discarded = refl })))

    given : Admitted s b ys rooms
    given =
        record {
          panel = fine.panel;
          budget = fine.budget;
          roomy = fine.roomy;
          families = family;
          scored = own_finite f (handed_over s b) xs fine.scored by-f;
          agreed = λ a x y m n. own a x m ∙ sym (own a y n);
        }

    status_same : (search_answer s b xs rooms).status ≡ (search_answer s b ys rooms).status
    status_same =
        status-of s b xs rooms passes
        ∙ ap (λ (d : Bool). status_number (status_of (stop_of (walk (panel_of s) b).ending) d)) alike.discarded
        ∙ sym (status-of s b ys rooms (admitted_passes s b ys rooms given))

    told_too : Exhausted (search_answer s b ys rooms)
    told_too = rw (sym status_same) told

    best : (i : Evaluated) × ((kept_by s b ys).best ≡ i ∷ []) × Least s b ys i
    best = demand3.least s b ys rooms given told_too

    abbrev i : Evaluated
    i = best.0

    own_i : i.score ≡ f i.assignment
    own_i = own i.assignment i.score best.2.scores

    scored : (a : Assignment) → Legal (panel_of s) a → Scores s b ys a (f a)
    scored a l =
        let r = demand3.scored s b ys rooms given told_too a l in
        subst (Scores s b ys a) (own a r.0 r.1) r.1

    abbrev tied : List Evaluated
    tied = (kept_by s b ys).tied

    near_own : (a : Assignment) (x : Float) → x ≡ f a → tied_to i.score b.tie_width x ≡ tied_to (f i.assignment) b.tie_width (f a)
    near_own a x e = ap (λ (y : Float). tied_to i.score b.tie_width y) e ∙ ap (λ (y : Float). tied_to y b.tie_width (f a)) own_i

    -- discarded or not
    well : Well score_of same_evaluated b.max_optima b.tie_width (kept_by s b ys)
    well = rw (kept_is s b ys) (kept_well score_of same_evaluated b.max_optima b.tie_width (evaluations s b ys))

    within : (a : Assignment) → Memᴰ a (map assignment_of tied) → Tied f (panel_of s) b.tie_width i.assignment a
    within a m =
        let r = mem_map assignment_of tied m in
        let e = r.0 in
        let k = tied_evaluated s b ys e r.1 in
        let is : e.assignment ≡ a = sym r.2 in
        let close : tied_to i.score b.tie_width e.score ≡ true
        = subst (λ (l : List Evaluated). near score_of b.tie_width e l ≡ true) best.1
        (each_mem (λ (e : Evaluated). near score_of b.tie_width e (kept_by s b ys).best ≡ true) tied well.within r.1) in
        record {
          legal = subst (Legal (panel_of s)) is (handed_legal s (handed_over s b) fine.panel (whole told) e.assignment (handed-of s b ys given.scored e k));
          near = sym (near_own a e.score (own e.assignment e.score k ∙ ap f is)) ∙ close;
        }

    once : NoTwo (map assignment_of tied)
    once =
        pairs_through assignment_of (λ d e. same_evaluated d e ≡ true → ⊥) (λ (a c : Assignment). a ≡ c → ⊥) (λ d e h q. h (same_tells d e q)) tied well.once

    complete : (search_answer s b xs rooms).status ≡ status_number Certified
        → Complete (λ a. a) (handed_over s b) (Tied f (panel_of s) b.tie_width i.assignment) (map assignment_of tied)
    complete certified =
        record {
          exact = λ a. (within a, from a);
          once = once;
          in_order = pairs_through assignment_of (λ d e. Earlier (handed_over s b) d.assignment e.assignment) (Earlier (handed_over s b)) (λ d e h. h) tied t.in_order;
        }
      where
        t : TiedAre s b ys i
        t = demand3.tied s b ys rooms given (sym status_same ∙ certified) i best.1

        from : (a : Assignment) → Tied f (panel_of s) b.tie_width i.assignment a → Memᴰ a (map assignment_of tied)
        from a h =
            mem_map_in assignment_of
            ((t.exact (record { assignment = a; score = f a })).1 (record { legal = h.legal; scores = scored a h.legal; near = near_own a (f a) refl ∙ h.near }))

    -- ---- the slots

    one : (d : Evaluated) × ((kept_by s b xs).best ≡ d ∷ []) × Alike d i
    one = alike_one i (kept_by s b xs).best (subst (Matched Alike (kept_by s b xs).best) best.1 alike.best)

    all : Matched Alike (one.0 ∷ (kept_by s b xs).tied) (i ∷ tied)
    all = (one.2, alike.tied)

    own_all : (e : Evaluated) → Memᴰ e (i ∷ tied) → e.score ≡ f e.assignment
    own_all e m =
        ⊎_elim (λ q. ap (λ (d : Evaluated). d.score) q ∙ own_i ∙ ap (λ (d : Evaluated). f d.assignment) (sym q))
        (λ k. own e.assignment e.score (tied_evaluated s b ys e k)) (Memᴰ.cases_cons m)

    slot_at : (d : Evaluated) (n : ℕ) → n < length (i ∷ tied) → Slot f v (search_rooms s b xs rooms) n (get_or (i ∷ tied) n d).assignment
    slot_at d n lt =
        let many : length (one.0 ∷ (kept_by s b xs).tied) ≡ length (i ∷ tied) = matched_length Alike (one.0 ∷ (kept_by s b xs).tied) (i ∷ tied) all in
        let lt' : n < length (one.0 ∷ (kept_by s b xs).tied) = omega arith in
        let l = slot_has s b xs rooms passes one.0 one.1 d n lt' in
        let k = matched_at Alike d d (one.0 ∷ (kept_by s b xs).tied) (i ∷ tied) all n lt' in
        let x : Float = (get_or (one.0 ∷ (kept_by s b xs).tied) n d).score in
        let e : Evaluated = get_or (i ∷ tied) n d in
        let same : e.score ≡ f e.assignment = own_all e (mem_at d (i ∷ tied) n lt) in
        record {
          words = l.words ∙ ap (λ (a : Assignment). pad_to v (encode a)) k.0;
          score = ap (λ (y : Float). Ieee.eq y (f e.assignment)) l.score ∙ ap (Ieee.eq x) (sym same) ∙ level_eq x e.score k.1;
        }

    found : Found f s b (search_rooms s b xs rooms) (search_answer s b xs rooms)
    found =
        let many : length (map assignment_of tied) ≡ length tied = length-map tied assignment_of in
        record {
          incumbent = i.assignment;
          tied = map assignment_of tied;
          slot = slot_at i 0 (omega arith);
          behind = record {
            many = tied_many s b xs rooms passes ∙ matched_length Alike (kept_by s b xs).tied tied alike.tied ∙ sym many;
            slots = λ d j lt.
                let lt' : j < length tied = omega arith in
                subst (Slot f v (search_rooms s b xs rooms) (suc j)) (sym (get_d_map tied i d j lt')) (slot_at i (suc j) (omega arith));
          };
          best = record {
            legal = best.2.legal;
            least = λ a l. ap (Ieee.lt (f a)) (sym own_i) ∙ best.2.none a (f a) l (scored a l);
            within = within;
            once = once;
          };
          complete = complete;
        }

    -- the incumbent is what the search keeps as its best
    pub shown : Shown f s b xs rooms
    unfolding found
    shown = record { found = found; best = one.0; is = one.1; same = one.2.0 }

  certificate : Certificate s b xs (search_rooms s b xs rooms) (search_answer s b xs rooms)
  certificate =
      record {
        ends = demand3.ends s fine.panel;
        when = λ u.
            let i = exhausted_iff s b xs rooms passes in
            let j = ends_by_itself s b fine.panel fine.budget u in
            (λ h. j.0 (i.0 h), λ h. i.1 (j.1 h));
        counted = evaluations_are s b xs rooms passes;
        evaluated = whole;
        found = found;
      }

-- THE SENTENCE
pub sentence : (s : List ℕ) (b : SearchBudget) (xs : List Float) (rooms : Rooms) → Sentence s b xs (search_rooms s b xs rooms) (search_answer s b xs rooms)
sentence = certificate

-- of any reply and rooms that are the search's
pub sentence_of : (s : List ℕ) (b : SearchBudget) (xs : List Float) (rooms after : Rooms) (r : SearchReply) → r ≡ search_answer s b xs rooms → after ≡ search_rooms s b xs rooms
    → Sentence s b xs after r
sentence_of s b xs rooms after r er ea = rw (er, ea) (sentence s b xs rooms)
