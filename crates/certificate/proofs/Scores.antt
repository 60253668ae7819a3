-- The scores' part of demand 3: each legal assignment has a score, the incumbent's is the least, and the tied list is complete.
use Prim.Native.Nat.{ℕ, ◌+◌, ◌<◌}
use native.Mathlib.Omega.{arith}
use mathlib.Core.Path.{◌≡◌, refl, sym, ap, ◌∙◌, subst}
use mathlib.Core.Logic.{inl, ⊎_elim, ◌↔◌}
use mathlib.Core.Bool.{Bool, true, false, not}
use mathlib.Core.List.Memᴰ
use mathlib.Core.List.{List, [], ◌∷◌, ◌++◌, map, head-eq_of_cons-eq, Memᴰ}
use lib.Dec.{T}
use lib.ListN.{length, length-append, length-map}
use lib.Ieee as Ieee
use lib.Ieee.{Float}
use Rattle.ground.specs.Lists.{keep}
use Rattle.image.specs.Panel.{panel_of}
use Rattle.evaluate.specs.Properties.{Each, Pairs}
use Rattle.evaluate.specs.Segments.{Assignment}
use Rattle.evaluate.specs.Legal.{Legal}
use Rattle.search.specs.declared.SearchBudget.{SearchBudget}
use Rattle.search.specs.Run.{natives_of}
use Rattle.search.specs.Keep.{Kept, nothing, Evaluated, score_of, same_evaluated, tied_to, ties_to, keep_all}
use Rattle.search.specs.Answers.{Rooms, search_answer}
use Rattle.evaluate.proofs.Lists.{keep_only, keep_in, pairs_keep, pairs_map, each_mem, mem_map}
use Rattle.enumeration.proofs.Suffice.{natives_length}
use Rattle.doubles.proofs.Order.{is_T, lt→not_le}
use Rattle.scoring.proofs.Rule.{Finite, champion, champion_least, champion_one, scoring, firsts}
use Rattle.scoring.proofs.Firsts.{firsts_only, firsts_all, firsts_once, firsts_ahead, Ahead, Other}
use Rattle.certificate.specs.Terms.{Admitted, Exhausted, Scores, evaluations, handed_over, kept_by, NativesThenLegal, Least, Ties, Earlier, Complete, assignment_of}
use Rattle.certificate.specs.Demand3.{AllScored, IncumbentIsLeast, TiedAre, TiedAreAll}
use Rattle.certificate.proofs.Reply.{admitted_passes, certified_whole}
use Rattle.certificate.proofs.Evaluated.{same_told, same_tells, kept_is, best_is, made, finites, handed-of}
use Rattle.certificate.proofs.Walk.{all_evaluated_once, handed_legal}

-- ---- tests and truths

not_lower : (x y : Float) → T (Ieee.le y x) → Ieee.lt x y ≡ false
not_lower x y h = go (Ieee.lt x y) refl (Ieee.le y x) refl h
  where
    go : (b : Bool) → Ieee.lt x y ≡ b → (c : Bool) → Ieee.le y x ≡ c → T c → b ≡ false
    go false e c f t = refl
    go true e true f t = absurd (subst (λ (d : Bool). T (not d)) f (lt→not_le x y (is_T (Ieee.lt x y) e)))
    go true e false f t = absurd t

-- ---- evaluations

pub map_append : {A B : Type 0} (f : A → B) (l m : List A) → map f (l ++ m) ≡ map f l ++ map f m
map_append f [] m = refl
map_append f (a ∷ l) m = ap (λ x. f a ∷ x) (map_append f l m)

module _ (s : List ℕ) (b : SearchBudget) (xs : List Float) (rooms : Rooms) (given : Admitted s b xs rooms) where
  scored_of : (a : Assignment) → Memᴰ a (handed_over s b) → (x : Float) × Scores s b xs a x
  scored_of a m =
      let r = mem_map assignment_of (evaluations s b xs) (subst (λ (l : List Assignment). Memᴰ a l) (sym (made s b xs given.scored)) m) in
      (r.0.score, Memᴰ.cast (λ i. record { assignment = r.2 i; score = r.0.score }) r.1)

  -- ---- where the search reports exhaustion

  module _ (told : Exhausted (search_answer s b xs rooms)) where
    whole : NativesThenLegal (panel_of s) (handed_over s b)
    whole = all_evaluated_once s b xs rooms given told

    legal_of : (e : Evaluated) → Memᴰ e (evaluations s b xs) → Legal (panel_of s) e.assignment
    legal_of e m = handed_legal s (handed_over s b) given.panel whole e.assignment (handed-of s b xs given.scored e m)

    scored : (a : Assignment) → Legal (panel_of s) a → (x : Float) × Scores s b xs a x
    scored a l = scored_of a (subst (λ (t : List Assignment). Memᴰ a t) (sym whole.first) (Memᴰ.append_right (natives_of (panel_of s)) ((whole.legal a).1 l)))

    -- there is one: a family has a native
    some : 0 < length (evaluations s b xs)
    some =
        let n : length (map assignment_of (evaluations s b xs)) ≡ length (natives_of (panel_of s) ++ whole.walked) = ap length ((made s b xs given.scored) ∙ whole.first) in
        let m : length (map assignment_of (evaluations s b xs)) ≡ length (evaluations s b xs) = length-map (evaluations s b xs) assignment_of in
        let k : length (natives_of (panel_of s) ++ whole.walked) ≡ length (natives_of (panel_of s)) + length whole.walked = length-append (natives_of (panel_of s)) whole.walked in
        let j = natives_length (panel_of s) in
        let i = given.families in
        omega arith

    -- ---- of the evaluations, first and rest

    module _ (e : Evaluated) (l : List Evaluated) (are : evaluations s b xs ≡ e ∷ l) where
      abbrev best : Evaluated
      best = champion score_of e l

      best_in : Memᴰ best (evaluations s b xs)
      best_in = subst (λ (t : List Evaluated). Memᴰ best t) (sym are) (champion_one score_of e l)

      none_less : (d : Evaluated) → Memᴰ d (evaluations s b xs) → T (Ieee.le best.score d.score)
      none_less d m =
          each_mem (λ (d : Evaluated). T (Ieee.le best.score d.score)) (e ∷ l) (champion_least score_of e l (subst (Each (Finite score_of)) are (finites s b xs given.scored)))
          (subst (λ (t : List Evaluated). Memᴰ d t) are m)

      least : Least s b xs best
      least = record { legal = legal_of best best_in; scores = best_in; none = λ a x q m. not_lower x best.score (none_less (record { assignment = a; score = x }) m) }

      -- ---- the tied list

      module _ (kept : (kept_by s b xs).discarded ≡ false) where
        abbrev near : Evaluated → Bool
        near d = tied_to best.score b.tie_width d.score

        abbrev first : List Evaluated
        first = firsts same_evaluated [] (evaluations s b xs)

        tied_is : (kept_by s b xs).tied ≡ keep near first
        unfolding ties_to
        tied_is =
            ap (λ (k : Kept Evaluated). k.tied) (kept_is s b xs)
            ∙ ap (λ (t : List Evaluated). (keep_all score_of same_evaluated b.max_optima b.tie_width nothing t).tied) are
            ∙ scoring score_of same_evaluated b.max_optima b.tie_width e l (subst (Each (Finite score_of)) are (finites s b xs given.scored)) agree
            (ap (λ (t : List Evaluated). (keep_all score_of same_evaluated b.max_optima b.tie_width nothing t).discarded) (sym are) ∙ ap (λ (k : Kept Evaluated). k.discarded) (sym (kept_is s b xs)) ∙ kept)
            ∙ ap (λ (t : List Evaluated). keep near (firsts same_evaluated [] t)) (sym are)
          where
            back : (d : Evaluated) → Memᴰ d (e ∷ l) → Memᴰ d (evaluations s b xs)
            back d m = subst (λ (t : List Evaluated). Memᴰ d t) (sym are) m

            agree : (d f : Evaluated) → Memᴰ d (e ∷ l) → Memᴰ f (e ∷ l) → same_evaluated d f ≡ true → d.score ≡ f.score
            agree d f m n q =
                let c : d.assignment ≡ f.assignment = same_told d f q in
                given.agreed d.assignment d.score f.score (back d m) (Memᴰ.cast (λ i. record { assignment = c i; score = f.score }) (back f n))

        in_evaluations : (d : Evaluated) → Memᴰ d first → Memᴰ d (evaluations s b xs)
        in_evaluations d m = ⊎_elim (λ k. absurd (Memᴰ.not-nil k)) (λ k. k) (firsts_only same_evaluated assignment_of same_told same_tells d [] (evaluations s b xs) m)

        -- an evaluation is the first of its assignment: its score is the only one
        first_of : (d : Evaluated) → Memᴰ d (evaluations s b xs) → Memᴰ d first
        first_of d m =
            let r = firsts_all same_evaluated assignment_of same_told same_tells d [] (evaluations s b xs) m in
            let f = r.0 in
            let c : d.assignment ≡ f.assignment = sym r.2 in
            let x : d.score ≡ f.score = given.agreed d.assignment d.score f.score m (Memᴰ.cast (λ i. record { assignment = c i; score = f.score }) (in_evaluations f r.1)) in
            Memᴰ.cast (λ i. record { assignment = c i; score = x i }) r.1

        ties_iff : (d : Evaluated) → Memᴰ d (keep near first) ↔ Ties s b xs best d
        ties_iff d = (to, from)
          where
            to : Memᴰ d (keep near first) → Ties s b xs best d
            to m = let r = keep_only near d first m in let k = in_evaluations d r.0 in record { legal = legal_of d k; scores = k; near = r.1 }

            from : Ties s b xs best d → Memᴰ d (keep near first)
            from t = keep_in near d t.near first (first_of d t.scores)

        no_two : Pairs (Other same_evaluated assignment_of same_told same_tells) (keep near first)
        no_two = pairs_keep near (Other same_evaluated assignment_of same_told same_tells) first (firsts_once same_evaluated assignment_of same_told same_tells [] (evaluations s b xs) tt)

        earlier : (d f : Evaluated) → Ahead same_evaluated assignment_of same_told same_tells (evaluations s b xs) d f → Earlier (handed_over s b) d.assignment f.assignment
        earlier d f h =
            let u = h.0 in
            let v = h.1 in
            record {
              before = map assignment_of u;
              after = map assignment_of v;
              split = sym (made s b xs given.scored) ∙ ap (map assignment_of) h.2 ∙ map_append assignment_of u (d ∷ v);
              none = λ m. let r = mem_map assignment_of u m in h.3 r.0 r.1 (sym r.2);
            }

        abbrev Before : Evaluated → Evaluated → Type 0
        Before d f = Earlier (handed_over s b) d.assignment f.assignment

        in_order_is : Pairs Before (keep near first)
        in_order_is =
            pairs_map (Ahead same_evaluated assignment_of same_told same_tells (evaluations s b xs)) Before earlier (keep near first)
            (pairs_keep near (Ahead same_evaluated assignment_of same_told same_tells (evaluations s b xs)) first (firsts_ahead same_evaluated assignment_of same_told same_tells (evaluations s b xs)))

        tied : TiedAre s b xs best
        tied =
            subst (Complete assignment_of (handed_over s b) (Ties s b xs best)) (sym tied_is) (record { exact = ties_iff; once = no_two; in_order = in_order_is })

-- ---- the theorems

pub all_scored : AllScored
all_scored s b xs rooms given told a l = scored s b xs rooms given told a l

pub incumbent_is_least : IncumbentIsLeast
incumbent_is_least s b xs rooms given told = go (evaluations s b xs) refl (some s b xs rooms given told)
  where
    go : (l : List Evaluated) → evaluations s b xs ≡ l → 0 < length (evaluations s b xs) → (i : Evaluated) × ((kept_by s b xs).best ≡ i ∷ []) × Least s b xs i
    go [] e h = let z : length (evaluations s b xs) ≡ 0 = ap length e in absurd (omega arith)
    go (d ∷ l) e h = (champion score_of d l, best_is s b xs d l e, least s b xs rooms given told d l e)

pub tied_are_all : TiedAreAll
tied_are_all s b xs rooms given certified i is =
    go (evaluations s b xs) refl (some s b xs rooms given (inl certified))
  where
    told : Exhausted (search_answer s b xs rooms)
    told = inl certified

    go : (l : List Evaluated) → evaluations s b xs ≡ l → 0 < length (evaluations s b xs) → TiedAre s b xs i
    go [] e h = let z : length (evaluations s b xs) ≡ 0 = ap length e in absurd (omega arith)
    go (d ∷ l) e h =
        let same : champion score_of d l ≡ i = head-eq_of_cons-eq (sym (best_is s b xs d l e) ∙ is) in
        subst (TiedAre s b xs) same (tied s b xs rooms given told d l e (certified_whole s b xs rooms (admitted_passes s b xs rooms given) certified))
