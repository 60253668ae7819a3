-- A larger budget only adds (02, item 13), from the law of larger budgets and that of what is kept.
use Prim.Native.Nat.{ℕ}
use native.Mathlib.Omega.{arith}
use mathlib.Core.Path.{◌≡◌, refl, sym, ap, ap₂, subst, ◌∙◌}
use mathlib.Core.Logic.{◌⊎◌, inl, inr}
use mathlib.Core.Bool.{Bool, true, false}
use mathlib.Core.List.Memᴰ
use mathlib.Core.List.{List, [], ◌∷◌, ◌++◌, Memᴰ}
use lib.Dec.{T, eqb}
use lib.ListN.{length, take, drop}
use lib.Ieee as Ieee
use lib.Ieee.{Float}
use lib.Ieee.Bits.{is_true}
use Rattle.ground.specs.Lists.{pick}
use Rattle.image.specs.Panel.{Panel, panel_of}
use Rattle.graph.specs.Check.{panel_refusal}
use Rattle.evaluate.specs.declared.Refusal.{Refusal}
use Rattle.evaluate.specs.Refusals.{at}
use Rattle.evaluate.specs.Properties.{Each, Matched}
use Rattle.evaluate.specs.Segments.{Assignment}
use Rattle.evaluate.specs.Words.{bit}
use Rattle.search.specs.declared.SearchBudget.{SearchBudget}
use Rattle.search.specs.declared.SearchReply.{SearchReply}
use Rattle.search.specs.declared.Status.TheVariants.{Certified}
use Rattle.search.specs.Budget.{budget_refusal}
use Rattle.search.specs.Run.{Walked, exhausted, walk}
use Rattle.search.specs.Counters.{status_number, tally_of, no_tally}
use Rattle.search.specs.Keep.{Kept, nothing, Evaluated, score_of, same_evaluated, ties_to, keep_all, evaluated}
use Rattle.search.specs.Search.{Searched, walked, evaluation_refusal, searched_as, search_from, search}
use Rattle.search.specs.Rooms.{rooms_refusal}
use Rattle.search.specs.Answers.{Rooms, search_refusal, refused_search, reply_of, search_answer, rooms_after, search_rooms}
use Rattle.enumeration.proofs.Resumed.{later, split, exhausted_stays}
use Rattle.scoring.proofs.Rule.{Finite}
use Rattle.scoring.proofs.Width.{all_same}
use Rattle.scoring.proofs.Longer.{Lower, lowers_only, best_alike, marks_stay, ties_stay, room_idle}
use Rattle.scoring.proofs.Room.{room_loses_none}
use Rattle.certificate.specs.Terms.{Agreed, FiniteScore, Exhausted, evaluations, handed_over, kept_by}
use Rattle.certificate.specs.Larger.{NoSmaller, NoWorse, SameCounters, Roomy, AsItWas, OnlyAdds, LargerOnlyAdds, ScoresBehind}
use Rattle.certificate.proofs.Unrefused.{unrefused, none_refuses}
use Rattle.certificate.proofs.Evaluated.{same_told, same_tells, kept_is, finites}
use Rattle.certificate.proofs.Reply.{none_refused, reply-of, exhausted_iff, certified_whole}

-- ---- the evaluations

-- with a score for each of the first, those behind them have the scores that follow
evaluated_append : (l m : List Assignment) (xs : List Float) → Matched FiniteScore l (take (length l) xs) → evaluated (l ++ m) xs ≡ evaluated l xs ++ evaluated m (drop (length l) xs)
unfolding evaluated
evaluated_append [] m xs h = refl
evaluated_append (a ∷ l) m [] h = absurd h
evaluated_append (a ∷ l) m (x ∷ xs) h = ap (λ (e : List Evaluated). record { assignment = a; score = x } ∷ e) (evaluated_append l m xs h.1)

-- what the rule keeps of these under a budget
abbrev kept_of_all : SearchBudget → List Evaluated → Kept Evaluated
kept_of_all b l = keep_all score_of same_evaluated b.max_optima b.tie_width nothing l

no-worse : (i j : Evaluated) → T (Ieee.le j.score i.score) → Lower score_of j i → NoWorse i j
no-worse i j l c = record { no_higher = is_true (Ieee.le j.score i.score) l; same_or_lower = go c }
  where
    go : Lower score_of j i → (j ≡ i) ⊎ (Ieee.lt j.score i.score ≡ true)
    go (inl e) = inl e
    go (inr t) = inr (is_true (Ieee.lt j.score i.score) t)

marked_bit : (t : Bool) → bit t ≡ 1 → t ≡ true
marked_bit true e = refl
marked_bit false e = absurd (omega arith)

unmarked_bit : (t : Bool) → bit t ≡ 0 → t ≡ false
unmarked_bit true e = absurd (omega arith)
unmarked_bit false e = refl

-- ---- what a reply says of its walk and of what is kept

module _ (p : Panel) (b c : SearchBudget) (xs : List Float) (same : walk p c ≡ walk p b) where
  -- the counters are the walk's
  same_counters : SameCounters (reply_of (search p b xs)) (reply_of (search p c xs))
  unfolding reply_of search search_from searched_as walked walk tally_of
  same_counters =
      record {
        work = ap (λ (r : Walked). (tally_of p no_tally r.walk).work) same;
        evaluations = ap (λ (r : Walked). (tally_of p no_tally r.walk).evaluations) same;
        natives = ap (λ (r : Walked). (tally_of p no_tally r.walk).natives) same;
        donors = ap (λ (r : Walked). (tally_of p no_tally r.walk).donors) same;
        non_native = ap (λ (r : Walked). (tally_of p no_tally r.walk).non_native) same;
        mixed = ap (λ (r : Walked). (tally_of p no_tally r.walk).mixed) same;
        mixed_identity = ap (λ (r : Walked). (tally_of p no_tally r.walk).mixed_identity) same;
        switches = ap (λ (r : Walked). (tally_of p no_tally r.walk).switches) same;
        families = ap (λ (r : Walked). (tally_of p no_tally r.walk).families) same;
      }

  -- the search is the walk and what is kept
  same_search : (ys : List Float) → (search p c ys).state.kept ≡ (search p b xs).state.kept → search p c ys ≡ search p b xs
  unfolding search search_from searched_as walked walk
  same_search ys k = λ i.
      record { ending = (same i).ending; state = record { tally = tally_of p no_tally (same i).walk; stack = (same i).walk.stack; kept = k i } }

-- ---- the statement, part by part

module _ (s : List ℕ) (b c : SearchBudget) (xs : List Float) (rooms others : Rooms) (none : (search_refusal s b xs rooms).number ≡ 0) (nor : (search_refusal s c xs others).number ≡ 0)
    (more : NoSmaller b c) where
  abbrev q : SearchReply
  q = search_answer s b xs rooms

  abbrev r : SearchReply
  r = search_answer s c xs others

  abbrev rest : List Assignment
  rest = (later (panel_of s) b c more.walk).walk.out

  cut : handed_over s c ≡ handed_over s b ++ rest
  cut = ap (λ (w : Walked). w.walk.out) (split (panel_of s) b c more.walk)

  abbrev behind : List Evaluated
  behind = evaluated rest (drop (length (handed_over s b)) xs)

  longer : evaluations s c xs ≡ evaluations s b xs ++ behind
  longer = ap (λ (l : List Assignment). evaluated l xs) cut ∙ evaluated_append (handed_over s b) rest xs (none_refuses s b xs rooms none).scored

  fine_longer : Each (Finite score_of) (evaluations s b xs ++ behind)
  fine_longer = subst (Each (Finite score_of)) longer (finites s c xs (none_refuses s c xs others nor).scored)

  best_of_is : (i : Evaluated) → (kept_by s b xs).best ≡ i ∷ [] → (j : Evaluated) × ((kept_by s c xs).best ≡ j ∷ []) × NoWorse i j
  best_of_is i e =
      let h = lowers_only score_of same_evaluated b.max_optima c.max_optima b.tie_width c.tie_width (evaluations s b xs) behind fine_longer i
      (ap (λ (t : Kept Evaluated). t.best) (sym (kept_is s b xs)) ∙ e) in
      (h.0, ap (λ (t : Kept Evaluated). t.best) (kept_is s c xs) ∙ ap (λ (l : List Evaluated). (kept_of_all c l).best) longer ∙ h.1, no-worse i h.0 h.2 h.3)

  -- the tie width is one number
  widths : (m : ℕ) (l : List Evaluated) → keep_all score_of same_evaluated m c.tie_width nothing l ≡ keep_all score_of same_evaluated m b.tie_width nothing l
  widths m l = sym (all_same b.tie_width c.tie_width more.width score_of same_evaluated m nothing l)

  marks : c.max_optima ≡ b.max_optima → (kept_by s b xs).discarded ≡ true → (kept_by s c xs).discarded ≡ true
  marks o e =
      ap (λ (t : Kept Evaluated). t.discarded) (kept_is s c xs)
      ∙ ap (λ (l : List Evaluated). (kept_of_all c l).discarded) longer
      ∙ ap (λ (t : Kept Evaluated). t.discarded) (widths c.max_optima (evaluations s b xs ++ behind))
      ∙ ap (λ (m : ℕ). (keep_all score_of same_evaluated m b.tie_width nothing (evaluations s b xs ++ behind)).discarded) o
      ∙ marks_stay score_of same_evaluated b.max_optima b.tie_width (evaluations s b xs) behind (ap (λ (t : Kept Evaluated). t.discarded) (sym (kept_is s b xs)) ∙ e)

  discarded_of : q.discarded ≡ bit (kept_by s b xs).discarded
  unfolding reply_of
  discarded_of = ap (λ (a : SearchReply). a.discarded) (reply-of s b xs rooms none)

  discarded_after : r.discarded ≡ bit (kept_by s c xs).discarded
  unfolding reply_of
  discarded_after = ap (λ (a : SearchReply). a.discarded) (reply-of s c xs others nor)

  -- ---- more room for ties

  abbrev kept_roomy : List Evaluated → Kept Evaluated
  kept_roomy l = keep_all score_of same_evaluated c.max_optima b.tie_width nothing l

  idle : (kept_by s b xs).discarded ≡ false → kept_roomy (evaluations s b xs) ≡ kept_of_all b (evaluations s b xs)
  idle e =
      room_idle score_of same_evaluated b.max_optima b.tie_width c.max_optima more.optima nothing (evaluations s b xs)
      (ap (λ (t : Kept Evaluated). t.discarded) (sym (kept_is s b xs)) ∙ e)

  roomy : Roomy b c q → kept_roomy (evaluations s b xs) ≡ kept_of_all b (evaluations s b xs)
  roomy (inl o) = ap (λ (m : ℕ). keep_all score_of same_evaluated m b.tie_width nothing (evaluations s b xs)) o
  roomy (inr z) = idle (unmarked_bit (kept_by s b xs).discarded (sym discarded_of ∙ z))

  stays_tied : Roomy b c q → (j : Evaluated) → (kept_by s c xs).best ≡ j ∷ []
      → (new : List Evaluated) × ((kept_by s c xs).tied ≡ ties_to score_of j.score b.tie_width (kept_by s b xs).tied ++ new)
  stays_tied h j e =
      let kept : kept_by s c xs ≡ kept_roomy (evaluations s b xs ++ behind) = kept_is s c xs ∙ ap (kept_of_all c) longer ∙ widths c.max_optima (evaluations s b xs ++ behind) in
      let (new, is) = ties_stay score_of same_evaluated c.max_optima b.tie_width (evaluations s b xs) behind fine_longer j (ap (λ (t : Kept Evaluated). t.best) (sym kept) ∙ e) in (
        new,
        ap (λ (t : Kept Evaluated). t.tied) kept ∙ is
            ∙ ap (λ (t : Kept Evaluated). ties_to score_of j.score b.tie_width t.tied ++ new) (roomy h ∙ sym (kept_is s b xs)),
      )

  -- ---- an exhausted run

  module _ (told : Exhausted q) where
    whole : (walk (panel_of s) b).ending ≡ exhausted
    whole = (exhausted_iff s b xs rooms none).0 told

    same : walk (panel_of s) c ≡ walk (panel_of s) b
    same = exhausted_stays (panel_of s) b c more.walk whole

    again : Exhausted r
    again = (exhausted_iff s c xs others nor).1 (ap (λ (w : Walked). w.ending) same ∙ whole)

    counted : SameCounters q r
    counted = rw (reply-of s b xs rooms none, reply-of s c xs others nor) (same_counters (panel_of s) b c xs same)

    alike : evaluations s c xs ≡ evaluations s b xs
    alike = ap (λ (w : Walked). evaluated w.walk.out xs) same

    best_same : (kept_by s c xs).best ≡ (kept_by s b xs).best
    best_same =
        ap (λ (t : Kept Evaluated). t.best) (kept_is s c xs)
        ∙ ap (λ (l : List Evaluated). (kept_of_all c l).best) alike
        ∙ best_alike score_of same_evaluated b.max_optima c.max_optima b.tie_width c.tie_width (evaluations s b xs)
        ∙ ap (λ (t : Kept Evaluated). t.best) (sym (kept_is s b xs))

    -- if the rule keeps the same of the evaluations with the larger max_optima, all is as it was
    as_it_was : kept_roomy (evaluations s b xs) ≡ kept_of_all b (evaluations s b xs) → AsItWas s b c xs q r
    as_it_was k =
        let kept : kept_by s c xs ≡ kept_by s b xs
        = kept_is s c xs ∙ ap (kept_of_all c) alike ∙ widths c.max_optima (evaluations s b xs) ∙ k ∙ sym (kept_is s b xs) in
        record { reply = reply-of s c xs others nor ∙ ap reply_of (same_search (panel_of s) b c xs same xs kept) ∙ sym (reply-of s b xs rooms none); kept = kept }

  settled_as : Exhausted q → Roomy b c q → AsItWas s b c xs q r
  settled_as told h = as_it_was told (roomy h)

  certified_as : q.status ≡ status_number Certified → AsItWas s b c xs q r
  certified_as e = as_it_was (inl e) (idle (certified_whole s b xs rooms none e))

  -- ---- no more handed over

  still_tied : handed_over s c ≡ handed_over s b → Agreed s b xs → (e : Evaluated) → Memᴰ e (kept_by s b xs).tied → Memᴰ e (kept_by s c xs).tied
  still_tied same agreed e i =
      let kept : kept_by s c xs ≡ kept_roomy (evaluations s b xs)
      = kept_is s c xs ∙ ap (λ (l : List Assignment). kept_of_all c (evaluated l xs)) same ∙ widths c.max_optima (evaluations s b xs) in
      subst (λ (k : Kept Evaluated). Memᴰ e k.tied) (sym kept)
      (room_loses_none score_of same_evaluated b.max_optima c.max_optima b.tie_width (evaluations s b xs) (λ d. same_tells d d refl) one more.optima e
      (subst (λ (k : Kept Evaluated). Memᴰ e k.tied) (kept_is s b xs) i))
    where
      one : (d f : Evaluated) → Memᴰ d (evaluations s b xs) → Memᴰ f (evaluations s b xs) → same_evaluated d f ≡ true → d ≡ f
      one d f k l q =
          let a : d.assignment ≡ f.assignment = same_told d f q in
          let x : d.score ≡ f.score = agreed f.assignment d.score f.score (Memᴰ.cast (λ z. record { assignment = sym a z; score = d.score }) k) l in
          (λ z. record { assignment = a z; score = x z })

  only_adds : OnlyAdds s b c xs q r
  only_adds =
      record {
        more = rest;
        handed = cut;
        incumbent = best_of_is;
        exhausted = again;
        counters = counted;
        no_more = λ told. ap (λ (w : Walked). w.walk.out) (same told);
        best = best_same;
        certified = certified_as;
        settled = settled_as;
        stay = stays_tied;
        none_lost = still_tied;
        marked = λ o e. discarded_after ∙ ap bit (marks o (marked_bit (kept_by s b xs).discarded (sym discarded_of ∙ e)));
      }

-- For the reader: A LARGER BUDGET ONLY ADDS
pub larger_only_adds : LargerOnlyAdds
larger_only_adds s b c xs rooms others first second more = only_adds s b c xs rooms others (unrefused s b xs rooms first) (unrefused s c xs others second) more

-- ---- scores that are not asked for

scored_more : (out : List Assignment) (xs more : List Float) → Matched FiniteScore out (take (length out) xs) → Matched FiniteScore out (take (length out) (xs ++ more))
scored_more [] xs more h = tt
scored_more (a ∷ out) [] more h = absurd h
scored_more (a ∷ out) (x ∷ xs) more h = (h.0, scored_more out xs more h.1)

evaluated_more : (out : List Assignment) (xs more : List Float) → Matched FiniteScore out (take (length out) xs) → evaluated out (xs ++ more) ≡ evaluated out xs
unfolding evaluated
evaluated_more [] xs more h = refl
evaluated_more (a ∷ out) [] more h = absurd h
evaluated_more (a ∷ out) (x ∷ xs) more h = ap (λ (e : List Evaluated). record { assignment = a; score = x } ∷ e) (evaluated_more out xs more h.1)

module _ (s : List ℕ) (b : SearchBudget) (xs more : List Float) (rooms : Rooms) (none : (search_refusal s b xs rooms).number ≡ 0) where
  fine : Matched FiniteScore (handed_over s b) (take (length (handed_over s b)) xs)
  fine = (none_refuses s b xs rooms none).scored

  same_refusal : search_refusal s b (xs ++ more) rooms ≡ search_refusal s b xs rooms
  unfolding search_refusal evaluation_refusal walked walk
  same_refusal =
      ap (λ (q : Refusal).
      at (panel_refusal s) 0 (at (budget_refusal b) 0 (at (rooms_refusal (panel_of s) b (length rooms.frames) (length rooms.kept) (length rooms.scores)) 0 q)))
      (none_refused 1 (handed_over s b) (xs ++ more) (scored_more (handed_over s b) xs more fine) ∙ sym (none_refused 1 (handed_over s b) xs fine))

  same_end : search (panel_of s) b (xs ++ more) ≡ search (panel_of s) b xs
  same_end =
      same_search (panel_of s) b b xs refl (xs ++ more)
      (kept_is s b (xs ++ more) ∙ ap (kept_of_all b) (evaluated_more (handed_over s b) xs more fine) ∙ sym (kept_is s b xs))

  answers_same : search_answer s b (xs ++ more) rooms ≡ search_answer s b xs rooms
  unfolding search_answer
  answers_same = ap₂ (λ (q : Refusal) (r : Searched). pick (eqb q.number 0) (reply_of r) (refused_search q)) same_refusal same_end

  rooms_same : search_rooms s b (xs ++ more) rooms ≡ search_rooms s b xs rooms
  unfolding search_rooms
  rooms_same = ap₂ (λ (q : Refusal) (r : Searched). rooms_after (panel_of s) b q.number r rooms) same_refusal same_end

-- For the reader: a score list that grows with the budget serves as one list
pub scores_behind : ScoresBehind
scores_behind s b xs more rooms first = let none = unrefused s b xs rooms first in (answers_same s b xs more rooms none, rooms_same s b xs more rooms none)
