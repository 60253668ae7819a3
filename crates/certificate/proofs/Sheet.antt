-- The sheet's sentence, from the definition of what is printed and the certificate.
use Prim.Native.Nat.{ℕ, ◌<◌}
use Prim.Native.String.{String}
use native.Mathlib.Omega.{arith}
use mathlib.Core.Path.{◌≡◌, refl, sym, ap, ◌∙◌, subst}
use mathlib.Core.Logic.{◌⊎◌, inl, inr, ⊎_elim}
use mathlib.Core.Bool.{Bool, true, false}
use mathlib.Core.List.{List, [], ◌∷◌, ◌++◌}
use lib.Dec.{eqb}
use lib.ListN.{length, take, drop, get_or}
use lib.Seq.{take-append_seam}
use lib.Ieee.{Float}
use borrow.Author.Tests.{eqb-true}
use Rattle.ground.specs.Texts.{bytes_of}
use Rattle.ground.specs.Lists.{pick}
use Rattle.image.specs.Panel.{panel_of}
use Rattle.evaluate.specs.declared.Refusal.{Refusal}
use Rattle.evaluate.specs.Segments.{Assignment}
use Rattle.evaluate.specs.Check.{over}
use Rattle.search.specs.declared.SearchBudget.{SearchBudget}
use Rattle.search.specs.declared.SearchReply.{SearchReply}
use Rattle.search.specs.declared.Tally.{Tally}
use Rattle.search.specs.declared.Status.{Status}
use Rattle.search.specs.declared.Status.TheVariants.{Certified, SupportIncomplete, WorkExhausted, EvaluationExhausted, FrontierExhausted}
use Rattle.search.specs.Run.{walk}
use Rattle.search.specs.Counters.{status_number, tally_of, no_tally}
use Rattle.search.specs.Keep.{Evaluated}
use Rattle.search.specs.Search.{walked, searched_as, search_from, search, status_after}
use Rattle.search.specs.Answers.{search_refusal, reply_of, search_answer}
use Rattle.search.specs.Sheet.{line, field, status_text, status_bytes, tally_lines, optima_text, foreign_text, foreign, routes_lines, incumbent_lines, sheet, refusal_line}
use Rattle.search.specs.Job.{panel_in, budget_in, scores_in, job_ok, program_rooms, job_refusal, printed}
use Rattle.certificate.specs.Terms.{Exhausted, kept_by}
use Rattle.certificate.specs.Sentence.{ScoredBy}
use Rattle.certificate.proofs.Reply.{reply-of}
use Rattle.certificate.proofs.Sentence.{Shown, shown, sentence}
use Rattle.certificate.specs.Sheet.{Begins, certified_line, incomplete_line, panel_for, walk_for, handed_for, Shows, Tells, SheetCertifies}

-- ---- first lines

-- a refusal has neither
not_certified : (q : Refusal) → Begins certified_line (refusal_line q) → ⊥
unfolding bytes_of refusal_line
not_certified q h = let z : ◌≡◌ {A = ℕ} 114 115 = ap (λ (l : List ℕ). get_or l 0 0) h.is in omega arith

not_incomplete : (q : Refusal) → Begins incomplete_line (refusal_line q) → ⊥
unfolding bytes_of refusal_line
not_incomplete q h = let z : ◌≡◌ {A = ℕ} 114 115 = ap (λ (l : List ℕ). get_or l 0 0) h.is in omega arith

says_certified : (st : Status) (more : List ℕ) → Begins certified_line (line (status_text ∷ status_bytes st ∷ []) ++ more) → st ≡ Certified
unfolding bytes_of
says_certified Certified more h = refl
says_certified SupportIncomplete more h = let z : ◌≡◌ {A = ℕ} 99 97 = ap (λ (l : List ℕ). get_or l 32 0) h.is in absurd (omega arith)
says_certified WorkExhausted more h = let z : ◌≡◌ {A = ℕ} 119 100 = ap (λ (l : List ℕ). get_or l 7 0) h.is in absurd (omega arith)
says_certified EvaluationExhausted more h = let z : ◌≡◌ {A = ℕ} 101 100 = ap (λ (l : List ℕ). get_or l 7 0) h.is in absurd (omega arith)
says_certified FrontierExhausted more h = let z : ◌≡◌ {A = ℕ} 102 100 = ap (λ (l : List ℕ). get_or l 7 0) h.is in absurd (omega arith)

says_incomplete : (st : Status) (more : List ℕ) → Begins incomplete_line (line (status_text ∷ status_bytes st ∷ []) ++ more) → st ≡ SupportIncomplete
unfolding bytes_of
says_incomplete Certified more h = let z : ◌≡◌ {A = ℕ} 97 99 = ap (λ (l : List ℕ). get_or l 32 0) h.is in absurd (omega arith)
says_incomplete SupportIncomplete more h = refl
says_incomplete WorkExhausted more h = let z : ◌≡◌ {A = ℕ} 119 100 = ap (λ (l : List ℕ). get_or l 7 0) h.is in absurd (omega arith)
says_incomplete EvaluationExhausted more h = let z : ◌≡◌ {A = ℕ} 101 100 = ap (λ (l : List ℕ). get_or l 7 0) h.is in absurd (omega arith)
says_incomplete FrontierExhausted more h = let z : ◌≡◌ {A = ℕ} 102 100 = ap (λ (l : List ℕ). get_or l 7 0) h.is in absurd (omega arith)

-- ---- a job that is not refused

module _ (job : List ℕ) where
  abbrev s : List ℕ
  s = panel_in job

  abbrev b : SearchBudget
  b = budget_in job

  abbrev xs : List Float
  xs = scores_in job

  -- either its sheet is printed, and its search is not refused, or a refusal is
  pub record Searched : Type 0 where
    pub is : printed job ≡ sheet (panel_of s) (search (panel_of s) b xs)
    pub none : (search_refusal s b xs program_rooms).number ≡ 0

  search_none : (job_refusal job).number ≡ 0 → (search_refusal s b xs program_rooms).number ≡ 0
  unfolding job_refusal
  search_none = go (job_ok job)
    where
      go : (c : Bool) → (pick c (search_refusal s b xs program_rooms) (record { number = 16; place = 0 })).number ≡ 0 → (search_refusal s b xs program_rooms).number ≡ 0
      go true h = h
      go false h = absurd (let z : ◌≡◌ {A = ℕ} 16 0 = h in omega arith)

  either : Searched ⊎ (printed job ≡ refusal_line (job_refusal job))
  unfolding printed
  either = go (eqb (job_refusal job).number 0) refl
    where
      go : (c : Bool) → eqb (job_refusal job).number 0 ≡ c → Searched ⊎ (pick c (sheet (panel_of s) (search (panel_of s) b xs)) (refusal_line (job_refusal job)) ≡ refusal_line (job_refusal job))
      go true e = inl (record { is = ap (λ (c : Bool). pick c (sheet (panel_of s) (search (panel_of s) b xs)) (refusal_line (job_refusal job))) e; none = search_none (eqb-true (job_refusal job).number 0 e) })
      go false e = inr refl

  -- ---- whose sheet says that the optimum is certified

  module _ (at : Searched) where
    abbrev st : Status
    st = status_after (search (panel_of s) b xs)

    abbrev more : List Evaluated → List ℕ
    more best = field optima_text (length (kept_by s b xs).tied) ++ incumbent_lines (panel_of s) best

    abbrev behind : List ℕ
    behind = tally_lines (search (panel_of s) b xs).state.tally ++ more (kept_by s b xs).best

    text_is : printed job ≡ line (status_text ∷ status_bytes st ∷ []) ++ behind
    unfolding sheet
    text_is = at.is

    cast : (words : String) → Begins words (printed job) → Begins words (line (status_text ∷ status_bytes st ∷ []) ++ behind)
    cast words h = record { rest = h.rest; is = sym text_is ∙ h.is }

    certified : Begins certified_line (printed job) → st ≡ Certified
    certified h = says_certified st behind (cast certified_line h)

    incomplete : Begins incomplete_line (printed job) → st ≡ SupportIncomplete
    incomplete h = says_incomplete st behind (cast incomplete_line h)

    answer : search_answer s b xs program_rooms ≡ reply_of (search (panel_of s) b xs)
    answer = reply-of s b xs program_rooms at.none

    passed : (search_answer s b xs program_rooms).refusal ≡ 0
    unfolding reply_of
    passed = ap (λ (r : SearchReply). r.refusal) answer

    status-is : (search_answer s b xs program_rooms).status ≡ status_number st
    unfolding reply_of
    status-is = ap (λ (r : SearchReply). r.status) answer

    optima_are : (search_answer s b xs program_rooms).optima ≡ length (kept_by s b xs).tied
    unfolding reply_of
    optima_are = ap (λ (r : SearchReply). r.optima) answer

    tally_is : (search (panel_of s) b xs).state.tally ≡ tally_of (panel_for job) no_tally (walk_for job)
    unfolding search search_from searched_as walked walk
    tally_is = refl

    module _ (first : Begins certified_line (printed job) ⊎ Begins incomplete_line (printed job)) where
      told : Exhausted (search_answer s b xs program_rooms)
      told = ⊎_elim (λ h. inl (status-is ∙ ap status_number (certified h))) (λ h. inr (status-is ∙ ap status_number (incomplete h))) first

      shows : 0 < length (panel_for job).families → (f : Assignment → Float) → ScoredBy f (handed_for job) (scores_in job) → Shows f job (printed job)
      shows family f by-f = go (shown s b xs program_rooms passed told family f by-f)
        where
          go : Shown f s b xs program_rooms → Shows f job (printed job)
          go w =
              record {
                incumbent = i;
                tied = l;
                best = w.found.best;
                complete = λ h. w.found.complete (status-is ∙ ap status_number (certified h));
                status = st;
                lines = text_is ∙ ap (λ (t : List ℕ). line (status_text ∷ status_bytes st ∷ []) ++ t) (ap (λ (c : Tally). tally_lines c ++ more (kept_by s b xs).best) tally_is ∙ ap (λ (t : List ℕ). tally_lines counters ++ t) (optima ∙ incumbent));
              }
            where
              i : Assignment
              i = w.found.incumbent

              l : List Assignment
              l = w.found.tied

              counters : Tally
              counters = tally_of (panel_for job) no_tally (walk_for job)

              optima : more (kept_by s b xs).best ≡ field optima_text (length l) ++ incumbent_lines (panel_of s) (kept_by s b xs).best
              optima = ap (λ (n : ℕ). field optima_text n ++ incumbent_lines (panel_of s) (kept_by s b xs).best) (sym optima_are ∙ w.found.behind.many)

              incumbent : field optima_text (length l) ++ incumbent_lines (panel_of s) (kept_by s b xs).best
                  ≡ field optima_text (length l) ++ (field foreign_text (foreign (panel_of s) i) ++ routes_lines 0 i.routes)
              incumbent =
                  ap (λ (t : List Evaluated). field optima_text (length l) ++ incumbent_lines (panel_of s) t) w.is
                  ∙ ap (λ (a : Assignment). field optima_text (length l) ++ (field foreign_text (foreign (panel_of s) a) ++ routes_lines 0 a.routes)) w.same

      tells : Tells job (printed job)
      tells =
          let c = sentence s b xs program_rooms passed in
          record { ends = c.ends; enough = λ u. (c.when u).0 told; evaluated = c.evaluated told; shows = shows }

-- THE SHEET'S SENTENCE
pub sheet_sentence : (job : List ℕ) → SheetCertifies job (printed job)
sheet_sentence job first = go (either job)
  where
    go : Searched job ⊎ (printed job ≡ refusal_line (job_refusal job)) → Tells job (printed job)
    go (inl at) = tells job at first
    go (inr e) =
        absurd (⊎_elim (λ h. not_certified (job_refusal job) (record { rest = h.rest; is = sym e ∙ h.is }))
        (λ h. not_incomplete (job_refusal job) (record { rest = h.rest; is = sym e ∙ h.is })) first)

-- of the bytes put out, as many as told
put_out : (l room : List ℕ) → take (length l) (over l room) ≡ l
put_out l room = take-append_seam l (drop (length l) room)

pub sheet-of : (job room after : List ℕ) (r : ℕ) → after ≡ over (printed job) room → r ≡ length (printed job) → SheetCertifies job (take r after)
sheet-of job room after r ea er = subst (SheetCertifies job) (sym (ap (λ (l : List ℕ). take r l) ea ∙ ap (λ (n : ℕ). take n (over (printed job) room)) er ∙ put_out (printed job) room)) (sheet_sentence job)
