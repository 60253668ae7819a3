-- A search under way, from what is left of its walk; nothing here is part of a public promise.
use Rattle.std.specs.Prelude.{ℕ, suc, ◌+◌, ◌*◌, ◌≤◌, ◌<◌, max, ◌≡◌, true, List, [], ◌++◌, length, take, drop, get_or, Float, ltb, eqb, Some, Result, Ok, Err}
use Rattle.std.specs.Result.{IfOk, IfErr}
use Rattle.std.specs.Float.{nan}
use Rattle.std.specs.Float.Ieee.Scale.{finite}
use Rattle.ground.specs.Lists.{pick, one_more_if}
use Rattle.image.specs.declared.Header.{Header}
use Rattle.image.specs.Panel.{Panel}
use Rattle.evaluate.specs.declared.Refusal.{Refusal}
use Rattle.evaluate.specs.Segments.{Assignment}
use Rattle.evaluate.specs.Words.{bit, encode}
use Rattle.evaluate.specs.Check.{over}
use Rattle.evaluate.specs.Properties.{Each}
use Rattle.search.specs.declared.SearchBudget.{SearchBudget}
use Rattle.search.specs.declared.Tally.{Tally}
use Rattle.search.specs.declared.SearchReply.{SearchReply}
use Rattle.search.specs.Run.{Walked, walk_from}
use Rattle.search.specs.Counters.{switches_of, has_switch, mixes_lanes, mixes_identities, status_of, status_number}
use Rattle.search.specs.Keep.{Kept, Evaluated, score_of, same_evaluated, keep_one, scores_refusal}
use Rattle.search.specs.Search.{State, Searched, searched_as, search, evaluation_refusal, fresh}
use Rattle.evaluate.specs.Refusals.{no_refusal, at}
use Rattle.search.specs.Budget.{budget_refusal}
use Rattle.search.specs.Answers.{Rooms, reply_of, refused_search, rooms_after}
use Rattle.search.specs.Rooms.{frame_width, stack_words, pending_words, slot_width, rooms_refusal}
use Rattle.budget.specs.declared.BudgetRefusal.{BudgetRefusal}
use Rattle.budget.specs.Inner.{refusal_of as budget_number}
use Rattle.frames.specs.Inner.{frame_of, stack_of}
use Rattle.walks.specs.declared.Standing.{Standing}
use Rattle.walks.specs.Inner.{ending_of, used_by, seed_walk, pending_at}
use Rattle.walks.specs.Inner.{Kept as Room}
use Rattle.kept.specs.declared.Holding.{Holding}
use Rattle.kept.specs.Inner.{besides, Recorded, Keeps, Left}
use Rattle.marks.specs.declared.Marks.{Marks}
use Rattle.marks.specs.Inner.{marks_of}
use Rattle.searching.specs.declared.ScoreRefusal.{ScoreRefusal}
use Rattle.searching.specs.declared.ScoreRefusal.TheVariants.{Missing, Unfit}
use Rattle.searching.specs.declared.Unscored.{Unscored}
use Rattle.searching.specs.declared.Counted.{Counted}
use Rattle.searching.specs.declared.Account.{Account}
use Rattle.searching.specs.declared.Found.{Found}
use Rattle.searching.specs.declared.Seeded.{Seeded}

-- ---- a refused score

abbrev pub number_of : ScoreRefusal → ℕ
number_of Missing = 14
number_of Unfit = 15

-- its number, with its place
abbrev pub as_refusal : Unscored → Refusal
as_refusal e = record { number = number_of e.refusal; place = e.place }

-- the refusal, or none
abbrev pub refusal_in : {A : Type 0} → Result A Unscored → Refusal
refusal_in (Ok a) = no_refusal
refusal_in (Err e) = as_refusal e

-- ---- counters

abbrev pub none_counted : Counted
none_counted = record { evaluations = 0; non_native = 0; mixed = 0; mixed_identity = 0; switches = 0 }

-- one evaluation more
abbrev pub counted_with : Panel → Counted → Assignment → Counted
counted_with p c a =
    record {
      evaluations = c.evaluations + 1;
      non_native = one_more_if (has_switch a) c.non_native;
      mixed = one_more_if (mixes_lanes a) c.mixed;
      mixed_identity = one_more_if (mixes_identities p a) c.mixed_identity;
      switches = max c.switches (switches_of a);
    }

-- the counters of a walk, and of what was evaluated
abbrev pub tallied : Tally → Counted → Tally
tallied t c =
    record {
      work = t.work;
      evaluations = t.evaluations;
      natives = t.natives;
      donors = t.donors;
      non_native = c.non_native;
      mixed = c.mixed;
      mixed_identity = c.mixed_identity;
      switches = c.switches;
      families = t.families;
    }

-- ---- what is left gives the whole

-- a search that has counted and kept this
abbrev pub state_with : Counted → Kept Evaluated → State
state_with c k =
    record {
      tally = record { work = 0; evaluations = c.evaluations; natives = 0; donors = 0; non_native = c.non_native; mixed = c.mixed; mixed_identity = c.mixed_identity; switches = c.switches; families = 0 };
      stack = [];
      kept = k;
    }

-- what it comes to, where this is left of its walk
unfoldable pub outcome_of : Panel → SearchBudget → List Float → Counted → Kept Evaluated → Walked → Searched
outcome_of p b xs c k r = searched_as p b xs (state_with c k) r

-- 14 or 15, where n were evaluated and this is left of the walk
unfoldable pub refusal_of : List Float → ℕ → Walked → Refusal
refusal_of xs n r = scores_refusal (suc n) r.walk.out (drop n xs)

-- an assignment with the score that belongs to it, where n were evaluated before
abbrev pub scored_by : List Float → ℕ → Assignment → Evaluated
scored_by xs n a = record { assignment = a; score = get_or xs n nan }

abbrev pub kept_with : SearchBudget → Kept Evaluated → Evaluated → Kept Evaluated
kept_with b k e = keep_one score_of same_evaluated b.max_optima b.tie_width k e

-- ---- one evaluation

-- 14 or 15 of the evaluation after n others, or 0
unfoldable pub score_refusal : List Float → ℕ → ℕ
score_refusal xs n = pick (ltb n (length xs)) (pick (finite (get_or xs n nan)) 0 15) 14

-- with its place
abbrev pub score_refused : List Float → ℕ → Refusal
score_refused xs n = at (score_refusal xs n) (n + 1) no_refusal

-- counted by its marks
abbrev pub marked_with : Counted → Marks → Counted
marked_with c m =
    record {
      evaluations = c.evaluations + 1;
      non_native = one_more_if (ltb 0 m.switches) c.non_native;
      mixed = one_more_if m.lanes c.mixed;
      mixed_identity = one_more_if m.identities c.mixed_identity;
      switches = max c.switches m.switches;
    }

-- no counter is over the evaluations, and another evaluation can be counted
pub record Few (c : Counted) : Type 0 where
  pub small : c.evaluations < 0xffff_ffff_ffff_ffff
  pub switched : c.non_native ≤ c.evaluations
  pub lanes : c.mixed ≤ c.evaluations
  pub identities : c.mixed_identity ≤ c.evaluations

-- the slot begins with an assignment, whose marks these are
pub record Marked (p : Panel) (a : Assignment) (xs ys : List ℕ) (r : Marks) : Type 0 where
  pub room : ys ≡ over (encode a) xs
  pub marks : r ≡ marks_of p a

pub record Settled (b : SearchBudget) (v : ℕ) (m : Marks) (score : Float) (from : Account) (xs : List ℕ) (ss : List Float) (ys : List ℕ) (ts : List Float) (r : Account) : Type 0 where
  pub held : Holding
  pub holds : r.held ≡ Some held
  pub recorded : Recorded v b.max_optima b.tie_width score from.held xs ss ys ts held
  pub counted : r.counted ≡ marked_with from.counted m

-- whatever the rooms held, they hold it with one more evaluation
pub record Entered (p : Panel) (b : SearchBudget) (v : ℕ) (score : Float) (a : Assignment) (from : Account) (xs : List ℕ) (ss : List Float) (ys : List ℕ) (ts : List Float) (r : Account) : Type 0 where
  pub keeps : (k : Kept Evaluated) → Keeps v b.max_optima k from.held xs ss
      → Keeps v b.max_optima (kept_with b k (record { assignment = a; score = score })) r.held ys ts
  pub left : (k : Kept Evaluated) → Keeps v b.max_optima k from.held xs ss → Left v b.max_optima xs ss ys ts
  pub counted : r.counted ≡ counted_with p from.counted a

-- ---- under way

abbrev pub Fitting : ℕ → Assignment → Type 0
Fitting v a = length (encode a) ≤ v

-- a search with this left of its walk comes to what the whole comes to
pub record Onward (p : Panel) (b : SearchBudget) (v : ℕ) (xs : List Float) (r : Walked) (account : Account) (ks : List ℕ) (ss : List Float) : Type 0 where
  pub kept : Kept Evaluated
  pub keeps : Keeps v b.max_optima kept account.held ks ss
  pub same : outcome_of p b xs account.counted kept r ≡ search p b xs
  pub refused : refusal_of xs account.counted.evaluations r ≡ evaluation_refusal p b xs fresh
  pub fits : Each (Fitting v) r.walk.out
  pub listed : account.counted.evaluations ≤ length xs
  pub switched : account.counted.non_native ≤ account.counted.evaluations
  pub lanes : account.counted.mixed ≤ account.counted.evaluations
  pub identities : account.counted.mixed_identity ≤ account.counted.evaluations

-- a search that was not refused
pub record Told (p : Panel) (b : SearchBudget) (v : ℕ) (xs : List Float) (frames ks : List ℕ) (ss : List Float) (r : Found) : Type 0 where
  pub kept : Kept Evaluated
  pub keeps : Keeps v b.max_optima kept r.account.held ks ss
  pub outcome : search p b xs
      ≡ record { ending = ending_of r.stop (frame_of frames r.at.depth).place; state = record { tally = tallied r.at.tally r.account.counted; stack = stack_of frames r.at.depth; kept = kept } }
  pub words : take (used_by r.stop r.at.depth * frame_width) frames ≡ stack_words (stack_of frames r.at.depth) ++ pending_words (ending_of r.stop (frame_of frames r.at.depth).place)
  pub deep : r.at.depth ≤ b.max_frontier

pub record Ended (p : Panel) (b : SearchBudget) (v : ℕ) (xs : List Float) (fs ks : List ℕ) (ss : List Float) (fs' ks' : List ℕ) (ss' : List Float) (r : Result Found Unscored) : Type 0 where
  pub refused : refusal_in r ≡ evaluation_refusal p b xs fresh
  pub told : IfOk r (Told p b v xs fs' ks' ss')
  pub left : Left v b.max_optima ks ss ks' ss'
  pub frames : Room b fs fs'

-- the counters after seeding
abbrev pub seed_tally : ℕ → Tally
seed_tally n = record { work = n; evaluations = n; natives = n; donors = 0; non_native = 0; mixed = 0; mixed_identity = 0; switches = 0; families = 0 }

-- a walk over the first family's root, or over no frame
abbrev pub standing_with : ℕ → ℕ → Standing
standing_with n d = record { tally = seed_tally n; depth = d; start = 0; clear = true }

-- so many natives are evaluated, and no other is to come
pub record Sowed (p : Panel) (h : Header) (b : SearchBudget) (v : ℕ) (xs : List Float) (ks : List ℕ) (ss : List Float) (r : Seeded) : Type 0 where
  pub onward : Onward p b v xs (walk_from p b [] (seed_walk r.natives)) r.account ks ss
  pub few : r.natives ≤ h.families
  pub over : r.natives < h.families → r.natives < b.max_evaluations → b.max_work ≤ r.natives
  pub worked : r.natives ≤ b.max_work

-- seeding ended: refused, or with so many natives
pub record Sown (p : Panel) (h : Header) (b : SearchBudget) (v : ℕ) (xs : List Float) (ks : List ℕ) (ss : List Float) (ks' : List ℕ) (ss' : List Float) (r : Result Seeded Unscored) : Type 0 where
  pub refused : IfErr r (λ e. as_refusal e ≡ evaluation_refusal p b xs fresh)
  pub sowed : IfOk r (Sowed p h b v xs ks' ss')
  pub left : Left v b.max_optima ks ss ks' ss'

-- the frame room is as long as a walk needs
pub record Framable (b : SearchBudget) (fs : List ℕ) : Type 0 where
  pub some : 0 < b.max_frontier
  pub few : b.max_frontier ≤ 1024
  pub room : (b.max_frontier + 1) * frame_width ≤ length fs

-- the kept rooms are as long as a search needs, whose slots have v words
pub record Lent (b : SearchBudget) (v : ℕ) (ks : List ℕ) (ss : List Float) : Type 0 where
  pub room : b.max_optima * v + v + v ≤ length ks
  pub scores : b.max_optima < length ss

-- ---- the answer

-- the answer of a search that was not refused, as it was found
abbrev pub replied_as : Found → SearchReply
replied_as r =
    record {
      refusal = 0;
      place = 0;
      status = status_number (status_of r.stop (besides r.account.held).discarded);
      work = r.at.tally.work;
      evaluations = r.at.tally.evaluations;
      natives = r.at.tally.natives;
      donors = r.at.tally.donors;
      non_native = r.account.counted.non_native;
      mixed = r.account.counted.mixed;
      mixed_identity = r.account.counted.mixed_identity;
      switches = r.account.counted.switches;
      families = r.at.tally.families;
      optima = (besides r.account.held).count;
      discarded = bit (besides r.account.held).discarded;
      frames = r.at.depth;
      pending = bit (pending_at r.stop);
    }

-- the answer and the rooms at exit, where panel, budget and rooms were not refused
unfoldable pub answer_in : Panel → SearchBudget → List Float → SearchReply
answer_in p b xs = pick (eqb (evaluation_refusal p b xs fresh).number 0) (reply_of (search p b xs)) (refused_search (evaluation_refusal p b xs fresh))

unfoldable pub rooms_in : Panel → SearchBudget → List Float → Rooms → Rooms
rooms_in p b xs rooms = rooms_after p b (evaluation_refusal p b xs fresh).number (search p b xs) rooms

-- budgets within their bounds, and rooms that are long enough for slots of v words
pub record Fits (p : Panel) (b : SearchBudget) (frames kept scores v : ℕ) : Type 0 where
  pub width : v ≡ slot_width p b
  pub some : 0 < b.max_frontier
  pub few : b.max_frontier ≤ 1024
  pub framed : (b.max_frontier + 1) * frame_width ≤ frames
  pub held : b.max_optima * v + v + v ≤ kept
  pub scored : b.max_optima < scores

-- 11 to 13, or the words of a slot
pub record Checked (p : Panel) (b : SearchBudget) (frames kept scores : ℕ) (r : Result ℕ BudgetRefusal) : Type 0 where
  pub refused : record { number = budget_number r; place = 0 } ≡ at (budget_refusal b) 0 (at (rooms_refusal p b frames kept scores) 0 no_refusal)
  pub fits : IfOk r (Fits p b frames kept scores)

-- 11, 12, 13, then 14 and 15: what the panel does not refuse
unfoldable pub refusal_on : Panel → SearchBudget → List Float → Rooms → Refusal
refusal_on p b xs rooms =
    at (budget_refusal b) 0
    (at (rooms_refusal p b (length rooms.frames) (length rooms.kept) (length rooms.scores)) 0
    (evaluation_refusal p b xs fresh))

unfoldable pub answer_on : Panel → SearchBudget → List Float → Rooms → SearchReply
answer_on p b xs rooms = pick (eqb (refusal_on p b xs rooms).number 0) (reply_of (search p b xs)) (refused_search (refusal_on p b xs rooms))

unfoldable pub rooms_on : Panel → SearchBudget → List Float → Rooms → Rooms
rooms_on p b xs rooms = rooms_after p b (refusal_on p b xs rooms).number (search p b xs) rooms
