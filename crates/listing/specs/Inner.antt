-- The listing's evaluation, one at a time; nothing here is part of a public promise.
use Rattle.std.specs.Prelude.{ℕ, ◌+◌, ◌-◌, ◌*◌, ◌≤◌, ◌<◌, ◌≡◌, Bool, true, false, List, [], ◌∷◌, ◌++◌, map, eqb, length, take, drop, replicate, Result, IfOk}
use Rattle.ground.specs.Lists.{pick}
use Rattle.image.specs.declared.Header.{Header}
use Rattle.image.specs.Panel.{Panel}
use Rattle.evaluate.specs.declared.Refusal.{Refusal}
use Rattle.evaluate.specs.Refusals.{no_refusal, at}
use Rattle.evaluate.specs.Segments.{Assignment, flat}
use Rattle.evaluate.specs.Words.{encode}
use Rattle.evaluate.specs.Check.{over}
use Rattle.evaluate.specs.Properties.{Each}
use Rattle.search.specs.declared.SearchBudget.{SearchBudget}
use Rattle.search.specs.declared.Tally.{Tally}
use Rattle.search.specs.declared.ListReply.{ListReply}
use Rattle.search.specs.Budget.{budget_refusal}
use Rattle.budget.specs.declared.BudgetRefusal.{BudgetRefusal}
use Rattle.budget.specs.Inner.{refusal_of}
use Rattle.search.specs.Walk.{Frame}
use Rattle.search.specs.Run.{Ending, Walked, walk_from, walk}
use Rattle.search.specs.Rooms.{frame_width, stack_words, pending_words, frames_left, slot_width, list_rooms_refusal}
use Rattle.search.specs.Answers.{ListRooms, fitting, written, refused_list, list_reply_of, listed_in}
use Rattle.frames.specs.Inner.{frame_of, stack_of}
use Rattle.walks.specs.Inner.{ending_of, used_by, seed_walk}
use Rattle.walks.specs.Inner.{Kept as Room}
use Rattle.listing.specs.declared.Listing.{Listing}
use Rattle.listing.specs.declared.Listed.{Listed}
use Rattle.listing.specs.declared.Seeded.{Seeded}

-- what is still to be listed of the evaluations to come, from where a listing stands, in a room of this length
abbrev pub to_list : ℕ → Bool → ℕ → ℕ → List (List ℕ) → List (List ℕ)
to_list room true skip words l = []
to_list room false skip words l = fitting (room - words) (drop skip l)

abbrev pub lists_from : List ℕ → Listing → List (List ℕ) → List (List ℕ)
lists_from out l todo = to_list (length out) l.full l.skip l.words todo

-- out, where a listing stands, with these words listed behind those that it has
abbrev pub filled_with : List ℕ → Listing → List (List ℕ) → List ℕ
filled_with out l ws = take l.words out ++ (flat ws ++ drop (l.words + length (flat ws)) out)

-- an evaluation of these words: what was to be listed of it and all later ones is what was written of it and what is still to be listed
pub record Handed (ws : List ℕ) (xs ys : List ℕ) (l r : Listing) : Type 0 where
  pub room : (todo : List (List ℕ)) → filled_with xs l (lists_from xs l (ws ∷ todo)) ≡ filled_with ys r (lists_from ys r todo)
  pub written : (todo : List (List ℕ)) → l.written + length (lists_from xs l (ws ∷ todo)) ≡ r.written + length (lists_from ys r todo)
  pub words : (todo : List (List ℕ)) → l.words + length (flat (lists_from xs l (ws ∷ todo))) ≡ r.words + length (flat (lists_from ys r todo))
  pub long : length ys ≡ length xs
  pub within : r.words ≤ length ys
  pub few : r.written ≤ r.words

-- ---- what is left gives the whole

-- what a listing comes to: how its walk ends, and what it wrote
pub record Outcome : Type 0 where
  pub ending : Ending
  pub stack : List Frame
  pub evaluations : ℕ
  pub room : List ℕ
  pub written : ℕ
  pub words : ℕ

-- from where it stands, with this left of its walk
unfoldable pub comes_to : Walked → Listing → List ℕ → Outcome
comes_to r l out =
    record {
      ending = r.ending;
      stack = r.walk.stack;
      evaluations = r.walk.evaluations;
      room = filled_with out l (lists_from out l (map encode r.walk.out));
      written = l.written + length (lists_from out l (map encode r.walk.out));
      words = l.words + length (flat (lists_from out l (map encode r.walk.out)));
    }

-- the first listing
abbrev pub none_listed : ℕ → Listing
none_listed from = record { skip = from; full = false; written = 0; words = 0 }

-- the counters after so many natives
abbrev pub seed_tally : ℕ → Tally
seed_tally n = record { work = n; evaluations = n; natives = n; donors = 0; non_native = 0; mixed = 0; mixed_identity = 0; switches = 0; families = 0 }

-- ---- under way

abbrev pub Fitting : ℕ → Assignment → Type 0
Fitting v a = length (encode a) ≤ v

-- a listing can go on: what is left fits the slot, and what is written stands in out
pub record Onward (v : ℕ) (r : Walked) (l : Listing) (slot out : List ℕ) : Type 0 where
  pub fits : Each (Fitting v) r.walk.out
  pub room : v ≤ length slot
  pub within : l.words ≤ length out
  pub few : l.written ≤ l.words

-- the slot past its v words stays
pub record Spared (v : ℕ) (xs ys : List ℕ) : Type 0 where
  pub long : length ys ≡ length xs
  pub rest : drop v ys ≡ drop v xs

-- an evaluation: its words in the slot, and handed over
pub record Entered (a : Assignment) (xs out ys out' : List ℕ) (l r : Listing) : Type 0 where
  pub slot : ys ≡ over (encode a) xs
  pub handed : Handed (encode a) out out' l r

-- a listing that ended, of which this walk was left
pub record Ended (b : SearchBudget) (v : ℕ) (w : Walked) (l : Listing) (fs xs out fs' xs' out' : List ℕ) (r : Listed) : Type 0 where
  pub outcome : comes_to w l out
      ≡ record {
        ending = ending_of r.stop (frame_of fs' r.at.depth).place;
        stack = stack_of fs' r.at.depth;
        evaluations = r.at.tally.evaluations;
        room = out';
        written = r.listing.written;
        words = r.listing.words;
      }
  pub words : take (used_by r.stop r.at.depth * frame_width) fs' ≡ stack_words (stack_of fs' r.at.depth) ++ pending_words (ending_of r.stop (frame_of fs' r.at.depth).place)
  pub deep : r.at.depth ≤ b.max_frontier
  pub frames : Room b fs fs'
  pub slot : Spared v xs xs'
  pub long : length out' ≡ length out

-- seeding ended with so many natives evaluated, and no other is to come
pub record Sown (p : Panel) (h : Header) (b : SearchBudget) (v : ℕ) (l : Listing) (xs out xs' out' : List ℕ) (r : Seeded) : Type 0 where
  pub same : comes_to (walk p b) l out ≡ comes_to (walk_from p b [] (seed_walk r.natives)) r.listing out'
  pub onward : Onward v (walk_from p b [] (seed_walk r.natives)) r.listing xs' out'
  pub few : r.natives ≤ h.families
  pub over : r.natives < h.families → r.natives < b.max_evaluations → b.max_work ≤ r.natives
  pub worked : r.natives ≤ b.max_work
  pub slot : Spared v xs xs'
  pub long : length out' ≡ length out

-- ---- the answer

-- a budget within its bounds, and a frame room that is long enough
pub record FrameRoom (b : SearchBudget) (frames : List ℕ) : Type 0 where
  pub some : 0 < b.max_frontier
  pub small : b.max_frontier ≤ 1024
  pub room : (b.max_frontier + 1) * frame_width ≤ length frames

-- the listing of an accepted panel within its budgets and rooms
pub record Told (p : Panel) (b : SearchBudget) (from : ℕ) (fs xs out fs' xs' out' : List ℕ) (r : ListReply) : Type 0 where
  pub answer : r ≡ list_reply_of (walk p b) (written from (length out) (walk p b).walk.out)
  pub frames : fs' ≡ over (frames_left b (walk p b).ending (walk p b).walk.stack) fs
  pub slot : xs' ≡ over (replicate (slot_width p b) 0) xs
  pub room : out' ≡ over (flat (written from (length out) (walk p b).walk.out)) out

-- 11 to 13
abbrev pub list_panel_refusal : Panel → SearchBudget → ℕ → ℕ → Refusal
list_panel_refusal p b frames slot = at (budget_refusal b) 0 (at (list_rooms_refusal p b frames slot) 0 no_refusal)

-- budgets within their bounds, and rooms that are long enough for slots of v words
pub record Fits (p : Panel) (b : SearchBudget) (frames words v : ℕ) : Type 0 where
  pub width : v ≡ slot_width p b
  pub some : 0 < b.max_frontier
  pub small : b.max_frontier ≤ 1024
  pub room : (b.max_frontier + 1) * frame_width ≤ frames
  pub slot : v ≤ words

-- 11 to 13, or the words of a slot
pub record Checked (p : Panel) (b : SearchBudget) (frames words : ℕ) (r : Result ℕ BudgetRefusal) : Type 0 where
  pub refused : record { number = refusal_of r; place = 0 } ≡ list_panel_refusal p b frames words
  pub fits : IfOk r (Fits p b frames words)

-- the answer that goes with a refusal, and what it leaves of the rooms
pub record Replied (p : Panel) (b : SearchBudget) (from : ℕ) (refusal : Refusal) (before after : ListRooms) (r : ListReply) : Type 0 where
  pub answer : r ≡ pick (eqb refusal.number 0) (list_reply_of (walk p b) (written from (length before.out) (walk p b).walk.out)) (refused_list refusal)
  pub rooms : after ≡ listed_in p b refusal.number from (walk p b) before
