-- The search under way: from one evaluation to the next, and its ends.
use Prim.Native.Nat.{ℕ, ◌+◌, ◌-◌, ◌≤◌, ◌<◌}
use native.Mathlib.Omega.{arith}
use mathlib.Core.Path.{◌≡◌, refl, sym, ap, subst, ◌∙◌}
use mathlib.Core.Bool.{Bool, true, false}
use mathlib.Core.List.{List}
use lib.Dec.{ltb}
use lib.ListN.{length, get_or}
use lib.Ieee.{Float, nan}
use lib.Ieee.Scale.{finite}
use borrow.Author.Tests.{ltb-true, ltb-false}
use Rattle.ground.specs.Lists.{pick, one_more_if}
use Rattle.image.specs.declared.Header.{Header}
use Rattle.image.specs.Panel.{Panel, panel_of}
use Rattle.evaluate.specs.declared.Segment.{Segment}
use Rattle.std.specs.declared.result.Result.TheVariants.{Ok, Err}
use Rattle.evaluate.specs.declared.Refusal.{Refusal}
use Rattle.evaluate.specs.Refusals.{no_refusal, at}
use Rattle.evaluate.specs.Segments.{Assignment}
use Rattle.search.specs.declared.SearchBudget.{SearchBudget}
use Rattle.search.specs.declared.Stop.{Stop}
use Rattle.search.specs.Run.{Walked}
use Rattle.search.specs.Counters.{has_switch, mixes_lanes, mixes_identities}
use Rattle.search.specs.Search.{evaluation_refusal, fresh}
use Rattle.kept.specs.Inner.{Left}
use Rattle.kept.proofs.Rooms.{left_on}
use Rattle.frames.specs.Inner.{frame_of, stack_of}
use Rattle.walks.specs.declared.Standing.{Standing}
use Rattle.walks.specs.declared.Halt.TheVariants.{Stopped, Due}
use Rattle.walks.specs.declared.Pause.{Pause}
use Rattle.walks.specs.Inner.{walk_of, to_go, before, ending_of, assigned, halted_as, Walking, Paused}
use Rattle.walks.specs.Inner.{Kept as Room}
use Rattle.searching.specs.declared.ScoreRefusal.{ScoreRefusal}
use Rattle.searching.specs.declared.ScoreRefusal.TheVariants.{Missing, Unfit}
use Rattle.searching.specs.declared.Unscored.{Unscored}
use Rattle.searching.specs.declared.Counted.{Counted}
use Rattle.searching.specs.declared.Account.{Account}
use Rattle.searching.specs.Inner.{number_of, as_refusal, score_refusal, score_refused, outcome_of, refusal_of, scored_by, kept_with, Entered, Onward, Ended}
use Rattle.searching.proofs.Rest.{outcome_one, refusal_one, refusal_unfit, refusal_none, outcome_end, refusal_end}

-- ---- the score

-- what the score's refusal tells
pub data Scored (xs : List Float) (n : ℕ) : Refusal → Type 0 where
  there : n < length xs → finite (get_or xs n nan) ≡ true → Scored xs n no_refusal
  unfit : n < length xs → finite (get_or xs n nan) ≡ false → Scored xs n (record { number = 15; place = n + 1 })
  missing : length xs ≤ n → Scored xs n (record { number = 14; place = n + 1 })

scored : (xs : List Float) (n : ℕ) → Scored xs n (score_refused xs n)
unfolding score_refusal
scored xs n = go (ltb n (length xs)) refl (finite (get_or xs n nan)) refl
  where
    go : (t : Bool) → ltb n (length xs) ≡ t → (u : Bool) → finite (get_or xs n nan) ≡ u → Scored xs n (at (pick t (pick u 0 15) 14) (n + 1) no_refusal)
    go true e true f = there (ltb-true n (length xs) e) f
    go true e false f = unfit (ltb-true n (length xs) e) f
    go false e u f = missing (ltb-false n (length xs) e)

pub score_there : (xs : List Float) (n : ℕ) → no_refusal ≡ score_refused xs n → (n < length xs) × (finite (get_or xs n nan) ≡ true)
score_there xs n e = go (score_refused xs n) (scored xs n) (ap (λ (q : Refusal). q.number) e)
  where
    go : (q : Refusal) → Scored xs n q → 0 ≡ q.number → (n < length xs) × (finite (get_or xs n nan) ≡ true)
    go _ (there l f) z = (l, f)
    go _ (unfit l f) z = absurd (omega arith)
    go _ (missing l) z = absurd (omega arith)

pub numbered : (e : Unscored) → 0 < (as_refusal e).number
numbered e = go e.refusal
  where
    go : (r : ScoreRefusal) → 0 < number_of r
    go Missing = omega arith
    go Unfit = omega arith

-- ---- one evaluation further

more_if : (t : Bool) (m n : ℕ) → m ≤ n → one_more_if t m ≤ n + 1
more_if true m n h = omega arith
more_if false m n h = omega arith

module _ (p : Panel) (b : SearchBudget) (v : ℕ) (xs : List Float) (a : Assignment) (r : Walked) {from : Account} {ks : List ℕ} {ss : List Float} (o : Onward p b v xs (before a r) from ks ss) where
  -- its score has a refusal: that is the search's
  pub onward_refused : (e : Unscored) → as_refusal e ≡ score_refused xs from.counted.evaluations → as_refusal e ≡ evaluation_refusal p b xs fresh
  onward_refused e k = go (score_refused xs from.counted.evaluations) (scored xs from.counted.evaluations) k
    where
      go : (q : Refusal) → Scored xs from.counted.evaluations q → as_refusal e ≡ q → as_refusal e ≡ evaluation_refusal p b xs fresh
      go _ (there l f) k = absurd (let z = ap (λ (q : Refusal). q.number) k in let y = numbered e in omega arith)
      go _ (unfit l f) k = k ∙ sym (refusal_unfit p b xs from.counted o.kept a r l f) ∙ o.refused
      go _ (missing l) k = k ∙ sym (refusal_none xs from.counted.evaluations a r l) ∙ o.refused

  pub onward_one : {score : Float} {acc : Account} {ls : List ℕ} {ts : List Float} → no_refusal ≡ score_refused xs from.counted.evaluations → score ≡ get_or xs from.counted.evaluations nan
      → Entered p b v score a from ks ss ls ts acc → Onward p b v xs r acc ls ts
  onward_one {acc = acc} {ls = ls} {ts = ts} e q m =
      let l = (score_there xs from.counted.evaluations e).0 in
      let f = (score_there xs from.counted.evaluations e).1 in
      let n = subst (λ (x : Float). Entered p b v x a from ks ss ls ts acc) q m in
      record {
        kept = kept_with b o.kept (scored_by xs from.counted.evaluations a);
        keeps = n.keeps o.kept o.keeps;
        same = ap (λ (c : Counted). outcome_of p b xs c (kept_with b o.kept (scored_by xs from.counted.evaluations a)) r) n.counted ∙ sym (outcome_one p b xs from.counted o.kept a r l) ∙ o.same;
        refused = ap (λ (c : Counted). refusal_of xs c.evaluations r) n.counted ∙ sym (refusal_one p b xs from.counted o.kept a r l f) ∙ o.refused;
        fits = o.fits.1;
        listed = rw n.counted (omega arith);
        switched = rw n.counted (more_if (has_switch a) _ _ o.switched);
        lanes = rw n.counted (more_if (mixes_lanes a) _ _ o.lanes);
        identities = rw n.counted (more_if (mixes_identities p a) _ _ o.identities);
      }

-- ---- the walk's loop

pub record Under (s : List ℕ) (h : Header) (b : SearchBudget) (v : ℕ) (xs : List Float) (fs ks : List ℕ) (ss : List Float) (fs' ks' : List ℕ) (ss' : List Float) (at : Standing) (account : Account) : Type 0 where
  pub onward : Onward (panel_of s) b v xs (to_go (panel_of s) b at.tally fs' at.depth) account ks' ss'
  pub walking : Walking s h b fs' at.tally at.depth at.start at.clear
  pub left : Left v b.max_optima ks ss ks' ss'
  pub frames : Room b fs fs'

pub room_on : {b : SearchBudget} {xs ys zs : List ℕ} → Room b xs ys → Room b ys zs → Room b xs zs
room_on k l = record { long = l.long ∙ k.long; rest = l.rest ∙ k.rest }

module _ {s : List ℕ} {h : Header} {b : SearchBudget} {v : ℕ} {xs : List Float} {fs ks : List ℕ} {ss : List Float} {fs' ks' : List ℕ} {ss' : List Float} {at : Standing} {account : Account}
    (u : Under s h b v xs fs ks ss fs' ks' ss' at account) {ys : List ℕ} {q : Pause} (g : Paused s h b fs' ys at q) where
  module _ (e : Stop) (stops : q.halt ≡ Stopped e) where
    stopped_as : to_go (panel_of s) b at.tally fs' at.depth ≡ record { ending = ending_of e (frame_of ys q.at.depth).place; walk = walk_of q.at.tally (stack_of ys q.at.depth) }
    stopped_as = g.outcome ∙ ap (halted_as (panel_of s) b ys q.at) stops

    pub ended_stop : Ended (panel_of s) b v xs fs ks ss ys ks' ss' (Ok (record { stop = e; at = q.at; account = account }))
    ended_stop =
        let o = u.onward in
        record {
          refused = sym (refusal_end (panel_of s) b xs account.counted o.kept (ending_of e (frame_of ys q.at.depth).place) q.at.tally (stack_of ys q.at.depth))
              ∙ ap (refusal_of xs account.counted.evaluations) (sym stopped_as) ∙ o.refused;
          told =
              record {
                kept = o.kept;
                keeps = o.keeps;
                outcome = sym o.same ∙ ap (outcome_of (panel_of s) b xs account.counted o.kept) stopped_as
                    ∙ outcome_end (panel_of s) b xs account.counted o.kept (ending_of e (frame_of ys q.at.depth).place) q.at.tally (stack_of ys q.at.depth);
                words = g.words e stops;
                deep = g.deep;
              };
          left = u.left;
          frames = room_on u.frames g.kept;
        }

  module _ (d : Segment) (due : q.halt ≡ Due d) where
    due_as : to_go (panel_of s) b at.tally fs' at.depth ≡ before (assigned q.at.tally.families ys (q.at.depth - 1) d) (to_go (panel_of s) b q.at.tally ys q.at.depth)
    due_as = g.outcome ∙ ap (halted_as (panel_of s) b ys q.at) due

    due_onward : Onward (panel_of s) b v xs (before (assigned q.at.tally.families ys (q.at.depth - 1) d) (to_go (panel_of s) b q.at.tally ys q.at.depth)) account ks' ss'
    due_onward = subst (λ (r : Walked). Onward (panel_of s) b v xs r account ks' ss') due_as u.onward

    pub ended_refused : (e : Unscored) → as_refusal e ≡ score_refused xs account.counted.evaluations → Ended (panel_of s) b v xs fs ks ss ys ks' ss' (Err e)
    ended_refused e k =
        record {
          refused = onward_refused (panel_of s) b v xs (assigned q.at.tally.families ys (q.at.depth - 1) d) (to_go (panel_of s) b q.at.tally ys q.at.depth) due_onward e k;
          told = tt;
          left = u.left;
          frames = room_on u.frames g.kept;
        }

    pub under_next : {score : Float} {acc : Account} {ls : List ℕ} {ts : List Float} → no_refusal ≡ score_refused xs account.counted.evaluations → score ≡ get_or xs account.counted.evaluations nan
        → Entered (panel_of s) b v score (assigned q.at.tally.families ys (q.at.depth - 1) d) account ks' ss' ls ts acc → Under s h b v xs fs ks ss ys ls ts q.at acc
    under_next k e n =
        record {
          onward = onward_one (panel_of s) b v xs (assigned q.at.tally.families ys (q.at.depth - 1) d) (to_go (panel_of s) b q.at.tally ys q.at.depth) due_onward k e n;
          walking = g.again d due;
          left = left_on u.left (n.left u.onward.kept u.onward.keeps);
          frames = room_on u.frames g.kept;
        }
