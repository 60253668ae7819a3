-- The listing under way: from one evaluation to the next, and its end.
use Prim.Native.Nat.{ℕ, ◌-◌, ◌≤◌}
use native.Mathlib.Omega.{arith}
use mathlib.Core.Path.{◌≡◌, ap, subst, ◌∙◌}
use mathlib.Core.List.{List}
use lib.ListN.{length}
use Rattle.image.specs.declared.Header.{Header}
use Rattle.image.specs.Panel.{panel_of}
use Rattle.evaluate.specs.declared.Segment.{Segment}
use Rattle.evaluate.specs.Segments.{Assignment}
use Rattle.evaluate.specs.Words.{encode}
use Rattle.search.specs.declared.SearchBudget.{SearchBudget}
use Rattle.search.specs.declared.Stop.{Stop}
use Rattle.search.specs.Run.{Walked}
use Rattle.frames.specs.Inner.{frame_of, stack_of}
use Rattle.walks.specs.declared.Standing.{Standing}
use Rattle.walks.specs.declared.Halt.TheVariants.{Stopped, Due}
use Rattle.walks.specs.declared.Pause.{Pause}
use Rattle.walks.specs.Inner.{walk_of, to_go, before, ending_of, assigned, halted_as, Walking, Paused}
use Rattle.walks.specs.Inner.{Kept as Room}
use Rattle.listing.specs.declared.Listing.{Listing}
use Rattle.listing.specs.Inner.{comes_to, Onward, Spared, Entered, Ended}
use Rattle.listing.proofs.Rest.{spared_on, spared_over, comes_one, comes_end}

-- ---- one evaluation further

module _ {v : ℕ} (a : Assignment) (r : Walked) {l : Listing} {xs out : List ℕ} (o : Onward v (before a r) l xs out) where
  pub onward_fits : length (encode a) ≤ length xs
  onward_fits = let f = o.fits.0 in let k = o.room in omega arith

  module _ {l' : Listing} {xs' out' : List ℕ} (n : Entered a xs out xs' out' l l') where
    pub onward_slot : Spared v xs xs'
    onward_slot = spared_over v (encode a) xs xs' n.slot o.fits.0 o.room

    pub onward_one : Onward v r l' xs' out'
    onward_one = let k = o.room in let e = onward_slot.long in record { fits = o.fits.1; room = omega arith; within = n.handed.within; few = n.handed.few }

-- ---- the walk's loop

pub record Under (s : List ℕ) (h : Header) (b : SearchBudget) (v : ℕ) (w : Walked) (l : Listing) (fs xs out fs' xs' out' : List ℕ) (at : Standing) (l' : Listing) : Type 0 where
  pub same : comes_to w l out ≡ comes_to (to_go (panel_of s) b at.tally fs' at.depth) l' out'
  pub onward : Onward v (to_go (panel_of s) b at.tally fs' at.depth) l' xs' out'
  pub walking : Walking s h b fs' at.tally at.depth at.start at.clear
  pub frames : Room b fs fs'
  pub slot : Spared v xs xs'
  pub long : length out' ≡ length out

pub room_on : {b : SearchBudget} {xs ys zs : List ℕ} → Room b xs ys → Room b ys zs → Room b xs zs
room_on k l = record { long = l.long ∙ k.long; rest = l.rest ∙ k.rest }

module _ {s : List ℕ} {h : Header} {b : SearchBudget} {v : ℕ} {w : Walked} {l : Listing} {fs xs out fs' xs' out' : List ℕ} {at : Standing} {l' : Listing}
    (u : Under s h b v w l fs xs out fs' xs' out' at l') {ys : List ℕ} {q : Pause} (g : Paused s h b fs' ys at q) where
  pub ended_stop : (e : Stop) → q.halt ≡ Stopped e → Ended b v w l fs xs out ys xs' out' (record { stop = e; at = q.at; listing = l' })
  ended_stop e stops =
      let stopped : to_go (panel_of s) b at.tally fs' at.depth ≡ record { ending = ending_of e (frame_of ys q.at.depth).place; walk = walk_of q.at.tally (stack_of ys q.at.depth) } =
      g.outcome ∙ ap (halted_as (panel_of s) b ys q.at) stops in
      record {
        outcome = u.same ∙ ap (λ (r : Walked). comes_to r l' out') stopped ∙ comes_end (ending_of e (frame_of ys q.at.depth).place) q.at.tally (stack_of ys q.at.depth) l' out';
        words = g.words e stops;
        deep = g.deep;
        frames = room_on u.frames g.kept;
        slot = u.slot;
        long = u.long;
      }

  module _ (d : Segment) (due : q.halt ≡ Due d) where
    due_as : to_go (panel_of s) b at.tally fs' at.depth ≡ before (assigned q.at.tally.families ys (q.at.depth - 1) d) (to_go (panel_of s) b q.at.tally ys q.at.depth)
    due_as = g.outcome ∙ ap (halted_as (panel_of s) b ys q.at) due

    due_onward : Onward v (before (assigned q.at.tally.families ys (q.at.depth - 1) d) (to_go (panel_of s) b q.at.tally ys q.at.depth)) l' xs' out'
    due_onward = subst (λ (r : Walked). Onward v r l' xs' out') due_as u.onward

    pub under_next : {m : Listing} {zs os : List ℕ} → Entered (assigned q.at.tally.families ys (q.at.depth - 1) d) xs' out' zs os l' m → Under s h b v w l fs xs out ys zs os q.at m
    under_next n =
        let a = assigned q.at.tally.families ys (q.at.depth - 1) d in
        let r = to_go (panel_of s) b q.at.tally ys q.at.depth in
        record {
          same = u.same ∙ ap (λ (r : Walked). comes_to r l' out') due_as ∙ comes_one a r n.handed;
          onward = onward_one a r due_onward n;
          walking = g.again d due;
          frames = room_on u.frames g.kept;
          slot = spared_on u.slot (onward_slot a r due_onward n);
          long = n.handed.long ∙ u.long;
        }
