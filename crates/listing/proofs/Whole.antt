-- The listing as a whole: seeding, then the walk over all families; and its answer.
use Prim.Native.Nat.{ℕ, ◌+◌, ◌-◌, ◌*◌, ◌≤◌, ◌<◌}
use native.Mathlib.Nat.{sub-zero}
use native.Mathlib.Omega.{arith}
use mathlib.Core.Path.{◌≡◌, refl, sym, ap, subst, ◌∙◌}
use mathlib.Core.Bool.{true, false}
use mathlib.Core.List.{List, [], ◌∷◌, ◌++◌}
use lib.ListN.{length, take, drop, replicate, length-replicate}
use Rattle.ground.specs.Lists.{sum}
use Rattle.image.specs.declared.Header.{Header}
use Rattle.image.specs.Image.{path_counts}
use Rattle.image.specs.Panel.{Panel, panel_of}
use Rattle.image.proofs.Laws.{panel_families, families_length}
use Rattle.panel.specs.Inner.{Accepted}
use Rattle.evaluate.specs.Segments.{flat}
use Rattle.evaluate.specs.Check.{over}
use Rattle.search.specs.declared.SearchBudget.{SearchBudget}
use Rattle.search.specs.declared.Tally.{Tally}
use Rattle.search.specs.declared.ListReply.{ListReply}
use Rattle.search.specs.declared.Stop.{Stop}
use Rattle.search.specs.declared.Stop.TheVariants.{Exhausted, Work, Evaluation, Frontier}
use Rattle.search.specs.Walk.{Place}
use Rattle.search.specs.Run.{Walk, Walked, going, root, run, walk_from, walk}
use Rattle.search.specs.Counters.{stop_of, status_of, status_number}
use Rattle.search.specs.Rooms.{frame_width, slot_width}
use Rattle.search.specs.Answers.{written, list_reply_of}
use Rattle.enumeration.proofs.Room.{handed_fits}
use Rattle.frames.specs.Inner.{put, frame_of, stack_of}
use Rattle.frames.proofs.Laws.{stack_none}
use Rattle.walks.specs.Inner.{walk_of, to_go, ending_of, used_by, seed_walk, root_of, Walking, zeroed}
use Rattle.walks.specs.Inner.{Kept as Room}
use Rattle.walks.proofs.Laws.{begun_to_go, begun_walking, begun_kept, frames-left}
use Rattle.walks.proofs.Seeds.{seed_evaluation, seed_work, seed_none, seed_all}
use Rattle.listing.specs.declared.Listing.{Listing}
use Rattle.listing.specs.declared.Listed.{Listed}
use Rattle.listing.specs.declared.Seeded.{Seeded}
use Rattle.listing.specs.Inner.{Outcome, comes_to, none_listed, seed_tally, FrameRoom, Onward, Ended, Sown, Told}
use Rattle.listing.proofs.Rest.{spared_on, comes_start}
use Rattle.listing.proofs.Running.{room_on}
use Rattle.listing.proofs.Sowing.{sown_ended}

-- ---- after seeding

pub none_before : (l : List ℕ) → 0 ≡ sum (take 0 l)
unfolding sum
none_before l = refl

pub root_room : {b : SearchBudget} {fs : List ℕ} → FrameRoom b fs → frame_width ≤ length fs
root_room f = let r = f.room in omega arith

module _ {s : List ℕ} {h : Header} {b : SearchBudget} {v : ℕ} {l : Listing} {xs out xs' out' : List ℕ} {r : Seeded} {t : Tally} (fs : List ℕ) (acc : Accepted s h) (w : Sown (panel_of s) h b v l xs out xs' out' r)
    (et : t ≡ seed_tally r.natives) where
  counts : length (panel_of s).families ≡ h.families
  counts = rw (panel_families s h acc.counted.framed) (families_length s h)

  no_frame : walk_of (seed_tally r.natives) [] ≡ walk_of t (stack_of fs 0)
  no_frame = rw (et, stack_none fs)

  pub short_evaluation : r.natives < h.families → b.max_evaluations ≤ r.natives
      → Ended b v (walk (panel_of s) b) l fs xs out fs xs' out' (record { stop = Evaluation; at = record { tally = t; depth = 0; start = 0; clear = true }; listing = r.listing })
  short_evaluation f e =
      sown_ended fs Evaluation t 0 true w refl refl (seed_evaluation (panel_of s) b r.natives (rw counts f) e ∙ ap (λ (k : Walk). record { ending = ending_of Evaluation (frame_of fs 0).place; walk = k }) no_frame)

  pub short_work : r.natives < h.families → r.natives < b.max_evaluations
      → Ended b v (walk (panel_of s) b) l fs xs out fs xs' out' (record { stop = Work; at = record { tally = t; depth = 0; start = 0; clear = true }; listing = r.listing })
  short_work f e =
      sown_ended fs Work t 0 true w refl refl
      (seed_work (panel_of s) b r.natives (rw counts f) e (w.over f e) ∙ ap (λ (k : Walk). record { ending = ending_of Work (frame_of fs 0).place; walk = k }) no_frame)

  pub no_family : h.families ≤ r.natives → h.families ≡ 0
      → Ended b v (walk (panel_of s) b) l fs xs out fs xs' out' (record { stop = Exhausted; at = record { tally = t; depth = 0; start = 0; clear = true }; listing = r.listing })
  no_family f e =
      let k = w.few in
      sown_ended fs Exhausted t 0 true w refl refl
      (seed_none (panel_of s) b r.natives (let c = counts in omega arith) (omega arith) ∙ ap (λ (k : Walk). record { ending = ending_of Exhausted (frame_of fs 0).place; walk = k }) no_frame)

  module _ (f : h.families ≤ r.natives) (some : h.families ≡ 0 → ⊥) (room : FrameRoom b fs) (gs : List ℕ) (eg : gs ≡ put fs 0 (root_of (panel_of s) 0)) where
    first : t.families < h.families
    first = rw et (omega arith)

    worked : t.work ≤ b.max_work
    worked = rw et w.worked

    taken : t.donors ≤ t.work
    taken = rw et (omega arith)

    begins : 0 ≡ sum (take t.families (path_counts h s))
    unfolding sum
    begins = rw et

    put_first : gs ≡ put fs 0 (root_of (panel_of s) t.families)
    put_first = eg ∙ rw et

    pub root_walking : Walking s h b gs t 1 0 true
    root_walking = begun_walking s h b fs t 0 acc first begins room.some room.small room.room worked taken gs put_first

    root_kept : Room b fs gs
    root_kept = begun_kept s h b fs t 0 acc first begins room.some room.small room.room worked taken gs put_first

    root_to_go : walk_from (panel_of s) b [] (seed_walk r.natives) ≡ to_go (panel_of s) b t gs 1
    root_to_go =
        let k = w.few in
        seed_all (panel_of s) b r.natives (let c = counts in omega arith) (omega arith)
        ∙ ap (λ (k : Tally). run (panel_of s) b (b.max_work - k.work) (going (walk_of k (root (panel_of s) k.families ∷ [])))) (sym et)
        ∙ sym (begun_to_go s h b fs t 0 acc first begins room.some room.small room.room worked taken gs put_first)

    pub root_onward : Onward v (to_go (panel_of s) b t gs 1) r.listing xs' out'
    root_onward = subst (λ (k : Walked). Onward v k r.listing xs' out') root_to_go w.onward

    pub root_ended : {fs' ys os : List ℕ} {e : Listed} → Ended b v (to_go (panel_of s) b t gs 1) r.listing gs xs' out' fs' ys os e → Ended b v (walk (panel_of s) b) l fs xs out fs' ys os e
    root_ended e =
        record {
          outcome = w.same ∙ ap (λ (k : Walked). comes_to k r.listing out') root_to_go ∙ e.outcome;
          words = e.words;
          deep = e.deep;
          frames = room_on root_kept e.frames;
          slot = spared_on w.slot e.slot;
          long = e.long ∙ w.long;
        }

-- ---- the start

pub onward_start : (p : Panel) (b : SearchBudget) (v from : ℕ) (xs out : List ℕ) → 0 < b.max_frontier → v ≡ slot_width p b → v ≤ length xs → Onward v (walk p b) (none_listed from) xs out
onward_start p b v from xs out f e k = record { fits = rw e (handed_fits p b f); room = k; within = omega arith; few = omega arith }

-- ---- the answer

stop-of : (e : Stop) (a : Place) → stop_of (ending_of e a) ≡ e
stop-of Exhausted a = refl
stop-of Work a = refl
stop-of Evaluation a = refl
stop-of Frontier a = refl

module _ (p : Panel) (b : SearchBudget) (v from : ℕ) (fs xs out fs₁ xs₁ out' : List ℕ) (e : Listed) (d : Ended b v (walk p b) (none_listed from) fs xs out fs₁ xs₁ out' e) where
  comes : comes_to (walk p b) (none_listed from) out
      ≡ record {
        ending = (walk p b).ending;
        stack = (walk p b).walk.stack;
        evaluations = (walk p b).walk.evaluations;
        room = over (flat (written from (length out) (walk p b).walk.out)) out;
        written = length (written from (length out) (walk p b).walk.out);
        words = length (flat (written from (length out) (walk p b).walk.out));
      }
  comes = comes_start (walk p b) from out

  same_ending : ending_of e.stop (frame_of fs₁ e.at.depth).place ≡ (walk p b).ending
  same_ending = ap (λ (o : Outcome). o.ending) (sym d.outcome ∙ comes)

  same_stack : stack_of fs₁ e.at.depth ≡ (walk p b).walk.stack
  same_stack = ap (λ (o : Outcome). o.stack) (sym d.outcome ∙ comes)

  same_evaluations : e.at.tally.evaluations ≡ (walk p b).walk.evaluations
  same_evaluations = ap (λ (o : Outcome). o.evaluations) (sym d.outcome ∙ comes)

  same_room : out' ≡ over (flat (written from (length out) (walk p b).walk.out)) out
  same_room = ap (λ (o : Outcome). o.room) (sym d.outcome ∙ comes)

  same_written : e.listing.written ≡ length (written from (length out) (walk p b).walk.out)
  same_written = ap (λ (o : Outcome). o.written) (sym d.outcome ∙ comes)

  same-words : e.listing.words ≡ length (flat (written from (length out) (walk p b).walk.out))
  same-words = ap (λ (o : Outcome). o.words) (sym d.outcome ∙ comes)

  same_stop : e.stop ≡ stop_of (walk p b).ending
  same_stop = sym (stop-of e.stop (frame_of fs₁ e.at.depth).place) ∙ ap stop_of same_ending

  pub listing_told : {fs' xs' : List ℕ} {r : ListReply} → FrameRoom b fs → v ≡ slot_width p b → fs' ≡ zeroed (used_by e.stop e.at.depth * frame_width) ((b.max_frontier + 1) * frame_width) fs₁
      → xs' ≡ take 0 xs₁ ++ (replicate (v - 0) 0 ++ drop v xs₁)
      → r ≡ record { refusal = 0; place = 0; status = status_number (status_of e.stop false); written = e.listing.written; words = e.listing.words; evaluations = e.at.tally.evaluations }
      → Told p b from fs xs out fs' xs' out' r
  unfolding list_reply_of
  listing_told {fs'} {xs'} {r} f ev ez ex er =
      record {
        answer = er ∙ rw (same_stop, same_written, same-words, same_evaluations);
        frames = rw (same_ending, same_stack) at (frames-left b fs fs₁ fs' e.stop e.at.depth d.frames d.words d.deep f.room ez);
        slot = ex ∙ rw (sub-zero v, d.slot.rest, ev, length-replicate {A = ℕ} (slot_width p b) 0);
        room = same_room;
      }
