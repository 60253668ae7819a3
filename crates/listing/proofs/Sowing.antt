-- Seeding under way, and its ends.
use Prim.Native.Nat.{ℕ, ◌+◌, ◌≤◌, ◌<◌}
use native.Mathlib.Omega.{arith}
use mathlib.Core.Path.{◌≡◌, refl, ap, subst, ◌∙◌}
use mathlib.Core.Bool.{Bool}
use mathlib.Core.List.{List, [], ◌++◌}
use lib.ListN.{length, take}
use Rattle.ground.specs.Lists.{sum}
use Rattle.image.specs.declared.Header.{Header}
use Rattle.image.specs.declared.Family.{Family}
use Rattle.image.specs.Image.{path_counts}
use Rattle.image.specs.Panel.{Panel, panel_of}
use Rattle.image.proofs.Laws.{panel_families, families_length}
use Rattle.panel.specs.Inner.{Accepted}
use Rattle.evaluate.specs.Segments.{native_of}
use Rattle.evaluate.specs.Words.{encode}
use Rattle.search.specs.declared.SearchBudget.{SearchBudget}
use Rattle.search.specs.declared.Tally.{Tally}
use Rattle.search.specs.declared.Stop.{Stop}
use Rattle.search.specs.Run.{Walked, walk_from, walk}
use Rattle.search.specs.Rooms.{stack_words, pending_words}
use Rattle.frames.specs.Inner.{frame_of, stack_of}
use Rattle.frames.proofs.Laws.{stack_none}
use Rattle.walks.specs.Inner.{before, walk_of, ending_of, used_by, seed_walk}
use Rattle.walks.proofs.Seeds.{seed_one}
use Rattle.listing.specs.declared.Listing.{Listing}
use Rattle.listing.specs.declared.Seeded.{Seeded}
use Rattle.listing.specs.Inner.{comes_to, Onward, Spared, Entered, Ended, Sown}
use Rattle.listing.proofs.Rest.{spared_none, spared_on, comes_one, comes_end}
use Rattle.listing.proofs.Running.{onward_fits, onward_slot, onward_one}

pub record Sowing (s : List ℕ) (h : Header) (b : SearchBudget) (v : ℕ) (l : Listing) (xs out xs' out' : List ℕ) (n start : ℕ) (l' : Listing) : Type 0 where
  pub same : comes_to (walk (panel_of s) b) l out ≡ comes_to (walk_from (panel_of s) b [] (seed_walk n)) l' out'
  pub onward : Onward v (walk_from (panel_of s) b [] (seed_walk n)) l' xs' out'
  pub few : n ≤ h.families
  pub worked : n ≤ b.max_work
  pub begins : start ≡ sum (take n (path_counts h s))
  pub slot : Spared v xs xs'
  pub long : length out' ≡ length out

pub sowing_start : {s : List ℕ} {h : Header} {b : SearchBudget} {v : ℕ} {l : Listing} {xs out : List ℕ} → Onward v (walk (panel_of s) b) l xs out → Sowing s h b v l xs out xs out 0 0 l
unfolding walk sum
sowing_start {s} {h} {b} {v} {l} {xs} o = record { same = refl; onward = o; few = omega arith; worked = omega arith; begins = refl; slot = spared_none v xs; long = refl }

module _ {s : List ℕ} {h : Header} {b : SearchBudget} {v : ℕ} {l : Listing} {xs out xs' out' : List ℕ} {n start : ℕ} {l' : Listing} (u : Sowing s h b v l xs out xs' out' n start l') where
  module _ (acc : Accepted s h) (f : n < h.families) (w : n < b.max_work) (e : n < b.max_evaluations) where
    native_as : walk_from (panel_of s) b [] (seed_walk n) ≡ before (native_of (panel_of s) n) (walk_from (panel_of s) b [] (seed_walk (n + 1)))
    native_as = seed_one (panel_of s) b n (rw (panel_families s h acc.counted.framed, families_length s h) f) w e

    native_onward : Onward v (before (native_of (panel_of s) n) (walk_from (panel_of s) b [] (seed_walk (n + 1)))) l' xs' out'
    native_onward = subst (λ (r : Walked). Onward v r l' xs' out') native_as u.onward

    pub native_fits : (g : Family) → g.number ≡ n → length (encode (native_of (panel_of s) g.number)) ≤ length xs'
    native_fits g q = rw q (onward_fits (native_of (panel_of s) n) (walk_from (panel_of s) b [] (seed_walk (n + 1))) native_onward)

    pub sowing_next : {m : Listing} {zs os : List ℕ} (g : Family) → g.number ≡ n → Entered (native_of (panel_of s) g.number) xs' out' zs os l' m → (next : ℕ) → next ≡ sum (take (g.number + 1) (path_counts h s))
        → Sowing s h b v l xs out zs os (n + 1) next m
    sowing_next {m} {zs} {os} g q x next d =
        let x' = subst (λ (k : ℕ). Entered (native_of (panel_of s) k) xs' out' zs os l' m) q x in
        let r = walk_from (panel_of s) b [] (seed_walk (n + 1)) in
        record {
          same = u.same ∙ ap (λ (r : Walked). comes_to r l' out') native_as ∙ comes_one (native_of (panel_of s) n) r x'.handed;
          onward = onward_one (native_of (panel_of s) n) r native_onward x';
          few = omega arith;
          worked = omega arith;
          begins = d ∙ ap (λ (m : ℕ). sum (take (m + 1) (path_counts h s))) q;
          slot = spared_on u.slot (onward_slot (native_of (panel_of s) n) r native_onward x');
          long = x'.handed.long ∙ u.long;
        }

-- ---- a listing that ends with its seeding: no frame is on the stack

pub sown_ended : {p : Panel} {h : Header} {b : SearchBudget} {v : ℕ} {l : Listing} {xs out xs' out' : List ℕ} {r : Seeded} (fs : List ℕ) (e : Stop) (t : Tally) (start : ℕ) (clear : Bool) → Sown p h b v l xs out xs' out' r
    → used_by e 0 ≡ 0 → pending_words (ending_of e (frame_of fs 0).place) ≡ [] → walk_from p b [] (seed_walk r.natives) ≡ record { ending = ending_of e (frame_of fs 0).place; walk = walk_of t (stack_of fs 0) }
    → Ended b v (walk p b) l fs xs out fs xs' out' (record { stop = e; at = record { tally = t; depth = 0; start = start; clear = clear }; listing = r.listing })
unfolding stack_words
sown_ended {p} {h} {b} {v} {l} {xs} {out} {xs'} {out'} {r} fs e t start clear w f none q =
    record {
      outcome = w.same ∙ ap (λ (k : Walked). comes_to k r.listing out') q ∙ comes_end (ending_of e (frame_of fs 0).place) t (stack_of fs 0) r.listing out';
      words = rw (f, none, stack_none fs) none_words;
      deep = omega arith;
      frames = record { long = refl; rest = refl };
      slot = w.slot;
      long = w.long;
    }
  where
    none_words : ◌≡◌ {A = List ℕ} [] (stack_words [] ++ [])
    none_words = refl
