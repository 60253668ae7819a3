-- Seeding under way, and its ends.
use Prim.Native.Nat.{ℕ, ◌+◌, ◌≤◌, ◌<◌}
use native.Mathlib.Omega.{arith}
use mathlib.Core.Path.{◌≡◌, refl, sym, ap, subst, ◌∙◌}
use mathlib.Core.Bool.{Bool, true}
use mathlib.Core.List.{List, [], ◌++◌}
use lib.ListN.{length, take, get_or}
use lib.Ieee.{Float, nan}
use Rattle.ground.specs.Lists.{sum}
use Rattle.image.specs.declared.Header.{Header}
use Rattle.image.specs.declared.Family.{Family}
use Rattle.image.specs.Image.{path_counts}
use Rattle.image.specs.Panel.{Panel, panel_of}
use Rattle.image.proofs.Laws.{panel_families, families_length}
use Rattle.panel.specs.Inner.{Accepted}
use Rattle.std.specs.declared.result.Result.{Result}
use Rattle.std.specs.declared.result.Result.TheVariants.{Ok, Err}
use Rattle.evaluate.specs.Refusals.{no_refusal}
use Rattle.evaluate.specs.Segments.{native_of}
use Rattle.evaluate.specs.Words.{encode}
use Rattle.search.specs.declared.SearchBudget.{SearchBudget}
use Rattle.search.specs.Run.{Walked, walk_from, walk}
use Rattle.kept.specs.Inner.{Left}
use Rattle.kept.proofs.Rooms.{left_none, left_on}
use Rattle.search.specs.declared.Tally.{Tally}
use Rattle.search.specs.declared.Stop.{Stop}
use Rattle.search.specs.declared.Stop.TheVariants.{Exhausted, Work, Evaluation}
use Rattle.search.specs.Rooms.{stack_words, pending_words}
use Rattle.frames.specs.Inner.{frame_of, stack_of, put}
use Rattle.frames.proofs.Laws.{stack_none}
use Rattle.walks.specs.Inner.{before, walk_of, ending_of, used_by, seed_walk, to_go, root_of, Walking}
use Rattle.searching.specs.declared.Unscored.{Unscored}
use Rattle.searching.specs.declared.Account.{Account}
use Rattle.searching.specs.declared.Seeded.{Seeded}
use Rattle.searching.specs.declared.Found.{Found}
use Rattle.searching.specs.Inner.{as_refusal, score_refused, Entered, Onward, Ended, Sown, outcome_of, refusal_of, seed_tally, standing_with, Framable}
use Rattle.searching.proofs.Rest.{outcome_end, refusal_end}
use Rattle.walks.specs.declared.Standing.{Standing}
use Rattle.walks.proofs.Seeds.{seed_one, seed_evaluation, seed_work, seed_none, seed_all}
use Rattle.walks.proofs.Laws.{begun_walking, begun_to_go, begun_kept}
use Rattle.searching.proofs.Running.{onward_refused, onward_one, room_on}

pub record Sowing (s : List ℕ) (h : Header) (b : SearchBudget) (v : ℕ) (xs : List Float) (ks : List ℕ) (ss : List Float) (ks' : List ℕ) (ss' : List Float) (n start : ℕ) (account : Account) : Type 0 where
  pub onward : Onward (panel_of s) b v xs (walk_from (panel_of s) b [] (seed_walk n)) account ks' ss'
  pub left : Left v b.max_optima ks ss ks' ss'
  pub few : n ≤ h.families
  pub worked : n ≤ b.max_work
  pub begins : start ≡ sum (take n (path_counts h s))

pub sowing_start : {s : List ℕ} {h : Header} {b : SearchBudget} {v : ℕ} {xs : List Float} {ks : List ℕ} {ss : List Float} {account : Account} → Onward (panel_of s) b v xs (walk (panel_of s) b) account ks ss
    → Sowing s h b v xs ks ss ks ss 0 0 account
unfolding walk sum
sowing_start {s} {h} {b} {v} {xs} {ks} {ss} o = record { onward = o; left = left_none ks ss; few = omega arith; worked = omega arith; begins = refl }

module _ {s : List ℕ} {h : Header} {b : SearchBudget} {v : ℕ} {xs : List Float} {ks : List ℕ} {ss : List Float} {ks' : List ℕ} {ss' : List Float} {n start : ℕ} {account : Account} (acc : Accepted s h)
    (u : Sowing s h b v xs ks ss ks' ss' n start account) where
  module _ (f : n < h.families) (w : n < b.max_work) (e : n < b.max_evaluations) where
    native_as : walk_from (panel_of s) b [] (seed_walk n) ≡ before (native_of (panel_of s) n) (walk_from (panel_of s) b [] (seed_walk (n + 1)))
    native_as = seed_one (panel_of s) b n (rw (panel_families s h acc.counted.framed, families_length s h) f) w e

    native_onward : Onward (panel_of s) b v xs (before (native_of (panel_of s) n) (walk_from (panel_of s) b [] (seed_walk (n + 1)))) account ks' ss'
    native_onward = subst (λ (r : Walked). Onward (panel_of s) b v xs r account ks' ss') native_as u.onward

    pub native_fits : (g : Family) → g.number ≡ n → length (encode (native_of (panel_of s) g.number)) ≤ v
    native_fits g q = rw q native_onward.fits.0

    pub sown_refused : (q : Unscored) → as_refusal q ≡ score_refused xs account.counted.evaluations → Sown (panel_of s) h b v xs ks ss ks' ss' (Err q)
    sown_refused q k =
        record {
          refused = onward_refused (panel_of s) b v xs (native_of (panel_of s) n) (walk_from (panel_of s) b [] (seed_walk (n + 1))) native_onward q k;
          sowed = tt;
          left = u.left;
        }

    pub sowing_next : {score : Float} {acc' : Account} {ls : List ℕ} {ts : List Float} → no_refusal ≡ score_refused xs account.counted.evaluations → score ≡ get_or xs account.counted.evaluations nan
        → (g : Family) → g.number ≡ n → Entered (panel_of s) b v score (native_of (panel_of s) g.number) account ks' ss' ls ts acc'
        → (next : ℕ) → next ≡ sum (take (g.number + 1) (path_counts h s)) → Sowing s h b v xs ks ss ls ts (n + 1) next acc'
    sowing_next {score} {acc'} {ls} {ts} k e g q x next d =
        let x' = subst (λ (m : ℕ). Entered (panel_of s) b v score (native_of (panel_of s) m) account ks' ss' ls ts acc') q x in
        record {
          onward = onward_one (panel_of s) b v xs (native_of (panel_of s) n) (walk_from (panel_of s) b [] (seed_walk (n + 1))) native_onward k e x';
          left = left_on u.left (x.left u.onward.kept u.onward.keeps);
          few = omega arith;
          worked = omega arith;
          begins = d ∙ ap (λ (m : ℕ). sum (take (m + 1) (path_counts h s))) q;
        }

-- ---- a search that ends with its seeding: no frame is on the stack

pub sown_ended : {p : Panel} {h : Header} {b : SearchBudget} {v : ℕ} {xs : List Float} {ks : List ℕ} {ss : List Float} {ks' : List ℕ} {ss' : List Float} {r : Seeded} (fs : List ℕ) (e : Stop) (t : Tally) (start : ℕ) (clear : Bool)
    → Sown p h b v xs ks ss ks' ss' (Ok r) → used_by e 0 ≡ 0 → pending_words (ending_of e (frame_of fs 0).place) ≡ [] → walk_from p b [] (seed_walk r.natives) ≡ record { ending = ending_of e (frame_of fs 0).place; walk = walk_of t (stack_of fs 0) }
    → Ended p b v xs fs ks ss fs ks' ss' (Ok (record { stop = e; at = record { tally = t; depth = 0; start = start; clear = clear }; account = r.account }))
unfolding stack_words
sown_ended {p} {h} {b} {v} {xs} {ks} {ss} {ks'} {ss'} {r} fs e t start clear w f none q =
    let o = w.sowed.onward in
    record {
      refused = sym (refusal_end p b xs r.account.counted o.kept (ending_of e (frame_of fs 0).place) t (stack_of fs 0)) ∙ ap (refusal_of xs r.account.counted.evaluations) (sym q) ∙ o.refused;
      told =
          record {
            kept = o.kept;
            keeps = o.keeps;
            outcome = sym o.same ∙ ap (outcome_of p b xs r.account.counted o.kept) q ∙ outcome_end p b xs r.account.counted o.kept (ending_of e (frame_of fs 0).place) t (stack_of fs 0);
            words = rw (f, none, stack_none fs) none_words;
            deep = omega arith;
          };
      left = w.left;
      frames = record { long = refl; rest = refl };
    }
  where
    none_words : ◌≡◌ {A = List ℕ} [] (stack_words [] ++ [])
    none_words = refl

pub no_paths : 0 ≡ sum []
unfolding sum
no_paths = refl

module _ {s : List ℕ} {h : Header} {b : SearchBudget} {v : ℕ} {xs : List Float} {ks : List ℕ} {ss : List Float} {ks' : List ℕ} {ss' : List Float} {q : Seeded} (acc : Accepted s h)
    (w : Sown (panel_of s) h b v xs ks ss ks' ss' (Ok q)) (fs : List ℕ) where
  families_counted : length (panel_of s).families ≡ h.families
  families_counted = ap length (panel_families s h acc.counted.framed) ∙ families_length s h

  pub early_evaluation : q.natives < h.families → b.max_evaluations ≤ q.natives
      → (r : Found) → r ≡ record { stop = Evaluation; at = standing_with q.natives 0; account = q.account } → Ended (panel_of s) b v xs fs ks ss fs ks' ss' (Ok r)
  early_evaluation f g r e =
      rw e
      (sown_ended fs Evaluation (seed_tally q.natives) 0 true w refl refl
      (seed_evaluation (panel_of s) b q.natives (rw families_counted f) g ∙ rw (stack_none fs)))

  pub early_work : q.natives < h.families → q.natives < b.max_evaluations
      → (r : Found) → r ≡ record { stop = Work; at = standing_with q.natives 0; account = q.account } → Ended (panel_of s) b v xs fs ks ss fs ks' ss' (Ok r)
  early_work f g r e =
      rw e
      (sown_ended fs Work (seed_tally q.natives) 0 true w refl refl
      (seed_work (panel_of s) b q.natives (rw families_counted f) g (w.sowed.over f g) ∙ rw (stack_none fs)))

  pub early_none : h.families ≡ 0 → (r : Found) → r ≡ record { stop = Exhausted; at = standing_with q.natives 0; account = q.account } → Ended (panel_of s) b v xs fs ks ss fs ks' ss' (Ok r)
  early_none f r e =
      let few = w.sowed.few in
      let same : q.natives ≡ length (panel_of s).families = rw families_counted (omega arith) in
      rw e
      (sown_ended fs Exhausted (seed_tally q.natives) 0 true w refl refl
      (seed_none (panel_of s) b q.natives same (omega arith) ∙ rw (stack_none fs)))

  -- the first family's root is put, and the walk goes on
  module _ (all : h.families ≤ q.natives) (some : h.families ≡ 0 → ⊥) (f : Framable b fs) (ws : List ℕ) (ew : ws ≡ put fs 0 (root_of (panel_of s) 0)) where
    first_left : 0 < h.families
    first_left = omega arith

    first_begins : 0 ≡ sum (take 0 (path_counts h s))
    first_begins = no_paths

    first_worked : q.natives ≤ b.max_work
    first_worked = w.sowed.worked

    pub first_walking : (at : Standing) → at ≡ standing_with q.natives 1 → Walking s h b ws at.tally at.depth at.start at.clear
    first_walking at e = rw e (begun_walking s h b fs (seed_tally q.natives) 0 acc first_left first_begins f.some f.few f.room first_worked (omega arith) ws ew)

    first_same : walk_from (panel_of s) b [] (seed_walk q.natives) ≡ to_go (panel_of s) b (seed_tally q.natives) ws 1
    first_same =
        let few = w.sowed.few in
        let same : q.natives ≡ length (panel_of s).families = rw families_counted (omega arith) in
        seed_all (panel_of s) b q.natives same (omega arith)
        ∙ sym (begun_to_go s h b fs (seed_tally q.natives) 0 acc first_left first_begins f.some f.few f.room first_worked (omega arith) ws ew)

    pub first_onward : (at : Standing) → at ≡ standing_with q.natives 1 → Onward (panel_of s) b v xs (to_go (panel_of s) b at.tally ws at.depth) q.account ks' ss'
    first_onward at e = rw e (subst (λ (r : Walked). Onward (panel_of s) b v xs r q.account ks' ss') first_same w.sowed.onward)

    pub first_ended : {fs' ls : List ℕ} {ts : List Float} {r : Result Found Unscored} → Ended (panel_of s) b v xs ws ks' ss' fs' ls ts r → Ended (panel_of s) b v xs fs ks ss fs' ls ts r
    first_ended e =
        record {
          refused = e.refused;
          told = e.told;
          left = left_on w.left e.left;
          frames =
              room_on (begun_kept s h b fs (seed_tally q.natives) 0 acc first_left first_begins f.some f.few f.room first_worked (omega arith) ws ew) e.frames;
        }
