-- Laws of refusals 25 to 30 of one route, segment by segment.
use Prim.Native.Nat.{ℕ, zero, suc}
use mathlib.Core.Path.{◌≡◌, refl, ap, ◌∙◌}
use borrow.Author.Tests.{not-true}
use mathlib.Core.Bool.{Bool, true, false, not, ◌&&◌, true≢false}
use mathlib.Core.List.{[], ◌∷◌}
use lib.Dec.{eqb}
use Rattle.ground.specs.Lists.{pick, all}
use Rattle.image.specs.Panel.{Panel, lane_at}
use Rattle.evaluate.specs.declared.Segment.{Segment}
use Rattle.evaluate.specs.Refusals.{unless, or_else}
use Rattle.evaluate.specs.Segments.{Route, exit, sound_span, joinable, joined, joining}
use Rattle.evaluate.specs.Check.{leaves, joint_refusal, joints_refusal, normal_refusal, route_refusal}
use Rattle.routes.specs.declared.RouteRefusal.{RouteRefusal}
use Rattle.routes.specs.Refusals.{refusal_of}
use Rattle.std.proofs.Common.{Option, Some, None, Result, Ok}
use Rattle.bed_routes.specs.declared.Seen.{Seen}
use Rattle.bed_routes.specs.Inner.{entered_by, joint_by, joints_by, behind, behind_of, normal_verdict, verdict, Begun, Onward}

-- ---- the first number that is not 0

or_zero : (n : ℕ) → or_else n 0 ≡ n
or_zero zero = refl
or_zero (suc n) = refl

or_or : (a b c : ℕ) → or_else a (or_else b c) ≡ or_else (or_else a b) c
or_or zero b c = refl
or_or (suc a) b c = refl

and_and : (a b c : Bool) → (a && (b && c)) ≡ ((a && b) && c)
and_and true b c = refl
and_and false b c = refl

-- ---- the first segment

pub begun_told : (p : Panel) (s : Segment) (sound : Bool) → sound ≡ sound_span p s → Begun p s (record { segment = s; before = None; sound = sound; entered = false; joints = Ok tt })
unfolding route_refusal normal_refusal verdict all
begun_told p s sound e = record { same = λ (target : ℕ) (r : Route). rw e }

-- ---- one segment more

leaves_next : (p : Panel) (target : ℕ) (s t : Segment) (r : Route) → leaves p target (s ∷ joining t r) ≡ leaves p target (joining t r)
unfolding leaves joining
leaves_next p target s t [] = refl
leaves_next p target s t (u ∷ r) = go (joinable t u) (leaves_next p target s (joined t u) r)
  where
    go : (b : Bool) → leaves p target (s ∷ joining (joined t u) r) ≡ leaves p target (joining (joined t u) r)
        → leaves p target (s ∷ pick b (joining (joined t u) r) (t ∷ joining u r)) ≡ leaves p target (pick b (joining (joined t u) r) (t ∷ joining u r))
    go true h = h
    go false h = refl

joints_next : (p : Panel) (w : Seen) (m : Route) → or_else (refusal_of w.joints) (joints_refusal p (behind w (w.segment ∷ m))) ≡ or_else (joints_by p w) (joints_refusal p (w.segment ∷ m))
unfolding joints_refusal
joints_next p w m = go w.before
  where
    n : ℕ
    n = refusal_of w.joints

    go : (b : Option Segment) → or_else n (joints_refusal p (behind_of b (w.segment ∷ m))) ≡ or_else (or_else n (joint_by p b w.segment)) (joints_refusal p (w.segment ∷ m))
    go (Some s) = or_or n (joint_refusal p s w.segment) (joints_refusal p (w.segment ∷ m))
    go None = or_or n 0 (joints_refusal p (w.segment ∷ m))

module _ (p : Panel) (target : ℕ) (w : Seen) (t : Segment) (sound joins : Bool) (es : sound ≡ (w.sound && sound_span p t)) (ej : joins ≡ joinable w.segment t) where
  more : (r : Route) → verdict p target w (t ∷ r) ≡ unless (sound && all (sound_span p) r) 26 (normal_verdict p target w (pick joins (joining (joined w.segment t) r) (w.segment ∷ joining t r)))
  unfolding verdict all joining
  more r = rw (es, ej, and_and w.sound (sound_span p t) (all (sound_span p) r))

  pub onward_joined : (u : Segment) → joins ≡ true → u ≡ joined w.segment t
      → Onward p target w t (record { segment = u; before = w.before; sound = sound; entered = w.entered; joints = w.joints })
  unfolding verdict
  onward_joined u z e = record { same = λ (r : Route). more r ∙ rw (z, e) }

  pub onward_behind : (e : Bool) (n : Result (Unit {0}) RouteRefusal) → joins ≡ false → e ≡ entered_by target w → refusal_of n ≡ joints_by p w
      → Onward p target w t (record { segment = t; before = Some w.segment; sound = sound; entered = e; joints = n })
  unfolding verdict
  onward_behind e n z ee en = record { same = λ (r : Route). more r ∙ rw (z, leaves_next p target w.segment t r, joints_next p w (joining t r), ee, en) }

-- ---- the last segment

pub leaving_told : (p : Panel) (target : ℕ) (s : Segment) (len x : ℕ) (r : Bool) → len ≡ (lane_at p target).len → x ≡ exit s → r ≡ (eqb s.source target && eqb x len && not s.reverse) → r ≡ leaves p target (s ∷ [])
unfolding leaves
leaving_told p target s len x r el ex e = e ∙ rw (el, ex)

module _ (p : Panel) (target : ℕ) (w : Seen) where
  pub judged_26 : not w.sound ≡ true → 26 ≡ verdict p target w []
  unfolding verdict
  judged_26 z = rw (not-true w.sound z)

  module _ (unsound : not w.sound ≡ false) where
    z : w.sound ≡ true
    z = go w.sound unsound
      where
        go : (b : Bool) → not b ≡ false → b ≡ true
        go true e = refl
        go false e = absurd (true≢false e)

    whole : verdict p target w [] ≡ unless (entered_by target w && leaves p target (w.segment ∷ [])) 27 (joints_by p w)
    unfolding verdict all joining joints_refusal
    whole = rw z (ap (unless (entered_by target w && leaves p target (w.segment ∷ [])) 27) (joints_next p w [] ∙ or_zero (joints_by p w)))

    pub judged_27 : (entered_by target w && leaves p target (w.segment ∷ [])) ≡ false → 27 ≡ verdict p target w []
    judged_27 y = rw (whole, y)

    pub judged_rest : (r : Result (Unit {0}) RouteRefusal) → (entered_by target w && leaves p target (w.segment ∷ [])) ≡ true → refusal_of r ≡ joints_by p w → refusal_of r ≡ verdict p target w []
    judged_rest r y q = q ∙ rw (whole, y)
