-- A crop cut into two non-empty ones spells the two parts joined.
use Prim.Native.Nat.{ℕ, ◌-◌, ◌≤◌, ◌<◌}
use native.Mathlib.Omega.{arith}
use mathlib.Core.Path.{◌≡◌, sym, ap, ap₂, ◌∙◌}
use mathlib.Core.List.{List, ◌++◌}
use lib.ListN.{length, drop}
use lib.Seq.{take-append_seam}
use Rattle.image.specs.Panel.{Panel, panel_of}
use Rattle.graph.specs.Check.{panel_refusal}
use Rattle.evaluate.specs.declared.Refusal.{Refusal}
use Rattle.evaluate.specs.Refusals.{no_refusal, at}
use Rattle.evaluate.specs.Words.{decode}
use Rattle.evaluate.specs.Check.{and_after, given_refusal}
use Rattle.evaluate.proofs.CheckLegal.{at_zero}
use Rattle.letters.specs.Letters.{letters_refusal}
use Rattle.spell.specs.Spelling.{spell_route, routes_in, route_in, spelled, crop_refusal, spell_refusal, spell_answer, spell_out}
use Rattle.spell.specs.Theorems.{spelled_into, CutInTwo}
use Rattle.spell.proofs.Crops.{crop_cut, Fits, fits_of, of_fits}

-- a crop is not refused exactly when 1 to 8, 39 and 40, 22 to 31, and 41 and 37 are not
pub record NotRefused (s d ws : List ℕ) (slot from to room : ℕ) : Type 0 where
  pub panel : panel_refusal s ≡ 0
  pub letters : letters_refusal (panel_of s) d ≡ 0
  pub given : (given_refusal (panel_of s) ws).number ≡ 0
  pub crop : crop_refusal (panel_of s) d ws slot from to room ≡ 0

pub not_refused : (s d ws : List ℕ) (slot from to room : ℕ) → (spell_refusal s d ws slot from to room).number ≡ 0 → NotRefused s d ws slot from to room
unfolding spell_refusal
not_refused s d ws slot from to room e =
    let c = crop_refusal (panel_of s) d ws slot from to room in
    let g = given_refusal (panel_of s) ws in
    let (a, x) = at_zero (panel_refusal s) 0 (at (letters_refusal (panel_of s) d) 0 (and_after g (at c 0 no_refusal))) e in
    let (b, y) = at_zero (letters_refusal (panel_of s) d) 0 (and_after g (at c 0 no_refusal)) x in
    let (u, z) = at_zero g.number g.place (at c 0 no_refusal) y in
    let (v, w) = at_zero c 0 no_refusal z in
    record { panel = a; letters = b; given = u; crop = v }

pub refused_not : (s d ws : List ℕ) (slot from to room : ℕ) → NotRefused s d ws slot from to room → spell_refusal s d ws slot from to room ≡ no_refusal
unfolding spell_refusal
refused_not s d ws slot from to room n = rw (n.panel, n.letters, n.given, n.crop)

module _ (p : Panel) (d ws : List ℕ) (slot from to room : ℕ) where
  pub crop_fits : crop_refusal p d ws slot from to room ≡ 0 → Fits (length (routes_in (decode ws))) (length (spell_route p d (route_in ws slot))) slot from to room
  unfolding crop_refusal
  crop_fits e = fits_of (length (routes_in (decode ws))) (length (spell_route p d (route_in ws slot))) slot from to room e

  pub fits_crop : Fits (length (routes_in (decode ws))) (length (spell_route p d (route_in ws slot))) slot from to room → crop_refusal p d ws slot from to room ≡ 0
  unfolding crop_refusal
  fits_crop f = of_fits (length (routes_in (decode ws))) (length (spell_route p d (route_in ws slot))) slot from to room f

joined_crops : (p : Panel) (d ws : List ℕ) (slot from mid to : ℕ) → from ≤ mid → mid ≤ to → spelled p d ws slot from mid ++ spelled p d ws slot mid to ≡ spelled p d ws slot from to
unfolding spelled
joined_crops p d ws slot from mid to h k = crop_cut (spell_route p d (route_in ws slot)) from mid to h k

-- what a call spells is the crop
pub spelled-into : (s d ws : List ℕ) (slot from to : ℕ) (out : List ℕ) → spell_refusal s d ws slot from to (length out) ≡ no_refusal → spelled_into s d ws slot from to out ≡ spelled (panel_of s) d ws slot from to
unfolding spelled_into spell_answer spell_out
spelled-into s d ws slot from to out e = rw e (take-append_seam (spelled (panel_of s) d ws slot from to) (drop (length (spelled (panel_of s) d ws slot from to)) out))

-- a crop within one that is accepted, if there is room for it
pub within_accepted : (s d ws : List ℕ) (slot from to room a b room' : ℕ) → NotRefused s d ws slot from to room → from ≤ a → a < b → b ≤ to → b - a ≤ room' → spell_refusal s d ws slot a b room' ≡ no_refusal
within_accepted s d ws slot from to room a b room' n x y z few =
    let f = crop_fits (panel_of s) d ws slot from to room n.crop in
    let far = f.far in
    refused_not s d ws slot a b room' (record {
      panel = n.panel;
      letters = n.letters;
      given = n.given;
      crop = fits_crop (panel_of s) d ws slot a b room' (record { named = f.named; some = y; far = omega arith; short = few });
    })

-- For the reader: the first theorem.
pub cut_in_two : CutInTwo
cut_in_two s d ws slot from mid to out left right e h k few fewer = record { first = first; second = second; joined = spelled-into s d ws slot from to out e ∙ sym both_parts }
  where
    n : NotRefused s d ws slot from to (length out)
    n = not_refused s d ws slot from to (length out) (ap (λ (q : Refusal). q.number) e)

    first : spell_refusal s d ws slot from mid (length left) ≡ no_refusal
    first = within_accepted s d ws slot from to (length out) from mid (length left) n (omega arith) h (omega arith) few

    second : spell_refusal s d ws slot mid to (length right) ≡ no_refusal
    second = within_accepted s d ws slot from to (length out) mid to (length right) n (omega arith) k (omega arith) fewer

    both_parts : spelled_into s d ws slot from mid left ++ spelled_into s d ws slot mid to right ≡ spelled (panel_of s) d ws slot from to
    both_parts = ap₂ (λ (x y : List ℕ). x ++ y) (spelled-into s d ws slot from mid left first) (spelled-into s d ws slot mid to right second) ∙ joined_crops (panel_of s) d ws slot from mid to (omega arith) (omega arith)
