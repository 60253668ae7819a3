-- The listing under a larger budget begins with that under the smaller.
use Prim.Native.Nat.{ℕ, zero, suc, ◌+◌, ◌-◌, ◌≤◌}
use native.Mathlib.Omega.{arith}
use mathlib.Core.Path.{◌≡◌, refl, sym, ap, ◌∙◌}
use mathlib.Core.Bool.{Bool, true, false}
use mathlib.Core.List.{List, [], ◌∷◌, ◌++◌, map, append_assoc}
use lib.Dec.{leb}
use lib.ListN.{length, take, drop, length-append}
use lib.Seq.{take-append_seam}
use borrow.Author.Tests.{leb-true, le-leb}
use Rattle.ground.specs.Lists.{pick}
use Rattle.image.specs.Panel.{panel_of}
use Rattle.evaluate.specs.Segments.{Assignment, flat}
use Rattle.evaluate.specs.Words.{encode}
use Rattle.evaluate.specs.Check.{over}
use Rattle.search.specs.declared.SearchBudget.{SearchBudget}
use Rattle.search.specs.Run.{Walked}
use Rattle.search.specs.Answers.{ListRooms, fitting, written, list_rooms}
use Rattle.enumeration.proofs.Ports.{flat_append}
use Rattle.enumeration.proofs.Resumed.{later, split}
use Rattle.certificate.specs.Terms.{handed_over}
use Rattle.certificate.specs.Larger.{LargerListsMore}
use Rattle.certificate.proofs.Scores.{map_append}
use Rattle.certificate.proofs.Listing.{evaluations_listed, written_are, words_are, out_is}

-- ---- lists

drop_longer : {A : Type 0} (n : ℕ) (l m : List A) → (k : List A) × (drop n (l ++ m) ≡ drop n l ++ k)
drop_longer zero l m = (m, refl)
drop_longer (suc n) [] m = (drop (suc n) m, refl)
drop_longer (suc n) (a ∷ l) m = drop_longer n l m

-- what fits of more, with no less room
fitting_more : (n m : ℕ) (l k : List (List ℕ)) → n ≤ m → (more : List (List ℕ)) × (fitting m (l ++ k) ≡ fitting n l ++ more)
unfolding fitting
fitting_more n m [] k h = (fitting m k, refl)
fitting_more n m (ws ∷ l) k h = go (leb (length ws) n) refl (fitting_more (n - length ws) (m - length ws) l k (omega arith))
  where
    go : (t : Bool) → leb (length ws) n ≡ t → (more : List (List ℕ)) × (fitting (m - length ws) (l ++ k) ≡ fitting (n - length ws) l ++ more)
        → (more : List (List ℕ)) × (pick (leb (length ws) m) (ws ∷ fitting (m - length ws) (l ++ k)) [] ≡ pick t (ws ∷ fitting (n - length ws) l) [] ++ more)
    go false e r = (pick (leb (length ws) m) (ws ∷ fitting (m - length ws) (l ++ k)) [], refl)
    go true e r =
        let q = leb-true (length ws) n e in
        (r.0, rw (le-leb (length ws) m (omega arith)) (ap (λ (x : List (List ℕ)). ws ∷ x) r.1))

written_more : (from n m : ℕ) (l k : List Assignment) → n ≤ m → (more : List (List ℕ)) × (written from m (l ++ k) ≡ written from n l ++ more)
unfolding written
written_more from n m l k h =
    let (d, e) = drop_longer from l k in
    let (more, f) = fitting_more n m (map encode (drop from l)) (map encode d) h in
    (more, ap (λ (x : List Assignment). fitting m (map encode x)) e ∙ ap (fitting m) (map_append encode (drop from l) d) ∙ f)

-- ---- the listing

abbrev lines : List ℕ → SearchBudget → ℕ → ListRooms → List (List ℕ)
lines s b from rooms = written from (length rooms.out) (handed_over s b)

-- For the reader: A LARGER BUDGET LISTS MORE
pub larger_lists_more : LargerListsMore
larger_lists_more s b c from rooms others first second more wide =
    let rest = (later (panel_of s) b c more).walk.out in
    let cut : handed_over s c ≡ handed_over s b ++ rest = ap (λ (w : Walked). w.walk.out) (split (panel_of s) b c more) in
    let n : length (handed_over s c) ≡ length (handed_over s b) + length rest = ap length cut ∙ length-append (handed_over s b) rest in
    let x = lines s b from rooms in
    let (y, f) = written_more from (length rooms.out) (length others.out) (handed_over s b) rest wide in
    let all : lines s c from others ≡ x ++ y = ap (written from (length others.out)) cut ∙ f in
    let m : length (lines s c from others) ≡ length x + length y = ap length all ∙ length-append x y in
    let flats : flat (lines s c from others) ≡ flat x ++ flat y = ap flat all ∙ flat_append x y in
    let k : length (flat (lines s c from others)) ≡ length (flat x) + length (flat y) = ap length flats ∙ length-append (flat x) (flat y) in
    let eb = evaluations_listed s b from rooms first in
    let ec = evaluations_listed s c from others second in
    let wb = written_are s b from rooms first in
    let wc = written_are s c from others second in
    let vb = words_are s b from rooms first in
    let vc = words_are s c from others second in
    record {
      evaluations = omega arith;
      written = omega arith;
      words = omega arith;
      first = ap (λ (i : ℕ). take i (list_rooms s c from others).out) vb
          ∙ ap (take (length (flat x))) (out_is s c from others second ∙ ap (λ (l : List ℕ). over l others.out) flats ∙ append_assoc (flat x) (flat y) (drop (length (flat x ++ flat y)) others.out))
          ∙ take-append_seam (flat x) (flat y ++ drop (length (flat x ++ flat y)) others.out)
          ∙ sym (ap (λ (i : ℕ). take i (list_rooms s b from rooms).out) vb ∙ ap (take (length (flat x))) (out_is s b from rooms first) ∙ take-append_seam (flat x) (drop (length (flat x)) rooms.out));
    }
