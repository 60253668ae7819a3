-- One evaluation of a listing, its start and its end: what is left gives the whole.
use Prim.Native.Nat.{ℕ, zero, suc, ◌+◌, ◌-◌, ◌*◌, ◌≤◌, ◌<◌}
use native.Mathlib.Nat.{add-zero, zero-add, sub-zero}
use native.Mathlib.Omega.{arith}
use mathlib.Core.Path.{◌≡◌, refl, ap, ◌∙◌}
use mathlib.Core.Bool.{Bool, true, false}
use mathlib.Core.List.{List, [], ◌∷◌, map}
use lib.ListN.{length, drop, length-append, length-drop, take-append-drop, length-map}
use lib.Seq.{drop-drop, drop-append-add}
use Rattle.image.specs.declared.Header.{Header}
use Rattle.image.specs.declared.Family.{Family}
use Rattle.image.specs.Inner.{Groups}
use Rattle.image.specs.Panel.{Panel, panel_of, paths_at}
use Rattle.panel.specs.Inner.{Accepted}
use Rattle.evaluate.specs.Segments.{Assignment, native_of, whole, flat}
use Rattle.evaluate.specs.Words.{encode}
use Rattle.evaluate.specs.Check.{over}
use Rattle.search.specs.declared.Tally.{Tally}
use Rattle.search.specs.Walk.{Frame}
use Rattle.search.specs.Run.{Walked, Ending}
use Rattle.search.specs.Answers.{fitting, written}
use Rattle.enumeration.proofs.Room.{encode_length}
use Rattle.walks.specs.Inner.{walk_of, before}
use Rattle.writer.specs.Inner.{Written}
use Rattle.writer.proofs.Laws.{native_length}
use Rattle.listing.specs.declared.Listing.{Listing}
use Rattle.listing.specs.Inner.{to_list, Handed, comes_to, none_listed, Spared}

-- ---- the words of an evaluation

module _ (a : Assignment) {xs ys : List ℕ} {n : ℕ} (w : Written (encode a) xs ys n) where
  pub some_words : 0 < n
  some_words = let e = encode_length a in let c = w.count in omega arith

  pub words_within : length (encode a) ≤ length xs → length ys ≡ length xs → n ≤ length ys
  words_within l k = let c = w.count in omega arith

pieces : (p : Panel) (l : List ℕ) → length (flat (map (whole p) l)) ≡ length l
pieces p [] = refl
pieces p (x ∷ l) = ap suc (pieces p l)

pub native-words : (s : List ℕ) (h : Header) (f : Family) (n : ℕ) → Accepted s h → Groups s h f → length (encode (native_of (panel_of s) f.number)) ≤ n → 2 + 5 * f.count ≤ n
native-words s h f n acc g l =
    let e = encode_length (native_of (panel_of s) f.number) in
    let m : length (map (whole (panel_of s)) (paths_at (panel_of s) f.number)) ≡ length (paths_at (panel_of s) f.number) = length-map (paths_at (panel_of s) f.number) (whole (panel_of s)) in
    let q = pieces (panel_of s) (paths_at (panel_of s) f.number) in
    let c = native_length s h f acc g in
    omega arith

-- ---- the slot

pub spared_none : (v : ℕ) (xs : List ℕ) → Spared v xs xs
spared_none v xs = record { long = refl; rest = refl }

pub spared_on : {v : ℕ} {xs ys zs : List ℕ} → Spared v xs ys → Spared v ys zs → Spared v xs zs
spared_on k l = record { long = l.long ∙ k.long; rest = l.rest ∙ k.rest }

drop_over : (ws xs : List ℕ) (v : ℕ) → length ws ≤ v → drop v (over ws xs) ≡ drop v xs
drop_over ws xs v h =
    let e : length ws + (v - length ws) ≡ v = omega arith in
    rw e at (drop-append-add ws (drop (length ws) xs) (v - length ws) ∙ drop-drop (v - length ws) (length ws) xs)

pub spared_over : (v : ℕ) (ws xs ys : List ℕ) → ys ≡ over ws xs → length ws ≤ v → v ≤ length xs → Spared v xs ys
spared_over v ws xs ys e l h =
    let a = length-append ws (drop (length ws) xs) in
    let d = length-drop (length ws) xs in
    record { long = rw e (omega arith); rest = rw e (drop_over ws xs v l) }

-- ---- one evaluation

module _ (a : Assignment) (r : Walked) {l l' : Listing} {out out' : List ℕ} (h : Handed (encode a) out out' l l') where
  pub comes_one : comes_to (before a r) l out ≡ comes_to r l' out'
  unfolding comes_to
  comes_one =
      let e1 = h.room (map encode r.walk.out) in
      let e2 = h.written (map encode r.walk.out) in
      let e3 = h.words (map encode r.walk.out) in
      λ i. record { ending = r.ending; stack = r.walk.stack; evaluations = r.walk.evaluations; room = e1 i; written = e2 i; words = e3 i }

-- ---- the end

lists_none : (room skip words : ℕ) (full : Bool) → to_list room full skip words [] ≡ []
unfolding fitting
lists_none room skip words true = refl
lists_none room zero words false = refl
lists_none room (suc skip) words false = refl

module _ (e : Ending) (t : Tally) (stack : List Frame) (l : Listing) (out : List ℕ) where
  pub comes_end : comes_to (record { ending = e; walk = walk_of t stack }) l out ≡ record { ending = e; stack = stack; evaluations = t.evaluations; room = out; written = l.written; words = l.words }
  unfolding comes_to
  comes_end = rw (lists_none (length out) l.skip l.words l.full, add-zero l.words, add-zero l.written, take-append-drop l.words out)

-- ---- the start

drop_map : {A B : Type 0} (f : A → B) (n : ℕ) (l : List A) → drop n (map f l) ≡ map f (drop n l)
drop_map f zero l = refl
drop_map f (suc n) [] = refl
drop_map f (suc n) (x ∷ l) = drop_map f n l

pub comes_start : (r : Walked) (from : ℕ) (out : List ℕ)
    → comes_to r (none_listed from) out
    ≡ record {
      ending = r.ending;
      stack = r.walk.stack;
      evaluations = r.walk.evaluations;
      room = over (flat (written from (length out) r.walk.out)) out;
      written = length (written from (length out) r.walk.out);
      words = length (flat (written from (length out) r.walk.out));
    }
unfolding comes_to written
comes_start r from out = rw (drop_map encode from r.walk.out, sub-zero (length out)) (simp zero-add)
