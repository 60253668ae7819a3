-- The native assignment of every family of an accepted panel is legal.
use Prim.Native.Nat.{ℕ, zero, suc, ◌≤◌, ◌<◌}
use native.Mathlib.Nat.{not-suc-le-zero}
use native.Mathlib.Omega.{arith}
use mathlib.Core.Path.{◌≡◌, refl, sym, ap, ◌∙◌, subst}
use mathlib.Core.Bool.{Bool, true, false, not, ◌&&◌, ◌||◌}
use mathlib.Core.List.{List, [], ◌∷◌, map}
use lib.Dec.{leb, ltb, eqb}
use lib.ListN.{length, take, drop, get_or}
use borrow.Author.Tests.{eqb-false, ltb-true, leb-true, not-true}
use Rattle.ground.specs.Lists.{within, all, any, split, distinct}
use Rattle.ground.proofs.ListLaws.{both, all_at}
use Rattle.storage.specs.declared.Port.{Port}
use Rattle.image.specs.declared.Header.{Header}
use Rattle.image.specs.declared.Entry.{Entry}
use Rattle.image.specs.declared.PanelRefusal.{PanelRefusal}
use Rattle.std.specs.declared.result.Result.{Result}
use Rattle.std.specs.declared.result.Result.TheVariants.{Ok, Err}
use Rattle.image.specs.Header.{header_of}
use Rattle.image.specs.Image.{entries, counts, lane_ports, families, paths, path_counts, no_entry}
use Rattle.image.specs.Inner.{Framed}
use Rattle.image.specs.Panel.{Panel, panel_of, panel_by, zip_lanes, no_lane, lane_at, paths_at}
use Rattle.image.proofs.Laws.{entries_length, rows_length}
use Rattle.families.specs.Families.{names, no_twice, sound5a, sound5b, sound5}
use Rattle.panel.specs.Refusals.{length_ok}
use Rattle.panel.specs.Inner.{Accepted}
use Rattle.graph.specs.Check.{checked}
use Rattle.graph.proofs.Laws.{accepted_of, refusal_some}
use Rattle.evaluate.specs.Properties.{Each, Pairs, Matched}
use Rattle.graph.specs.Check.{refusal_of, panel_refusal}
use Rattle.evaluate.specs.Segments.{flat, whole, native_of}
use Rattle.evaluate.specs.Legal.{LegalRoute, Apart, Legal}

-- ---- whole lanes

-- a lane of the panel with a base
pub record Standing (p : Panel) (lane : ℕ) : Type 0 where
  pub named : lane < length p.lanes
  pub some : 0 < (lane_at p lane).len

module _ (p : Panel) where
  whole_legal : (lane : ℕ) → Standing p lane → LegalRoute p lane (whole p lane)
  whole_legal lane h =
      record {
        spans = (record { lane = h.named; some = h.some; inside = omega arith }, tt);
        normal = tt;
        enters = record { lane = refl; forward = refl; at_start = refl };
        leaves = record { lane = refl; forward = refl; at_end = refl };
        joints = tt;
      }

  wholes_legal : (lanes : List ℕ) → Each (Standing p) lanes → Matched (LegalRoute p) lanes (map (whole p) lanes)
  wholes_legal [] h = tt
  wholes_legal (l ∷ ls) h = (whole_legal l h.0, wholes_legal ls h.1)

  -- two lanes share no base
  one_apart : (l : ℕ) (ls : List ℕ) → any (eqb l) ls ≡ false → Each (Apart (record { source = l; start = 0; end = (lane_at p l).len; reverse = false })) (flat (map (whole p) ls))
  unfolding any
  one_apart l [] h = tt
  one_apart l (m ∷ ls) h = (λ c. eqb-false l m (left (eqb l m) (any (eqb l) ls) h) (c.left.lane ∙ sym c.right.lane), one_apart l ls (right (eqb l m) (any (eqb l) ls) h))
    where
      left : (a b : Bool) → (a || b) ≡ false → a ≡ false
      left true b e = e
      left false b e = refl

      right : (a b : Bool) → (a || b) ≡ false → b ≡ false
      right true b e = let z : ◌≡◌ {A = ℕ} 0 1 = cc in absurd (omega arith)
      right false b e = e

  wholes_apart : (lanes : List ℕ) → distinct eqb lanes ≡ true → Pairs Apart (flat (map (whole p) lanes))
  unfolding distinct
  wholes_apart [] h = tt
  wholes_apart (l ∷ ls) h =
      let (a, b) = both (not (any (eqb l) ls)) (distinct eqb ls) h in
      (one_apart l ls (not-true (any (eqb l) ls) a), wholes_apart ls b)

  -- distinct lanes of the panel, each whole
  pub native-of : (f : ℕ) → f < length p.families → Each (Standing p) (paths_at p f) → distinct eqb (paths_at p f) ≡ true → Legal p (native_of p f)
  native-of f lt h d = record { family = lt; routes = wholes_legal (paths_at p f) h; apart = wholes_apart (paths_at p f) d }

-- ---- what the check of the panel leaves

all_take : {A : Type 0} (f : A → Bool) (n : ℕ) (l : List A) → all f l ≡ true → all f (take n l) ≡ true
unfolding all
all_take f zero l h = refl
all_take f (suc n) [] h = refl
all_take f (suc n) (a ∷ l) h = let (x, y) = both (f a) (all f l) h in rw (x, all_take f n l y)

all_drop : {A : Type 0} (f : A → Bool) (n : ℕ) (l : List A) → all f l ≡ true → all f (drop n l) ≡ true
unfolding all
all_drop f zero l h = h
all_drop f (suc n) [] h = refl
all_drop f (suc n) (a ∷ l) h = all_drop f n l (both (f a) (all f l) h).1

-- a test that all pass, all of each part pass
all_split : {A : Type 0} (f : A → Bool) (ns : List ℕ) (l : List A) (j : ℕ) → all f l ≡ true → all f (get_or (split ns l) j []) ≡ true
unfolding split all
all_split f [] l j h = refl
all_split f (n ∷ ns) l zero h = all_take f n l h
all_split f (n ∷ ns) l (suc j) h = all_split f ns (drop n l) j (all_drop f n l h)

zip_length : (es : List Entry) (rs : List (List Port)) → length rs ≡ length es → length (zip_lanes es rs) ≡ length es
unfolding zip_lanes
zip_length [] rs e = refl
zip_length (x ∷ es) [] e = let z : ⊥ = omega arith in absurd z
zip_length (x ∷ es) (r ∷ rs) e = ap suc (zip_length es rs (omega arith))

zip_len : (es : List Entry) (rs : List (List Port)) (i : ℕ) → i < length es → length rs ≡ length es → (get_or (zip_lanes es rs) i no_lane).len ≡ (get_or es i no_entry).len
unfolding zip_lanes
zip_len [] rs i h e = absurd (not-suc-le-zero h)
zip_len (x ∷ es) [] i h e = let z : ⊥ = omega arith in absurd z
zip_len (x ∷ es) (r ∷ rs) zero h e = refl
zip_len (x ∷ es) (r ∷ rs) (suc i) h e = zip_len es rs i (omega arith) (omega arith)

module _ (s : List ℕ) (h : Header) (a : Accepted s h) where
  framed : Framed s h
  framed = a.counted.framed

  same : header_of s ≡ h
  same = sym framed.header

  rows : length (split (counts h s) (lane_ports h s)) ≡ length (entries h s)
  rows = rows_length s h framed ∙ sym (entries_length s h framed)

  pub lanes_length : length (panel_of s).lanes ≡ h.lanes
  unfolding panel_of panel_by
  lanes_length = rw same (zip_length (entries h s) (split (counts h s) (lane_ports h s)) rows ∙ entries_length s h framed)

  pub lane_len : (i : ℕ) → i < h.lanes → (lane_at (panel_of s) i).len ≡ (get_or (entries h s) i no_entry).len
  unfolding panel_of panel_by
  lane_len i lt = rw same (zip_len (entries h s) (split (counts h s) (lane_ports h s)) i (rw (entries_length s h framed) lt) rows)

  pub panel_families : (panel_of s).families ≡ families h s
  unfolding panel_of panel_by
  panel_families = rw same

  -- a lane of an accepted panel has a base
  pub standing : (i : ℕ) → i < h.lanes → Standing (panel_of s) i
  unfolding length_ok
  standing i lt =
      let ok : within 1 4294967295 (get_or (entries h s) i no_entry).len ≡ true = all_at no_entry length_ok (entries h s) i a.lengths (rw (entries_length s h framed) lt) in
      let one : 1 ≤ (get_or (entries h s) i no_entry).len = leb-true 1 _ (both (leb 1 (get_or (entries h s) i no_entry).len) (leb (get_or (entries h s) i no_entry).len 4294967295) ok).0 in
      record { named = rw lanes_length lt; some = rw (lane_len i lt) one }

  all_standing : (l : List ℕ) → all (names h) l ≡ true → Each (Standing (panel_of s)) l
  unfolding all names
  all_standing [] e = tt
  all_standing (i ∷ l) e =
      let (x, y) = both (ltb i h.lanes) (all (names h) l) e in
      (standing i (ltb-true i h.lanes x), all_standing l y)

  pub native_accepted : (f : ℕ) → f < length (panel_of s).families → Legal (panel_of s) (native_of (panel_of s) f)
  unfolding sound5 sound5b families no_twice
  native_accepted f lt =
      let (x, y) = both (sound5a h s) (all (names h) (paths h s) && all no_twice (split (path_counts h s) (paths h s))) a.familied in
      let (named, apart) = both (all (names h) (paths h s)) (all no_twice (split (path_counts h s) (paths h s))) y in
      let is : paths_at (panel_of s) f ≡ get_or (split (path_counts h s) (paths h s)) f [] = ap (λ (l : List (List ℕ)). get_or l f []) panel_families in
      let room : f < length (split (path_counts h s) (paths h s)) = subst (λ (l : List (List ℕ)). f < length l) panel_families lt in
      native-of (panel_of s) f lt
      (rw is (all_standing (get_or (split (path_counts h s) (paths h s)) f []) (all_split (names h) (path_counts h s) (paths h s) f named)))
      (rw is (all_at [] no_twice (split (path_counts h s) (paths h s)) f apart room))

-- ---- the check and the number 0

-- what the number 0 says: the check accepts the panel
pub record Taken (s : List ℕ) : Type 0 where
  pub header : Header
  pub accepted : Accepted s header

pub taken : (s : List ℕ) → panel_refusal s ≡ 0 → Taken s
unfolding panel_refusal
taken s e = go (checked s) refl e
  where
    go : (o : Result Header PanelRefusal) → checked s ≡ o → refusal_of o ≡ 0 → Taken s
    go (Ok h) q z = record { header = h; accepted = accepted_of s h q }
    go (Err e) q z = let some = refusal_some e in absurd (omega arith)

-- THE NATIVES ARE LEGAL
pub native_legal : (s : List ℕ) → panel_refusal s ≡ 0 → (f : ℕ) → f < length (panel_of s).families → Legal (panel_of s) (native_of (panel_of s) f)
native_legal s e f lt = let t = taken s e in native_accepted s t.header t.accepted f lt
