-- Laws of a job's parts.
use Prim.Native.Nat.{ℕ, zero, suc, ◌+◌, ◌-◌, ◌*◌, ◌≤◌, ◌<◌}
use native.Mathlib.Omega.{arith}
use native.Mathlib.Nat.{zero-mul, suc-mul}
use native.Mathlib.Numerals.{add-one}
use mathlib.Core.Path.{◌≡◌, refl, sym, ap, ◌∙◌}
use mathlib.Core.Bool.{Bool, true, false, ◌&&◌, ◌||◌}
use mathlib.Core.List.{List, [], ◌∷◌, ◌++◌, map}
use lib.Dec.{leb, eqb}
use lib.ListN.{length, take, drop, set, length-drop}
use lib.Seq.{drop-drop, take-suc-set, take_all}
use lib.Ieee.{Float}
use borrow.Author.Tests.{le-leb, leb-true, eqb-true}
use Rattle.ground.specs.Lists.{pick, each}
use Rattle.ground.proofs.ListLaws.{both}
use Rattle.storage.specs.Bytes.{number}
use Rattle.search.specs.Job.{panel_bytes, budget_words, score_count, panel_in, job_ok, double_of, default_budget, budget_from, budget_in}

-- ---- 16

module _ (s : List ℕ) where
  abbrev counted : Bool
  counted = (eqb (budget_words s) 0 || eqb (budget_words s) 5) && leb (score_count s) 1024

  -- what is left of the test where the length is that of a job
  abbrev pub added : Bool
  added = counted && eqb (length s) (24 + panel_bytes s + 8 * budget_words s + 8 * score_count s)

  job_is : job_ok s ≡ (leb 24 (length s) && leb (length s) 24576 && added)
  unfolding job_ok
  job_is = go (leb 24 (length s) && leb (length s) 24576) (eqb (budget_words s) 0 || eqb (budget_words s) 5) (leb (score_count s) 1024) _
    where
      go : (a w f e : Bool) → (a && w && f && e) ≡ (a && (w && f && e))
      go true w f e = refl
      go false w f e = refl

  pub not_long : ((24 ≤ length s) × (length s ≤ 24576) → ⊥) → job_ok s ≡ false
  not_long f = go (job_ok s) refl
    where
      go : (t : Bool) → job_ok s ≡ t → t ≡ false
      go false e = refl
      go true e =
          let (size, _) = both (leb 24 (length s) && leb (length s) 24576) added (sym job_is ∙ e) in
          let (a, b) = both (leb 24 (length s)) (leb (length s) 24576) size in
          absurd (f (leb-true 24 (length s) a, leb-true (length s) 24576 b))

  pub job_added : 24 ≤ length s → length s ≤ 24576 → job_ok s ≡ added
  job_added lo hi = job_is ∙ rw (le-leb 24 (length s) lo, le-leb (length s) 24576 hi)

  module _ (a : added ≡ true) where
    pub job_sum : length s ≡ 24 + panel_bytes s + 8 * budget_words s + 8 * score_count s
    job_sum = eqb-true (length s) (24 + panel_bytes s + 8 * budget_words s + 8 * score_count s) (both counted (eqb (length s) (24 + panel_bytes s + 8 * budget_words s + 8 * score_count s)) a).1

    counts : counted ≡ true
    counts = (both counted (eqb (length s) (24 + panel_bytes s + 8 * budget_words s + 8 * score_count s)) a).0

    pub job_few : score_count s ≤ 1024
    job_few = leb-true (score_count s) 1024 (both (eqb (budget_words s) 0 || eqb (budget_words s) 5) (leb (score_count s) 1024) counts).1

  -- the bytes from a place to the end
  pub to_end : (at : ℕ) → take (length s - at) (drop at s) ≡ drop at s
  to_end at = take_all (length s - at) (drop at s) (omega (arith, length-drop at s))

  pub panel_is : (panel : ℕ) → panel ≡ panel_bytes s → take (24 + panel - 24) (drop 24 s) ≡ panel_in s
  panel_is panel e = let m : 24 + panel - 24 ≡ panel_bytes s = omega arith in ap (λ n. take n (drop 24 s)) m

  pub budget_is : (panel words : ℕ) → panel ≡ panel_bytes s → words ≡ budget_words s → pick (eqb words 0) default_budget (budget_from (take (length s - (24 + panel)) (drop (24 + panel) s))) ≡ budget_in s
  unfolding budget_in
  budget_is panel words ep ew = rw (to_end (24 + panel), ep, ew)

  pub scores_are : (panel words : ℕ) → panel ≡ panel_bytes s → words ≡ budget_words s → take (length s - (24 + panel + 8 * words)) (drop (24 + panel + 8 * words) s) ≡ drop (24 + panel_bytes s + 8 * budget_words s) s
  scores_are panel words ep ew = rw (to_end (24 + panel + 8 * words), ep, ew)

  pub scores_long : added ≡ true → length (drop (24 + panel_bytes s + 8 * budget_words s) s) ≡ 8 * score_count s
  scores_long a = let n = job_sum a in length-drop (24 + panel_bytes s + 8 * budget_words s) s ∙ (omega arith)

-- ---- the scores

each_snoc : {A : Type 0} (f : List ℕ → A) (w i : ℕ) (s : List ℕ) → each f w (suc i) s ≡ each f w i s ++ (f (drop (i * w) s) ∷ [])
unfolding each
each_snoc f w zero s = rw zero-mul
each_snoc f w (suc i) s =
    let z : w + i * w ≡ suc i * w = sym (suc-mul i w ∙ (omega arith)) in
    ap (λ l. f s ∷ l) (each_snoc f w i (drop w s) ∙ rw (drop-drop (i * w) w s, z))

map_snoc : {A B : Type 0} (g : A → B) (l : List A) (a : A) → map g (l ++ (a ∷ [])) ≡ map g l ++ (g a ∷ [])
map_snoc g [] a = refl
map_snoc g (x ∷ l) a = ap (λ m. g x ∷ m) (map_snoc g l a)

-- those before i are read
pub scores_next : (s : List ℕ) (xs : List Float) (i w : ℕ) (x : Float) → i < length xs → take i xs ≡ map double_of (each number 8 i s) → w ≡ number (drop (8 * i) s) → x ≡ double_of w
    → take (i + 1) (set xs i x) ≡ map double_of (each number 8 (i + 1) s)
scores_next s xs i w x here e ew ex =
    let place : i * 8 ≡ 8 * i = omega arith in
    let last : double_of (number (drop (i * 8) s)) ≡ x = rw place (sym (ex ∙ rw ew)) in
    rw (add-one) (take-suc-set xs i x here ∙ rw (e, each_snoc number 8 i s, map_snoc double_of (each number 8 i s) (number (drop (i * 8) s)), last))
