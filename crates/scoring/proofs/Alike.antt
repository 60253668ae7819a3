-- Things that are alike, with scores that are one number, are kept alike.
use Prim.Native.Nat.{ℕ, zero, suc, ◌<◌}
use native.Mathlib.Omega.{arith}
use native.Mathlib.Nat.{not-suc-le-zero}
use mathlib.Core.Path.{◌≡◌, refl, ap, ◌∙◌}
use mathlib.Core.Bool.{Bool, true, false, not, ◌&&◌, ◌||◌}
use mathlib.Core.List.{List, [], ◌∷◌, ◌++◌}
use lib.Dec.{ltb}
use lib.ListN.{length, get_or}
use lib.Ieee.{Float, binary64}
use Rattle.ground.specs.Lists.{pick, any, keep, cons_if}
use Rattle.evaluate.specs.Properties.{Matched}
use Rattle.search.specs.Keep.{Kept, tied_to, lowers, near, ties_to, has, adding, replaced, lowered, added, keep_one, keep_all}
use Rattle.doubles.proofs.Level.{Level, below_alike, sub_alike}

-- ---- lists that match

module _ {A : Type 0} (R : A → A → Type 0) where
  pub matched_length : (l m : List A) → Matched R l m → length l ≡ length m
  matched_length [] [] h = refl
  matched_length [] (e ∷ m) h = absurd h
  matched_length (d ∷ l) [] h = absurd h
  matched_length (d ∷ l) (e ∷ m) h = ap suc (matched_length l m h.1)

  pub matched_at : (c d : A) (l m : List A) → Matched R l m → (n : ℕ) → n < length l → R (get_or l n c) (get_or m n d)
  matched_at c d [] m h n lt = absurd (not-suc-le-zero lt)
  matched_at c d (a ∷ l) [] h n lt = absurd h
  matched_at c d (a ∷ l) (e ∷ m) h zero lt = h.0
  matched_at c d (a ∷ l) (e ∷ m) h (suc n) lt = matched_at c d l m h.1 n (omega arith)

  matched_append : (l m k n : List A) → Matched R l m → Matched R k n → Matched R (l ++ k) (m ++ n)
  matched_append [] [] k n h q = q
  matched_append [] (e ∷ m) k n h q = absurd h
  matched_append (d ∷ l) [] k n h q = absurd h
  matched_append (d ∷ l) (e ∷ m) k n h q = (h.0, matched_append l m k n h.1 q)

-- ---- what is kept

pub record KeptAlike {A : Type 0} (Alike : A → A → Type 0) (t u : Kept A) : Type 0 where
  pub best : Matched Alike t.best u.best
  pub tied : Matched Alike t.tied u.tied
  pub discarded : t.discarded ≡ u.discarded

-- those that are alike have scores that are level, and are told from others alike
module _ {A : Type 0} (score : A → Float) (same : A → A → Bool) (Alike : A → A → Type 0) (level : (d e : A) → Alike d e → Level (score d) (score e))
    (told : (d e a c : A) → Alike d e → Alike a c → same a d ≡ same c e) (m : ℕ) (w : Float) where
  abbrev All : List A → List A → Type 0
  All l k = Matched Alike l k

  lowers_alike : (d e : A) (l k : List A) → Alike d e → All l k → lowers score d l ≡ lowers score e k
  lowers_alike d e [] [] h q = refl
  lowers_alike d e [] (c ∷ k) h q = absurd q
  lowers_alike d e (a ∷ l) [] h q = absurd q
  lowers_alike d e (a ∷ l) (c ∷ k) h q = below_alike (level d e h) (level a c q.0)

  near_alike : (d e : A) (l k : List A) → Alike d e → All l k → near score w d l ≡ near score w e k
  near_alike d e [] [] h q = refl
  near_alike d e [] (c ∷ k) h q = absurd q
  near_alike d e (a ∷ l) [] h q = absurd q
  near_alike d e (a ∷ l) (c ∷ k) h q = sub_alike binary64 w (level d e h) (level a c q.0)

  has_alike : (d e : A) (l k : List A) → Alike d e → All l k → has same d l ≡ has same e k
  unfolding any
  has_alike d e [] [] h q = refl
  has_alike d e [] (c ∷ k) h q = absurd q
  has_alike d e (a ∷ l) [] h q = absurd q
  has_alike d e (a ∷ l) (c ∷ k) h q = ap (λ (b : Bool). b || has same d l) (told d e a c h q.0) ∙ ap (λ (b : Bool). same c e || b) (has_alike d e l k h q.1)

  ties_alike : (d e : A) → Alike d e → (l k : List A) → All l k → All (ties_to score (score d) w l) (ties_to score (score e) w k)
  unfolding ties_to keep
  ties_alike d e v [] [] q = tt
  ties_alike d e v [] (c ∷ k) q = absurd q
  ties_alike d e v (a ∷ l) [] q = absurd q
  ties_alike d e v (a ∷ l) (c ∷ k) q =
      go (tied_to (score d) w (score a)) (tied_to (score e) w (score c)) (sub_alike binary64 w (level a c q.0) (level d e v)) (ties_alike d e v l k q.1)
    where
      go : (x y : Bool) → x ≡ y → All (ties_to score (score d) w l) (ties_to score (score e) w k) → All (cons_if x a (ties_to score (score d) w l)) (cons_if y c (ties_to score (score e) w k))
      go x true i r = rw i (q.0, r)
      go x false i r = rw i r

  lowered_alike : (d e : A) (t u : Kept A) → Alike d e → KeptAlike Alike t u → KeptAlike Alike (lowered score same m w d t) (lowered score same m w e u)
  unfolding lowered
  lowered_alike d e t u h k = go (lowers score d t.best) (lowers score e u.best) (lowers_alike d e t.best u.best h k.best)
    where
      go : (x y : Bool) → x ≡ y → KeptAlike Alike (pick x (replaced score w d t) t) (pick y (replaced score w e u) u)
      go x true i = rw i (record { best = (h, tt); tied = ties_alike d e h t.tied u.tied k.tied; discarded = k.discarded })
      go x false i = rw i k

  adding_alike : (x y : Bool) → x ≡ y → (d e : A) (t u : Kept A) → Alike d e → KeptAlike Alike t u → KeptAlike Alike (adding x d t) (adding y e u)
  adding_alike x true i d e t u h k =
      rw i (record { best = k.best; tied = matched_append Alike t.tied u.tied (d ∷ []) (e ∷ []) k.tied (h, tt); discarded = k.discarded })
  adding_alike x false i d e t u h k = rw i (record { best = k.best; tied = k.tied; discarded = refl })

  added_alike : (d e : A) (t u : Kept A) → Alike d e → KeptAlike Alike t u → KeptAlike Alike (added score same m w d t) (added score same m w e u)
  unfolding added
  added_alike d e t u h k =
      go (near score w d t.best && not (has same d t.tied)) (near score w e u.best && not (has same e u.tied)) one
      (adding_alike (ltb (length t.tied) m) (ltb (length u.tied) m) (ap (λ (n : ℕ). ltb n m) (matched_length Alike t.tied u.tied k.tied)) d e t u h k)
    where
      one : (near score w d t.best && not (has same d t.tied)) ≡ (near score w e u.best && not (has same e u.tied))
      one =
          ap (λ (b : Bool). b && not (has same d t.tied)) (near_alike d e t.best u.best h k.best)
          ∙ ap (λ (b : Bool). near score w e u.best && not b) (has_alike d e t.tied u.tied h k.tied)

      go : (x y : Bool) → x ≡ y → KeptAlike Alike (adding (ltb (length t.tied) m) d t) (adding (ltb (length u.tied) m) e u)
          → KeptAlike Alike (pick x (adding (ltb (length t.tied) m) d t) t) (pick y (adding (ltb (length u.tied) m) e u) u)
      go x true i r = rw i r
      go x false i r = rw i k

  -- THE LAW: of those that are alike, what is kept is alike
  pub keep_alike : (l k : List A) (t u : Kept A) → Matched Alike l k → KeptAlike Alike t u → KeptAlike Alike (keep_all score same m w t l) (keep_all score same m w u k)
  unfolding keep_all keep_one
  keep_alike [] [] t u h q = q
  keep_alike [] (e ∷ k) t u h q = absurd h
  keep_alike (d ∷ l) [] t u h q = absurd h
  keep_alike (d ∷ l) (e ∷ k) t u h q =
      keep_alike l k (keep_one score same m w t d) (keep_one score same m w u e) h.1
      (added_alike d e (lowered score same m w d t) (lowered score same m w e u) h.0 (lowered_alike d e t u h.0 q))
