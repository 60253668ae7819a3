-- The tied list, discarded or not: each of it is within the tie width of the incumbent, and no two of it are the same.
use Prim.Native.Nat.{ℕ}
use mathlib.Core.Path.{◌≡◌, refl, ap, ◌∙◌, sym}
use mathlib.Core.Bool.{Bool, true, false, not, ◌&&◌, true≢false}
use mathlib.Core.List.Memᴰ
use mathlib.Core.List.{List, [], ◌∷◌, Memᴰ}
use lib.Dec.{ltb}
use lib.ListN.{length}
use lib.Ieee.{Float}
use Rattle.ground.specs.Lists.{pick, keep}
use Rattle.evaluate.specs.Properties.{Each, Pairs}
use Rattle.evaluate.proofs.Lists.{each_append, keep_only, mem_each, pairs_keep, pairs_append, any_in}
use Rattle.search.specs.Keep.{Kept, nothing, tied_to, lowers, near, ties_to, has, adding, replaced, lowered, added, keep_one, keep_all}

module _ {A : Type 0} (score : A → Float) (same : A → A → Bool) (m : ℕ) (w : Float) where
  abbrev Other : A → A → Type 0
  Other d e = same d e ≡ true → ⊥

  pub record Well (t : Kept A) : Type 0 where
    pub within : Each (λ e. near score w e t.best ≡ true) t.tied
    pub once : Pairs (λ d e. same d e ≡ true → ⊥) t.tied

  absent : (e : A) (l : List A) → has same e l ≡ false → (d : A) → Memᴰ d l → Other d e
  absent e l h d i q = true≢false (sym (any_in (λ c. same c e) d q l i) ∙ h)

  lowered_well : (a : A) (t : Kept A) → Well t → Well (lowered score same m w a t)
  unfolding lowered ties_to
  lowered_well a t h = go (lowers score a t.best)
    where
      close : A → Bool
      close e = tied_to (score a) w (score e)

      go : (c : Bool) → Well (pick c (replaced score w a t) t)
      go true =
          record {
            within = mem_each (λ (e : A). close e ≡ true) (keep close t.tied) (λ e i. (keep_only close e t.tied i).1);
            once = pairs_keep close Other t.tied h.once;
          }
      go false = h

  added_well : (a : A) (t : Kept A) → Well t → Well (added score same m w a t)
  unfolding added
  added_well a t h = go (near score w a t.best) (has same a t.tied) refl refl (ltb (length t.tied) m)
    where
      go : (n i : Bool) → near score w a t.best ≡ n → has same a t.tied ≡ i → (room : Bool) → Well (pick (n && not i) (adding room a t) t)
      go true false e f true =
          record {
            within = each_append (λ (d : A). near score w d t.best ≡ true) t.tied (a ∷ []) h.within (e, tt);
            once = pairs_append Other t.tied (a ∷ []) h.once (tt, tt) (λ x y i n q. absent a t.tied f x i (ap (same x) (sym (Memᴰ.eq_of_singleton n)) ∙ q));
          }
      go true false e f false = record { within = h.within; once = h.once }
      go true true e f room = h
      go false i e f room = h

  all_well : (t : Kept A) (l : List A) → Well t → Well (keep_all score same m w t l)
  unfolding keep_all keep_one
  all_well t [] h = h
  all_well t (a ∷ l) h = all_well (keep_one score same m w t a) l (added_well a (lowered score same m w a t) (lowered_well a t h))

  pub kept_well : (l : List A) → Well (keep_all score same m w nothing l)
  kept_well l = all_well nothing l (record { within = tt; once = tt })
