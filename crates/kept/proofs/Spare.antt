-- The spare written, and the rooms zeroed: what makes them tidy, and what stays of the view.
use mathlib.Core.Path.{◌≡◌, sym, ap, ap₂, ◌∙◌, subst}
use Rattle.std.specs.declared.option.Option.{Option}
use Rattle.std.specs.declared.option.Option.TheVariants.{Some}
use mathlib.Core.List.{List, ◌++◌, append_assoc}
use Prim.Native.Nat.{ℕ, suc, ◌+◌, ◌-◌, ◌*◌, ◌≤◌, ◌<◌}
use native.Mathlib.Omega.{arith}
use native.Mathlib.Nat.{add-mul, one-mul, mul-le-mul_right}
use native.Mathlib.Numerals.{add-one}
use lib.ListN.{length, take, drop, get_or, replicate, length-drop, length-replicate, take-append-drop, replicate-append-replicate}
use lib.Seq.{drop-drop, drop_at, length-take-le, drop-append-le}
use borrow.Rule.Slice.PartMut.{put_mid, mid_of}
use lib.Ieee.{Float, nan}
use Rattle.search.specs.Keep.{Kept, keep_one}
use Rattle.search.specs.Rooms.{pad_to}
use Rattle.search.proofs.Sizes.{pad_length}
use Rattle.slots.specs.Inner.{splice, part, slot_at, put_slot, Held, held_score, same_held, blank, held_in, Beyond, Blanked}
use Rattle.slots.proofs.Slots.{length_put, put_suc, drop_put}
use Rattle.kept.specs.Inner.{besides, first_of, ties_of, view_of, offered_of, no_holding, Tidy, Ready, Left, Recorded, Begun}
use Rattle.kept.specs.declared.Holding.{Holding}
use Rattle.kept.proofs.Steps.{drop_more, take_first, held_put_past, slot_put_same}

-- ---- the spare written
module _ {v m : ℕ} {b : Option Holding} {xs : List ℕ} {ss : List Float} where
  ties_spare : (ws : List ℕ) (n : ℕ) → Tidy v m b xs ss → n ≤ m → ties_of v n (put_slot v xs (m + 1) ws) ss ≡ ties_of v n xs ss
  unfolding ties_of
  ties_spare ws n t h =
      let hx : m * v + v + v ≤ length xs = t.longx in
      let lv : length (take v xs) ≡ v = length-take-le v xs (omega arith) in
      let d : drop v (put_slot v xs (m + 1) ws) ≡ put_slot v (drop v xs) m ws = rw (add-one m, put_suc v xs m ws) (drop_at (take v xs) (put_slot v (drop v xs) m ws) v lv) in
      rw d (held_put_past v n m (drop v xs) (drop 1 ss) ws h (rw length-drop (omega arith)))

  first_spare : (ws : List ℕ) → Tidy v m b xs ss → first_of v (put_slot v xs (m + 1) ws) ss ≡ first_of v xs ss
  first_spare ws t = ap (λ (w : List ℕ). record { words = w; score = get_or ss 0 nan }) (take_first v m xs ws (omega (arith, t.longx)))

  pub tidy_written : (ws : List ℕ) → length ws ≡ v → Tidy v m b xs ss → Tidy v m b (put_slot v xs (m + 1) ws) ss
  tidy_written ws e t =
      record {
        few = t.few;
        longx = rw (length_put v xs (m + 1) ws e (rw (add-mul, one-mul) t.longx)) t.longx;
        longs = t.longs;
        unused = rw (ties_spare ws m t (omega arith)) t.unused;
        fresh = λ z. first_spare ws t ∙ t.fresh z;
      }

  pub view_written : (ws : List ℕ) → Tidy v m b xs ss → view_of v b (put_slot v xs (m + 1) ws) ss ≡ view_of v b xs ss
  unfolding view_of
  view_written ws t = rw (first_spare ws t, ties_spare ws (besides b).count t t.few)

-- ---- the rooms zeroed
module _ {v m : ℕ} {xs : List ℕ} {ss : List Float} {x₁ : List ℕ} {s₁ : List Float} where
  tidy_blank : m * v + v + v ≤ length xs → m < length ss → Blanked v 0 (m + 1) xs ss x₁ s₁ → Tidy v m no_holding x₁ s₁
  unfolding ties_of held_in
  tidy_blank hx hs p =
      let e : 0 + (m + 1) ≡ suc m = omega arith in
      let f : m + 1 ≡ suc m = omega arith in
      let d : held_in v (suc m) x₁ s₁ ≡ replicate (suc m) (blank v) = ap (λ (n : ℕ). held_in v n x₁ s₁) (sym e) ∙ p.done ∙ ap (λ (n : ℕ). replicate n (blank v)) f in
      let z : m - 0 ≡ m = omega arith in
      record {
        few = omega arith;
        longx = rw p.beyond.longx hx;
        longs = rw p.beyond.longs hs;
        unused = rw z (ap (drop 1) d);
        fresh = λ q. ap (λ (l : List Held). get_or l 0 (blank v)) d;
      }

  pub begun : {x₂ : List ℕ} → m * v + v + v ≤ length xs → m < length ss → Blanked v 0 (m + 1) xs ss x₁ s₁ → x₂ ≡ put_slot v x₁ (m + 1) (replicate v 0) → Begun v m xs ss x₂ s₁
  begun hx hs p q =
      let lr : length {A = ℕ} (replicate v 0) ≡ v = length-replicate v 0 in
      let h₁ : m * v + v + v ≤ length x₁ = rw p.beyond.longx hx in
      let sf : (m + 1) * v + v ≤ length x₁ = rw (add-mul, one-mul) h₁ in
      let n2 : m * v + v + v ≡ (m + 1 + 1) * v = rw (add-mul (m + 1) 1 v, add-mul m 1 v, one-mul) in
      let e : 0 + (m + 1) ≡ m + 1 = omega arith in
      let b : Beyond v (m + 1) xs ss x₁ s₁ = subst (λ (n : ℕ). Beyond v n xs ss x₁ s₁) e p.beyond in
      record {
        ready = record { tidy = rw q (tidy_written (replicate v 0) lr (tidy_blank hx hs p)); spare = rw q (slot_put_same v (m + 1) x₁ (replicate v 0) lr (omega arith)) };
        left = record {
          longx = rw q (length_put v x₁ (m + 1) (replicate v 0) lr sf) ∙ b.longx;
          longs = b.longs;
          restx = rw (q, n2) (drop_put v (m + 1 + 1) (m + 1) x₁ (replicate v 0) (omega arith) (rw (← n2) h₁) lr
              ∙ drop_more ((m + 1) * v) ((m + 1 + 1) * v) x₁ xs (mul-le-mul_right v (omega arith)) b.restx);
          rests = b.rests;
        };
      }

-- ---- the spare lent to a writer
-- n words from the spare on are lent, the writer's words stand first in them afterwards, and the rest of them stays
pub written : (v m n : ℕ) (xs ws ys : List ℕ) → slot_at v xs (m + 1) ≡ replicate v 0 → length ws ≤ v → v ≤ n → (m + 1) * v + n ≤ length xs
    → ys ≡ ws ++ drop (length ws) (mid_of ((m + 1) * v) n xs) → put_mid ((m + 1) * v) n xs ys ≡ put_slot v xs (m + 1) (pad_to v ws)
unfolding put_slot splice slot_at part
written v m n xs ws ys s h k l q =
    let lm : length (take n (drop ((m + 1) * v) xs)) ≡ n = length-take-le n (drop ((m + 1) * v) xs) (rw length-drop (omega arith)) in
    let lp : length (ws ++ replicate (v - length ws) 0) ≡ v = pad_length v ws h in
    let whole : drop (length ws) (take n (drop ((m + 1) * v) xs)) ++ drop n (drop ((m + 1) * v) xs) ≡ drop (length ws) (drop ((m + 1) * v) xs) =
    sym (drop-append-le (length ws) (take n (drop ((m + 1) * v) xs)) (drop n (drop ((m + 1) * v) xs)) (omega arith)) ∙ ap (drop (length ws)) (take-append-drop n (drop ((m + 1) * v) xs)) in
    let zeros : drop ((m + 1) * v) xs ≡ replicate v 0 ++ drop ((m + 1) * v + v) xs =
    sym (take-append-drop v (drop ((m + 1) * v) xs)) ∙ ap₂ (λ (x : List ℕ) (y : List ℕ). x ++ y) s (drop-drop v ((m + 1) * v) xs) in
    let z : length ws + (v - length ws) ≡ v = omega arith in
    let r : ◌≡◌ {A = List ℕ} (replicate v 0) (replicate (length ws) 0 ++ replicate (v - length ws) 0) = sym (replicate-append-replicate (length ws) (v - length ws) 0 ∙ ap (λ (k : ℕ). replicate {A = ℕ} k 0) z) in
    let w : drop (length ws) (drop ((m + 1) * v) xs) ≡ replicate (v - length ws) 0 ++ drop ((m + 1) * v + v) xs =
    ap (drop (length ws)) (zeros ∙ ap (λ (t : List ℕ). t ++ drop ((m + 1) * v + v) xs) r ∙ append_assoc (replicate (length ws) 0) (replicate (v - length ws) 0) (drop ((m + 1) * v + v) xs))
    ∙ drop_at (replicate (length ws) 0) (replicate (v - length ws) 0 ++ drop ((m + 1) * v + v) xs) (length ws) (length-replicate (length ws) 0) in
    ap (λ (t : List ℕ). take ((m + 1) * v) xs ++ (t ++ drop n (drop ((m + 1) * v) xs))) q
    ∙ ap (λ (t : List ℕ). take ((m + 1) * v) xs ++ t) (append_assoc ws (drop (length ws) (take n (drop ((m + 1) * v) xs))) (drop n (drop ((m + 1) * v) xs)) ∙ ap (λ (t : List ℕ). ws ++ t) (whole ∙ w))
    ∙ rw lp (simp append_assoc)

-- one evaluation whose words were written into the spare
pub record Noted (v m : ℕ) (width score : Float) (ws : List ℕ) (b : Option Holding) (xs₀ : List ℕ) (ss₀ : List Float) (xs : List ℕ) (ss : List Float) (r : Holding) : Type 0 where
  pub ready : Ready v m (Some r) xs ss
  pub view : view_of v (Some r) xs ss ≡ keep_one held_score same_held m width (view_of v b xs₀ ss₀) (record { words = pad_to v ws; score = score })
  pub left : Left v m xs₀ ss₀ xs ss

-- it may be recorded, and the spare that was written leaves no trace but what is kept
pub written_tidy : {v m : ℕ} {b : Option Holding} {xs : List ℕ} {ss : List Float} (ws : List ℕ) → Ready v m b xs ss → length ws ≤ v → Tidy v m b (put_slot v xs (m + 1) (pad_to v ws)) ss
written_tidy {v} ws t h = tidy_written (pad_to v ws) (pad_length v ws h) t.tidy

pub noted : {v m : ℕ} {width score : Float} {b : Option Holding} {xs zs : List ℕ} {ss ts : List Float} {r : Holding} (ws : List ℕ) → Ready v m b xs ss → length ws ≤ v
    → Recorded v m width score b (put_slot v xs (m + 1) (pad_to v ws)) ss zs ts r → Noted v m width score ws b xs ss zs ts r
unfolding offered_of
noted {v} {m} {width} {score} {b} {xs} {zs} {ss} {ts} {r} ws t h p =
    let lp : length (pad_to v ws) ≡ v = pad_length v ws h in
    let hx : (m + 1) * v + v ≤ length xs = rw (add-mul, one-mul) t.tidy.longx in
    let n2 : m * v + v + v ≡ (m + 1 + 1) * v = rw (add-mul (m + 1) 1 v, add-mul m 1 v, one-mul) in
    let sp : slot_at v (put_slot v xs (m + 1) (pad_to v ws)) (m + 1) ≡ pad_to v ws = slot_put_same v (m + 1) xs (pad_to v ws) lp (omega arith) in
    record {
      ready = p.ready;
      view = p.view ∙ ap₂ (λ (k : Kept Held) (w : List ℕ). keep_one held_score same_held m width k (record { words = w; score = score })) (view_written (pad_to v ws) t.tidy) sp;
      left = record {
        longx = p.left.longx ∙ length_put v xs (m + 1) (pad_to v ws) lp hx;
        longs = p.left.longs;
        restx = p.left.restx ∙ rw n2 (drop_put v (m + 1 + 1) (m + 1) xs (pad_to v ws) (omega arith) (rw (← n2) t.tidy.longx) lp);
        rests = p.left.rests;
      };
    }
