-- One law for each way through the code.
use mathlib.Core.Path.{◌≡◌, refl, sym, ap, ap₂, ◌∙◌, subst}
use mathlib.Core.Bool.{Bool, true, false, not, ◌&&◌, true≢false}
use Rattle.std.specs.declared.option.Option.{Option}
use Rattle.std.specs.declared.option.Option.TheVariants.{None, Some}
use Rattle.std.specs.Option.{is_some}
use mathlib.Core.List.{List, [], ◌∷◌, ◌++◌, append-nil}
use Prim.Native.Nat.{ℕ, zero, suc, ◌+◌, ◌-◌, ◌*◌, ◌≤◌, ◌<◌}
use native.Mathlib.Omega.{arith}
use native.Mathlib.Nat.{add-mul, one-mul, suc-mul, mul-le-mul_right, not-suc-le-zero}
use native.Mathlib.Numerals.{add-one}
use lib.Dec.{ltb}
use borrow.Author.Tests.{lt-ltb, le-ltb}
use lib.ListN.{length, take, drop, get_or, set, replicate, length-append, length-drop, length-set, length-replicate, drop_of_length-le, take-append-drop, replicate-append-replicate}
use lib.Seq.{take_all, drop-drop, take_at, drop_at, length-take-le, drop-append-le, take-suc-set, drop-set-lt, drop-set-add}
use borrow.Rule.Slice.PartMut.{put_mid, mid_of}
use lib.Ieee as Ieee
use lib.Ieee.{Float, nan}
use Rattle.ground.specs.Lists.{pick}
use Rattle.search.specs.Keep.{Kept, tied_to, lowers, has, adding, replaced, lowered, added, keep_one}
use Rattle.slots.specs.Inner.{splice, part, same_words, slot_at, put_slot, slots_of, Held, held_score, same_held, blank, held_in, Beyond, Pruned}
use Rattle.slots.proofs.Slots.{slot_fits, length_slot, length_put, put_zero, put_suc, length_held, held_take, held_put, drop_put}
use Rattle.slots.proofs.Unused.{beyond_none, beyond_on, has_held}
use Rattle.kept.specs.Inner.{besides, first_of, ties_of, view_of, offered_of, Tidy, Stepped, Replaced, Lowered, Adding, Added, Recorded}
use Rattle.kept.specs.declared.Holding.{Holding}

-- ---- lists
pub drop_more : {A : Type 0} (a b : ℕ) (xs ys : List A) → a ≤ b → drop a xs ≡ drop a ys → drop b xs ≡ drop b ys
drop_more a b xs ys h e =
    let s : b ≡ a + (b - a) = omega arith in
    rw s (sym (drop-drop (b - a) a xs) ∙ (ap (drop (b - a)) e ∙ drop-drop (b - a) a ys))

-- all behind the a-th is lent, and comes back as ys
pub back : {A : Type 0} (a : ℕ) (xs ys : List A) → a ≤ length xs → put_mid a (length xs - a) xs ys ≡ take a xs ++ ys
back a xs ys h =
    let d : drop (length xs - a) (drop a xs) ≡ [] = drop_of_length-le (drop a xs) {i = length xs - a} (rw length-drop (omega arith)) in
    rw (d, append-nil)

pub lent : {A : Type 0} (a : ℕ) (xs : List A) → mid_of a (length xs - a) xs ≡ drop a xs
lent a xs = take_all (length xs - a) (drop a xs) (rw length-drop (omega arith))

set_first : {A : Type 0} (ss ts : List A) (x : A) → 0 < length ss → set (take 1 ss ++ ts) 0 x ≡ x ∷ ts
set_first [] ts x h = absurd (not-suc-le-zero h)
set_first (s ∷ ss) ts x h = refl

blank_rest : {A : Type 0} (l : List A) (z : A) (r n m : ℕ) → length l ≡ m → r ≤ n → n ≤ m → take n l ≡ take r l ++ replicate (n - r) z → drop n l ≡ replicate (m - n) z
    → drop r l ≡ replicate (m - r) z
blank_rest l z r n m e h k t d =
    let lt : length (take n l) ≡ n = length-take-le n l (omega arith) in
    let lr : length (take r l) ≡ r = length-take-le r l (omega arith) in
    let s : drop r l ≡ drop r (take n l) ++ drop n l = ap (drop r) (sym (take-append-drop n l)) ∙ drop-append-le r (take n l) (drop n l) (omega arith) in
    let f : drop r (take n l) ≡ replicate (n - r) z = ap (drop r) t ∙ drop_at (take r l) (replicate (n - r) z) r lr in
    let g : m - r ≡ n - r + (m - n) = omega arith in
    rw (s, f, d, g) (replicate-append-replicate (n - r) (m - n) z)

held_drop : (v r m : ℕ) (xs : List ℕ) (ss : List Float) → r ≤ m → drop r (held_in v m xs ss) ≡ held_in v (m - r) (drop (r * v) xs) (drop r ss)
unfolding held_in
held_drop v zero m xs ss h =
    let e : m - 0 ≡ m = omega arith in
    let z : 0 * v ≡ 0 = omega arith in
    rw (e, z)
held_drop v (suc r) zero xs ss h = absurd (not-suc-le-zero h)
held_drop v (suc r) (suc m) xs ss h =
    let e : suc m - suc r ≡ m - r = omega arith in
    let f : suc r * v ≡ v + r * v = rw suc-mul (omega arith) in
    let g : suc r ≡ 1 + r = omega arith in
    rw (e, f, ← drop-drop (r * v) v xs) (held_drop v r m (drop v xs) (drop 1 ss) (omega arith) ∙ ap (held_in v (m - r) (drop (r * v) (drop v xs))) (drop-drop r 1 ss ∙ ap (λ (t : ℕ). drop t ss) (sym g)))

-- ---- the rooms
beyond_of : (v m : ℕ) (xs : List ℕ) (ss : List Float) (ys : List ℕ) (ts : List Float) → length ys ≡ length xs → length ts ≡ length ss
    → drop (m * v) (drop v ys) ≡ drop (m * v) (drop v xs) → drop m (drop 1 ts) ≡ drop m (drop 1 ss) → Beyond v (m + 1) xs ss ys ts
beyond_of v m xs ss ys ts lx ls dx ds =
    let e : (m + 1) * v ≡ v + m * v = rw (add-mul, one-mul) (omega arith) in
    let f : m + 1 ≡ 1 + m = omega arith in
    record {
      longx = lx;
      longs = ls;
      restx = rw (e, ← drop-drop (m * v) v ys, ← drop-drop (m * v) v xs) dx;
      rests = rw (f, ← drop-drop m 1 ts, ← drop-drop m 1 ss) ds;
    }

pub spare_is : (v m : ℕ) (xs : List ℕ) → slot_at v xs (m + 1) ≡ take v (drop (m * v) (drop v xs))
unfolding slot_at part
spare_is v m xs =
    let e : (m + 1) * v ≡ v + m * v = rw (add-mul, one-mul) (omega arith) in
    rw (e, drop-drop (m * v) v xs)

module _ {v m : ℕ} {b : Option Holding} {xs : List ℕ} {ss : List Float} where
  pub tidy_prune : Tidy v m b xs ss → (besides b).count * v ≤ length (mid_of v (length xs - v) xs)
  tidy_prune t =
      let h : (besides b).count * v ≤ m * v = mul-le-mul_right v t.few in
      rw (lent v xs, length-drop) (omega (arith, t.longx))

  pub tidy_prune_scores : Tidy v m b xs ss → (besides b).count ≤ length (mid_of 1 (length ss - 1) ss)
  tidy_prune_scores t = rw (lent 1 ss, length-drop) (omega (arith, t.few, t.longs))

  replaced_law : {score width : Float} {ys : List ℕ} {ts : List Float} {r : ℕ} {zs : List ℕ} → Tidy v m b xs ss
      → Pruned v (besides b).count score width (mid_of v (length xs - v) xs) (mid_of 1 (length ss - 1) ss) ys ts r
      → zs ≡ put_slot v (put_mid v (length xs - v) xs ys) 0 (slot_at v (put_mid v (length xs - v) xs ys) (m + 1))
      → Replaced v m width score b xs ss zs (set (put_mid 1 (length ss - 1) ss ts) 0 score) (record { count = r; discarded = (besides b).discarded })
  unfolding view_of offered_of ties_of
  replaced_law {score} {width} {ys} {ts} {r} {zs} t p₀ q =
      let n : ℕ = (besides b).count in
      let fm : (besides b).count ≤ m = t.few in
      let hx : m * v + v + v ≤ length xs = t.longx in
      let hs : m < length ss = t.longs in
      let p₁ : Pruned v (besides b).count score width (drop v xs) (mid_of 1 (length ss - 1) ss) ys ts r = subst (λ (l : List ℕ). Pruned v (besides b).count score width l (mid_of 1 (length ss - 1) ss) ys ts r) (lent v xs) p₀ in
      let p : Pruned v (besides b).count score width (drop v xs) (drop 1 ss) ys ts r = subst (λ (l : List Float). Pruned v (besides b).count score width (drop v xs) l ys ts r) (lent 1 ss) p₁ in
      let fr : r ≤ (besides b).count = p.few in
      let ly : length ys ≡ length xs - v = p.beyond.longx ∙ length-drop v xs in
      let lt : length ts ≡ length ss - 1 = p.beyond.longs ∙ length-drop 1 ss in
      let lv : length (take v xs) ≡ v = length-take-le v xs (omega arith) in
      let x₁ : put_mid v (length xs - v) xs ys ≡ take v xs ++ ys = back v xs ys (omega arith) in
      let s₁ : set (put_mid 1 (length ss - 1) ss ts) 0 score ≡ score ∷ ts = ap (λ (l : List Float). set l 0 score) (back 1 ss ts (omega arith)) ∙ set_first ss ts score (omega arith) in
      let dy : drop (m * v) ys ≡ drop (m * v) (drop v xs) = drop_more ((besides b).count * v) (m * v) ys (drop v xs) (mul-le-mul_right v fm) p.beyond.restx in
      let dt : drop m ts ≡ drop m (drop 1 ss) = drop_more (besides b).count m ts (drop 1 ss) fm p.beyond.rests in
      let ws : slot_at v (take v xs ++ ys) (m + 1) ≡ slot_at v xs (m + 1) = spare_is v m (take v xs ++ ys) ∙ ap (λ (l : List ℕ). take v (drop (m * v) l)) (drop_at (take v xs) ys v lv) ∙ ap (take v) dy ∙ sym (spare_is v m xs) in
      let lw : length (slot_at v xs (m + 1)) ≡ v = length_slot v xs (m + 1) (rw (add-mul, one-mul) hx) in
      let z₁ : zs ≡ slot_at v xs (m + 1) ++ ys = q ∙ rw (x₁, ws) (put_zero v (take v xs ++ ys) (slot_at v xs (m + 1)) lw ∙ ap (λ (l : List ℕ). slot_at v xs (m + 1) ++ l) (drop_at (take v xs) ys v lv)) in
      let tz : take v zs ≡ slot_at v xs (m + 1) = rw z₁ (take_at (slot_at v xs (m + 1)) ys v lw) in
      let dz : drop v zs ≡ ys = rw z₁ (drop_at (slot_at v xs (m + 1)) ys v lw) in
      let lz : length zs ≡ length xs = rw z₁ (length-append (slot_at v xs (m + 1)) ys ∙ rw (lw, ly) (omega arith)) in
      rw s₁ (record {
        step = record {
          tidy = record {
            few = omega arith;
            longx = rw lz hx;
            longs = omega arith;
            unused = rw dz (blank_rest (held_in v m ys ts) (blank v) r (besides b).count m (length_held v m ys ts) fr fm
                (held_take v (besides b).count m ys ts fm ∙ p.rest ∙ ap (λ (l : List Held). l ++ replicate ((besides b).count - r) (blank v)) (sym (held_take v r m ys ts (omega arith))))
                (held_drop v (besides b).count m ys ts fm ∙ ap₂ (held_in v (m - (besides b).count)) p.beyond.restx p.beyond.rests ∙ sym (held_drop v (besides b).count m (drop v xs) (drop 1 ss) fm) ∙ t.unused));
            fresh = λ e. absurd (true≢false e);
          };
          view = rw (tz, dz) (ap (λ (l : List Held). record { best = record { words = slot_at v xs (m + 1); score = score } ∷ []; tied = l; discarded = (besides b).discarded }) p.tied);
          beyond = beyond_of v m xs ss zs (score ∷ ts) lz (omega arith) (rw dz dy) dt;
        };
      })

  pub replaced_with : {score width : Float} {ys : List ℕ} {ts : List Float} {r : ℕ} {zs : List ℕ} {h : Holding} → h ≡ besides b → Tidy v m b xs ss
      → Pruned v h.count score width (mid_of v (length xs - v) xs) (mid_of 1 (length ss - 1) ss) ys ts r
      → zs ≡ put_slot v (put_mid v (length xs - v) xs ys) 0 (slot_at v (put_mid v (length xs - v) xs ys) (m + 1))
      → Replaced v m width score b xs ss zs (set (put_mid 1 (length ss - 1) ss ts) 0 score) (record { count = r; discarded = h.discarded })
  replaced_with e t p q = rw e (replaced_law t (rw e at p) q)

-- ---- the incumbent is replaced, or stands
low_is : (v m : ℕ) (b : Option Holding) (xs : List ℕ) (ss : List Float) (score width : Float) (h c : Bool) → is_some b ≡ h → pick h (Ieee.lt score (get_or ss 0 nan)) true ≡ c
    → pick c (replaced held_score width (offered_of v m xs score) (view_of v b xs ss)) (view_of v b xs ss) ≡ lowered held_score same_held m width (offered_of v m xs score) (view_of v b xs ss)
unfolding lowered view_of offered_of
low_is v m b xs ss score width h c e f = ap (λ (c : Bool). pick c (replaced held_score width (offered_of v m xs score) (view_of v b xs ss)) (view_of v b xs ss))
    (sym (go h (is_some b) e f))
  where
    go : (h k : Bool) → k ≡ h → pick h (Ieee.lt score (get_or ss 0 nan)) true ≡ c → lowers held_score (offered_of v m xs score) (pick k (first_of v xs ss ∷ []) []) ≡ c
    go true true e f = f
    go true false e f = absurd (true≢false (sym e))
    go false true e f = absurd (true≢false e)
    go false false e f = f

stepped_as : {v m : ℕ} {xs : List ℕ} {ss : List Float} {ys : List ℕ} {ts : List Float} {r : Holding} {t u : Kept Held} → Stepped v m xs ss ys ts r t → t ≡ u → Stepped v m xs ss ys ts r u
stepped_as s e = record { tidy = s.tidy; view = s.view ∙ e; beyond = s.beyond }

stepped_none : {v m : ℕ} {xs : List ℕ} {ss : List Float} {b : Holding} {u : Kept Held} → Tidy v m (Some b) xs ss → view_of v (Some b) xs ss ≡ u → Stepped v m xs ss xs ss b u
stepped_none t e = record { tidy = t; view = e; beyond = beyond_none _ _ }

module _ {v m : ℕ} {width score : Float} {xs : List ℕ} {ss : List Float} where
  pub low_lower : {b : Option Holding} {held : Holding} {k : Bool} {ys : List ℕ} {ts : List Float} {r : Holding} → Replaced v m width score b xs ss ys ts r → b ≡ Some held → k ≡ Ieee.lt score (get_or ss 0 nan) → k ≡ true → Lowered v m width score b xs ss ys ts r
  low_lower {b = b} s h f e = record { step = stepped_as s.step (low_is v m b xs ss score width true true (ap is_some h) (sym f ∙ e)) }

  pub low_first : {b : Option Holding} {ys : List ℕ} {ts : List Float} {r : Holding} → Replaced v m width score b xs ss ys ts r → b ≡ None → Lowered v m width score b xs ss ys ts r
  low_first {b = b} s h = record { step = stepped_as s.step (low_is v m b xs ss score width false true (ap is_some h) refl) }

  pub low_same : {b : Option Holding} {held : Holding} {k : Bool} → Tidy v m b xs ss → b ≡ Some held → k ≡ Ieee.lt score (get_or ss 0 nan) → k ≡ false → Lowered v m width score b xs ss xs ss held
  low_same {held = held} t h f e = rw h (record { step = stepped_none (rw h at t) (low_is v m (Some held) xs ss score width true false refl (sym f ∙ e)) })

-- ---- one is added last, or discarded
ties_put : (v m j : ℕ) (xs : List ℕ) (ss : List Float) (ws : List ℕ) (x : Float) → j < m → m * v + v ≤ length xs → m < length ss → length ws ≡ v
    → ties_of v m (put_slot v xs (j + 1) ws) (set ss (j + 1) x) ≡ set (ties_of v m xs ss) j (record { words = ws; score = x })
unfolding ties_of
ties_put v m j xs ss ws x h k l e =
    let lv : length (take v xs) ≡ v = length-take-le v xs (omega arith) in
    let d : drop v (put_slot v xs (j + 1) ws) ≡ put_slot v (drop v xs) j ws = rw (add-one j, put_suc v xs j ws) (drop_at (take v xs) (put_slot v (drop v xs) j ws) v lv) in
    let f : j + 1 ≡ 1 + j = omega arith in
    let g : drop 1 (set ss (j + 1) x) ≡ set (drop 1 ss) j x = rw f (drop-set-add 1 ss j x) in
    rw (d, g) (held_put v m j (drop v xs) (drop 1 ss) ws x h (rw length-drop (omega arith)) (rw length-drop (omega arith)) e)

pub take_first : (v j : ℕ) (xs ws : List ℕ) → v ≤ length xs → take v (put_slot v xs (j + 1) ws) ≡ take v xs
take_first v j xs ws h = rw (add-one j, put_suc v xs j ws) (take_at (take v xs) (put_slot v (drop v xs) j ws) v (length-take-le v xs h))

get_d_first : (j : ℕ) (ss : List Float) (x : Float) → get_or (set ss (j + 1) x) 0 nan ≡ get_or ss 0 nan
get_d_first j [] x = refl
get_d_first j (s ∷ ss) x = rw (add-one j)

add_replicate : {A : Type 0} (l : List A) (z : A) (n m : ℕ) → n < m → drop n l ≡ replicate (m - n) z → drop (n + 1) l ≡ replicate (m - (n + 1)) z
add_replicate l z n m h e =
    let f : m - n ≡ suc (m - (n + 1)) = omega arith in
    sym (drop-drop 1 n l) ∙ ap (drop 1) e ∙ ap (λ (k : ℕ). drop 1 (replicate k z)) f

module _ {v m : ℕ} {score : Float} {b : Holding} {xs : List ℕ} {ss : List Float} where
  pub add_full : Tidy v m (Some b) xs ss → m ≤ b.count → Adding v m score b xs ss xs ss (record { count = b.count; discarded = true })
  unfolding view_of
  add_full t h = record {
    step = record {
      tidy = record { few = t.few; longx = t.longx; longs = t.longs; unused = t.unused; fresh = t.fresh };
      view = rw (le-ltb b.count m h);
      beyond = beyond_none _ _;
    };
  }

  pub add_room : {ys : List ℕ} → Tidy v m (Some b) xs ss → b.count < m → ys ≡ put_slot v xs (b.count + 1) (slot_at v xs (m + 1))
      → Adding v m score b xs ss ys (set ss (b.count + 1) score) (record { count = b.count + 1; discarded = b.discarded })
  unfolding view_of offered_of ties_of
  add_room {ys = ys} t h q =
      let n : ℕ = b.count in
      let hx : m * v + v + v ≤ length xs = t.longx in
      let hs : m < length ss = t.longs in
      let ws : List ℕ = slot_at v xs (m + 1) in
      let lw : length (slot_at v xs (m + 1)) ≡ v = length_slot v xs (m + 1) (rw (add-mul, one-mul) hx) in
      let lf : (b.count + 1) * v + v ≤ length xs = slot_fits (b.count + 1) (m + 1) v (length xs) (omega arith) (rw (add-mul, one-mul) (omega arith)) in
      let ly : length ys ≡ length xs = rw q (length_put v xs (b.count + 1) (slot_at v xs (m + 1)) lw lf) in
      let ls : length (set ss (b.count + 1) score) ≡ length ss = length-set ss (b.count + 1) score in
      let new : Held = record { words = slot_at v xs (m + 1); score = score } in
      let L : ties_of v m ys (set ss (b.count + 1) score) ≡ set (ties_of v m xs ss) b.count (record { words = slot_at v xs (m + 1); score = score }) =
      rw q (ties_put v m b.count xs ss (slot_at v xs (m + 1)) score h (omega arith) hs lw) in
      let ll : length (ties_of v m xs ss) ≡ m = length_held v m (drop v xs) (drop 1 ss) in
      let first : first_of v ys (set ss (b.count + 1) score) ≡ first_of v xs ss =
      ap₂ (λ (w : List ℕ) (x : Float). record { words = w; score = x }) (rw q (take_first v b.count xs (slot_at v xs (m + 1)) (omega arith))) (get_d_first b.count ss score) in
      let tied : ties_of v (b.count + 1) ys (set ss (b.count + 1) score) ≡ ties_of v b.count xs ss ++ (record { words = slot_at v xs (m + 1); score = score } ∷ []) =
      sym (held_take v (b.count + 1) m (drop v ys) (drop 1 (set ss (b.count + 1) score)) (omega arith)) ∙ ap (take (b.count + 1)) L
      ∙ rw add-one (take-suc-set (ties_of v m xs ss) b.count (record { words = slot_at v xs (m + 1); score = score }) (rw ll h)
      ∙ ap (λ (l : List Held). l ++ (record { words = slot_at v xs (m + 1); score = score } ∷ [])) (held_take v b.count m (drop v xs) (drop 1 ss) (omega arith))) in
      record {
        step = record {
          tidy = record {
            few = omega arith;
            longx = rw ly hx;
            longs = rw ls hs;
            unused = rw L (drop-set-lt (b.count + 1) (ties_of v m xs ss) b.count (record { words = slot_at v xs (m + 1); score = score }) (omega arith)
                ∙ add_replicate (ties_of v m xs ss) (blank v) b.count m h t.unused);
            fresh = λ e. first ∙ t.fresh e;
          };
          view = rw (lt-ltb b.count m h) (ap₂ (λ (s : Held) (l : List Held). record { best = s ∷ []; tied = l; discarded = b.discarded }) first tied);
          beyond = record {
            longx = ly;
            longs = ls;
            restx = rw q (drop_put v (m + 1) (b.count + 1) xs (slot_at v xs (m + 1)) (omega arith) (rw (add-mul, one-mul) (omega arith)) lw);
            rests = drop-set-lt (m + 1) ss (b.count + 1) score (omega arith);
          };
        };
      }

-- ---- one that ties, and is not held, is added
added_is : (v m : ℕ) (b : Holding) (xs : List ℕ) (ss : List Float) (score width : Float) (c d : Bool) → tied_to (get_or ss 0 nan) width score ≡ c
    → has same_words (slot_at v xs (m + 1)) (slots_of v b.count (drop v xs)) ≡ d
    → pick (c && not d) (adding (ltb b.count m) (offered_of v m xs score) (view_of v (Some b) xs ss)) (view_of v (Some b) xs ss) ≡ added held_score same_held m width (offered_of v m xs score) (view_of v (Some b) xs ss)
unfolding added view_of offered_of ties_of
added_is v m b xs ss score width c d e f =
    let new : Held = offered_of v m xs score in
    let has-is : has same_held (offered_of v m xs score) (held_in v b.count (drop v xs) (drop 1 ss)) ≡ d = has_held v b.count (drop v xs) (drop 1 ss) (offered_of v m xs score) ∙ f in
    let len : length (held_in v b.count (drop v xs) (drop 1 ss)) ≡ b.count = length_held v b.count (drop v xs) (drop 1 ss) in
    rw (e, has-is, len)

module _ {v m : ℕ} {width score : Float} {b : Holding} {xs : List ℕ} {ss : List Float} where
  pub add_far : {n : Bool} → Tidy v m (Some b) xs ss → n ≡ tied_to (get_or ss 0 nan) width score → n ≡ false → Added v m width score b xs ss xs ss b
  add_far t g e = record { step = stepped_none t (added_is v m b xs ss score width false (has same_words (slot_at v xs (m + 1)) (slots_of v b.count (drop v xs))) (sym g ∙ e) refl) }

  pub add_held : {n k : Bool} → Tidy v m (Some b) xs ss → n ≡ tied_to (get_or ss 0 nan) width score → n ≡ true
      → k ≡ has same_words (slot_at v xs (m + 1)) (slots_of v b.count (drop v xs)) → k ≡ true → Added v m width score b xs ss xs ss b
  add_held t d e f g = record { step = stepped_none t (added_is v m b xs ss score width true true (sym d ∙ e) (sym f ∙ g)) }

  pub add_new : {n k : Bool} {ys : List ℕ} {ts : List Float} {r : Holding} → Adding v m score b xs ss ys ts r → n ≡ tied_to (get_or ss 0 nan) width score → n ≡ true
      → k ≡ has same_words (slot_at v xs (m + 1)) (slots_of v b.count (drop v xs)) → k ≡ false → Added v m width score b xs ss ys ts r
  add_new s d e f g = record { step = stepped_as s.step (added_is v m b xs ss score width true false (sym d ∙ e) (sym f ∙ g)) }

-- ---- the spare is zeroed
pub held_put_past : (v n j : ℕ) (xs : List ℕ) (ss : List Float) (ws : List ℕ) → n ≤ j → j * v + v ≤ length xs → held_in v n (put_slot v xs j ws) ss ≡ held_in v n xs ss
unfolding held_in
held_put_past v zero j xs ss ws h k = refl
held_put_past v (suc n) zero xs ss ws h k = absurd (not-suc-le-zero h)
held_put_past v (suc n) (suc j) xs ss ws h k =
    let k' : j * v + v + v ≤ length xs = rw suc-mul at k in
    let lt : length (take v xs) ≡ v = length-take-le v xs (omega arith) in
    let p : List ℕ = put_slot v (drop v xs) j ws in
    rw (put_suc v xs j ws, take_at (take v xs) p v lt, drop_at (take v xs) p v lt)
    (ap (λ (t : List Held). record { words = take v xs; score = get_or ss 0 nan } ∷ t) (held_put_past v n j (drop v xs) (drop 1 ss) ws (omega arith) (rw length-drop (omega arith))))

pub slot_put_same : (v j : ℕ) (xs ws : List ℕ) → length ws ≡ v → j * v ≤ length xs → slot_at v (put_slot v xs j ws) j ≡ ws
unfolding slot_at put_slot splice part
slot_put_same v j xs ws e h =
    rw (drop_at (take (j * v) xs) (ws ++ drop (j * v + length ws) xs) (j * v) (length-take-le (j * v) xs h)) (take_at ws (drop (j * v + length ws) xs) v e)

spare_same : (v m : ℕ) (xs ys : List ℕ) → drop ((m + 1) * v) ys ≡ drop ((m + 1) * v) xs → slot_at v ys (m + 1) ≡ slot_at v xs (m + 1)
unfolding slot_at part
spare_same v m xs ys e = ap (take v) e

pub recorded : {v m : ℕ} {width score : Float} {b : Option Holding} {t u : Holding} {xs x₁ x₂ x₃ : List ℕ} {ss s₁ s₂ : List Float} → Lowered v m width score b xs ss x₁ s₁ t → Added v m width score t x₁ s₁ x₂ s₂ u
    → x₃ ≡ put_slot v x₂ (m + 1) (replicate v 0) → Recorded v m width score b xs ss x₃ s₂ u
unfolding view_of offered_of ties_of keep_one
recorded {v} {m} {width} {score} {b} {t} {u} {xs} {x₁} {x₂} {x₃} {ss} {s₁} {s₂} p q e =
    let a : Tidy v m (Some u) x₂ s₂ = q.step.tidy in
    let bd : Beyond v (m + 1) xs ss x₂ s₂ = beyond_on p.step.beyond q.step.beyond in
    let hx : m * v + v + v ≤ length x₂ = a.longx in
    let sf : (m + 1) * v + v ≤ length x₂ = rw (add-mul, one-mul) hx in
    let lr : length {A = ℕ} (replicate v 0) ≡ v = length-replicate v 0 in
    let lv : length (take v x₂) ≡ v = length-take-le v x₂ (omega arith) in
    let dz : drop v (put_slot v x₂ (m + 1) (replicate v 0)) ≡ put_slot v (drop v x₂) m (replicate v 0) = rw (add-one m, put_suc v x₂ m (replicate v 0)) (drop_at (take v x₂) (put_slot v (drop v x₂) m (replicate v 0)) v lv) in
    let tz : take v x₃ ≡ take v x₂ = rw e (take_first v m x₂ (replicate v 0) (omega arith)) in
    let ties : (n : ℕ) → n ≤ m → held_in v n (drop v x₃) (drop 1 s₂) ≡ held_in v n (drop v x₂) (drop 1 s₂) =
    (λ n h. rw (e, dz) (held_put_past v n m (drop v x₂) (drop 1 s₂) (replicate v 0) h (rw length-drop (omega arith)))) in
    let first : first_of v x₃ s₂ ≡ first_of v x₂ s₂ = ap (λ (w : List ℕ). record { words = w; score = get_or s₂ 0 nan }) tz in
    let sp : slot_at v x₁ (m + 1) ≡ slot_at v xs (m + 1) = spare_same v m xs x₁ p.step.beyond.restx in
    let lx : length x₃ ≡ length x₂ = rw e (length_put v x₂ (m + 1) (replicate v 0) lr sf) in
    let n2 : m * v + v + v ≡ (m + 1 + 1) * v = rw (add-mul (m + 1) 1 v, add-mul m 1 v, one-mul) in
    record {
      ready = record {
        tidy = record { few = a.few; longx = rw lx hx; longs = a.longs; unused = rw (ties m (omega arith)) a.unused; fresh = λ z. first ∙ a.fresh z };
        spare = rw e (slot_put_same v (m + 1) x₂ (replicate v 0) lr (omega arith));
      };
      view = rw (first, ties u.count a.few) (q.step.view ∙ ap₂ (λ (s : List ℕ) (k : Kept Held). added held_score same_held m width (record { words = s; score = score }) k) sp p.step.view);
      left = record {
        longx = lx ∙ bd.longx;
        longs = bd.longs;
        restx = rw (e, n2) (drop_put v (m + 1 + 1) (m + 1) x₂ (replicate v 0) (omega arith) (rw (← n2) hx) lr
            ∙ drop_more ((m + 1) * v) ((m + 1 + 1) * v) x₂ xs (mul-le-mul_right v (omega arith)) bd.restx);
        rests = bd.rests;
      };
    }
