-- Laws of a text that is cut at a byte.
use Prim.Native.Nat.{ℕ, zero, suc, ◌+◌, ◌-◌, ◌≤◌, ◌<◌}
use native.Mathlib.Omega.{arith}
use native.Mathlib.Nat.{eq-or-lt_of_le}
use mathlib.Core.Path.{◌≡◌, refl, sym, ap, ◌∙◌, subst}
use mathlib.Core.Logic.{⊎_elim}
use mathlib.Core.Bool.{Bool, true, false, not}
use mathlib.Core.List.{List, [], ◌∷◌, ◌++◌}
use lib.Dec.{eqb}
use lib.ListN.{length, take, drop, get_or, set, length-drop, length-take, length-set}
use lib.Seq.{drop-drop, get_or-drop, get_or-set_same, get_or-set_other}
use borrow.Author.Tests.{eq-eqb, eqb-true, not-true}
use Rattle.ground.proofs.ListLaws.{both}
use Rattle.ground.specs.Lists.{pick, all}
use Rattle.names.specs.Names.{longer, cut, lines_of, ended, none}
use Rattle.names.specs.Inner.{up_to, Placed, Span, Spans, Cuts}

-- ---- the parts

pub cut_some : (b : ℕ) (s : List ℕ) → 0 < length (cut b s)
unfolding cut
cut_some b [] = omega arith
cut_some b (x ∷ s) = go (eqb x b) (cut b s) (cut_some b s)
  where
    go : (t : Bool) (l : List (List ℕ)) → 0 < length l → 0 < length (pick t ([] ∷ l) (longer x l))
    go true l h = omega arith
    go false [] h = h
    go false (a ∷ l) h = omega arith

-- what lies before the first byte b is the first part
pub cut_first : (b : ℕ) (s : List ℕ) → length (up_to b s) < length s → cut b s ≡ take (length (up_to b s)) s ∷ cut b (drop (suc (length (up_to b s))) s)
unfolding cut up_to
cut_first b [] h = let z : ⊥ = omega arith in absurd z
cut_first b (x ∷ s) h = go (eqb x b) h (cut_first b s)
  where
    go : (t : Bool) → length (pick t [] (x ∷ up_to b s)) < suc (length s)
        → (length (up_to b s) < length s → cut b s ≡ take (length (up_to b s)) s ∷ cut b (drop (suc (length (up_to b s))) s))
        → pick t ([] ∷ cut b s) (longer x (cut b s)) ≡ take (length (pick t [] (x ∷ up_to b s))) (x ∷ s) ∷ cut b (drop (length (pick t [] (x ∷ up_to b s))) s)
    go true k ih = refl
    go false k ih = rw (ih (omega arith))

-- without one there is one part
pub cut_none : (b : ℕ) (s : List ℕ) → length s ≤ length (up_to b s) → cut b s ≡ s ∷ []
unfolding cut up_to
cut_none b [] h = refl
cut_none b (x ∷ s) h = go (eqb x b) h (cut_none b s)
  where
    go : (t : Bool) → suc (length s) ≤ length (pick t [] (x ∷ up_to b s)) → (length s ≤ length (up_to b s) → cut b s ≡ s ∷ []) → pick t ([] ∷ cut b s) (longer x (cut b s)) ≡ (x ∷ s) ∷ []
    go true k ih = let z : ⊥ = omega arith in absurd z
    go false k ih = rw (ih (omega arith))

-- at a place of a text, by the place of the next byte b
module _ {s : List ℕ} {at b e : ℕ} (p : Placed s at b e) (inside : at ≤ length s) where
  gap : e - at ≡ length (up_to b (drop at s))
  gap = let q = p.is in omega arith

  pub here_first : e < length s → cut b (drop at s) ≡ take (e - at) (drop at s) ∷ cut b (drop (e + 1) s)
  here_first h =
      let q = p.is in
      let l = length-drop at s in
      let k : at + suc (length (up_to b (drop at s))) ≡ e + 1 = omega arith in
      cut_first b (drop at s) (omega arith) ∙ rw (drop-drop (suc (length (up_to b (drop at s)))) at s, k, gap)

  pub here_last : length s ≤ e → cut b (drop at s) ≡ take (e - at) (drop at s) ∷ []
  here_last h =
      let q = p.is in
      let l = length-drop at s in
      cut_none b (drop at s) (omega arith) ∙ ap (λ (t : List ℕ). t ∷ []) (sym (all_of (e - at) (drop at s) (omega arith)))
    where
      all_of : (n : ℕ) (l : List ℕ) → length l ≤ n → take n l ≡ l
      all_of zero [] k = refl
      all_of zero (x ∷ l) k = let z : ⊥ = omega arith in absurd z
      all_of (suc n) [] k = refl
      all_of (suc n) (x ∷ l) k = ap (λ (t : List ℕ). x ∷ t) (all_of n l (omega arith))

  pub order : at ≤ e
  order = let q = p.is in omega arith

-- ---- places of all parts, as far as there is room

pub record Filling (s : List ℕ) (b : ℕ) (starts ends : List ℕ) (at k : ℕ) : Type 0 where
  pub inside : at ≤ length s
  pub rest : cut b (drop at s) ≡ drop k (cut b s)
  pub far : k ≤ length starts
  pub long : length ends ≡ length starts
  pub spans : Spans s (cut b s) starts ends k

module _ {s : List ℕ} {b : ℕ} {starts ends : List ℕ} {at k : ℕ} (f : Filling s b starts ends at k) where
  before_end : k < length (cut b s)
  before_end =
      let p : 0 < length (drop k (cut b s)) = subst (λ (l : List (List ℕ)). 0 < length l) f.rest (cut_some b (drop at s)) in
      let l = length-drop k (cut b s) in
      omega arith

  module _ {e room : ℕ} (p : Placed s at b e) (er : length starts ≡ room) (less : k < room) where
    lt : k < length starts
    lt = omega arith

    part_is : get_or (cut b s) k [] ≡ take (e - at) (drop at s)
    part_is =
        let z : k + 0 ≡ k = omega arith in
        let g : get_or (drop k (cut b s)) 0 [] ≡ get_or (cut b s) k [] = get_or-drop k (cut b s) 0 [] ∙ rw z in
        sym g ∙ ap (λ (l : List (List ℕ)). get_or l 0 []) (sym f.rest) ∙ first
      where
        first : get_or (cut b (drop at s)) 0 [] ≡ take (e - at) (drop at s)
        first = ⊎_elim
            (λ q. ap (λ (l : List (List ℕ)). get_or l 0 []) (here_last p f.inside (omega arith)))
            (λ q. ap (λ (l : List (List ℕ)). get_or l 0 []) (here_first p f.inside q))
            (eq-or-lt_of_le p.inside)

    spans_more : Spans s (cut b s) (set starts k at) (set ends k e) (k + 1)
    spans_more j h = ⊎_elim now earlier (eq-or-lt_of_le le)
      where
        le : j ≤ k
        le = omega arith

        long : length ends ≡ length starts
        long = f.long

        now : j ≡ k → Span s (set starts k at) (set ends k e) j (get_or (cut b s) j [])
        now q =
            let gs : get_or (set starts k at) k 0 ≡ at = get_or-set_same starts k at 0 lt in
            let l4 = lt in
            let ge : get_or (set ends k e) k 0 ≡ e = get_or-set_same ends k e 0 (omega arith) in
            let o = order p f.inside in
            let i = p.inside in
            rw q (record { order = rw (gs, ge) o; inside = rw ge i; is = rw (gs, ge) (sym part_is) })

        earlier : j < k → Span s (set starts k at) (set ends k e) j (get_or (cut b s) j [])
        earlier q =
            let ne : j ≡ k → ⊥ = λ r. omega arith in
            let gs : get_or (set starts k at) j 0 ≡ get_or starts j 0 = get_or-set_other starts k j at 0 ne in
            let ge : get_or (set ends k e) j 0 ≡ get_or ends j 0 = get_or-set_other ends k j e 0 ne in
            let sp = f.spans j q in
            record { order = rw (gs, ge) sp.order; inside = rw ge sp.inside; is = rw (gs, ge) sp.is }

    drop_less : drop (k + 1) (cut b s) ≡ drop 1 (drop k (cut b s))
    drop_less = sym (drop-drop 1 k (cut b s))

    pub filling_next : e < length s → Filling s b (set starts k at) (set ends k e) (e + 1) (k + 1)
    filling_next h =
        let l4 = lt in
        let q : drop 1 (cut b (drop at s)) ≡ cut b (drop (e + 1) s) = ap (λ (l : List (List ℕ)). drop 1 l) (here_first p f.inside h) in
        let l1 = length-set starts k at in
        let l2 = length-set ends k e in
        let l3 = f.long in
        record {
          inside = omega arith;
          rest = sym q ∙ ap (λ (l : List (List ℕ)). drop 1 l) f.rest ∙ sym drop_less;
          far = omega arith;
          long = omega arith;
          spans = spans_more;
        }

    pub filling_last : length s ≤ e → Cuts s b room (set starts k at) (set ends k e) (k + 1)
    filling_last h =
        let l4 = lt in
        let q : drop 1 (cut b (drop at s)) ≡ [] = ap (λ (l : List (List ℕ)). drop 1 l) (here_last p f.inside h) in
        let r : drop (k + 1) (cut b s) ≡ [] = drop_less ∙ ap (λ (l : List (List ℕ)). drop 1 l) (sym f.rest) ∙ q in
        let l = length-drop (k + 1) (cut b s) in
        let z : length (drop (k + 1) (cut b s)) ≡ 0 = ap length r in
        let m = before_end in
        let l1 = length-set starts k at in
        record { count = omega arith; spans = spans_more }

  pub filling_ends : {room : ℕ} → length starts ≡ room → room ≤ k → Cuts s b room starts ends (length starts)
  filling_ends {room} er h = let m = before_end in let g = f.far in record { count = omega arith; spans = λ j l. f.spans j (omega arith) }

-- ---- texts put together

-- a text without a byte b
unfoldable pub other : ℕ → ℕ → Bool
other b x = not (eqb x b)

abbrev pub free : ℕ → List ℕ → Bool
free b l = all (other b) l

pub cut_append : (b : ℕ) (l s : List ℕ) → free b l ≡ true → cut b (l ++ (b ∷ s)) ≡ l ∷ cut b s
unfolding cut all other
cut_append b [] s h = rw (eq-eqb b b refl)
cut_append b (x ∷ l) s h =
    let (p, q) = both (not (eqb x b)) (all (other b) l) h in
    rw (not-true (eqb x b) p, cut_append b l s q)

pub cut_free : (b : ℕ) (l : List ℕ) → free b l ≡ true → cut b l ≡ l ∷ []
unfolding cut all other
cut_free b [] h = refl
cut_free b (x ∷ l) h =
    let (p, q) = both (not (eqb x b)) (all (other b) l) h in
    rw (not-true (eqb x b) p, cut_free b l q)

pub lines_append : (l s : List ℕ) → free 10 l ≡ true → lines_of (l ++ (10 ∷ s)) ≡ l ∷ lines_of s
unfolding lines_of
lines_append l s h = rw (cut_append 10 l s h) (head (cut 10 s) (cut_some 10 s))
  where
    head : (c : List (List ℕ)) → 0 < length c → take (suc (length c) - 1) (l ∷ c) ≡ l ∷ take (length c - 1) c
    head c pos = let e : suc (length c) - 1 ≡ suc (length c - 1) = omega arith in rw e

pub ended_append : (l s : List ℕ) → free 10 l ≡ true → ended (l ++ (10 ∷ s)) ≡ ended s
unfolding ended
ended_append l s h = rw (cut_append 10 l s h) (last (cut 10 s) (cut_some 10 s))
  where
    last : (c : List (List ℕ)) → 0 < length c → none (get_or (l ∷ c) (suc (length c) - 1) []) ≡ none (get_or c (length c - 1) [])
    last c pos = let e : suc (length c) - 1 ≡ suc (length c - 1) = omega arith in rw e

pub lines_nothing : lines_of [] ≡ []
unfolding lines_of cut
lines_nothing = refl

pub ended_nothing : ended [] ≡ true
unfolding ended cut
ended_nothing = refl

-- the same at a place of a text, by the place of the next line feed
module _ {s : List ℕ} {at e : ℕ} (p : Placed s at 10 e) (inside : at ≤ length s) where
  pub lines_here : e < length s → lines_of (drop at s) ≡ take (e - at) (drop at s) ∷ lines_of (drop (e + 1) s)
  unfolding lines_of
  lines_here h = rw (here_first p inside h) (head (take (e - at) (drop at s)) (cut 10 (drop (e + 1) s)) (cut_some 10 (drop (e + 1) s)))
    where
      head : (l : List ℕ) (c : List (List ℕ)) → 0 < length c → take (suc (length c) - 1) (l ∷ c) ≡ l ∷ take (length c - 1) c
      head l c pos = let z : suc (length c) - 1 ≡ suc (length c - 1) = omega arith in rw z

  pub ended_here : e < length s → ended (drop at s) ≡ ended (drop (e + 1) s)
  unfolding ended
  ended_here h = rw (here_first p inside h) (last (take (e - at) (drop at s)) (cut 10 (drop (e + 1) s)) (cut_some 10 (drop (e + 1) s)))
    where
      last : (l : List ℕ) (c : List (List ℕ)) → 0 < length c → none (get_or (l ∷ c) (suc (length c) - 1) []) ≡ none (get_or c (length c - 1) [])
      last l c pos = let z : suc (length c) - 1 ≡ suc (length c - 1) = omega arith in rw z

  -- a last line that lacks its line feed
  pub not_ended : at < length s → length s ≤ e → ended (drop at s) ≡ false
  unfolding ended
  not_ended lt h =
      let i = p.inside in
      let l1 = length-take (e - at) (drop at s) in
      let l2 = length-drop at s in
      rw (here_last p inside h) (some (take (e - at) (drop at s)) (omega arith))
    where
      some : (l : List ℕ) → 0 < length l → none (get_or (l ∷ []) (1 - 1) []) ≡ false
      some [] z = let y : ⊥ = omega arith in absurd y
      some (x ∷ l) z = refl

-- ---- the parts put together again

unfoldable pub join_with : ℕ → List (List ℕ) → List ℕ
join_with b [] = []
join_with b (l ∷ []) = l
join_with b (l ∷ m ∷ ls) = l ++ (b ∷ join_with b (m ∷ ls))

pub join_cut : (b : ℕ) (s : List ℕ) → join_with b (cut b s) ≡ s
unfolding cut join_with
join_cut b [] = refl
join_cut b (x ∷ s) = go (eqb x b) refl (cut b s) (cut_some b s) (join_cut b s)
  where
    go : (t : Bool) → eqb x b ≡ t → (c : List (List ℕ)) → 0 < length c → join_with b c ≡ s → join_with b (pick t ([] ∷ c) (longer x c)) ≡ x ∷ s
    go t e [] h j = let z : ⊥ = omega arith in absurd z
    go true e (l ∷ ls) h j = rw (j, eqb-true x b e)
    go false e (l ∷ []) h j = ap (λ (z : List ℕ). x ∷ z) j
    go false e (l ∷ m ∷ ls) h j = ap (λ (z : List ℕ). x ∷ z) j
