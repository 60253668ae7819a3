-- Laws of names: sameness, chains, and the lane of a name.
use Prim.Native.Nat.{ℕ, zero, suc, ◌+◌, ◌-◌, ◌*◌, ◌%◌, ◌≤◌, ◌<◌}
use native.Mathlib.Omega.{arith}
use native.Mathlib.Nat.{eq-or-lt_of_le}
use native.Mathlib.Decide.{dec_lt}
use native.Mathlib.Numerals.{add-one}
use mathlib.Core.Path.{◌≡◌, refl, sym, ap, ap₂, ◌∙◌, subst}
use mathlib.Core.Logic.{◌⊎◌, inl, inr, ⊎_elim}
use mathlib.Core.Bool.{Bool, true, false, not, ◌&&◌, ◌||◌, true≢false}
use mathlib.Core.List.{List, [], ◌∷◌}
use lib.Dec.{eqb}
use lib.ListN.{length, take, drop, get_or, set, length-drop, length-take, drop_of_length-le, length-set}
use lib.Seq.{drop-cons, get_or-set_same, get_or-set_other, get_or-take, length-take-le}
use borrow.Author.Tests.{eq-eqb, ne_eqb, eqb-true, eqb-false, not-true}
use Rattle.ground.specs.Lists.{pick, all, any, distinct}
use Rattle.ground.proofs.ListLaws.{both, all_at}
use Rattle.std.proofs.Common.{Option, Some, None, unwrap_or}
use Rattle.std.specs.Cmp.Lexicographic.{pointwise}
use Rattle.std.specs.List.{list_all, range_with_len}
use Rattle.names.proofs.Bytes.{same_is, all_over}
use Rattle.names.specs.Names.{same, name_at, lane_of, none, cut, lines_of, ended, name_ok, table_ok}
use Rattle.names.proofs.Cutting.{cut_some}
use Rattle.names.specs.Inner.{hash_from, hash_of, last_of, Chained, Finds, Span, Spans, Indexed, Table, Fresh, Linked, Cuts}

-- ---- sameness

pub same_equal : (s t : List ℕ) → same s t ≡ true → s ≡ t
unfolding same
same_equal [] [] e = refl
same_equal [] (y ∷ t) e = absurd (true≢false (sym e))
same_equal (x ∷ s) [] e = absurd (true≢false (sym e))
same_equal (x ∷ s) (y ∷ t) e =
    let (a, b) = both (eqb x y) (same s t) e in
    ap₂ (λ (u : ℕ) (v : List ℕ). u ∷ v) (eqb-true x y a) (same_equal s t b)

pub same_self : (s : List ℕ) → same s s ≡ true
unfolding same
same_self [] = refl
same_self (x ∷ s) = rw (eq-eqb x x refl) (same_self s)

pub equal_same : (s t : List ℕ) → s ≡ t → same s t ≡ true
equal_same s t e = subst (λ (u : List ℕ). same s u ≡ true) e (same_self s)

-- ---- the hash

pub record Hashing (s : List ℕ) (h i : ℕ) : Type 0 where
  pub small : h < 1048573
  pub todo : hash_from h (drop i s) ≡ hash_from 0 s

pub hashing_next : {s : List ℕ} {h i x : ℕ} → Hashing s h i → i < length s → x ≡ get_or s i 0 → Hashing s ((h * 131 + x) % 1048573) (i + 1)
unfolding hash_from
hashing_next {s} {h} {i} {x} c lt e = record { small = omega arith; todo = rw (e, add-one) (ap (λ (l : List ℕ). hash_from h l) (sym (drop-cons s i 0 lt))) ∙ c.todo }

pub hashing_ends : {s : List ℕ} {h i : ℕ} → Hashing s h i → length s ≤ i → h % 4096 ≡ hash_of s
unfolding hash_from
hashing_ends {s} {h} {i} c le =
    let e : h ≡ hash_from 0 s = ap (hash_from h) (sym (drop_of_length-le s {i = i} le)) ∙ c.todo in
    ap (λ (x : ℕ). x % 4096) e

-- ---- chains

module _ (ns : List (List ℕ)) (c : ℕ) where
  pub last_few : (n : ℕ) → last_of ns c n ≤ n
  unfolding last_of
  last_few zero = omega arith
  last_few (suc n) = go (eqb (hash_of (get_or ns n [])) c) (last_few n)
    where
      go : (b : Bool) → last_of ns c n ≤ n → pick b (suc n) (last_of ns c n) ≤ suc n
      go true h = omega arith
      go false h = omega arith

  -- the last of a chain is in it
  pub last_in : (n j : ℕ) → last_of ns c n ≡ suc j → hash_of (get_or ns j []) ≡ c
  unfolding last_of
  last_in zero j e = let z : ⊥ = omega arith in absurd z
  last_in (suc n) j e = go (eqb (hash_of (get_or ns n [])) c) refl e (last_in n j)
    where
      go : (b : Bool) → eqb (hash_of (get_or ns n [])) c ≡ b → pick b (suc n) (last_of ns c n) ≡ suc j → (last_of ns c n ≡ suc j → hash_of (get_or ns j []) ≡ c) → hash_of (get_or ns j []) ≡ c
      go true q h ih = let z : n ≡ j = omega arith in rw (← z) (eqb-true (hash_of (get_or ns n [])) c q)
      go false q h ih = ih h

  -- and none behind it is
  pub last_out : (n j : ℕ) → last_of ns c n ≤ j → j < n → hash_of (get_or ns j []) ≡ c → ⊥
  unfolding last_of
  last_out zero j le lt e = omega arith
  last_out (suc n) j le lt e = go (eqb (hash_of (get_or ns n [])) c) refl le (last_out n j)
    where
      before : j ≤ n
      before = omega arith

      go : (b : Bool) → eqb (hash_of (get_or ns n [])) c ≡ b → pick b (suc n) (last_of ns c n) ≤ j → (last_of ns c n ≤ j → j < n → hash_of (get_or ns j []) ≡ c → ⊥) → ⊥
      go true q h ih = omega arith
      go false q h ih = ⊎_elim
          (λ z. eqb-false (hash_of (get_or ns n [])) c q (ap (λ (i : ℕ). hash_of (get_or ns i [])) (sym z) ∙ e))
          (λ l. ih h l e)
          (eq-or-lt_of_le before)

-- a search along a chain: no name from p on is the key
pub record Seeking (ns : List (List ℕ)) (n : ℕ) (key : List ℕ) (c p : ℕ) : Type 0 where
  pub few : p ≤ n
  pub passed : (j : ℕ) → p ≤ j → j < n → same (get_or ns j []) key ≡ false
  pub chain : 0 < p → hash_of (get_or ns (p - 1) []) ≡ c

unlike : (s t : List ℕ) → (hash_of s ≡ hash_of t → ⊥) → same s t ≡ false
unlike s t ne = go (same s t) refl
  where
    go : (b : Bool) → same s t ≡ b → b ≡ false
    go true e = absurd (ne (ap hash_of (same_equal s t e)))
    go false e = refl

chain_at : (ns : List (List ℕ)) (c m p : ℕ) → p ≡ last_of ns c m → 0 < p → hash_of (get_or ns (p - 1) []) ≡ c
chain_at ns c m p e h = let q : last_of ns c m ≡ suc (p - 1) = sym e ∙ (omega arith) in last_in ns c m (p - 1) q

module _ {ns : List (List ℕ)} {heads links : List ℕ} {n : ℕ} (ch : Chained ns heads links n) (key : List ℕ) (c : ℕ) (ec : c ≡ hash_of key) where
  pub seeking_start : c < 4096 → Seeking ns n key c (get_or heads c 0)
  seeking_start lt =
      let e = ch.last c lt in
      let f = last_few ns c n in
      record {
        few = omega arith;
        passed = λ j le l. unlike (get_or ns j []) key (λ q. last_out ns c n j (rw (← e) le) l (q ∙ sym ec));
        chain = chain_at ns c n (get_or heads c 0) e;
      }

  pub seeking_next : (p : ℕ) → Seeking ns n key c p → 0 < p → same (get_or ns (p - 1) []) key ≡ false → Seeking ns n key c (get_or links (p - 1) 0)
  seeking_next p s pos off =
      let w = s.few in
      let h : hash_of (get_or ns (p - 1) []) ≡ c = s.chain pos in
      let e : get_or links (p - 1) 0 ≡ last_of ns c (p - 1) = ch.before (p - 1) (omega arith) ∙ rw h in
      let f = last_few ns c (p - 1) in
      record { few = omega arith; passed = λ j le l. go e j le l (cases j p); chain = chain_at ns c (p - 1) (get_or links (p - 1) 0) e }
    where
      cases : (j p : ℕ) → (p ≤ j) ⊎ (j < p)
      cases j p = go (decide j p)
        where
          decide : (j p : ℕ) → Dec (j < p)
          decide j p = dec_lt j p

          go : Dec (j < p) → (p ≤ j) ⊎ (j < p)
          go (yes h) = inr h
          go (no h) = inl (omega arith)

      go : get_or links (p - 1) 0 ≡ last_of ns c (p - 1) → (j : ℕ) → get_or links (p - 1) 0 ≤ j → j < n → (p ≤ j) ⊎ (j < p) → same (get_or ns j []) key ≡ false
      go e j le l (inl q) = s.passed j q l
      go e j le l (inr q) = ⊎_elim
          (λ z. rw z off)
          (λ k. unlike (get_or ns j []) key (λ x. last_out ns c (p - 1) j (rw (← e) le) k (x ∙ sym ec)))
          (eq-or-lt_of_le (under j p q))
        where
          under : (j p : ℕ) → j < p → j ≤ p - 1
          under j p h = omega arith

pub seeking_less : {ns : List (List ℕ)} {heads links : List ℕ} {n : ℕ} {key : List ℕ} {c p : ℕ} → Chained ns heads links n → Seeking ns n key c p → 0 < p → get_or links (p - 1) 0 < p
seeking_less {ns} {heads} {links} {n} {key} {c} {p} ch s pos =
    let w = s.few in
    let e = ch.before (p - 1) (omega arith) in
    let f = last_few ns (hash_of (get_or ns (p - 1) [])) (p - 1) in
    omega arith

pub seeking_found : {ns : List (List ℕ)} {n : ℕ} {key : List ℕ} {c p : ℕ} → Seeking ns n key c p → 0 < p → same (get_or ns (p - 1) []) key ≡ true → Finds ns n key (Some (p - 1))
seeking_found {ns} {n} {key} {c} {p} s pos e =
    let w = s.few in
    (omega arith, record { few = omega arith; here = λ l. e; absent = λ q j l. let z : ⊥ = omega arith in absurd z })

-- ---- the index

module _ {s starts ends heads links : List ℕ} {n : ℕ} {key : List ℕ} {c p : ℕ} (ix : Indexed s starts ends heads links n) (k : Seeking (cut 10 s) n key c p) (pos : 0 < p) where
  pub find_span : Span s starts ends (p - 1) (get_or (cut 10 s) (p - 1) [])
  find_span = let w = k.few in ix.spans (p - 1) (omega arith)

-- what stands between the places of a part
module _ {s starts ends x : List ℕ} {j : ℕ} {p : List ℕ} (e : x ≡ take (get_or ends j 0 - get_or starts j 0) (drop (get_or starts j 0) s)) (sp : Span s starts ends j p) where
  pub part_is : x ≡ p
  part_is = e ∙ sp.is

  pub same_part : (key : List ℕ) {r t : Bool} → r ≡ pointwise eqb x key → r ≡ t → same p key ≡ t
  same_part key q w = rw (← part_is, ← same_is x key) (sym q ∙ w)

-- one more name in its chain
pub chain_more : {heads links key : List ℕ} {ns : List (List ℕ)} {i : ℕ} (c : ℕ) → Chained ns heads links i → key ≡ get_or ns i []
    → i < 4096 → c ≡ hash_of key → c < 4096 → Chained ns (set heads c (i + 1)) (set links i (get_or heads c 0)) (i + 1)
unfolding last_of
chain_more {heads} {links} {key} {ns} {i} c ch ek lt ec small =
    let one : i + 1 ≡ suc i = omega arith in
    rw one (record { chains = length-set heads c (suc i) ∙ lh; names = length-set links i (get_or heads c 0) ∙ ll; last = last; before = before })
  where
    lh : length heads ≡ 4096
    lh = ch.chains

    ll : length links ≡ 4096
    ll = ch.names

    hash : hash_of (get_or ns i []) ≡ c
    hash = rw (← ek) (sym ec)

    last : (d : ℕ) → d < 4096 → get_or (set heads c (suc i)) d 0 ≡ last_of ns d (suc i)
    last d h = go (eqb (hash_of (get_or ns i [])) d) refl
      where
        go : (b : Bool) → eqb (hash_of (get_or ns i [])) d ≡ b → get_or (set heads c (suc i)) d 0 ≡ pick b (suc i) (last_of ns d i)
        go true e =
            let q : d ≡ c = sym (eqb-true (hash_of (get_or ns i [])) d e) ∙ hash in
            let n = lh in
            rw q (get_or-set_same heads c (suc i) 0 (omega arith))
        go false e =
            let ne : d ≡ c → ⊥ = λ z. eqb-false (hash_of (get_or ns i [])) d e (hash ∙ sym z) in
            get_or-set_other heads c d (suc i) 0 ne ∙ ch.last d h

    before : (j : ℕ) → j < suc i → get_or (set links i (get_or heads c 0)) j 0 ≡ last_of ns (hash_of (get_or ns j [])) j
    before j h = ⊎_elim
        (λ e. let n = ll in rw e (get_or-set_same links i (get_or heads c 0) 0 (omega arith) ∙ ch.last c small ∙ rw hash))
        (λ l. let ne : j ≡ i → ⊥ = λ z. omega arith in get_or-set_other links i j (get_or heads c 0) 0 ne ∙ ch.before j l)
        (eq-or-lt_of_le le)
      where
        le : j ≤ i
        le = omega arith

-- ---- whether none comes twice

any_yes : (a : List ℕ) (l : List (List ℕ)) (i : ℕ) → i < length l → same a (get_or l i []) ≡ true → any (same a) l ≡ true
unfolding any
any_yes a [] i h e = let z : ⊥ = omega arith in absurd z
any_yes a (b ∷ l) zero h e = rw e
any_yes a (b ∷ l) (suc i) h e = go (same a b) (any_yes a l i (omega arith) e)
  where
    go : (t : Bool) → any (same a) l ≡ true → (t || any (same a) l) ≡ true
    go true k = refl
    go false k = k

any_no : (a : List ℕ) (l : List (List ℕ)) → ((i : ℕ) → i < length l → same a (get_or l i []) ≡ false) → any (same a) l ≡ false
unfolding any
any_no a [] h = refl
any_no a (b ∷ l) h = rw (h 0 (omega arith)) (any_no a l (λ i k. h (suc i) (omega arith)))

distinct_no : (l : List (List ℕ)) (j i : ℕ) → j < i → i < length l → same (get_or l j []) (get_or l i []) ≡ true → distinct same l ≡ false
unfolding distinct
distinct_no [] j i h k e = let z : ⊥ = omega arith in absurd z
distinct_no (a ∷ l) zero zero h k e = let z : ⊥ = omega arith in absurd z
distinct_no (a ∷ l) zero (suc i) h k e = rw (any_yes a l i (omega arith) e)
distinct_no (a ∷ l) (suc j) zero h k e = let z : ⊥ = omega arith in absurd z
distinct_no (a ∷ l) (suc j) (suc i) h k e = go (not (any (same a) l)) (distinct_no l j i (omega arith) (omega arith) e)
  where
    go : (t : Bool) → distinct same l ≡ false → (t && distinct same l) ≡ false
    go true q = q
    go false q = refl

distinct_yes : (l : List (List ℕ)) → ((j i : ℕ) → j < i → i < length l → same (get_or l j []) (get_or l i []) ≡ false) → distinct same l ≡ true
unfolding distinct
distinct_yes [] h = refl
distinct_yes (a ∷ l) h =
    rw (any_no a l (λ i k. h 0 (suc i) (omega arith) (omega arith))) (distinct_yes l (λ j i p q. h (suc j) (suc i) (omega arith) (omega arith)))

pub record Linking (ns : List (List ℕ)) (heads links : List ℕ) (n i : ℕ) : Type 0 where
  pub few : i ≤ n
  pub chained : Chained ns heads links i
  pub apart : (j k : ℕ) → j < k → k < i → same (get_or ns j []) (get_or ns k []) ≡ false

pub linking_fails : {ns : List (List ℕ)} {heads links : List ℕ} {n i : ℕ} (r : Bool) → Linking ns heads links n i → i < n → n ≤ length ns → Fresh ns i r → r ≡ false → Linked ns heads links n false
linking_fails {ns} {heads} {links} {n} {i} r k lt long f e =
    let t = f.old e in
    let b = t.below in
    let l = length-take n ns in
    let g : same (get_or (take n ns) t.earlier []) (get_or (take n ns) i []) ≡ true = rw (get_or-take n ns t.earlier [] (omega arith), get_or-take n ns i [] lt) t.is in
    record { told = sym (distinct_no (take n ns) t.earlier i b (omega arith) g); chained = λ z. absurd (true≢false (sym z)) }

pub linking_ends : {ns : List (List ℕ)} {heads links : List ℕ} {n i : ℕ} → Linking ns heads links n i → n ≤ i → n ≤ length ns → Linked ns heads links n true
linking_ends {ns} {heads} {links} {n} {i} k le long =
    let w = k.few in
    let l = length-take n ns in
    let z : i ≡ n = omega arith in
    record {
      told = sym (distinct_yes (take n ns) (λ j m p q. rw (get_or-take n ns j [] (omega arith), get_or-take n ns m [] (omega arith)) (k.apart j m p (omega arith))));
      chained = λ e. rw (← z) k.chained;
    }

-- ---- the table

-- the first lines are asked by their places
pub names_all : {s starts ends : List ℕ} {n : ℕ} {r : Bool} → Spans s (cut 10 s) starts ends n → n ≤ length (cut 10 s)
    → r ≡ list_all (λ j. name_ok (take (get_or ends j 0 - get_or starts j 0) (drop (get_or starts j 0) s))) (range_with_len 0 n) → r ≡ all name_ok (take n (cut 10 s))
names_all {s} {starts} {ends} {n} sp long e =
    e ∙ ap (λ m. list_all (λ j. name_ok (take (get_or ends j 0 - get_or starts j 0) (drop (get_or starts j 0) s))) (range_with_len 0 m)) (sym few)
    ∙ all_over [] name_ok (λ j. take (get_or ends j 0 - get_or starts j 0) (drop (get_or starts j 0) s)) (take n (cut 10 s)) 0 same
  where
    few : length (take n (cut 10 s)) ≡ n
    few = length-take-le n (cut 10 s) long

    same : (k : ℕ) → k < length (take n (cut 10 s)) → take (get_or ends (0 + k) 0 - get_or starts (0 + k) 0) (drop (get_or starts (0 + k) 0) s) ≡ get_or (take n (cut 10 s)) k []
    same k h =
        let f = few in
        let lt : k < n = omega arith in
        let z : 0 + k ≡ k = omega arith in
        rw z ((sp k lt).is ∙ sym (get_or-take n (cut 10 s) k [] lt))

-- ---- the whole table

lines_are : (s : List ℕ) (n : ℕ) → length (cut 10 s) ≡ suc n → lines_of s ≡ take n (cut 10 s)
unfolding lines_of
lines_are s n e = let z : length (cut 10 s) - 1 ≡ n = omega arith in rw z

ended_is : (s : List ℕ) (n : ℕ) → length (cut 10 s) ≡ suc n → ended s ≡ none (get_or (cut 10 s) n [])
unfolding ended
ended_is s n e = let z : length (cut 10 s) - 1 ≡ n = omega arith in rw z

lines_length : (s : List ℕ) → suc (length (lines_of s)) ≡ length (cut 10 s)
unfolding lines_of
lines_length s =
    let c = cut_some 10 s in
    let l : length (take (length (cut 10 s) - 1) (cut 10 s)) ≡ length (cut 10 s) - 1 = length-take-le (length (cut 10 s) - 1) (cut 10 s) (omega arith) in
    omega arith

module _ {s starts ends : List ℕ} {lanes room : ℕ} (count : ℕ) (cs : Cuts s 10 room starts ends count) (long : room ≡ 4098) (few : lanes ≤ 4096) where
  pub table_count : (count ≡ lanes + 1 → ⊥) → table_ok lanes s ≡ false
  unfolding table_ok
  table_count ne = rw off (none_of (ended s))
    where
      off : eqb (length (lines_of s)) lanes ≡ false
      off =
          let l = lines_length s in
          let c = cs.count in
          ne_eqb (length (lines_of s)) lanes (λ e. ne (omega arith))

      none_of : (b : Bool) → (b && false && all name_ok (lines_of s) && distinct same (lines_of s)) ≡ false
      none_of true = refl
      none_of false = refl

  module _ (ec : count ≡ lanes + 1) where
    parts : length (cut 10 s) ≡ suc lanes
    parts = let c = cs.count in omega arith

    pub table_spans : Spans s (cut 10 s) starts ends lanes
    table_spans j lt = cs.spans j (omega arith)

    last : Span s starts ends lanes (get_or (cut 10 s) lanes [])
    last = cs.spans lanes (omega arith)

    opened : table_ok lanes s ≡ (none (get_or (cut 10 s) lanes []) && all name_ok (take lanes (cut 10 s)) && distinct same (take lanes (cut 10 s)))
    unfolding table_ok
    opened =
        let l = lines_length s in
        let p = parts in
        let e : eqb (length (lines_of s)) lanes ≡ true = eq-eqb (length (lines_of s)) lanes (omega arith) in
        rw (e, lines_are s lanes p, ended_is s lanes p) (go (none (get_or (cut 10 s) lanes [])) (all name_ok (take lanes (cut 10 s))) (distinct same (take lanes (cut 10 s))))
      where
        go : (a b c : Bool) → (a && true && b && c) ≡ (a && b && c)
        go true b c = refl
        go false b c = refl

    pub table_open : (get_or starts lanes 0 ≡ get_or ends lanes 0 → ⊥) → table_ok lanes s ≡ false
    table_open ne = opened ∙ rw (some (get_or (cut 10 s) lanes []) last.is)
      where
        o : get_or starts lanes 0 ≤ get_or ends lanes 0
        o = last.order

        w : get_or ends lanes 0 ≤ length s
        w = last.inside

        lt : get_or starts lanes 0 < get_or ends lanes 0
        lt = ⊎_elim (λ e. absurd (ne e)) (λ l. l) (eq-or-lt_of_le o)

        some : (p : List ℕ) → take (get_or ends lanes 0 - get_or starts lanes 0) (drop (get_or starts lanes 0) s) ≡ p → none p ≡ false
        some [] e =
            let l4 = lt in
            let l5 = w in
            let l1 = length-take (get_or ends lanes 0 - get_or starts lanes 0) (drop (get_or starts lanes 0) s) in
            let l2 = length-drop (get_or starts lanes 0) s in
            let l3 : length (take (get_or ends lanes 0 - get_or starts lanes 0) (drop (get_or starts lanes 0) s)) ≡ 0 = ap length e in
            let z : ⊥ = omega arith in absurd z
        some (x ∷ p) e = refl

    module _ (closed : get_or starts lanes 0 ≡ get_or ends lanes 0) where
      empty : none (get_or (cut 10 s) lanes []) ≡ true
      empty = go (get_or (cut 10 s) lanes []) last.is
        where
          go : (p : List ℕ) → take (get_or ends lanes 0 - get_or starts lanes 0) (drop (get_or starts lanes 0) s) ≡ p → none p ≡ true
          go [] e = refl
          go (x ∷ p) e =
              let l1 = length-take (get_or ends lanes 0 - get_or starts lanes 0) (drop (get_or starts lanes 0) s) in
              let l3 : length (take (get_or ends lanes 0 - get_or starts lanes 0) (drop (get_or starts lanes 0) s)) ≡ suc (length p) = ap length e in
              let z : ⊥ = omega arith in absurd z

      pub table_names : {r : Bool} → r ≡ all name_ok (take lanes (cut 10 s)) → r ≡ false → table_ok lanes s ≡ false
      table_names e f = opened ∙ rw (empty, ← e, f)

      pub table_twice : {heads links : List ℕ} {r b : Bool} → r ≡ all name_ok (take lanes (cut 10 s)) → r ≡ true → Linked (cut 10 s) heads links lanes b → b ≡ false → table_ok lanes s ≡ false
      table_twice e t k f = opened ∙ rw (empty, ← e, t) (sym k.told ∙ f)

      pub table_good : {heads links : List ℕ} {r b : Bool} → r ≡ all name_ok (take lanes (cut 10 s)) → r ≡ true → Linked (cut 10 s) heads links lanes b → b ≡ true → table_ok lanes s ≡ true
      table_good e t k f = opened ∙ rw (empty, ← e, t) (sym k.told ∙ f)

      pub table_read : {heads links : List ℕ} {r b : Bool} → r ≡ all name_ok (take lanes (cut 10 s)) → r ≡ true → Linked (cut 10 s) heads links lanes b → b ≡ true → Table s starts ends heads links lanes
      table_read e t k f = record { index = record { few = few; spans = table_spans; chained = k.chained f }; good = table_good e t k f }

-- ---- the lane of a name

lane_first : (ns : List (List ℕ)) (key : List ℕ) (r : ℕ) → r < length ns → same (get_or ns r []) key ≡ true → distinct same ns ≡ true → lane_of ns key ≡ r
unfolding lane_of distinct
lane_first [] key r h e d = let z : ⊥ = omega arith in absurd z
lane_first (n ∷ ns) key zero h e d = rw e
lane_first (n ∷ ns) key (suc r) h e d =
    let (p, q) = both (not (any (same n) ns)) (distinct same ns) d in
    rw (off (same n key) refl (not-true (any (same n) ns) p)) (ap suc (lane_first ns key r (omega arith) e q))
  where
    off : (b : Bool) → same n key ≡ b → any (same n) ns ≡ false → b ≡ false
    off true f g =
        let x : same n (get_or ns r []) ≡ true = equal_same n (get_or ns r []) (same_equal n key f ∙ sym (same_equal (get_or ns r []) key e)) in
        absurd (true≢false (sym (any_yes n ns r (omega arith) x) ∙ g))
    off false f g = refl

lane_none : (ns : List (List ℕ)) (key : List ℕ) → ((j : ℕ) → j < length ns → same (get_or ns j []) key ≡ false) → lane_of ns key ≡ length ns
unfolding lane_of
lane_none [] key h = refl
lane_none (n ∷ ns) key h = rw (h 0 (omega arith)) (ap suc (lane_none ns key (λ j l. h (suc j) (omega arith))))

-- what an accepted table says
pub record Good (s : List ℕ) (lanes : ℕ) : Type 0 where
  pub count : length (lines_of s) ≡ lanes
  pub lines : lines_of s ≡ take lanes (cut 10 s)
  pub good : all name_ok (lines_of s) ≡ true
  pub apart : distinct same (lines_of s) ≡ true

pub good_table : (s : List ℕ) (lanes : ℕ) → table_ok lanes s ≡ true → Good s lanes
unfolding table_ok
good_table s lanes e =
    let (x, d) = both (ended s && eqb (length (lines_of s)) lanes && all name_ok (lines_of s)) (distinct same (lines_of s)) e in
    let (y, c) = both (ended s && eqb (length (lines_of s)) lanes) (all name_ok (lines_of s)) x in
    let (a, b) = both (ended s) (eqb (length (lines_of s)) lanes) y in
    let n : length (lines_of s) ≡ lanes = eqb-true (length (lines_of s)) lanes b in
    let l = lines_length s in
    record { count = n; lines = lines_are s lanes (omega arith); good = c; apart = d }

pub line_at : {s : List ℕ} {lanes : ℕ} → Good s lanes → (j : ℕ) → j < lanes → get_or (lines_of s) j [] ≡ get_or (cut 10 s) j []
line_at {s} {lanes} g j lt = rw g.lines (get_or-take lanes (cut 10 s) j [] lt)

-- the name of a lane
pub named : {s starts ends heads links x : List ℕ} {lanes lane : ℕ} → Table s starts ends heads links lanes → lane < lanes
    → x ≡ take (get_or ends lane 0 - get_or starts lane 0) (drop (get_or starts lane 0) s) → x ≡ name_at (lines_of s) lane
named {s} {lanes = lanes} {lane = lane} t lt e = e ∙ (t.index.spans lane lt).is ∙ sym (line_at (good_table s lanes t.good) lane lt)

-- the lane that is found, or the count of lanes
pub found_lane : {s : List ℕ} {lanes : ℕ} (key : List ℕ) (o : Option ℕ) → Good s lanes → Finds (cut 10 s) lanes key o → unwrap_or o lanes ≡ lane_of (lines_of s) key
found_lane {s} {lanes} key o g f = go o f
  where
    count : length (lines_of s) ≡ lanes
    count = g.count

    less : {j : ℕ} → j < length (lines_of s) → j < lanes
    less l = let c = count in omega arith

    go : (o : Option ℕ) → Finds (cut 10 s) lanes key o → unwrap_or o lanes ≡ lane_of (lines_of s) key
    go None f = sym (lane_none (lines_of s) key (λ j l. rw (line_at g j (less l)) (f.absent refl j (less l))) ∙ count)
    go (Some r) f = let c = count in sym (lane_first (lines_of s) key r (let l = f.0 in omega arith) (rw (line_at g r f.0) (f.1.here f.0)) g.apart)

-- a lane's own name leads to it
pub own_lane : {s : List ℕ} {lanes : ℕ} → Good s lanes → (lane : ℕ) → lane < lanes → lane_of (lines_of s) (get_or (lines_of s) lane []) ≡ lane
own_lane {s} g lane lt = let c = g.count in lane_first (lines_of s) (get_or (lines_of s) lane []) lane (omega arith) (same_self (get_or (lines_of s) lane [])) g.apart

-- and a known name is that of its lane
pub lane_named : (ns : List (List ℕ)) (key : List ℕ) → lane_of ns key < length ns → get_or ns (lane_of ns key) [] ≡ key
unfolding lane_of
lane_named [] key h = let z : ⊥ = omega arith in absurd z
lane_named (n ∷ ns) key h = go (same n key) refl h (lane_named ns key)
  where
    go : (b : Bool) → same n key ≡ b → pick b 0 (suc (lane_of ns key)) < suc (length ns) → (lane_of ns key < length ns → get_or ns (lane_of ns key) [] ≡ key) → get_or (n ∷ ns) (pick b 0 (suc (lane_of ns key))) [] ≡ key
    go true e l ih = same_equal n key e
    go false e l ih = ih (omega arith)

pub lane_name_ok : {s : List ℕ} {lanes : ℕ} → Good s lanes → (lane : ℕ) → lane < lanes → name_ok (get_or (lines_of s) lane []) ≡ true
lane_name_ok {s} g lane lt = let c = g.count in all_at [] name_ok (lines_of s) lane g.good (omega arith)
