-- Laws of what is listed, and of steps one after the other.
use Prim.Native.Nat.{ℕ, zero, suc, ◌+◌, ◌≤◌, ◌<◌}
use native.Mathlib.Omega.{arith}
use mathlib.Core.Path.{◌≡◌, refl, sym, ◌∙◌, ap}
use mathlib.Core.Bool.{Bool, true, false, true≢false, ◌||◌}
use mathlib.Core.List.{List, [], ◌∷◌, ◌++◌, map, append_assoc, append-nil}
use lib.Dec.{eqb}
use lib.ListN.{length, length-append}
use Rattle.image.specs.declared.Lane.{Lane}
use Rattle.evaluate.specs.declared.Segment.{Segment}
use Rattle.evaluate.specs.Segments.{Route, flat}
use Rattle.evaluate.specs.Words.{encode}
use Rattle.frames.specs.Inner.{Path, longer, path_at, stored_at, pieces, piece_from}
use Rattle.frames.proofs.Laws.{path_pieces, pieces_length, path_suc, path_zero}
use Rattle.enumeration.proofs.Room.{encode_length}
use Rattle.landings.specs.Inner.{Known}
use Rattle.walks.specs.Inner.{assigned}
use Rattle.listing.specs.declared.Listing.{Listing}
use Rattle.frames.specs.declared.Stored.{Stored}
use Rattle.plain.proofs.Marks.{listed_join, deep_join}
use Rattle.engine.specs.declared.Here.{Here}
use Rattle.engine.specs.declared.Told.{Told}
use Rattle.plain.specs.Steps.{Mark, Marks, listed, goes_too_deep}
use Rattle.engine.specs.Inner.{slot_words, assignment_of, words_of, is_over, Gathered, Tells, Standing, Stepped, InHand}

-- ---- lists

words_join : (n : ℕ) (l m : Marks) → words_of n (l ++ m) ≡ words_of n l ++ words_of n m
unfolding words_of
words_join n l m = ap (map (λ rs. encode (assignment_of n rs))) (listed_join m l) ∙ go (listed l)
  where
    go : (l : List (List Route)) → map (λ rs. encode (assignment_of n rs)) (l ++ listed m) ≡ map (λ rs. encode (assignment_of n rs)) l ++ map (λ rs. encode (assignment_of n rs)) (listed m)
    go [] = refl
    go (x ∷ l) = ap (λ r. encode (assignment_of n x) ∷ r) (go l)

pub or_none : (b : Bool) → b ≡ (b || false)
or_none true = refl
or_none false = refl

or_assoc : (a b c : Bool) → (a || b || c) ≡ (a || (b || c))
or_assoc true b c = refl
or_assoc false b c = refl

or_left : (b c : Bool) → (b || c) ≡ false → b ≡ false
or_left true c e = e
or_left false c e = refl

or_right : (b c : Bool) → (b || c) ≡ false → c ≡ false
or_right true c e = absurd (true≢false e)
or_right false c e = e

-- ---- gathered

module _ {xs : List ℕ} {l : Listing} where
  pub gathered_none : l.words ≤ length xs → l.written ≤ l.words → Gathered [] xs xs l l
  gathered_none h k = record { room = λ t. refl; written = λ t. refl; words = λ t. refl; long = refl; within = h; few = k }

module _ {xs ys zs : List ℕ} {l m r : Listing} where
  pub gathered_then : {ws vs : List (List ℕ)} → Gathered ws xs ys l m → Gathered vs ys zs m r → Gathered (ws ++ vs) xs zs l r
  gathered_then {ws} {vs} a b =
      record {
        room = λ t. rw (append_assoc ws vs t) (a.room (vs ++ t) ∙ b.room t);
        written = λ t. rw (append_assoc ws vs t) (a.written (vs ++ t) ∙ b.written t);
        words = λ t. rw (append_assoc ws vs t) (a.words (vs ++ t) ∙ b.words t);
        long = b.long ∙ a.long;
        within = b.within;
        few = b.few;
      }

-- nothing more fits
gathered_full : {xs : List ℕ} {l : Listing} (ws : List (List ℕ)) → l.full ≡ true → l.words ≤ length xs → l.written ≤ l.words → Gathered ws xs xs l l
gathered_full ws e h k = record { room = λ t. rw e refl; written = λ t. rw e refl; words = λ t. rw e refl; long = refl; within = h; few = k }

-- ---- marks told one after the other

module _ {X : Type 0} (words : List (Mark X) → List (List ℕ)) (none : words [] ≡ []) (join : (m n : List (Mark X)) → words (m ++ n) ≡ words m ++ words n) where
  pub tells_none : {out : List ℕ} {l : Told} → l.listing.words ≤ length out → l.listing.written ≤ l.listing.words → Tells words [] out out l l
  unfolding goes_too_deep
  tells_none {l = l} h k = record { lists = λ e. rw none (gathered_none h k); deep = λ f. or_none l.deep; stays = λ e. e; looks = refl }

  pub tells_then : {out o₁ o₂ : List ℕ} {l l₁ l₂ : Told} {m n : List (Mark X)} → Tells words m out o₁ l l₁ → Tells words n o₁ o₂ l₁ l₂ → Tells words (m ++ n) out o₂ l l₂
  tells_then {l = l} {m = m} {n = n} a b =
      record {
        lists = λ e. rw (join m n) (gathered_then (a.lists (b.stays e)) (b.lists e));
        deep = λ f.
            let g : l.looks ≡ false → (goes_too_deep m || goes_too_deep n) ≡ false = λ z. sym (deep_join n m) ∙ f z in
            b.deep (λ z. or_right (goes_too_deep m) (goes_too_deep n) (g (sym a.looks ∙ z)))
            ∙ ap (λ x. x || goes_too_deep n) (a.deep (λ z. or_left (goes_too_deep m) (goes_too_deep n) (g z)))
            ∙ or_assoc l.deep (goes_too_deep m) (goes_too_deep n) ∙ ap (λ x. l.deep || x) (sym (deep_join n m));
        stays = λ e. a.stays (b.stays e);
        looks = b.looks ∙ a.looks;
      }

-- nothing more is to be done: whatever the marks, they change nothing
pub tells_over : {X : Type 0} (words : List (Mark X) → List (List ℕ)) (marks : List (Mark X)) {out : List ℕ} (l : Told) → is_over l ≡ true → l.listing.words ≤ length out → l.listing.written ≤ l.listing.words
    → Tells words marks out out l l
tells_over words marks {out} l e h k = go l.deep l.looks refl refl
  where
    go : (d w : Bool) → l.deep ≡ d → l.looks ≡ w → Tells words marks out out l l
    go true w p q = record { lists = λ z. absurd (true≢false (sym p ∙ z)); deep = λ f. rw p refl; stays = λ z. z; looks = refl }
    go false true p q = absurd (true≢false (sym (rw (p, q) at e)))
    go false false p q = record { lists = λ z. gathered_full (words marks) (rw (p, q) at e) h k; deep = λ f. rw (f q) (or_none l.deep); stays = λ z. z; looks = refl }

-- ---- steps one after the other

wordless : (n : ℕ) → words_of n [] ≡ []
unfolding words_of listed
wordless n = refl

module _ {s : List ℕ} {here : Here} where
  pub step_none : {path slot out memo : List ℕ} {l : Told} → l.listing.words ≤ length out → l.listing.written ≤ l.listing.words → Known s here.h memo
      → Stepped s here path slot out l [] memo path slot out l
  step_none a b k =
      let n = here.family.number in
      record { tells = tells_none (words_of n) (wordless n) (words_join n) a b; within = a; written = b; long_out = refl; stays = λ i h. refl; known = k; long_path = refl; long_slot = refl }

  pub step_over : {path slot out memo : List ℕ} {l : Told} (marks : Marks) → is_over l ≡ true → l.listing.words ≤ length out → l.listing.written ≤ l.listing.words → Known s here.h memo
      → Stepped s here path slot out l marks memo path slot out l
  step_over {l = l} marks e a b k =
      record { tells = tells_over (words_of here.family.number) marks l e a b; within = a; written = b; long_out = refl; stays = λ i h. refl; known = k; long_path = refl; long_slot = refl }

  pub step_then : {path slot out memo₁ p₁ s₁ o₁ memo₂ p₂ s₂ o₂ : List ℕ} {l l₁ l₂ : Told} {m n : Marks}
      → Stepped s here path slot out l m memo₁ p₁ s₁ o₁ l₁ → Stepped s here p₁ s₁ o₁ l₁ n memo₂ p₂ s₂ o₂ l₂ → Stepped s here path slot out l (m ++ n) memo₂ p₂ s₂ o₂ l₂
  step_then a b =
      let n = here.family.number in
      record {
        tells = tells_then (words_of n) (wordless n) (words_join n) a.tells b.tells;
        within = b.within;
        written = b.written;
        long_out = b.long_out ∙ a.long_out;
        stays = λ i q. b.stays i q ∙ a.stays i q;
        known = b.known;
        long_path = b.long_path ∙ a.long_path;
        long_slot = b.long_slot ∙ a.long_slot;
      }

-- the path below stays
pub path_stays : (path path' : List ℕ) (top : ℕ) → ((i : ℕ) → i < top → stored_at path' i ≡ stored_at path i) → (j : ℕ) → j < top → path_at path' j ≡ path_at path j
path_stays path path' top f zero h = path_zero path' ∙ sym (path_zero path)
path_stays path path' top f (suc j) h =
    path_suc path' j ∙ rw (path_stays path path' top f j (omega arith), f j (omega arith), f (suc j) h) (sym (path_suc path j))

module _ {s starts memo path slot out : List ℕ} {here : Here} {l : Told} where
  -- a step may follow
  pub standing_next : {there : Here} {marks : Marks} {memo₁ p₁ s₁ o₁ : List ℕ} {r : Told} → Standing s starts memo path slot out here l → there.h ≡ here.h
      → Stepped s there path slot out l marks memo₁ p₁ s₁ o₁ r → Standing s starts memo₁ p₁ s₁ o₁ here r
  standing_next a e b =
      let x = b.long_path in
      let y = b.long_slot in
      let u = a.room in
      let v = a.scratch in
      let k = b.known in
      record {
        accepted = a.accepted;
        started = a.started;
        known = rw e at k;
        groups = a.groups;
        room = rw x u;
        few = a.few;
        scratch = rw y v;
        within = b.within;
        written = b.written;
      }

module _ {s : List ℕ} {here : Here} {lane : Lane} {path : List ℕ} {g : Stored} where
  pub in_hand_stays : {path' : List ℕ} → InHand s here lane path g → ((i : ℕ) → i < here.top + 1 → stored_at path' i ≡ stored_at path i) → length path' ≡ length path
      → InHand s here lane path' g
  in_hand_stays {path'} a f e =
      let o = a.on in
      let r = o.room in
      record {
        on = record { accepted = o.accepted; groups = o.groups; stands = o.stands; here = o.here; sound = o.sound; room = rw e r };
        alike = rw (f here.top (omega arith)) a.alike;
        begun = a.begun;
        good = rw (path_stays path path' (here.top + 1) f here.top (omega arith)) a.good;
      }

-- ---- one is listed

routes_few : (xs : List ℕ) (i : ℕ) → length (path_at xs i).routes ≤ i
routes_few xs zero = rw (path_zero xs) (omega arith)
routes_few xs (suc i) = rw (path_suc xs i) (go (eqb (stored_at xs i).slot (stored_at xs (suc i)).slot) (path_at xs i) (piece_from (stored_at xs i) (stored_at xs (suc i))) (routes_few xs i))
  where
    go : (b : Bool) (a : Path) (s : Segment) → length a.routes ≤ i → length (longer b a s).routes ≤ suc i
    go true a s h = omega arith
    go false a s h = simp length-append (omega arith)

flat_last : (ls : List Route) (r : Route) → flat (ls ++ (r ∷ [])) ≡ flat ls ++ r
flat_last [] r = append-nil r
flat_last (l ∷ ls) r = ap (λ x. l ++ x) (flat_last ls r) ∙ sym (append_assoc l (flat ls) r)

pub assigned_few : (family : ℕ) (xs : List ℕ) (top : ℕ) (s : Segment) (n : ℕ) → top < 64 → slot_words ≤ n → length (encode (assigned family xs top s)) ≤ n
assigned_few family xs top s n h k =
    let a = path_at xs top in
    let e = encode_length (assigned family xs top s) in
    let r = routes_few xs top in
    let m : length (a.routes ++ ((a.route ++ (s ∷ [])) ∷ [])) ≡ length a.routes + 1 = length-append a.routes ((a.route ++ (s ∷ [])) ∷ []) in
    let q : flat (a.routes ++ ((a.route ++ (s ∷ [])) ∷ [])) ≡ pieces xs top ++ (s ∷ []) =
    flat_last a.routes (a.route ++ (s ∷ [])) ∙ sym (append_assoc (flat a.routes) a.route (s ∷ [])) ∙ ap (λ l. l ++ (s ∷ [])) (path_pieces xs top) in
    let w : length (flat (a.routes ++ ((a.route ++ (s ∷ [])) ∷ []))) ≡ length (pieces xs top) + 1 = ap length q ∙ length-append (pieces xs top) (s ∷ []) in
    let v = pieces_length xs top in
    omega arith
