-- Routes to lines and back, and lines to routes and back.
use Prim.Native.Nat.{ℕ, suc, ◌-◌, ◌<◌}
use native.Mathlib.Omega.{arith}
use mathlib.Core.Path.{◌≡◌, refl, sym, ap, ap₂, ◌∙◌, subst}
use mathlib.Core.Bool.{Bool, true, false, ◌&&◌, ◌||◌, true≢false}
use mathlib.Core.List.{List, [], ◌∷◌, ◌++◌, append-nil, append_assoc, map}
use lib.Dec.{eqb}
use lib.ListN.{length, take, drop, get_or}
use borrow.Author.Tests.{eq-eqb, ne_eqb, eqb-true, lt-ltb, ltb-true}
use Rattle.ground.specs.Lists.{pick, all}
use Rattle.ground.proofs.ListLaws.{both}
use Rattle.evaluate.specs.declared.Segment.{Segment}
use Rattle.evaluate.specs.Properties.{Each}
use Rattle.evaluate.specs.Segments.{Route}
use Rattle.evaluate.specs.Words.{encode}
use Rattle.names.specs.Names.{lines_of, ended, none, cut, lane_of}
use Rattle.names.proofs.Cutting.{lines_append, ended_append, lines_nothing, ended_nothing, join_with, join_cut, cut_some}
use Rattle.rows.specs.Rows.{row_text, is_row, slot_of, segment_of, column}
use Rattle.rows.proofs.RowTrips.{Writable, row_is, row_slot, row_segment, row_name, row_free, row_back}
use Rattle.texts.specs.Bed.{route_text, routes_text, slots_from, text_ok, known, all_known, onto, gathered, routes_in, held}

-- ---- the lines of routes

abbrev route_rows : List (List ℕ) → ℕ → Route → List (List ℕ)
route_rows ns k [] = []
route_rows ns k (s ∷ r) = row_text ns k s ∷ route_rows ns k r

abbrev routes_rows : List (List ℕ) → ℕ → List Route → List (List ℕ)
routes_rows ns k [] = []
routes_rows ns k (r ∷ rs) = route_rows ns k r ++ routes_rows ns (suc k) rs

-- routes that can be written from slot k on: none is empty
abbrev pub Writables : List (List ℕ) → ℕ → List Route → Type 0
Writables ns k [] = Unit
Writables ns k (r ∷ rs) = (0 < length r) × Each (Writable ns k) r × Writables ns (suc k) rs

module _ (ns : List (List ℕ)) where
  route-lines : (k : ℕ) (r : Route) (t : List ℕ) → Each (Writable ns k) r → (lines_of (route_text ns k r ++ t) ≡ route_rows ns k r ++ lines_of t) × (ended (route_text ns k r ++ t) ≡ ended t)
  unfolding route_text
  route-lines k [] t w = (refl, refl)
  route-lines k (s ∷ r) t w =
      let (e, f) = route-lines k r t w.1 in
      let row = row_text ns k s in
      let free = row_free ns k s w.0 in
      let a : (row ++ (10 ∷ route_text ns k r)) ++ t ≡ row ++ (10 ∷ (route_text ns k r ++ t)) = append_assoc row (10 ∷ route_text ns k r) t in
      (ap lines_of a ∙ lines_append row (route_text ns k r ++ t) free ∙ ap (λ (l : List (List ℕ)). row ∷ l) e, ap ended a ∙ ended_append row (route_text ns k r ++ t) free ∙ f)

  routes-lines : (k : ℕ) (rs : List Route) → Writables ns k rs → (lines_of (routes_text ns k rs) ≡ routes_rows ns k rs) × (ended (routes_text ns k rs) ≡ true)
  unfolding routes_text
  routes-lines k [] w = (lines_nothing, ended_nothing)
  routes-lines k (r ∷ rs) w =
      let (e, f) = routes-lines (suc k) rs w.2 in
      let (g, h) = route-lines k r (routes_text ns (suc k) rs) w.1 in
      (g ∙ ap (λ (l : List (List ℕ)). route_rows ns k r ++ l) e, h ∙ f)

  -- ---- each has the form, with a name of the table

  all_rows : (f : List ℕ → Bool) → ((k : ℕ) (s : Segment) → Writable ns k s → f (row_text ns k s) ≡ true) → (k : ℕ) (rs : List Route) → Writables ns k rs → all f (routes_rows ns k rs) ≡ true
  unfolding all
  all_rows f h k [] w = refl
  all_rows f h k (r ∷ rs) w = one r w.1 (all_rows f h (suc k) rs w.2)
    where
      one : (r : Route) → Each (Writable ns k) r → all f (routes_rows ns (suc k) rs) ≡ true → all f (route_rows ns k r ++ routes_rows ns (suc k) rs) ≡ true
      one [] v e = e
      one (s ∷ r) v e = rw (h k s v.0, one r v.1 e)

  -- ---- the slots

  slots_same : (k : ℕ) (r : Route) (ls : List (List ℕ)) → Each (Writable ns k) r → slots_from (suc k) (map slot_of (route_rows ns k r ++ ls)) ≡ slots_from (suc k) (map slot_of ls)
  unfolding slots_from
  slots_same k [] ls w = refl
  slots_same k (s ∷ r) ls w = rw (row_slot ns k s w.0, eq-eqb (suc k) (suc k) refl, slots_same k r ls w.1) (go (eqb k (suc k)))
    where
      go : (b : Bool) → ((b || true) && slots_from (suc k) (map slot_of ls)) ≡ slots_from (suc k) (map slot_of ls)
      go true = refl
      go false = refl

  slots_all : (k : ℕ) (rs : List Route) → Writables ns k rs → slots_from k (map slot_of (routes_rows ns k rs)) ≡ true
  unfolding slots_from
  slots_all k [] w = refl
  slots_all k ([] ∷ rs) w = let z : 0 < 0 = w.0 in let y : ⊥ = omega arith in absurd y
  slots_all k ((s ∷ r) ∷ rs) w = rw (row_slot ns k s w.1.0, eq-eqb k k refl, slots_same k r (routes_rows ns (suc k) rs) w.1.1) (slots_all (suc k) rs w.2)

  -- ---- the routes again

  abbrev onto_all : Route → List Route → List Route
  onto_all [] g = g
  onto_all (s ∷ r) g = onto s (onto_all r g)

  onto-all : (r t : Route) (rs : List Route) → onto_all r (t ∷ rs) ≡ (r ++ t) ∷ rs
  onto-all [] t rs = refl
  onto-all (s ∷ r) t rs = rw (onto-all r t rs)

  same_route : (k : ℕ) (r : Route) (ls : List (List ℕ)) → Each (Writable ns k) r → gathered ns (suc k) (route_rows ns k r ++ ls) ≡ onto_all r (gathered ns (suc k) ls)
  unfolding gathered
  same_route k [] ls w = refl
  same_route k (s ∷ r) ls w =
      let ne : k ≡ suc k → ⊥ = λ e. omega arith in
      rw (row_slot ns k s w.0, ne_eqb k (suc k) ne, row_segment ns k s w.0, same_route k r ls w.1)

  all_routes : (k : ℕ) (rs : List Route) → Writables ns k rs → gathered ns k (routes_rows ns k rs) ≡ [] ∷ rs
  unfolding gathered
  all_routes k [] w = refl
  all_routes k ([] ∷ rs) w = let z : 0 < 0 = w.0 in let y : ⊥ = omega arith in absurd y
  all_routes k ((s ∷ r) ∷ rs) w =
      rw (row_slot ns k s w.1.0, eq-eqb k k refl, row_segment ns k s w.1.0, same_route k r (routes_rows ns (suc k) rs) w.1.1, all_routes (suc k) rs w.2, onto-all r [] rs, append-nil r)

  -- WRITTEN AND READ: the text of routes is of the form, knows its names, and holds these routes
  module _ (rs : List Route) (w : Writables ns 0 rs) where
    pub written_ok : text_ok (routes_text ns 0 rs) ≡ true
    unfolding text_ok
    written_ok =
        let (e, f) = routes-lines 0 rs w in
        rw (f, e, all_rows is_row (λ k s v. row_is ns k s v) 0 rs w, slots_all 0 rs w)

    pub written_known : all_known ns (routes_text ns 0 rs) ≡ true
    unfolding all_known
    written_known = rw (routes-lines 0 rs w).0 (all_rows (known ns) (λ k s v. rw (row_name ns k s v, v.lane) (lt-ltb s.source (length ns) v.inside)) 0 rs w)

    pub written_routes : routes_in ns (lines_of (routes_text ns 0 rs)) ≡ rs
    unfolding routes_in
    written_routes = rw ((routes-lines 0 rs w).0, all_routes 0 rs w)

    pub written_held : (f : ℕ) → held ns f (routes_text ns 0 rs) ≡ encode (record { family = f; routes = rs })
    unfolding held
    written_held f = ap (λ (l : List Route). encode (record { family = f; routes = l })) written_routes

-- ---- a text that is read

-- lines, each with its line feed
unfoldable glued : List (List ℕ) → List ℕ
glued [] = []
glued (l ∷ ls) = l ++ (10 ∷ glued ls)

joined_lines : (c : List (List ℕ)) → 0 < length c → none (get_or c (length c - 1) []) ≡ true → glued (take (length c - 1) c) ≡ join_with 10 c
unfolding glued join_with
joined_lines [] h e = let z : ⊥ = omega arith in absurd z
joined_lines (l ∷ []) h e = empty l e
  where
    empty : (l : List ℕ) → none l ≡ true → [] ≡ l
    empty [] e = refl
    empty (x ∷ l) e = absurd (true≢false (sym e))
joined_lines (l ∷ m ∷ c) h e =
    let p : suc (suc (length c)) - 1 ≡ suc (length c) = omega arith in
    let q : suc (length c) - 1 ≡ length c = omega arith in
    let ih : glued (take (length c) (m ∷ c)) ≡ join_with 10 (m ∷ c) = subst (λ (n : ℕ). glued (take n (m ∷ c)) ≡ join_with 10 (m ∷ c)) q (joined_lines (m ∷ c) (omega arith) (rw q (rw p at e))) in
    rw p (ap (λ (t : List ℕ). l ++ (10 ∷ t)) ih)

text_glued : (s : List ℕ) → ended s ≡ true → glued (lines_of s) ≡ s
unfolding lines_of ended
text_glued s e = joined_lines (cut 10 s) (cut_some 10 s) e ∙ join_cut 10 s

module _ (ns : List (List ℕ)) where
  abbrev text_from : ℕ → List Route → List ℕ
  text_from k [] = []
  text_from k (r ∷ rs) = route_text ns (k - 1) r ++ routes_text ns k rs

  some : (k : ℕ) (ls : List (List ℕ)) → 0 < length (gathered ns k ls)
  unfolding gathered
  some k [] = omega arith
  some k (l ∷ ls) = go (eqb (slot_of l) k) (gathered ns k ls)
    where
      go : (b : Bool) (g : List Route) → 0 < length (pick b ([] ∷ onto (segment_of ns l) (gathered ns (suc k) ls)) (onto (segment_of ns l) g))
      go true g = omega arith
      go false [] = omega arith
      go false (r ∷ rs) = omega arith

  new_route : (k : ℕ) (s : Segment) (g : List Route) (l t : List ℕ) → 0 < length g → row_text ns k s ≡ l → text_from (suc k) g ≡ t → routes_text ns k (onto s g) ≡ l ++ (10 ∷ t)
  unfolding route_text routes_text
  new_route k s [] l t h e f = let z : ⊥ = omega arith in absurd z
  new_route k s (r ∷ rs) l t h e f =
      let q : suc k - 1 ≡ k = omega arith in
      let f' : route_text ns k r ++ routes_text ns (suc k) rs ≡ t = subst (λ (i : ℕ). route_text ns i r ++ routes_text ns (suc k) rs ≡ t) q f in
      append_assoc (row_text ns k s) (10 ∷ route_text ns k r) (routes_text ns (suc k) rs) ∙ ap₂ (λ (u v : List ℕ). u ++ (10 ∷ v)) e f'

  old_route : (k : ℕ) (s : Segment) (g : List Route) (l t : List ℕ) → 0 < length g → row_text ns (k - 1) s ≡ l → text_from k g ≡ t → text_from k (onto s g) ≡ l ++ (10 ∷ t)
  unfolding route_text routes_text
  old_route k s [] l t h e f = let z : ⊥ = omega arith in absurd z
  old_route k s (r ∷ rs) l t h e f = append_assoc (row_text ns (k - 1) s) (10 ∷ route_text ns (k - 1) r) (routes_text ns k rs) ∙ ap₂ (λ (u v : List ℕ). u ++ (10 ∷ v)) e f

  lines_back : (k : ℕ) (ls : List (List ℕ)) → all is_row ls ≡ true → all (known ns) ls ≡ true → slots_from k (map slot_of ls) ≡ true → text_from k (gathered ns k ls) ≡ glued ls
  unfolding gathered glued all slots_from route_text routes_text
  lines_back k [] a b c = refl
  lines_back k (l ∷ ls) a b c =
      let (a1, a2) = both (is_row l) (all is_row ls) a in
      let (b1, b2) = both (known ns l) (all (known ns) ls) b in
      let (c1, c2) = both (eqb (slot_of l) k || eqb (suc (slot_of l)) k) (slots_from (suc (slot_of l)) (map slot_of ls)) c in
      go (eqb (slot_of l) k) refl c1 (row_back ns l a1 (ltb-true (lane_of ns (column 0 l)) (length ns) b1)) (lines_back (suc (slot_of l)) ls a2 b2 c2)
    where
      go : (t : Bool) → eqb (slot_of l) k ≡ t → (t || eqb (suc (slot_of l)) k) ≡ true → row_text ns (slot_of l) (segment_of ns l) ≡ l
          → text_from (suc (slot_of l)) (gathered ns (suc (slot_of l)) ls) ≡ glued ls
          → text_from k (pick t ([] ∷ onto (segment_of ns l) (gathered ns (suc k) ls)) (onto (segment_of ns l) (gathered ns k ls))) ≡ l ++ (10 ∷ glued ls)
      go true e d r ih =
          let q : slot_of l ≡ k = eqb-true (slot_of l) k e in
          new_route k (segment_of ns l) (gathered ns (suc k) ls) l (glued ls) (some (suc k) ls) (subst (λ (i : ℕ). row_text ns i (segment_of ns l) ≡ l) q r)
          (subst (λ (i : ℕ). text_from (suc i) (gathered ns (suc i) ls) ≡ glued ls) q ih)
      go false e d r ih =
          let q : suc (slot_of l) ≡ k = eqb-true (suc (slot_of l)) k d in
          let p : slot_of l ≡ k - 1 = omega arith in
          old_route k (segment_of ns l) (gathered ns k ls) l (glued ls) (some k ls) (subst (λ (i : ℕ). row_text ns i (segment_of ns l) ≡ l) p r)
          (subst (λ (i : ℕ). text_from i (gathered ns i ls) ≡ glued ls) q ih)

  first_none : (ls : List (List ℕ)) → slots_from 0 (map slot_of ls) ≡ true → text_from 0 (gathered ns 0 ls) ≡ routes_text ns 0 (drop 1 (gathered ns 0 ls))
  unfolding gathered slots_from route_text routes_text
  first_none [] e = refl
  first_none (l ∷ ls) e = go (eqb (slot_of l) 0) refl (both (eqb (slot_of l) 0 || eqb (suc (slot_of l)) 0) (slots_from (suc (slot_of l)) (map slot_of ls)) e).0
    where
      go : (t : Bool) → eqb (slot_of l) 0 ≡ t → (t || eqb (suc (slot_of l)) 0) ≡ true
          → text_from 0 (pick t ([] ∷ onto (segment_of ns l) (gathered ns 1 ls)) (onto (segment_of ns l) (gathered ns 0 ls))) ≡ routes_text ns 0 (drop 1 (pick t ([] ∷ onto (segment_of ns l) (gathered ns 1 ls)) (onto (segment_of ns l) (gathered ns 0 ls))))
      go true p d = refl
      go false p d = let q : suc (slot_of l) ≡ 0 = eqb-true (suc (slot_of l)) 0 d in let z : ⊥ = omega arith in absurd z

  -- READ AND WRITTEN: what a text of the form with known names holds, written again, is that text
  pub read_back : (t : List ℕ) → text_ok t ≡ true → all_known ns t ≡ true → routes_text ns 0 (routes_in ns (lines_of t)) ≡ t
  unfolding text_ok all_known routes_in
  read_back t ok k =
      let (x, c) = both (ended t && all is_row (lines_of t)) (slots_from 0 (map slot_of (lines_of t))) ok in
      let (a, b) = both (ended t) (all is_row (lines_of t)) x in
      sym (first_none (lines_of t) c) ∙ lines_back 0 (lines_of t) b k c ∙ text_glued t a
