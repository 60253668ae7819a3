-- Laws of the routes of a text, line by line and route by route.
use Prim.Native.Nat.{ℕ, suc, ◌+◌, ◌-◌, ◌≤◌, ◌<◌}
use native.Mathlib.Omega.{arith}
use native.Mathlib.Numerals.{add-one}
use native.Mathlib.Decide.{dec_lt}
use mathlib.Core.Path.{◌≡◌, refl, sym, ap, ◌∙◌, subst}
use mathlib.Core.Bool.{Bool, true, false, ◌||◌}
use mathlib.Core.List.{List, [], ◌∷◌, map}
use lib.Dec.{eqb}
use lib.ListN.{length, drop, get_or, drop_of_length-le, length-drop}
use lib.Seq.{drop-cons}
use borrow.Author.Tests.{eq-eqb, ne_eqb, eqb-true, eqb-false}
use Rattle.ground.proofs.ListLaws.{both}
use Rattle.image.specs.declared.Header.{Header}
use Rattle.image.specs.declared.Family.{Family}
use Rattle.image.specs.Image.{paths_of}
use Rattle.image.specs.Inner.{Groups}
use Rattle.image.specs.Panel.{Panel, panel_of, paths_at}
use Rattle.image.proofs.Laws.{family_length}
use Rattle.evaluate.specs.declared.Segment.{Segment}
use Rattle.evaluate.specs.Refusals.{no_refusal, at}
use Rattle.evaluate.specs.Segments.{Route}
use Rattle.evaluate.specs.Check.{route_refusal, routes_refusal}
use Rattle.routes.proofs.Laws.{paths_are}
use Rattle.names.specs.Names.{lines_of}
use Rattle.names.proofs.Cutting.{lines_nothing}
use Rattle.rows.specs.Rows.{slot_of, segment_of}
use Rattle.texts.specs.declared.Line.{Line}
use Rattle.texts.specs.Bed.{slots_from, text_ok, onto, gathered, routes_in}
use Rattle.texts.specs.Inner.{Lined, LineAt}
use Rattle.texts.proofs.LineLaws.{text_lined, text_slots}
use Rattle.texts.proofs.Scanning.{gathered_some}
use Rattle.routes.proofs.Laws.{at_found, some_number}
use Rattle.bed_routes.specs.declared.Seen.{Seen}
use Rattle.routes.specs.declared.RouteRefusal.{RouteRefusal}
use Rattle.routes.specs.Refusals.{number_of}
use Rattle.bed_routes.specs.Inner.{verdict, Begun, Onward, opening, Ahead, routes_from, Passed}

-- ---- what a line adds

onto_first : (s : Segment) (g : List Route) → 0 < length g → get_or (onto s g) 0 [] ≡ s ∷ get_or g 0 []
onto_first s [] h = let z : ⊥ = omega arith in absurd z
onto_first s (r ∷ rs) h = refl

onto_rest : (s : Segment) (g : List Route) → 0 < length g → drop 1 (onto s g) ≡ drop 1 g
onto_rest s [] h = let z : ⊥ = omega arith in absurd z
onto_rest s (r ∷ rs) h = refl

module _ (ns : List (List ℕ)) (k : ℕ) (l : List ℕ) (ls : List (List ℕ)) where
  -- a line that begins a route
  new_line : slot_of l ≡ k → gathered ns k (l ∷ ls) ≡ [] ∷ onto (segment_of ns l) (gathered ns (suc k) ls)
  unfolding gathered
  new_line e = rw (eq-eqb (slot_of l) k e)

  -- a line of the route at hand
  old_line : (slot_of l ≡ k → ⊥) → gathered ns k (l ∷ ls) ≡ onto (segment_of ns l) (gathered ns k ls)
  unfolding gathered
  old_line e = rw (ne_eqb (slot_of l) k e)

-- the slots behind a line
pub record Slots (k : ℕ) (l : List ℕ) (ls : List (List ℕ)) : Type 0 where
  pub follow : (slot_of l ≡ k → ⊥) → suc (slot_of l) ≡ k
  pub later : slots_from (suc (slot_of l)) (map slot_of ls) ≡ true

slots_next : (k : ℕ) (l : List ℕ) (ls : List (List ℕ)) → slots_from k (map slot_of (l ∷ ls)) ≡ true → Slots k l ls
unfolding slots_from
slots_next k l ls h = let (f, fs) = both (eqb (slot_of l) k || eqb (suc (slot_of l)) k) (slots_from (suc (slot_of l)) (map slot_of ls)) h in record { follow = go (eqb (slot_of l) k) refl f; later = fs }
  where
    go : (b : Bool) → eqb (slot_of l) k ≡ b → (b || eqb (suc (slot_of l)) k) ≡ true → (slot_of l ≡ k → ⊥) → suc (slot_of l) ≡ k
    go true e d n = absurd (n (eqb-true (slot_of l) k e))
    go false e d n = eqb-true (suc (slot_of l)) k d

lines_out : (text : List ℕ) (at : ℕ) → length text ≤ at → lines_of (drop at text) ≡ []
lines_out text at h = ap lines_of (drop_of_length-le text {i = at} h) ∙ lines_nothing

-- ---- one route, line by line

-- what has been seen of route number k, whose first line stands at a place, and what is ahead of it
pub record Walking (p : Panel) (target : ℕ) (ns : List (List ℕ)) (text : List ℕ) (k at : ℕ) (w : Seen) (place : ℕ) : Type 0 where
  pub lined : Lined text place
  pub slots : slots_from (suc k) (map slot_of (lines_of (drop place text))) ≡ true
  pub todo : route_refusal p target (get_or (routes_from ns text k at) 0 []) ≡ verdict p target w (get_or (gathered ns (suc k) (lines_of (drop place text))) 0 [])
  pub rest : drop 1 (routes_from ns text k at) ≡ drop 1 (gathered ns (suc k) (lines_of (drop place text)))

-- all of it has been seen, and the next route begins at a place
pub record Walked (p : Panel) (target : ℕ) (ns : List (List ℕ)) (text : List ℕ) (k at : ℕ) (w : Seen) (place : ℕ) : Type 0 where
  pub whole : route_refusal p target (get_or (routes_from ns text k at) 0 []) ≡ verdict p target w []
  pub rest : drop 1 (routes_from ns text k at) ≡ routes_from ns text (suc k) place
  pub ahead : Ahead text (suc k) place

module _ {ns : List (List ℕ)} {text : List ℕ} {k at : ℕ} (a : Ahead text k at) (l : Line) (d : LineAt ns text at l) where
  opens_here : slot_of d.line ≡ k
  opens_here = eqb-true (slot_of d.line) k (subst (λ (m : List (List ℕ)). opening k m ≡ true) d.lines a.opens)

  abbrev later : List (List ℕ)
  later = lines_of (drop l.next text)

  slots_here : slots_from (suc k) (map slot_of later) ≡ true
  slots_here = subst (λ (x : ℕ). slots_from (suc x) (map slot_of later) ≡ true) opens_here (slots_next k d.line later (subst (λ (m : List (List ℕ)). slots_from k (map slot_of m) ≡ true) d.lines a.slots)).later

  routes_here : routes_from ns text k at ≡ onto l.segment (gathered ns (suc k) later)
  unfolding routes_from
  routes_here = rw (d.lines, new_line ns k d.line later opens_here, d.segment)

  pub walking_start : (p : Panel) (target : ℕ) (w : Seen) → Begun p l.segment w → Walking p target ns text k at w l.next
  walking_start p target w b =
      let g = gathered ns (suc k) later in
      let pos = gathered_some ns (suc k) later in
      record {
        lined = d.rest;
        slots = slots_here;
        todo = rw (routes_here, onto_first l.segment g pos) (b.same target (get_or g 0 []));
        rest = rw routes_here (onto_rest l.segment g pos);
      }

module _ {p : Panel} {target : ℕ} {ns : List (List ℕ)} {text : List ℕ} {k at : ℕ} {w : Seen} {place : ℕ} (c : Walking p target ns text k at w place) where
  module _ (l : Line) (d : LineAt ns text place l) where
    abbrev behind : List (List ℕ)
    behind = lines_of (drop l.next text)

    slots_then : Slots (suc k) d.line behind
    slots_then = slots_next (suc k) d.line behind (subst (λ (m : List (List ℕ)). slots_from (suc k) (map slot_of m) ≡ true) d.lines c.slots)

    pub walking_again : (v : Seen) → l.slot ≡ k → Onward p target w l.segment v → Walking p target ns text k at v l.next
    walking_again v e o =
        let g = gathered ns (suc k) behind in
        let pos = gathered_some ns (suc k) behind in
        let same : slot_of d.line ≡ k = sym d.slot ∙ e in
        let old : gathered ns (suc k) (lines_of (drop place text)) ≡ onto l.segment g = rw (d.lines, d.segment) (old_line ns (suc k) d.line behind (λ z. omega arith)) in
        record {
          lined = d.rest;
          slots = subst (λ (x : ℕ). slots_from (suc x) (map slot_of behind) ≡ true) same slots_then.later;
          todo = c.todo ∙ rw (old, onto_first l.segment g pos) (o.same (get_or g 0 []));
          rest = c.rest ∙ rw old (onto_rest l.segment g pos);
        }

    pub walking_other : (l.slot ≡ k → ⊥) → Walked p target ns text k at w place
    unfolding routes_from
    walking_other ne =
        let other : slot_of d.line ≡ k → ⊥ = λ z. ne (d.slot ∙ z) in
        let far : slot_of d.line ≡ suc k = go (eqb (slot_of d.line) (suc k)) refl other in
        let new : gathered ns (suc k) (lines_of (drop place text)) ≡ [] ∷ onto (segment_of ns d.line) (gathered ns (suc (suc k)) behind) = rw d.lines (new_line ns (suc k) d.line behind far) in
        record {
          whole = c.todo ∙ rw new;
          rest = c.rest;
          ahead = record { lined = c.lined; slots = c.slots; opens = rw d.lines (eq-eqb (slot_of d.line) (suc k) far) };
        }
      where
        go : (b : Bool) → eqb (slot_of d.line) (suc k) ≡ b → (slot_of d.line ≡ k → ⊥) → slot_of d.line ≡ suc k
        go true q n = eqb-true (slot_of d.line) (suc k) q
        go false q n = let z : suc (slot_of d.line) ≡ suc k = slots_then.follow (eqb-false (slot_of d.line) (suc k) q) in absurd (n (omega arith))

  pub walking_ends : length text ≤ place → Walked p target ns text k at w place
  unfolding routes_from gathered
  walking_ends le =
      let out : lines_of (drop place text) ≡ [] = lines_out text place le in
      record {
        whole = c.todo ∙ rw out;
        rest = c.rest;
        ahead = record { lined = c.lined; slots = c.slots; opens = rw out };
      }

module _ {p : Panel} {target : ℕ} {ns : List (List ℕ)} {text : List ℕ} {k at : ℕ} {w : Seen} {place : ℕ} (c : Walked p target ns text k at w place) where
  pub walked_on : 0 ≡ verdict p target w [] → Passed p target ns text k at place
  walked_on e = record { none = e ∙ sym c.whole; rest = c.rest; ahead = c.ahead }

  pub walked_refused : {n : ℕ} → n ≡ verdict p target w [] → n ≡ route_refusal p target (get_or (routes_from ns text k at) 0 [])
  walked_refused e = e ∙ sym c.whole

-- ---- route by route

pub record RoutesFrom (s : List ℕ) (h : Header) (f : Family) (ns : List (List ℕ)) (text : List ℕ) (place i : ℕ) : Type 0 where
  pub ahead : Ahead text i place
  pub left : i + length (routes_from ns text i place) ≡ f.count
  pub todo : routes_refusal (panel_of s) 0 (paths_of h s f.number) (routes_in ns (lines_of text)) ≡ routes_refusal (panel_of s) i (drop i (paths_of h s f.number)) (routes_from ns text i place)

opens_first : (ls : List (List ℕ)) → slots_from 0 (map slot_of ls) ≡ true → opening 0 ls ≡ true
opens_first [] h = refl
opens_first (l ∷ ls) h = go (eqb (slot_of l) 0) refl
  where
    go : (b : Bool) → eqb (slot_of l) 0 ≡ b → b ≡ true
    go true e = refl
    go false e = let z : suc (slot_of l) ≡ 0 = (slots_next 0 l ls h).follow (eqb-false (slot_of l) 0 e) in let y : ⊥ = omega arith in absurd y

pub routes_start : {s : List ℕ} {h : Header} {f : Family} {ns : List (List ℕ)} {text : List ℕ} → text_ok text ≡ true → length (routes_in ns (lines_of text)) ≡ f.count → RoutesFrom s h f ns text 0 0
unfolding routes_from routes_in
routes_start {s} {h} {f} {ns} {text} ok e =
    record {
      ahead = record { lined = text_lined text ok; slots = text_slots text ok; opens = opens_first (lines_of text) (text_slots text ok) };
      left = omega (arith, e);
      todo = refl;
    }

module _ {s : List ℕ} {h : Header} {f : Family} {ns : List (List ℕ)} {text : List ℕ} {place i : ℕ} (p : RoutesFrom s h f ns text place i) where
  pub routes_inside : i < f.count → place < length text
  unfolding routes_from gathered
  routes_inside lt = go (dec_lt place (length text))
    where
      go : Dec (place < length text) → place < length text
      go (yes q) = q
      go (no q) =
          let out : lines_of (drop place text) ≡ [] = lines_out text place (omega arith) in
          let none : length (routes_from ns text i place) ≡ 0 = rw out in
          let l = p.left in
          let z : ⊥ = omega arith in
          absurd z

  module _ (g : Groups s h f) (lt : i < f.count) (target : ℕ) (et : target ≡ get_or (paths_of h s f.number) i 0) where
    here_at : routes_refusal (panel_of s) 0 (paths_of h s f.number) (routes_in ns (lines_of text))
        ≡ at (route_refusal (panel_of s) target (get_or (routes_from ns text i place) 0 [])) i (routes_refusal (panel_of s) (i + 1) (drop (i + 1) (paths_of h s f.number)) (drop 1 (routes_from ns text i place)))
    unfolding routes_refusal
    here_at =
        let l = family_length s h f g in
        let inside : i < length (paths_of h s f.number) = omega arith in
        let k = p.left in
        let some : 0 < length (routes_from ns text i place) = omega arith in
        p.todo ∙ rw (drop-cons (paths_of h s f.number) i 0 inside, drop-cons (routes_from ns text i place) 0 [] some, ← et, add-one)

    pub routes_again : {next : ℕ} → Passed (panel_of s) target ns text i place next → RoutesFrom s h f ns text next (i + 1)
    routes_again {next} j =
        let k = p.left in
        let d : length (drop 1 (routes_from ns text i place)) ≡ length (routes_from ns text i place) - 1 = length-drop 1 (routes_from ns text i place) in
        let e : length (routes_from ns text (suc i) next) ≡ length (routes_from ns text i place) - 1 = ap length (sym j.rest) ∙ d in
        let m : i + 1 ≡ suc i = omega arith in
        record {
          ahead = rw m j.ahead;
          left = rw m (omega (arith, k, e));
          todo = here_at ∙ rw (← j.none, j.rest, m);
        }

    pub routes_found : (e : RouteRefusal) → number_of e ≡ route_refusal (panel_of s) target (get_or (routes_from ns text i place) 0 []) → record { number = number_of e; place = i } ≡ routes_refusal (panel_of s) 0 (paths_at (panel_of s) f.number) (routes_in ns (lines_of text))
    routes_found e z = rw (paths_are s h f.number g.grouped.framed, here_at, ← z) (at_found (number_of e) i _ (some_number e))

  pub routes_ends : Groups s h f → f.count ≤ i → record { number = 0; place = 0 } ≡ routes_refusal (panel_of s) 0 (paths_at (panel_of s) f.number) (routes_in ns (lines_of text))
  unfolding routes_refusal
  routes_ends g le =
      let k = p.left in
      rw (paths_are s h f.number g.grouped.framed, p.todo) (none i (drop i (paths_of h s f.number)) (routes_from ns text i place) (omega arith))
    where
      none : (i : ℕ) (l : List ℕ) (rs : List Route) → length rs ≤ 0 → no_refusal ≡ routes_refusal (panel_of s) i l rs
      none i [] rs h = refl
      none i (t ∷ l) [] h = refl
      none i (t ∷ l) (r ∷ rs) h = let z : ⊥ = omega arith in absurd z
