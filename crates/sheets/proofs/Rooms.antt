-- The kept room begins with the words of the incumbent, whose lines the sheet ends with.
use Prim.Native.Nat.{ℕ, suc, ◌+◌, ◌-◌, ◌*◌, ◌≤◌}
use native.Mathlib.Omega.{arith}
use mathlib.Core.Path.{◌≡◌, refl, sym, ◌∙◌, ap, ap₂, subst}
use mathlib.Core.Bool.{Bool, true, false, not, ◌&&◌}
use mathlib.Core.List.{List, [], ◌∷◌, ◌++◌, map, append_assoc}
use lib.Dec.{ltb, eqb}
use lib.ListN.{length, drop, replicate, length-append}
use lib.Seq.{drop_at}
use lib.Ieee.{Float}
use Rattle.ground.specs.Lists.{pick, each}
use Rattle.image.specs.Panel.{Panel}
use Rattle.evaluate.specs.declared.Segment.{Segment}
use Rattle.evaluate.specs.Properties.{Each}
use Rattle.evaluate.specs.Segments.{Route, Assignment, flat}
use Rattle.evaluate.specs.Words.{bit, segment_words, route_words, encode}
use Rattle.evaluate.specs.Check.{over}
use Rattle.evaluate.proofs.Lists.{append_each}
use Rattle.words.specs.Inner.{segment_of, segments_of, routes_of, assignment_of}
use Rattle.words.proofs.Writing.{segment_words_length}
use Rattle.search.specs.declared.SearchBudget.{SearchBudget}
use Rattle.search.specs.Run.{walk}
use Rattle.search.specs.Keep.{Kept, nothing, Evaluated, score_of, same_evaluated, lowers, near, has, replaced, adding, lowered, added, keep_one, keep_all, evaluated}
use Rattle.search.specs.Search.{search_from, searched_as, search, walked, kept_of}
use Rattle.search.specs.Rooms.{pad_to, slot_width, slot_words, kept_left}
use Rattle.lines.specs.Inner.{Low, Begin, Held}
use Rattle.sheets.specs.Inner.{incumbent_of}
use Rattle.sheets.proofs.Spans.{LowAssignment}

-- ---- what holds of all that is handed over holds of the incumbent

module _ (P : Assignment → Type 0) where
  abbrev Of : Evaluated → Type 0
  Of e = P e.assignment

  evaluated_each : (l : List Assignment) (xs : List Float) → Each P l → Each Of (evaluated l xs)
  unfolding evaluated
  evaluated_each [] xs h = tt
  evaluated_each (a ∷ l) [] h = tt
  evaluated_each (a ∷ l) (x ∷ xs) h = (h.0, evaluated_each l xs h.1)

  module _ (optima : ℕ) (width : Float) where
    one_each : (t : Kept Evaluated) (a : Evaluated) → Each Of t.best → Of a → Each Of (keep_one score_of same_evaluated optima width t a).best
    unfolding keep_one lowered added
    one_each t a h k = last (lowered score_of same_evaluated optima width a t) (first (lowers score_of a t.best))
      where
        first : (c : Bool) → Each Of (pick c (replaced score_of width a t) t).best
        first true = (k, tt)
        first false = h

        last : (u : Kept Evaluated) → Each Of u.best → Each Of (pick (near score_of width a u.best && not (has same_evaluated a u.tied)) (adding (ltb (length u.tied) optima) a u) u).best
        last u g = go (near score_of width a u.best && not (has same_evaluated a u.tied)) (ltb (length u.tied) optima)
          where
            go : (c d : Bool) → Each Of (pick c (adding d a u) u).best
            go true true = g
            go true false = g
            go false d = g

    all_each : (t : Kept Evaluated) (l : List Evaluated) → Each Of t.best → Each Of l → Each Of (keep_all score_of same_evaluated optima width t l).best
    unfolding keep_all
    all_each t [] h k = h
    all_each t (a ∷ l) h k = all_each (keep_one score_of same_evaluated optima width t a) l (one_each t a h k.0) k.1

  pub incumbent_each : (p : Panel) (b : SearchBudget) (xs : List Float) → Each P (walk p b).walk.out → Each Of (search p b xs).state.kept.best
  unfolding search search_from searched_as walked kept_of walk
  incumbent_each p b xs h = all_each b.max_optima b.tie_width nothing (evaluated (walk p b).walk.out xs) tt (evaluated_each (walk p b).walk.out xs h)

-- ---- words that begin with an assignment

pub record Starts (a : Assignment) (ws : List ℕ) : Type 0 where
  pub rest : List ℕ
  pub is : ws ≡ encode a ++ rest

back : (s : Segment) (ws : List ℕ) → segment_of (s.source ∷ s.start ∷ s.end ∷ bit s.reverse ∷ ws) ≡ s
unfolding segment_of
back s ws = ap (λ (r : Bool). record { source = s.source; start = s.start; end = s.end; reverse = r }) (go s.reverse)
  where
    go : (r : Bool) → eqb (bit r) 1 ≡ r
    go true = refl
    go false = refl

segments_back : (r : Route) (ws : List ℕ) → segments_of (length r) (segment_words r ++ ws) ≡ r
unfolding segments_of each
segments_back [] ws = refl
segments_back (s ∷ r) ws = ap₂ (λ (t : Segment) (l : Route). t ∷ l) (back s (segment_words r ++ ws)) (segments_back r ws)

past : (r : Route) (rs : List Route) (ws : List ℕ) → drop (1 + 4 * length r) (length r ∷ ((segment_words r ++ route_words rs) ++ ws)) ≡ route_words rs ++ ws
past r rs ws =
    let q : 1 + 4 * length r ≡ suc (4 * length r) = omega arith in
    rw (q, append_assoc (segment_words r) (route_words rs) ws) (drop_at (segment_words r) (route_words rs ++ ws) (4 * length r) (segment_words_length r))

routes_back : (rs : List Route) (ws : List ℕ) → routes_of (length rs) (route_words rs ++ ws) ≡ rs
unfolding routes_of
routes_back [] ws = refl
routes_back (r ∷ rs) ws =
    ap₂ (λ (x : Route) (l : List Route). x ∷ l) (ap (segments_of (length r)) (append_assoc (segment_words r) (route_words rs) ws) ∙ segments_back r (route_words rs ++ ws))
    (ap (routes_of (length rs)) (past r rs ws) ∙ routes_back rs ws)

begin_words : (rs : List Route) (ws : List ℕ) → Begin (length rs) (route_words rs ++ ws)
unfolding Begin
begin_words [] ws = tt
begin_words (r ∷ rs) ws =
    let n = segment_words_length r in
    let m : length ((segment_words r ++ route_words rs) ++ ws) ≡ length (segment_words r) + length (route_words rs) + length ws
    = length-append (segment_words r ++ route_words rs) ws ∙ rw (length-append (segment_words r) (route_words rs)) in
    (omega arith, subst (Begin (length rs)) (sym (past r rs ws)) (begin_words rs ws))

each_route : (rs : List Route) → Each Low (flat rs) → Each (Each Low) rs
each_route [] h = tt
each_route (r ∷ rs) h = let k = append_each Low r (flat rs) h in (k.0, each_route rs k.1)

module _ (a : Assignment) (ws : List ℕ) (st : Starts a ws) where
  pub starts_is : assignment_of ws ≡ a
  unfolding encode
  starts_is = rw st.is (ap (λ (l : List Route). record { family = a.family; routes = l }) (routes_back a.routes st.rest))

  pub starts_held : LowAssignment a → length ws ≤ 65536 → Held ws
  unfolding encode
  starts_held low few =
      let n : length ws ≡ suc (suc (length (route_words a.routes ++ st.rest))) = ap length st.is in
      record {
        long = omega arith;
        routes = record {
          readable = record { inside = omega arith; all = rw st.is (begin_words a.routes st.rest) };
          low = rw st.is (subst (Each (Each Low)) (sym (routes_back a.routes st.rest)) (each_route a.routes low));
          short = few;
        };
      }

-- ---- the kept room

starts_more : {a : Assignment} {ws : List ℕ} (more : List ℕ) → Starts a ws → Starts a (ws ++ more)
starts_more {a} more h = record { rest = h.rest ++ more; is = ap (λ (x : List ℕ). x ++ more) h.is ∙ append_assoc (encode a) h.rest more }

module _ (p : Panel) (b : SearchBudget) where
  two_words : slot_width p b - 0 ≡ suc (suc (slot_width p b - 2))
  unfolding slot_width
  two_words = omega arith

  first_starts : (best : List Evaluated) → Starts (incumbent_of best) (pad_to (slot_width p b) (flat (map (slot_words (slot_width p b)) best)))
  unfolding encode
  first_starts [] = record { rest = replicate (slot_width p b - 2) 0; is = ap (λ (n : ℕ). replicate {A = ℕ} n 0) two_words }
  first_starts (e ∷ l) =
      starts_more (replicate (slot_width p b - length (flat (map (slot_words (slot_width p b)) (e ∷ l)))) 0)
      (starts_more (flat (map (slot_words (slot_width p b)) l)) (record { rest = replicate (slot_width p b - length (encode e.assignment)) 0; is = refl }))

  pub kept_starts : (k : Kept Evaluated) (room : List ℕ) → Starts (incumbent_of k.best) (over (kept_left p b k) room)
  unfolding kept_left
  kept_starts k room = starts_more _ (starts_more _ (starts_more _ (first_starts k.best)))
