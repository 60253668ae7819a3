-- What the check accepts: no empty route, few routes.
use Prim.Native.Nat.{ℕ, zero, suc, ◌+◌, ◌*◌, ◌≤◌, ◌<◌}
use native.Mathlib.Omega.{arith}
use mathlib.Core.List.{List, [], ◌∷◌, map}
use lib.ListN.{length, drop, get_or, length-drop}
use Rattle.image.specs.declared.Header.{Header}
use Rattle.image.specs.Panel.{Panel, panel_of, paths_at}
use Rattle.panel.specs.Inner.{Accepted}
use Rattle.evaluate.specs.Properties.{Each, Matched, First}
use Rattle.evaluate.specs.Segments.{Route, normalize}
use Rattle.evaluate.specs.Legal.{LegalRoute, Enters}
use Rattle.evaluate.proofs.Ports.{rows_of}
use Rattle.evaluate.proofs.CheckLegal.{accepted_legal}
use Rattle.words.specs.Inner.{routes_of, assignment_of, UsedUp, Formed}
use Rattle.words.proofs.Writing.{routes_length}
use Rattle.assignment.proofs.Given.{Given}

-- a route that enters its target has a segment
some_segment : (p : Panel) (targets : List ℕ) (rs : List Route) → Matched (LegalRoute p) targets (map normalize rs) → Each (λ r. 0 < length r) rs
some_segment p [] [] m = tt
some_segment p [] (r ∷ rs) m = absurd m
some_segment p (t ∷ ts) [] m = tt
some_segment p (t ∷ ts) (r ∷ rs) m = (one r m.0.enters, some_segment p ts rs m.1)
  where
    one : (r : Route) → First (Enters t) (normalize r) → 0 < length r
    one [] f = absurd f
    one (s ∷ r) f = omega arith

pub routes_some : (s : List ℕ) (h : Header) (ws : List ℕ) → Accepted s h → Given (panel_of s) ws → Each (λ r. 0 < length r) (routes_of (get_or ws 1 0) (drop 2 ws))
routes_some s h ws acc t =
    let (g, l) = accepted_legal (panel_of s) (rows_of s h acc) (assignment_of ws) t.none in
    some_segment (panel_of s) (paths_at (panel_of s) (get_or ws 0 0)) (routes_of (get_or ws 1 0) (drop 2 ws)) l.routes

used_few : (n : ℕ) (ws : List ℕ) → UsedUp n ws → n ≤ length ws
unfolding UsedUp
used_few zero ws u = omega arith
used_few (suc n) ws u =
    let a = u.0 in
    let b = used_few n (drop (1 + 4 * get_or ws 0 0) ws) u.1 in
    let l = length-drop (1 + 4 * get_or ws 0 0) ws in
    omega arith

pub few_routes : (ws : List ℕ) → Formed ws → length ws ≤ 65536 → length (routes_of (get_or ws 1 0) (drop 2 ws)) ≤ 65536
few_routes ws w few =
    let a = used_few (get_or ws 1 0) (drop 2 ws) w.parsed.all in
    let b = routes_length (get_or ws 1 0) (drop 2 ws) in
    let l = length-drop 2 ws in
    omega arith
