-- Laws of the assignment check: one for each way through the code.
use Prim.Native.Nat.{ℕ, zero, suc, ◌+◌, ◌≤◌, ◌<◌}
use native.Mathlib.Omega.{arith}
use mathlib.Core.Path.{◌≡◌, refl, sym, ap, ◌∙◌}
use mathlib.Core.Bool.{Bool, true, false}
use mathlib.Core.List.{List, map}
use lib.Dec.{eqb}
use lib.ListN.{length, drop, get_or}
use lib.Seq.{sets-eq}
use borrow.Author.Tests.{lt-ltb, le-ltb, le-leb, lt-leb, eq-eqb, ne_eqb}
use Rattle.image.specs.declared.Header.{Header}
use Rattle.image.specs.declared.Family.{Family}
use Rattle.image.specs.declared.PanelRefusal.{PanelRefusal}
use Rattle.image.specs.Header.{refusal_number}
use Rattle.std.specs.declared.result.Result.{Result}
use Rattle.std.specs.declared.result.Result.TheVariants.{Ok, Err}
use Rattle.image.specs.Image.{paths_of}
use Rattle.image.specs.Inner.{Groups}
use Rattle.image.specs.Panel.{Panel, panel_of, paths_at}
use Rattle.image.proofs.Laws.{panel_families, families_length, family_length}
use Rattle.panel.specs.Inner.{Accepted}
use Rattle.graph.specs.Check.{checked, panel_refusal}
use Rattle.evaluate.specs.declared.Refusal.{Refusal}
use Rattle.evaluate.specs.declared.AssignmentReply.{AssignmentReply}
use Rattle.evaluate.specs.Refusals.{no_refusal, unless, at}
use Rattle.evaluate.specs.Segments.{Assignment, normalize, normal_form, apart, flat}
use Rattle.evaluate.specs.Words.{encode}
use Rattle.evaluate.specs.Check.{routes_refusal, overlap_refusal, assignment_refusal, words_refusal, check_refusal, normal_words, check_answer, check_out, given_refusal}
use Rattle.graph.proofs.Laws.{refusal_some}
use Rattle.words.specs.Inner.{routes_of, assignment_of, Parsed, Formed, NormalPut}
use Rattle.words.proofs.Writing.{routes_length}
use Rattle.overlap.proofs.Given.{apart_given, routes_filled}
use Rattle.assignment.specs.Inner.{family_refusal, Replied}
use Rattle.assignment.specs.Refusals.{number_of, place_of, reply_of}
use Rattle.assignment.specs.declared.AssignmentRefusal.{AssignmentRefusal}
use Rattle.assignment.specs.declared.AssignmentRefusal.TheVariants.{Room, Words, Family as NoFamily, Count, Route, Overlap}
use Rattle.assignment.proofs.Given.{given_formed}
use Rattle.routes.specs.declared.RefusedRoute.{RefusedRoute}
use Rattle.routes.specs.Refusals.{number_of as route_number}
use Rattle.routes.proofs.Laws.{some_number}
use Rattle.std.proofs.Common.{lit<, Ok, Err}

-- ---- 25 to 31

paths_length : (s : List ℕ) (h : Header) (f : Family) → Groups s h f → length (paths_at (panel_of s) f.number) ≡ f.count
unfolding paths_of
paths_length s h f g = rw (panel_families s h g.grouped.framed) (family_length s h f g)

pub routes_parsed : (ws : List ℕ) (f : Family) → Formed ws → f.count ≡ get_or ws 1 0 → Parsed ws f.count 2
routes_parsed ws f w e = rw e w.parsed

at_found : (r later : Refusal) → 0 < r.number → r ≡ at r.number r.place later
at_found r later h = go r.number refl
  where
    go : (n : ℕ) → r.number ≡ n → r ≡ at n r.place later
    go zero e = let z : ⊥ = omega arith in absurd z
    go (suc n) e = λ i. record { number = e i; place = r.place }

pub at_none : (n place : ℕ) (later : Refusal) → n ≡ 0 → at n place later ≡ later
at_none zero place later h = refl
at_none (suc n) place later h = let z : ⊥ = omega arith in absurd z

-- of any assignment, by its routes
module _ (s : List ℕ) (h : Header) (a : Assignment) (f : Family) (g : Groups s h f) (en : f.number ≡ a.family) (el : length a.routes ≡ f.count)
    (r : Refusal) (er : r ≡ routes_refusal (panel_of s) 0 (paths_at (panel_of s) f.number) a.routes) where
  same : r ≡ routes_refusal (panel_of s) 0 (paths_at (panel_of s) a.family) a.routes
  same = er ∙ rw en

  pub routes_refused : 0 < r.number → r ≡ family_refusal (panel_of s) a
  unfolding family_refusal
  routes_refused z = rw (← same) (at_found r (at (overlap_refusal a) 0 no_refusal) z)

  module _ (none : r.number ≤ 0) (b : Bool) (eb : b ≡ apart (flat a.routes)) where
    given : apart (flat (map normalize a.routes)) ≡ b
    given =
        let z : r.number ≡ 0 = omega arith in
        let q : (routes_refusal (panel_of s) 0 (paths_at (panel_of s) f.number) a.routes).number ≡ 0 = ap (λ (x : Refusal). x.number) (sym er) ∙ z in
        let l : length a.routes ≡ length (paths_at (panel_of s) f.number) = el ∙ sym (paths_length s h f g) in
        apart_given a.routes (routes_filled (panel_of s) 0 (paths_at (panel_of s) f.number) a.routes l q) ∙ sym eb

    later : family_refusal (panel_of s) a ≡ at (unless b 31 0) 0 no_refusal
    unfolding family_refusal overlap_refusal
    later = let z : r.number ≡ 0 = omega arith in rw (← same, given) (at_none r.number r.place (at (unless b 31 0) 0 no_refusal) z)

    pub routes_overlap : (x : Refusal) → b ≡ false → x ≡ record { number = 31; place = 0 } → x ≡ family_refusal (panel_of s) a
    routes_overlap x z e = e ∙ rw (later, z)

    pub routes_none : (x : Refusal) → b ≡ true → x ≡ record { number = 0; place = 0 } → x ≡ family_refusal (panel_of s) a
    routes_none x z e = e ∙ rw (later, z)

-- and of one that stands in words
module _ (s : List ℕ) (h : Header) (ws : List ℕ) (f : Family) (g : Groups s h f) (en : f.number ≡ get_or ws 0 0) (ec : f.count ≡ get_or ws 1 0) where
  long : length (assignment_of ws).routes ≡ f.count
  long = routes_length (get_or ws 1 0) (drop 2 ws) ∙ sym ec

  said : routes_refusal (panel_of s) 0 (paths_at (panel_of s) f.number) (routes_of f.count (drop 2 ws)) ≡ routes_refusal (panel_of s) 0 (paths_at (panel_of s) f.number) (assignment_of ws).routes
  said = rw ec

  pub family_refused : (e : RefusedRoute) → record { number = route_number e.why; place = e.route } ≡ routes_refusal (panel_of s) 0 (paths_at (panel_of s) f.number) (routes_of f.count (drop 2 ws))
      → record { number = route_number e.why; place = e.route } ≡ family_refusal (panel_of s) (assignment_of ws)
  family_refused e er = routes_refused s h (assignment_of ws) f g en long (record { number = route_number e.why; place = e.route }) (er ∙ said) (some_number e.why)

  module _ (er : no_refusal ≡ routes_refusal (panel_of s) 0 (paths_at (panel_of s) f.number) (routes_of f.count (drop 2 ws))) (b : Bool) (eb : b ≡ apart (flat (routes_of f.count (drop 2 ws)))) where
    pub family_overlap : b ≡ false → record { number = 31; place = 0 } ≡ family_refusal (panel_of s) (assignment_of ws)
    family_overlap z = routes_overlap s h (assignment_of ws) f g en long no_refusal (er ∙ said) (omega arith) b (eb ∙ rw ec) _ z refl

    pub family_none : b ≡ true → no_refusal ≡ family_refusal (panel_of s) (assignment_of ws)
    family_none z = routes_none s h (assignment_of ws) f g en long no_refusal (er ∙ said) (omega arith) b (eb ∙ rw ec) _ z refl

pub ruleset family_steps = (routes_parsed, family_refused, family_overlap, family_none)

-- ---- 23, 24

module _ (s : List ℕ) (h : Header) (a : Assignment) (acc : Accepted s h) (number : ℕ) (en : number ≡ a.family) (x : Refusal) where
  count : length (panel_of s).families ≡ h.families
  count = rw (panel_families s h acc.counted.framed) (families_length s h)

  pub number_23 : h.families ≤ number → x ≡ record { number = 23; place = 0 } → x ≡ assignment_refusal (panel_of s) a
  unfolding assignment_refusal
  number_23 le e = e ∙ rw (count, ← en, le-ltb number h.families le)

  module _ (lt : number < h.families) (f : Family) (g : Groups s h f) (ef : f.number ≡ number) (n : ℕ) (er : n ≡ length a.routes) where
    wanted : length (paths_at (panel_of s) a.family) ≡ f.count
    wanted = rw (← en, ← ef) (paths_length s h f g)

    pub number_24 : (n ≡ f.count → ⊥) → x ≡ record { number = 24; place = 0 } → x ≡ assignment_refusal (panel_of s) a
    unfolding assignment_refusal
    number_24 ne e = e ∙ rw (← er, wanted, count, ← en, lt-ltb number h.families lt, ne_eqb n f.count ne)

    pub number_later : n ≡ f.count → x ≡ family_refusal (panel_of s) a → x ≡ assignment_refusal (panel_of s) a
    unfolding assignment_refusal family_refusal
    number_later eq e = e ∙ sym rest
      where
        rest : assignment_refusal (panel_of s) a ≡ family_refusal (panel_of s) a
        rest = rw (← er, wanted, count, lt-ltb a.family h.families (rw (← en) lt), eq-eqb n f.count eq)

module _ (s : List ℕ) (h : Header) (ws : List ℕ) (acc : Accepted s h) where
  pub refused_23 : h.families ≤ get_or ws 0 0 → record { number = 23; place = 0 } ≡ assignment_refusal (panel_of s) (assignment_of ws)
  refused_23 le = number_23 s h (assignment_of ws) acc (get_or ws 0 0) refl _ le refl

  module _ (lt : get_or ws 0 0 < h.families) (f : Family) (g : Groups s h f) (ef : f.number ≡ get_or ws 0 0) where
    given_routes : get_or ws 1 0 ≡ length (assignment_of ws).routes
    given_routes = sym (routes_length (get_or ws 1 0) (drop 2 ws))

    pub refused_24 : (get_or ws 1 0 ≡ f.count → ⊥) → record { number = 24; place = 0 } ≡ assignment_refusal (panel_of s) (assignment_of ws)
    refused_24 ne = number_24 s h (assignment_of ws) acc (get_or ws 0 0) refl _ lt f g ef (get_or ws 1 0) given_routes ne refl

    pub refused_later : (x : Refusal) → get_or ws 1 0 ≡ f.count → x ≡ family_refusal (panel_of s) (assignment_of ws) → x ≡ assignment_refusal (panel_of s) (assignment_of ws)
    refused_later x = number_later s h (assignment_of ws) acc (get_or ws 0 0) refl x lt f g ef (get_or ws 1 0) given_routes

pub ruleset formed_steps = (refused_23, refused_24, refused_later)

-- ---- 21, 22, and the answer

some_refusal : (e : AssignmentRefusal) → 0 < number_of e
some_refusal Room = lit< tt
some_refusal Words = lit< tt
some_refusal NoFamily = lit< tt
some_refusal Count = lit< tt
some_refusal (Route r) = some_number r.why
some_refusal Overlap = lit< tt

-- what is answered where something is refused
refused_reply : (e : AssignmentRefusal) (ws xs : List ℕ) → Replied (record { number = number_of e; place = place_of e }) ws xs xs (reply_of (Err e))
refused_reply e ws xs =
    let h = some_refusal e in
    let z : eqb (number_of e) 0 ≡ false = ne_eqb (number_of e) 0 (λ n. omega arith) in
    record { answer = rw z; room = rw z }

accepted_reply : (ws xs ys : List ℕ) (n : ℕ) → Formed ws → length ws ≤ length xs → NormalPut ws xs ys n → Replied no_refusal ws xs ys (reply_of (Ok n))
unfolding normal_words
accepted_reply ws xs ys n w le put =
    let l = put.long in
    let f = put.few in
    let fits : 0 + length (encode (normal_form (assignment_of ws))) ≤ length xs = omega arith in
    let m : 0 + length (encode (normal_form (assignment_of ws))) ≡ length (encode (normal_form (assignment_of ws))) = omega arith in
    record { answer = rw (w.said, l); room = put.words ∙ sets-eq (encode (normal_form (assignment_of ws))) xs 0 fits ∙ rw (m, w.said) }

module _ (p : Panel) (ws xs : List ℕ) where
  pub words_21 : length xs < length ws → Replied (words_refusal p ws (length xs)) ws xs xs (record { refusal = 21; place = 0; words = 0 })
  unfolding words_refusal
  words_21 lt = rw (lt-leb (length ws) (length xs) lt) (refused_reply Room ws xs)

  module _ (le : length ws ≤ length xs) where
    passed : words_refusal p ws (length xs) ≡ given_refusal p ws
    unfolding words_refusal
    passed = rw (le-leb (length ws) (length xs) le)

    pub words_refused : (e : AssignmentRefusal) → record { number = number_of e; place = place_of e } ≡ given_refusal p ws → Replied (words_refusal p ws (length xs)) ws xs xs (record { refusal = number_of e; place = place_of e; words = 0 })
    words_refused e q = rw (passed, ← q) (refused_reply e ws xs)

    pub words_accepted : (ys : List ℕ) (n : ℕ) → no_refusal ≡ given_refusal p ws → NormalPut ws xs ys n → Replied (words_refusal p ws (length xs)) ws xs ys (record { refusal = 0; place = 0; words = n })
    words_accepted ys n q put = rw (passed, ← q) (accepted_reply ws xs ys n (given_formed p ws q) le put)

pub ruleset words_steps = (given_formed, words_refused)

-- ---- 1 to 8

module _ (s ws xs ys : List ℕ) (r : AssignmentReply) (o : Result Header PanelRefusal) (eo : o ≡ checked s) (h : Header) (t : o ≡ Ok h) (d : Replied (words_refusal (panel_of s) ws (length xs)) ws xs ys r) where
  passes : check_refusal s ws (length xs) ≡ words_refusal (panel_of s) ws (length xs)
  unfolding check_refusal panel_refusal
  passes = rw (← eo, t)

  pub check_answered : (q : AssignmentReply) → q ≡ r → q ≡ check_answer s ws (length xs)
  unfolding check_answer
  check_answered q e = e ∙ d.answer ∙ rw passes

  pub check_written : ys ≡ check_out s ws xs
  unfolding check_out
  check_written = d.room ∙ rw passes

module _ (s ws xs : List ℕ) (x : PanelRefusal) (n : ℕ) (is : n ≡ refusal_number x) (o : Result Header PanelRefusal) (eo : o ≡ checked s) (t : o ≡ Err x) where
  number_some : 0 < n
  number_some = let some = refusal_some x in omega arith

  stops : check_refusal s ws (length xs) ≡ record { number = n; place = 0 }
  unfolding check_refusal panel_refusal
  stops = rw (← eo, t, ← is) (go n number_some)
    where
      go : (m : ℕ) → 0 < m → at m 0 (words_refusal (panel_of s) ws (length xs)) ≡ record { number = m; place = 0 }
      go zero h = let z : ⊥ = omega arith in absurd z
      go (suc m) h = refl

  none : eqb n 0 ≡ false
  none = let p = number_some in ne_eqb n 0 (λ e. omega arith)

  pub check_refused : record { refusal = n; place = 0; words = 0 } ≡ check_answer s ws (length xs)
  unfolding check_answer
  check_refused = rw (stops, none)

  pub check_untouched : xs ≡ check_out s ws xs
  unfolding check_out
  check_untouched = rw (stops, none)
