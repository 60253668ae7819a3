-- What the program prints is at most so many bytes, for every job.
use Prim.Native.Nat.{ℕ, zero, suc, ◌+◌, ◌*◌, ◌/◌, ◌%◌, ◌≤◌, ◌<◌}
use native.Mathlib.Omega.{arith}
use native.Mathlib.Nat.{mul-le-mul_right}
use mathlib.Core.Path.{◌≡◌, refl, sym, ◌∙◌, ap}
use mathlib.Core.Bool.{Bool, true, false, ◌&&◌}
use mathlib.Core.List.{List, [], ◌∷◌, ◌++◌}
use lib.Dec.{leb, ltb, eqb}
use lib.ListN.{length, take, drop, length-append, length-replicate}
use lib.Seq.{take_all, length-take-le}
use lib.Ieee.{Float}
use borrow.Author.Tests.{ltb-true, leb-true, eqb-true}
use Rattle.ground.specs.Lists.{pick}
use Rattle.ground.proofs.ListLaws.{both}
use Rattle.image.specs.Panel.{Panel, panel_of}
use Rattle.graph.specs.Check.{panel_refusal}
use Rattle.evaluate.specs.declared.Refusal.{Refusal}
use Rattle.evaluate.specs.Properties.{Each}
use Rattle.evaluate.specs.Refusals.{at, unless}
use Rattle.evaluate.specs.Segments.{Route, Assignment, flat}
use Rattle.evaluate.specs.Words.{encode}
use Rattle.evaluate.specs.Check.{over}
use Rattle.evaluate.proofs.Lists.{each_map}
use Rattle.search.specs.declared.SearchBudget.{SearchBudget}
use Rattle.search.specs.declared.Tally.{Tally}
use Rattle.search.specs.declared.Status.{Status}
use Rattle.search.specs.declared.Status.TheVariants.{Certified, SupportIncomplete, WorkExhausted, EvaluationExhausted, FrontierExhausted}
use Rattle.search.specs.Budget.{width_ok, budget_ok, budget_in_bounds, budget_refusal}
use Rattle.search.specs.Keep.{Evaluated}
use Rattle.search.specs.Run.{walk}
use Rattle.search.specs.Search.{Searched, search, status_after}
use Rattle.search.specs.Rooms.{slot_width, frames_needed, kept_needed, scores_needed, rooms_refusal}
use Rattle.search.specs.Answers.{search_refusal}
use Rattle.search.specs.Sheet.{status_text, status_bytes, work_text, evaluations_text, natives_text, donors_text, non_native_text, mixed_text, mixed_identity_text, switches_text, families_text, optima_text, foreign_text, route_text, digits, decimal, line, field, turn_text, route_lines, routes_lines, incumbent_lines, tally_lines, foreign, sheet, refusal_line}
use Rattle.search.specs.Job.{program_rooms, job_ok, panel_in, budget_in, scores_in, job_refusal, printed}
use Rattle.budget.proofs.Laws.{budget_frontier}
use Rattle.enumeration.proofs.Room.{encode_length, handed_fits}
use Rattle.text.specs.Inner.{Put}
use Rattle.text.proofs.Laws.{put_over, put_count}
use Rattle.sheets.proofs.Rooms.{incumbent_each}

-- ---- lines

digits_short : (n x : ℕ) → length (digits n x) ≤ n
unfolding digits
digits_short zero x = omega arith
digits_short (suc n) x = go (ltb x 10) (digits_short n (x / 10))
  where
    go : (t : Bool) → length (digits n (x / 10)) ≤ n → length (pick t ((48 + x) ∷ []) (digits n (x / 10) ++ ((48 + x % 10) ∷ []))) ≤ suc n
    go true h = omega arith
    go false h = let e : length (digits n (x / 10) ++ ((48 + x % 10) ∷ [])) ≡ length (digits n (x / 10)) + 1 = length-append (digits n (x / 10)) ((48 + x % 10) ∷ []) in omega arith

number_short : (x : ℕ) → length (decimal x) ≤ 20
number_short x = digits_short 20 x

field_short : (name : List ℕ) (x : ℕ) → length (field name x) ≤ length name + 22
field_short name x =
    let a = length-append name (32 ∷ (decimal x ++ (10 ∷ []))) in
    let b = length-append (decimal x) (10 ∷ []) in
    let c = number_short x in
    omega arith

turn_short : (r : Bool) → length (turn_text r ++ (10 ∷ [])) ≤ 2
turn_short true = omega arith
turn_short false = omega arith

counted : (x : ℕ) (rest : List ℕ) (n : ℕ) → length rest ≤ n → length (decimal x ++ (32 ∷ rest)) ≤ n + 21
counted x rest n h =
    let a = length-append (decimal x) (32 ∷ rest) in
    let c = number_short x in
    omega arith

route_short : (slot : ℕ) (r : Route) → length (route_lines slot r) ≤ 92 * length r
unfolding route_lines
route_short slot [] = omega arith
route_short slot (s ∷ r) =
    let last : List ℕ = turn_text s.reverse ++ (10 ∷ []) in
    let t = turn_short s.reverse in
    let e : length (decimal s.end ++ (32 ∷ last)) ≤ 2 + 21 = counted s.end last 2 t in
    let d : length (decimal s.start ++ (32 ∷ (decimal s.end ++ (32 ∷ last)))) ≤ 2 + 21 + 21 = counted s.start (decimal s.end ++ (32 ∷ last)) (2 + 21) e in
    let c : length (decimal s.source ++ (32 ∷ (decimal s.start ++ (32 ∷ (decimal s.end ++ (32 ∷ last)))))) ≤ 2 + 21 + 21 + 21 = counted s.source _ (2 + 21 + 21) d in
    let b : length (decimal slot ++ (32 ∷ (decimal s.source ++ (32 ∷ (decimal s.start ++ (32 ∷ (decimal s.end ++ (32 ∷ last)))))))) ≤ 2 + 21 + 21 + 21 + 21 = counted slot _ (2 + 21 + 21 + 21) c in
    let a = length-append (line (route_text ∷ decimal slot ∷ decimal s.source ∷ decimal s.start ∷ decimal s.end ∷ turn_text s.reverse ∷ [])) (route_lines slot r) in
    let rest = route_short slot r in
    omega arith

routes_short : (slot : ℕ) (rs : List Route) → length (routes_lines slot rs) ≤ 92 * length (flat rs)
unfolding routes_lines
routes_short slot [] = omega arith
routes_short slot (r ∷ rs) =
    let a = length-append (route_lines slot r) (routes_lines (suc slot) rs) in
    let b = route_short slot r in
    let c = routes_short (suc slot) rs in
    let d = length-append r (flat rs) in
    omega arith

status_short : (s : Status) → length (line (status_text ∷ status_bytes s ∷ [])) ≤ 65
status_short Certified = omega arith
status_short SupportIncomplete = omega arith
status_short WorkExhausted = omega arith
status_short EvaluationExhausted = omega arith
status_short FrontierExhausted = omega arith

four_long : (a b c d : List ℕ) → length (a ++ (b ++ (c ++ d))) ≡ length a + length b + length c + length d
four_long a b c d = simp length-append (omega arith)

nine_long : (a b c d e f g h i : List ℕ) → length (a ++ (b ++ (c ++ (d ++ (e ++ (f ++ (g ++ (h ++ i))))))))
    ≡ length a + length b + length c + length d + length e + length f + length g + length h + length i
nine_long a b c d e f g h i = simp length-append (omega arith)

tally_short : (t : Tally) → length (tally_lines t) ≤ 271
tally_short t =
    let a = field_short work_text t.work in
    let b = field_short evaluations_text t.evaluations in
    let c = field_short natives_text t.natives in
    let d = field_short donors_text t.donors in
    let e = field_short non_native_text t.non_native in
    let f = field_short mixed_text t.mixed in
    let g = field_short mixed_identity_text t.mixed_identity in
    let h = field_short switches_text t.switches in
    let i = field_short families_text t.families in
    let n =
    nine_long (field work_text t.work) (field evaluations_text t.evaluations) (field natives_text t.natives) (field donors_text t.donors) (field non_native_text t.non_native)
    (field mixed_text t.mixed) (field mixed_identity_text t.mixed_identity) (field switches_text t.switches) (field families_text t.families) in
    omega arith

refusal_short : (r : Refusal) → length (refusal_line r) ≤ 50
unfolding refusal_line
refusal_short r =
    let a = length-append (decimal r.place) (10 ∷ []) in
    let b = number_short r.place in
    let c : length (decimal r.place ++ (10 ∷ [])) ≤ 21 = omega arith in
    let d = counted r.number (decimal r.place ++ (10 ∷ [])) 21 c in
    omega arith

-- ---- the incumbent

incumbent_short : (p : Panel) (best : List Evaluated) → Each (λ (e : Evaluated). length (encode e.assignment) ≤ 828) best → length (incumbent_lines p best) ≤ 19000
incumbent_short p [] h = let a = field_short foreign_text 0 in omega arith
incumbent_short p (e ∷ l) h =
    let a = field_short foreign_text (foreign p e.assignment) in
    let b = routes_short 0 e.assignment.routes in
    let c = encode_length e.assignment in
    let d = h.0 in
    let f = length-append (field foreign_text (foreign p e.assignment)) (routes_lines 0 e.assignment.routes) in
    omega arith

at_none : (n : ℕ) (r : Refusal) → (at n 0 r).number ≡ 0 → (n ≡ 0) × (r.number ≡ 0)
at_none zero r e = (refl, e)
at_none (suc n) r e = absurd (let z : ⊥ = omega arith in z)

budget_optima : (b : SearchBudget) → budget_refusal b ≡ 0 → 0 < b.max_optima
unfolding budget_refusal budget_ok
budget_optima b e = go (budget_ok b) refl e
  where
    go : (x : Bool) → budget_ok b ≡ x → unless x 11 (unless (budget_in_bounds b) 12 0) ≡ 0 → 0 < b.max_optima
    go true k z =
        let first = (both (ltb 0 b.max_work && ltb 0 b.max_evaluations && ltb 0 b.max_frontier && ltb 0 b.max_optima) (width_ok b.tie_width) k).0 in
        ltb-true 0 b.max_optima (both (ltb 0 b.max_work && ltb 0 b.max_evaluations && ltb 0 b.max_frontier) (ltb 0 b.max_optima) first).1
    go false k z = absurd (let y : ⊥ = omega arith in y)

middle : (x y z : Bool) → unless (x && y && z) 13 0 ≡ 0 → y ≡ true
middle true true z e = refl
middle true false z e = absurd (let y : ⊥ = omega arith in y)
middle false y z e = absurd (let w : ⊥ = omega arith in w)

kept_size : length program_rooms.kept ≡ 2484
unfolding program_rooms
kept_size = length-replicate {A = ℕ} 2484 0

kept_short : (p : Panel) (b : SearchBudget) → rooms_refusal p b (length program_rooms.frames) (length program_rooms.kept) (length program_rooms.scores) ≡ 0 → kept_needed p b ≤ 2484
unfolding rooms_refusal
kept_short p b e =
    let t = middle (leb (frames_needed b) (length program_rooms.frames)) (leb (kept_needed p b) (length program_rooms.kept)) (leb (scores_needed b) (length program_rooms.scores)) e in
    let n = leb-true (kept_needed p b) (length program_rooms.kept) t in
    let m = kept_size in
    omega arith

-- three slots at least: the incumbent, a tied optimum, the spare
slot_short : (p : Panel) (b : SearchBudget) → 0 < b.max_optima → kept_needed p b ≤ 2484 → slot_width p b ≤ 828
slot_short p b h k =
    let three : 3 ≤ b.max_optima + 2 = omega arith in
    let more : 3 * slot_width p b ≤ (b.max_optima + 2) * slot_width p b = mul-le-mul_right (slot_width p b) three in
    omega arith

searched_short : (s : List ℕ) (b : SearchBudget) (xs : List Float) → (search_refusal s b xs program_rooms).number ≡ 0 → length (sheet (panel_of s) (search (panel_of s) b xs)) ≤ 20480
unfolding search_refusal sheet
searched_short s b xs e =
    let p : Panel = panel_of s in
    let r : Searched = search (panel_of s) b xs in
    let (none, later) = at_none (panel_refusal s) _ e in
    let (budget, rest) = at_none (budget_refusal b) _ later in
    let (rooms, last) = at_none (rooms_refusal (panel_of s) b (length program_rooms.frames) (length program_rooms.kept) (length program_rooms.scores)) _ rest in
    let v = slot_short (panel_of s) b (budget_optima b budget) (kept_short (panel_of s) b rooms) in
    let fits = each_map (λ (a : Assignment). length (encode a) ≤ slot_width (panel_of s) b) (λ (a : Assignment). length (encode a) ≤ 828) (λ a n. omega arith) (walk (panel_of s) b).walk.out (handed_fits (panel_of s) b (budget_frontier b budget)) in
    let best = incumbent_each (λ (a : Assignment). length (encode a) ≤ 828) (panel_of s) b xs fits in
    let w = status_short (status_after r) in
    let x = tally_short r.state.tally in
    let y = field_short optima_text (length r.state.kept.tied) in
    let z = incumbent_short p r.state.kept.best best in
    let n = four_long (line (status_text ∷ status_bytes (status_after r) ∷ [])) (tally_lines r.state.tally) (field optima_text (length r.state.kept.tied)) (incumbent_lines p r.state.kept.best) in
    omega arith

job_passed : (s : List ℕ) (b : Bool) → job_ok s ≡ b → (job_refusal s).number ≡ 0 → (search_refusal (panel_in s) (budget_in s) (scores_in s) program_rooms).number ≡ 0
unfolding job_refusal
job_passed s b k z = go b (rw k at z)
  where
    go : (b : Bool) → (pick b (search_refusal (panel_in s) (budget_in s) (scores_in s) program_rooms) (record { number = 16; place = 0 })).number ≡ 0 → (search_refusal (panel_in s) (budget_in s) (scores_in s) program_rooms).number ≡ 0
    go true h = h
    go false h = absurd (let y : ⊥ = omega arith in y)

-- no job's answer is longer than the program's room
pub printed_short : (s : List ℕ) → length (printed s) ≤ 20480
unfolding printed
printed_short s = go (eqb (job_refusal s).number 0) refl
  where
    go : (t : Bool) → eqb (job_refusal s).number 0 ≡ t → length (pick t (sheet (panel_of (panel_in s)) (search (panel_of (panel_in s)) (budget_in s) (scores_in s))) (refusal_line (job_refusal s))) ≤ 20480
    go false e = let a = refusal_short (job_refusal s) in omega arith
    go true e = searched_short (panel_in s) (budget_in s) (scores_in s) (job_passed s (job_ok s) refl (eqb-true (job_refusal s).number 0 e))

module _ (s : List ℕ) {xs ys : List ℕ} {n : ℕ} (room : length xs ≡ 20480) (p : Put (printed s) xs 0 ys n) where
  pub printed_over : ys ≡ over (printed s) xs
  printed_over = let k = printed_short s in put_over p ∙ rw (take_all (length xs) (printed s) (omega arith))

  pub printed_count : n ≡ length (printed s)
  printed_count = let k = printed_short s in put_count p ∙ (omega arith)

-- what was written lies within its room
module _ (s xs ys : List ℕ) (n : ℕ) (e : ys ≡ over (printed s) xs) (m : n ≡ length (printed s)) where
  pub written_inside : n ≤ length ys
  written_inside = let k = ap length e ∙ length-append (printed s) (drop (length (printed s)) xs) in omega arith

  pub written_long : n ≡ length (take n ys)
  written_long = sym (length-take-le n ys written_inside)
