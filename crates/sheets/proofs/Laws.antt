-- Laws of what the program prints.
use Prim.Native.Nat.{ℕ, ◌/◌, ◌≤◌, ◌<◌}
use native.Mathlib.Omega.{arith}
use mathlib.Core.Path.{◌≡◌, refl, sym, ◌∙◌, ap, subst}
use mathlib.Core.Bool.{Bool, true, false}
use mathlib.Core.List.{List, [], ◌∷◌, ◌++◌, append-nil, map}
use lib.Dec.{eqb}
use lib.ListN.{length, take, replicate}
use lib.Seq.{take-append_seam}
use lib.Ieee.{Float}
use borrow.Author.Tests.{eq-eqb}
use Rattle.ground.specs.Lists.{pick, each}
use Rattle.storage.specs.Bytes.{number}
use Rattle.image.specs.declared.Header.{Header}
use Rattle.image.specs.Panel.{Panel, panel_of, paths_at}
use Rattle.image.specs.declared.PanelRefusal.{PanelRefusal}
use Rattle.image.specs.declared.PanelRefusal.TheVariants.{Short, Counts, Layout, Lanes, Families, Records, Order, Listing}
use Rattle.image.specs.Header.{refusal_number}
use Rattle.std.specs.declared.result.Result.{Result}
use Rattle.std.specs.declared.result.Result.TheVariants.{Err}
use Rattle.panel.specs.Inner.{Accepted}
use Rattle.graph.specs.Check.{checked, panel_refusal}
use Rattle.evaluate.specs.Properties.{Each}
use Rattle.evaluate.specs.Check.{over}
use Rattle.words.specs.Inner.{assignment_of}
use Rattle.search.specs.declared.SearchBudget.{SearchBudget}
use Rattle.search.specs.declared.SearchReply.{SearchReply}
use Rattle.search.specs.declared.Status.{Status}
use Rattle.search.specs.declared.Status.TheVariants.{Certified, SupportIncomplete, WorkExhausted, EvaluationExhausted, FrontierExhausted}
use Rattle.search.specs.Budget.{zero_score}
use Rattle.search.specs.Counters.{status_number}
use Rattle.search.specs.Keep.{Evaluated}
use Rattle.search.specs.Search.{Searched, search, status_after}
use Rattle.search.specs.Rooms.{kept_left, left_in}
use Rattle.search.specs.Answers.{Rooms, search_refusal, refused_search, reply_of, search_answer, rooms_after, search_rooms}
use Rattle.search.specs.Sheet.{field, foreign_text, routes_lines, incumbent_lines, foreign, foreign_on, sheet, refusal_line}
use Rattle.search.specs.Job.{job_ok, score_count, double_of, scores_in, program_rooms, job_refusal, printed}
use Rattle.text.specs.Inner.{Put}
use Rattle.lines.specs.Inner.{status_from, incumbent_text, sheet_of, Held}
use Rattle.jobs.specs.declared.Job.{Job}
use Rattle.jobs.specs.Inner.{Parts}
use Rattle.sheets.specs.Inner.{incumbent_of, answer_text}
use Rattle.sheets.proofs.Spans.{LowAssignment, accepted_bounded, handed_low}
use Rattle.sheets.proofs.Rooms.{Starts, starts_is, starts_held, kept_starts, incumbent_each}

-- ---- the sheet from the answer

status_back : (s : Status) → status_from (status_number s) ≡ s
status_back Certified = refl
status_back SupportIncomplete = refl
status_back WorkExhausted = refl
status_back EvaluationExhausted = refl
status_back FrontierExhausted = refl

incumbent_is : (p : Panel) (best : List Evaluated) → incumbent_lines p best ≡ incumbent_text p (incumbent_of best)
unfolding foreign routes_lines
incumbent_is p [] = go (paths_at p 0)
  where
    go : (l : List ℕ) → field foreign_text 0 ≡ field foreign_text (foreign_on l []) ++ []
    go [] = sym (append-nil (field foreign_text 0))
    go (x ∷ l) = sym (append-nil (field foreign_text 0))
incumbent_is p (e ∷ l) = refl

sheet_is : (p : Panel) (r : Searched) → sheet p r ≡ sheet_of p (reply_of r) (incumbent_of r.state.kept.best)
unfolding sheet sheet_of reply_of
sheet_is p r = rw (status_back (status_after r), incumbent_is p r.state.kept.best)

-- ---- the search's answer and rooms

module _ (s : List ℕ) (b : SearchBudget) (xs : List Float) (r : SearchReply) (e : r ≡ search_answer s b xs program_rooms) where
  refused_is : 0 < r.refusal → answer_text s b xs ≡ refusal_line (record { number = r.refusal; place = r.place })
  unfolding answer_text search_answer reply_of
  refused_is h = go (eqb (search_refusal s b xs program_rooms).number 0) e
    where
      go : (t : Bool) → r ≡ pick t (reply_of (search (panel_of s) b xs)) (refused_search (search_refusal s b xs program_rooms))
          → pick t (sheet (panel_of s) (search (panel_of s) b xs)) (refusal_line (search_refusal s b xs program_rooms)) ≡ refusal_line (record { number = r.refusal; place = r.place })
      go true q = let z : r.refusal ≡ 0 = ap (λ (x : SearchReply). x.refusal) q in let y : ⊥ = omega arith in absurd y
      go false q =
          let n : r.refusal ≡ (search_refusal s b xs program_rooms).number = ap (λ (x : SearchReply). x.refusal) q in
          let m : r.place ≡ (search_refusal s b xs program_rooms).place = ap (λ (x : SearchReply). x.place) q in
          sym (λ i. refusal_line (record { number = n i; place = m i }))

  passed : r.refusal ≤ 0 → eqb (search_refusal s b xs program_rooms).number 0 ≡ true
  unfolding search_answer
  passed h = go (eqb (search_refusal s b xs program_rooms).number 0) refl e
    where
      go : (t : Bool) → eqb (search_refusal s b xs program_rooms).number 0 ≡ t → r ≡ pick t (reply_of (search (panel_of s) b xs)) (refused_search (search_refusal s b xs program_rooms)) → t ≡ true
      go true k q = refl
      go false k q =
          let n : r.refusal ≡ (search_refusal s b xs program_rooms).number = ap (λ (x : SearchReply). x.refusal) q in
          let z : (search_refusal s b xs program_rooms).number ≡ 0 = omega arith in
          sym k ∙ eq-eqb (search_refusal s b xs program_rooms).number 0 z

  module _ (h : r.refusal ≤ 0) where
    sheet_told : answer_text s b xs ≡ sheet_of (panel_of s) r (incumbent_of (search (panel_of s) b xs).state.kept.best)
    unfolding answer_text search_answer
    sheet_told =
        let t = passed h in
        let q : r ≡ reply_of (search (panel_of s) b xs) = e ∙ rw t in
        rw (t, q) (sheet_is (panel_of s) (search (panel_of s) b xs))

    kept_is : (ks : List ℕ) → ks ≡ (search_rooms s b xs program_rooms).kept → ks ≡ over (kept_left (panel_of s) b (search (panel_of s) b xs).state.kept) program_rooms.kept
    unfolding search_rooms rooms_after left_in
    kept_is ks q = q ∙ rw (passed h)

    module _ (ks : List ℕ) (q : ks ≡ (search_rooms s b xs program_rooms).kept) where
      begins : Starts (incumbent_of (search (panel_of s) b xs).state.kept.best) ks
      begins = subst (Starts (incumbent_of (search (panel_of s) b xs).state.kept.best)) (sym (kept_is ks q)) (kept_starts (panel_of s) b (search (panel_of s) b xs).state.kept program_rooms.kept)

      incumbent_low : (hd : Header) → Accepted s hd → LowAssignment (incumbent_of (search (panel_of s) b xs).state.kept.best)
      incumbent_low hd acc = go (search (panel_of s) b xs).state.kept.best (incumbent_each LowAssignment (panel_of s) b xs (handed_low (panel_of s) b (accepted_bounded s hd acc)))
        where
          go : (l : List Evaluated) → Each (λ (x : Evaluated). LowAssignment x.assignment) l → LowAssignment (incumbent_of l)
          go [] k = tt
          go (x ∷ l) k = k.0

      pub kept_held : (hd : Header) → Accepted s hd → length ks ≡ 2484 → Held ks
      kept_held hd acc n = starts_held (incumbent_of (search (panel_of s) b xs).state.kept.best) ks begins (incumbent_low hd acc) (omega arith)

      pub sheet_put : {ys zs : List ℕ} {at n : ℕ} → Put (sheet_of (panel_of s) r (assignment_of ks)) ys at zs n → Put (answer_text s b xs) ys at zs n
      sheet_put {ys} {zs} {at} {n} put =
          subst (λ (l : List ℕ). Put l ys at zs n) (ap (sheet_of (panel_of s) r) (starts_is (incumbent_of (search (panel_of s) b xs).state.kept.best) ks begins) ∙ sym sheet_told) put

  pub refusal_put : {ys zs : List ℕ} {at n : ℕ} → 0 < r.refusal → Put (refusal_line (record { number = r.refusal; place = r.place })) ys at zs n → Put (answer_text s b xs) ys at zs n
  refusal_put {ys} {zs} {at} {n} h put = subst (λ (l : List ℕ). Put l ys at zs n) (sym (refused_is h)) put

-- ---- the program's rooms

rooms_are : (fs ks : List ℕ) (ss : List Float) → fs ≡ replicate 330 0 → ks ≡ replicate 2484 0 → ss ≡ replicate 17 zero_score → ◌≡◌ {A = Rooms} (record { frames = fs; kept = ks; scores = ss }) program_rooms
unfolding program_rooms
rooms_are fs ks ss ef ek es = rw (ef, ek, es)

module _ (s : List ℕ) (b : SearchBudget) (xs : List Float) (fs ks : List ℕ) (ss : List Float) (ef : fs ≡ replicate 330 0) (ek : ks ≡ replicate 2484 0) (es : ss ≡ replicate 17 zero_score) where
  pub answer-in : (r : SearchReply) → r ≡ search_answer s b xs (record { frames = fs; kept = ks; scores = ss }) → r ≡ search_answer s b xs program_rooms
  answer-in r e = e ∙ ap (search_answer s b xs) (rooms_are fs ks ss ef ek es)

  pub kept_in : (gs ls : List ℕ) (ts : List Float) → ◌≡◌ {A = Rooms} (record { frames = gs; kept = ls; scores = ts }) (search_rooms s b xs (record { frames = fs; kept = ks; scores = ss })) → ls ≡ (search_rooms s b xs program_rooms).kept
  kept_in gs ls ts e = ap (λ (x : Rooms). x.kept) (e ∙ ap (search_rooms s b xs) (rooms_are fs ks ss ef ek es))

-- ---- a job

panel_refused : (s : List ℕ) (b : SearchBudget) (xs : List Float) (x : PanelRefusal) → checked s ≡ Err x → answer_text s b xs ≡ refusal_line (record { number = refusal_number x; place = 0 })
unfolding answer_text search_refusal panel_refusal
panel_refused s b xs Short e = rw e
panel_refused s b xs Counts e = rw e
panel_refused s b xs Layout e = rw e
panel_refused s b xs Lanes e = rw e
panel_refused s b xs Families e = rw e
panel_refused s b xs Records e = rw e
panel_refused s b xs Order e = rw e
panel_refused s b xs Listing e = rw e

pub panel_put : (s : List ℕ) (b : SearchBudget) (xs : List Float) (x : PanelRefusal) (n : ℕ) (o : Result Header PanelRefusal) {ys zs : List ℕ} {at m : ℕ} → o ≡ checked s → o ≡ Err x → n ≡ refusal_number x → Put (refusal_line (record { number = n; place = 0 })) ys at zs m
    → Put (answer_text s b xs) ys at zs m
panel_put s b xs x n o {ys} {zs} {at} {m} e f is put = subst (λ (l : List ℕ). Put l ys at zs m) (rw is (sym (panel_refused s b xs x (sym e ∙ f)))) put

scores_are : (s : List ℕ) (j : Job) → Parts s j → (xs ys zs : List Float) → length zs ≡ length j.scores.now / 8 → length xs ≡ length zs → xs ≡ map double_of (each number 8 (length zs) j.scores.now) → take (length j.scores.now / 8) (xs ++ ys) ≡ scores_in s
unfolding scores_in
scores_are s j p xs ys zs n l e =
    let m : length zs ≡ score_count s = (let b = p.long in omega arith) in
    rw (← n, ← l) (take-append_seam xs ys) ∙ e ∙ rw (m, p.scores)

pub job_put : (s : List ℕ) {ys zs : List ℕ} {at m : ℕ} → job_ok s ≡ false → Put (refusal_line (record { number = 16; place = 0 })) ys at zs m → Put (printed s) ys at zs m
unfolding printed job_refusal
job_put s {ys} {zs} {at} {m} z put = rw z put

pub parts_put : (s : List ℕ) (j : Job) → Parts s j → (xs ys zs : List Float) → length zs ≡ length j.scores.now / 8 → length xs ≡ length zs → xs ≡ map double_of (each number 8 (length zs) j.scores.now)
    → {os us : List ℕ} {at m : ℕ} → Put (answer_text j.panel.now j.budget (take (length j.scores.now / 8) (xs ++ ys))) os at us m → Put (printed s) os at us m
unfolding printed job_refusal answer_text
parts_put s j p xs ys zs n l e {os} {us} {at} {m} put = rw p.ok (subst (λ (t : List ℕ). Put t os at us m) (λ i. answer_text (p.panel i) (p.budget i) (scores_are s j p xs ys zs n l e i)) put)
