-- For the reader: runs with smaller and larger budgets side by side on panel E, and on E with a second family: what a larger budget adds,
-- and what it does not promise.
use Rattle.std.specs.Prelude.{ℕ, ◌≡◌, refl, List, [], ◌∷◌, map, Float}
use Rattle.std.specs.Float.Ieee as Ieee
use Rattle.evaluate.specs.Words.{encode}
use Rattle.graph.specs.PanelE.{panel_e}
use Rattle.search.specs.declared.SearchBudget.{SearchBudget}
use Rattle.search.specs.Keep.{Evaluated}
use Rattle.certificate.specs.Examples.{double, five, four, one, budget, panel_e2, answers_to, on, tied_of, native_words, mosaic_words}

-- what is handed over, as words
abbrev handed_on : List ℕ → SearchBudget → List (List ℕ)
handed_on s b = map encode ((on s).handed b)

-- of the second family: its native on lane 1, and the mosaic of that
abbrev other_native : List ℕ
other_native = 1 ∷ 1 ∷ 1 ∷ 1 ∷ 0 ∷ 10 ∷ 0 ∷ []

abbrev other_mosaic : List ℕ
other_mosaic = 1 ∷ 1 ∷ 3 ∷ 1 ∷ 0 ∷ 6 ∷ 0 ∷ 0 ∷ 4 ∷ 7 ∷ 0 ∷ 1 ∷ 8 ∷ 10 ∷ 0 ∷ []

abbrev shown : List Evaluated → List (List ℕ)
shown l = map (λ e. encode e.assignment) l

-- the incumbent's words, and its score
abbrev best_of : SearchBudget → List (List ℕ)
best_of b = shown ((on panel_e).kept b).best

abbrev best_score : SearchBudget → List Float
best_score b = map (λ e. e.score) ((on panel_e).kept b).best

-- the reply's status, then its nine counters
abbrev counts : SearchBudget → List ℕ
counts b =
    let r = (on panel_e).answer b in
    r.status ∷ r.work ∷ r.evaluations ∷ r.natives ∷ r.donors ∷ r.non_native ∷ r.mixed ∷ r.mixed_identity ∷ r.switches ∷ r.families ∷ []

-- the reply's status and discarded mark
abbrev marks : SearchBudget → List ℕ
marks b =
    let r = (on panel_e).answer b in
    r.status ∷ r.discarded ∷ []

-- 2.0 and 3.0
abbrev two : ℕ
two = 0x4000000000000000

abbrev three : ℕ
three = 0x4008000000000000

-- three of the same, and six in which the second family's native, second and fifth, has two scores
abbrev fives : List Float
fives = map double (five ∷ five ∷ five ∷ [])

abbrev unequal : List Float
unequal = map double (three ∷ two ∷ two ∷ two ∷ one ∷ 0 ∷ [])

pub record SideBySide : Type 0 where
  -- P6: 20 units stop on work; 21 and 100,000 exhaust with the same counters
  pub p6 : counts (budget 20 1000 32 8 0) ∷ counts (budget 21 1000 32 8 0) ∷ counts (budget 100000 1000 32 8 0) ∷ []
      ≡ (3 ∷ 20 ∷ 3 ∷ 1 ∷ 6 ∷ 1 ∷ 1 ∷ 1 ∷ 2 ∷ 0 ∷ []) ∷ (1 ∷ 21 ∷ 3 ∷ 1 ∷ 6 ∷ 1 ∷ 1 ∷ 1 ∷ 2 ∷ 1 ∷ []) ∷ (1 ∷ 21 ∷ 3 ∷ 1 ∷ 6 ∷ 1 ∷ 1 ∷ 1 ∷ 2 ∷ 1 ∷ []) ∷ []
  -- P7: one, two and three evaluations stop, four exhaust; each hands over the first of the next
  pub p7 : handed_on panel_e (budget 100000 1 32 8 0) ∷ handed_on panel_e (budget 100000 2 32 8 0) ∷ handed_on panel_e (budget 100000 3 32 8 0) ∷ handed_on panel_e (budget 100000 4 32 8 0) ∷ []
      ≡ (native_words ∷ []) ∷ (native_words ∷ native_words ∷ []) ∷ (native_words ∷ native_words ∷ mosaic_words ∷ []) ∷ (native_words ∷ native_words ∷ mosaic_words ∷ []) ∷ []
  pub p7_best : best_score (budget 100000 2 32 8 0) ∷ best_score (budget 100000 3 32 8 0) ∷ [] ≡ (double five ∷ []) ∷ (double four ∷ []) ∷ []
  -- P9: max_frontier 2 stops before the mosaic, 3 does not: its lower score replaces the native's
  pub p9 : handed_on panel_e (budget 100000 1000 2 8 0) ∷ handed_on panel_e (budget 100000 1000 3 8 0) ∷ []
      ≡ (native_words ∷ native_words ∷ []) ∷ (native_words ∷ native_words ∷ mosaic_words ∷ []) ∷ []
  pub p9_best : best_of (budget 100000 1000 2 8 0) ∷ best_of (budget 100000 1000 3 8 0) ∷ [] ≡ (native_words ∷ []) ∷ (mosaic_words ∷ []) ∷ []
  -- two families: a child that is too deep stops the walk before the second family is begun, it is not passed over
  pub deep : handed_on panel_e2 (budget 100000 1000 2 8 0) ∷ handed_on panel_e2 (budget 100000 1000 3 8 0) ∷ []
      ≡ (native_words ∷ other_native ∷ native_words ∷ []) ∷ (native_words ∷ other_native ∷ native_words ∷ mosaic_words ∷ other_native ∷ other_mosaic ∷ []) ∷ []
  -- P11: stopped while seeding, then with all natives, then on the way
  pub p11 : handed_on panel_e2 (budget 1 1 32 8 0) ∷ handed_on panel_e2 (budget 100000 2 32 8 0) ∷ handed_on panel_e2 (budget 100000 3 32 8 0) ∷ []
      ≡ (native_words ∷ []) ∷ (native_words ∷ other_native ∷ []) ∷ (native_words ∷ other_native ∷ native_words ∷ []) ∷ []
  -- an equal score replaces no incumbent: with 5, 5, 5 it stays the native
  pub equal : shown ((answers_to panel_e fives).kept (budget 100000 2 32 8 0)).best ∷ shown ((answers_to panel_e fives).kept (budget 100000 4 32 8 0)).best ∷ []
      ≡ (native_words ∷ []) ∷ (native_words ∷ []) ∷ []
  -- tie widths of 0.0 and -0.0 tie the same, one of 1.0 does not
  pub zeros : tied_of (budget 21 1000 32 8 0) ∷ tied_of (budget 21 1000 32 8 0x8000000000000000) ∷ tied_of (budget 21 1000 32 8 one) ∷ []
      ≡ (mosaic_words ∷ []) ∷ (mosaic_words ∷ []) ∷ (native_words ∷ mosaic_words ∷ []) ∷ []
  -- P10 with max_optima 1 is exhausted with one discarded; with 8 it is certified, the mark gone and the counters the same
  pub p10 : counts (budget 100000 1000 32 1 one) ∷ counts (budget 100000 1000 32 8 one) ∷ []
      ≡ (2 ∷ 21 ∷ 3 ∷ 1 ∷ 6 ∷ 1 ∷ 1 ∷ 1 ∷ 2 ∷ 1 ∷ []) ∷ (1 ∷ 21 ∷ 3 ∷ 1 ∷ 6 ∷ 1 ∷ 1 ∷ 1 ∷ 2 ∷ 1 ∷ []) ∷ []
  pub p10_marks : marks (budget 100000 1000 32 1 one) ∷ marks (budget 100000 1000 32 8 one) ∷ [] ≡ (2 ∷ 1 ∷ []) ∷ (1 ∷ 0 ∷ []) ∷ []
  -- not promised: that the tied list of a run that was stopped is part of the larger run's (P9: the native, then the mosaic)
  pub ties : tied_of (budget 100000 1000 2 8 0) ∷ tied_of (budget 100000 1000 3 8 0) ∷ [] ≡ (native_words ∷ []) ∷ (mosaic_words ∷ []) ∷ []
  -- not promised: that it is part of it where max_optima alone is larger, unless equal assignments have identical scores
  pub two_scores : shown ((answers_to panel_e2 unequal).kept (budget 100000 1000 32 1 one)).tied
      ∷ shown ((answers_to panel_e2 unequal).kept (budget 100000 1000 32 2 one)).tied ∷ []
      ≡ (other_native ∷ []) ∷ (other_mosaic ∷ []) ∷ []
  -- not promised: that a run which was stopped with nothing discarded discards nothing under a larger budget
  pub mark : marks (budget 100000 2 32 1 one) ∷ marks (budget 100000 4 32 1 one) ∷ [] ≡ (4 ∷ 0 ∷ []) ∷ (2 ∷ 1 ∷ []) ∷ []
  -- not promised: that a run which is stopped again is stopped by the same budget (P9's frontier, then P8's work)
  pub stops : marks (budget 9 3 2 8 0) ∷ marks (budget 9 3 32 8 0) ∷ [] ≡ (5 ∷ 0 ∷ []) ∷ (3 ∷ 0 ∷ []) ∷ []
  -- not promised where one budget is smaller
  pub smaller : handed_on panel_e (budget 100000 1000 2 8 0) ∷ handed_on panel_e (budget 1 1000 32 8 0) ∷ [] ≡ (native_words ∷ native_words ∷ []) ∷ (native_words ∷ []) ∷ []

pub side_by_side : SideBySide
unfolding answers_to panel_e panel_e2 encode Ieee.of_bits
side_by_side =
    record {
      p6 = refl;
      p7 = refl;
      p7_best = refl;
      p9 = refl;
      p9_best = refl;
      deep = refl;
      p11 = refl;
      equal = refl;
      zeros = refl;
      p10 = refl;
      p10_marks = refl;
      ties = refl;
      two_scores = refl;
      mark = refl;
      stops = refl;
      smaller = refl;
    }
