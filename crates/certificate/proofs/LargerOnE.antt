-- For the reader: "a larger budget only adds", used on panel E, with a run that was stopped and with runs that were exhausted.
use native.Mathlib.Bridge.{le_by_compare, IsLe}
use mathlib.Core.Path.{◌≡◌, refl, ap, ◌∙◌}
use mathlib.Core.Logic.{inl, inr}
use mathlib.Core.List.{[], ◌∷◌}
use lib.Ieee as Ieee
use Rattle.graph.specs.PanelE.{panel_e}
use Rattle.search.specs.declared.SearchBudget.{SearchBudget}
use Rattle.search.specs.declared.SearchReply.{SearchReply}
use Rattle.search.specs.Keep.{Evaluated}
use Rattle.search.specs.Answers.{Rooms, search_answer, search_rooms}
use Rattle.certificate.specs.Examples.{double, five, one, budget, scores, rooms, answers_to, on}
use Rattle.certificate.specs.Terms.{Exhausted, kept_by}
use Rattle.certificate.specs.Larger.{NoSmaller, NoWorse, SameCounters, AsItWas, OnlyAdds}
use Rattle.certificate.specs.Raised.{Raised, Added}
use Rattle.certificate.proofs.Larger.{larger_only_adds}
use Rattle.certificate.proofs.Raised.{raised_only_adds}
use Rattle.certificate.proofs.OnE.{native_e, default, searched_E}

-- the reply of a run on E
abbrev reply_e : SearchBudget → SearchReply
reply_e b = search_answer panel_e b scores rooms

-- ---- stopped: P9, with a tie width of -0.0, and the default budget

abbrev narrow : SearchBudget
narrow = budget 100000 1000 2 8 0x8000000000000000

no_smaller_E : NoSmaller narrow default
unfolding IsLe Ieee.eq Ieee.of_bits
no_smaller_E =
    record {
      walk = record { work = le_by_compare 100000 100000 tt; evaluations = le_by_compare 1000 1000 tt; frontier = le_by_compare 2 32 tt };
      optima = le_by_compare 8 8 tt;
      width = refl;
    }

shown_narrow : ((on panel_e).answer narrow).refusal ≡ 0
unfolding answers_to panel_e Ieee.of_bits
shown_narrow = refl

narrow_E : (reply_e narrow).refusal ≡ 0
unfolding answers_to
narrow_E = shown_narrow

adds_E : OnlyAdds panel_e narrow default scores (reply_e narrow) (reply_e default)
adds_E = larger_only_adds panel_e narrow default scores rooms rooms narrow_E searched_E no_smaller_E

-- its incumbent is the native with 5.0
abbrev first : Evaluated
first = record { assignment = native_e; score = double five }

shown_first : ((on panel_e).kept narrow).best ≡ first ∷ []
unfolding answers_to panel_e Ieee.of_bits
shown_first = refl

first_E : (kept_by panel_e narrow scores).best ≡ first ∷ []
unfolding answers_to
first_E = shown_first

pub no_worse_E : (j : Evaluated) × ((kept_by panel_e default scores).best ≡ j ∷ []) × NoWorse first j
no_worse_E = adds_E.incumbent first first_E

-- ---- exhausted with one discarded: P10 with max_optima 1, with 21 units and with 100,000, and with max_optima 8

abbrev tight : SearchBudget
tight = budget 21 1000 32 1 one

abbrev long : SearchBudget
long = budget 100000 1000 32 1 one

abbrev roomy : SearchBudget
roomy = budget 100000 1000 32 8 one

more_work : NoSmaller tight long
unfolding IsLe Ieee.eq Ieee.of_bits
more_work =
    record {
      walk = record { work = le_by_compare 21 100000 tt; evaluations = le_by_compare 1000 1000 tt; frontier = le_by_compare 32 32 tt };
      optima = le_by_compare 1 1 tt;
      width = refl;
    }

more_room : NoSmaller long roomy
unfolding IsLe Ieee.eq Ieee.of_bits
more_room =
    record {
      walk = record { work = le_by_compare 100000 100000 tt; evaluations = le_by_compare 1000 1000 tt; frontier = le_by_compare 32 32 tt };
      optima = le_by_compare 1 8 tt;
      width = refl;
    }

record Shown : Type 0 where
  tight_passes : ((on panel_e).answer tight).refusal ≡ 0
  tight_status : ((on panel_e).answer tight).status ≡ 2
  tight_mark : ((on panel_e).answer tight).discarded ≡ 1
  long_passes : ((on panel_e).answer long).refusal ≡ 0
  long_status : ((on panel_e).answer long).status ≡ 2
  roomy_passes : ((on panel_e).answer roomy).refusal ≡ 0

shown : Shown
unfolding answers_to panel_e Ieee.of_bits
shown = record { tight_passes = refl; tight_status = refl; tight_mark = refl; long_passes = refl; long_status = refl; roomy_passes = refl }

longer : OnlyAdds panel_e tight long scores (reply_e tight) (reply_e long)
unfolding answers_to
longer = larger_only_adds panel_e tight long scores rooms rooms shown.tight_passes shown.long_passes more_work

-- with max_optima the same nothing changes, and the mark stays
pub as_it_was_E : AsItWas panel_e tight long scores (reply_e tight) (reply_e long)
unfolding answers_to
as_it_was_E = longer.settled (inr shown.tight_status) (inl refl)

pub marked_E : (reply_e long).discarded ≡ 1
unfolding answers_to
marked_E = longer.marked refl shown.tight_mark

-- with more room for ties it stays exhausted, with the same counters
roomier : OnlyAdds panel_e long roomy scores (reply_e long) (reply_e roomy)
unfolding answers_to
roomier = larger_only_adds panel_e long roomy scores rooms rooms shown.long_passes shown.roomy_passes more_room

pub exhausted_still_E : Exhausted (reply_e roomy)
unfolding answers_to
exhausted_still_E = roomier.exhausted (inr shown.long_status)

pub counters_E : SameCounters (reply_e long) (reply_e roomy)
unfolding answers_to
counters_E = roomier.counters (inr shown.long_status)

-- ---- two calls: whatever the exported search replies and leaves under P9's budget, and then under the default one

module _ (q r : SearchReply) (after later : Rooms) (eq : q ≡ reply_e narrow) (er : r ≡ reply_e default)
    (ea : after ≡ search_rooms panel_e narrow scores rooms) (el : later ≡ search_rooms panel_e default scores rooms) where
  pub raised_E : Raised narrow default q r
  raised_E = record { first = ap (λ (a : SearchReply). a.refusal) eq ∙ narrow_E; second = ap (λ (a : SearchReply). a.refusal) er ∙ searched_E; budgets = no_smaller_E }

  pub added_E : Added panel_e narrow default scores after later q r
  added_E = raised_only_adds panel_e narrow default scores rooms rooms after later q r eq er ea el raised_E
