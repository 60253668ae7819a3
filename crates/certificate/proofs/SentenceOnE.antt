-- For the reader: the sentence used. On panel E its premises are met, with 01's scores 5, 5, 4 and with 0.0, -0.0, 4.0, and it tells something of both.
use Prim.Native.Nat.{ℕ}
use mathlib.Core.Path.{◌≡◌, refl, sym, ap, subst}
use mathlib.Core.Logic.{inl}
use mathlib.Core.Bool.{false, true≢false}
use mathlib.Core.List.{List, [], ◌∷◌, Memᴰ}
use lib.Dec.{eqb}
use lib.ListN.{length, get_or, replicate}
use lib.Ieee as Ieee
use lib.Ieee.{Float}
use Rattle.ground.specs.Lists.{pick, each, split, sum, all, count, numbers_from}
use Rattle.storage.specs.Bytes.{little, number}
use Rattle.storage.specs.Records.{port_of}
use Rattle.storage.specs.Orders.{word_order, bucket_of, word_below, word_up_to}
use Rattle.image.specs.Header.{header_of}
use Rattle.image.specs.Image.{entry_of, entries, counts, path_counts, paths, lane_ports, hub, families}
use Rattle.image.specs.Panel.{zip_lanes, panel_by, panel_of}
use Rattle.graph.specs.PanelE.{panel_e}
use Rattle.evaluate.specs.Segments.{Assignment, flat}
use Rattle.search.specs.declared.Status.TheVariants.{Certified}
use Rattle.search.specs.Walk.{enter, terminal_task, member_task, port_unit, hub_unit, unit_of}
use Rattle.search.specs.Run.{Unbudgeted, Suffices, units, run, seeds, seeded, after_seeding, walk_from, walk}
use Rattle.search.specs.Counters.{status_number}
use Rattle.search.specs.Keep.{Evaluated, evaluated}
use Rattle.doubles.proofs.Order.{sign}
use Rattle.search.specs.Rooms.{most_paths, slot_width, list_rooms_refusal}
use Rattle.search.specs.Answers.{ListRooms, search_answer, search_rooms, list_refusal, list_reply_of, list_answer, list_rooms}
use Rattle.search.proofs.OnE.{unbudgeted_E}
use Rattle.certificate.specs.Examples.{double, five, four, minus_zero, scores, zeros, rooms, panel_e0, answers_to}
use Rattle.certificate.specs.Terms.{Agreed, handed_over, evaluations, Complete}
use Rattle.certificate.specs.Sentence.{ScoredBy, Tied, Found, Certificate}
use Rattle.certificate.specs.Calls.{Listed}
use Rattle.certificate.proofs.OnE.{native_e, default, mosaic_e, admitted_E, suffices_E, legal_E, searched_E, certified_E}
use Rattle.certificate.proofs.Unrefused.{unrefused, none_refuses}
use Rattle.certificate.proofs.Sentence.{sentence}
use Rattle.certificate.proofs.Calls.{listing_of}

-- a scoring function: so much where there is no switch, else so much
abbrev by_pieces : ℕ → ℕ → Assignment → Float
by_pieces whole mosaic a = pick (eqb (length (flat a.routes)) 1) (double whole) (double mosaic)

-- ---- 5, 5, 4

abbrev pub f : Assignment → Float
f a = by_pieces five four a

scored_E : ScoredBy f (handed_over panel_e default) scores
unfolding little number each split sum port_of header_of entry_of entries counts path_counts paths lane_ports hub families zip_lanes panel_by panel_of panel_e all count numbers_from word_order bucket_of word_below word_up_to enter terminal_task member_task port_unit hub_unit unit_of units run seeds seeded after_seeding walk_from walk Ieee.of_bits Ieee.eq
scored_E = (refl, (refl, (refl, tt)))

pub certificate_E : Certificate panel_e default scores (search_rooms panel_e default scores rooms) (search_answer panel_e default scores rooms)
certificate_E = sentence panel_e default scores rooms searched_E

pub found_E : Found f panel_e default (search_rooms panel_e default scores rooms) (search_answer panel_e default scores rooms)
found_E = certificate_E.found ((certificate_E.when unbudgeted_E).1 suffices_E) admitted_E.families f scored_E

pub complete_E : Complete (λ a. a) (handed_over panel_e default) (Tied f (panel_of panel_e) default.tie_width found_E.incumbent) found_E.tied
complete_E = found_E.complete certified_E

-- ---- 0.0, -0.0, 4.0, where g says -0.0: demand 3's premise of identical scores fails, this one does not

abbrev pub g : Assignment → Float
g a = by_pieces minus_zero four a

scored_zeros : ScoredBy g (handed_over panel_e default) zeros
unfolding little number each split sum port_of header_of entry_of entries counts path_counts paths lane_ports hub families zip_lanes panel_by panel_of panel_e all count numbers_from word_order bucket_of word_below word_up_to enter terminal_task member_task port_unit hub_unit unit_of units run seeds seeded after_seeding walk_from walk Ieee.of_bits Ieee.eq
scored_zeros = (refl, (refl, (refl, tt)))

evaluated_zeros : evaluations panel_e default zeros
    ≡ record { assignment = native_e; score = double 0 } ∷ record { assignment = native_e; score = double minus_zero } ∷ record { assignment = mosaic_e; score = double four } ∷ []
unfolding little number each split sum port_of header_of entry_of entries counts path_counts paths lane_ports hub families zip_lanes panel_by panel_of panel_e all count numbers_from word_order bucket_of word_below word_up_to enter terminal_task member_task port_unit hub_unit unit_of units run seeds seeded after_seeding walk_from walk evaluated Ieee.of_bits
evaluated_zeros = refl

pub not_agreed : Agreed panel_e default zeros → ⊥
unfolding Ieee.of_bits
not_agreed agreed =
    true≢false (sym (ap sign (agreed native_e (double 0) (double minus_zero) (scores_E (Memᴰ.head refl)) (scores_E (Memᴰ.tail (Memᴰ.head refl))))))
  where
    scores_E : {e : Evaluated} → Memᴰ e (record { assignment = native_e; score = double 0 } ∷ record { assignment = native_e; score = double minus_zero } ∷ record { assignment = mosaic_e; score = double four } ∷ [])
        → Memᴰ e (evaluations panel_e default zeros)
    scores_E {e} m = subst (λ (l : List Evaluated). Memᴰ e l) (sym evaluated_zeros) m

-- refusal and status
shown_zeros : ((answers_to panel_e zeros).answer default).refusal ∷ ((answers_to panel_e zeros).answer default).status ∷ [] ≡ 0 ∷ 1 ∷ []
unfolding answers_to panel_e Ieee.of_bits
shown_zeros = refl

passed_zeros : (search_answer panel_e default zeros rooms).refusal ≡ 0
unfolding answers_to
passed_zeros = ap (λ (l : List ℕ). get_or l 0 0) shown_zeros

certified_zeros : (search_answer panel_e default zeros rooms).status ≡ status_number Certified
unfolding answers_to
certified_zeros = ap (λ (l : List ℕ). get_or l 1 0) shown_zeros

pub certificate_zeros : Certificate panel_e default zeros (search_rooms panel_e default zeros rooms) (search_answer panel_e default zeros rooms)
certificate_zeros = sentence panel_e default zeros rooms passed_zeros

pub found_zeros : Found g panel_e default (search_rooms panel_e default zeros rooms) (search_answer panel_e default zeros rooms)
found_zeros = certificate_zeros.found (inl certified_zeros) admitted_E.families g scored_zeros

pub complete_zeros : Complete (λ a. a) (handed_over panel_e default) (Tied g (panel_of panel_e) default.tie_width found_zeros.incumbent) found_zeros.tied
complete_zeros = found_zeros.complete certified_zeros

-- the mosaic is legal, so g's score of the incumbent is not above it
pub not_above : Ieee.lt (g mosaic_e) (g found_zeros.incumbent) ≡ false
not_above = found_zeros.best.least mosaic_e legal_E

-- ---- without a family: the search and the listing end at once and say so, and nothing has to be scored

record ShownNone : Type 0 where
  passed : ((answers_to panel_e0 []).answer default).refusal ≡ 0
  status : ((answers_to panel_e0 []).answer default).status ≡ 1

shown_none : ShownNone
unfolding answers_to panel_e panel_e0 Ieee.of_bits
shown_none = record { passed = refl; status = refl }

pub certificate_none : Certificate panel_e0 default [] (search_rooms panel_e0 default [] rooms) (search_answer panel_e0 default [] rooms)
unfolding answers_to
certificate_none = sentence panel_e0 default [] rooms shown_none.passed

-- the budgets suffice, though there is nothing to walk
pub suffices_none : (u : Unbudgeted (panel_of panel_e0)) → Suffices (panel_of panel_e0) default u
unfolding answers_to
suffices_none u = (certificate_none.when u).0 (inl shown_none.status)

abbrev lent : ListRooms
lent = record { frames = replicate 330 0; slot = replicate 130 0; out = [] }

listed_none : (list_answer panel_e0 default 0 lent).refusal ≡ 0
unfolding little number each split sum port_of header_of entry_of entries counts path_counts paths lane_ports hub families zip_lanes panel_by panel_of panel_e panel_e0 most_paths slot_width list_rooms_refusal list_refusal list_reply_of list_answer answers_to
listed_none = let given = none_refuses panel_e0 default [] rooms (unrefused panel_e0 default [] rooms shown_none.passed) in rw (given.panel, given.budget)

pub listing_none : Listed panel_e0 default 0 [] (list_rooms panel_e0 default 0 lent).out (list_answer panel_e0 default 0 lent)
listing_none = listing_of panel_e0 default 0 lent (list_rooms panel_e0 default 0 lent) (list_answer panel_e0 default 0 lent) refl refl listed_none
