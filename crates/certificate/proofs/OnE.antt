-- For the reader: demand 3 used. On panel E with 01's scores and budgets its premises are met, and each of its statements tells something.
use Prim.Native.Nat.{ℕ}
use native.Mathlib.Omega.{arith}
use mathlib.Core.Path.{◌≡◌, refl, sym, ap, ◌∙◌, subst}
use mathlib.Core.List.{List, [], ◌∷◌}
use lib.ListN.{length, get_or, replicate}
use lib.Ieee as Ieee
use lib.Ieee.{Float}
use Rattle.ground.specs.Lists.{each, split, sum, all, any, count, keep, after, rising, numbers_from, distinct}
use Rattle.storage.specs.Bytes.{little, number}
use Rattle.storage.specs.Records.{port_of, stands_at}
use Rattle.storage.specs.Orders.{word_order, port_order, bucket_of, word_below, word_up_to}
use Rattle.image.specs.Header.{header_of, sound2, sound3, opened}
use Rattle.image.specs.Image.{entry_of, entries, counts, path_counts, paths, lane_ports, hub, ports_of, start_of, families, paths_of}
use Rattle.image.specs.Panel.{zip_lanes, panel_by, panel_of}
use Rattle.families.specs.Families.{count_ok, names, no_twice, sound5a, sound5b, sound5}
use Rattle.panel.specs.Refusals.{length_ok, sound4, letter, sound_place, sound_record, sound_records, hub_rising, lane_rising, lanes_rising, listed, sound8, from, own_row, own_rows, sound6, sound7}
use Rattle.storage.specs.Orders.{place_of, place_lt, record_lt, same_port}
use Rattle.graph.specs.Check.{ports_checked, later, checked}
use Rattle.graph.specs.PanelE.{panel_e}
use Rattle.graph.specs.Check.{panel_refusal}
use Rattle.evaluate.specs.Segments.{joining, apart}
use Rattle.graph.specs.Lookups.{ports_at}
use Rattle.evaluate.specs.Words.{read_segments, read_routes, read_assignment, decode}
use Rattle.evaluate.specs.Check.{leaves, joint_refusal, joints_refusal, normal_refusal, route_refusal, routes_refusal, overlap_refusal, assignment_refusal, given_refusal, words_refusal, check_refusal, check_answer}
use Rattle.evaluate.specs.Legal.{Legal}
use Rattle.search.specs.declared.SearchBudget.{SearchBudget}
use Rattle.search.specs.declared.Status.TheVariants.{Certified}
use Rattle.search.specs.Budget.{width_ok, budget_ok, budget_in_bounds, budget_refusal}
use Rattle.search.specs.Walk.{enter, terminal_task, member_task, port_unit, hub_unit, unit_of}
use Rattle.search.specs.Run.{Unbudgeted, Suffices, deepest, units, run, seeds, seeded, after_seeding, walk_from, walk}
use Rattle.search.specs.Counters.{status_number}
use Rattle.search.specs.Keep.{Evaluated, evaluated}
use Rattle.search.specs.Rooms.{most_paths, slot_width, rooms_refusal, list_rooms_refusal}
use Rattle.search.specs.Answers.{ListRooms, search_answer, list_refusal, list_reply_of, list_answer}
use native.Mathlib.Bridge.{le_by_compare, IsLe}
use mathlib.Core.Logic.{◌⊎◌, inl, inr, ⊎_elim}
use mathlib.Core.List.Memᴰ
use mathlib.Core.List.{Memᴰ, head-eq_of_cons-eq}
use Rattle.evaluate.specs.Segments.{Assignment, flat}
use Rattle.search.proofs.OnE.{unbudgeted_E}
use Rattle.certificate.specs.Examples.{double, five, four, budget, scores, rooms, fwd, mosaic_words, answers_to, on, table}
use Rattle.certificate.specs.Terms.{Within, Admitted, Exhausted, Scores, handed_over, evaluations, kept_by, NativesThenLegal, Least}
use Rattle.certificate.specs.Demand3.{TiedAre, SameEvaluations}
use Rattle.certificate.proofs.Certificate.{demand3}

abbrev pub native_e : Assignment
native_e = record { family = 0; routes = (fwd 0 0 10 ∷ []) ∷ [] }

abbrev pub mosaic_e : Assignment
mosaic_e = record { family = 0; routes = (fwd 0 0 4 ∷ fwd 1 6 8 ∷ fwd 0 7 10 ∷ []) ∷ [] }

abbrev pub default : SearchBudget
default = budget 100000 1000 32 8 0

-- what is evaluated
evaluated_E : evaluations panel_e default scores
    ≡ record { assignment = native_e; score = double five } ∷ record { assignment = native_e; score = double five } ∷ record { assignment = mosaic_e; score = double four } ∷ []
unfolding little number each split sum port_of header_of entry_of entries counts path_counts paths lane_ports hub families zip_lanes panel_by panel_of panel_e all count numbers_from word_order bucket_of word_below word_up_to enter terminal_task member_task port_unit hub_unit unit_of units run seeds seeded after_seeding walk_from walk evaluated Ieee.of_bits
evaluated_E = refl

two : native_e ≡ mosaic_e → ⊥
two e = let z : ◌≡◌ {A = ℕ} 1 3 = ap (λ (a : Assignment). length (flat a.routes)) e in omega arith

-- one of the three
one_of : (a : Assignment) (x : Float) → Scores panel_e default scores a x → ((a ≡ native_e) × (x ≡ double five)) ⊎ ((a ≡ mosaic_e) × (x ≡ double four))
one_of a x m = go (subst (λ (l : List Evaluated). Memᴰ (record { assignment = a; score = x }) l) evaluated_E m)
  where
    is : (c : Assignment) (y : Float) → ◌≡◌ {A = Evaluated} (record { assignment = a; score = x }) (record { assignment = c; score = y }) → (a ≡ c) × (x ≡ y)
    is c y e = (ap (λ (d : Evaluated). d.assignment) e, ap (λ (d : Evaluated). d.score) e)

    e₁ : Evaluated
    e₁ = record { assignment = native_e; score = double five }

    e₃ : Evaluated
    e₃ = record { assignment = mosaic_e; score = double four }

    at : Evaluated
    at = record { assignment = a; score = x }

    go : Memᴰ at (e₁ ∷ e₁ ∷ e₃ ∷ []) → ((a ≡ native_e) × (x ≡ double five)) ⊎ ((a ≡ mosaic_e) × (x ≡ double four))
    go m = ⊎_elim (λ e. inl (is native_e (double five) e))
        (λ n. ⊎_elim (λ e. inl (is native_e (double five) e)) (λ k. ⊎_elim (λ e. inr (is mosaic_e (double four) e)) (λ z. absurd (Memᴰ.not-nil z)) (Memᴰ.cases_cons k)) (Memᴰ.cases_cons n))
        (Memᴰ.cases_cons m)

agreed_E : (a : Assignment) (x y : Float) → Scores panel_e default scores a x → Scores panel_e default scores a y → x ≡ y
agreed_E a x y m n = go (one_of a x m) (one_of a y n)
  where
    go : ((a ≡ native_e) × (x ≡ double five)) ⊎ ((a ≡ mosaic_e) × (x ≡ double four)) → ((a ≡ native_e) × (y ≡ double five)) ⊎ ((a ≡ mosaic_e) × (y ≡ double four)) → x ≡ y
    go (inl p) (inl q) = p.1 ∙ sym q.1
    go (inl p) (inr q) = absurd (two (sym p.0 ∙ q.0))
    go (inr p) (inl q) = absurd (two (sym q.0 ∙ p.0))
    go (inr p) (inr q) = p.1 ∙ sym q.1

pub admitted_E : Admitted panel_e default scores rooms
unfolding little number each split sum port_of header_of entry_of entries counts path_counts paths lane_ports hub families zip_lanes panel_by panel_of panel_e all count numbers_from word_order bucket_of word_below word_up_to enter terminal_task member_task port_unit hub_unit unit_of units run seeds seeded after_seeding walk_from walk any after rising distinct port_order sound2 sound3 opened ports_of start_of paths_of count_ok names no_twice sound5a sound5b sound5 length_ok sound4 letter sound_place sound_record sound_records place_of place_lt record_lt hub_rising lane_rising lanes_rising same_port listed sound8 from own_row own_rows sound6 sound7 ports_checked later checked panel_refusal width_ok budget_ok budget_in_bounds budget_refusal most_paths slot_width rooms_refusal Ieee.lt Ieee.le Ieee.of_bits IsLe
admitted_E = record { panel = refl; budget = refl; roomy = refl; families = le_by_compare 1 1 tt; scored = (refl, (refl, (refl, tt))); agreed = agreed_E }

pub suffices_E : Suffices (panel_of panel_e) default unbudgeted_E
unfolding unbudgeted_E deepest IsLe
suffices_E = record { work = le_by_compare 21 100000 tt; evaluations = le_by_compare 4 1000 tt; frontier = le_by_compare 3 32 tt }

-- ---- each statement of demand 3, used

abbrev best : Evaluated
best = record { assignment = mosaic_e; score = double four }

-- the budgets suffice, so the search reports exhaustion
pub exhausted_E : Exhausted (search_answer panel_e default scores rooms)
exhausted_E = (demand3.exhausted panel_e default scores rooms admitted_E unbudgeted_E).1 suffices_E

-- and where it reports exhaustion, they do
pub suffices_again : Suffices (panel_of panel_e) default unbudgeted_E
suffices_again = (demand3.exhausted panel_e default scores rooms admitted_E unbudgeted_E).0 exhausted_E

pub ends_E : Unbudgeted (panel_of panel_e)
ends_E = demand3.ends panel_e admitted_E.panel

pub whole_E : NativesThenLegal (panel_of panel_e) unbudgeted_E.final.out
whole_E = demand3.whole panel_e admitted_E.panel unbudgeted_E

pub evaluated_all_E : NativesThenLegal (panel_of panel_e) (handed_over panel_e default)
evaluated_all_E = demand3.evaluated panel_e default scores rooms admitted_E exhausted_E

-- the mosaic's words pass the check, so it is legal
within_E : Within mosaic_words 15 mosaic_e
unfolding read_segments read_routes read_assignment decode IsLe
within_E = record { said = refl; few = le_by_compare 15 65536 tt; fits = le_by_compare 15 15 tt }

passed_E : (check_answer panel_e mosaic_words 15).refusal ≡ 0
unfolding little number each split sum port_of header_of entry_of entries counts path_counts paths lane_ports hub families zip_lanes panel_by panel_of panel_e all any keep word_order ports_at stands_at joining apart read_segments read_routes read_assignment decode leaves joint_refusal joints_refusal normal_refusal route_refusal routes_refusal overlap_refusal assignment_refusal given_refusal words_refusal check_refusal check_answer
passed_E = rw admitted_E.panel

pub legal_E : Legal (panel_of panel_e) mosaic_e
unfolding joining
legal_E = ((demand3.check panel_e mosaic_words 15 mosaic_e admitted_E.panel within_E).0 passed_E).1

pub scored_E : (x : Float) × Scores panel_e default scores mosaic_e x
scored_E = demand3.scored panel_e default scores rooms admitted_E exhausted_E mosaic_e legal_E

-- the incumbent is the mosaic
shown_E : ((on panel_e).kept default).best ≡ best ∷ []
unfolding answers_to panel_e Ieee.of_bits
shown_E = refl

best_E : (kept_by panel_e default scores).best ≡ best ∷ []
unfolding answers_to
best_E = shown_E

pub least_E : Least panel_e default scores best
least_E =
    let r = demand3.least panel_e default scores rooms admitted_E exhausted_E in
    subst (Least panel_e default scores) (head-eq_of_cons-eq (sym r.1 ∙ best_E)) r.2

-- and the tied list is complete
pub certified_E : (search_answer panel_e default scores rooms).status ≡ status_number Certified
unfolding answers_to
certified_E = ap (λ (l : List ℕ). get_or l 1 0) table.p0

pub tied_E : TiedAre panel_e default scores best
tied_E = demand3.tied panel_e default scores rooms admitted_E certified_E best best_E

-- the listing, with room for two
abbrev lent : ListRooms
lent = record { frames = replicate 330 0; slot = replicate 138 0; out = replicate 14 0 }

pub searched_E : (search_answer panel_e default scores rooms).refusal ≡ 0
unfolding answers_to
searched_E = ap (λ (l : List ℕ). get_or l 0 0) table.p0

listed_E : (list_answer panel_e default 0 lent).refusal ≡ 0
unfolding little number each split sum port_of header_of entry_of entries counts path_counts paths lane_ports hub families zip_lanes panel_by panel_of panel_e most_paths slot_width list_rooms_refusal list_refusal list_reply_of list_answer
listed_E = rw (admitted_E.panel, admitted_E.budget)

pub listing_E : SameEvaluations panel_e default scores rooms 0 lent
listing_E = demand3.listing panel_e default scores rooms 0 lent searched_E listed_E
