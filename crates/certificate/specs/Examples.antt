-- The proved examples P1 to P11 (01, "Proved examples"), in one table, on panel E's own bytes, with budgets and scores as doubles.
use Rattle.std.specs.Prelude.{ℕ, ◌+◌, ◌*◌, ◌≡◌, refl, Bool, true, false, ◌&&◌, List, [], ◌∷◌, ◌++◌, map, eqb, length, take, drop, set, replicate, Float}
use Rattle.std.proofs.Common.{arith, ap, ◌∙◌, ne_eqb}
use Rattle.std.specs.Float.Ieee as Ieee
use Rattle.std.specs.Float.{binary64}
use Rattle.ground.specs.Lists.{pick, each, split, sum, all, any, count, keep, after, rising, numbers_from, distinct}
use Rattle.storage.specs.Bytes.{little, number}
use Rattle.storage.specs.Records.{port_of, padded, cut_as, stands_at}
use Rattle.storage.specs.declared.Port.{Port}
use Rattle.storage.specs.Orders.{word_order, port_order, bucket_of, word_below, word_up_to}
use Rattle.image.specs.Header.{header_of, sound2, sound3, opened}
use Rattle.image.specs.Image.{entry_of, entries, counts, path_counts, paths, lane_ports, hub, ports_of, start_of, families, paths_of}
use Rattle.image.specs.Panel.{Panel, lane_at, zip_lanes, panel_by, panel_of}
use Rattle.families.specs.Families.{count_ok, names, no_twice, sound5a, sound5b, sound5}
use Rattle.panel.specs.Refusals.{length_ok, sound4, letter, sound_place, sound_record, sound_records, hub_rising, lane_rising, lanes_rising, listed, sound8, from, own_row, own_rows, sound6, sound7}
use Rattle.storage.specs.Orders.{place_of, place_lt, record_lt, same_port}
use Rattle.graph.specs.Check.{ports_checked, later, checked}
use Rattle.evaluate.specs.declared.Segment.{Segment}
use Rattle.graph.specs.PanelE.{panel_e}
use Rattle.graph.specs.Check.{panel_refusal}
use Rattle.evaluate.specs.Segments.{Assignment, flat, joining, normalize, overlap}
use Rattle.storage.specs.Records.{same_turn}
use Rattle.graph.specs.Lookups.{ports_at, bucket_lo, bucket_hi}
use Rattle.evaluate.specs.Words.{encode}
use Rattle.search.specs.declared.SearchBudget.{SearchBudget}
use Rattle.search.specs.declared.SearchReply.{SearchReply}
use Rattle.search.specs.Budget.{width_ok, budget_ok, budget_in_bounds, budget_refusal}
use Rattle.search.specs.Walk.{enter, terminal_task, member_task, port_unit, hub_unit, unit_of}
use Rattle.search.specs.Run.{units, run, seeds, seeded, after_seeding, walk_from, walk}
use Rattle.search.specs.Counters.{most_switches, tally_of}
use Rattle.search.specs.Keep.{Kept, Evaluated, ties_to, lowered, added, keep_one, keep_all, same_list, evaluated, scores_refusal}
use Rattle.search.specs.Search.{walked, evaluation_refusal, kept_of, searched_as, search_from, search}
use Rattle.search.specs.Rooms.{stack_words, frames_left, most_paths, slot_width, kept_left, kept_scores_left, rooms_refusal, left_in}
use Rattle.search.specs.Answers.{Rooms, search_refusal, reply_of, search_answer, rooms_after, search_rooms}

-- ---- how the rows are written

-- a double by its bits: 5.0, 4.0 and 1.0 are these
abbrev pub double : ℕ → Float
double bits = Ieee.of_bits binary64 bits

abbrev pub five : ℕ
five = 0x4014000000000000

abbrev pub four : ℕ
four = 0x4010000000000000

abbrev pub one : ℕ
one = 0x3ff0000000000000

-- work, evaluations, frontier, optima, and the tie width's bits
abbrev pub budget : ℕ → ℕ → ℕ → ℕ → ℕ → SearchBudget
budget w e f o t = record { max_work = w; max_evaluations = e; max_frontier = f; max_optima = o; tie_width = double t }

abbrev pub scores : List Float
scores = map double (five ∷ five ∷ four ∷ [])

-- 0.0, -0.0, 4.0: the zeros are equal as doubles are
abbrev pub minus_zero : ℕ
minus_zero = 0x8000000000000000

abbrev pub zeros : List Float
zeros = map double (0 ∷ minus_zero ∷ four ∷ [])

-- the program's rooms: those for max_frontier 32, max_optima 16, P 8
abbrev pub rooms : Rooms
rooms = record { frames = replicate 330 0; kept = replicate 2484 0; scores = replicate 17 (double 0) }

-- a forward segment, and a reverse one
abbrev pub fwd : ℕ → ℕ → ℕ → Segment
fwd l a b = record { source = l; start = a; end = b; reverse = false }

abbrev pub rev : ℕ → ℕ → ℕ → Segment
rev l a b = record { source = l; start = a; end = b; reverse = true }

-- panel E with families of one path each, on these lanes
abbrev pub word : ℕ → List ℕ
word n = n ∷ replicate 7 0

abbrev with_families : List ℕ → List ℕ
with_families lanes =
    let n = length lanes in
    let e = set (set (set (set (set panel_e 16 n) 24 n) 56 (128 + 8 * n)) 64 (128 + 16 * n)) 72 (204 + 16 * n) in
    take 128 e ++ (flat (map (λ lane. word 1) lanes) ++ (flat (map word lanes) ++ drop 144 e))

-- with no family, with a second one, lane 1, and with a third, lane 0 again
unfoldable pub panel_e0 : List ℕ
panel_e0 = with_families []

unfoldable pub panel_e2 : List ℕ
panel_e2 = with_families (0 ∷ 1 ∷ [])

unfoldable pub panel_e3 : List ℕ
panel_e3 = with_families (0 ∷ 1 ∷ 0 ∷ [])

-- what a panel answers, with these scores
pub record Answers : Type 0 where
  pub bucket : List ℕ → List ℕ
  pub answer : SearchBudget → SearchReply
  pub left : SearchBudget → Rooms
  pub kept : SearchBudget → Kept Evaluated
  pub handed : SearchBudget → List Assignment

unfoldable pub answers_to : List ℕ → List Float → Answers
unfolding little number each split sum all any count keep after rising numbers_from distinct port_of word_order port_order header_of sound2 sound3 opened entry_of entries counts path_counts paths lane_ports hub ports_of start_of families paths_of zip_lanes panel_by panel_of count_ok names no_twice sound5a sound5b sound5 length_ok sound4 letter sound_place sound_record sound_records place_of place_lt record_lt hub_rising lane_rising lanes_rising same_port listed sound8 from own_row own_rows sound6 sound7 ports_checked later checked panel_e panel_refusal joining ports_at stands_at encode width_ok budget_ok budget_in_bounds budget_refusal enter terminal_task member_task port_unit hub_unit unit_of units run seeds seeded after_seeding walk_from walk most_switches tally_of ties_to lowered added keep_one keep_all same_list evaluated scores_refusal walked evaluation_refusal kept_of searched_as search_from search stack_words frames_left most_paths slot_width kept_left kept_scores_left rooms_refusal left_in search_refusal reply_of search_answer rooms_after search_rooms bucket_of word_below word_up_to Ieee.lt Ieee.le Ieee.sub Ieee.of_bits
answers_to s xs =
    record {
      bucket = λ w. bucket_lo (panel_of s) w ∷ bucket_hi (panel_of s) w ∷ [];
      answer = λ b. search_answer s b xs rooms;
      left = λ b. search_rooms s b xs rooms;
      kept = λ b. (search (panel_of s) b xs).state.kept;
      handed = λ b. (walk (panel_of s) b).walk.out;
    }

-- with 5, 5, 4
abbrev pub on : List ℕ → Answers
on s = answers_to s scores

-- the bucket of a word of two letters on panel E
abbrev pub bucket : ℕ → ℕ → List ℕ
bucket a b = (on panel_e).bucket (padded (a ∷ b ∷ []) 2)

-- a search: refusal, status, work, evaluations, donors, families done, frames left, pending
abbrev pub outcome : List ℕ → SearchBudget → List ℕ
outcome s b =
    let r = (on s).answer b in
    r.refusal ∷ r.status ∷ r.work ∷ r.evaluations ∷ r.donors ∷ r.families ∷ r.frames ∷ r.pending ∷ []

-- what it leaves as pending: the third frame's slot, source, cut, reverse
abbrev pub third : SearchBudget → List ℕ
third b = take 4 (drop 20 ((on panel_e).left b).frames)

-- the tied list as words, and the status
abbrev pub tied_of : SearchBudget → List (List ℕ)
tied_of b = map (λ e. encode e.assignment) ((on panel_e).kept b).tied

abbrev pub status_is : SearchBudget → ℕ
status_is b = ((on panel_e).answer b).status

abbrev pub native_words : List ℕ
native_words = 0 ∷ 1 ∷ 1 ∷ 0 ∷ 0 ∷ 10 ∷ 0 ∷ []

abbrev pub mosaic_words : List ℕ
mosaic_words = 0 ∷ 1 ∷ 3 ∷ 0 ∷ 0 ∷ 4 ∷ 0 ∷ 1 ∷ 6 ∷ 8 ∷ 0 ∷ 0 ∷ 7 ∷ 10 ∷ 0 ∷ []

-- a forward port of word length 5 has no cut below 2
no_cut : (r : Bool) (a : ℕ) → (eqb (a + pick r 3 2) 1 && same_turn r false) ≡ false
no_cut true a = rw (ne_eqb (a + 3) 1 (omega arith))
no_cut false a = rw (ne_eqb (a + 2) 1 (omega arith))

none_at : (l : List Port) → keep (stands_at 5 1 false) l ≡ []
unfolding keep stands_at
none_at [] = refl
none_at (q ∷ l) = rw (no_cut q.reverse q.anchor) (none_at l)

no-port : (p : Panel) (lane : ℕ) → p.k ≡ 5 → ports_at p lane 1 false ≡ []
unfolding ports_at
no-port p lane e = ap (λ (k : ℕ). keep (stands_at k 1 false) (lane_at p lane).ports) e ∙ none_at (lane_at p lane).ports

-- ---- the table

pub record Table : Type 0 where
  -- P1 k 5, anchor 7: cuts 9 and 10
  pub p1 : cut_as 5 false 7 ∷ cut_as 5 true 7 ∷ [] ≡ 9 ∷ 10 ∷ []
  -- P2 k 5, cut 1 forward: no port, on any lane of any panel
  pub p2 : (p : Panel) (lane : ℕ) → p.k ≡ 5 → ports_at p lane 1 false ≡ []
  -- P3 0-4, 4-8 fit; 0-5, 4-8 don't
  pub p3 : overlap (fwd 0 0 4) (fwd 0 4 8) ∷ overlap (fwd 0 0 5) (fwd 0 4 8) ∷ [] ≡ false ∷ true ∷ []
  -- P4 0-4+, 4-9+ becomes 0-9+; 4-9-, 0-4- becomes 0-9-
  pub p4 : normalize (fwd 0 0 4 ∷ fwd 0 4 9 ∷ []) ∷ normalize (rev 0 4 9 ∷ rev 0 0 4 ∷ []) ∷ [] ≡ (fwd 0 0 9 ∷ []) ∷ (rev 0 0 9 ∷ []) ∷ []
  -- P5 buckets AA 0,0; AC 0,2; AT 2,2; GG 2,4
  pub p5 : bucket 65 65 ∷ bucket 65 67 ∷ bucket 65 84 ∷ bucket 71 71 ∷ [] ≡ (0 ∷ 0 ∷ []) ∷ (0 ∷ 2 ∷ []) ∷ (2 ∷ 2 ∷ []) ∷ (2 ∷ 4 ∷ []) ∷ []
  -- the default budget, and 2^64 - 1 for work and evaluations
  pub p0 : outcome panel_e (budget 100000 1000 32 8 0) ≡ 0 ∷ 1 ∷ 21 ∷ 3 ∷ 6 ∷ 1 ∷ 0 ∷ 0 ∷ []
  pub p0_large : outcome panel_e (budget 0xffff_ffff_ffff_ffff 0xffff_ffff_ffff_ffff 32 8 0) ≡ 0 ∷ 1 ∷ 21 ∷ 3 ∷ 6 ∷ 1 ∷ 0 ∷ 0 ∷ []
  -- P6 max_work 21 exhausts, 20 stops on work with one frame
  pub p6 : outcome panel_e (budget 21 1000 32 8 0) ≡ 0 ∷ 1 ∷ 21 ∷ 3 ∷ 6 ∷ 1 ∷ 0 ∷ 0 ∷ []
  pub p6_short : outcome panel_e (budget 20 1000 32 8 0) ≡ 0 ∷ 3 ∷ 20 ∷ 3 ∷ 6 ∷ 0 ∷ 1 ∷ 0 ∷ []
  -- P7 max_evaluations 4 exhausts, 3 stops at work 9 with three frames
  pub p7 : outcome panel_e (budget 100000 4 32 8 0) ≡ 0 ∷ 1 ∷ 21 ∷ 3 ∷ 6 ∷ 1 ∷ 0 ∷ 0 ∷ []
  pub p7_short : outcome panel_e (budget 100000 3 32 8 0) ≡ 0 ∷ 4 ∷ 9 ∷ 3 ∷ 3 ∷ 0 ∷ 3 ∷ 0 ∷ []
  -- P8 both 9 and 3: work
  pub p8 : outcome panel_e (budget 9 3 32 8 0) ≡ 0 ∷ 3 ∷ 9 ∷ 3 ∷ 3 ∷ 0 ∷ 3 ∷ 0 ∷ []
  -- P9 max_frontier 2: stops at work 8, evaluations 2, donors 3, pending lane 0 cut 7
  pub p9 : outcome panel_e (budget 100000 1000 2 8 0) ≡ 0 ∷ 5 ∷ 8 ∷ 2 ∷ 3 ∷ 0 ∷ 2 ∷ 1 ∷ []
  pub p9_pending : third (budget 100000 1000 2 8 0) ≡ 0 ∷ 0 ∷ 7 ∷ 0 ∷ []
  -- P10 tie width 1: tied list native, mosaic; with max_optima 1 native only, support incomplete
  pub p10 : tied_of (budget 100000 1000 32 8 one) ≡ native_words ∷ mosaic_words ∷ []
  pub p10_one : tied_of (budget 100000 1000 32 1 one) ≡ native_words ∷ []
  pub p10_status : status_is (budget 100000 1000 32 8 one) ∷ status_is (budget 100000 1000 32 1 one) ∷ [] ≡ 1 ∷ 2 ∷ []
  -- P11 E with a second family, lane 1, max_work and max_evaluations 1: stops on evaluation, no frame
  pub p11 : outcome panel_e2 (budget 1 1 32 8 0) ≡ 0 ∷ 4 ∷ 1 ∷ 1 ∷ 0 ∷ 0 ∷ 0 ∷ 0 ∷ []

pub table : Table
unfolding answers_to keep ports_at stands_at joining encode panel_e panel_e2 Ieee.of_bits
table =
    record {
      p1 = refl;
      p2 = no-port;
      p3 = refl;
      p4 = refl;
      p5 = refl;
      p0 = refl;
      p0_large = refl;
      p6 = refl;
      p6_short = refl;
      p7 = refl;
      p7_short = refl;
      p8 = refl;
      p9 = refl;
      p9_pending = refl;
      p10 = refl;
      p10_one = refl;
      p10_status = refl;
      p11 = refl;
    }
