-- The assignment check: refusals 21 to 31 with their places and their order, and what it writes (01, "Refusal numbers", "Legal assignments").
use Rattle.std.specs.Prelude.{ℕ, suc, Bool, true, false, not, ◌&&◌, List, [], ◌∷◌, ◌++◌, leb, ltb, eqb, length, drop}
use Rattle.ground.specs.Lists.{pick, all}
use Rattle.storage.specs.declared.Port.{Port}
use Rattle.image.specs.Panel.{Panel, panel_of, lane_at, paths_at}
use Rattle.evaluate.specs.declared.Segment.{Segment}
use Rattle.evaluate.specs.declared.Refusal.{Refusal}
use Rattle.evaluate.specs.declared.AssignmentReply.{AssignmentReply}
use Rattle.evaluate.specs.Refusals.{no_refusal, unless, or_else, at}
use Rattle.graph.specs.Check.{panel_refusal}
use Rattle.evaluate.specs.Segments.{Route, Assignment, entry, exit, flat, sound_span, normalize, normal_form, apart}
use Rattle.graph.specs.Lookups.{ports_at}
use Rattle.storage.specs.Orders.{same_word}
use Rattle.evaluate.specs.Words.{Read, malformed, got, encode, decode}

-- Bounds: "an assignment to 65,536 words"
abbrev pub most_words : ℕ
most_words = 65536

-- ---- 25 to 30: one route

abbrev pub is_empty : Route → Bool
is_empty [] = true
is_empty (s ∷ r) = false

-- 27: it enters its target lane forward at 0
abbrev pub enters : ℕ → Route → Bool
enters target [] = false
enters target (s ∷ r) = eqb s.source target && eqb (entry s) 0 && not s.reverse

-- 27: and leaves it forward at the lane's end
unfoldable pub leaves : Panel → ℕ → Route → Bool
leaves p target [] = false
leaves p target (s ∷ []) = eqb s.source target && eqb (exit s) (lane_at p target).len && not s.reverse
leaves p target (s ∷ t ∷ r) = leaves p target (t ∷ r)

-- 28 no outgoing port, 29 no incoming port, 30 words differ
abbrev pub match_refusal : List Port → List Port → ℕ
match_refusal [] ins = 28
match_refusal (q ∷ qs) [] = 29
match_refusal (q ∷ qs) (m ∷ ms) = unless (same_word q.word m.word) 30 0

unfoldable pub joint_refusal : Panel → Segment → Segment → ℕ
joint_refusal p s t = match_refusal (ports_at p s.source (exit s) s.reverse) (ports_at p t.source (entry t) t.reverse)

-- "then pair by pair 28, 29, 30"
unfoldable pub joints_refusal : Panel → Route → ℕ
joints_refusal p [] = 0
joints_refusal p (s ∷ []) = 0
joints_refusal p (s ∷ t ∷ r) = or_else (joint_refusal p s t) (joints_refusal p (t ∷ r))

-- "27 on look at the normal form"
unfoldable pub normal_refusal : Panel → ℕ → Route → ℕ
normal_refusal p target n = unless (enters target n && leaves p target n) 27 (joints_refusal p n)

-- "25, 26, 27, then pair by pair"
unfoldable pub route_refusal : Panel → ℕ → Route → ℕ
route_refusal p target r = unless (not (is_empty r)) 25 (unless (all (sound_span p) r) 26 (normal_refusal p target (normalize r)))

-- ---- 21 to 31: the whole assignment

-- "25 to 30 run route by route", from route number i on
unfoldable pub routes_refusal : Panel → ℕ → List ℕ → List Route → Refusal
routes_refusal p i [] rs = no_refusal
routes_refusal p i (target ∷ targets) [] = no_refusal
routes_refusal p i (target ∷ targets) (r ∷ rs) = at (route_refusal p target r) i (routes_refusal p (suc i) targets rs)

-- "31 last": spans overlap
unfoldable pub overlap_refusal : Assignment → ℕ
overlap_refusal a = unless (apart (flat (normal_form a).routes)) 31 0

-- the later of two where the first is no refusal
abbrev pub and_after : Refusal → Refusal → Refusal
and_after r later = at r.number r.place later

-- 23, 24, then route by route, then 31
unfoldable pub assignment_refusal : Panel → Assignment → Refusal
assignment_refusal p a =
    at (unless (ltb a.family (length p.families)) 23 (unless (eqb (length a.routes) (length (paths_at p a.family))) 24 0)) 0
    (and_after (routes_refusal p 0 (paths_at p a.family) a.routes) (at (overlap_refusal a) 0 no_refusal))

abbrev pub read_refusal : Panel → Read Assignment → Refusal
read_refusal p malformed = record { number = 22; place = 0 }
read_refusal p (got a ws) = assignment_refusal p a

-- "the check's from 22 on": 22 is "assignment words malformed or over the bound"
unfoldable pub given_refusal : Panel → List ℕ → Refusal
given_refusal p ws = at (unless (leb (length ws) most_words) 22 0) 0 (read_refusal p (decode ws))

-- 21: "out shorter than the words given"
unfoldable pub words_refusal : Panel → List ℕ → ℕ → Refusal
words_refusal p ws room = at (unless (leb (length ws) room) 21 0) 0 (given_refusal p ws)

-- "every public call applies 1 to 8, then its others by number"
unfoldable pub check_refusal : List ℕ → List ℕ → ℕ → Refusal
check_refusal s ws room = at (panel_refusal s) 0 (words_refusal (panel_of s) ws room)

-- ---- the answer, and out afterwards

abbrev pub read_normal : Read Assignment → List ℕ
read_normal malformed = []
read_normal (got a ws) = encode (normal_form a)

-- the words of the normal form
unfoldable pub normal_words : List ℕ → List ℕ
normal_words ws = read_normal (decode ws)

-- what is written: "On acceptance out begins with the normal form"; on a refusal nothing
abbrev pub written_by : Refusal → List ℕ → List ℕ
written_by r ws = pick (eqb r.number 0) (normal_words ws) []

-- these words first; the rest stays
abbrev pub over : {A : Type 0} → List A → List A → List A
over ws room = ws ++ drop (length ws) room

-- the panel's bytes, the assignment's words, the words of room in out
unfoldable pub check_answer : List ℕ → List ℕ → ℕ → AssignmentReply
check_answer s ws room =
    record {
      refusal = (check_refusal s ws room).number;
      place = (check_refusal s ws room).place;
      words = length (written_by (check_refusal s ws room) ws);
    }

-- out at entry
unfoldable pub check_out : List ℕ → List ℕ → List ℕ → List ℕ
check_out s ws out = over (written_by (check_refusal s ws (length out)) ws) out
