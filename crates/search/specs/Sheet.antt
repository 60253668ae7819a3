-- What the walk program prints: the sheet, or a refusal (01, "The program").
use Rattle.std.specs.Prelude.{ℕ, zero, suc, ◌+◌, ◌-◌, ◌/◌, ◌%◌, Bool, true, false, List, [], ◌∷◌, ◌++◌, ltb, eqb, length}
use Rattle.ground.specs.Lists.{pick}
use Rattle.image.specs.Panel.{Panel, paths_at}
use Rattle.evaluate.specs.declared.Refusal.{Refusal}
use Rattle.evaluate.specs.Segments.{Route, Assignment}
use Rattle.search.specs.declared.Tally.{Tally}
use Rattle.search.specs.declared.Status.{Status}
use Rattle.search.specs.declared.Status.TheVariants.{Certified, SupportIncomplete, WorkExhausted, EvaluationExhausted, FrontierExhausted}
use Rattle.search.specs.Keep.{Evaluated}
use Rattle.search.specs.Search.{Searched, status_after}

-- ---- foreign bases: "the incumbent's off its route's target lane"

abbrev pub foreign_in : ℕ → Route → ℕ
foreign_in target [] = 0
foreign_in target (s ∷ r) = pick (eqb s.source target) 0 (s.end - s.start) + foreign_in target r

-- of each target lane with its route
abbrev pub foreign_on : List ℕ → List Route → ℕ
foreign_on [] rs = 0
foreign_on (target ∷ targets) [] = 0
foreign_on (target ∷ targets) (r ∷ rs) = foreign_in target r + foreign_on targets rs

unfoldable pub foreign : Panel → Assignment → ℕ
foreign p a = foreign_on (paths_at p a.family) a.routes

-- ---- fixed texts, byte by byte

-- the five statuses
abbrev pub status_bytes : Status → List ℕ
-- domain-exhausted-optimum-and-correlated-support-certified
status_bytes Certified = 100 ∷ 111 ∷ 109 ∷ 97 ∷ 105 ∷ 110 ∷ 45 ∷ 101 ∷ 120 ∷ 104 ∷ 97 ∷ 117 ∷ 115 ∷ 116 ∷ 101 ∷ 100 ∷ 45 ∷ 111 ∷ 112 ∷ 116 ∷ 105 ∷ 109 ∷ 117 ∷ 109 ∷ 45 ∷ 97 ∷ 110 ∷ 100 ∷ 45 ∷ 99 ∷ 111 ∷ 114 ∷ 114 ∷ 101 ∷ 108 ∷ 97 ∷ 116 ∷ 101 ∷ 100 ∷ 45 ∷ 115 ∷ 117 ∷ 112 ∷ 112 ∷ 111 ∷ 114 ∷ 116 ∷ 45 ∷ 99 ∷ 101 ∷ 114 ∷ 116 ∷ 105 ∷ 102 ∷ 105 ∷ 101 ∷ 100 ∷ []
-- domain-exhausted-optimum-certified-support-incomplete
status_bytes SupportIncomplete = 100 ∷ 111 ∷ 109 ∷ 97 ∷ 105 ∷ 110 ∷ 45 ∷ 101 ∷ 120 ∷ 104 ∷ 97 ∷ 117 ∷ 115 ∷ 116 ∷ 101 ∷ 100 ∷ 45 ∷ 111 ∷ 112 ∷ 116 ∷ 105 ∷ 109 ∷ 117 ∷ 109 ∷ 45 ∷ 99 ∷ 101 ∷ 114 ∷ 116 ∷ 105 ∷ 102 ∷ 105 ∷ 101 ∷ 100 ∷ 45 ∷ 115 ∷ 117 ∷ 112 ∷ 112 ∷ 111 ∷ 114 ∷ 116 ∷ 45 ∷ 105 ∷ 110 ∷ 99 ∷ 111 ∷ 109 ∷ 112 ∷ 108 ∷ 101 ∷ 116 ∷ 101 ∷ []
-- work-budget-exhausted
status_bytes WorkExhausted = 119 ∷ 111 ∷ 114 ∷ 107 ∷ 45 ∷ 98 ∷ 117 ∷ 100 ∷ 103 ∷ 101 ∷ 116 ∷ 45 ∷ 101 ∷ 120 ∷ 104 ∷ 97 ∷ 117 ∷ 115 ∷ 116 ∷ 101 ∷ 100 ∷ []
-- evaluation-budget-exhausted
status_bytes EvaluationExhausted = 101 ∷ 118 ∷ 97 ∷ 108 ∷ 117 ∷ 97 ∷ 116 ∷ 105 ∷ 111 ∷ 110 ∷ 45 ∷ 98 ∷ 117 ∷ 100 ∷ 103 ∷ 101 ∷ 116 ∷ 45 ∷ 101 ∷ 120 ∷ 104 ∷ 97 ∷ 117 ∷ 115 ∷ 116 ∷ 101 ∷ 100 ∷ []
-- frontier-budget-exhausted
status_bytes FrontierExhausted = 102 ∷ 114 ∷ 111 ∷ 110 ∷ 116 ∷ 105 ∷ 101 ∷ 114 ∷ 45 ∷ 98 ∷ 117 ∷ 100 ∷ 103 ∷ 101 ∷ 116 ∷ 45 ∷ 101 ∷ 120 ∷ 104 ∷ 97 ∷ 117 ∷ 115 ∷ 116 ∷ 101 ∷ 100 ∷ []

-- the field names
-- status
abbrev pub status_text : List ℕ
status_text = 115 ∷ 116 ∷ 97 ∷ 116 ∷ 117 ∷ 115 ∷ []

-- work
abbrev pub work_text : List ℕ
work_text = 119 ∷ 111 ∷ 114 ∷ 107 ∷ []

-- evaluations
abbrev pub evaluations_text : List ℕ
evaluations_text = 101 ∷ 118 ∷ 97 ∷ 108 ∷ 117 ∷ 97 ∷ 116 ∷ 105 ∷ 111 ∷ 110 ∷ 115 ∷ []

-- natives
abbrev pub natives_text : List ℕ
natives_text = 110 ∷ 97 ∷ 116 ∷ 105 ∷ 118 ∷ 101 ∷ 115 ∷ []

-- donors
abbrev pub donors_text : List ℕ
donors_text = 100 ∷ 111 ∷ 110 ∷ 111 ∷ 114 ∷ 115 ∷ []

-- non-native
abbrev pub non_native_text : List ℕ
non_native_text = 110 ∷ 111 ∷ 110 ∷ 45 ∷ 110 ∷ 97 ∷ 116 ∷ 105 ∷ 118 ∷ 101 ∷ []

-- mixed
abbrev pub mixed_text : List ℕ
mixed_text = 109 ∷ 105 ∷ 120 ∷ 101 ∷ 100 ∷ []

-- mixed-identity
abbrev pub mixed_identity_text : List ℕ
mixed_identity_text = 109 ∷ 105 ∷ 120 ∷ 101 ∷ 100 ∷ 45 ∷ 105 ∷ 100 ∷ 101 ∷ 110 ∷ 116 ∷ 105 ∷ 116 ∷ 121 ∷ []

-- switches
abbrev pub switches_text : List ℕ
switches_text = 115 ∷ 119 ∷ 105 ∷ 116 ∷ 99 ∷ 104 ∷ 101 ∷ 115 ∷ []

-- families
abbrev pub families_text : List ℕ
families_text = 102 ∷ 97 ∷ 109 ∷ 105 ∷ 108 ∷ 105 ∷ 101 ∷ 115 ∷ []

-- optima
abbrev pub optima_text : List ℕ
optima_text = 111 ∷ 112 ∷ 116 ∷ 105 ∷ 109 ∷ 97 ∷ []

-- foreign
abbrev pub foreign_text : List ℕ
foreign_text = 102 ∷ 111 ∷ 114 ∷ 101 ∷ 105 ∷ 103 ∷ 110 ∷ []

-- route
abbrev pub route_text : List ℕ
route_text = 114 ∷ 111 ∷ 117 ∷ 116 ∷ 101 ∷ []

-- refused
abbrev pub refused_text : List ℕ
refused_text = 114 ∷ 101 ∷ 102 ∷ 117 ∷ 115 ∷ 101 ∷ 100 ∷ []

-- ---- numbers and lines

-- a number in decimal, of at most n digits
unfoldable pub digits : ℕ → ℕ → List ℕ
digits zero x = []
digits (suc n) x = pick (ltb x 10) ((48 + x) ∷ []) (digits n (x / 10) ++ ((48 + x % 10) ∷ []))

-- a number below 2^64 has at most 20 digits
abbrev pub decimal : ℕ → List ℕ
decimal x = digits 20 x

-- words with a space between, and a line feed
abbrev pub line : List (List ℕ) → List ℕ
line [] = 10 ∷ []
line (w ∷ []) = w ++ (10 ∷ [])
line (w ∷ v ∷ l) = w ++ (32 ∷ line (v ∷ l))

abbrev pub field : List ℕ → ℕ → List ℕ
field name x = line (name ∷ decimal x ∷ [])

-- ---- the sheet

-- "+ forward, - reverse"
abbrev pub turn_text : Bool → List ℕ
turn_text false = 43 ∷ []
turn_text true = 45 ∷ []

-- "slot, lane, start, end, orientation"
unfoldable pub route_lines : ℕ → Route → List ℕ
route_lines slot [] = []
route_lines slot (s ∷ r) = line (route_text ∷ decimal slot ∷ decimal s.source ∷ decimal s.start ∷ decimal s.end ∷ turn_text s.reverse ∷ []) ++ route_lines slot r

unfoldable pub routes_lines : ℕ → List Route → List ℕ
routes_lines slot [] = []
routes_lines slot (r ∷ rs) = route_lines slot r ++ routes_lines (suc slot) rs

-- "foreign bases and its segments"; "With F = 0 foreign is 0 and no route line follows."
abbrev pub incumbent_lines : Panel → List Evaluated → List ℕ
incumbent_lines p [] = field foreign_text 0
incumbent_lines p (e ∷ l) = field foreign_text (foreign p e.assignment) ++ routes_lines 0 e.assignment.routes

-- "the counters in the order above"
abbrev pub tally_lines : Tally → List ℕ
tally_lines t =
    field work_text t.work ++ (field evaluations_text t.evaluations ++ (field natives_text t.natives ++ (field donors_text t.donors
    ++ (field non_native_text t.non_native ++ (field mixed_text t.mixed ++ (field mixed_identity_text t.mixed_identity
    ++ (field switches_text t.switches ++ field families_text t.families)))))))

-- the status, the counters, "tied optima kept", and the incumbent
unfoldable pub sheet : Panel → Searched → List ℕ
sheet p r =
    line (status_text ∷ status_bytes (status_after r) ∷ [])
    ++ (tally_lines r.state.tally ++ (field optima_text (length r.state.kept.tied) ++ incumbent_lines p r.state.kept.best))

-- "A refusal prints `refused N PLACE`."
unfoldable pub refusal_line : Refusal → List ℕ
refusal_line r = line (refused_text ∷ decimal r.number ∷ decimal r.place ∷ [])
