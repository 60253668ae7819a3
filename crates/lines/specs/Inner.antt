-- The sheet line by line, from the search's answer and the incumbent's words; nothing here is part of a public promise.
use Rattle.std.specs.Prelude.{ℕ, zero, suc, ◌+◌, ◌*◌, ◌≤◌, ◌≡◌, List, [], ◌∷◌, ◌++◌, eqb, length, drop, get_or}
use Rattle.ground.specs.Lists.{pick}
use Rattle.image.specs.Panel.{Panel}
use Rattle.evaluate.specs.declared.Segment.{Segment}
use Rattle.evaluate.specs.Properties.{Each}
use Rattle.evaluate.specs.Segments.{Assignment}
use Rattle.words.specs.Inner.{routes_of}
use Rattle.search.specs.declared.SearchReply.{SearchReply}
use Rattle.search.specs.declared.Tally.{Tally}
use Rattle.search.specs.declared.Status.{Status}
use Rattle.search.specs.declared.Status.TheVariants.{Certified, SupportIncomplete, WorkExhausted, EvaluationExhausted, FrontierExhausted}
use Rattle.search.specs.Sheet.{status_text, status_bytes, optima_text, foreign_text, route_text, decimal, line, field, turn_text, tally_lines, routes_lines, foreign}

-- ---- the answer's fields

-- the status of its number
abbrev pub status_from : ℕ → Status
status_from n = pick (eqb n 1) Certified (pick (eqb n 2) SupportIncomplete (pick (eqb n 3) WorkExhausted (pick (eqb n 4) EvaluationExhausted FrontierExhausted)))

-- the nine counters
abbrev pub tally_in : SearchReply → Tally
tally_in r =
    record {
      work = r.work;
      evaluations = r.evaluations;
      natives = r.natives;
      donors = r.donors;
      non_native = r.non_native;
      mixed = r.mixed;
      mixed_identity = r.mixed_identity;
      switches = r.switches;
      families = r.families;
    }

-- ---- the incumbent's segments

-- a route line's beginning
abbrev pub slot_text : ℕ → List ℕ
slot_text slot = route_text ++ (32 ∷ (decimal slot ++ (32 ∷ [])))

abbrev pub segment_line : ℕ → Segment → List ℕ
segment_line slot s = line (route_text ∷ decimal slot ∷ decimal s.source ∷ decimal s.start ∷ decimal s.end ∷ turn_text s.reverse ∷ [])

-- n routes stand at the beginning of the words, whatever follows
unfoldable pub Begin : ℕ → List ℕ → Type 0
Begin zero ws = Unit
Begin (suc n) ws = (1 + 4 * get_or ws 0 0 ≤ length ws) × Begin n (drop (1 + 4 * get_or ws 0 0) ws)

-- so many routes stand from a place on
pub record Readable (ws : List ℕ) (left at : ℕ) : Type 0 where
  pub inside : at ≤ length ws
  pub all : Begin left (drop at ws)

-- ---- foreign bases

-- it ends within the bound of a lane's length
abbrev pub Low : Segment → Type 0
Low s = s.end ≤ 4294967295

-- a sum over n segments
pub record Few (sum n r : ℕ) : Type 0 where
  pub is : r ≡ sum
  pub small : r ≤ 4294967295 * n

-- so many routes stand from the third word on, none past the bound
pub record Incumbent (ws : List ℕ) (routes : ℕ) : Type 0 where
  pub readable : Readable ws routes 2
  pub low : Each (Each Low) (routes_of routes (drop 2 ws))
  pub short : length ws ≤ 65536

-- the words begin with an assignment
pub record Held (ws : List ℕ) : Type 0 where
  pub long : 2 ≤ length ws
  pub routes : Incumbent ws (get_or ws 1 0)

-- ---- the sheet

abbrev pub incumbent_text : Panel → Assignment → List ℕ
incumbent_text p a = field foreign_text (foreign p a) ++ routes_lines 0 a.routes

unfoldable pub sheet_of : Panel → SearchReply → Assignment → List ℕ
sheet_of p r a =
    line (status_text ∷ status_bytes (status_from r.status) ∷ []) ++ (tally_lines (tally_in r) ++ (field optima_text r.optima ++ incumbent_text p a))
