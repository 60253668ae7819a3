-- The documented numbers of what is refused of an assignment, and their places: what the code's answers say.
use Rattle.std.specs.Prelude.{ℕ, Result, Ok, Err}
use Rattle.evaluate.specs.declared.Refusal.{Refusal}
use Rattle.evaluate.specs.declared.AssignmentReply.{AssignmentReply}
use Rattle.evaluate.specs.Refusals.{no_refusal}
use Rattle.routes.specs.Refusals.{number_of as route_number}
use Rattle.assignment.specs.declared.AssignmentRefusal.{AssignmentRefusal}
use Rattle.assignment.specs.declared.AssignmentRefusal.TheVariants.{Room, Words, Family, Count, Route, Overlap}

abbrev pub number_of : AssignmentRefusal → ℕ
number_of Room = 21
number_of Words = 22
number_of Family = 23
number_of Count = 24
number_of (Route r) = route_number r.why
number_of Overlap = 31

-- of a route its number, of the others 0
abbrev pub place_of : AssignmentRefusal → ℕ
place_of Room = 0
place_of Words = 0
place_of Family = 0
place_of Count = 0
place_of (Route r) = r.route
place_of Overlap = 0

abbrev pub refusal_of : {T : Type 0} → Result T AssignmentRefusal → Refusal
refusal_of (Ok t) = no_refusal
refusal_of (Err e) = record { number = number_of e; place = place_of e }

-- the reply that goes with it: how many words were written, or the refusal
abbrev pub reply_of : Result ℕ AssignmentRefusal → AssignmentReply
reply_of (Ok n) = record { refusal = 0; place = 0; words = n }
reply_of (Err e) = record { refusal = number_of e; place = place_of e; words = 0 }
