-- The number of a refusal is not 0.
use Rattle.std.proofs.Common.{◌<◌, arith}
use Rattle.routes.proofs.Laws.{some_number}
use Rattle.assignment.specs.declared.AssignmentRefusal.{AssignmentRefusal}
use Rattle.assignment.specs.declared.AssignmentRefusal.TheVariants.{Room, Words, Family, Count, Route, Overlap}
use Rattle.assignment.specs.Refusals.{number_of}

pub number_some : (e : AssignmentRefusal) → 0 < number_of e
number_some Room = omega arith
number_some Words = omega arith
number_some Family = omega arith
number_some Count = omega arith
number_some (Route r) = some_number r.why
number_some Overlap = omega arith
