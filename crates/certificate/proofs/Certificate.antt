-- For the reader: demand 3, all of it.
use Rattle.certificate.specs.Demand3.{Demand3}
use Rattle.certificate.proofs.Check.{check_is_legality}
use Rattle.certificate.proofs.Walk.{walk_ends, whole_walk, exhausted_when_enough, all_evaluated_once}
use Rattle.certificate.proofs.Scores.{all_scored, incumbent_is_least, tied_are_all}
use Rattle.certificate.proofs.Listing.{lists_the_same}

-- THE CERTIFICATE
pub demand3 : Demand3
demand3 =
    record {
      check = check_is_legality;
      ends = walk_ends;
      whole = whole_walk;
      exhausted = exhausted_when_enough;
      evaluated = all_evaluated_once;
      scored = all_scored;
      least = incumbent_is_least;
      tied = tied_are_all;
      listing = lists_the_same;
    }
