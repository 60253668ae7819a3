use Rattle.bed_overlap.proofs.Standing.{first_head, first_fits, first_told}
use borrow.Author.Rules.{rules}
use Rattle.bed_overlap.proofs.are_first_apart.Goals as goal

pub is_route_apart-requires : goal.is_route_apart-requires
is_route_apart-requires c = (search first_head, search first_fits, search rules)

pub returns : goal.returns
returns c = search first_told
