use Rattle.bed_overlap.proofs.Standing.{route_parsed, route_short, route_told}
use Rattle.bed_overlap.proofs.is_route_apart.Goals as goal

pub are_apart-requires : goal.are_apart-requires
are_apart-requires c = (search route_parsed, search route_short)

pub returns : goal.returns
returns c = search route_told
