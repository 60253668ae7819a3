use Rattle.std.proofs.Common.{rules}
use Rattle.bed.proofs.Writing.{listing_route, listing_on, listing_next, listing_ends}
use Rattle.bed.proofs.put_routes.Goals as goal

pub count_at-left-requires : goal.count_at-left-requires
count_at-left-requires c = search listing_route

pub put_route-to-requires : goal.put_route-to-requires
put_route-to-requires c = (search rules, search listing_on)

pub loop-slot-preserved : goal.loop-slot-preserved
loop-slot-preserved c = search listing_next

pub returns : goal.returns
returns c = search listing_ends
