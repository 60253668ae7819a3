use Rattle.lines.proofs.Laws.{listing_ends, listing_next, listing_route, listing_start}
use Rattle.lines.proofs.put_routes.Goals as goal

pub loop-slot-init : goal.loop-slot-init
loop-slot-init c = search listing_start

pub count_at-left-requires : goal.count_at-left-requires
count_at-left-requires c = search listing_route

pub loop-slot-preserved : goal.loop-slot-preserved
loop-slot-preserved c = search listing_next

pub returns : goal.returns
returns c = search listing_ends
