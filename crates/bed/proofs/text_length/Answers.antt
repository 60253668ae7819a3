use Rattle.std.proofs.Common.{rules}
use Rattle.bed.proofs.Writing.{summing_route, summing_on, summing_inside, summing_next, summing_ends}
use Rattle.bed.proofs.text_length.Goals as goal

pub count_at-left-requires : goal.count_at-left-requires
count_at-left-requires c = search summing_route

pub route_length-sum-requires : goal.route_length-sum-requires
route_length-sum-requires c = (search summing_inside, search rules, search summing_on)

pub loop-slot-preserved : goal.loop-slot-preserved
loop-slot-preserved c = search summing_next

pub returns : goal.returns
returns c = search summing_ends
