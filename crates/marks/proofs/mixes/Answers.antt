use Rattle.marks.proofs.Laws.{mixing_route, mixing_again, mixing_found, mixing_ends}
use Rattle.marks.proofs.mixes.Goals as goal

pub count_at-left-requires : goal.count_at-left-requires
count_at-left-requires g c = search mixing_route

pub returns-then-varies : goal.returns-then-varies
returns-then-varies g c = search mixing_found

pub loop-preserved : goal.loop-preserved
loop-preserved g c = search mixing_again

pub returns : goal.returns
returns g c = search mixing_ends
