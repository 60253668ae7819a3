use Rattle.std.proofs.Common.{rules, tests}
use Rattle.ground.proofs.Ranges.{all_of_range}
use Rattle.std.proofs.Common.{[]}
use Rattle.ground.specs.Lists.{split}
use Rattle.image.specs.Image.{counts, lane_ports, ports_of}
use Rattle.image.proofs.Laws.{rows_length}
use Rattle.panel.specs.Refusals.{lane_rising, lanes_rising}
use Rattle.panel.proofs.Laws.{number_told}
use Rattle.panel.proofs.are_lanes_rising.Goals as goal

pub returns : goal.returns
unfolding ports_of lanes_rising
returns c = all_of_range [] lane_rising (split (counts c.args.h c.args.image.now) (lane_ports c.args.h c.args.image.now)) c.args.h.lanes (search rows_length) c.all.result c.all.ensures.ran (λ i b q k. search (rules, tests, number_told))
