use Rattle.std.proofs.Common.{rules, tests}
use Rattle.storage.specs.Records.{no_port}
use Rattle.storage.specs.Orders.{place_lt}
use Rattle.image.specs.Image.{ports_of}
use Rattle.image.proofs.Laws.{row_length}
use Rattle.panel.specs.Refusals.{lane_rising}
use Rattle.panel.proofs.Ranges.{rising_of_range}
use Rattle.panel.proofs.is_lane_rising.Goals as goal

pub returns : goal.returns
unfolding lane_rising
returns c = rising_of_range no_port place_lt (ports_of c.args.h c.args.image.now c.args.l.number) c.args.l.count (search row_length) c.saturating_sub.result (search rules) c.all.result c.all.ensures.ran (λ i b q k. search (rules, tests))
