use Rattle.std.proofs.Common.{rules, tests}
use Rattle.storage.specs.Records.{no_port}
use Rattle.storage.specs.Orders.{record_lt}
use Rattle.image.specs.Image.{hub}
use Rattle.image.proofs.Laws.{hub_length}
use Rattle.panel.specs.Refusals.{hub_rising}
use Rattle.panel.proofs.Ranges.{rising_of_range}
use Rattle.panel.proofs.is_hub_rising.Goals as goal

pub returns : goal.returns
unfolding hub_rising
returns c = rising_of_range no_port record_lt (hub c.args.h c.args.image.now) c.args.h.ports (search hub_length) c.saturating_sub.result (search rules) c.all.result c.all.ensures.ran (λ i b q k. search (rules, tests))
