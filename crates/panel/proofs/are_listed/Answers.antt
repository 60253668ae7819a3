use Rattle.std.proofs.Common.{◌+◌, ◌*◌, drop, rules, tests}
use Rattle.std.proofs.iter.Serving.{serving}
use Rattle.storage.specs.Records.{no_port, port_of, record_size}
use Rattle.image.specs.Image.{hub}
use Rattle.image.proofs.Laws.{hub_length}
use Rattle.panel.specs.Refusals.{listed, sound8}
use Rattle.panel.proofs.Laws.{hub_named_at, listed_at}
use Rattle.panel.proofs.Ranges.{all_by_index}
use Rattle.panel.proofs.are_listed.Goals as goal

pub all-requires-clause-callable : goal.all-requires-clause-callable
all-requires-clause-callable c = grind (serving, hub_named_at)

pub returns : goal.returns
unfolding sound8
returns c = all_by_index no_port (listed c.args.h c.args.image.now) (hub c.args.h c.args.image.now) c.args.h.ports (search hub_length) c.all.result (λ i. listed c.args.h c.args.image.now (port_of c.args.h.k (drop (c.args.h.hub_at + i * record_size c.args.h.k) c.args.image.now))) (listed_at _ _) c.all.ensures.ran (λ i b q k. search (rules, tests))
