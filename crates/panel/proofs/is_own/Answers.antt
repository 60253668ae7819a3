use Rattle.std.proofs.Common.{rules, tests}
use Rattle.ground.proofs.Ranges.{all_of_range}
use Rattle.storage.specs.Records.{no_port}
use Rattle.image.specs.Image.{ports_of}
use Rattle.image.proofs.Laws.{row_length}
use Rattle.panel.specs.Refusals.{from, own_row}
use Rattle.panel.proofs.is_own.Goals as goal

pub returns : goal.returns
unfolding from own_row
returns c = all_of_range no_port (from c.args.l.number) (ports_of c.args.h c.args.image.now c.args.l.number) c.args.l.count (search row_length) c.all.result c.all.ensures.ran (λ i b q k. search (rules, tests))
