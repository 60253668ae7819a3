use Rattle.std.proofs.Common.{rules, tests}
use Rattle.ground.specs.Lists.{numbers_from}
use Rattle.panel.specs.Refusals.{own_row, own_rows}
use Rattle.panel.proofs.Laws.{lanes_numbers, own_at}
use Rattle.panel.proofs.Ranges.{all_by_index}
use Rattle.panel.proofs.are_own.Goals as goal

pub returns : goal.returns
unfolding own_rows
returns c = all_by_index 0 (own_row c.args.h c.args.image.now) (numbers_from 0 c.args.h.lanes) c.args.h.lanes (search lanes_numbers) c.all.result (own_row c.args.h c.args.image.now) (own_at _ _) c.all.ensures.ran (λ i b q k. search (rules, tests))
