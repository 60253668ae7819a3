use Rattle.std.proofs.Common.{rules, tests}
use Rattle.ground.proofs.Ranges.{all_of_range}
use Rattle.image.specs.Image.{entries, no_entry}
use Rattle.image.proofs.Laws.{entries_length}
use Rattle.panel.specs.Refusals.{length_ok}
use Rattle.panel.proofs.are_lengths.Goals as goal

pub returns : goal.returns
unfolding length_ok
returns c = all_of_range no_entry length_ok (entries c.args.h c.args.image.now) c.args.h.lanes (search entries_length) c.all.result c.all.ensures.ran (λ i b q k. search (rules, tests))
