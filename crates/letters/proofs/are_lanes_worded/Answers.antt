use Rattle.std.proofs.Common.{rules, tests}
use Rattle.ground.specs.Lists.{all}
use Rattle.image.specs.Image.{ports_of}
use Rattle.image.specs.Panel.{panel_of, no_lane}
use Rattle.panel.proofs.Ranges.{all_by_index}
use Rattle.letters.specs.Letters.{word_fits, row_fits}
use Rattle.letters.proofs.Laws.{row_at, lanes_known, lanes_told}
use Rattle.letters.proofs.are_lanes_worded.Goals as goal

pub returns : goal.returns
returns c = lanes_told _ _ _ c.requires.0.lettered.accepted _ (all_by_index no_lane (row_fits (panel_of c.args.image.now) c.args.letters.now) (panel_of c.args.image.now).lanes c.args.h.lanes (search lanes_known) c.all.result (λ i. all (word_fits (panel_of c.args.image.now) c.args.letters.now) (ports_of c.args.h c.args.image.now i)) (row_at _ _ _ c.requires.0.lettered.accepted.counted.framed) c.all.ensures.ran (λ i b q k. search (rules, tests)))
