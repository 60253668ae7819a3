use Rattle.std.proofs.Common.{rules, tests}
use Rattle.ground.proofs.Ranges.{all_of_range}
use Rattle.storage.specs.Records.{no_port}
use Rattle.image.specs.Image.{ports_of}
use Rattle.image.specs.Panel.{panel_of}
use Rattle.image.proofs.Laws.{row_length}
use Rattle.letters.specs.Letters.{word_fits}
use Rattle.letters.proofs.are_words_of.Goals as goal

pub returns : goal.returns
returns c = all_of_range no_port (word_fits (panel_of c.args.image.now) c.args.letters.now) (ports_of c.args.h c.args.image.now c.args.l.number) c.args.l.count (search row_length) c.all.result c.all.ensures.ran (λ i b q k. search (rules, tests))
