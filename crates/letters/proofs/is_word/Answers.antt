use Rattle.std.proofs.Common.{◌+◌, ◌∙◌, eqb, get_or, rules, tests}
use Rattle.storage.specs.Bytes.{part}
use Rattle.panel.proofs.Ranges.{all_asked}
use Rattle.letters.specs.Letters.{oriented}
use Rattle.letters.proofs.Laws.{word_same}
use Rattle.letters.proofs.is_word.Goals as goal

pub returns : goal.returns
returns c =
    all_asked c.args.k c.all.result (λ i. eqb (get_or c.args.image.now (c.args.at + i) 0) (get_or (oriented c.args.reverse (part c.args.letters.now c.args.first c.args.k)) i 0)) c.all.ensures.ran (λ i b q k. search (rules, tests))
    ∙ word_same c.args.image.now c.args.at c.args.k c.args.letters.now c.args.first c.args.reverse (search rules) (search rules)
