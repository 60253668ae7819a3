use Rattle.std.proofs.Common.{◌∙◌, refl, rules, tests, arith}
use Rattle.std.proofs.lemmas.Iterator.{YieldsList-from_range}
use Rattle.std.proofs.lemmas.Iterator.Search.{all_from_yields_List}
use Rattle.frames.specs.Inner.{piece_at, apart_from}
use Rattle.frames.proofs.Laws.{clear_of}
use Rattle.frames.proofs.is_clear.Goals as goal

pub returns : goal.returns
returns c =
    all_from_yields_List (λ i. apart_from c.args.s (piece_at c.args.frames.now i)) _ _ c.all.result c.all.ensures.ran (YieldsList-from_range 0 c.args.n c.args.n refl (omega arith)) (λ i b q k. search (rules, tests))
    ∙ clear_of c.args.frames.now c.args.s c.args.n
