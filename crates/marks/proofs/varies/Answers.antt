use Rattle.std.proofs.Common.{rules, tests, eqb, not}
use Rattle.words.proofs.Loops.{any_later}
use Rattle.marks.proofs.Laws.{varies_none, varies_told}
use Rattle.marks.proofs.varies.Goals as goal

pub returns-then-left-eq0 : goal.returns-then-left-eq0
returns-then-left-eq0 g c = varies_none _ c.args.words.now c.args.at c.args.left c.if-left-eq0.true

pub returns : goal.returns
returns g c = λ f told.
    varies_told _ c.args.words.now c.args.at c.args.left c.value-first.result c.segment_at.result c.any.result c.if-left-eq0.false c.segment_at.ensures c.value-first.ensures f told
    (any_later (λ t. not (eqb (f t) c.value-first.result)) c.args.words.now c.args.at c.args.left c.any.result c.any.ensures.ran (λ i b q k. search (rules, tests, told)))
