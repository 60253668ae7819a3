use Rattle.std.proofs.Common.{refl, ◌∙◌}
use Rattle.texts.proofs.LineLaws.{line_same}
use Rattle.bed_spread.proofs.Spans.{spreading_start, spreading_again, spreading_ends}
use Rattle.bed_spread.proofs.is_spread.Goals as goal

pub loop-l-init : goal.loop-l-init
loop-l-init c =
    let e = c.into_iter-l-iterator.ensures.into_iter_gives in
    let o = c.of-l-items.ensures in
    (rw (e, o.2) (spreading_start c.requires refl refl), rw e o.0, rw e o.1)

pub loop-l-preserved : goal.loop-l-preserved
loop-l-preserved c =
    let i = c.loop-l.invariant in
    let s = c.in-Some.ensures.steps in
    (rw s.2.2 (spreading_again i.0 _ (line_same i.1 i.2 s.2.1) _ c.widen.ensures c.if-not-widen.false), s.0 ∙ i.1, s.1 ∙ i.2)

pub returns : goal.returns
returns c = let i = c.loop-l.invariant in λ _. spreading_ends i.0 (rw (← i.2) c.in-None.ensures.steps.2)
