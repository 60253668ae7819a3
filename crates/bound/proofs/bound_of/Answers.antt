use Rattle.std.proofs.Common.{sym, ◌∙◌}
use Rattle.bound.proofs.Laws.{counts_on, in-range, from_on, from_stop, from_end}
use Rattle.bound.proofs.bound_of.Goals as goal

pub after_count-bound-requires-clause-count_bound : goal.after_count-bound-requires-clause-count_bound
after_count-bound-requires-clause-count_bound c = in-range c.args.counts.now c.loop-count.count-index c.loop-count-test.true c.loop-count.invariant.within

pub returns-then-not-is_finite : goal.returns-then-not-is_finite
returns-then-not-is_finite c = from_stop c.args.counts.now c.loop-count.count-index c.loop-count-test.true _ _ _ _ c.after_count-bound.ensures c.is_finite.ensures c.if-not-is_finite.true ∙ c.loop-count.invariant.same

pub loop-count-preserved : goal.loop-count-preserved
loop-count-preserved c =
    let l = c.args.counts.now in
    let i = c.loop-count.count-index in
    let h = c.loop-count-test.true in record {
      same = sym (from_on l i h _ _ _ _ c.after_count-bound.ensures c.is_finite.ensures c.if-not-is_finite.false) ∙ c.loop-count.invariant.same;
      within = sym (counts_on l i h (in-range l i h c.loop-count.invariant.within)) ∙ c.loop-count.invariant.within;
    }

pub returns : goal.returns
returns c = from_end c.args.background c.loop-count.bound c.args.counts.now c.loop-count.count-index c.loop-count-test.false ∙ c.loop-count.invariant.same
