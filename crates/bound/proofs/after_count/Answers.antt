use mathlib.Core.Path.{sym, subst}
use lib.Dec.{T}
use Rattle.bound.proofs.Laws.{casts, after_over, after_under}
use Rattle.bound.proofs.after_count.Goals as goal

pub int_to_float-whole : goal.int_to_float-whole
int_to_float-whole c = casts c.args.count c.requires.count_bound

pub returns-then-whole-background : goal.returns-then-whole-background
returns-then-whole-background c = after_over _ _ _ _ _ _ (subst T (sym c.well_formed.0.1) tt) c.requires.background_value c.if-whole-background.true c.next_up-upper.ensures c.term_of.ensures c.next_down.ensures

pub returns-else-whole-background : goal.returns-else-whole-background
returns-else-whole-background c = after_under _ _ _ (subst T (sym c.well_formed.0.1) tt) c.requires.background_value c.if-whole-background.false
