use Rattle.std.proofs.Common.{◌+◌, eqb, get_or, rules}
use Rattle.ground.proofs.ListLaws.{distinct_start, distinct_again, distinct_fails, distinct_ends}
use Rattle.image.specs.Image.{paths_of}
use Rattle.image.proofs.Laws.{family_length}
use Rattle.families.specs.Families.{no_twice}
use Rattle.families.proofs.Laws.{any_from_range}
use Rattle.families.proofs.is_distinct.Goals as goal

pub loop-i-init : goal.loop-i-init
loop-i-init c = search distinct_start

pub returns-then-any : goal.returns-then-any
unfolding no_twice
returns-then-any c = distinct_fails 0 eqb _ _ _ _ c.loop-i.invariant c.loop-i-test.true (any_from_range 0 (eqb (get_or (paths_of c.args.h c.args.image.now c.args.f.number) c.loop-i.i 0)) (paths_of c.args.h c.args.image.now c.args.f.number) (c.loop-i.i + 1) c.args.f.count (search family_length) c.any.result c.any.ensures.ran (λ i b q k. search rules)) (search family_length) c.if-any.true

pub loop-i-preserved : goal.loop-i-preserved
loop-i-preserved c = distinct_again 0 eqb _ _ _ _ c.loop-i.invariant c.loop-i-test.true (any_from_range 0 (eqb (get_or (paths_of c.args.h c.args.image.now c.args.f.number) c.loop-i.i 0)) (paths_of c.args.h c.args.image.now c.args.f.number) (c.loop-i.i + 1) c.args.f.count (search family_length) c.any.result c.any.ensures.ran (λ i b q k. search rules)) (search family_length) c.if-any.false

pub returns : goal.returns
unfolding no_twice
returns c = search (distinct_ends, family_length)
