use Rattle.std.proofs.Common.{arith}
use Rattle.image.proofs.Laws.{family_length}
use Rattle.lines.proofs.Laws.{adding_ends, adding_fits, adding_low, adding_next, adding_route, adding_start}
use Rattle.lines.proofs.foreign_on.Goals as goal

pub loop-slot-init : goal.loop-slot-init
loop-slot-init c = search adding_start

pub count_at-left-requires : goal.count_at-left-requires
count_at-left-requires c = adding_route c.loop-slot.invariant (omega arith)

pub foreign_in-sum-requires : goal.foreign_in-sum-requires
foreign_in-sum-requires c =
    (c.count_at-left.ensures.inside, c.requires.1.short, adding_low c.loop-slot.invariant c.count_at-left.result (omega arith) c.count_at-left.ensures.count)

pub overflow_add-sum : goal.overflow_add-sum
overflow_add-sum c =
    let paths = family_length c.args.image.now c.args.h c.args.f c.requires.0 in
    adding_fits c.loop-slot.invariant c.count_at-left.result (omega arith) c.count_at-left.ensures.count c.family_path-target.result c.foreign_in-sum.result (omega arith) c.family_path-target.ensures c.foreign_in-sum.ensures c.requires.1.short

pub loop-slot-preserved : goal.loop-slot-preserved
loop-slot-preserved c =
    let paths = family_length c.args.image.now c.args.h c.args.f c.requires.0 in
    adding_next c.loop-slot.invariant c.count_at-left.result (omega arith) c.count_at-left.ensures.count c.family_path-target.result c.foreign_in-sum.result (omega arith) c.family_path-target.ensures c.foreign_in-sum.ensures

pub returns : goal.returns
returns c =
    let paths = family_length c.args.image.now c.args.h c.args.f c.requires.0 in
    adding_ends c.loop-slot.invariant (omega arith)
