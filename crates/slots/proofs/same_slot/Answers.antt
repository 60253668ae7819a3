use Rattle.std.proofs.Common.{◌*◌}
use Rattle.slots.specs.Inner.{slot_at}
use Rattle.slots.proofs.Words.{compared}
use Rattle.slots.proofs.same_slot.Goals as goal

pub returns : goal.returns
unfolding slot_at
returns c = compared c.args.kept.now (c.args.a * c.args.v) (c.args.b * c.args.v) c.args.v c.eq.ensures
