use Rattle.std.proofs.Common.{◌*◌}
use Rattle.slots.specs.Inner.{put_slot, slot_at}
use Rattle.slots.proofs.Words.{copied}
use Rattle.slots.proofs.copy_slot.Goals as goal

pub returns : goal.returns
unfolding put_slot slot_at
returns c = copied c.args.kept.now (c.args.from * c.args.v) (c.args.to * c.args.v) c.args.v c.requires.0 c.copy_within.ensures.after
