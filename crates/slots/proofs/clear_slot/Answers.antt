use Rattle.std.proofs.Common.{◌*◌, ◌+◌, refl}
use Rattle.slots.specs.Inner.{put_slot}
use Rattle.slots.proofs.Words.{filled}
use Rattle.slots.proofs.clear_slot.Goals as goal

pub returns : goal.returns
unfolding put_slot
returns c = filled c.args.kept.now 0 (c.args.slot * c.args.v) (c.args.slot * c.args.v + c.args.v) c.args.v refl c.requires (c.fill.ensures.after (λ y e. e))
