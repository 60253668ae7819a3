use Rattle.image.proofs.Laws.{entry_room, entry_is}
use Rattle.image.proofs.lane_entry.Goals as goal

pub entry_at-requires : goal.entry_at-requires
entry_at-requires c = search entry_room

pub returns : goal.returns
returns c = search entry_is
