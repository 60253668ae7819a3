use Rattle.image.proofs.Laws.{hub_stands, lane_ports_stand}
use borrow.Author.Rules.{rules}
use Rattle.panel.proofs.are_sound.Goals as goal

pub are_records-requires : goal.are_records-requires
are_records-requires c = search (rules, lane_ports_stand)

pub are_records-requires-then-are_records : goal.are_records-requires-then-are_records
are_records-requires-then-are_records c = search (rules, hub_stands)
