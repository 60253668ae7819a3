use Rattle.std.proofs.Common.{refl}
use Rattle.bed.proofs.Calls.{chained_none, table_stops, table_passes}
use Rattle.bed.proofs.read_panel.Goals as goal

pub read-requires : goal.read-requires
read-requires c = (c.requires.counted.framed.few_lanes, refl, refl, chained_none _)

pub returns-in-Some : goal.returns-in-Some
returns-in-Some c = let t = c.in-Some.ensures in table_passes _ _ _ c.requires _ _ _ t.0 (rw t.1 at c.read_named.ensures)

pub returns-in-None : goal.returns-in-None
returns-in-None c = table_stops _ _ _ c.requires _ _ _ c.in-None.ensures
