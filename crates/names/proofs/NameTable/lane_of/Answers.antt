use Rattle.std.proofs.Common.{◌∙◌}
use Rattle.names.proofs.Laws.{found_lane, good_table}
use Rattle.names.proofs.NameTable.lane_of.Goals as goal

pub returns : goal.returns
returns c = let t = c.args.self.now in c.unwrap_or.ensures ∙ found_lane _ _ (good_table t.names.now t.lanes t.read.good) c.find.ensures
