use borrow.Author.Rules.{rules}
use Rattle.writer.proofs.Laws.{native_lane, whole_told}
use Rattle.writer.proofs.put_path_whole.Goals as goal

pub lane_entry-e-requires : goal.lane_entry-e-requires
lane_entry-e-requires c = search (rules, native_lane)

pub returns : goal.returns
returns c = search whole_told
