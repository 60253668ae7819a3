use Rattle.engine.proofs.Sweeping.{look_told, replied_told}
use Rattle.engine.proofs.list_in.Goals as goal

pub returns : goal.returns
returns c = search (replied_told, look_told)
