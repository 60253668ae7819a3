use Rattle.frames.proofs.Laws.{piece_is}
use Rattle.frames.proofs.piece_at.Goals as goal

pub returns : goal.returns
returns c = piece_is _ _
