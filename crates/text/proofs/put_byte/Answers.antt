use lib.ListN.{length-set}
use Rattle.text.proofs.Laws.{put_in, put_out}
use Rattle.text.proofs.put_byte.Goals as goal

pub shape_of-out : goal.shape_of-out
shape_of-out c = search length-set

pub returns-then-at-out : goal.returns-then-at-out
returns-then-at-out c = search put_in

pub returns-else-at-out : goal.returns-else-at-out
returns-else-at-out c = search put_out
