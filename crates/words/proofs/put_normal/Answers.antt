use Rattle.words.proofs.Writing.{normal_put}
use Rattle.words.proofs.put_normal.Goals as goal

pub returns : goal.returns
returns c = search normal_put
