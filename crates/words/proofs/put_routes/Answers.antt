use Rattle.words.proofs.Writing.{encoding_more}
use Rattle.words.proofs.put_routes.Goals as goal

pub loop-preserved : goal.loop-preserved
loop-preserved c = search encoding_more
