use Rattle.lines.proofs.Laws.{refusal_put}
use Rattle.lines.proofs.put_refusal.Goals as goal

pub returns : goal.returns
returns c = search refusal_put
