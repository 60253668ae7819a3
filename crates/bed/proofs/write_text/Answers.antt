use Rattle.bed.proofs.Calls.{text_put}
use Rattle.bed.proofs.write_text.Goals as goal

pub returns : goal.returns
returns c = search text_put
