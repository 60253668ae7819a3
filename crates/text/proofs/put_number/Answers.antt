use Rattle.text.proofs.Laws.{number_put}
use Rattle.text.proofs.put_number.Goals as goal

pub returns : goal.returns
returns c = number_put c.put_digits-from.ensures.said c.put_text.ensures
