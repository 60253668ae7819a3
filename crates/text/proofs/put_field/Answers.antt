use Rattle.text.proofs.Laws.{field_put}
use Rattle.text.proofs.put_field.Goals as goal

pub returns : goal.returns
returns c = search field_put
