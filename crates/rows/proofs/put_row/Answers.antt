use Rattle.rows.proofs.Laws.{row_put}
use Rattle.rows.proofs.put_row.Goals as goal

pub returns : goal.returns
returns c = search row_put
