use Rattle.rows.proofs.Laws.{tab_put}
use Rattle.rows.proofs.put_tabbed.Goals as goal

pub returns : goal.returns
returns c = search tab_put
