use Rattle.rows.proofs.Laws.{row_other}
use Rattle.rows.proofs.row_of.Goals as goal

pub returns-else-cut_into-eq6 : goal.returns-else-cut_into-eq6
returns-else-cut_into-eq6 c = search row_other
