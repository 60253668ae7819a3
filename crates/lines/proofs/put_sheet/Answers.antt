use Rattle.lines.proofs.Laws.{sheet_put}
use Rattle.lines.proofs.put_sheet.Goals as goal

pub returns : goal.returns
returns c = search sheet_put
