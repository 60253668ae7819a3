use borrow.Author.Rules.{rules}
use Rattle.sheets.proofs.Laws.{kept_held, refusal_put, sheet_put}
use Rattle.sheets.proofs.answer_search.Goals as goal

pub put_sheet-requires : goal.put_sheet-requires
put_sheet-requires c = (search rules, search kept_held)

pub returns-then-r-gt0 : goal.returns-then-r-gt0
returns-then-r-gt0 c = search refusal_put

pub returns-else-r-gt0 : goal.returns-else-r-gt0
returns-else-r-gt0 c = search sheet_put
