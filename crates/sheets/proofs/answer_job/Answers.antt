use borrow.Author.Rules.{rules}
use Rattle.sheets.proofs.Short.{printed_count, printed_over}
use Rattle.sheets.proofs.answer_job.Goals as goal

pub returns : goal.returns
returns c = record { out_after = search (rules, printed_over); value = search (rules, printed_count) }
