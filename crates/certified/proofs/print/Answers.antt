use Rattle.certificate.proofs.Sheet.{sheet-of}
use Rattle.certified.proofs.print.Goals as goal

pub returns : goal.returns
returns c = sheet-of _ _ _ _ c.answer_job.ensures.out_after c.answer_job.ensures.value
