use Rattle.certificate.proofs.Calls.{judged_of}
use Rattle.certified.proofs.judge.Goals as goal

pub returns : goal.returns
returns c = judged_of _ _ _ _ _ c.panel_routes_check_assignment.ensures.value c.panel_routes_check_assignment.ensures.out_after
