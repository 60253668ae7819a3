use Rattle.graph.proofs.Laws.{framed_told, check_good, check_refused}
use Rattle.std.proofs.lemmas.Result.{err_from_is_err_and}
use Rattle.graph.proofs.check_panel.Goals as goal

pub check_lists-requires : goal.check_lists-requires
check_lists-requires c = framed_told _ _ c.in_ok-h.ensures

pub returns : goal.returns
returns c = check_good _ _ _ c.in_ok-h.ensures c.check_lists.ensures

pub returns-in_err-h : goal.returns-in_err-h
returns-in_err-h c = let p = err_from_is_err_and c.from_residual.result c.from_residual.ensures.1 in rw (p.1, p.2) (check_refused _ _ c.in_err-h.ensures)
