use Rattle.graph.proofs.Laws.{accepted_told}
use Rattle.graph.proofs.LookupLaws.{port_refused, port_good}
use Rattle.std.proofs.Common.{refl}
use Rattle.std.proofs.lemmas.Result.{err_from_is_err_and}
use Rattle.graph.proofs.port_at_cut.Goals as goal

pub panel_port_at_cut-requires : goal.panel_port_at_cut-requires
panel_port_at_cut-requires c = accepted_told _ _ c.in_ok-h.ensures

pub returns : goal.returns
returns c = port_good _ _ _ _ _ _ c.in_ok-h.ensures c.panel_port_at_cut.ensures

pub returns-in_err-h : goal.returns-in_err-h
returns-in_err-h c = let p = err_from_is_err_and c.from_residual.result c.from_residual.ensures.1 in rw (p.1, p.2) (port_refused _ _ _ _ _ _ c.in_err-h.ensures refl)
