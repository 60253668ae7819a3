use Rattle.engine.proofs.Sweeping.{sweeping_start, sweeping_next, sweeping_done}
use Rattle.engine.proofs.sweep_families.Goals as goal

pub loop-n-init : goal.loop-n-init
loop-n-init c = search sweeping_start

pub loop-n-preserved : goal.loop-n-preserved
loop-n-preserved c = sweeping_next _ _ c.loop-n.invariant _ _ _ c.loop-n-test.true c.family_from-family.ensures.1 (record { child = c.root-c.ensures.child; is = c.root-c.ensures.is }) c.place_step-told.ensures c.family_end-start.ensures

pub returns : goal.returns
returns c = search sweeping_done
