use Rattle.slots.proofs.Compact.{packing_none, packing_skip, packing_keep, packing_all, packing_fits, packing_fits_k}
use Rattle.slots.proofs.retain.Goals as goal
use Rattle.slots.proofs.retain.Goals.{then-ties, else-ties}

pub loop-i-init : goal.loop-i-init
loop-i-init c = search packing_none

pub copy_slot-requires : goal.copy_slot-requires
copy_slot-requires c = (search packing_fits, search (packing_fits_k, packing_fits))

pub loop-i-preserved : goal.loop-i-preserved
loop-i-preserved c = elim c.if-ties.branch [ then-ties w ↦ rw (w.kept-is, w.scores-is, w.k-is) (search packing_keep) | else-ties w ↦ rw (w.kept-is, w.scores-is, w.k-is) (search packing_skip) ]

pub returns : goal.returns
returns c = search packing_all
