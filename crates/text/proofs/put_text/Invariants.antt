use lib.ListN.{take}
use Rattle.text.specs.Inner.{Put}
use Rattle.text.proofs.put_text.Given as goal

abbrev pub invariant-loop-x : goal.invariant-loop-x
invariant-loop-x l = Put (take l.x-index l.text) l.initial.out l.at l.out l.to
