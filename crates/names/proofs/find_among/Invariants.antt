use Rattle.std.proofs.Common.{◌≡◌, ◌<◌}
use Rattle.names.proofs.Laws.{Seeking}
use Rattle.names.specs.Inner.{hash_of}
use Rattle.names.specs.Names.{cut}
use Rattle.names.proofs.find_among.Given as goal

abbrev pub invariant-loop-p : goal.invariant-loop-p
invariant-loop-p l = Seeking (cut 10 l.names) l.n l.key l.c l.p × (l.c ≡ hash_of l.key) × (l.c < 4096)

abbrev pub decreases-loop-p : goal.decreases-loop-p
decreases-loop-p l = l.p
