use Rattle.std.proofs.Common.{◌≡◌, map, take}
use Rattle.ground.specs.Lists.{each}
use Rattle.storage.specs.Bytes.{number}
use Rattle.search.specs.Job.{double_of}
use Rattle.jobs.proofs.read_scores.Given as goal

abbrev pub invariant-loop-i : goal.invariant-loop-i
invariant-loop-i l = take l.i l.scores ≡ map double_of (each number 8 l.i l.bytes)
