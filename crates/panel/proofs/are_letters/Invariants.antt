use Rattle.std.proofs.Common.{◌≡◌, ◌&&◌, drop}
use Rattle.ground.specs.Lists.{all}
use Rattle.panel.specs.Refusals.{letter}
use Rattle.panel.proofs.are_letters.Given as goal

abbrev pub invariant-loop-b : goal.invariant-loop-b
invariant-loop-b l = all letter l.b-items ≡ (l.good && all letter (drop l.b-index l.b-items))
