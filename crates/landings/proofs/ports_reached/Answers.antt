use Rattle.std.proofs.Common.{rules, tests}
use Rattle.landings.proofs.Laws.{reached_point}
use Rattle.landings.proofs.ports_reached.Goals as goal

pub returns : goal.returns
returns c = reached_point _ _ _ _ _ _ c.requires.0 c.requires.1 c.partition_point.ensures.within (λ h. let p = c.partition_point.ensures.last h in search (rules, tests)) (λ h. let p = c.partition_point.ensures.first h in search (rules, tests))
