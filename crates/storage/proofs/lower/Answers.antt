use Rattle.std.proofs.Common.{rules, tests}
use Rattle.ground.proofs.ListLaws.{cut_start}
use Rattle.storage.proofs.OrderLaws.{below_before}
use Rattle.storage.proofs.BucketLaws.{sorted_point}
use Rattle.storage.proofs.lower.Goals as goal

pub returns : goal.returns
returns c = sorted_point _ _ _ _ _ 0 _ _ c.requires.0 (below_before _) (cut_start _ _ _ _) c.partition_point.ensures.within (λ h. let p = c.partition_point.ensures.last h in search (rules, tests)) (λ h. let p = c.partition_point.ensures.first h in search (rules, tests))
