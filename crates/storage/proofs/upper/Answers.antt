use native.Mathlib.Omega.{arith}
use Rattle.std.proofs.Common.{rules, tests}
use Rattle.storage.proofs.OrderLaws.{up_to_before}
use Rattle.storage.proofs.BucketLaws.{probe_down, probe_up, sorted_point, upper_start}
use Rattle.storage.proofs.upper.Goals as goal

pub loop-step-init : goal.loop-step-init
loop-step-init c = search upper_start

pub loop-step-preserved-then-is_word_up_to : goal.loop-step-preserved-then-is_word_up_to
loop-step-preserved-then-is_word_up_to c = probe_up _ _ _ _ _ _ _ _ _ c.requires.0 (up_to_before _) (omega arith) (let t = c.loop-step-test.true in omega arith) c.loop-step.invariant c.is_word_up_to.ensures c.if-is_word_up_to.true

pub loop-step-preserved : goal.loop-step-preserved
loop-step-preserved c = probe_down _ _ _ _ _ _ _ _ _ c.requires.0 (up_to_before _) (omega arith) (let t = c.loop-step-test.true in omega arith) c.loop-step.invariant c.is_word_up_to.ensures c.if-is_word_up_to.false

pub returns : goal.returns
returns c = sorted_point _ _ _ _ _ _ _ _ c.requires.0 (up_to_before _) c.loop-step.invariant c.partition_point.ensures.within (λ h. let p = c.partition_point.ensures.last h in search (rules, tests)) (λ h. let p = c.partition_point.ensures.first h in search (rules, tests))
