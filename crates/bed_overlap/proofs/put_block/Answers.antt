use Rattle.std.proofs.Common.{arith}
use Rattle.bed_overlap.proofs.Blocks.{putting_start, putting_again, putting_ended, putting_full}
use Rattle.bed_overlap.proofs.put_block.Goals as goal

pub loop-i-init : goal.loop-i-init
loop-i-init c = putting_start (omega arith) c.requires.0

pub returns-then-text-from : goal.returns-then-text-from
returns-then-text-from c = search putting_ended

pub loop-i-preserved : goal.loop-i-preserved
loop-i-preserved c = search putting_again

pub returns : goal.returns
returns c = search putting_full
