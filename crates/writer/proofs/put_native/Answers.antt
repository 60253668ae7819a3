use borrow.Author.Rules.{rules}
use Rattle.writer.proofs.Laws.{natives_done, native_room, natives_start, native_length, natives_next}
use lib.ListN.{length-set}
use Rattle.writer.proofs.put_native.Goals as goal

pub loop-i-init : goal.loop-i-init
loop-i-init c = (search natives_start, simp length-set (search rules))

pub loop-i-preserved : goal.loop-i-preserved
loop-i-preserved c = (search (natives_next, native_room, native_length), search rules)

pub returns : goal.returns
returns c = search (natives_done, native_length)
