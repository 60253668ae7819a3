use borrow.Author.Rules.{rules}
use Rattle.writer.proofs.Laws.{writing_start, words_some, last_roomy, piece_roomy, writing_next, written_done}
use Rattle.writer.proofs.put_path.Goals as goal

pub begin_words-p-requires : goal.begin_words-p-requires
begin_words-p-requires c = search words_some

pub loop-i-init : goal.loop-i-init
loop-i-init c = search writing_start

pub add_piece-p-requires : goal.add_piece-p-requires
add_piece-p-requires c = (search piece_roomy, search rules)

pub loop-i-preserved : goal.loop-i-preserved
loop-i-preserved c = search writing_next

pub add_segment-requires : goal.add_segment-requires
add_segment-requires c = search last_roomy

pub returns : goal.returns
returns c = search written_done
