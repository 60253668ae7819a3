use Rattle.image.proofs.Laws.{lane_index, lane_index_fits, lane_ports_stand}
use Rattle.letters.proofs.Laws.{word_room, word_fits_is, word_told}
use borrow.Author.Rules.{rules}
use Rattle.letters.proofs.is_word_of.Goals as goal

pub overflow_add-l : goal.overflow_add-l
overflow_add-l c = search lane_index_fits

pub offset-at-requires : goal.offset-at-requires
offset-at-requires c = search (rules, lane_index, lane_ports_stand)

pub overflow_add-base : goal.overflow_add-base
overflow_add-base c = search word_fits_is

pub is_word-requires : goal.is_word-requires
is_word-requires c = search (rules, word_room)

pub returns : goal.returns
returns c = search word_told
