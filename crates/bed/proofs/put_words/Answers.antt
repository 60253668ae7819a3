use Rattle.bed.proofs.Reading.{words_two, words_one, words_holding, words_put}
use Rattle.bed.proofs.put_words.Goals as goal

pub bounds-out-0 : goal.bounds-out-0
bounds-out-0 c = search words_one

pub bounds-out-1 : goal.bounds-out-1
bounds-out-1 c = search words_two

pub put_lines-requires : goal.put_lines-requires
put_lines-requires c = search words_holding

pub returns : goal.returns
returns c = search words_put
