use Rattle.assignment.proofs.Laws.{words_accepted}
use Rattle.assignment.proofs.check_words.Goals as goal

pub returns : goal.returns
returns c = words_accepted _ _ _ c.requires.1 _ _ c.in_ok-check_given.ensures c.put_normal.ensures
