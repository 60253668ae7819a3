use Rattle.letters.proofs.Laws.{letters_told, refused_39, refused_40, refused_none}
use Rattle.letters.proofs.letters_refusal.Goals as goal

pub are_words-requires : goal.are_words-requires
are_words-requires c = search letters_told

pub returns-then-not-are_lane_letters : goal.returns-then-not-are_lane_letters
returns-then-not-are_lane_letters c = search refused_39

pub returns-then-not-are_words : goal.returns-then-not-are_words
returns-then-not-are_words c = search refused_40

pub returns : goal.returns
returns c = search refused_none
