use borrow.Author.Rules.{rules}
use Rattle.graph.proofs.Laws.{good_told, refused_6, refused_8, ordered_told, refused_7}
use Rattle.graph.proofs.check_ports.Goals as goal

pub returns-then-not-are_sound : goal.returns-then-not-are_sound
returns-then-not-are_sound c = search refused_6

pub returns-then-not-are_rising : goal.returns-then-not-are_rising
returns-then-not-are_rising c = search refused_7

pub are_listed-requires : goal.are_listed-requires
are_listed-requires c = search (rules, ordered_told)

pub returns-then-not-are_listed : goal.returns-then-not-are_listed
returns-then-not-are_listed c = search refused_8

pub returns : goal.returns
returns c = search good_told
