use Rattle.rows.proofs.Laws.{turn_forward, turn_reverse, turn_other, turn_long, turn_empty}
use Rattle.rows.proofs.turn_of.Goals as goal

pub returns-in-43 : goal.returns-in-43
returns-in-43 c = search turn_forward

pub returns-in-45 : goal.returns-in-45
returns-in-45 c = search turn_reverse

pub returns-in_default : goal.returns-in_default
returns-in_default c = search turn_empty

pub returns-in_default-2 : goal.returns-in_default-2
returns-in_default-2 c = search turn_other

pub returns-in_default-3 : goal.returns-in_default-3
returns-in_default-3 c = search turn_long
