use Rattle.kept.proofs.Steps.{add_room, add_full}
use Rattle.kept.proofs.add.Goals as goal

pub returns-then-b-optima : goal.returns-then-b-optima
returns-then-b-optima c = search add_full

pub returns : goal.returns
returns c = search add_room
