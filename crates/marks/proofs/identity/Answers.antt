use Rattle.marks.proofs.Laws.{identity_none, identity_is}
use Rattle.marks.proofs.identity.Goals as goal

pub returns-then-lane-h : goal.returns-then-lane-h
returns-then-lane-h c = search identity_is

pub returns-else-lane-h : goal.returns-else-lane-h
returns-else-lane-h c = search identity_none
