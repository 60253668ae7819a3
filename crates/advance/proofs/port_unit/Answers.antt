use mathlib.Core.Logic.{inl, inr}
use Rattle.advance.proofs.Laws.{leave_none, leave_past}
use Rattle.advance.proofs.port_unit.Goals as goal

pub returns-then-f-eq0-clause-turned : goal.returns-then-f-eq0-clause-turned
returns-then-f-eq0-clause-turned c = elim c.then-f-eq0.either [ inl e ↦ search leave_none | inr e ↦ search leave_past ]
