use Rattle.std.proofs.Common.{◌∙◌, ne_eqb}
use Rattle.storage.proofs.Laws.{stands_there, stands_not, turns_beq}
use Rattle.storage.proofs.Port.stands_at.Goals as goal

pub returns-then-cut : goal.returns-then-cut
returns-then-cut c = stands_there _ _ _ _ _ c.cut.ensures _ c.if-cut.true (turns_beq c.args.self.reverse c.args.reverse)

pub returns-else-cut : goal.returns-else-cut
returns-else-cut c = ne_eqb c.cut.result c.args.cut c.if-cut.false ∙ stands_not _ _ _ _ _ c.cut.ensures c.if-cut.false
