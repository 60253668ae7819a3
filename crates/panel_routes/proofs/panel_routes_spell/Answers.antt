use Rattle.spell.proofs.Calls.{spell_holds}
use borrow.Author.Rules.{rules}
use Rattle.panel_routes.proofs.panel_routes_spell.Goals as goal

pub returns : goal.returns
returns c = record { value = search rules; out_after = search rules; spell_holds = search spell_holds }
