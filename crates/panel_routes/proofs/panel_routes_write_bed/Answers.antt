use borrow.Author.Rules.{rules}
use Rattle.panel_routes.proofs.panel_routes_write_bed.Goals as goal

pub returns : goal.returns
returns c = record { value = search rules; out_after = search rules; write_holds = search rules }
