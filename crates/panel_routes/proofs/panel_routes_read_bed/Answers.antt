use borrow.Author.Rules.{rules}
use Rattle.panel_routes.proofs.panel_routes_read_bed.Goals as goal

pub returns : goal.returns
returns c = record { value = search rules; out_after = search rules; read_holds = search rules }
