use Rattle.std.proofs.Common.{◌≡◌, ◌∙◌, sym, true, rules}
use Rattle.rows.specs.Rows.{no_leading_zero, is_number}
use Rattle.rows.proofs.number_of.Goals as goal

pub returns-then-leads : goal.returns-then-leads
unfolding is_number
returns-then-leads c =
    let e : no_leading_zero c.args.s.now ≡ true = sym c.leads.ensures ∙ c.if-leads.true in
    rw e c.digits_of.ensures

pub returns-else-leads : goal.returns-else-leads
unfolding is_number
returns-else-leads c = search rules
