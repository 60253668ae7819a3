use Rattle.std.proofs.Common.{rules}
use Rattle.bed_routes.proofs.Laws.{routes_start, routes_inside, routes_found, routes_again, routes_ends}
use Rattle.bed_routes.proofs.check_routes.Goals as goal

pub loop-i-init : goal.loop-i-init
loop-i-init c = search routes_start

pub check_route-requires : goal.check_route-requires
check_route-requires c = (search rules, search rules, search rules, search routes_inside)

pub returns-in-Err : goal.returns-in-Err
returns-in-Err c = routes_found c.loop-i.invariant c.requires.2 c.loop-i-test.true _ c.family_path-target.ensures _ c.in-Err.ensures

pub loop-i-preserved : goal.loop-i-preserved
loop-i-preserved c = routes_again c.loop-i.invariant c.requires.2 c.loop-i-test.true _ c.family_path-target.ensures c.in-Ok.ensures

pub returns : goal.returns
returns c = search routes_ends
