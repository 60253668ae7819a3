use Rattle.certificate.proofs.Raised.{raised_only_adds}
use Rattle.certified.proofs.raise.Goals as goal

pub returns : goal.returns
returns c = raised_only_adds _ _ _ _ _ _ _ _ _ _ c.panel_routes_search-first.ensures.value c.panel_routes_search-second.ensures.value c.panel_routes_search-first.ensures.rooms_after c.panel_routes_search-second.ensures.rooms_after
