use Rattle.certificate.proofs.Calls.{listing_of}
use Rattle.certified.proofs.to_score.Goals as goal

pub returns : goal.returns
returns c = listing_of _ _ _ _ _ _ c.panel_routes_list.ensures.value c.panel_routes_list.ensures.rooms_after
