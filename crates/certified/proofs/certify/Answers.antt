use Rattle.certificate.proofs.Sentence.{sentence_of}
use Rattle.certified.proofs.certify.Goals as goal

pub returns : goal.returns
returns c = sentence_of _ _ _ _ _ _ c.panel_routes_search.ensures.value c.panel_routes_search.ensures.rooms_after
