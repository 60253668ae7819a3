-- Demand 3's first sentence.
use Rattle.evaluate.proofs.CheckLegal.{check_legal}
use Rattle.certificate.specs.Demand3.{CheckIsLegality}

pub check_is_legality : CheckIsLegality
check_is_legality s ws room a accepted given = check_legal s ws room a accepted given.said given.few given.fits
