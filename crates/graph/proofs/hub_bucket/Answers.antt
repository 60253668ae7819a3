use Rattle.graph.proofs.LookupLaws.{bucket_refused, bucket_good, bucket_word}
use Rattle.graph.proofs.Laws.{accepted_told}
use Rattle.std.proofs.Common.{refl}
use Rattle.std.proofs.lemmas.Result.{err_from_is_err_and}
use Rattle.graph.proofs.hub_bucket.Goals as goal

pub panel_bucket-requires : goal.panel_bucket-requires
panel_bucket-requires c = (accepted_told _ _ c.in_ok-h.ensures, c.if-word-h.false)

pub returns-then-word-h : goal.returns-then-word-h
returns-then-word-h c = bucket_word _ _ _ c.in_ok-h.ensures c.if-word-h.true

pub returns : goal.returns
returns c = bucket_good _ _ _ c.in_ok-h.ensures _ c.if-word-h.false c.panel_bucket.ensures

pub returns-in_err-h : goal.returns-in_err-h
returns-in_err-h c = let p = err_from_is_err_and c.from_residual.result c.from_residual.ensures.1 in rw (p.1, p.2) (bucket_refused _ _ _ _ c.in_err-h.ensures refl)
