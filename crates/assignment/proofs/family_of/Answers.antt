use Rattle.std.proofs.Common.{rules, tests, arith}
use Rattle.image.specs.Image.{path_counts}
use Rattle.image.proofs.Laws.{path_counts_length, few-paths}
use Rattle.assignment.proofs.Sums.{first_fit, first_sum}
use Rattle.assignment.proofs.family_of.Goals as goal

pub sum-start-requires-clause-fits : goal.sum-start-requires-clause-fits
sum-start-requires-clause-fits c =
    let s = c.args.image.now in
    let h = c.args.h in
    let n = path_counts_length s h in
    let f = few-paths s h c.requires.0.framed in
    let t = c.requires.0.total in
    first_fit (path_counts h s) c.args.number (omega arith) c.map.ensures.source c.map.ensures.closure (λ i r q k. search (rules, tests)) _ (omega arith)

pub family_from-requires : goal.family_from-requires
family_from-requires c =
    let n = path_counts_length c.args.image.now c.args.h in
    (search rules, search rules, first_sum (path_counts c.args.h c.args.image.now) c.args.number (omega arith) c.map.ensures.source c.map.ensures.closure (λ i r q k. search (rules, tests)) c.sum-start.result c.sum-start.ensures.ran)
