use Rattle.std.proofs.Common.{refl, arith}
use Rattle.ground.specs.Lists.{each}
use Rattle.jobs.proofs.Laws.{scores_next}
use Rattle.jobs.proofs.read_scores.Goals as goal

pub loop-i-init : goal.loop-i-init
unfolding each
loop-i-init c = refl

pub loop-i-preserved : goal.loop-i-preserved
loop-i-preserved c =
    let l = c.loop-i.auto.scores in
    scores_next c.args.bytes.now c.loop-i.scores c.loop-i.i _ _ (omega arith) c.loop-i.invariant c.word_at.ensures c.of_bits.ensures
