use Rattle.std.proofs.Common.{◌+◌, ◌*◌, refl, add-mul}
use lib.Ieee.{of_bits}
use Rattle.search.specs.Budget.{zero_score}
use Rattle.slots.proofs.Words.{filled}
use Rattle.slots.proofs.Unused.{blanked}
use Rattle.slots.proofs.blank.Goals as goal

pub returns : goal.returns
unfolding of_bits
returns c =
    let v = c.args.v in
    let a = c.args.from in
    let n = c.args.n in
    blanked c.requires.0 c.requires.1
    (filled c.args.kept.now 0 (a * v) ((a + n) * v) (n * v) (add-mul a n v) c.requires.0 (c.fill.ensures.after (λ y e. e)))
    (filled c.args.scores.now zero_score a (a + n) n refl c.requires.1 (c.fill-2.ensures.after (λ y e. e)))
