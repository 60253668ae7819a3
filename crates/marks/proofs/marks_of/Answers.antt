use Rattle.std.proofs.Common.{rules}
use Rattle.marks.proofs.Laws.{marks_told}
use Rattle.image.specs.Panel.{panel_of}
use Rattle.marks.specs.Inner.{lane_of, identity_of}
use Rattle.marks.proofs.marks_of.Goals as goal

pub returns : goal.returns
returns c =
    let lanes = c.mixes-lanes.ensures lane_of (λ s r k. search rules) in
    let identities = c.mixes-identities.ensures (identity_of (panel_of c.args.image.now)) (λ s r k. search rules) in
    marks_told c.args.image.now c.args.words.now _ _ _ _ lanes identities c.segment_count.ensures c.saturating_sub-switches.ensures
