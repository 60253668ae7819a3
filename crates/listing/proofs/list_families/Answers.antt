use borrow.Author.Rules.{rules}
use Rattle.listing.proofs.Whole.{no_family, none_before, root_ended, root_onward, root_room, root_walking, short_evaluation, short_work}
use Rattle.listing.proofs.list_families.Goals as goal

pub returns-then-n-b : goal.returns-then-n-b
returns-then-n-b c = short_evaluation _ c.requires.accepted.0 c.seed-seeded.ensures c.seeded_tally.ensures c.if-n-h.true c.if-n-b.true

pub returns-else-n-b : goal.returns-else-n-b
returns-else-n-b c = short_work _ c.requires.accepted.0 c.seed-seeded.ensures c.seeded_tally.ensures c.if-n-h.true c.if-n-b.false

pub returns-then-h-eq0 : goal.returns-then-h-eq0
returns-then-h-eq0 c = no_family _ c.requires.accepted.0 c.seed-seeded.ensures c.seeded_tally.ensures c.if-n-h.false c.if-h-eq0.true

pub put_root-requires : goal.put_root-requires
put_root-requires c = (c.requires.accepted.0, c.requires.accepted.1, (let z = c.if-h-eq0.false in search rules), search none_before, root_room c.requires.accepted.3)

pub run-requires-clause-walking : goal.run-requires-clause-walking
run-requires-clause-walking c = root_walking _ c.requires.accepted.0 c.seed-seeded.ensures c.seeded_tally.ensures c.if-n-h.false c.if-h-eq0.false c.requires.accepted.3 _ c.put_root.ensures

pub run-requires-clause-onward : goal.run-requires-clause-onward
run-requires-clause-onward c = root_onward _ c.requires.accepted.0 c.seed-seeded.ensures c.seeded_tally.ensures c.if-n-h.false c.if-h-eq0.false c.requires.accepted.3 _ c.put_root.ensures

pub returns : goal.returns
returns c = root_ended _ c.requires.accepted.0 c.seed-seeded.ensures c.seeded_tally.ensures c.if-n-h.false c.if-h-eq0.false c.requires.accepted.3 _ c.put_root.ensures c.run.ensures
