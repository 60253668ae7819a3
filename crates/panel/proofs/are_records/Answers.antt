use Rattle.std.proofs.Common.{◌+◌, ◌*◌, true, drop, rules, tests}
use Rattle.ground.specs.Lists.{each}
use Rattle.storage.specs.Records.{record_size}
use Rattle.panel.specs.Refusals.{is_true, sound_record, sound_records}
use Rattle.panel.proofs.Laws.{mark_at, marks_length}
use Rattle.panel.proofs.Ranges.{all_by_index}
use Rattle.panel.proofs.are_records.Goals as goal

pub returns : goal.returns
unfolding sound_records
returns c = all_by_index true is_true (each (sound_record c.args.h c.args.image.now) (record_size c.args.h.k) c.args.h.ports (drop c.args.base c.args.image.now)) c.args.h.ports (search marks_length) c.all.result (λ i. sound_record c.args.h c.args.image.now (drop (c.args.base + i * record_size c.args.h.k) c.args.image.now)) (mark_at _ _ _) c.all.ensures.ran (λ i b q k. search (rules, tests))
