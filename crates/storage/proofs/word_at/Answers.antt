use Rattle.std.proofs.Common.{◌∙◌}
use Rattle.storage.proofs.Laws.{number_at, le_bytes}
use Rattle.storage.proofs.word_at.Goals as goal

pub returns : goal.returns
returns c = number_at c.args.image.now c.args.at c.from_le_bytes.result c.requires (c.from_le_bytes.ensures ∙ le_bytes c.args.image.now c.args.at)
