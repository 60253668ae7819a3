use Rattle.std.proofs.Common.{refl}
use Rattle.bed.proofs.Writing.{row_long}
use Rattle.bed.proofs.row_length.Goals as goal

pub returns : goal.returns
returns c = row_long _ c.args.table.now.read c.requires _ refl c.put_row.ensures
