use Rattle.names.proofs.Laws.{named}
use Rattle.names.proofs.NameTable.name.Goals as goal

pub returns : goal.returns
returns c = named c.args.self.now.read c.requires c.part_at.ensures
