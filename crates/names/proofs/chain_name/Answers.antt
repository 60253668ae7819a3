use Rattle.names.proofs.Laws.{chain_more, part_is}
use Rattle.names.proofs.chain_name.Goals as goal

pub returns : goal.returns
returns c = search (chain_more, part_is)
