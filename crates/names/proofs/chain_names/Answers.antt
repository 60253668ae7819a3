use Rattle.names.proofs.Laws.{linking_fails, linking_ends}
use Rattle.names.proofs.chain_names.Goals as goal

pub returns-then-not-is_fresh : goal.returns-then-not-is_fresh
returns-then-not-is_fresh c = search linking_fails

pub returns : goal.returns
returns c = search linking_ends
