use Rattle.letters.proofs.Reverse.{exchange_same, exchange_other}
use Rattle.letters.proofs.exchange.Goals as goal

pub returns-then-b-from : goal.returns-then-b-from
returns-then-b-from c = search exchange_same

pub returns-else-b-from : goal.returns-else-b-from
returns-else-b-from c = search exchange_other
