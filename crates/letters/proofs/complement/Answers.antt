use Rattle.letters.proofs.Reverse.{complement_is}
use Rattle.letters.proofs.complement.Goals as goal

pub returns : goal.returns
returns c = search complement_is
