use Rattle.image.specs.Header.{header_of}
use Rattle.image.proofs.header_of.Goals as goal

pub returns : goal.returns
unfolding header_of
returns c = cc
