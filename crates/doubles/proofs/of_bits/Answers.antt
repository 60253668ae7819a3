use lib.Ieee.{of_bits}
use Rattle.std.proofs.lemmas.Float.{not_nan_f64_bits}
use Rattle.doubles.proofs.Laws.{nan_of}
use Rattle.doubles.proofs.of_bits.Goals as goal

pub float_from_bits-result : goal.float_from_bits-result
float_from_bits-result c = search not_nan_f64_bits

pub returns-else-bits-le-INFINITY : goal.returns-else-bits-le-INFINITY
unfolding of_bits
returns-else-bits-le-INFINITY c = nan_of c.args.bits c.if-bits-le-INFINITY.false
