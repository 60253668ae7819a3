use Rattle.names.proofs.Laws.{find_span, same_part, seeking_start, seeking_next, seeking_less, seeking_found}
use Rattle.names.proofs.find_among.Goals as goal

pub loop-p-init : goal.loop-p-init
loop-p-init c = search seeking_start

pub returns-then-eq : goal.returns-then-eq
returns-then-eq c = search (seeking_found, same_part, find_span)

pub loop-p-smaller : goal.loop-p-smaller
loop-p-smaller c = search seeking_less

pub loop-p-preserved : goal.loop-p-preserved
loop-p-preserved c = search (seeking_next, same_part, find_span)
