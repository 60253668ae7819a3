use Rattle.advance.proofs.Laws.{meets_blocked, meets_down, meets_itself}
use Rattle.advance.proofs.meet.Goals as goal

pub returns-then-eq : goal.returns-then-eq
returns-then-eq c = search meets_itself

pub returns-then-not-clear : goal.returns-then-not-clear
returns-then-not-clear c = search meets_blocked

pub returns : goal.returns
returns c = search meets_down
