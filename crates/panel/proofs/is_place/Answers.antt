use Rattle.panel.proofs.Laws.{place_short, place_unnamed, place_ends}
use Rattle.panel.proofs.is_place.Goals as goal

pub returns-then-h-lane : goal.returns-then-h-lane
returns-then-h-lane c = search place_unnamed

pub returns-in-Some : goal.returns-in-Some
returns-in-Some c = search (place_ends, c.in-Some.ensures)

pub returns-in-None : goal.returns-in-None
returns-in-None c = search (place_short, c.in-None.ensures)
