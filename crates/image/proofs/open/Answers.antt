use Rattle.image.proofs.Laws.{open_short, open_bounds, open_packed, open_good, bounds_told}
use Rattle.image.proofs.open.Goals as goal

pub returns-then-len-lt-SIZE : goal.returns-then-len-lt-SIZE
returns-then-len-lt-SIZE c = search open_short

pub is_packed-requires : goal.is_packed-requires
is_packed-requires c = search bounds_told

pub returns-then-not-in_bounds : goal.returns-then-not-in_bounds
returns-then-not-in_bounds c = search open_bounds

pub returns-then-not-is_packed : goal.returns-then-not-is_packed
returns-then-not-is_packed c = search open_packed

pub returns : goal.returns
returns c = search open_good
