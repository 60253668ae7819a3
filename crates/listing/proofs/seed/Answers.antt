use Rattle.listing.proofs.Sowing.{sowing_start, native_fits, sowing_next}
use Rattle.listing.proofs.seed.Goals as goal

pub loop-natives-init : goal.loop-natives-init
loop-natives-init c = search sowing_start

pub list_native-listing-requires : goal.list_native-listing-requires
list_native-listing-requires c = let u = c.loop-natives.invariant in let acc = c.requires.0 in let g = c.family_from-family.ensures in (acc, g.0, native_fits u acc c.loop-natives-test.true c.if-natives-b.false c.if-natives-b-2.false c.family_from-family.result g.1, u.onward.within, u.onward.few)

pub loop-natives-preserved : goal.loop-natives-preserved
loop-natives-preserved c = let u = c.loop-natives.invariant in let acc = c.requires.0 in let g = c.family_from-family.ensures in sowing_next u acc c.loop-natives-test.true c.if-natives-b.false c.if-natives-b-2.false c.family_from-family.result g.1 c.list_native-listing.ensures _ c.family_end-start.ensures
