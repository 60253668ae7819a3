use Rattle.std.proofs.Common.{eqb, length, arith, rules, tests}
use Rattle.std.specs.List.{between}
use Rattle.std.proofs.lemmas.Slice.{between_to_end}
use Rattle.std.proofs.lemmas.Iterator.{YieldsList-from_slice}
use Rattle.std.proofs.lemmas.Iterator.Search.{position_from_yields_List}
use Rattle.names.proofs.Bytes.{placed_some, placed_none}
use Rattle.names.proofs.place_of.Goals as goal

pub returns-in-Some : goal.returns-in-Some
returns-in-Some c =
    let s = c.args.s.now in
    placed_some s c.args.at c.args.b c.requires (between_to_end s c.args.at (length s) (omega arith))
    (position_from_yields_List (λ x. eqb x c.args.b) _ _ _ c.position.ensures.ran (YieldsList-from_slice (between c.args.at (length s) s) cc) (λ x b q k. search (rules, tests)))
    c.in-Some.i c.in-Some.is

pub returns-in-None : goal.returns-in-None
returns-in-None c =
    let s = c.args.s.now in
    placed_none s c.args.at c.args.b c.requires (between_to_end s c.args.at (length s) (omega arith))
    (position_from_yields_List (λ x. eqb x c.args.b) _ _ _ c.position.ensures.ran (YieldsList-from_slice (between c.args.at (length s) s) cc) (λ x b q k. search (rules, tests)))
    c.in-None.is
