use borrow.Author.Rules.{rules}
use Rattle.walks.proofs.Laws.{by_down, by_due, by_evaluation, by_exhausted, by_frontier, by_leave, by_next, by_pass, by_work, over_evaluations, over_going, ready_of, taken_small}
use Rattle.walks.proofs.go_on.Goals as goal

pub advance-turn-requires : goal.advance-turn-requires
advance-turn-requires c = (ready_of _ _ _ _ _ _ _ _ _ _ _ _ _ c.requires.0 c.requires.1 (over_going _ _ _ _ _ _ _ _ c.requires.0 _ _ _ _ _ _ c.loop-depth.invariant.0 c.pass_over-t.ensures.passed) c.loop-depth-test.true, c.pass_over-t.ensures.known)

pub overflow_add-t-in-loop-depth : goal.overflow_add-t-in-loop-depth
overflow_add-t-in-loop-depth c =
    let few = c.pass_over-t.ensures.passed.held.taken in
    let work = c.pass_over-t.ensures.passed.under in
    let one = taken_small _ _ _ _ _ _ _ c.advance-turn.ensures.moved in
    search rules

pub loop-depth-preserved-in-Leave : goal.loop-depth-preserved-in-Leave
loop-depth-preserved-in-Leave c = (let g = over_going _ _ _ _ _ _ _ _ c.requires.0 _ _ _ _ _ _ c.loop-depth.invariant.0 c.pass_over-t.ensures.passed in let le = over_evaluations _ _ _ _ _ _ _ _ _ c.pass_over-t.ensures.passed c.if-t-b-2.false in search by_leave, c.advance-turn.ensures.known)

pub loop-depth-preserved-in-Pass : goal.loop-depth-preserved-in-Pass
loop-depth-preserved-in-Pass c = (let g = over_going _ _ _ _ _ _ _ _ c.requires.0 _ _ _ _ _ _ c.loop-depth.invariant.0 c.pass_over-t.ensures.passed in let le = over_evaluations _ _ _ _ _ _ _ _ _ c.pass_over-t.ensures.passed c.if-t-b-2.false in search by_pass, c.advance-turn.ensures.known)

pub enter-e-requires : goal.enter-e-requires
enter-e-requires c = (c.requires.0, c.requires.1, (c.advance-turn.ensures.moved.turned.child _ c.in-Down.is).lane)

pub loop-depth-preserved : goal.loop-depth-preserved
loop-depth-preserved c =
    let g = over_going _ _ _ _ _ _ _ _ c.requires.0 _ _ _ _ _ _ c.loop-depth.invariant.0 c.pass_over-t.ensures.passed in
    let le = over_evaluations _ _ _ _ _ _ _ _ _ c.pass_over-t.ensures.passed c.if-t-b-2.false in
    (by_down _ _ _ _ _ _ _ _ _ _ _ _ _ _ g c.loop-depth-test.true c.pass_over-t.ensures.passed.under le c.advance-turn.ensures.moved c.requires.0 _ c.in-Down.is _ _ c.enter-e.ensures c.put_frame-in-Down.ensures c.if-depth-b.false, c.advance-turn.ensures.known)

pub families-preserved : goal.families-preserved
families-preserved c = (search by_next, c.loop-depth.invariant.1)

pub returns-then-t-b-clause-paused : goal.returns-then-t-b-clause-paused
returns-then-t-b-clause-paused c = search by_work

pub returns-then-t-b-2-clause-paused : goal.returns-then-t-b-2-clause-paused
returns-then-t-b-2-clause-paused c = search by_evaluation

pub returns-then-depth-b-clause-paused : goal.returns-then-depth-b-clause-paused
returns-then-depth-b-clause-paused c = let g = over_going _ _ _ _ _ _ _ _ c.requires.0 _ _ _ _ _ _ c.loop-depth.invariant.0 c.pass_over-t.ensures.passed in let le = over_evaluations _ _ _ _ _ _ _ _ _ c.pass_over-t.ensures.passed c.if-t-b-2.false in let lw = c.pass_over-t.ensures.passed.under in let m = c.advance-turn.ensures.moved in search by_frontier

pub returns-in-Give-clause-paused : goal.returns-in-Give-clause-paused
returns-in-Give-clause-paused c = let g = over_going _ _ _ _ _ _ _ _ c.requires.0 _ _ _ _ _ _ c.loop-depth.invariant.0 c.pass_over-t.ensures.passed in let le = over_evaluations _ _ _ _ _ _ _ _ _ c.pass_over-t.ensures.passed c.if-t-b-2.false in search by_due

pub returns-then-t-h-clause-paused : goal.returns-then-t-h-clause-paused
returns-then-t-h-clause-paused c = search by_exhausted
