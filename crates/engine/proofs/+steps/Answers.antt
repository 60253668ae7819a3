use native.Mathlib.Omega.{arith}
use mathlib.Core.Path.{refl, sym, ◌∙◌}
use mathlib.Core.Logic.{inl, inr}
use Rattle.engine.proofs.Gathering.{standing_next, step_over, in_hand_stays}
use Rattle.engine.proofs.Acting.{act_down, act_give, act_pass, act_leave, hub_none, hub_one, hub_halves, part, part_hand, part_flagged, flagged_stays, hub_few, ports_hub, ports_flagged, ports_less, ports_next, ports_done, place_deep, place_on, place_waits, place_closed, place_then, place_hand, place_done}
use Prim.Native.Nat.{◌+◌, ◌-◌, ◌/◌}
use Rattle.engine.proofs.+steps.Goals as goal

pub act_step-returns-in-Down : goal.act_step-returns-in-Down
act_step-returns-in-Down t c = let f = c.requires.0 in let r = c.requires.1.room in act_down c.args.image.now c.args.here c.args.path.now c.args.action _ c.in-Down.is (omega arith) c.place_step.ensures

pub act_step-returns-in-Give : goal.act_step-returns-in-Give
act_step-returns-in-Give t c = search act_give

pub act_step-returns-in-Pass : goal.act_step-returns-in-Pass
act_step-returns-in-Pass t c =
    elim c.in-Pass.is [
      | inl e ↦ search act_pass
      | inr e ↦ search act_leave
    ]

pub hub_step-returns-then-is_over : goal.hub_step-returns-then-is_over
hub_step-returns-then-is_over t c =
    elim c.then-is_over.either [
      | inl e ↦ step_over _ (sym c.is_over.ensures ∙ e) c.requires.1.within c.requires.1.written c.requires.1.known
      | inr e ↦ search hub_none
    ]

pub hub_step-returns-then-n-eq1 : goal.hub_step-returns-then-n-eq1
hub_step-returns-then-n-eq1 t c = search hub_one

pub hub_step-hub_step-requires : goal.hub_step-hub_step-requires
hub_step-hub_step-requires t c = let x = c.if-g.false in let y = c.if-n-eq1.false in let u = c.hub_step-now.ensures in (omega arith, (c.requires.0, standing_next c.requires.1 refl u, in_hand_stays (part_hand c.args.image.now c.args.here c.args.lane c.args.path.now c.args.g (c.args.g.hub_next + (c.args.g.hub_end - c.args.g.hub_next) / 2) c.args.g.hub_end (omega arith) (omega arith) c.requires.2) u.stays u.long_path, flagged_stays c.args.image.now c.args.path.now _ c.args.here (part c.args.g (c.args.g.hub_next + (c.args.g.hub_end - c.args.g.hub_next) / 2) c.args.g.hub_end) u.stays (part_flagged c.args.image.now c.args.here c.args.lane c.args.path.now c.args.g (c.args.g.hub_next + (c.args.g.hub_end - c.args.g.hub_next) / 2) c.args.g.hub_end (omega arith) (omega arith) c.requires.3)))

pub hub_step-returns : goal.hub_step-returns
hub_step-returns t c = let x = c.if-g.false in hub_halves c.args.image.now c.args.here c.args.lane c.args.path.now c.args.g (c.args.g.hub_next + (c.args.g.hub_end - c.args.g.hub_next) / 2) (omega arith) (omega arith) c.requires.2 c.hub_step-now.ensures c.hub_step.ensures

pub place_step-returns-then-here-eq0 : goal.place_step-returns-then-here-eq0
place_step-returns-then-here-eq0 t c = search place_deep

pub place_step-terminal_unit-t-requires : goal.place_step-terminal_unit-t-requires
place_step-terminal_unit-t-requires t c = let e = c.put_frame.ensures in (rw e (place_on c.args.image.now c.args.starts.now c.args.path.now c.args.slot.now c.args.out.now c.args.here c.args.c c.args.l c.requires.0 c.requires.1 c.if-here-eq0.false _ c.lane_of-lane.ensures.0 c.lane_of-lane.ensures.1 _ c.enter-f.ensures), place_waits c.args.image.now c.args.starts.now c.args.path.now c.args.slot.now c.args.out.now c.args.here c.args.c c.args.l c.requires.0 c.requires.1 c.if-here-eq0.false _ c.lane_of-lane.ensures.0 c.lane_of-lane.ensures.1 _ c.enter-f.ensures)

pub place_step-ports_step-requires : goal.place_step-ports_step-requires
place_step-ports_step-requires t c = let e = c.put_frame.ensures in let n = c.if-here-eq0.false in let tu = rw e at c.terminal_unit-t.ensures in let ac = rw e at c.act_step-now.ensures in (omega arith, (omega arith, place_then c.args.image.now c.args.starts.now c.args.path.now c.args.slot.now c.args.out.now c.args.here c.args.c c.args.l c.requires.0 c.requires.1 n _ c.lane_of-lane.ensures.0 c.lane_of-lane.ensures.1 _ c.enter-f.ensures _ tu ac, place_hand c.args.image.now c.args.starts.now c.args.path.now c.args.slot.now c.args.out.now c.args.here c.args.c c.args.l c.requires.0 c.requires.1 n _ c.lane_of-lane.ensures.0 c.lane_of-lane.ensures.1 _ c.enter-f.ensures _ tu ac, place_closed c.args.image.now c.args.starts.now c.args.path.now c.args.slot.now c.args.out.now c.args.here c.args.c c.args.l c.requires.0 c.requires.1 n _ c.lane_of-lane.ensures.0 c.lane_of-lane.ensures.1 _ c.enter-f.ensures _ tu))

pub place_step-returns : goal.place_step-returns
place_step-returns t c = let e = c.put_frame.ensures in let tu = rw e at c.terminal_unit-t.ensures in let ac = rw e at c.act_step-now.ensures in place_done c.args.image.now c.args.starts.now c.args.path.now c.args.slot.now c.args.out.now c.args.here c.args.c c.args.l c.requires.0 c.requires.1 c.if-here-eq0.false _ c.lane_of-lane.ensures.0 c.lane_of-lane.ensures.1 _ c.enter-f.ensures _ tu ac c.ports_step.ensures

pub ports_step-hub_step-now-requires : goal.ports_step-hub_step-now-requires
ports_step-hub_step-now-requires t c = let v = c.loop-here.invariant in let s = v.standing in let tu = c.pass_port-t.ensures in let hand = ports_hub v _ c.has_port.ensures _ tu.turned c.loop-here-test.true _ c.in_reach-f.ensures in let few = hub_few hand in (omega arith, (c.requires.0, record { accepted = s.accepted; started = s.started; known = tu.known; groups = s.groups; room = s.room; few = s.few; scratch = s.scratch; within = s.within; written = s.written }, hand, ports_flagged v _ c.has_port.ensures _ tu.turned c.loop-here-test.true _ c.in_reach-f.ensures))

pub ports_step-loop-here-smaller : goal.ports_step-loop-here-smaller
ports_step-loop-here-smaller t c = search ports_less

pub ports_step-loop-here-preserved : goal.ports_step-loop-here-preserved
ports_step-loop-here-preserved t c = search ports_next

pub ports_step-returns : goal.ports_step-returns
ports_step-returns t c = search ports_done
