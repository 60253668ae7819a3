use Rattle.spell.proofs.Answers.{crop_named, crop_order, crop_room, slot_far, slot_inside, passed_refused, passed_spelled}
use borrow.Author.Rules.{rules}
use Rattle.spell.proofs.spell_passed.Goals as goal

pub returns-in-Err : goal.returns-in-Err
returns-in-Err c = search (passed_refused, c.in-Err.ensures)

pub slot_at-place-requires : goal.slot_at-place-requires
slot_at-place-requires c = search (rules, crop_named, c.in_default.ensures)

pub put_crop-requires : goal.put_crop-requires
put_crop-requires c = let none = c.in_default.ensures in (search rules, search slot_inside, search crop_order, search slot_far, search crop_room)

pub overflow_sub-to : goal.overflow_sub-to
overflow_sub-to c = let none = c.in_default.ensures in search (rules, crop_order)

pub returns : goal.returns
returns c = let none = c.in_default.ensures in search passed_spelled
