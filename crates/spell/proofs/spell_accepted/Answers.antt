use Rattle.std.proofs.Common.{refl, arith}
use Rattle.spell.proofs.Answers.{accepted_letters, accepted_error, accepted_rest, passed_of}
use Rattle.spell.proofs.spell_accepted.Goals as goal

pub returns-in-Err : goal.returns-in-Err
returns-in-Err c = search (accepted_letters, c.in-Err.ensures)

pub returns-in-Err-check_given : goal.returns-in-Err-check_given
returns-in-Err-check_given c = accepted_error _ c.args.h _ _ _ _ _ _ c.args.out.now _ c.in_default.ensures _ c.in-Err-check_given.ensures _ _ _ refl c.number-in-Err-check_given.ensures c.place.ensures c.reply-in-Err-check_given.ensures

pub spell_passed-requires : goal.spell_passed-requires
spell_passed-requires c = passed_of _ _ _ _ _ c.requires c.in_default.ensures c.in_default-check_given.ensures (omega arith)

pub returns : goal.returns
returns c = accepted_rest _ c.args.h _ _ _ _ _ _ _ _ c.in_default.ensures _ c.in_default-check_given.ensures (omega arith) c.spell_passed.ensures
