use Rattle.graph.proofs.Laws.{accepted_told}
use Rattle.spell.proofs.Answers.{spell-answer, spell-out, spell_refused, spell_untouched}
use Rattle.spell.proofs.spell.Goals as goal

pub spell_accepted-requires : goal.spell_accepted-requires
spell_accepted-requires c = accepted_told _ _ c.in-Ok.ensures

pub returns-in-Ok : goal.returns-in-Ok
returns-in-Ok c = record { value = search spell-answer; out_after = search spell-out }

pub returns-in-Err : goal.returns-in-Err
returns-in-Err c = record { value = search spell_refused; out_after = search spell_untouched }
