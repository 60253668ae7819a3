use Rattle.spell.proofs.Laws.{crop_empty, crop_past, crop_short, crop_none}
use Rattle.spell.proofs.crop_refusal.Goals as goal

pub returns-then-words-slot : goal.returns-then-words-slot
returns-then-words-slot c = crop_empty _ _ _ _ _ c.then-words-slot.either

pub returns-then-not-has_letters : goal.returns-then-not-has_letters
returns-then-not-has_letters c = search crop_past

pub returns-then-to-from-2 : goal.returns-then-to-from-2
returns-then-to-from-2 c = search crop_short

pub returns : goal.returns
returns c = search crop_none
