-- The refusals by their numbers, and what a result refuses: 0 where nothing is refused.
use Rattle.std.specs.Prelude.{ℕ, Result, Ok, Err}
use Rattle.image.specs.Header.{refusal_number}
use Rattle.evaluate.specs.declared.Refusal.{Refusal}
use Rattle.evaluate.specs.Refusals.{no_refusal}
use Rattle.letters.specs.declared.LettersRefusal.{LettersRefusal}
use Rattle.letters.specs.declared.LettersRefusal.TheVariants.{Letters, Words}
use Rattle.letters.specs.declared.CheckRefusal.{CheckRefusal}
use Rattle.letters.specs.declared.CheckRefusal.TheVariants.{BadPanel, BadLetters}

abbrev pub number_of : LettersRefusal → ℕ
number_of Letters = 39
number_of Words = 40

abbrev pub refusal_of : {A : Type 0} → Result A LettersRefusal → ℕ
refusal_of (Ok a) = 0
refusal_of (Err e) = number_of e

abbrev pub check_number : CheckRefusal → ℕ
check_number (BadPanel e) = refusal_number e
check_number (BadLetters e) = number_of e

-- the call's answer, whose place is 0
abbrev pub answer_of : {A : Type 0} → Result A CheckRefusal → Refusal
answer_of (Ok a) = no_refusal
answer_of (Err e) = record { number = check_number e; place = 0 }
