use Rattle.std.proofs.Common.{sym, ◌∙◌, refl}
use Rattle.std.proofs.lemmas.Result.{err_from_is_err_and}
use borrow.Author.Tests.{leb-true, leb-false}
use Rattle.bed.proofs.Reading.{words_22, words_refused, words_given}
use Rattle.bed.proofs.read_words.Goals as goal

pub returns-then-not-fits : goal.returns-then-not-fits
returns-then-not-fits c = words_22 _ _ _ _ c.requires.2 _ (leb-false _ _ (sym c.fits.ensures ∙ c.if-not-fits.true))

pub returns-in_err-check_held : goal.returns-in_err-check_held
returns-in_err-check_held c =
    let p = err_from_is_err_and c.from_residual.result c.from_residual.ensures.1 in
    rw (p.1, p.2) (words_refused _ _ _ _ c.requires.2 (leb-true _ _ (sym c.fits.ensures ∙ c.if-not-fits.false)) _ _ c.in_err-check_held.ensures)

pub returns : goal.returns
returns c = words_given _ _ _ _ c.requires.2 (leb-true _ _ (sym c.fits.ensures ∙ c.if-not-fits.false)) _ _ _ c.in_ok-check_held.ensures c.put_words.ensures refl
