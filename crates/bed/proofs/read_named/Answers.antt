use Rattle.std.proofs.Common.{sym, ◌∙◌}
use borrow.Author.Tests.{leb-true, leb-false}
use Rattle.bed.proofs.Reading.{short_37, text_read}
use Rattle.bed.proofs.read_named.Goals as goal

pub returns-then-not-fits : goal.returns-then-not-fits
returns-then-not-fits c = let s = c.in_ok-scan.ensures in short_37 _ _ _ _ _ s.0 s.1 s.2 (leb-false _ _ (sym c.fits.ensures ∙ c.if-not-fits.true))

pub returns : goal.returns
returns c = let s = c.in_ok-scan.ensures in text_read _ _ _ _ _ s.0 s.1 s.2 (leb-true _ _ (sym c.fits.ensures ∙ c.if-not-fits.false)) c.read_words.ensures
