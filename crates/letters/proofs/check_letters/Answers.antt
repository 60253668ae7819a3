use Rattle.std.proofs.lemmas.Result.{err_from_is_err_and}
use Rattle.graph.proofs.Laws.{accepted_told}
use Rattle.letters.proofs.Laws.{call_panel, call_letters, call_good}
use Rattle.letters.proofs.check_letters.Goals as goal

pub letters_refusal-requires : goal.letters_refusal-requires
letters_refusal-requires c = accepted_told _ _ c.in_ok-h.ensures

pub returns-in_err-h : goal.returns-in_err-h
returns-in_err-h c = let p = err_from_is_err_and c.from_residual.result c.from_residual.ensures.1 in call_panel _ _ _ _ _ c.in_err-h.ensures p.1 p.2

pub returns-in_err-letters_refusal : goal.returns-in_err-letters_refusal
returns-in_err-letters_refusal c = let p = err_from_is_err_and c.from_residual-in_err-letters_refusal.result c.from_residual-in_err-letters_refusal.ensures.1 in call_letters _ _ _ _ _ _ c.in_ok-h.ensures c.in_err-letters_refusal.ensures p.1 p.2

pub returns : goal.returns
returns c = call_good _ _ _ c.in_ok-h.ensures c.in_ok-letters_refusal.ensures
