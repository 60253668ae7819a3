-- Laws of the replies.
use mathlib.Core.Path.{◌≡◌, ap}
use mathlib.Core.List.{List}
use Prim.Native.Nat.{ℕ}
use Rattle.evaluate.specs.Refusals.{no_refusal}
use Rattle.letters.specs.declared.CheckRefusal.{CheckRefusal}
use Rattle.letters.specs.Letters.{letters_answer}
use Rattle.letters.specs.Refusals.{check_number}
use Rattle.panel_routes.specs.Replies.{letters_reply}

pub letters_passed : (s d : List ℕ) → no_refusal ≡ letters_answer s d → record { refusal = 0; place = 0 } ≡ letters_reply (letters_answer s d)
letters_passed s d e = ap letters_reply e

pub letters_stopped : (s d : List ℕ) (x : CheckRefusal) (n : ℕ) → n ≡ check_number x → record { number = check_number x; place = 0 } ≡ letters_answer s d → record { refusal = n; place = 0 } ≡ letters_reply (letters_answer s d)
letters_stopped s d x n is e = rw is (ap letters_reply e)
