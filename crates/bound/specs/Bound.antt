-- The lower bound of evaluate.rs, from counts and a background: each operation on doubles is followed by a step to the next double outward.
use Rattle.std.specs.Prelude.{ℕ, ◌^◌, Bool, true, false, ◌&&◌, cond, List, [], ◌∷◌, ltb, pos, Float, Option, Some, None, Result, Ok, Err}
use Rattle.std.specs.Float.{fin, binary64}
use Rattle.std.specs.Float.Ieee.{of_int, sub, mul, div, lt}
use Rattle.std.specs.Float.Ieee.Scale.{finite}
use Rattle.std.specs.Float.Ieee.Positive.{positive}
use Rattle.bound.specs.declared.BoundReply.{BoundReply}
use Rattle.bound.specs.declared.BoundError.{BoundError}
use Rattle.bound.specs.declared.BoundError.TheVariants.{OutOfRange}
use Rattle.doubles.specs.NextDouble.{next_up, next_down}

-- A count as a double, and a step up.
unfoldable pub upper : ℕ → Float
upper c = next_up (of_int binary64 (pos c))

-- What a count with the upper u takes off the running bound: (u - background) squared over background, with a step up after each operation.
unfoldable pub term : Float → Float → Float
term background u =
    let delta = next_up (sub binary64 u background) in
    next_up (div binary64 (next_up (mul binary64 delta delta)) background)

-- The running bound after a count: less the count's term, and a step down. A count whose upper is not above the background leaves it as it is.
unfoldable pub after : Float → Float → ℕ → Float
after background bound c = cond (lt background (upper c)) (next_down (sub binary64 bound (term background (upper c)))) bound

-- ---- what the call answers: a bound; no bound, with refusal 43 or without a refusal
abbrev pub zero64 : Float
zero64 = fin false 0 (pos 0)

abbrev pub some : Float → BoundReply
some x = record { refusal = 0; place = 0; given = 1; bound = x }

abbrev pub no_bound : ℕ → BoundReply
no_bound n = record { refusal = n; place = 0; given = 0; bound = zero64 }

-- From a running bound on: no bound as soon as it is not finite.
unfoldable pub bound_from : Float → Float → List ℕ → BoundReply
bound_from background bound [] = some bound
bound_from background bound (c ∷ counts) =
    let next = after background bound c in
    cond (finite next) (bound_from background next counts) (no_bound 0)

-- Whether each count is below 2 ^ 53.
unfoldable pub counts_ok : List ℕ → Bool
counts_ok [] = true
counts_ok (c ∷ counts) = ltb c (2 ^ 53) && counts_ok counts

-- In range: each count is below 2 ^ 53, and the background is finite and above 0.
abbrev pub in_range : List ℕ → Float → Bool
in_range counts background = positive background && counts_ok counts

-- The bound begins at 0.0. What is out of range is refused before anything is computed.
unfoldable pub lower_bound : List ℕ → Float → BoundReply
lower_bound counts background = cond (in_range counts background) (bound_from background zero64 counts) (no_bound 43)

-- ---- what the code has of an answer before it is a reply: a bound, no bound, or out of range
abbrev pub refusal_number : BoundError → ℕ
refusal_number OutOfRange = 43

abbrev pub reply_of : Result (Option Float) BoundError → BoundReply
reply_of (Ok (Some x)) = some x
reply_of (Ok None) = no_bound 0
reply_of (Err e) = no_bound (refusal_number e)
