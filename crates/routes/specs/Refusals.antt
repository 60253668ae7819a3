-- The documented numbers of what is refused of a route, and its place: what the code's answers say.
use Rattle.std.specs.Prelude.{ℕ, Result, Ok, Err}
use Rattle.evaluate.specs.declared.Refusal.{Refusal}
use Rattle.evaluate.specs.Refusals.{no_refusal}
use Rattle.routes.specs.declared.RouteRefusal.{RouteRefusal}
use Rattle.routes.specs.declared.RouteRefusal.TheVariants.{Empty, Span, Ends, NoExit, NoEntry, Words}
use Rattle.routes.specs.declared.RefusedRoute.{RefusedRoute}

abbrev pub number_of : RouteRefusal → ℕ
number_of Empty = 25
number_of Span = 26
number_of Ends = 27
number_of NoExit = 28
number_of NoEntry = 29
number_of Words = 30

-- 0 where nothing is refused
abbrev pub refusal_of : Result (Unit {0}) RouteRefusal → ℕ
refusal_of (Ok u) = 0
refusal_of (Err e) = number_of e

-- with the number of the route
abbrev pub refused_of : Result (Unit {0}) RefusedRoute → Refusal
refused_of (Ok u) = no_refusal
refused_of (Err e) = record { number = number_of e.why; place = e.route }
