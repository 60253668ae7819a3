-- A test of two lists, one behind the other.
use mathlib.Core.Path.{◌≡◌, refl, sym, ap, ◌∙◌}
use mathlib.Core.Bool.{Bool, true, false, not, ◌&&◌}
use mathlib.Core.List.{List, [], ◌∷◌, ◌++◌}
use Rattle.ground.specs.Lists.{all}
use Rattle.evaluate.specs.declared.Segment.{Segment}
use Rattle.evaluate.specs.Segments.{overlap, clear}

pub and_assoc : (a b c : Bool) → ((a && b) && c) ≡ (a && (b && c))
and_assoc true b c = refl
and_assoc false b c = refl

pub all_append : {A : Type 0} (f : A → Bool) (l m : List A) → all f (l ++ m) ≡ (all f l && all f m)
unfolding all
all_append f [] m = refl
all_append f (a ∷ l) m = ap (λ (b : Bool). f a && b) (all_append f l m) ∙ sym (and_assoc (f a) (all f l) (all f m))

pub clear_append : (s : Segment) (l m : List Segment) → clear s (l ++ m) ≡ (clear s l && clear s m)
clear_append s l m = all_append (λ t. not (overlap s t)) l m
