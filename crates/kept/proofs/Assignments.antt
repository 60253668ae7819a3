-- Two assignments are the same exactly when their words are: a run over padded words is the run over assignments.
use mathlib.Core.Path.{◌≡◌, refl, sym, subst}
use mathlib.Core.Bool.{Bool, true, false}
use Prim.Native.Nat.{ℕ, ◌-◌}
use lib.ListN.{length, replicate}
use lib.Ieee.{Float}
use Rattle.evaluate.specs.Segments.{Assignment}
use Rattle.evaluate.specs.Words.{encode}
use Rattle.evaluate.proofs.RoundTrips.{encode_apart}
use Rattle.search.specs.Keep.{Kept, Evaluated, score_of, same_assignment, same_evaluated, keep_one}
use Rattle.search.specs.Rooms.{pad_to, slot_words}
use Rattle.search.proofs.Same.{list_decides, words_decide, assignments_decide}
use Rattle.slots.specs.Inner.{held_score, same_held, same_words}
use Rattle.kept.specs.Inner.{held_as, map_kept}
use Rattle.kept.proofs.Mapped.{keep_one_map}

one_answer : (b c : Bool) → (b ≡ true → c ≡ true) → (c ≡ true → b ≡ true) → b ≡ c
one_answer true c f g = sym (f refl)
one_answer false true f g = g refl
one_answer false false f g = refl

-- two evaluations are the same exactly when their slots are
pub slots_same : (v : ℕ) (d e : Evaluated) → same_held (held_as v d) (held_as v e) ≡ same_evaluated d e
slots_same v d e =
    one_answer (same_words (slot_words v d) (slot_words v e)) (same_evaluated d e)
    (λ h. subst (λ (c : Assignment). same_assignment d.assignment c ≡ true)
    (encode_apart d.assignment e.assignment (replicate (v - length (encode d.assignment)) 0) (replicate (v - length (encode e.assignment)) 0) ((list_decides words_decide).is (slot_words v d) (slot_words v e) h))
    (assignments_decide.self d.assignment))
    (λ h. subst (λ (c : Assignment). same_words (slot_words v d) (pad_to v (encode c)) ≡ true) (assignments_decide.is d.assignment e.assignment h) ((list_decides words_decide).self (slot_words v d)))

-- one evaluation, and a run, over what is held in slots
pub held_one : (v m : ℕ) (width : Float) (t : Kept Evaluated) (e : Evaluated)
    → keep_one held_score same_held m width (map_kept (held_as v) t) (held_as v e) ≡ map_kept (held_as v) (keep_one score_of same_evaluated m width t e)
held_one v m width t e = keep_one_map (held_as v) score_of held_score same_evaluated same_held (λ a. refl) (slots_same v) m width t e
