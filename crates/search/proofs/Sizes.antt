-- The rooms' records have the widths that 01 states.
use Prim.Native.Nat.{ℕ, suc, ◌-◌, ◌*◌, ◌≤◌}
use native.Mathlib.Omega.{arith}
use native.Mathlib.Nat.{suc-mul}
use mathlib.Core.Path.{◌≡◌, refl, ap, ◌∙◌}
use mathlib.Core.List.{List, [], ◌∷◌}
use lib.ListN.{length, replicate, length-append, length-replicate}
use Rattle.evaluate.specs.declared.Segment.{Segment}
use Rattle.search.specs.Walk.{Frame, on_path}
use Rattle.search.specs.Rooms.{pad_to, frame_width, piece_here, frame_words, stack_words}

piece_length : (l : List Segment) → length (piece_here l) ≡ 2
piece_length [] = refl
piece_length (s ∷ []) = refl
piece_length (s ∷ t ∷ l) = piece_length (t ∷ l)

-- a record is 10 words
pub frame_length : (f : Frame) → length (frame_words f) ≡ frame_width
frame_length f = ap (λ (n : ℕ). suc (suc (suc (suc (suc (suc (suc (suc n)))))))) (piece_length (on_path f.place))

-- For the reader: the frames left stand record behind record
pub stack_length : (l : List Frame) → length (stack_words l) ≡ length l * frame_width
unfolding stack_words
stack_length [] = refl
stack_length (f ∷ l) = length-append (stack_words l) (frame_words f) ∙ rw (stack_length l, frame_length f, suc-mul) (omega arith)

-- with zeros behind, a list has the length asked for, where it is not longer
pub pad_length : (n : ℕ) (l : List ℕ) → length l ≤ n → length (pad_to n l) ≡ n
pad_length n l h = length-append l (replicate (n - length l) 0) ∙ rw (length-replicate {A = ℕ} (n - length l) 0) (omega arith)
