-- Laws of the frames in a room, of the path that they make, and of the stack.
use Prim.Native.Nat.{ℕ, zero, suc, ◌+◌, ◌-◌, ◌*◌, ◌≤◌, ◌<◌}
use native.Mathlib.Nat.{add-zero, add-suc, not-suc-le-zero, eq-or-lt_of_le}
use native.Mathlib.Omega.{arith}
use native.Mathlib.Numerals.{add-one, add_eight, towards_suc}
use mathlib.Core.Path.{◌≡◌, refl, sym, ap, ap₂, ◌∙◌}
use mathlib.Core.Bool.{Bool, true, false, not, ◌&&◌}
use mathlib.Core.Logic.{◌⊎◌, inl, inr}
use mathlib.Core.List.{List, [], ◌∷◌, ◌++◌, append_assoc, append-nil}
use lib.Dec.{eqb}
use lib.ListN.{length, get_or, take, drop, length-append, take-append-drop}
use lib.Seq.{sets-eq, sets, take-add, drop-cons, length-sets, drop-drop}
use Rattle.std.specs.Prelude.{map}
use Rattle.std.specs.List.{range_with_len, list_all}
use Rattle.std.proofs.lemmas.List.FromFn.{map-range_with_len_more}
use Rattle.std.proofs.lemmas.List.Folds.{list_all-map}
use Rattle.ground.specs.Lists.{all}
use Rattle.evaluate.specs.declared.Segment.{Segment}
use Rattle.evaluate.specs.Segments.{Route, flat, overlap, clear}
use Rattle.evaluate.specs.Words.{bit}
use Rattle.search.specs.Walk.{Frame, on_path}
use Rattle.search.specs.Rooms.{frame_width, piece_here, frame_words, stack_words}
use Rattle.frames.specs.declared.Stored.{Stored}
use Rattle.frames.specs.Inner.{stored_words, put, stored_at, Path, no_path, piece_from, path_to, path_at, piece_at, pieces, apart_from, place_with, frame_with, frame_of, stack_of, Linked, Alike}
use Rattle.frames.proofs.Sets.{get_d_sets_lt, get_d_sets_in, drop_sets, take_sets}

-- ---- one frame

pub add_nine : (n : ℕ) → n + 9 ≡ suc (suc (suc (suc (suc (suc (suc (suc (suc n))))))))
add_nine n = add-suc n 8 ∙ ap suc (add_eight n)

pub length_put : (xs : List ℕ) (i : ℕ) (f : Stored) → length (put xs i f) ≡ length xs
unfolding put
length_put xs i f = length-sets xs (i * frame_width) (stored_words f)

bit_flag : (b : Bool) → eqb (bit b) 1 ≡ b
bit_flag true = refl
bit_flag false = refl

pub stored_same : (xs : List ℕ) (i : ℕ) (f : Stored) → (i + 1) * frame_width ≤ length xs → stored_at (put xs i f) i ≡ f
unfolding put stored_at
stored_same xs i f h =
    let w = stored_words f in
    let h0 : get_or (sets xs (i * frame_width) w) (i * frame_width) 0 ≡ f.slot = rw add-zero at (get_d_sets_in w xs (i * frame_width) 0 0 (omega arith) (omega arith)) in
    let h1 : get_or (sets xs (i * frame_width) w) (i * frame_width + 1) 0 ≡ f.source = get_d_sets_in w xs (i * frame_width) 1 0 (omega arith) (omega arith) in
    let h2 : get_or (sets xs (i * frame_width) w) (i * frame_width + 2) 0 ≡ f.cut = get_d_sets_in w xs (i * frame_width) 2 0 (omega arith) (omega arith) in
    let h3 : eqb (get_or (sets xs (i * frame_width) w) (i * frame_width + 3) 0) 1 ≡ f.reverse = rw (get_d_sets_in w xs (i * frame_width) 3 0 (omega arith) (omega arith)) (bit_flag f.reverse) in
    let h4 : eqb (get_or (sets xs (i * frame_width) w) (i * frame_width + 4) 0) 1 ≡ f.terminal = rw (get_d_sets_in w xs (i * frame_width) 4 0 (omega arith) (omega arith)) (bit_flag f.terminal) in
    let h5 : get_or (sets xs (i * frame_width) w) (i * frame_width + 5) 0 ≡ f.next = get_d_sets_in w xs (i * frame_width) 5 0 (omega arith) (omega arith) in
    let h6 : get_or (sets xs (i * frame_width) w) (i * frame_width + 6) 0 ≡ f.hub_next = get_d_sets_in w xs (i * frame_width) 6 0 (omega arith) (omega arith) in
    let h7 : get_or (sets xs (i * frame_width) w) (i * frame_width + 7) 0 ≡ f.hub_end = get_d_sets_in w xs (i * frame_width) 7 0 (omega arith) (omega arith) in
    let h8 : get_or (sets xs (i * frame_width) w) (i * frame_width + 8) 0 ≡ f.start = get_d_sets_in w xs (i * frame_width) 8 0 (omega arith) (omega arith) in
    let h9 : get_or (sets xs (i * frame_width) w) (i * frame_width + 9) 0 ≡ f.end = get_d_sets_in w xs (i * frame_width) 9 0 (omega arith) (omega arith) in
    λ k. record { slot = h0 k; source = h1 k; cut = h2 k; reverse = h3 k; terminal = h4 k; next = h5 k; hub_next = h6 k; hub_end = h7 k; start = h8 k; end = h9 k }

-- a frame of the same words
stored_from : (xs ys : List ℕ) (i : ℕ) → ((k : ℕ) → k < frame_width → get_or xs (i * frame_width + k) 0 ≡ get_or ys (i * frame_width + k) 0) → stored_at xs i ≡ stored_at ys i
unfolding stored_at
stored_from xs ys i at =
    let h0 : get_or xs (i * frame_width) 0 ≡ get_or ys (i * frame_width) 0 = rw add-zero at (at 0 (omega arith)) in
    let h1 = at 1 (omega arith) in
    let h2 = at 2 (omega arith) in
    let h3 = ap (λ (x : ℕ). eqb x 1) (at 3 (omega arith)) in
    let h4 = ap (λ (x : ℕ). eqb x 1) (at 4 (omega arith)) in
    let h5 = at 5 (omega arith) in
    let h6 = at 6 (omega arith) in
    let h7 = at 7 (omega arith) in
    let h8 = at 8 (omega arith) in
    let h9 = at 9 (omega arith) in
    λ k. record { slot = h0 k; source = h1 k; cut = h2 k; reverse = h3 k; terminal = h4 k; next = h5 k; hub_next = h6 k; hub_end = h7 k; start = h8 k; end = h9 k }

pub stored_below : (xs : List ℕ) (i j : ℕ) (f : Stored) → j < i → stored_at (put xs i f) j ≡ stored_at xs j
unfolding put
stored_below xs i j f h = stored_from (sets xs (i * frame_width) (stored_words f)) xs j (λ k l. get_d_sets_lt (stored_words f) xs (i * frame_width) (j * frame_width + k) 0 (omega arith))

-- words past the frame stay
pub drop_put : (xs : List ℕ) (i n : ℕ) (f : Stored) → (i + 1) * frame_width ≤ n → drop n (put xs i f) ≡ drop n xs
unfolding put
drop_put xs i n f h = drop_sets (stored_words f) xs (i * frame_width) n (omega arith)

-- words before it stay
pub take_put : (xs : List ℕ) (i n : ℕ) (f : Stored) → n ≤ i * frame_width → take n (put xs i f) ≡ take n xs
unfolding put
take_put xs i n f h = take_sets (stored_words f) xs (i * frame_width) n h

-- a frame put over another
pub put_again : (xs : List ℕ) (i : ℕ) (f g : Stored) → (i + 1) * frame_width ≤ length xs → put (put xs i f) i g ≡ put xs i g
unfolding put
put_again xs i f g h =
    put_as (put xs i f) i g (let e = length_put xs i f in omega arith)
    ∙ ap₂ (λ (a c : List ℕ). a ++ stored_words g ++ c) (take_put xs i (i * frame_width) f (omega arith)) (drop_put xs i (i * frame_width + 10) f (omega arith))
    ∙ sym (put_as xs i g h)
  where
    put_as : (ys : List ℕ) (j : ℕ) (e : Stored) → (j + 1) * frame_width ≤ length ys → put ys j e ≡ take (j * frame_width) ys ++ stored_words e ++ drop (j * frame_width + 10) ys
    put_as ys j e k = sets-eq (stored_words e) ys (j * frame_width) (omega arith)

-- ---- pieces

pub piece_is : (xs : List ℕ) (i : ℕ)
    → ◌≡◌ {A = Segment} (record { source = get_or xs (i * 10 + 1) 0; start = get_or xs (i * 10 + 10 + 8) 0; end = get_or xs (i * 10 + 10 + 9) 0; reverse = eqb (get_or xs (i * 10 + 3) 0) 1 }) (piece_at xs i)
unfolding piece_at stored_at
piece_is xs i = let e : suc i * 10 ≡ i * 10 + 10 = omega arith in rw e

pub pieces_length : (xs : List ℕ) (n : ℕ) → length (pieces xs n) ≡ n
unfolding pieces
pieces_length xs zero = refl
pieces_length xs (suc n) = length-append (pieces xs n) (piece_at xs n ∷ []) ∙ rw (pieces_length xs n) (omega arith)

pieces_are : (xs : List ℕ) (n : ℕ) → pieces xs n ≡ map (piece_at xs) (range_with_len 0 n)
unfolding pieces
pieces_are xs zero = refl
pieces_are xs (suc n) = ap (λ (l : List Segment). l ++ (piece_at xs n ∷ [])) (pieces_are xs n) ∙ sym (simp add-one at (map-range_with_len_more (piece_at xs) 0 n n (omega arith)))

all_so : (f : Segment → Bool) (l : List Segment) → list_all f l ≡ all f l
unfolding all
all_so f [] = refl
all_so f (s ∷ l) = ap (λ (b : Bool). f s && b) (all_so f l)

-- a chain that asks each piece's number
pub clear_of : (xs : List ℕ) (s : Segment) (n : ℕ) → list_all (λ i. apart_from s (piece_at xs i)) (range_with_len 0 n) ≡ clear s (pieces xs n)
unfolding apart_from
clear_of xs s n =
    let f : Segment → Bool = λ t. not (overlap s t) in
    sym (list_all-map f (piece_at xs) (range_with_len 0 n)) ∙ ap (list_all f) (sym (pieces_are xs n)) ∙ all_so f (pieces xs n)

-- ---- the path

path_is : (a : Path) (f g : Stored) (b : Bool) → eqb f.slot g.slot ≡ b → on_path (place_with (path_to a f g) g) ≡ (flat a.routes ++ a.route) ++ (piece_from f g ∷ [])
path_is a f g true e = rw e (sym (append_assoc (flat a.routes) a.route (piece_from f g ∷ [])))
path_is a f g false e = rw e (append-nil (flat (a.routes ++ ((a.route ++ (piece_from f g ∷ [])) ∷ []))) ∙ closed a.routes)
  where
    closed : (rs : List Route) → flat (rs ++ ((a.route ++ (piece_from f g ∷ [])) ∷ [])) ≡ (flat rs ++ a.route) ++ (piece_from f g ∷ [])
    closed [] = append-nil (a.route ++ (piece_from f g ∷ []))
    closed (r ∷ rs) = ap (λ (l : List Segment). r ++ l) (closed rs) ∙ simp append_assoc

-- the pieces on the path are those that lead from frame to frame
pub path_pieces : (xs : List ℕ) (i : ℕ) → flat (path_at xs i).routes ++ (path_at xs i).route ≡ pieces xs i
unfolding path_at pieces piece_at
path_pieces xs zero = refl
path_pieces xs (suc i) =
    path_is (path_at xs i) (stored_at xs i) (stored_at xs (suc i)) (eqb (stored_at xs i).slot (stored_at xs (suc i)).slot) refl
    ∙ ap (λ (l : List Segment). l ++ (piece_at xs i ∷ [])) (path_pieces xs i)

pub path_zero : (xs : List ℕ) → path_at xs 0 ≡ no_path
unfolding path_at
path_zero xs = refl

pub path_suc : (xs : List ℕ) (i : ℕ) → path_at xs (suc i) ≡ path_to (path_at xs i) (stored_at xs i) (stored_at xs (suc i))
unfolding path_at
path_suc xs i = refl

pub path_below : (xs : List ℕ) (i j : ℕ) (f : Stored) → j < i → path_at (put xs i f) j ≡ path_at xs j
path_below xs i zero f h = path_zero (put xs i f) ∙ sym (path_zero xs)
path_below xs i (suc j) f h =
    path_suc (put xs i f) j
    ∙ rw (path_below xs i j f (omega arith), stored_below xs i j f (omega arith), stored_below xs i (suc j) f h) (sym (path_suc xs j))

pub alike_path : (a : Path) (e f g : Stored) → Alike f g → path_to a e f ≡ path_to a e g
alike_path a e f g s = rw (s.slot, s.start, s.end)

pub path-at : (xs : List ℕ) (i : ℕ) (f : Stored) → (i + 1) * frame_width ≤ length xs → Alike f (stored_at xs i) → path_at (put xs i f) i ≡ path_at xs i
path-at xs zero f h s = path_zero (put xs 0 f) ∙ sym (path_zero xs)
path-at xs (suc i) f h s =
    path_suc (put xs (suc i) f) i
    ∙ (rw (path_below xs (suc i) i f (omega arith), stored_below xs (suc i) i f (omega arith), stored_same xs (suc i) f h)
    (alike_path (path_at xs i) (stored_at xs i) f (stored_at xs (suc i)) s ∙ sym (path_suc xs i)))

-- ---- the stack

pub stack_none : (xs : List ℕ) → stack_of xs 0 ≡ []
unfolding stack_of
stack_none xs = refl

pub stack_suc : (xs : List ℕ) (d : ℕ) → stack_of xs (suc d) ≡ frame_of xs d ∷ stack_of xs d
unfolding stack_of
stack_suc xs d = refl

pub stack_top : (xs : List ℕ) (d : ℕ) → 0 < d → stack_of xs d ≡ frame_of xs (d - 1) ∷ stack_of xs (d - 1)
stack_top xs zero h = absurd (not-suc-le-zero h)
stack_top xs (suc d) h =
    let e : suc d - 1 ≡ d = omega arith in
    rw e (stack_suc xs d)

pub length_stack : (xs : List ℕ) (d : ℕ) → length (stack_of xs d) ≡ d
unfolding stack_of
length_stack xs zero = refl
length_stack xs (suc d) = ap suc (length_stack xs d)

pub frame_below : (xs : List ℕ) (i j : ℕ) (f : Stored) → j < i → frame_of (put xs i f) j ≡ frame_of xs j
unfolding frame_of
frame_below xs i j f h = rw (path_below xs i j f h, stored_below xs i j f h)

-- a frame put at or above the top leaves the stack
pub stack_above : (xs : List ℕ) (d i : ℕ) (f : Stored) → d ≤ i → stack_of (put xs i f) d ≡ stack_of xs d
unfolding stack_of
stack_above xs zero i f h = refl
stack_above xs (suc d) i f h = ap₂ (λ (g : Frame) (s : List Frame). g ∷ s) (frame_below xs i d f h) (stack_above xs d i f (omega arith))

-- another top
pub stack_retop : (xs : List ℕ) (i : ℕ) (f : Stored) → (i + 1) * frame_width ≤ length xs → Alike f (stored_at xs i)
    → stack_of (put xs i f) (i + 1) ≡ frame_with (path_at xs i) f ∷ stack_of xs i
unfolding frame_of
stack_retop xs i f h s =
    rw add-one
    (stack_suc (put xs i f) i
    ∙ ap₂ (λ (g : Frame) (st : List Frame). g ∷ st) (rw (path-at xs i f h s, stored_same xs i f h)) (stack_above xs i i f (omega arith)))

-- a root
pub stack_root : (xs : List ℕ) (f : Stored) → frame_width ≤ length xs → stack_of (put xs 0 f) 1 ≡ frame_with no_path f ∷ []
unfolding frame_of
stack_root xs f h =
    stack_suc (put xs 0 f) 0
    ∙ ap₂ (λ (g : Frame) (st : List Frame). g ∷ st) (rw (path_zero (put xs 0 f), stored_same xs 0 f h)) (stack_none (put xs 0 f))

-- what leads on from a frame that leads as another
pub alike_below : (a : Path) (f g e : Stored) → Alike f g → path_to a f e ≡ path_to a g e
alike_below a f g e s = rw (s.slot, s.source, s.reverse)

-- the frame above the top
pub frame_push : (xs : List ℕ) (i : ℕ) (f : Stored) → (i + 2) * frame_width ≤ length xs → frame_of (put xs (i + 1) f) (i + 1) ≡ frame_with (path_to (path_at xs i) (stored_at xs i) f) f
unfolding frame_of
frame_push xs i f h =
    simp add-one
    (rw (path_suc (put xs (suc i) f) i, path_below xs (suc i) i f (omega arith), stored_below xs (suc i) i f (omega arith), stored_same xs (suc i) f (omega arith)))

-- another frame at the top leads as the one before
pub frame_retop : (xs : List ℕ) (i : ℕ) (f : Stored) → (i + 1) * frame_width ≤ length xs → Alike f (stored_at xs i) → frame_of (put xs i f) i ≡ frame_with (path_at xs i) f
unfolding frame_of
frame_retop xs i f h s = rw (path-at xs i f h s, stored_same xs i f h)

pub frame_root : (xs : List ℕ) (f : Stored) → frame_width ≤ length xs → frame_of (put xs 0 f) 0 ≡ frame_with no_path f
unfolding frame_of
frame_root xs f h = rw (path_zero (put xs 0 f), stored_same xs 0 f h)

-- a child above the top
pub stack_push : (xs : List ℕ) (i : ℕ) (f : Stored) → (i + 2) * frame_width ≤ length xs
    → stack_of (put xs (i + 1) f) (i + 1 + 1) ≡ frame_with (path_to (path_at xs i) (stored_at xs i) f) f ∷ stack_of xs (i + 1)
unfolding frame_of
stack_push xs i f h =
    simp add-one
    (stack_suc (put xs (suc i) f) (suc i)
    ∙ ap₂ (λ (g : Frame) (st : List Frame). g ∷ st)
    (rw (path_suc (put xs (suc i) f) i, path_below xs (suc i) i f (omega arith), stored_below xs (suc i) i f (omega arith), stored_same xs (suc i) f (omega arith)))
    (stack_above xs (suc i) (suc i) f (omega arith)))

-- ---- the room's words

ten : (xs : List ℕ) (b : ℕ) → b + 10 ≤ length xs
    → take 10 (drop b xs) ≡ get_or xs b 0 ∷ get_or xs (b + 1) 0 ∷ get_or xs (b + 2) 0 ∷ get_or xs (b + 3) 0 ∷ get_or xs (b + 4) 0 ∷ get_or xs (b + 5) 0 ∷ get_or xs (b + 6) 0 ∷ get_or xs (b + 7) 0 ∷ get_or xs (b + 8) 0 ∷ get_or xs (b + 9) 0 ∷ []
ten xs b h =
    simp (towards_suc, add_nine)
    (rw
    (drop-cons xs b 0 (omega arith), drop-cons xs (suc b) 0 (omega arith), drop-cons xs (suc (suc b)) 0 (omega arith), drop-cons xs (suc (suc (suc b))) 0 (omega arith), drop-cons xs (suc (suc (suc (suc b)))) 0 (omega arith), drop-cons xs (suc (suc (suc (suc (suc b))))) 0 (omega arith), drop-cons xs (suc (suc (suc (suc (suc (suc b)))))) 0 (omega arith), drop-cons xs (suc (suc (suc (suc (suc (suc (suc b))))))) 0 (omega arith), drop-cons xs (suc (suc (suc (suc (suc (suc (suc (suc b)))))))) 0 (omega arith), drop-cons xs (suc (suc (suc (suc (suc (suc (suc (suc (suc b))))))))) 0 (omega arith)))

pub linked_none : (xs : List ℕ) → Linked xs 0
linked_none xs = record { turned = λ i h. absurd (not-suc-le-zero h); waiting = λ i h. absurd (not-suc-le-zero h); root_start = λ h. absurd (not-suc-le-zero h); root_end = λ h. absurd (not-suc-le-zero h) }

pub linked_less : (xs : List ℕ) (d e : ℕ) → Linked xs d → e ≤ d → Linked xs e
linked_less xs d e k l = record { turned = λ i h. k.turned i (omega arith); waiting = λ i h. k.waiting i (omega arith); root_start = λ h. k.root_start (omega arith); root_end = λ h. k.root_end (omega arith) }

module _ (xs : List ℕ) (i : ℕ) (f : Stored) (room : (i + 1) * frame_width ≤ length xs) (k : Linked xs i) where
  turned_put : (j : ℕ) → (j ≡ i) ⊎ (j < i) → get_or (put xs i f) (j * frame_width + 3) 0 ≡ bit (stored_at (put xs i f) j).reverse
  unfolding put
  turned_put j (inl e) = rw (e, stored_same xs i f room) (get_d_sets_in (stored_words f) xs (i * frame_width) 3 0 (omega arith) (omega arith))
  turned_put j (inr l) = rw (stored_below xs i j f l) (get_d_sets_lt (stored_words f) xs (i * frame_width) (j * frame_width + 3) 0 (omega arith) ∙ k.turned j l)

  waiting_put : (j : ℕ) → (j ≡ i) ⊎ (j < i) → get_or (put xs i f) (j * frame_width + 4) 0 ≡ bit (stored_at (put xs i f) j).terminal
  unfolding put
  waiting_put j (inl e) = rw (e, stored_same xs i f room) (get_d_sets_in (stored_words f) xs (i * frame_width) 4 0 (omega arith) (omega arith))
  waiting_put j (inr l) = rw (stored_below xs i j f l) (get_d_sets_lt (stored_words f) xs (i * frame_width) (j * frame_width + 4) 0 (omega arith) ∙ k.waiting j l)

  -- a frame more, or another top: no piece leads to a root
  linked_put : (stored_at (put xs i f) 0).start ≡ 0 → (stored_at (put xs i f) 0).end ≡ 0 → Linked (put xs i f) (i + 1)
  linked_put s e =
      record {
        turned = λ j h. turned_put j (eq-or-lt_of_le (omega arith));
        waiting = λ j h. waiting_put j (eq-or-lt_of_le (omega arith));
        root_start = λ h. s;
        root_end = λ h. e;
      }

pub linked_root : (xs : List ℕ) (f : Stored) → frame_width ≤ length xs → f.start ≡ 0 → f.end ≡ 0 → Linked (put xs 0 f) 1
linked_root xs f h s e = linked_put xs 0 f h (linked_none xs) (rw (stored_same xs 0 f h) s) (rw (stored_same xs 0 f h) e)

pub linked_push : (xs : List ℕ) (i : ℕ) (f : Stored) → (i + 2) * frame_width ≤ length xs → Linked xs (i + 1) → Linked (put xs (i + 1) f) (i + 1 + 1)
linked_push xs i f h k =
    linked_put xs (i + 1) f (omega arith) k (rw (stored_below xs (i + 1) 0 f (omega arith)) (k.root_start (omega arith))) (rw (stored_below xs (i + 1) 0 f (omega arith)) (k.root_end (omega arith)))

pub linked_retop : (xs : List ℕ) (i : ℕ) (f : Stored) → (i + 1) * frame_width ≤ length xs → Alike f (stored_at xs i) → Linked xs (i + 1) → Linked (put xs i f) (i + 1)
linked_retop xs zero f h s k =
    linked_put xs 0 f h (linked_none xs) (rw (stored_same xs 0 f h) (s.start ∙ k.root_start (omega arith))) (rw (stored_same xs 0 f h) (s.end ∙ k.root_end (omega arith)))
linked_retop xs (suc i) f h s k =
    linked_put xs (suc i) f h (linked_less xs (suc i + 1) (suc i) k (omega arith)) (rw (stored_below xs (suc i) 0 f (omega arith)) (k.root_start (omega arith)))
    (rw (stored_below xs (suc i) 0 f (omega arith)) (k.root_end (omega arith)))

piece_last : (l : List Segment) (s : Segment) → piece_here (l ++ (s ∷ [])) ≡ s.start ∷ s.end ∷ []
piece_last [] s = refl
piece_last (a ∷ []) s = refl
piece_last (a ∷ b ∷ l) s = piece_last (b ∷ l) s

-- the words that a stored frame is read from
words_at : (xs : List ℕ) (i : ℕ)
    → ◌≡◌ {A = List ℕ} (get_or xs (i * 10) 0 ∷ get_or xs (i * 10 + 1) 0 ∷ get_or xs (i * 10 + 2) 0 ∷ get_or xs (i * 10 + 3) 0 ∷ get_or xs (i * 10 + 4) 0 ∷ get_or xs (i * 10 + 5) 0 ∷ get_or xs (i * 10 + 6) 0 ∷ get_or xs (i * 10 + 7) 0 ∷ get_or xs (i * 10 + 8) 0 ∷ get_or xs (i * 10 + 9) 0 ∷ [])
    ((stored_at xs i).slot ∷ (stored_at xs i).source ∷ (stored_at xs i).cut ∷ get_or xs (i * 10 + 3) 0 ∷ get_or xs (i * 10 + 4) 0 ∷ (stored_at xs i).next ∷ (stored_at xs i).hub_next ∷ (stored_at xs i).hub_end ∷ (stored_at xs i).start ∷ (stored_at xs i).end ∷ [])
unfolding stored_at
words_at xs i = refl

-- the last piece's words: those of the frame it leads to
piece_words : (xs : List ℕ) (i : ℕ) → Linked xs (suc i) → piece_here (pieces xs i) ≡ (stored_at xs i).start ∷ (stored_at xs i).end ∷ []
unfolding pieces piece_at
piece_words xs zero k = rw (k.root_start (omega arith), k.root_end (omega arith))
piece_words xs (suc i) k = piece_last (pieces xs i) (piece_at xs i)

frame-words : (xs : List ℕ) (i : ℕ) → Linked xs (suc i) → (i + 1) * frame_width ≤ length xs → take frame_width (drop (i * frame_width) xs) ≡ frame_words (frame_of xs i)
unfolding frame_of
frame-words xs i k h =
    rw (path_pieces xs i, piece_words xs i k, ← k.turned i (omega arith), ← k.waiting i (omega arith)) (ten xs (i * frame_width) (omega arith) ∙ words_at xs i)

-- a frame put where it stands changes nothing
pub put_stored : (xs : List ℕ) (i : ℕ) → (i + 1) * frame_width ≤ length xs → Linked xs (i + 1) → put xs i (stored_at xs i) ≡ xs
unfolding put
put_stored xs i h k =
    let words : stored_words (stored_at xs i) ≡ take 10 (drop (i * frame_width) xs) =
    rw (← k.turned i (omega arith), ← k.waiting i (omega arith)) (sym (ten xs (i * frame_width) (omega arith) ∙ words_at xs i)) in
    sets-eq (stored_words (stored_at xs i)) xs (i * frame_width) (omega arith)
    ∙ ap (λ (w : List ℕ). take (i * frame_width) xs ++ w ++ drop (i * frame_width + 10) xs) words
    ∙ append_assoc (take (i * frame_width) xs) (take 10 (drop (i * frame_width) xs)) (drop (i * frame_width + 10) xs)
    ∙ ap (λ (w : List ℕ). take (i * frame_width) xs ++ (take 10 (drop (i * frame_width) xs) ++ w)) (sym (drop-drop 10 (i * frame_width) xs))
    ∙ ap (λ (w : List ℕ). take (i * frame_width) xs ++ w) (take-append-drop 10 (drop (i * frame_width) xs)) ∙ take-append-drop (i * frame_width) xs

-- the words of the room's first frames are those of the stack
pub take_words : (xs : List ℕ) (d : ℕ) → Linked xs d → d * frame_width ≤ length xs → take (d * frame_width) xs ≡ stack_words (stack_of xs d)
unfolding stack_of stack_words
take_words xs zero k h = refl
take_words xs (suc d) k h =
    let e : suc d * frame_width ≡ d * frame_width + 10 = omega arith in
    rw e (take-add (d * frame_width) 10 xs ∙ ap₂ (λ (a b : List ℕ). a ++ b) (take_words xs d (linked_less xs (suc d) d k (omega arith)) (omega arith)) (frame-words xs d k (omega arith)))
