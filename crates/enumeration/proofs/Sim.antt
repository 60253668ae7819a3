-- A frame is a list of tasks that are left, and a unit does the first.
use Prim.Native.Nat.{ℕ, zero, suc, ◌-◌, ◌≤◌, ◌<◌}
use native.Mathlib.Omega.{arith}
use mathlib.Core.Path.{◌≡◌, refl, sym, ◌∙◌, ap, subst}
use mathlib.Core.List.{List, [], ◌∷◌, ◌++◌, map, reverse, reverse-append}
use mathlib.Core.Bool.{Bool, true≢false, true, false, ◌||◌}
use lib.Dec.{ltb, eqb, eqb-suc-zero}
use lib.ListN.{length, take, drop, get_or, length-take, drop_of_length-le}
use lib.Seq.{slice, slice-cons, drop-cons, take-suc}
use borrow.Author.Tests.{ltb-true, ltb-false, eqb-true}
use Rattle.ground.specs.Lists.{pick, count, one_more_if}
use Rattle.storage.specs.declared.Port.{Port}
use Rattle.storage.specs.Records.{no_port, same_turn}
use Rattle.storage.specs.Orders.{word_up_to, bucket_of}
use Rattle.image.specs.Panel.{Panel}
use Rattle.graph.specs.Lookups.{bucket_lo, bucket_hi}
use Rattle.search.specs.Walk.{pass, Place, Frame, Doing, Act, leave, doing, enter, unit_of, hub_unit, port_unit, terminal_task, member_task, ports_here, first_port, outgoing, behind, onward, next_port, spent, opening}

-- the ports still to come, in the order of the walk
abbrev pub ports_in : List Port → Bool → ℕ → List Port
ports_in l false n = drop (n - 1) l
ports_in l true n = reverse (take n l)

abbrev pub ports_left : Panel → Place → Bool → ℕ → List Port
ports_left p a r n = ports_in (ports_here p a) r n

-- the members lo to hi of the hub, and its closing
abbrev pub hub_tasks : Panel → Place → Port → ℕ → ℕ → List Doing
hub_tasks p a out lo hi = pick (ltb 0 hi) (map (member_task p a out) (slice lo hi p.hub) ++ (pass ∷ [])) []

abbrev pub port_tasks : Panel → Place → Port → List Doing
port_tasks p a q = pass ∷ pick (same_turn q.reverse a.reverse) (hub_tasks p a q (bucket_lo p q.word) (bucket_hi p q.word)) []

abbrev pub over : Panel → Place → List Port → List Doing
over p a [] = []
over p a (q ∷ qs) = port_tasks p a q ++ over p a qs

unfoldable pub tasks_of : Panel → List ℕ → Place → List Doing
tasks_of p paths a = terminal_task p paths a ∷ over p a (ports_left p a a.reverse (first_port p a a.reverse))

abbrev pub remaining : Panel → List ℕ → Frame → List Doing
remaining p paths f = pick f.terminal (terminal_task p paths f.place ∷ []) []
    ++ (hub_tasks p f.place (outgoing p f) f.hub_next f.hub_end ++ over p f.place (ports_left p f.place f.place.reverse f.next))

pub enter_tasks : (p : Panel) (paths : List ℕ) (a : Place) → remaining p paths (enter p a) ≡ tasks_of p paths a
unfolding enter tasks_of
enter_tasks p paths a = refl

-- what always holds of a frame
abbrev pub NextIn : Bool → ℕ → ℕ → Type 0
NextIn false n m = 1 ≤ n
NextIn true n m = n ≤ m

pub record Good (p : Panel) (f : Frame) : Type 0 where
  pub hub : f.hub_end ≤ length p.hub
  pub next : NextIn f.place.reverse f.next (length (ports_here p f.place))

abbrev pub Does : Panel → List ℕ → Frame → Act → Type 0
Does p paths f leave = remaining p paths f ≡ []
Does p paths f (doing t g) = (remaining p paths f ≡ t ∷ remaining p paths g) × Good p g × (g.place ≡ f.place)

-- counting
pub count_le : {A : Type 0} (t : A → Bool) (l : List A) → count t l ≤ length l
unfolding count
count_le t [] = omega arith
count_le t (a ∷ l) = go (t a) (count_le t l)
  where
    go : (b : Bool) → count t l ≤ length l → one_more_if b (count t l) ≤ suc (length l)
    go true h = omega arith
    go false h = omega arith

abbrev frame : Place → ℕ → ℕ → ℕ → Frame
frame a n lo hi = record { place = a; terminal = false; next = n; hub_next = lo; hub_end = hi }

module _ (p : Panel) (paths : List ℕ) where
  hub_cons : (a : Place) (out : Port) (lo hi : ℕ) → ltb 0 hi ≡ true → lo < hi → hi ≤ length p.hub
      → hub_tasks p a out lo hi ≡ member_task p a out (get_or p.hub lo no_port) ∷ hub_tasks p a out (suc lo) hi
  hub_cons a out lo hi e l h = rw (e, slice-cons lo hi p.hub no_port l h)

  hub-end : (a : Place) (out : Port) (lo hi : ℕ) → ltb 0 hi ≡ true → hi ≤ lo → hub_tasks p a out lo hi ≡ pass ∷ []
  hub-end a out lo hi e l = rw (e, drop_of_length-le (take hi p.hub) {i = lo} (simp length-take (omega arith)))

  hub_does : (a : Place) (n lo hi : ℕ) (h : Good p (frame a n lo hi))
      → ltb 0 hi ≡ true → Does p paths (frame a n lo hi) (hub_unit p (frame a n lo hi))
  unfolding hub_unit
  hub_does a n lo hi h e = go (ltb lo hi) refl
    where
      f : Frame
      f = frame a n lo hi

      rest : List Doing
      rest = over p a (ports_left p a a.reverse n)

      go : (b : Bool) → ltb lo hi ≡ b → Does p paths f (hub_unit p f)
      go true c = rw c (ap (λ l. l ++ rest) (hub_cons a (outgoing p f) lo hi e (ltb-true lo hi c) h.hub), record { hub = h.hub; next = h.next }, refl)
      go false c = rw c (ap (λ l. l ++ rest) (hub-end a (outgoing p f) lo hi e (ltb-false lo hi c)), record { hub = omega arith; next = h.next }, refl)

  -- the next port
  ports_next : (l : List Port) (r : Bool) (n : ℕ) → 1 ≤ n → n ≤ length l → ports_in l r n ≡ get_or l (n - 1) no_port ∷ ports_in l r (onward r n)
  ports_next l false n h k = let e : suc (n - 1) ≡ suc n - 1 = omega arith in
      drop-cons l (n - 1) no_port (omega arith) ∙ ap (λ i. get_or l (n - 1) no_port ∷ drop i l) e
  ports_next l true n h k = let e : n ≡ suc (n - 1) = omega arith in ap (λ i. reverse (take i l)) e ∙ ap reverse (take-suc l (n - 1) no_port (omega arith)) ∙ reverse-append (take (n - 1) l) (get_or l (n - 1) no_port ∷ [])

  ports_over : (l : List Port) (r : Bool) (n : ℕ) → NextIn r n (length l) → (eqb n 0 || ltb (length l) n) ≡ true → ports_in l r n ≡ []
  ports_over l false n h e = go (eqb n 0) refl
    where
      go : (b : Bool) → eqb n 0 ≡ b → drop (n - 1) l ≡ []
      go true c = let z : n ≡ 0 = eqb-true n 0 c in let x : ⊥ = omega arith in absurd x
      go false c = let d : length l < n = ltb-true (length l) n (rw c at e) in drop_of_length-le l {i = n - 1} (omega arith)
  ports_over l true n h e = go (eqb n 0) refl
    where
      go : (b : Bool) → eqb n 0 ≡ b → reverse (take n l) ≡ []
      go true c = let z : n ≡ 0 = eqb-true n 0 c in rw z refl
      go false c = let d : length l < n = ltb-true (length l) n (rw c at e) in let x : ⊥ = omega arith in absurd x

  ports_more : (m n : ℕ) → (eqb n 0 || ltb m n) ≡ false → (1 ≤ n) × (n ≤ m)
  ports_more m zero e = absurd (true≢false e)
  ports_more m (suc n) e = (omega arith, ltb-false m (suc n) (rw (eqb-suc-zero n) at e))

  last_onward : (r : Bool) (n : ℕ) → 1 ≤ n → behind r (onward r n) ≡ n - 1
  last_onward false n h = omega arith
  last_onward true n h = refl

  next_onward : (r : Bool) (n m : ℕ) → NextIn r n m → NextIn r (onward r n) m
  next_onward false n m h = omega arith
  next_onward true n m h = omega arith

  port_does : (a : Place) (n lo hi : ℕ) (h : Good p (frame a n lo hi))
      → ltb 0 hi ≡ false → Does p paths (frame a n lo hi) (port_unit p (frame a n lo hi))
  unfolding port_unit bucket_of
  port_does a n lo hi h e = go (spent p f) refl
    where
      f : Frame
      f = frame a n lo hi

      l : List Port
      l = ports_here p a

      q : Port
      q = next_port p f

      go : (b : Bool) → spent p f ≡ b → Does p paths f (port_unit p f)
      go true c = rw (c, e) (ap (over p a) (ports_over l a.reverse n h.next c))
      go false c = rw (c, e) (shape (ports_more (length l) n c) (same_turn q.reverse a.reverse) refl)
        where
          shape : (1 ≤ n) × (n ≤ length l) → (b : Bool) → same_turn q.reverse a.reverse ≡ b
              → (over p a (ports_in l a.reverse n) ≡ pass ∷ remaining p paths (opening p f q)) × Good p (opening p f q) × ((opening p f q).place ≡ a)
          shape m true t = rw t (
            ap (over p a) (ports_next l a.reverse n m.0 m.1) ∙ rw (t, last_onward a.reverse n m.0) refl,
            record { hub = count_le (word_up_to q.word) p.hub; next = next_onward a.reverse n (length l) h.next },
            refl,
          )
          shape m false t = rw t (
            ap (over p a) (ports_next l a.reverse n m.0 m.1) ∙ rw t refl,
            record { hub = omega arith; next = next_onward a.reverse n (length l) h.next },
            refl,
          )

  unit_at : (a : Place) (b : Bool) (n lo hi : ℕ) → Good p (record { place = a; terminal = b; next = n; hub_next = lo; hub_end = hi })
      → Does p paths (record { place = a; terminal = b; next = n; hub_next = lo; hub_end = hi }) (unit_of p paths (record { place = a; terminal = b; next = n; hub_next = lo; hub_end = hi }))
  unfolding unit_of
  unit_at a true n lo hi h = (refl, record { hub = h.hub; next = h.next }, refl)
  unit_at a false n lo hi h = go (ltb 0 hi) refl
    where
      go : (b : Bool) → ltb 0 hi ≡ b
          → Does p paths (frame a n lo hi) (unit_of p paths (frame a n lo hi))
      go true c = subst (λ t. Does p paths (frame a n lo hi)
          (pick t (hub_unit p (frame a n lo hi)) (port_unit p (frame a n lo hi))))
          (sym c) (hub_does a n lo hi h c)
      go false c = subst (λ t. Does p paths (frame a n lo hi)
          (pick t (hub_unit p (frame a n lo hi)) (port_unit p (frame a n lo hi))))
          (sym c) (port_does a n lo hi h c)

  -- a unit does the first task that is left
  pub unit_does : (f : Frame) → Good p f → Does p paths f (unit_of p paths f)
  unit_does f h = unit_at f.place f.terminal f.next f.hub_next f.hub_end h
