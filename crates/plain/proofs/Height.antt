-- How high the stack of a depth-first walk grows, and what a walk of bounded depth tells.
use Prim.Native.Nat.{ℕ, zero, suc, ◌+◌, ◌≤◌, ◌<◌, max}
use native.Mathlib.Omega.{arith}
use native.Mathlib.Nat.{not-suc-le-zero, zero-add, suc-add}
use native.Mathlib.Decide.{dec_lt}
use mathlib.Core.Path.{◌≡◌, refl, sym, ◌∙◌, ap}
use mathlib.Core.Bool.{true}
use mathlib.Core.List.{List, [], ◌∷◌, ◌++◌, map, append_assoc, append-nil, Memᴰ}
use lib.ListN.{length}
use lib.Seq.{append_snoc}
use Rattle.search.specs.Walk.{Task, pass, down, give}
use Rattle.enumeration.proofs.Tree.{State, at, one, iter, iter_add, through, enum}
use Rattle.plain.specs.Steps.{Mark, gives, too_deep, goes_too_deep}
use Rattle.plain.proofs.Marks.{deep_left, deep_right}

module _ {N X : Type 0} (tasks : N → List (Task N X)) where
  abbrev pub tall : State N X → ℕ
  tall (at st out) = length st

  -- the highest stack within the first n units, before each
  abbrev pub peak : ℕ → State N X → ℕ
  peak zero s = 0
  peak (suc n) s = max (tall s) (peak n (one tasks s))

  peak_add : (m n : ℕ) (s : State N X) → peak (m + n) s ≡ max (peak m s) (peak n (iter tasks m s))
  peak_add zero n s = rw zero-add (omega arith)
  peak_add (suc m) n s = rw suc-add (let h = peak_add m n (one tasks s) in omega arith)

  -- ---- the height of a node

  abbrev pub highest : (N → ℕ) → List (Task N X) → ℕ
  highest k [] = 0
  highest k (pass ∷ ts) = highest k ts
  highest k (down a ∷ ts) = max (k a) (highest k ts)
  highest k (give x ∷ ts) = highest k ts

  abbrev pub height : ℕ → N → ℕ
  height zero a = 0
  height (suc d) a = suc (highest (height d) (tasks a))

  -- a run from one state to another, on which the stack grows so high
  pub record Climb (s t : State N X) (h : ℕ) : Type 0 where
    pub units : ℕ
    pub ends : iter tasks units s ≡ t
    pub top : peak units s ≡ h

  climb_on : (s : State N X) {t : State N X} {h : ℕ} → Climb (one tasks s) t h → Climb s t (max (tall s) h)
  climb_on s c = record { units = suc c.units; ends = c.ends; top = (let e = c.top in omega arith) }

  climb_then : {s t u : State N X} {h k : ℕ} → Climb s t h → Climb t u k → Climb s u (max h k)
  climb_then {s} {t} {u} {h} {k} c d =
      let e : peak (c.units + d.units) s ≡ max (peak c.units s) (peak d.units (iter tasks c.units s)) = peak_add c.units d.units s in
      let x : peak d.units (iter tasks c.units s) ≡ k = ap (peak d.units) c.ends ∙ d.top in
      let y = c.top in
      record {
        units = c.units + d.units;
        ends = iter_add tasks c.units d.units s ∙ ap (iter tasks d.units) c.ends ∙ d.ends;
        top = omega arith;
      }

  climb_of : {s t : State N X} {h k : ℕ} → Climb s t h → h ≡ k → Climb s t k
  climb_of c e = record { units = c.units; ends = c.ends; top = c.top ∙ e }

  module _ (Ok : N → Type 0) (μ : N → ℕ) (falls : (a b : N) → Ok a → Memᴰ (down b) (tasks a) → Ok b × (μ b < μ a)) where
    -- a list of tasks, where the nodes below are done as g says and are as high as k says
    climb_list : (d : ℕ) (g : N → List X) (k : N → ℕ)
        → ((b : N) → Ok b × (μ b < d) → (rest : List (List (Task N X))) (out : List X) → Climb (at (tasks b ∷ rest) out) (at rest (out ++ g b)) (length rest + k b))
        → (ts : List (Task N X)) → ((b : N) → Memᴰ (down b) ts → Ok b × (μ b < d))
        → (rest : List (List (Task N X))) (out : List X) → Climb (at (ts ∷ rest) out) (at rest (out ++ through tasks g ts)) (length rest + suc (highest k ts))
    climb_list d g k ih [] fits rest out = climb_of (climb_on (at ([] ∷ rest) out) (record { units = 0; ends = rw append-nil refl; top = refl })) (omega arith)
    climb_list d g k ih (pass ∷ ts) fits rest out =
        climb_of (climb_on (at ((pass ∷ ts) ∷ rest) out) (climb_list d g k ih ts (λ b m. fits b (Memᴰ.tail m)) rest out)) (omega arith)
    climb_list d g k ih (down a ∷ ts) fits rest out =
        climb_of (climb_on (at ((down a ∷ ts) ∷ rest) out)
        (climb_then {k = length rest + suc (highest k ts)} (ih a (fits a (Memᴰ.head refl)) (ts ∷ rest) out) (rw (← append_assoc) (climb_list d g k ih ts (λ b m. fits b (Memᴰ.tail m)) rest (out ++ g a)))))
        (omega arith)
    climb_list d g k ih (give x ∷ ts) fits rest out =
        climb_of (climb_on (at ((give x ∷ ts) ∷ rest) out) {h = length rest + suc (highest k ts)}
        (rw (← (append_snoc out x (through tasks g ts))) (climb_list d g k ih ts (λ b m. fits b (Memᴰ.tail m)) rest (out ++ (x ∷ [])))))
        (omega arith)

    -- a node's walk hands over what the enumerator says, and grows as high as the node is
    pub climb_node : (d : ℕ) (a : N) → Ok a × (μ a < d) → (rest : List (List (Task N X))) (out : List X)
        → Climb (at (tasks a ∷ rest) out) (at rest (out ++ enum tasks d a)) (length rest + height d a)
    climb_node zero a h = absurd (not-suc-le-zero h.1)
    climb_node (suc d) a h = climb_list d (enum tasks d) (height d) (climb_node d) (tasks a) (λ b m. let l = falls a b h.0 m in (l.0, omega arith))

  -- ---- the walk of bounded depth

  abbrev pub task_marks_of : (N → List (Mark X)) → Task N X → List (Mark X)
  task_marks_of g pass = []
  task_marks_of g (down a) = g a
  task_marks_of g (give x) = gives x ∷ []

  abbrev pub marks_through : (N → List (Mark X)) → List (Task N X) → List (Mark X)
  marks_through g [] = []
  marks_through g (t ∷ ts) = task_marks_of g t ++ marks_through g ts

  abbrev pub marks : ℕ → N → List (Mark X)
  marks zero a = too_deep ∷ []
  marks (suc d) a = marks_through (marks d) (tasks a)

  map_append : (l m : List X) → map gives (l ++ m) ≡ map gives l ++ map gives m
  map_append [] m = refl
  map_append (x ∷ l) m = ap (λ r. gives x ∷ r) (map_append l m)

  marks_all : (d : ℕ) (g : N → List (Mark X)) (e : N → List X) (k : N → ℕ)
      → (ts : List (Task N X)) → ((b : N) → Memᴰ (down b) ts → k b ≤ d → g b ≡ map gives (e b)) → highest k ts ≤ d → marks_through g ts ≡ map gives (through tasks e ts)
  marks_all d g e k [] ih h = refl
  marks_all d g e k (pass ∷ ts) ih h = marks_all d g e k ts (λ b m. ih b (Memᴰ.tail m)) h
  marks_all d g e k (down b ∷ ts) ih h =
      rw (ih b (Memᴰ.head refl) (omega arith), marks_all d g e k ts (λ b m. ih b (Memᴰ.tail m)) (omega arith)) (sym (map_append (e b) (through tasks e ts)))
  marks_all d g e k (give x ∷ ts) ih h = ap (λ r. gives x ∷ r) (marks_all d g e k ts (λ b m. ih b (Memᴰ.tail m)) h)

  marks_deep : (d : ℕ) (g : N → List (Mark X)) (k : N → ℕ) → ((b : N) → d < k b → goes_too_deep (g b) ≡ true)
      → (ts : List (Task N X)) → d < highest k ts → goes_too_deep (marks_through g ts) ≡ true
  marks_deep d g k ih [] h = absurd (not-suc-le-zero h)
  marks_deep d g k ih (pass ∷ ts) h = marks_deep d g k ih ts h
  marks_deep d g k ih (down b ∷ ts) h = go (dec_lt d (k b)) (marks_deep d g k ih ts)
    where
      go : Dec (d < k b) → (d < highest k ts → goes_too_deep (marks_through g ts) ≡ true) → goes_too_deep (g b ++ marks_through g ts) ≡ true
      go (yes l) r = deep_left (g b) (marks_through g ts) (ih b l)
      go (no l) r = deep_right (g b) (marks_through g ts) (r (omega arith))
  marks_deep d g k ih (give x ∷ ts) h = deep_right (gives x ∷ []) (marks_through g ts) (marks_deep d g k ih ts h)

  module _ (Ok : N → Type 0) (μ : N → ℕ) (falls : (a b : N) → Ok a → Memᴰ (down b) (tasks a) → Ok b × (μ b < μ a)) where
    -- at most so high: all is given
    pub marks_are : (d n : ℕ) (a : N) → Ok a × (μ a < n) → height n a ≤ d → marks d a ≡ map gives (enum tasks n a)
    marks_are d zero a p h = absurd (not-suc-le-zero p.1)
    marks_are zero (suc n) a p h = absurd (not-suc-le-zero h)
    marks_are (suc d) (suc n) a p h =
        marks_all d (marks d) (enum tasks n) (height n) (tasks a) (λ b m. marks_are d n b (let l = falls a b p.0 m in (l.0, omega arith))) (omega arith)

  -- higher: one lies too deep
  pub marks_over : (d n : ℕ) (a : N) → d < height n a → goes_too_deep (marks d a) ≡ true
  unfolding goes_too_deep
  marks_over d zero a h = absurd (not-suc-le-zero h)
  marks_over zero (suc n) a h = refl
  marks_over (suc d) (suc n) a h = marks_deep d (marks d) (height n) (marks_over d n) (tasks a) (omega arith)
