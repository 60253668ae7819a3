-- A depth-first walk with a stack, and what it hands over: a node is a list of tasks, and a unit does the first task of the top list.
use Prim.Native.Nat.{ℕ, zero, suc, ◌+◌, ◌<◌}
use native.Mathlib.Nat.{not-suc-le-zero, zero-add, suc-add}
use native.Mathlib.Omega.{arith}
use mathlib.Core.Path.{◌≡◌, refl, ◌∙◌, ap, subst}
use lib.Seq.{append_snoc}
use Rattle.evaluate.specs.Properties.{Pairs}
use Rattle.search.specs.Walk.{Task, pass, down, give}
use Rattle.evaluate.proofs.Lists.{pairs_append, mem_each}
use mathlib.Core.Logic.{◌⊎◌, inl, inr, ◌↔◌}
use mathlib.Core.List.Memᴰ
use mathlib.Core.List.{List, [], ◌∷◌, ◌++◌, append_assoc, append-nil, Memᴰ}

pub data State (N X : Type 0) : Type 0 where
  at : List (List (Task N X)) → List X → State N X

-- no member twice
abbrev pub NoDup : {A : Type 0} → List A → Type 0
NoDup l = Pairs (λ a b. a ≡ b → ⊥) l

module _ {N X : Type 0} (tasks : N → List (Task N X)) where
  abbrev pub one : State N X → State N X
  one (at [] out) = at [] out
  one (at ([] ∷ rest) out) = at rest out
  one (at ((pass ∷ ts) ∷ rest) out) = at (ts ∷ rest) out
  one (at ((down a ∷ ts) ∷ rest) out) = at (tasks a ∷ ts ∷ rest) out
  one (at ((give x ∷ ts) ∷ rest) out) = at (ts ∷ rest) (out ++ (x ∷ []))

  abbrev pub iter : ℕ → State N X → State N X
  iter zero s = s
  iter (suc n) s = iter n (one s)

  -- what the tasks hand over, where g says what a node does
  abbrev pub through : (N → List X) → List (Task N X) → List X
  through g [] = []
  through g (pass ∷ ts) = through g ts
  through g (down a ∷ ts) = g a ++ through g ts
  through g (give x ∷ ts) = x ∷ through g ts

  abbrev pub enum : ℕ → N → List X
  enum zero a = []
  enum (suc d) a = through (enum d) (tasks a)

  -- ---- runs

  abbrev pub Run : State N X → State N X → Type 0
  Run s t = (n : ℕ) × (iter n s ≡ t)

  pub first : (s : State N X) {t : State N X} → Run (one s) t → Run s t
  first s r = (suc r.0, r.1)

  pub iter_add : (m n : ℕ) (s : State N X) → iter (m + n) s ≡ iter n (iter m s)
  iter_add zero n s = rw zero-add refl
  iter_add (suc m) n s = rw suc-add (iter_add m n (one s))

  pub joined : {s t u : State N X} → Run s t → Run t u → Run s u
  joined {s} r q = (r.0 + q.0, iter_add r.0 q.0 s ∙ ap (iter q.0) r.1 ∙ q.1)

  -- ---- the machine does what the enumerator says

  module _ (Ok : N → Type 0) (μ : N → ℕ) (falls : (a b : N) → Ok a → Memᴰ (down b) (tasks a) → Ok b × (μ b < μ a)) where
    -- a list of tasks, where the nodes below are done as g says
    pub run_list : (d : ℕ) (g : N → List X)
        → ((b : N) → Ok b × (μ b < d) → (rest : List (List (Task N X))) (out : List X) → Run (at (tasks b ∷ rest) out) (at rest (out ++ g b)))
        → (ts : List (Task N X)) → ((b : N) → Memᴰ (down b) ts → Ok b × (μ b < d))
        → (rest : List (List (Task N X))) (out : List X) → Run (at (ts ∷ rest) out) (at rest (out ++ through g ts))
    run_list d g ih [] fits rest out = first (at ([] ∷ rest) out) (0, rw append-nil refl)
    run_list d g ih (pass ∷ ts) fits rest out = first (at ((pass ∷ ts) ∷ rest) out) (run_list d g ih ts (λ b m. fits b (Memᴰ.tail m)) rest out)
    run_list d g ih (down a ∷ ts) fits rest out = first (at ((down a ∷ ts) ∷ rest) out)
        (joined (ih a (fits a (Memᴰ.head refl)) (ts ∷ rest) out) (rw (← append_assoc) (run_list d g ih ts (λ b m. fits b (Memᴰ.tail m)) rest (out ++ g a))))
    run_list d g ih (give x ∷ ts) fits rest out = first (at ((give x ∷ ts) ∷ rest) out)
        (rw (← (append_snoc out x (through g ts))) (run_list d g ih ts (λ b m. fits b (Memᴰ.tail m)) rest (out ++ (x ∷ []))))

    pub run_node : (d : ℕ) (a : N) → Ok a × (μ a < d) → (rest : List (List (Task N X))) (out : List X) → Run (at (tasks a ∷ rest) out) (at rest (out ++ enum d a))
    run_node zero a h = absurd (not-suc-le-zero h.1)
    run_node (suc d) a h = run_list d (enum d) (run_node d) (tasks a) (λ b m. let l = falls a b h.0 m in (l.0, omega arith))

  -- ---- exactly the leaves of the tree

  pub data Gives (x : X) : N → Type 0 where
    here : {a : N} → Memᴰ (give x) (tasks a) → Gives x a
    below : {a b : N} → Memᴰ (down b) (tasks a) → Gives x b → Gives x a

  -- a task yields x
  abbrev pub Yields : X → Task N X → Type 0
  Yields x pass = ⊥
  Yields x (down b) = Gives x b
  Yields x (give y) = x ≡ y

  pub through_sound : (g : N → List X) → ((b : N) (x : X) → Memᴰ x (g b) → Gives x b)
      → (ts : List (Task N X)) (x : X) → Memᴰ x (through g ts) → (t : Task N X) × Memᴰ t ts × Yields x t
  through_sound g ih [] x m = absurd (Memᴰ.not-nil m)
  through_sound g ih (pass ∷ ts) x m = let r = through_sound g ih ts x m in (r.0, Memᴰ.tail r.1, r.2)
  through_sound g ih (down b ∷ ts) x m = go (through_sound g ih ts x) (Memᴰ.append_cases (g b) m)
    where
      go : (Memᴰ x (through g ts) → (t : Task N X) × Memᴰ t ts × Yields x t) → Memᴰ x (g b) ⊎ Memᴰ x (through g ts) → (t : Task N X) × Memᴰ t (down b ∷ ts) × Yields x t
      go later (inl l) = (down b, Memᴰ.head refl, ih b x l)
      go later (inr l) = let r = later l in (r.0, Memᴰ.tail r.1, r.2)
  through_sound g ih (give y ∷ ts) x m = go (through_sound g ih ts x) (Memᴰ.cases_cons m)
    where
      go : (Memᴰ x (through g ts) → (t : Task N X) × Memᴰ t ts × Yields x t) → (x ≡ y) ⊎ Memᴰ x (through g ts) → (t : Task N X) × Memᴰ t (give y ∷ ts) × Yields x t
      go later (inl e) = (give y, Memᴰ.head refl, e)
      go later (inr l) = let r = later l in (r.0, Memᴰ.tail r.1, r.2)

  pub gives_of : (a : N) (x : X) (t : Task N X) → Memᴰ t (tasks a) → Yields x t → Gives x a
  gives_of a x pass m y = absurd y
  gives_of a x (down b) m y = below m y
  gives_of a x (give z) m y = here (Memᴰ.cast (ap give y) m)

  pub enum_sound : (d : ℕ) (a : N) (x : X) → Memᴰ x (enum d a) → Gives x a
  enum_sound zero a x m = absurd (Memᴰ.not-nil m)
  enum_sound (suc d) a x m = let r = through_sound (enum d) (enum_sound d) (tasks a) x m in gives_of a x r.0 r.1 r.2

  -- the same with g in the tree's place
  abbrev pub YieldsIn : (N → List X) → X → Task N X → Type 0
  YieldsIn g x pass = ⊥
  YieldsIn g x (down b) = Memᴰ x (g b)
  YieldsIn g x (give y) = x ≡ y

  pub later : (g : N → List X) (ts : List (Task N X)) (x : X) (u : Task N X) → Memᴰ x (through g ts) → Memᴰ x (through g (u ∷ ts))
  later g ts x pass m = m
  later g ts x (down b) m = Memᴰ.append_right (g b) m
  later g ts x (give y) m = Memᴰ.tail m

  pub now : (g : N → List X) (ts : List (Task N X)) (x : X) (t : Task N X) → YieldsIn g x t → Memᴰ x (through g (t ∷ ts))
  now g ts x pass y = absurd y
  now g ts x (down b) y = Memᴰ.append_left (through g ts) y
  now g ts x (give z) y = Memᴰ.head y

  pub through_complete : (g : N → List X) (x : X) (t : Task N X) {ts : List (Task N X)} → Memᴰ t ts → YieldsIn g x t → Memᴰ x (through g ts)
  through_complete g x t (Memᴰ.head {x = u} {xs = us} e) y = now g us x u (subst (YieldsIn g x) e y)
  through_complete g x t (Memᴰ.tail {x = u} {xs = us} m) y = later g us x u (through_complete g x t m y)

  module _ (Ok : N → Type 0) (μ : N → ℕ) (falls : (a b : N) → Ok a → Memᴰ (down b) (tasks a) → Ok b × (μ b < μ a)) where
    pub enum_complete : (d : ℕ) (a : N) (x : X) → Ok a × (μ a < d) → Gives x a → Memᴰ x (enum d a)
    enum_complete zero a x h y = absurd (not-suc-le-zero h.1)
    enum_complete (suc d) a x h (here m) = through_complete (enum d) x (give x) m refl
    enum_complete (suc d) a x h (below {b = b} m y) = through_complete (enum d) x (down b) m
        (enum_complete d b x (let l = falls a b h.0 m in (l.0, omega arith)) y)

    pub enum_iff : (d : ℕ) (a : N) (x : X) → Ok a × (μ a < d) → Memᴰ x (enum d a) ↔ Gives x a
    enum_iff d a x h = (enum_sound d a x, enum_complete d a x h)

  -- ---- each once

  -- no two tasks of a list yield the same
  abbrev pub Apart : List (Task N X) → Type 0
  Apart [] = Unit
  Apart (t ∷ ts) = ((x : X) (u : Task N X) → Yields x t → Memᴰ u ts → Yields x u → ⊥) × Apart ts

  pub through_once : (g : N → List X) → ((b : N) (x : X) → Memᴰ x (g b) → Gives x b)
      → (ts : List (Task N X)) → ((b : N) → Memᴰ (down b) ts → NoDup (g b)) → Apart ts → NoDup (through g ts)
  through_once g sound [] once h = tt
  through_once g sound (pass ∷ ts) once h = through_once g sound ts (λ b m. once b (Memᴰ.tail m)) h.1
  through_once g sound (down b ∷ ts) once h = pairs_append (λ (x y : X). x ≡ y → ⊥) (g b) (through g ts) (once b (Memᴰ.head refl)) (through_once g sound ts (λ c m. once c (Memᴰ.tail m)) h.1)
      (λ x y m l e. let r = through_sound g sound ts x (Memᴰ.cast e l) in h.0 x r.0 (sound b x m) r.1 r.2)
  through_once g sound (give y ∷ ts) once h =
      (mem_each (λ (x : X). y ≡ x → ⊥) (through g ts) (λ x l e. let r = through_sound g sound ts y (Memᴰ.cast e l) in h.0 y r.0 refl r.1 r.2), through_once g sound ts (λ c m. once c (Memᴰ.tail m)) h.1)

  pub enum_once : (Ok : N → Type 0) → ((a b : N) → Ok a → Memᴰ (down b) (tasks a) → Ok b) → ((a : N) → Ok a → Apart (tasks a))
      → (d : ℕ) (a : N) → Ok a → NoDup (enum d a)
  enum_once Ok keeps apart zero a h = tt
  enum_once Ok keeps apart (suc d) a h = through_once (enum d) (enum_sound d) (tasks a) (λ b m. enum_once Ok keeps apart d b (keeps a b h m)) (apart a h)
