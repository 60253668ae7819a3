-- The unbudgeted walk over all families: it ends, and after its natives it has handed over each legal assignment once, family by family.
use Prim.Native.Nat.{ℕ, zero, suc, ◌+◌, ◌≤◌, ◌<◌}
use native.Mathlib.Omega.{arith}
use native.Mathlib.Nat.{zero-add, suc-add}
use native.Mathlib.Decide.{dec_lt}
use mathlib.Core.Path.{◌≡◌, refl, sym, ◌∙◌, ap, subst}
use mathlib.Core.Logic.{◌⊎◌, inl, inr, ◌↔◌}
use mathlib.Core.List.{List, [], ◌∷◌, ◌++◌, map, append_assoc, append-nil, Memᴰ}
use mathlib.Core.Bool.{false}
use lib.Dec.{ltb}
use lib.ListN.{length}
use borrow.Author.Tests.{lt-ltb, le-ltb}
use Rattle.ground.specs.Lists.{pick}
use Rattle.image.specs.Panel.{Panel, paths_at}
use Rattle.evaluate.specs.Properties.{Each, Pairs}
use Rattle.evaluate.specs.Segments.{Route, Assignment}
use Rattle.evaluate.specs.Legal.{Legal}
use Rattle.search.specs.Walk.{pass, down, give, Frame, Act, leave, doing, enter, unit_of, takes_member}
use Rattle.search.specs.Run.{Walk, Ending, exhausted, Phase, going, ended, Limits, unlimited, root, begin, after_act, unit, units}
use Rattle.evaluate.proofs.Lists.{mem_map, mem_map_in, pairs_append}
use Rattle.enumeration.proofs.Tree.{NoDup}
use Rattle.enumeration.proofs.Stack.{Stack, on, unit_on, steps, acted}
use Rattle.enumeration.proofs.Ports.{Sound}
use Rattle.enumeration.proofs.Once.{LegalRoutes, EachOf, family_walk}

-- ---- units, one after the other

module _ (p : Panel) (lim : Limits) where
  pub ended_stays : (n : ℕ) (e : Ending) (w : Walk) → units p lim n (ended e w) ≡ ended e w
  unfolding units
  ended_stays zero e w = refl
  ended_stays (suc n) e w = refl

  pub units_add : (m n : ℕ) (s : Phase) → units p lim (m + n) s ≡ units p lim n (units p lim m s)
  unfolding units
  units_add zero n s = rw zero-add refl
  units_add (suc m) n (ended e w) = rw suc-add (sym (ended_stays n e w))
  units_add (suc m) n (going w) = rw suc-add (units_add m n (unit p lim w))

-- what a walk has counted, beside its families
pub record Counts : Type 0 where
  pub work : ℕ
  pub evaluations : ℕ
  pub natives : ℕ
  pub donors : ℕ

-- in the order of the families
abbrev InOrder : List Assignment → Type 0
InOrder l = Pairs (λ a c. a.family ≤ c.family) l

module _ (p : Panel) where
  abbrev pub tag : ℕ → List Route → Assignment
  tag f rs = record { family = f; routes = rs }

  abbrev pub at : ℕ → Counts → List Frame → List Assignment → Walk
  at f c st out =
      record { work = c.work; evaluations = c.evaluations; natives = c.natives; donors = c.donors; families = f; stack = st; out = out }

  -- where the walk stands when the family f's stack stands so
  abbrev pub phase_of : ℕ → Counts → List Assignment → Stack → Phase
  phase_of f c base (on [] o) = begin p (at (suc f) c [] (base ++ map (tag f) o))
  phase_of f c base (on (g ∷ st) o) = going (at f c (g ∷ st) (base ++ map (tag f) o))

  map_snoc : (f : ℕ) (base : List Assignment) (o : List (List Route)) (x : List Route) → base ++ map (tag f) o ++ (tag f x ∷ []) ≡ base ++ map (tag f) (o ++ (x ∷ []))
  map_snoc f base o x = append_assoc base (map (tag f) o) (tag f x ∷ []) ∙ ap (λ l. base ++ l) (go o)
    where
      go : (o : List (List Route)) → map (tag f) o ++ (tag f x ∷ []) ≡ map (tag f) (o ++ (x ∷ []))
      go [] = refl
      go (y ∷ o) = ap (λ l. tag f y ∷ l) (go o)

  -- a unit of the walk is one on the family's stack
  pub unit_phase : (f : ℕ) (c : Counts) (base : List Assignment) (g : Frame) (st : List Frame) (o : List (List Route))
      → (c' : Counts) × (unit p unlimited (at f c (g ∷ st) (base ++ map (tag f) o)) ≡ phase_of f c' base (unit_on p (paths_at p f) (on (g ∷ st) o)))
  unfolding enter
  unit_phase f c base g st o = go st (unit_of p (paths_at p f) g)
    where
      more : ℕ → Counts
      more e = record { work = suc c.work; evaluations = e; natives = c.natives; donors = c.donors + pick (takes_member g) 1 0 }

      go : (st : List Frame) (t : Act)
          → (c' : Counts) × (after_act p unlimited (at f c (g ∷ st) (base ++ map (tag f) o)) (pick (takes_member g) 1 0) st t ≡ phase_of f c' base (acted p (paths_at p f) st o t))
      go [] leave = (more c.evaluations, refl)
      go (h ∷ st) leave = (more c.evaluations, refl)
      go st (doing pass k) = (more c.evaluations, refl)
      go st (doing (down a) k) = (more c.evaluations, refl)
      go st (doing (give x) k) = (more (suc c.evaluations), ap (λ l. going (at f (more (suc c.evaluations)) (k ∷ st) l)) (map_snoc f base o x))

  pub idle : (paths : List ℕ) (n : ℕ) (o : List (List Route)) → steps p paths n (on [] o) ≡ on [] o
  idle paths zero o = refl
  idle paths (suc n) o = idle paths n o

  -- a run of the walk from one phase to another
  abbrev pub Runs : Phase → Phase → Type 0
  Runs s t = (n : ℕ) × (units p unlimited n s ≡ t)

  family_runs : (f : ℕ) (base : List Assignment) (n : ℕ) (c : Counts) (st : List Frame) (o out : List (List Route)) → steps p (paths_at p f) n (on st o) ≡ on [] out
      → (c' : Counts) × Runs (phase_of f c base (on st o)) (phase_of f c' base (on [] out))
  unfolding units
  family_runs f base zero c st o out e = (c, (0, ap (phase_of f c base) e))
  family_runs f base (suc n) c [] o out e = (c, (0, ap (phase_of f c base) (sym (idle (paths_at p f) n o) ∙ e)))
  family_runs f base (suc n) c (g ∷ st) o out e =
      step (unit_on p (paths_at p f) (on (g ∷ st) o)) refl (unit_phase f c base g st o) (λ c' st' o'. family_runs f base n c' st' o' out)
    where
      step : (s : Stack) → unit_on p (paths_at p f) (on (g ∷ st) o) ≡ s
          → (c' : Counts) × (unit p unlimited (at f c (g ∷ st) (base ++ map (tag f) o)) ≡ phase_of f c' base (unit_on p (paths_at p f) (on (g ∷ st) o)))
          → ((c' : Counts) (st' : List Frame) (o' : List (List Route)) → steps p (paths_at p f) n (on st' o') ≡ on [] out
          → (c'' : Counts) × Runs (phase_of f c' base (on st' o')) (phase_of f c'' base (on [] out)))
          → (c'' : Counts) × Runs (phase_of f c base (on (g ∷ st) o)) (phase_of f c'' base (on [] out))
      step (on st' o') q u ih =
          let r = ih u.0 st' o' (ap (steps p (paths_at p f) n) (sym q) ∙ e) in
          (r.0, (suc r.1.0, ap (units p unlimited r.1.0) (u.1 ∙ ap (phase_of f u.0 base) q) ∙ r.1.1))

  -- ---- family by family

  -- a legal assignment of the families from f on
  pub record LegalFrom (f : ℕ) (a : Assignment) : Type 0 where
    pub from : f ≤ a.family
    pub legal : Legal p a

  -- each of them once, in the order of the families
  pub record EachFrom (f : ℕ) (out : List Assignment) : Type 0 where
    pub legal : (a : Assignment) → Memᴰ a out ↔ LegalFrom f a
    pub once : NoDup out
    pub in_order : InOrder out

  -- the walk from a phase on ends, and hands this over
  pub record Ends (f : ℕ) (base : List Assignment) (s : Phase) : Type 0 where
    pub final : Walk
    pub run : Runs s (ended exhausted final)
    pub found : List Assignment
    pub out : final.out ≡ base ++ found
    pub each : EachFrom f found

  nodup_tag : (f : ℕ) (o : List (List Route)) → NoDup o → NoDup (map (tag f) o)
  nodup_tag f [] h = tt
  nodup_tag f (a ∷ o) h = (go o h.0, nodup_tag f o h.1)
    where
      go : (o : List (List Route)) → Each (λ b. a ≡ b → ⊥) o → Each (λ b. tag f a ≡ b → ⊥) (map (tag f) o)
      go [] h = tt
      go (b ∷ o) h = (λ e. h.0 (ap (λ (x : Assignment). x.routes) e), go o h.1)

  one_family : (f : ℕ) (o : List (List Route)) → InOrder (map (tag f) o)
  one_family f [] = tt
  one_family f (a ∷ o) = (go o, one_family f o)
    where
      go : (o : List (List Route)) → Each (λ c. f ≤ c.family) (map (tag f) o)
      go [] = tt
      go (b ∷ o) = (omega arith, go o)

  join_each : (f : ℕ) (o : List (List Route)) (rest : List Assignment) → f < length p.families → EachOf p (paths_at p f) o → EachFrom (suc f) rest → EachFrom f (map (tag f) o ++ rest)
  join_each f o rest l e r =
      record {
        legal = λ a. (to a, from a);
        once = pairs_append (λ (a b : Assignment). a ≡ b → ⊥) (map (tag f) o) rest (nodup_tag f o e.once) r.once apart;
        in_order = pairs_append (λ (a c : Assignment). a.family ≤ c.family) (map (tag f) o) rest (one_family f o) r.in_order later;
      }
    where
      mine : (a : Assignment) → Memᴰ a (map (tag f) o) → a.family ≡ f
      mine a m = let t = mem_map (tag f) o m in ap (λ (x : Assignment). x.family) t.2

      later : (a c : Assignment) → Memᴰ a (map (tag f) o) → Memᴰ c rest → a.family ≤ c.family
      later a c m n = let x = mine a m in let y : suc f ≤ c.family = ((r.legal c).0 n).from in omega arith

      apart : (a c : Assignment) → Memᴰ a (map (tag f) o) → Memᴰ c rest → a ≡ c → ⊥
      apart a c m n q =
          let x = mine a m in
          let y : suc f ≤ c.family = ((r.legal c).0 n).from in
          let z : a.family ≡ c.family = ap (λ (b : Assignment). b.family) q in
          omega arith

      to : (a : Assignment) → Memᴰ a (map (tag f) o ++ rest) → LegalFrom f a
      to a m = go (mathlib.Core.List.Memᴰ.append_cases (map (tag f) o) m)
        where
          go : Memᴰ a (map (tag f) o) ⊎ Memᴰ a rest → LegalFrom f a
          go (inl k) =
              let t = mem_map (tag f) o k in
              let g = (e.legal t.0).0 t.1 in
              subst (LegalFrom f) (sym t.2) (record { from = omega arith; legal = record { family = l; routes = g.routes; apart = g.apart } })
          go (inr k) = let g = (r.legal a).0 k in let h : suc f ≤ a.family = g.from in record { from = omega arith; legal = g.legal }

      from : (a : Assignment) → LegalFrom f a → Memᴰ a (map (tag f) o ++ rest)
      from a g = go (dec_lt f a.family)
        where
          go : Dec (f < a.family) → Memᴰ a (map (tag f) o ++ rest)
          go (yes h) = mathlib.Core.List.Memᴰ.append_right (map (tag f) o) ((r.legal a).1 (record { from = h; legal = g.legal }))
          go (no h) =
              let x : f ≤ a.family = g.from in
              let c : a.family ≡ f = omega arith in
              let own : LegalRoutes p (paths_at p a.family) a.routes = record { routes = g.legal.routes; apart = g.legal.apart } in
              let k : Memᴰ a.routes o = (e.legal a.routes).1 (subst (λ i. LegalRoutes p (paths_at p i) a.routes) c own) in
              mathlib.Core.List.Memᴰ.append_left rest (mathlib.Core.List.Memᴰ.cast (λ i. record { family = c i; routes = a.routes }) (mem_map_in (tag f) k))

  pub runs_join : (s t u : Phase) → Runs s t → Runs t u → Runs s u
  runs_join s t u r q = (r.0 + q.0, units_add p unlimited r.0 q.0 s ∙ ap (units p unlimited q.0) r.1 ∙ q.1)

  -- a family's walk, and the walk of the later ones
  then_ends : (f : ℕ) (base : List Assignment) (o : List (List Route)) (s t : Phase) → f < length p.families → EachOf p (paths_at p f) o → Runs s t → Ends (suc f) (base ++ map (tag f) o) t → Ends f base s
  then_ends f base o s t l e r more =
      record {
        final = more.final;
        run = runs_join s t (ended exhausted more.final) r more.run;
        found = map (tag f) o ++ more.found;
        out = more.out ∙ append_assoc base (map (tag f) o) more.found;
        each = join_each f o more.found l e more.each;
      }

  module _ (sound : Sound p) (some : (f : ℕ) → f < length p.families → 0 < length (paths_at p f)) where
    whole_walk : (k f : ℕ) (c : Counts) (base : List Assignment) → f + k ≡ length p.families → Ends f base (begin p (at f c [] base))
    unfolding units
    whole_walk zero f c base e =
        let t : ltb f (length p.families) ≡ false = le-ltb f (length p.families) (omega arith) in
        record {
          final = at f c [] base;
          run = (0, rw t refl);
          found = [];
          out = sym (append-nil base);
          each = record {
            legal = λ a. (λ m. absurd (mathlib.Core.List.Memᴰ.not-nil m), λ g. let x = g.from in let y = g.legal.family in let z : ⊥ = omega arith in absurd z);
            once = tt;
            in_order = tt;
          };
        }
    whole_walk (suc k) f c base e =
        let l : f < length p.families = omega arith in
        let r = family_walk p sound (paths_at p f) (some f l) in
        let u = family_runs f base r.0 c (root p f ∷ []) [] r.1 r.2 in
        let b : begin p (at f c [] base) ≡ phase_of f c base (on (root p f ∷ []) []) = rw (lt-ltb f (length p.families) l, append-nil base) refl in
        then_ends f base r.1 (begin p (at f c [] base)) (phase_of f u.0 base (on [] r.1)) l r.3 (subst (λ s. Runs s (phase_of f u.0 base (on [] r.1))) (sym b) u.1)
        (whole_walk k (suc f) u.0 (base ++ map (tag f) r.1) (omega arith))

    -- from a walk whose stack is empty, with no family done
    pub walk_ends : (w : Walk) → w.families ≡ 0 → w.stack ≡ [] → Ends 0 w.out (begin p w)
    walk_ends w e q =
        let c : Counts = record { work = w.work; evaluations = w.evaluations; natives = w.natives; donors = w.donors } in
        let is : at 0 c [] w.out ≡ w = λ i. record { work = w.work; evaluations = w.evaluations; natives = w.natives; donors = w.donors; families = sym e i; stack = sym q i; out = w.out } in
        subst (λ v. Ends 0 w.out (begin p v)) is (whole_walk (length p.families) 0 c w.out (omega arith))
