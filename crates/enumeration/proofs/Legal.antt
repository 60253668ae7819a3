-- The walk's own words for a legal assignment, chains and clearness, are those of Legal.
use Prim.Native.Nat.{ℕ, ◌<◌}
use mathlib.Core.Path.{refl}
use mathlib.Core.Logic.{◌↔◌}
use mathlib.Core.Bool.{Bool, false}
use mathlib.Core.List.{List, [], ◌∷◌, ◌++◌}
use Rattle.image.specs.Panel.{Panel}
use Rattle.evaluate.specs.declared.Segment.{Segment}
use Rattle.evaluate.specs.Properties.{Each, Pairs, Neighbours, First, Last}
use Rattle.evaluate.specs.Segments.{Route, entry, SoundSpan, Unjoined}
use Rattle.evaluate.specs.Legal.{Enters, Leaves, Joint, LegalRoute, Apart}
use Rattle.evaluate.proofs.NormalForm.{Filled}
use Rattle.evaluate.proofs.CheckLegal.{clear_to, clear_from}
use Rattle.evaluate.proofs.Lists.{each_map, each_append, append_each}
use Rattle.enumeration.proofs.Given.{Begins, Chain, RouteOf, Clear}

-- ---- a chain is a legal route

module _ (p : Panel) (target : ℕ) where
  chain_spans : (l c : ℕ) (b : Bool) (r : Route) → Chain p target l c b r → Each (SoundSpan p) r
  chain_spans l c b [] h = tt
  chain_spans l c b (s ∷ []) h = (h.1, tt)
  chain_spans l c b (s ∷ t ∷ r) h = (h.1, chain_spans t.source (entry t) t.reverse (t ∷ r) h.3)

  chain_normal : (l c : ℕ) (b : Bool) (r : Route) → Chain p target l c b r → Neighbours Unjoined r
  chain_normal l c b [] h = tt
  chain_normal l c b (s ∷ []) h = tt
  chain_normal l c b (s ∷ t ∷ r) h = (h.2.1, chain_normal t.source (entry t) t.reverse (t ∷ r) h.3)

  chain_joints : (l c : ℕ) (b : Bool) (r : Route) → Chain p target l c b r → Neighbours (Joint p) r
  chain_joints l c b [] h = tt
  chain_joints l c b (s ∷ []) h = tt
  chain_joints l c b (s ∷ t ∷ r) h = (h.2.0, chain_joints t.source (entry t) t.reverse (t ∷ r) h.3)

  chain_leaves : (l c : ℕ) (b : Bool) (r : Route) → Chain p target l c b r → Last (Leaves p target) r
  chain_leaves l c b [] h = h
  chain_leaves l c b (s ∷ []) h = h.2
  chain_leaves l c b (s ∷ t ∷ r) h = chain_leaves t.source (entry t) t.reverse (t ∷ r) h.3

  chain_enters : (r : Route) → RouteOf p target r → First (Enters target) r
  chain_enters [] h = h
  chain_enters (s ∷ []) h = record { lane = h.0.lane; forward = h.0.turn; at_start = h.0.cut }
  chain_enters (s ∷ t ∷ r) h = record { lane = h.0.lane; forward = h.0.turn; at_start = h.0.cut }

  chain-of : (l c : ℕ) (b : Bool) (r : Route) → First (λ s. Begins s l c b) r → Each (SoundSpan p) r → Neighbours Unjoined r → Last (Leaves p target) r → Neighbours (Joint p) r → Chain p target l c b r
  chain-of l c b [] f e n v j = f
  chain-of l c b (s ∷ []) f e n v j = (f, e.0, v)
  chain-of l c b (s ∷ t ∷ r) f e n v j =
      (f, e.0, (j.0, n.0), chain-of t.source (entry t) t.reverse (t ∷ r) (record { lane = refl; cut = refl; turn = refl }) e.1 n.1 v j.1)

  first_of : (r : Route) → First (Enters target) r → First (λ s. Begins s target 0 false) r
  first_of [] h = h
  first_of (s ∷ r) h = record { lane = h.lane; cut = h.at_start; turn = h.forward }

  pub route_iff : (r : Route) → RouteOf p target r ↔ LegalRoute p target r
  route_iff r = (
    λ h.
        record {
          spans = chain_spans target 0 false r h;
          normal = chain_normal target 0 false r h;
          enters = chain_enters r h;
          leaves = chain_leaves target 0 false r h;
          joints = chain_joints target 0 false r h;
        },
    λ h. chain-of target 0 false r (first_of r h.enters) h.spans h.normal h.leaves h.joints,
  )

-- ---- clear of what stands before is apart

apart_back : (s t : Segment) → Apart s t → Apart t s
apart_back s t h c = h (record { lane = c.lane; base = c.base; left = c.right; right = c.left })

-- each of these is apart from each of the path
abbrev Off : List Segment → List Segment → Type 0
Off path ss = Each (λ t. Each (Apart t) path) ss

clear_off : (path ss : List Segment) → Clear path ss → Off path ss × Pairs Apart ss
clear_off path [] h = (tt, tt)
clear_off path (s ∷ ss) h =
    let r = clear_off (path ++ (s ∷ [])) ss h.1 in (
      (clear_to s path h.0, each_map (λ t. Each (Apart t) (path ++ (s ∷ []))) (λ t. Each (Apart t) path) (λ t k. (append_each (Apart t) path (s ∷ []) k).0) ss r.0),
      (each_map (λ t. Each (Apart t) (path ++ (s ∷ []))) (Apart s) (λ t k. apart_back t s (append_each (Apart t) path (s ∷ []) k).1.0) ss r.0, r.1),
    )

off_clear : (path ss : List Segment) → Filled path → Filled ss → Off path ss → Pairs Apart ss → Clear path ss
off_clear path [] e f h k = tt
off_clear path (s ∷ ss) e f h k = (
  clear_from s path f.0 e h.0,
  off_clear (path ++ (s ∷ [])) ss (each_append (λ t. t.start < t.end) path (s ∷ []) e (f.0, tt)) f.1 (longer ss h.1 k.0) k.1,
)
  where
    longer : (ss : List Segment) → Off path ss → Each (Apart s) ss → Off (path ++ (s ∷ [])) ss
    longer [] h k = tt
    longer (t ∷ ss) h k = (each_append (Apart t) path (s ∷ []) h.0 (apart_back s t k.0, tt), longer ss h.1 k.1)

none_off : (ss : List Segment) → Off [] ss
none_off [] = tt
none_off (s ∷ ss) = (tt, none_off ss)

pub clear_iff : (ss : List Segment) → Filled ss → Clear [] ss ↔ Pairs Apart ss
clear_iff ss f = (λ h. (clear_off [] ss h).1, λ k. off_clear [] ss tt f (none_off ss) k)
