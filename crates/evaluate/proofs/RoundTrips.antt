-- An assignment to words and back, and words to an assignment and back.
use mathlib.Core.Path.{◌≡◌, refl, sym, ap, ap₂, ◌∙◌, subst}
use mathlib.Core.Bool.{Bool, true, false}
use mathlib.Core.List.{List, [], ◌∷◌, ◌++◌, append-nil, append_assoc}
use Prim.Native.Nat.{ℕ, zero, suc}
use lib.ListN.{length}
use Rattle.evaluate.specs.Segments.{Route, Assignment}
use Rattle.evaluate.specs.Words.{bit, segment_words, route_words, encode, Read, malformed, got, before, turned, read_segments, then_routes, read_routes, of_family, read_assignment, all_of, decode}

read-segments : (l : Route) (ws : List ℕ) → read_segments (length l) (segment_words l ++ ws) ≡ got l ws
unfolding read_segments
read-segments [] ws = refl
read-segments (s ∷ l) ws = go s.reverse (read-segments l ws)
  where
    go : (r : Bool) → read_segments (length l) (segment_words l ++ ws) ≡ got l ws
        → turned (bit r) (λ r. record { source = s.source; start = s.start; end = s.end; reverse = r }) (read_segments (length l) (segment_words l ++ ws))
        ≡ got (record { source = s.source; start = s.start; end = s.end; reverse = r } ∷ l) ws
    go true e = rw e
    go false e = rw e

read-routes : (rs : List Route) (ws : List ℕ) → read_routes (length rs) (route_words rs ++ ws) ≡ got rs ws
unfolding read_routes
read-routes [] ws = refl
read-routes (r ∷ rs) ws = rw (append_assoc (segment_words r) (route_words rs) ws, read-segments r (route_words rs ++ ws), read-routes rs ws)

-- what an assignment's words begin with is that assignment, whatever follows
pub read_encode : (a : Assignment) (ws : List ℕ) → read_assignment (encode a ++ ws) ≡ got a ws
unfolding read_assignment encode
read_encode a ws = rw (read-routes a.routes ws)

pub decode_encode : (a : Assignment) → decode (encode a) ≡ got a []
unfolding decode
decode_encode a = ap all_of (ap read_assignment (sym (append-nil (encode a))) ∙ read_encode a [])

-- words with anything behind them, as zeros, are of one assignment
pub encode_apart : (a b : Assignment) (us vs : List ℕ) → encode a ++ us ≡ encode b ++ vs → a ≡ b
encode_apart a b us vs e = let q : got a us ≡ got b vs = sym (read_encode a us) ∙ ap read_assignment e ∙ read_encode b vs in cc

-- ---- the other way: what was read, as words again, and the words left are the words read
abbrev Segments : ℕ → List ℕ → Read (Route) → Type 0
Segments n ws malformed = Unit
Segments n ws (got l us) = (segment_words l ++ us ≡ ws) × (length l ≡ n)

segments_say : (n : ℕ) (ws : List ℕ) → Segments n ws (read_segments n ws)
unfolding read_segments
segments_say zero ws = (refl, refl)
segments_say (suc n) [] = tt
segments_say (suc n) (a ∷ []) = tt
segments_say (suc n) (a ∷ b ∷ []) = tt
segments_say (suc n) (a ∷ b ∷ c ∷ []) = tt
segments_say (suc n) (a ∷ b ∷ c ∷ d ∷ ws) = go d (read_segments n ws) (segments_say n ws)
  where
    go : (d : ℕ) (r : Read (Route)) → Segments n ws r → Segments (suc n) (a ∷ b ∷ c ∷ d ∷ ws) (turned d (λ r. record { source = a; start = b; end = c; reverse = r }) r)
    go zero malformed h = tt
    go zero (got l us) h = (ap (λ (t : List ℕ). a ∷ b ∷ c ∷ 0 ∷ t) h.0, ap suc h.1)
    go (suc zero) malformed h = tt
    go (suc zero) (got l us) h = (ap (λ (t : List ℕ). a ∷ b ∷ c ∷ 1 ∷ t) h.0, ap suc h.1)
    go (suc (suc k)) malformed h = tt
    go (suc (suc k)) (got l us) h = tt

abbrev Routes : ℕ → List ℕ → Read (List Route) → Type 0
Routes n ws malformed = Unit
Routes n ws (got l us) = (route_words l ++ us ≡ ws) × (length l ≡ n)

routes_say : (n : ℕ) (ws : List ℕ) → Routes n ws (read_routes n ws)
unfolding read_routes
routes_say zero ws = (refl, refl)
routes_say (suc n) [] = tt
routes_say (suc n) (k ∷ ws) = go (read_segments k ws) (segments_say k ws) (λ us. routes_say n us)
  where
    on : (l : Route) (us : List ℕ) → (segment_words l ++ us ≡ ws) × (length l ≡ k) → (q : Read (List Route)) → Routes n us q → Routes (suc n) (k ∷ ws) (before l q)
    on l us h malformed e = tt
    on l us h (got rs vs) e =
        (ap₂ (λ (x : ℕ) (t : List ℕ). x ∷ t) h.1 (append_assoc (segment_words l) (route_words rs) vs ∙ ap (λ (t : List ℕ). segment_words l ++ t) e.0 ∙ h.0), ap suc e.1)

    go : (r : Read (Route)) → Segments k ws r → ((us : List ℕ) → Routes n us (read_routes n us)) → Routes (suc n) (k ∷ ws) (then_routes r (read_routes n))
    go malformed h f = tt
    go (got l us) h f = on l us h (read_routes n us) (f us)

abbrev Whole : List ℕ → Read Assignment → Type 0
Whole ws malformed = Unit
Whole ws (got a us) = (encode a ≡ ws) × (us ≡ [])

decode_says : (ws : List ℕ) → Whole ws (decode ws)
unfolding decode encode read_assignment
decode_says [] = tt
decode_says (f ∷ []) = tt
decode_says (f ∷ n ∷ ws) = go (read_routes n ws) (routes_say n ws)
  where
    go : (r : Read (List Route)) → Routes n ws r → Whole (f ∷ n ∷ ws) (all_of (of_family f r))
    go malformed h = tt
    go (got rs []) h = (ap₂ (λ (x : ℕ) (t : List ℕ). f ∷ x ∷ t) h.1 (sym (append-nil (route_words rs)) ∙ h.0), refl)
    go (got rs (u ∷ us)) h = tt

-- For the reader: words that hold an assignment are the words of that assignment
pub encode_decode : (ws us : List ℕ) (a : Assignment) → decode ws ≡ got a us → encode a ≡ ws
encode_decode ws us a e = (subst (Whole ws) e (decode_says ws)).0
