-- A room of words as slots of v words, and with a list of scores as a list of held words: what the contracts of this crate are written in.
use Rattle.std.specs.Prelude.{◌≡◌, Bool, List, [], ◌∷◌, ◌++◌, ℕ, zero, suc, ◌+◌, ◌-◌, ◌*◌, ◌≤◌, eqb, length, take, drop, get_or, replicate, Float}
use Rattle.std.specs.Float.{nan}
use Rattle.search.specs.Budget.{zero_score}
use Rattle.search.specs.Keep.{same_list, ties_to}

-- ---- runs of words

-- xs with vs in the place of its words from index a
unfoldable pub splice : {A : Type 0} → List A → ℕ → List A → List A
splice xs a vs = take a xs ++ (vs ++ drop (a + length vs) xs)

-- n words from index a
unfoldable pub part : {A : Type 0} → ℕ → ℕ → List A → List A
part a n xs = take n (drop a xs)

abbrev pub same_words : List ℕ → List ℕ → Bool
same_words xs ys = same_list eqb xs ys

-- ---- slots

unfoldable pub slot_at : ℕ → List ℕ → ℕ → List ℕ
slot_at v xs i = part (i * v) v xs

unfoldable pub put_slot : ℕ → List ℕ → ℕ → List ℕ → List ℕ
put_slot v xs i ws = splice xs (i * v) ws

-- the first n slots
unfoldable pub slots_of : ℕ → ℕ → List ℕ → List (List ℕ)
slots_of v zero xs = []
slots_of v (suc n) xs = take v xs ∷ slots_of v n (drop v xs)

-- the words of a slot, with a score
pub record Held : Type 0 where
  pub words : List ℕ
  pub score : Float

abbrev pub held_score : Held → Float
held_score s = s.score

abbrev pub same_held : Held → Held → Bool
same_held a b = same_words a.words b.words

-- an unused slot
abbrev pub blank : ℕ → Held
blank v = record { words = replicate v 0; score = zero_score }

-- the first n slots, each with its score
unfoldable pub held_in : ℕ → ℕ → List ℕ → List Float → List Held
held_in v zero xs ss = []
held_in v (suc n) xs ss = record { words = take v xs; score = get_or ss 0 nan } ∷ held_in v n (drop v xs) (drop 1 ss)

-- the two rooms are as they were past the first n slots and scores
pub record Beyond (v n : ℕ) (xs₀ : List ℕ) (ss₀ : List Float) (xs : List ℕ) (ss : List Float) : Type 0 where
  pub longx : length xs ≡ length xs₀
  pub longs : length ss ≡ length ss₀
  pub restx : drop (n * v) xs ≡ drop (n * v) xs₀
  pub rests : drop n ss ≡ drop n ss₀

-- what is left of a tied list: the first r slots with their scores are those of the first n that tie with `new`
pub record Retained (v n : ℕ) (new w : Float) (xs₀ : List ℕ) (ss₀ : List Float) (xs : List ℕ) (ss : List Float) (r : ℕ) : Type 0 where
  pub few : r ≤ n
  pub tied : held_in v r xs ss ≡ ties_to held_score new w (held_in v n xs₀ ss₀)
  pub beyond : Beyond v n xs₀ ss₀ xs ss

-- n slots from the one at `from` are unused
pub record Blanked (v from n : ℕ) (xs₀ : List ℕ) (ss₀ : List Float) (xs : List ℕ) (ss : List Float) : Type 0 where
  pub beyond : Beyond v (from + n) xs₀ ss₀ xs ss
  pub done : held_in v (from + n) xs ss ≡ held_in v from xs₀ ss₀ ++ replicate n (blank v)

-- what is left of a tied list, and unused slots behind it
pub record Pruned (v n : ℕ) (new w : Float) (xs₀ : List ℕ) (ss₀ : List Float) (xs : List ℕ) (ss : List Float) (r : ℕ) : Type 0 where
  pub few : r ≤ n
  pub tied : held_in v r xs ss ≡ ties_to held_score new w (held_in v n xs₀ ss₀)
  pub rest : held_in v n xs ss ≡ held_in v r xs ss ++ replicate (n - r) (blank v)
  pub beyond : Beyond v n xs₀ ss₀ xs ss
