-- The letters' definitions computed on a small panel: what each refusal sees, and readings that are not meant.
use Rattle.std.specs.Prelude.{ℕ, ◌≡◌, refl, Bool, true, false, List, [], ◌∷◌, ◌++◌, map}
use Rattle.ground.specs.Lists.{split, sum, all}
use Rattle.storage.specs.Records.{padded}
use Rattle.storage.specs.Orders.{word_order}
use Rattle.storage.specs.declared.Port.{Port}
use Rattle.image.specs.Panel.{Panel}
use Rattle.panel.specs.Refusals.{letter}
use Rattle.letters.specs.Letters.{complement, reverse_complement, lengths, lane_letters, piece, port_letters, sound39, word_fits, row_fits, sound40, letters_refusal}

abbrev acc : ℕ → Bool → Port
acc lane reverse = record { word = padded (65 ∷ 67 ∷ 67 ∷ []) 3; source = lane; anchor = 1; reverse = reverse }

-- k 3; two lanes of five letters, each with one port of the word ACC at anchor 1: lane 0's is forward, lane 1's is reverse
abbrev pub panel_r : Panel
panel_r =
    record {
      k = 3;
      lanes = record { len = 5; identity = 0; ports = acc 0 false ∷ [] } ∷ record { len = 5; identity = 1; ports = acc 1 true ∷ [] } ∷ [];
      families = [];
      hub = acc 0 false ∷ acc 1 true ∷ [];
    }

-- TACCG and TGGTC
abbrev pub letters_r : List ℕ
letters_r = 84 ∷ 65 ∷ 67 ∷ 67 ∷ 71 ∷ 84 ∷ 71 ∷ 71 ∷ 84 ∷ 67 ∷ []

-- the reverse complement of AACGT is ACGTT
turned : reverse_complement (65 ∷ 65 ∷ 67 ∷ 71 ∷ 84 ∷ []) ≡ 65 ∷ 67 ∷ 71 ∷ 84 ∷ 84 ∷ []
unfolding complement reverse_complement
turned = refl

-- lane after lane; both ports' letters are ACC
lanes : lane_letters panel_r letters_r 0 ∷ lane_letters panel_r letters_r 1 ∷ port_letters panel_r letters_r (acc 0 false) ∷ port_letters panel_r letters_r (acc 1 true) ∷ []
    ≡ (84 ∷ 65 ∷ 67 ∷ 67 ∷ 71 ∷ []) ∷ (84 ∷ 71 ∷ 71 ∷ 84 ∷ 67 ∷ []) ∷ (65 ∷ 67 ∷ 67 ∷ []) ∷ (65 ∷ 67 ∷ 67 ∷ []) ∷ []
unfolding split complement reverse_complement lengths lane_letters piece
lanes = refl

unfoldable refusals : List (List ℕ) → List ℕ
unfolding split sum all letter word_order complement reverse_complement lengths lane_letters piece sound39 word_fits row_fits sound40 letters_refusal
refusals = map (letters_refusal panel_r)

-- the letters fit; 40: the reverse port's letters read forward ACC, or complemented alone, or reversed alone; the forward port's read reverse; the lanes' letters in the other order, or one letter late
fits : refusals (letters_r ∷ (84 ∷ 65 ∷ 67 ∷ 67 ∷ 71 ∷ 84 ∷ 65 ∷ 67 ∷ 67 ∷ 67 ∷ []) ∷ (84 ∷ 65 ∷ 67 ∷ 67 ∷ 71 ∷ 84 ∷ 84 ∷ 71 ∷ 71 ∷ 67 ∷ []) ∷ (84 ∷ 65 ∷ 67 ∷ 67 ∷ 71 ∷ 84 ∷ 67 ∷ 67 ∷ 65 ∷ 67 ∷ []) ∷ (84 ∷ 71 ∷ 71 ∷ 84 ∷ 71 ∷ 84 ∷ 71 ∷ 71 ∷ 84 ∷ 67 ∷ []) ∷ (84 ∷ 71 ∷ 71 ∷ 84 ∷ 67 ∷ 84 ∷ 65 ∷ 67 ∷ 67 ∷ 71 ∷ []) ∷ (65 ∷ 84 ∷ 65 ∷ 67 ∷ 67 ∷ 84 ∷ 71 ∷ 71 ∷ 84 ∷ 67 ∷ []) ∷ [])
    ≡ 0 ∷ 40 ∷ 40 ∷ 40 ∷ 40 ∷ 40 ∷ 40 ∷ []
unfolding refusals
fits = refl

-- 39: one too few, one too many, none, an N, a lower case letter; and before 40
counted : refusals ((84 ∷ 65 ∷ 67 ∷ 67 ∷ 71 ∷ 84 ∷ 71 ∷ 71 ∷ 84 ∷ []) ∷ (letters_r ++ 65 ∷ []) ∷ [] ∷ (78 ∷ 65 ∷ 67 ∷ 67 ∷ 71 ∷ 84 ∷ 71 ∷ 71 ∷ 84 ∷ 67 ∷ []) ∷ (116 ∷ 65 ∷ 67 ∷ 67 ∷ 71 ∷ 84 ∷ 71 ∷ 71 ∷ 84 ∷ 67 ∷ []) ∷ (84 ∷ 65 ∷ 67 ∷ 67 ∷ 71 ∷ 84 ∷ 65 ∷ 67 ∷ 67 ∷ 78 ∷ []) ∷ [])
    ≡ 39 ∷ 39 ∷ 39 ∷ 39 ∷ 39 ∷ 39 ∷ []
unfolding refusals
counted = refl

-- ---- lanes of different lengths, k 3

abbrev word : List ℕ → ℕ → ℕ → Bool → Port
word letters lane anchor reverse = record { word = padded letters 3; source = lane; anchor = anchor; reverse = reverse }

-- TACCTCAGA has ACC at 1 and CAG at 5; GGACCGTT has ACC at 2 and GTT at 5; CGAGAAC has reverse TCG at 0 and GTT at 4; CTGCGA has reverse CAG at 0 and TCG at 3; G has none; lanes 0 and 4 are a family
abbrev pub panel_q : Panel
panel_q =
    record {
      k = 3;
      lanes =
          record { len = 9; identity = 0; ports = word (65 ∷ 67 ∷ 67 ∷ []) 0 1 false ∷ word (67 ∷ 65 ∷ 71 ∷ []) 0 5 false ∷ [] }
          ∷ record { len = 8; identity = 1; ports = word (65 ∷ 67 ∷ 67 ∷ []) 1 2 false ∷ word (71 ∷ 84 ∷ 84 ∷ []) 1 5 false ∷ [] }
          ∷ record { len = 7; identity = 2; ports = word (84 ∷ 67 ∷ 71 ∷ []) 2 0 true ∷ word (71 ∷ 84 ∷ 84 ∷ []) 2 4 true ∷ [] }
          ∷ record { len = 6; identity = 3; ports = word (67 ∷ 65 ∷ 71 ∷ []) 3 0 true ∷ word (84 ∷ 67 ∷ 71 ∷ []) 3 3 true ∷ [] }
          ∷ record { len = 1; identity = 4; ports = [] }
          ∷ [];
      families = (0 ∷ 4 ∷ []) ∷ [];
      hub =
          word (65 ∷ 67 ∷ 67 ∷ []) 0 1 false ∷ word (65 ∷ 67 ∷ 67 ∷ []) 1 2 false ∷ word (67 ∷ 65 ∷ 71 ∷ []) 0 5 false ∷ word (67 ∷ 65 ∷ 71 ∷ []) 3 0 true
          ∷ word (71 ∷ 84 ∷ 84 ∷ []) 1 5 false ∷ word (71 ∷ 84 ∷ 84 ∷ []) 2 4 true ∷ word (84 ∷ 67 ∷ 71 ∷ []) 2 0 true ∷ word (84 ∷ 67 ∷ 71 ∷ []) 3 3 true ∷ [];
    }

abbrev pub letters_q : List ℕ
letters_q = 84 ∷ 65 ∷ 67 ∷ 67 ∷ 84 ∷ 67 ∷ 65 ∷ 71 ∷ 65 ∷ 71 ∷ 71 ∷ 65 ∷ 67 ∷ 67 ∷ 71 ∷ 84 ∷ 84 ∷ 67 ∷ 71 ∷ 65 ∷ 71 ∷ 65 ∷ 65 ∷ 67 ∷ 67 ∷ 84 ∷ 71 ∷ 67 ∷ 71 ∷ 65 ∷ 71 ∷ []

-- the letters fit; 40 where those of lanes 2 and 3 are exchanged
unequal : letters_refusal panel_q letters_q ∷ letters_refusal panel_q (84 ∷ 65 ∷ 67 ∷ 67 ∷ 84 ∷ 67 ∷ 65 ∷ 71 ∷ 65 ∷ 71 ∷ 71 ∷ 65 ∷ 67 ∷ 67 ∷ 71 ∷ 84 ∷ 84 ∷ 67 ∷ 84 ∷ 71 ∷ 67 ∷ 71 ∷ 65 ∷ 67 ∷ 71 ∷ 65 ∷ 71 ∷ 65 ∷ 65 ∷ 67 ∷ 71 ∷ []) ∷ [] ≡ 0 ∷ 40 ∷ []
unfolding split sum all letter word_order complement reverse_complement lengths lane_letters piece sound39 word_fits row_fits sound40 letters_refusal
unequal = refl

-- ---- k 1, one lane of one base: A forward and A reverse at one anchor are never both true

abbrev single : Bool → Port
single reverse = record { word = padded (65 ∷ []) 1; source = 0; anchor = 0; reverse = reverse }

abbrev panel_a : Panel
panel_a =
    record {
      k = 1;
      lanes = record { len = 1; identity = 0; ports = single false ∷ single true ∷ [] } ∷ [];
      families = [];
      hub = single false ∷ single true ∷ [];
    }

contradicting : map (letters_refusal panel_a) ((65 ∷ []) ∷ (67 ∷ []) ∷ (71 ∷ []) ∷ (84 ∷ []) ∷ []) ≡ 40 ∷ 40 ∷ 40 ∷ 40 ∷ []
unfolding split sum all letter word_order complement reverse_complement lengths lane_letters piece sound39 word_fits row_fits sound40 letters_refusal
contradicting = refl
