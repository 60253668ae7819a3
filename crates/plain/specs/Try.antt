-- The plain engine's steps computed on small panels: how the depth is counted, which way the ports go, what is listed of two families.
use Rattle.std.specs.Prelude.{ℕ, ◌≡◌, refl, Bool, true, false, List, [], ◌∷◌, ◌++◌, map, length, replicate}
use Rattle.ground.specs.Lists.{all, count, numbers_from}
use Rattle.storage.specs.declared.Port.{Port}
use Rattle.storage.specs.Records.{padded}
use Rattle.storage.specs.Orders.{word_order, port_order, bucket_of, word_below, word_up_to}
use Rattle.image.specs.Panel.{Panel, PanelLane}
use Rattle.evaluate.specs.Segments.{Route, Assignment}
use Rattle.evaluate.specs.Words.{encode}
use Rattle.search.specs.Answers.{fitting, written}
use Rattle.search.specs.Walk.{begins, terminal_task, member_task}
use Rattle.plain.specs.Steps.{Mark, gives, too_deep, hub_marks, port_marks, place_marks, family_marks, marks_from, plain_marks, listed, plain_list, goes_too_deep}

-- a port of k letters, all of them this one: its lane, its anchor, whether it is reverse
abbrev port : ℕ → ℕ → ℕ → ℕ → Bool → Port
port k letter lane anchor turn = record { word = padded (replicate k letter) k; source = lane; anchor = anchor; reverse = turn }

abbrev lane : ℕ → List Port → PanelLane
lane len ports = record { len = len; identity = 0; ports = ports }

-- ---- panel E, with AA for AC; its deepest stack is 3, the root counted

abbrev E : List (List ℕ) → Panel
E families =
    record {
      k = 2;
      lanes = lane 10 (port 2 65 0 3 false ∷ port 2 71 0 6 false ∷ []) ∷ lane 10 (port 2 65 1 5 false ∷ port 2 71 1 7 false ∷ []) ∷ [];
      families = families;
      hub = port 2 65 0 3 false ∷ port 2 65 1 5 false ∷ port 2 71 0 6 false ∷ port 2 71 1 7 false ∷ [];
    }

-- the words of what is given, or 42
abbrev shown : Mark (List Route) → List ℕ
shown (gives rs) = encode (record { family = 0; routes = rs })
shown too_deep = 42 ∷ []

-- from the root, with so much depth left
abbrev from_root : Panel → ℕ → List (List ℕ)
from_root p d = map shown (place_marks p (0 ∷ []) d (begins 0 0 []))

-- with 3 left both are given; with 2 the mosaic lies too deep, with 1 the places on lane 1 do, with none the root
depths : from_root (E []) 3 ∷ from_root (E []) 2 ∷ from_root (E []) 1 ∷ from_root (E []) 0 ∷ []
    ≡ ((0 ∷ 1 ∷ 1 ∷ 0 ∷ 0 ∷ 10 ∷ 0 ∷ []) ∷ (0 ∷ 1 ∷ 3 ∷ 0 ∷ 0 ∷ 4 ∷ 0 ∷ 1 ∷ 6 ∷ 8 ∷ 0 ∷ 0 ∷ 7 ∷ 10 ∷ 0 ∷ []) ∷ [])
    ∷ ((0 ∷ 1 ∷ 1 ∷ 0 ∷ 0 ∷ 10 ∷ 0 ∷ []) ∷ (42 ∷ []) ∷ [])
    ∷ ((0 ∷ 1 ∷ 1 ∷ 0 ∷ 0 ∷ 10 ∷ 0 ∷ []) ∷ (42 ∷ []) ∷ (42 ∷ []) ∷ [])
    ∷ ((42 ∷ []) ∷ [])
    ∷ []
unfolding hub_marks port_marks place_marks terminal_task member_task encode all count bucket_of word_below word_up_to word_order port_order
depths = refl

-- ---- two families: each family's own, the first family first; a native is there once, as the walk finds it

abbrev two : List Assignment
two = plain_list (E ((0 ∷ []) ∷ (1 ∷ []) ∷ []))

families : map encode two
    ≡ (0 ∷ 1 ∷ 1 ∷ 0 ∷ 0 ∷ 10 ∷ 0 ∷ [])
    ∷ (0 ∷ 1 ∷ 3 ∷ 0 ∷ 0 ∷ 4 ∷ 0 ∷ 1 ∷ 6 ∷ 8 ∷ 0 ∷ 0 ∷ 7 ∷ 10 ∷ 0 ∷ [])
    ∷ (1 ∷ 1 ∷ 1 ∷ 1 ∷ 0 ∷ 10 ∷ 0 ∷ [])
    ∷ (1 ∷ 1 ∷ 3 ∷ 1 ∷ 0 ∷ 6 ∷ 0 ∷ 0 ∷ 4 ∷ 7 ∷ 0 ∷ 1 ∷ 8 ∷ 10 ∷ 0 ∷ [])
    ∷ []
unfolding hub_marks port_marks place_marks family_marks marks_from plain_marks listed terminal_task member_task encode all count bucket_of word_below word_up_to word_order port_order
families = refl

-- from the second on: the mosaic does not fit into 14 words, and the native of the next family, which would, is not written in its place
unskipped : map length (written 1 14 two) ∷ map length (written 1 15 two) ∷ map length (written 1 22 two) ∷ [] ≡ [] ∷ (15 ∷ []) ∷ (15 ∷ 7 ∷ []) ∷ []
unfolding hub_marks port_marks place_marks family_marks marks_from plain_marks listed terminal_task member_task encode all count bucket_of word_below word_up_to word_order port_order written fitting
unskipped = refl

-- ---- ports fall where the place is reverse

-- lane 0 leads over A to lane 1, reverse from 9 on; there C stands at cuts 6 and 3, reverse, and on lane 0 forward at 5
turned : Panel
turned =
    record {
      k = 1;
      lanes = lane 8 (port 1 65 0 2 false ∷ port 1 67 0 5 false ∷ []) ∷ lane 10 (port 1 67 1 2 true ∷ port 1 67 1 5 true ∷ port 1 65 1 8 true ∷ []) ∷ [];
      families = (0 ∷ []) ∷ [];
      hub = port 1 65 0 2 false ∷ port 1 65 1 8 true ∷ port 1 67 0 5 false ∷ port 1 67 1 2 true ∷ port 1 67 1 5 true ∷ [];
    }

-- the mosaic over 6 to 9 of lane 1 comes before the one over 3 to 9; the last leaves lane 0 by C
falling : map encode (plain_list turned)
    ≡ (0 ∷ 1 ∷ 1 ∷ 0 ∷ 0 ∷ 8 ∷ 0 ∷ [])
    ∷ (0 ∷ 1 ∷ 3 ∷ 0 ∷ 0 ∷ 2 ∷ 0 ∷ 1 ∷ 6 ∷ 9 ∷ 1 ∷ 0 ∷ 5 ∷ 8 ∷ 0 ∷ [])
    ∷ (0 ∷ 1 ∷ 3 ∷ 0 ∷ 0 ∷ 2 ∷ 0 ∷ 1 ∷ 3 ∷ 9 ∷ 1 ∷ 0 ∷ 5 ∷ 8 ∷ 0 ∷ [])
    ∷ (0 ∷ 1 ∷ 3 ∷ 0 ∷ 0 ∷ 5 ∷ 0 ∷ 1 ∷ 3 ∷ 6 ∷ 1 ∷ 0 ∷ 5 ∷ 8 ∷ 0 ∷ [])
    ∷ []
unfolding turned hub_marks port_marks place_marks family_marks marks_from plain_marks listed terminal_task member_task encode all count bucket_of word_below word_up_to word_order port_order
falling = refl

-- ---- 64 places are not too deep, 65 are

-- a family of 64 paths, each slot a place further down; with ports, a switch on the last lane leads one place further
abbrev slots : List Port → List Port → Panel
slots last other = record { k = 1; lanes = replicate 63 (lane 4 []) ++ (lane 4 last ∷ lane 4 other ∷ []); families = numbers_from 0 64 ∷ []; hub = last ++ other }

abbrev verdict : Panel → List ℕ
verdict p = length (plain_list p) ∷ goes (goes_too_deep (plain_marks p)) ∷ []
  where
    goes : Bool → ℕ
    goes true = 42
    goes false = 0

edge : verdict (slots [] []) ∷ verdict (slots (port 1 65 63 1 false ∷ []) (port 1 65 64 1 false ∷ [])) ∷ [] ≡ (1 ∷ 0 ∷ []) ∷ (1 ∷ 42 ∷ []) ∷ []
unfolding hub_marks port_marks place_marks family_marks marks_from plain_marks listed goes_too_deep terminal_task member_task all count bucket_of word_below word_up_to word_order port_order numbers_from
edge = refl
