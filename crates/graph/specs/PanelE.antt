-- Panel E of 01, "The program": k 2; two lanes of length 10 with identities 0 and 1; family 0 is lane 0;
-- forward ports AC at anchors 3 (lane 0) and 5 (lane 1), GG at 6 (lane 0) and 7 (lane 1).
use Rattle.std.specs.Prelude.{ℕ, List, [], ◌∷◌}

-- eight bytes of a number below 256
abbrev word : ℕ → List ℕ → List ℕ
word n l = n ∷ 0 ∷ 0 ∷ 0 ∷ 0 ∷ 0 ∷ 0 ∷ 0 ∷ l

-- a forward record: its two letters, its lane and its anchor
abbrev record' : ℕ → ℕ → ℕ → ℕ → List ℕ → List ℕ
record' a b lane anchor l = a ∷ b ∷ word lane (word anchor (0 ∷ l))

abbrev ac : ℕ → ℕ → List ℕ → List ℕ
ac lane anchor l = record' 65 67 lane anchor l

abbrev gg : ℕ → ℕ → List ℕ → List ℕ
gg lane anchor l = record' 71 71 lane anchor l

-- the header, the lane entries, the family, its path, the lanes' lists, the global list
unfoldable pub panel_e : List ℕ
panel_e =
    word 2 (word 2 (word 1 (word 1 (word 4
    (word 80 (word 128 (word 136 (word 144 (word 220
    (word 10 (word 2 (word 0
    (word 10 (word 2 (word 1
    (word 1
    (word 0
    (ac 0 3 (gg 0 6
    (ac 1 5 (gg 1 7
    (ac 0 3 (ac 1 5 (gg 0 6 (gg 1 7 [])))))))))))))))))))))))))
