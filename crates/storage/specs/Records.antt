-- What stands in a port record (01, "Panel image"): the word, the source, the anchor, the reverse byte.
use Rattle.std.specs.Prelude.{ℕ, ◌+◌, ◌-◌, ◌/◌, Bool, true, false, ◌&&◌, List, ◌++◌, eqb, take, drop, get_or, replicate}
use Rattle.ground.specs.Lists.{pick}
use Rattle.storage.specs.Bytes.{number}
use Rattle.storage.specs.declared.Port.{Port}

-- the bytes of a record beside its word
abbrev pub record_excess : ℕ
record_excess = 17

abbrev pub record_size : ℕ → ℕ
record_size k = k + record_excess

-- the letters that a word may have
abbrev pub longest_word : ℕ
longest_word = 32

-- a word of k letters, padded with zeros: of equal k, padded words are in the order of the words
abbrev pub padded : List ℕ → ℕ → List ℕ
padded w k = w ++ replicate (longest_word - k) 0

-- the record that the bytes begin with
unfoldable pub port_of : ℕ → List ℕ → Port
port_of k s =
    record {
      word = padded (take k s) k;
      source = number (drop k s);
      anchor = number (drop (k + 8) s);
      reverse = eqb (get_or s (k + 16) 0) 1;
    }

-- where a list has no such record
abbrev pub no_port : Port
no_port = record { word = replicate longest_word 0; source = 0; anchor = 0; reverse = false }

-- how far from its anchor a port is cut: k/2 rounded down, or the rest of k where it is reverse
abbrev pub cut_offset : ℕ → Bool → ℕ
cut_offset k reverse = pick reverse (k - k / 2) (k / 2)

-- the cut that a port at this anchor has by this orientation
abbrev pub cut_as : ℕ → Bool → ℕ → ℕ
cut_as k reverse anchor = anchor + cut_offset k reverse

abbrev pub cut_of : Port → ℕ → ℕ
cut_of p k = cut_as k p.reverse p.anchor

-- two orientations are one
abbrev pub same_turn : Bool → Bool → Bool
same_turn true true = true
same_turn true false = false
same_turn false true = false
same_turn false false = true

-- a port has this cut and this orientation
unfoldable pub stands_at : ℕ → ℕ → Bool → Port → Bool
stands_at k cut reverse p = eqb (cut_of p k) cut && same_turn p.reverse reverse
