-- The DNA behind the ports (02, "The DNA behind the ports"): the lanes' letters, lane after lane, and refusals 39 and 40.
use Rattle.std.specs.Prelude.{ℕ, Bool, ◌&&◌, List, [], map, reverse, eqb, length, get_or}
use Rattle.ground.specs.Lists.{pick, split, sum, all}
use Rattle.storage.specs.Bytes.{part}
use Rattle.storage.specs.Records.{padded}
use Rattle.storage.specs.Orders.{same_word}
use Rattle.storage.specs.declared.Port.{Port}
use Rattle.image.specs.Panel.{Panel, PanelLane, panel_of}
use Rattle.panel.specs.Refusals.{letter}
use Rattle.graph.specs.Check.{panel_refusal}
use Rattle.evaluate.specs.declared.Refusal.{Refusal}
use Rattle.evaluate.specs.Refusals.{no_refusal, unless, at}

-- A and T, C and G
unfoldable pub complement : ℕ → ℕ
complement b = pick (eqb b 65) 84 (pick (eqb b 67) 71 (pick (eqb b 71) 67 (pick (eqb b 84) 65 b)))

-- the complements of the letters, the last one first
unfoldable pub reverse_complement : List ℕ → List ℕ
reverse_complement l = reverse (map complement l)

-- letters read forward, or reverse
abbrev pub oriented : Bool → List ℕ → List ℕ
oriented reverse l = pick reverse (reverse_complement l) l

abbrev pub length_of : PanelLane → ℕ
length_of l = l.len

-- the length of each lane
unfoldable pub lengths : Panel → List ℕ
lengths p = map length_of p.lanes

-- "lane after lane": the letters of one lane
unfoldable pub lane_letters : Panel → List ℕ → ℕ → List ℕ
lane_letters p d lane = get_or (split (lengths p) d) lane []

-- n letters of a lane from a place on, as this orientation reads them
unfoldable pub piece : Panel → List ℕ → ℕ → ℕ → ℕ → Bool → List ℕ
piece p d lane from n reverse = oriented reverse (part (lane_letters p d lane) from n)

-- 39: the letters are as many as the lanes are long, and "only A, C, G and T"
unfoldable pub sound39 : Panel → List ℕ → Bool
sound39 p d = eqb (sum (lengths p)) (length d) && all letter d

-- a port's "k letters, reverse complemented when the port is reverse"
abbrev pub port_letters : Panel → List ℕ → Port → List ℕ
port_letters p d q = piece p d q.source q.anchor p.k q.reverse

-- its word equals them
unfoldable pub word_fits : Panel → List ℕ → Port → Bool
word_fits p d q = same_word q.word (padded (port_letters p d q) p.k)

unfoldable pub row_fits : Panel → List ℕ → PanelLane → Bool
row_fits p d l = all (word_fits p d) l.ports

-- 40: "every port's word", of the lanes' lists and of the global one
unfoldable pub sound40 : Panel → List ℕ → Bool
sound40 p d = all (row_fits p d) p.lanes && all (word_fits p d) p.hub

-- 39 and 40 of an accepted panel
unfoldable pub letters_refusal : Panel → List ℕ → ℕ
letters_refusal p d = unless (sound39 p d) 39 (unless (sound40 p d) 40 0)

-- "after 8, in calls that take the letters": the answer of the letters' check, of the image's bytes and the letters
unfoldable pub letters_answer : List ℕ → List ℕ → Refusal
letters_answer s d = at (panel_refusal s) 0 (at (letters_refusal (panel_of s) d) 0 no_refusal)
