-- What is proved of spelling, as statements (02, "The DNA behind the ports"): a crop cut in two, the normal form, and the letters around a switch.
use Rattle.std.specs.Prelude.{ℕ, ◌+◌, ◌-◌, ◌/◌, ◌≤◌, ◌<◌, ◌≡◌, length, take, drop}
use mathlib.Core.List.{List, [], ◌∷◌, ◌++◌, Memᴰ}
use Rattle.storage.specs.Bytes.{part}
use Rattle.storage.specs.Records.{padded}
use Rattle.image.specs.Panel.{Panel, panel_of}
use Rattle.graph.specs.Check.{panel_refusal}
use Rattle.evaluate.specs.declared.Segment.{Segment}
use Rattle.evaluate.specs.Properties.{Each}
use Rattle.evaluate.specs.Refusals.{no_refusal}
use Rattle.evaluate.specs.Segments.{Route, Assignment, SoundSpan, normalize}
use Rattle.evaluate.specs.Legal.{Joint, Legal}
use Rattle.letters.specs.Letters.{letters_refusal}
use Rattle.evaluate.specs.Check.{normal_words, given_refusal}
use Rattle.spell.specs.Spelling.{spell_segment, spell_route, crop, route_in, spell_refusal, spell_answer, spell_out}
use Rattle.spell.specs.declared.SpellReply.{SpellReply}

-- what a call spells: of out afterwards, as many letters as it tells
unfoldable pub spelled_into : List ℕ → List ℕ → List ℕ → ℕ → ℕ → ℕ → List ℕ → List ℕ
spelled_into s d ws slot from to out = take (spell_answer s d ws slot from to (length out)).letters (spell_out s d ws slot from to out)

-- ---- "A crop cut into two non-empty ones spells the two parts joined."

-- whatever rooms the two parts are spelled into, if they have room: they are accepted where the whole is, and the whole is the two joined
pub record Parts (s d ws : List ℕ) (slot from mid to : ℕ) (out left right : List ℕ) : Type 0 where
  pub first : spell_refusal s d ws slot from mid (length left) ≡ no_refusal
  pub second : spell_refusal s d ws slot mid to (length right) ≡ no_refusal
  pub joined : spelled_into s d ws slot from to out ≡ spelled_into s d ws slot from mid left ++ spelled_into s d ws slot mid to right

abbrev pub CutInTwo : Type 0
CutInTwo =
    (s d ws : List ℕ) (slot from mid to : ℕ) (out left right : List ℕ) → spell_refusal s d ws slot from to (length out) ≡ no_refusal
    → from < mid → mid < to → mid - from ≤ length left → to - mid ≤ length right → Parts s d ws slot from mid to out left right

-- ---- a route as given and its normal form spell the same

abbrev pub NormalSpellsTheSame : Type 0
NormalSpellsTheSame = (p : Panel) (d : List ℕ) (r : Route) → Each (SoundSpan p) r → spell_route p d (normalize r) ≡ spell_route p d r

-- ---- "Around each switch the k letters, k/2 before and k - k/2 after, read the port's word where the two pieces are at least that long."

abbrev pub before : Panel → ℕ
before p = p.k / 2

abbrev pub behind : Panel → ℕ
behind p = p.k - p.k / 2

-- the k letters around a place of a route's letters
unfoldable pub around : Panel → List ℕ → Route → ℕ → List ℕ
around p d r place = crop (place - before p) (place + behind p) (spell_route p d r)

-- they are the word of the port at which the left piece leaves, and of the one at which the right one enters
pub record ReadsWord (p : Panel) (letters : List ℕ) (u v : Segment) : Type 0 where
  pub ports : Joint p u v
  pub left : ports.left.word ≡ padded letters p.k
  pub right : ports.right.word ≡ padded letters p.k

-- where two pieces of a route meet that are long enough: what is before them, the two, what is behind them; of a route in normal form this is a switch
pub record Switch (p : Panel) (d : List ℕ) (r : Route) (first : Route) (u v : Segment) (last : Route) : Type 0 where
  pub is : r ≡ first ++ u ∷ v ∷ last
  pub long : before p ≤ length (spell_segment p d u)
  pub long_too : behind p ≤ length (spell_segment p d v)

-- the number of the first letter behind it
abbrev pub switch_at : Panel → List ℕ → Route → Segment → ℕ
switch_at p d first u = length (spell_route p d (first ++ u ∷ []))

-- of every switch of every route of a legal assignment, of an accepted panel and accepted letters
abbrev pub SwitchesReadWords : Type 0
SwitchesReadWords =
    (s d : List ℕ) → panel_refusal s ≡ 0 → letters_refusal (panel_of s) d ≡ 0
    → (a : Assignment) → Legal (panel_of s) a → (r : Route) → Memᴰ r a.routes
    → (first : Route) (u v : Segment) (last : Route) → Switch (panel_of s) d r first u v last
    → ReadsWord (panel_of s) (around (panel_of s) d r (switch_at (panel_of s) d first u)) u v

-- ---- the same of the calls

-- the words of the normal form, which the check writes, are answered as those that it read, and leave the same in out
pub record SameCall (s d ws vs : List ℕ) (slot from to : ℕ) (out : List ℕ) : Type 0 where
  pub answer : spell_answer s d vs slot from to (length out) ≡ spell_answer s d ws slot from to (length out)
  pub letters : spell_out s d vs slot from to out ≡ spell_out s d ws slot from to out

abbrev pub NormalWordsSpellTheSame : Type 0
NormalWordsSpellTheSame =
    (s d ws : List ℕ) → panel_refusal s ≡ 0 → letters_refusal (panel_of s) d ≡ 0 → (given_refusal (panel_of s) ws).number ≡ 0
    → (slot from to : ℕ) (out : List ℕ) → SameCall s d ws (normal_words ws) slot from to out

-- the k letters around a place are accepted, and what the call spells of them is the ports' word
pub record CallReadsWord (s d ws : List ℕ) (slot place : ℕ) (out : List ℕ) (u v : Segment) : Type 0 where
  pub accepted : spell_refusal s d ws slot (place - before (panel_of s)) (place + behind (panel_of s)) (length out) ≡ no_refusal
  pub reads : ReadsWord (panel_of s) (spelled_into s d ws slot (place - before (panel_of s)) (place + behind (panel_of s)) out) u v

-- of every switch of the normal form of the route of a slot, where out has room for k letters
abbrev pub CallsReadWords : Type 0
CallsReadWords =
    (s d ws : List ℕ) → panel_refusal s ≡ 0 → letters_refusal (panel_of s) d ≡ 0 → (given_refusal (panel_of s) ws).number ≡ 0
    → (slot : ℕ) (first : Route) (u v : Segment) (last : Route) → Switch (panel_of s) d (normalize (route_in ws slot)) first u v last
    → (out : List ℕ) → (panel_of s).k ≤ length out → CallReadsWord s d ws slot (switch_at (panel_of s) d first u) out u v

-- ---- what a reply says, and out beside it

pub record Spells (s d ws : List ℕ) (slot from to : ℕ) (entry : List ℕ) (r : SpellReply) (exit : List ℕ) : Type 0 where
  pub told : r.letters ≡ to - from
  pub begins : take (to - from) exit ≡ crop from to (spell_route (panel_of s) d (route_in ws slot))
  pub rest : drop (to - from) exit ≡ drop (to - from) entry
  -- around every switch whose k letters the crop has, they stand in out, and are the ports' word
  pub reads : (first : Route) (u v : Segment) (last : Route) → Switch (panel_of s) d (normalize (route_in ws slot)) first u v last
      → from ≤ switch_at (panel_of s) d first u - before (panel_of s) → switch_at (panel_of s) d first u + behind (panel_of s) ≤ to
      → ReadsWord (panel_of s) (part exit (switch_at (panel_of s) d first u - before (panel_of s) - from) (panel_of s).k) u v

pub record SpellHolds (s d ws : List ℕ) (slot from to : ℕ) (entry : List ℕ) (r : SpellReply) (exit : List ℕ) : Type 0 where
  pub refused : 0 < r.refusal → (r.letters ≡ 0) × (exit ≡ entry)
  pub spelled : r.refusal ≡ 0 → Spells s d ws slot from to entry r exit
