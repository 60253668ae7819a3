-- The orders of port records (01, refusal 7): the global list goes by word, source, anchor, and forward before reverse; a lane's list by anchor, and forward before reverse.
use Rattle.std.specs.Prelude.{ℕ, ◌+◌, ◌*◌, Bool, true, false, not, List, [], ◌∷◌, ltb}
use Rattle.ground.specs.Lists.{pick, count}
use Rattle.storage.specs.declared.Port.{Port}
use Rattle.storage.specs.declared.Members.{Members}
use Rattle.std.specs.declared.cmp.Ordering.{Ordering}
use Rattle.std.specs.declared.cmp.Ordering.TheVariants.{Less, Equal, Greater}

-- the first order that decides
abbrev pub and_then : Ordering → Ordering → Ordering
and_then Less o = Less
and_then Equal o = o
and_then Greater o = Greater

abbrev pub num_order : ℕ → ℕ → Ordering
num_order x y = pick (ltb x y) Less (pick (ltb y x) Greater Equal)

-- forward before reverse
abbrev pub flag_order : Bool → Bool → Ordering
flag_order true true = Equal
flag_order true false = Greater
flag_order false true = Less
flag_order false false = Equal

-- letter by letter
unfoldable pub word_order : List ℕ → List ℕ → Ordering
word_order [] [] = Equal
word_order [] (y ∷ ys) = Less
word_order (x ∷ xs) [] = Greater
word_order (x ∷ xs) (y ∷ ys) = and_then (num_order x y) (word_order xs ys)

unfoldable pub port_order : Port → Port → Ordering
port_order a b =
    and_then (word_order a.word b.word)
    (and_then (num_order a.source b.source)
    (and_then (num_order a.anchor b.anchor)
    (flag_order a.reverse b.reverse)))

abbrev pub is_less : Ordering → Bool
is_less Less = true
is_less Equal = false
is_less Greater = false

abbrev pub is_equal : Ordering → Bool
is_equal Less = false
is_equal Equal = true
is_equal Greater = false

abbrev pub is_greater : Ordering → Bool
is_greater Less = false
is_greater Equal = false
is_greater Greater = true

-- two words are one
abbrev pub same_word : List ℕ → List ℕ → Bool
same_word v w = is_equal (word_order v w)

-- a record stands before another in the global list
unfoldable pub record_lt : Port → Port → Bool
record_lt a b = is_less (port_order a b)

-- two records are one
unfoldable pub same_port : Port → Port → Bool
same_port a b = is_equal (port_order a b)

-- an anchor and an orientation as one number: forward before reverse at one anchor
abbrev pub turn : Bool → ℕ
turn false = 0
turn true = 1

unfoldable pub place_of : ℕ → Bool → ℕ
place_of anchor reverse = 2 * anchor + turn reverse

abbrev pub place : Port → ℕ
place p = place_of p.anchor p.reverse

-- a record stands before another in a lane's list
unfoldable pub place_lt : Port → Port → Bool
place_lt a b = ltb (place a) (place b)

-- it stands before a place
unfoldable pub place_before : ℕ → Bool → Port → Bool
place_before anchor reverse p = ltb (place p) (place_of anchor reverse)

-- 01, "Ports and buckets": a record with a lower word, and one with a lower or equal word
unfoldable pub word_below : List ℕ → Port → Bool
word_below w p = is_less (word_order p.word w)

unfoldable pub word_up_to : List ℕ → Port → Bool
word_up_to w p = not (is_greater (word_order p.word w))

-- a bucket's bounds are counts
unfoldable pub bucket_of : List ℕ → List Port → Members
bucket_of w l = record { lo = count (word_below w) l; hi = count (word_up_to w) l }
