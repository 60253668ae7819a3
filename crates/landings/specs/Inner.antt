-- What a unit of the walk reads of port records; nothing here is part of a public promise.
use Rattle.std.specs.Prelude.{ℕ, ◌+◌, ◌*◌, ◌%◌, ◌≤◌, ◌≡◌, Bool, true, false, ◌&&◌, List, leb, ltb, eqb, length, drop, get_or}
use Rattle.ground.specs.Lists.{pick}
use Rattle.storage.specs.Records.{port_of, record_size, cut_as, cut_of, same_turn, no_port}
use Rattle.storage.specs.declared.Port.{Port}
use Rattle.storage.specs.declared.Members.{Members}
use Rattle.storage.specs.Orders.{bucket_of}
use Rattle.image.specs.declared.Header.{Header}
use Rattle.image.specs.Image.{lane_ports}
use Rattle.image.specs.Panel.{panel_of}
use Rattle.landings.specs.declared.Landing.{Landing}

unfoldable pub landing_of : ℕ → Port → Landing
landing_of k q = record { source = q.source; cut = cut_of q k; reverse = q.reverse }

abbrev pub same_landing : Landing → Landing → Bool
same_landing a b = eqb a.source b.source && eqb a.cut b.cut && same_turn a.reverse b.reverse

-- a port lies before a cut, or (forward) at it, by this orientation
unfoldable pub reached : ℕ → Bool → ℕ → Port → Bool
reached k reverse cut q = pick reverse (ltb (cut_as k true q.anchor) cut) (leb (cut_as k false q.anchor) cut)

-- the record of a port begins here
pub record Here (s : List ℕ) (k : ℕ) (q : Port) (at : ℕ) : Type 0 where
  pub is : port_of k (drop at s) ≡ q
  pub room : at + record_size k ≤ length s
  pub small : (port_of k (drop at s)).anchor + k ≤ 4294967295

-- ---- the memo of buckets

abbrev pub memo_words : ℕ
memo_words = 12288

-- the seat of a lane port
abbrev pub seat_of : ℕ → ℕ
seat_of port = 3 * (port % 4096)

-- where a lane port has its seat, its bucket stands behind it
pub record Known (s : List ℕ) (h : Header) (memo : List ℕ) : Type 0 where
  pub long : length memo ≡ memo_words
  pub told : (port : ℕ) → get_or memo (seat_of port) 0 ≡ port + 1
      → ◌≡◌ {A = Members} (record { lo = get_or memo (seat_of port + 1) 0; hi = get_or memo (seat_of port + 2) 0 }) (bucket_of (get_or (lane_ports h s) port no_port).word (panel_of s).hub)
