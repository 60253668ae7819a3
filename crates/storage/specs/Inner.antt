-- What inner functions promise each other; nothing here is part of a public promise.
use Rattle.std.specs.Prelude.{ℕ, ◌+◌, ◌*◌, ◌≤◌, ◌≡◌, true, List, length, drop}
use Rattle.ground.specs.Lists.{each, rising}
use Rattle.storage.specs.Records.{port_of, record_size, longest_word}
use Rattle.storage.specs.Orders.{record_lt}

-- n records of words of k letters stand from base on
pub record Records (s : List ℕ) (base n k : ℕ) : Type 0 where
  pub fits : base + n * record_size k ≤ length s
  pub short : k ≤ longest_word

-- and they rise as the global list does
pub record Sorted (s : List ℕ) (base n k : ℕ) : Type 0 where
  pub stand : Records s base n k
  pub rise : rising record_lt (each (port_of k) (record_size k) n (drop base s)) ≡ true

-- where record i begins
pub record Offset (s : List ℕ) (base n k i at : ℕ) : Type 0 where
  pub place : at ≡ base + i * record_size k
  pub room : at + record_size k ≤ length s
