-- The sizes of the image's parts and the bounds of its counts (01, "Panel image" and "Bounds"), each in this one place.
use Rattle.std.specs.Prelude.{ℕ}

-- a word, the header, a lane entry: bytes
abbrev pub word_size : ℕ
word_size = 8

abbrev pub header_size : ℕ
header_size = 80

abbrev pub entry_size : ℕ
entry_size = 24

-- lanes L, families F, paths a family, ports N
abbrev pub most_lanes : ℕ
most_lanes = 4096

abbrev pub most_families : ℕ
most_families = 4096

abbrev pub most_paths : ℕ
most_paths = 64

abbrev pub most_ports : ℕ
most_ports = 4194304

-- a lane's length
abbrev pub longest_lane : ℕ
longest_lane = 4294967295
