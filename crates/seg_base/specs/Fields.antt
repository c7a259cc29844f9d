-- Number fields: unsigned, big-endian.
use Rattle.std.specs.Prelude.{ℕ, ◌+◌, List, ◌++◌, length, take, drop}
use Rattle.std.specs.Int.{Width, byte_len, from_be_bytes}

-- the number at a place of some bytes
abbrev pub number_in : Width → List ℕ → ℕ → ℕ
number_in w bytes at = from_be_bytes w (take (byte_len w) (drop at bytes))

-- some bytes with others in the place of those that stood from a place on
abbrev pub put_at : List ℕ → ℕ → List ℕ → List ℕ
put_at bytes at new = take at bytes ++ (new ++ drop (at + length new) bytes)
