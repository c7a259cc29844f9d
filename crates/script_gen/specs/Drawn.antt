-- Numbers that look random, and the rows that they draw. This engine's own.
use Rattle.std.specs.Prelude.{ℕ, zero, suc, ◌+◌, ◌*◌, ◌/◌, ◌%◌, ◌^◌, List, replicate}

-- a linear congruence modulo 2^31
abbrev pub first_number : ℕ → ℕ
first_number number = number % 2 ^ 31

unfoldable pub next_number : ℕ → ℕ
next_number x = (x * 1103515245 + 12345) % 2 ^ 31

-- after so many steps
abbrev pub nth_number : ℕ → ℕ → ℕ
nth_number number zero = first_number number
nth_number number (suc i) = next_number (nth_number number i)

-- what a number draws
abbrev pub drawn : ℕ → ℕ
drawn x = x / 65536

-- 20 to 80 times the same letter
unfoldable pub row_of : ℕ → List ℕ
row_of x = replicate (20 + drawn x % 61) (97 + drawn x % 26)
