-- Pieces of a line, and numbers in it.
use Rattle.std.specs.Prelude.{ℕ, ◌+◌, ◌*◌, ◌-◌, Bool, ◌&&◌, not, ◌==◌, nat_le, nat_lt, if◌then◌else◌, List, [], ◌∷◌, length, slice_index, fold, Option, Some, None, is_none, option_and_then}
use Rattle.seg_words.specs.Types.{list_all}
use Rattle.std.specs.List.{slice_split}

infixl 10 ◌>>=◌
abbrev pub ◌>>=◌ : {A B : Type 0} → Option A → (A → Option B) → Option B
o >>= f = option_and_then f o

-- the bytes before the first c, and those after it
abbrev pub cut : ℕ → List ℕ → List ℕ × Option (List ℕ)
cut c [] = ([], None)
cut c (b ∷ bs) = if b == c then ([], Some bs) else (b ∷ (cut c bs).0, (cut c bs).1)

-- whether no space stands in the bytes
abbrev pub is_word : List ℕ → Bool
is_word bytes = is_none (cut 32 bytes).1

-- words are separated by one space, so two spaces make an empty word
abbrev pub words : List ℕ → List (List ℕ)
words bytes = slice_split (λ b. b == 32) bytes

abbrev pub words_left : Option (List ℕ) → List (List ℕ)
words_left None = []
words_left (Some bytes) = words bytes

-- the last word of a line, where it is that
abbrev pub last_word : Option (List ℕ) → Option (List ℕ)
last_word None = None
last_word (Some bytes) = if is_word bytes then Some bytes else None

-- from 0x20 to 0xFF, without 0x7F
abbrev pub is_text_byte : ℕ → Bool
is_text_byte b = nat_le 32 b && not (b == 127)

abbrev pub is_digit : ℕ → Bool
is_digit b = nat_le 48 b && nat_le b 57

abbrev pub with_digit : ℕ → ℕ → ℕ
with_digit n b = n * 10 + (b - 48)

-- the number that decimal digits spell
abbrev pub value_of : List ℕ → ℕ
value_of bytes = fold with_digit 0 bytes

-- decimal digits without a sign or a leading zero
abbrev pub is_number : List ℕ → Bool
is_number bytes =
    nat_lt 0 (length bytes) && not (nat_lt 1 (length bytes) && (slice_index bytes 0 == 48)) && list_all is_digit bytes

abbrev pub value_within : ℕ → List ℕ → Option ℕ
value_within most digits = if nat_le (value_of digits) most then Some (value_of digits) else None

-- a number from 0 to the most
unfoldable pub number_of : ℕ → List ℕ → Option ℕ
number_of most bytes = if is_number bytes then value_within most bytes else None

abbrev pub not_zero : ℕ → Option ℕ
not_zero n = if n == 0 then None else Some n

-- a number from 1 to the most
abbrev pub ordinal_of : ℕ → List ℕ → Option ℕ
ordinal_of most bytes = number_of most bytes >>= not_zero
