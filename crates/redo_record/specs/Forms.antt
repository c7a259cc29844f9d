-- Reading bytes from left to right: a value and the bytes after it, or None where no value is spelled there.
use Rattle.std.specs.Prelude.{◌≡◌, ℕ, zero, suc, Bool, List, [], ◌∷◌, length, take, drop, nat_lt, Option, Some, None, Result, Ok, Err, if◌then◌else◌}
use Rattle.seg_words.specs.Types.{Width, byte_len, from_be_bytes}
use Rattle.std.specs.Borrow.{Bor}
use Rattle.std.specs.Global.{Vec}
use Rattle.redo_record.specs.OwnTypes.{ReadFault}
use Rattle.redo_record.specs.declared.fault.ReadFault.TheVariants as faults

infixl 10 ◌>>=◌
abbrev pub ◌>>=◌ : {A B : Type 0} → Option A → (A → Option B) → Option B
(Some x) >>= f = f x
None >>= f = None

-- a reader of values
abbrev pub Reader : Type 0 → Type 0
Reader A = List ℕ → Option (A × List ℕ)

abbrev pub byte : Reader ℕ
byte [] = None
byte (b ∷ bs) = Some (b, bs)

abbrev pub number : Width → Reader ℕ
number w bytes = if nat_lt (length bytes) (byte_len w) then None else Some (from_be_bytes w (take (byte_len w) bytes), drop (byte_len w) bytes)

-- so many bytes
abbrev pub text : ℕ → Reader (List ℕ)
text n bytes = if nat_lt (length bytes) n then None else Some (take n bytes, drop n bytes)

-- one value, and behind it one that may depend on it
abbrev pub both : {A B : Type 0} → Reader A → (A → Reader B) → Reader (A × B)
both r s bytes = r bytes >>= λ x. s x.0 x.1 >>= λ y. Some ((x.0, y.0), y.1)

-- what the value that is read stands for, if it stands for something
abbrev pub chosen : {A B : Type 0} → (A → Option B) → Reader A → Reader B
chosen f r bytes = r bytes >>= λ x. f x.0 >>= λ v. Some (v, x.1)

abbrev pub made : {A B : Type 0} → (A → B) → Reader A → Reader B
made f r bytes = r bytes >>= λ x. Some (f x.0, x.1)

-- the value, if it passes a test
abbrev pub tested : {A : Type 0} → (A → Bool) → Reader A → Reader A
tested test r bytes = r bytes >>= λ x. if test x.0 then Some x else None

-- so many values
abbrev pub many : {A : Type 0} → Reader A → ℕ → Reader (List A)
many r zero bytes = Some ([], bytes)
many r (suc n) bytes = r bytes >>= λ x. many r n x.1 >>= λ xs. Some (x.0 ∷ xs.0, xs.1)

-- What a function that reads answers, and leaves to be read; want of memory is free.
abbrev pub Reads : {X : Type 0} → Result X ReadFault → List ℕ → Option (X × List ℕ) → Type 0
Reads (Ok x) rest read = read ≡ Some (x, rest)
Reads (Err faults.NotARecord) rest read = read ≡ None
Reads (Err faults.NoMemory) rest read = Unit {0}

-- The same of bytes that are lent.
abbrev pub ReadsBytes : Result (Bor (List ℕ)) ReadFault → List ℕ → Option (List ℕ × List ℕ) → Type 0
ReadsBytes (Ok b) rest read = read ≡ Some (b.now, rest)
ReadsBytes (Err faults.NotARecord) rest read = read ≡ None
ReadsBytes (Err faults.NoMemory) rest read = Unit {0}

-- The same of a `Vec`'s items.
abbrev pub ReadsItems : {X : Type 0} → Result (Vec X) ReadFault → List ℕ → Option (List X × List ℕ) → Type 0
ReadsItems (Ok v) rest read = read ≡ Some (v.items, rest)
ReadsItems (Err faults.NotARecord) rest read = read ≡ None
ReadsItems (Err faults.NoMemory) rest read = Unit {0}
