-- The rows of the grammar: the statement of a line behind its first word. This engine's own.
use Rattle.std.specs.Prelude.{ℕ, Bool, true, false, ◌||◌, ◌==◌, nat_le, if◌then◌else◌, List, [], ◌∷◌, length, Option, Some, None, Result, Ok, Err, ok_or, codes, bytes_eq}
use Rattle.seg_words.specs.Types.{is_name, LONGEST_ROW, MOST_PCTFREE}
use Rattle.script_text.specs.OwnTypes.{MOST_ROW_NUMBER, MOST_NUMBER, Statement, Target, Label, Number, Form, Table, Movement, Insert, Update, Delete, Commit, Rollback, Scan, Shrink, Usage, Fix, Repair, Checkpoint, Why, NotAStatement, BadName, BadNumber, RowEmpty, RowTooLong}
use Rattle.script_text.specs.Pieces.{cut, last_word, number_of, ordinal_of, is_word}
use Rattle.script_text.specs.declared.statement.Statement.TheVariants as asks

infixl 10 ◌>>=◌
abbrev pub ◌>>=◌ : {A B : Type 0} → Result A Why → (A → Result B Why) → Result B Why
(Ok a) >>= f = f a
(Err why) >>= f = Err why

-- ---- words of a line
abbrev pub named : List ℕ → Result (List ℕ) Why
named word = if is_name word then Ok word else Err BadName

-- what follows the sign of a label
abbrev pub label_in : List ℕ → Result (List ℕ) Why
label_in [] = Err NotAStatement
label_in (b ∷ bs) = if b == 64 then Ok bs else Err NotAStatement

-- a word with the sign of a label or of a row number
abbrev pub marked : List ℕ → Result (List ℕ) Why
marked [] = Err NotAStatement
marked (b ∷ bs) = if b == 64 || b == 35 then Ok (b ∷ bs) else Err NotAStatement

-- row numbers are 1 to 2^48
abbrev pub numbered : List ℕ → Result Target Why
numbered digits = ok_or (ordinal_of MOST_ROW_NUMBER digits) BadNumber >>= λ row. Ok (Number row)

abbrev pub labelled : List ℕ → Result Target Why
labelled word = named word >>= λ label. Ok (Label label)

-- a marked word: `@K` or `#N`
abbrev pub target_of : List ℕ → Result Target Why
target_of [] = Err NotAStatement
target_of (b ∷ bs) = if b == 64 then labelled bs else numbered bs

-- 1 to 1,800 bytes
abbrev pub text_of : List ℕ → Result (List ℕ) Why
text_of [] = Err RowEmpty
text_of (b ∷ bs) = if nat_le (length (b ∷ bs)) LONGEST_ROW then Ok (b ∷ bs) else Err RowTooLong

abbrev pub switch_of : Option (List ℕ) → Result Bool Why
switch_of None = Err NotAStatement
switch_of (Some word) = if bytes_eq word (codes "on") then Ok true else (if bytes_eq word (codes "off") then Ok false else Err NotAStatement)

abbrev pub compact_of : Option (List ℕ) → Result Bool Why
compact_of None = Ok false
compact_of (Some word) = if bytes_eq word (codes "compact") then Ok true else Err NotAStatement

-- ---- rows, from behind the first space
-- `table T P`
unfoldable pub table_of : List ℕ → Result Statement Why
table_of rest = do
  percent ← ok_or (last_word (cut 32 rest).1) NotAStatement
  name ← named (cut 32 rest).0
  pctfree ← ok_or (number_of MOST_PCTFREE percent) BadNumber
  Ok (asks.Table name pctfree)

-- `movement T on`, `movement T off`
unfoldable pub movement_of : List ℕ → Result Statement Why
movement_of rest = do
  on ← switch_of (cut 32 rest).1
  table ← named (cut 32 rest).0
  Ok (asks.Movement table on)

-- `insert T @K TEXT`
unfoldable pub insert_of : List ℕ → Result Statement Why
insert_of rest = do
  after ← ok_or (cut 32 rest).1 NotAStatement
  bytes ← ok_or (cut 32 after).1 NotAStatement
  word ← label_in (cut 32 after).0
  table ← named (cut 32 rest).0
  label ← named word
  text ← text_of bytes
  Ok (asks.Insert table label text)

-- `update T @K TEXT`, `update T #N TEXT`
unfoldable pub update_of : List ℕ → Result Statement Why
update_of rest = do
  after ← ok_or (cut 32 rest).1 NotAStatement
  bytes ← ok_or (cut 32 after).1 NotAStatement
  word ← marked (cut 32 after).0
  table ← named (cut 32 rest).0
  target ← target_of word
  text ← text_of bytes
  Ok (asks.Update table target text)

-- `delete T @K`, `delete T #N`
unfoldable pub delete_of : List ℕ → Result Statement Why
delete_of rest = do
  last ← ok_or (last_word (cut 32 rest).1) NotAStatement
  word ← marked last
  table ← named (cut 32 rest).0
  target ← target_of word
  Ok (asks.Delete table target)

-- a line with one more word, a table's name
abbrev pub one_name : List ℕ → Result (List ℕ) Why
one_name rest = if is_word rest then named rest else Err NotAStatement

-- `shrink T`, `shrink T compact`
unfoldable pub shrink_of : List ℕ → Result Statement Why
shrink_of rest = do
  compact ← compact_of (cut 32 rest).1
  table ← named (cut 32 rest).0
  Ok (asks.Shrink table compact)

-- a block, and the value where there is one; both are 32 bits
abbrev pub fix_block : List ℕ → List ℕ → Result Statement Why
fix_block name digits = do
  table ← named name
  block ← ok_or (number_of MOST_NUMBER digits) BadNumber
  Ok (asks.Fix table block None)

abbrev pub fix_value : List ℕ → List ℕ → List ℕ → Result Statement Why
fix_value name digits last = do
  table ← named name
  block ← ok_or (number_of MOST_NUMBER digits) BadNumber
  value ← ok_or (number_of MOST_NUMBER last) BadNumber
  Ok (asks.Fix table block (Some value))

abbrev pub fix_with : List ℕ → List ℕ → Option (List ℕ) → Result Statement Why
fix_with name digits None = fix_block name digits
fix_with name digits (Some last) = if is_word last then fix_value name digits last else Err NotAStatement

-- `fix T B`, `fix T B V`
unfoldable pub fix_of : List ℕ → Result Statement Why
fix_of rest = ok_or (cut 32 rest).1 NotAStatement >>= λ after. fix_with (cut 32 rest).0 (cut 32 after).0 (cut 32 after).1

-- `scan T`
abbrev pub scan_of : List ℕ → Result Statement Why
scan_of rest = one_name rest >>= λ table. Ok (asks.Scan table)

-- `usage T`
abbrev pub usage_of : List ℕ → Result Statement Why
usage_of rest = one_name rest >>= λ table. Ok (asks.Usage table)

-- `repair T`
abbrev pub repair_of : List ℕ → Result Statement Why
repair_of rest = one_name rest >>= λ table. Ok (asks.Repair table)

-- a line of the one word
abbrev pub row_alone : Form → Result Statement Why
row_alone Commit = Ok asks.Commit
row_alone Rollback = Ok asks.Rollback
row_alone Checkpoint = Ok asks.Checkpoint
row_alone form = Err NotAStatement

abbrev pub row_with : Form → List ℕ → Result Statement Why
row_with Table rest = table_of rest
row_with Movement rest = movement_of rest
row_with Insert rest = insert_of rest
row_with Update rest = update_of rest
row_with Delete rest = delete_of rest
row_with Scan rest = scan_of rest
row_with Shrink rest = shrink_of rest
row_with Usage rest = usage_of rest
row_with Fix rest = fix_of rest
row_with Repair rest = repair_of rest
row_with form rest = Err NotAStatement

-- the statement of a line of this form, by what stands behind its first word
abbrev pub row : Form → Option (List ℕ) → Result Statement Why
row form None = row_alone form
row form (Some rest) = row_with form rest
