-- What a scan finds that begins after some records and reads each block after more of them: each row of its view, once.
-- Oracle Database Concepts, "Multiversion Read Consistency"; the order of blocks is this engine's own.
use Rattle.std.specs.Prelude.{◌≡◌, ℕ, ◌<◌, cond, eqb, List, [], ◌∷◌, ◌++◌, filter, option_to_list}
use Rattle.seg_words.specs.Types.{Shape}
use Rattle.redo_model.specs.Records.{Record}
use Rattle.redo_model.specs.Model.{commit_count, view, view_rows, rows_at, IsTable, IsRowBlock, is_formatted, under_high, AreAllowed}
use Rattle.redo_laws.specs.Stays.{Later, IsQuiet}
use Rattle.redo_laws.specs.Views.{IsOpen}

-- the blocks that a scan reads: the formatted ones under the high mark, in order of position
abbrev pub scan_list : Shape → List Record → ℕ → List ℕ
scan_list sh Q o = filter (λ b. is_formatted sh Q b) (under_high sh Q o)

-- what the blocks give at s for t, each after the records after which it is read
abbrev pub scanned : (ℕ → List Record) → List ℕ → ℕ → ℕ → List (ℕ × List ℕ)
scanned read [] s t = []
scanned read (b ∷ bs) s t = rows_at (read b) b s t ++ scanned read bs s t

-- the bytes of the rows with this number
abbrev pub numbered : ℕ → List (ℕ × List ℕ) → List (List ℕ)
numbered n [] = []
numbered n (x ∷ xs) = cond (eqb x.0 n) (x.1 ∷ numbered n xs) (numbered n xs)

-- block b is read after Q and more records, by which t changed nothing and the block wasn't formatted again
pub record IsReadAfter (sh : Shape) (Q R : List Record) (t b : ℕ) : Type 0 where
  pub allowed : AreAllowed sh R
  pub later : Later (IsQuiet t b) Q R

-- the number n is below those of the rows
abbrev pub IsBelow : ℕ → List (ℕ × List ℕ) → Type 0
IsBelow n [] = Unit {0}
IsBelow n (x ∷ xs) = (n < x.0) × IsBelow n xs

-- each row's number is below those after it
abbrev pub IsInOrder : List (ℕ × List ℕ) → Type 0
IsInOrder [] = Unit {0}
IsInOrder (x ∷ xs) = IsBelow x.0 xs × IsInOrder xs

-- Of each row number the rows that a scan finds have what the view has: the row once, or none. In order of number they are
-- the rows of the view.
pub record AreRowsOfView (Q : List Record) (o t : ℕ) (found : List (ℕ × List ℕ)) : Type 0 where
  pub each : (n : ℕ) → numbered n found ≡ option_to_list (view Q o (commit_count Q) t n)
  pub in_order : (rows : List (ℕ × List ℕ)) → IsInOrder rows → ((n : ℕ) → numbered n rows ≡ numbered n found) → rows ≡ view_rows Q o (commit_count Q) t

abbrev pub ScansAreWhole : Type 0
ScansAreWhole =
    (sh : Shape) (Q : List Record) (o t : ℕ) (read : ℕ → List Record) → AreAllowed sh Q → IsTable Q o → IsOpen Q t
    → ((b : ℕ) → IsRowBlock sh Q o b → IsReadAfter sh Q (read b) t b)
    → AreRowsOfView Q o t (scanned read (scan_list sh Q o) (commit_count Q) t)
