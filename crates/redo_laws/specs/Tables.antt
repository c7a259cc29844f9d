-- Laws on tables and marks: the low-mark rule, the view without a transaction, that records name tables that are there,
-- and that the first records of a lawful list are lawful.
use Rattle.std.specs.Prelude.{◌≡◌, ℕ, ◌≤◌, true, List, ◌∷◌, take, Option, Some, None}
use Rattle.seg_words.specs.Types.{Shape, MOST_TABLES}
use Rattle.redo_model.specs.Records.{Record, Movement, Extend, FormatBlock, Class, Advance, Lower, Insert, Update, Migrate, Return, Delete, Back, Move}
use Rattle.redo_model.specs.Model.{prefix, IsTable, data_blocks, low_mark, first_unformatted, AreAllowed, IsLawful, is_whole}

-- each block of a table at a position below its low mark is formatted
abbrev pub LowMarkRule : Type 0
LowMarkRule =
    (sh : Shape) (R : List Record) (o : ℕ) → AreAllowed sh R → 1 ≤ o → o ≤ MOST_TABLES
    → first_unformatted sh R (take (low_mark R o) (data_blocks sh R o)) ≡ None

-- the first records of a lawful list, unless they end with a Table or a Reuse, are lawful
abbrev pub PrefixesAreLawful : Type 0
PrefixesAreLawful = (sh : Shape) (R : List Record) (n : ℕ) → IsLawful sh R → is_whole (prefix R n) ≡ true → IsLawful sh (prefix R n)

-- the table that a record names, where it names one that is to be there
abbrev pub table_of : Record → Option ℕ
table_of (Movement m) = Some m.obj
table_of (Extend e) = Some e.obj
table_of (FormatBlock f) = Some f.obj
table_of (Class k) = Some k.obj
table_of (Advance a) = Some a.obj
table_of (Lower l) = Some l.obj
table_of (Insert w) = Some w.obj
table_of (Update w) = Some w.obj
table_of (Migrate w) = Some w.obj
table_of (Return w) = Some w.obj
table_of (Delete w) = Some w.obj
table_of (Back k) = Some k.obj
table_of (Move m) = Some m.obj
table_of _ = None

abbrev pub RecordsNameTables : Type 0
RecordsNameTables = (sh : Shape) (R : List Record) (r : Record) (o : ℕ) → AreAllowed sh (r ∷ R) → table_of r ≡ Some o → IsTable R o
