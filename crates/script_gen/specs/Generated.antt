-- The script that is made from a number. This engine's own.
use Rattle.std.specs.Prelude.{ℕ, zero, suc, ◌%◌, ◌==◌, ◌||◌, true, false, if◌then◌else◌, List, [], ◌∷◌, ◌++◌, codes, decimal}
use Rattle.script_text.specs.declared.statement.Statement.{Statement}
use Rattle.script_text.specs.declared.statement.Statement.TheVariants as asks
use Rattle.script_text.specs.declared.statement.Target.TheVariants.{Label}
use Rattle.script_text.specs.Script.{Script}
use Rattle.script_gen.specs.Drawn.{nth_number, row_of}

-- ---- statements

abbrev pub label_of : ℕ → List ℕ
label_of i = codes "r" ++ decimal i

-- the insert of row i, with what this number draws
abbrev pub insert_of : ℕ → ℕ → Statement
insert_of i x = asks.Insert (codes "g") (label_of i) (row_of x)

abbrev pub delete_of : ℕ → Statement
delete_of i = asks.Delete (codes "g") (Label (label_of i))

-- ---- what stands for row i, of so many rows

-- a commit stands after each hundredth insert and after the last one, one alone where that is the same insert
abbrev pub commit_after : ℕ → ℕ → List Statement
commit_after rows i = if i % 100 == 0 || i == rows then asks.Commit ∷ [] else []

-- each second row is deleted
abbrev pub deletes_at : ℕ → List Statement
deletes_at i = if i % 2 == 0 then delete_of i ∷ [] else []

-- ---- the first i rows

abbrev pub inserts_to : ℕ → ℕ → ℕ → List Statement
inserts_to number rows zero = []
inserts_to number rows (suc i) = inserts_to number rows i ++ (insert_of (suc i) (nth_number number (suc i)) ∷ commit_after rows (suc i))

abbrev pub deletes_to : ℕ → List Statement
deletes_to zero = []
deletes_to (suc i) = deletes_to i ++ deletes_at (suc i)

-- ---- the script, of one session

abbrev pub making : List Statement
making = asks.Table (codes "g") 10 ∷ asks.Movement (codes "g") true ∷ []

abbrev pub ending : List Statement
ending = asks.Commit ∷ asks.Shrink (codes "g") false ∷ asks.Scan (codes "g") ∷ []

abbrev pub statements_of : ℕ → ℕ → List Statement
statements_of number rows = making ++ inserts_to number rows rows ++ deletes_to rows ++ ending

unfoldable pub generated : ℕ → ℕ → Script
generated number rows = record { sessions = statements_of number rows ∷ []; schedule = [] }
