-- A table at a commit number, and what a transaction sees of it beside: read consistency (Oracle Database Concepts, "Data
-- Concurrency and Consistency"). No blocks, no places, no undo.
use Rattle.std.specs.Prelude.{ℕ, zero, suc, Bool, true, false, cond, ◌&&◌, eqb, ltb, List, [], ◌∷◌, ◌++◌, Option, Some, None}
use Rattle.seg_words.specs.Types.{Kind, Empty, Row, Head, Body}
use Rattle.redo_model.specs.Records.{Record, RowPart}
use Rattle.redo_model.specs.Effects.{Step, TxnEffect, Commits, txn_effect}
use Rattle.redo_model.specs.Ordinals.{commit_count, row_count}
use Rattle.redo_model.specs.Steps.{is_by, steps, standing}

abbrev pub holds_row : Kind → Bool
holds_row Empty = false
holds_row Row = true
holds_row Head = false
holds_row Body = true

-- the bytes of the one new image of kind Row or Body
abbrev pub row_bytes : List RowPart → List ℕ
row_bytes [] = []
row_bytes (p ∷ ps) = cond (holds_row p.new.kind) p.new.bytes (row_bytes ps)

-- what a step makes of its row
abbrev pub outcome : Step → Option (List ℕ)
outcome st = cond st.deletes None (Some (row_bytes st.parts))

-- what the newest of these steps by t on row n of table o makes of it, or what was there
abbrev pub changed : List Step → ℕ → ℕ → ℕ → Option (List ℕ) → Option (List ℕ)
changed [] o t n old = old
changed (st ∷ ss) o t n old = cond (is_by st.by t && (eqb st.obj o && eqb st.row n)) (outcome st) (changed ss o t n old)

abbrev pub table_after : TxnEffect → ℕ → List Step → ℕ → ℕ → ℕ → Option (List ℕ) → Option (List ℕ)
table_after (Commits c) count ss o s n old = cond (ltb count s) (changed ss o c.txn n old) old
table_after _ count ss o s n old = old

-- Row n of table o after the first s commits: each adds the changes of its transaction, in order. A Move adds none.
abbrev pub table_at : List Record → ℕ → ℕ → ℕ → Option (List ℕ)
table_at [] o s n = None
table_at (r ∷ R) o s n = table_after (txn_effect r) (commit_count R) (steps R) o s n (table_at R o s n)

-- Row n of table o after the first s commits, with those changes of transaction t that aren't taken back. Transactions
-- are numbered from 1; for none t is 0.
abbrev pub view : List Record → ℕ → ℕ → ℕ → ℕ → Option (List ℕ)
view R o s t n = changed (standing R) o t n (table_at R o s n)

-- rows 1 to m of a table that is given row by row
abbrev pub rows_up_to : ℕ → (ℕ → Option (List ℕ)) → List (ℕ × List ℕ)
rows_up_to zero f = []
rows_up_to (suc m) f = elim (f (suc m)) [ None ↦ rows_up_to m f | Some bytes ↦ rows_up_to m f ++ (suc m, bytes) ∷ [] ]

-- the rows of a view, in order of row number
abbrev pub view_rows : List Record → ℕ → ℕ → ℕ → List (ℕ × List ℕ)
view_rows R o s t = rows_up_to (row_count R) (view R o s t)

-- the rows of a table, in order of row number
abbrev pub table_rows : List Record → ℕ → ℕ → List (ℕ × List ℕ)
table_rows R o s = rows_up_to (row_count R) (table_at R o s)
