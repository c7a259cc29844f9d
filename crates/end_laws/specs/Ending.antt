-- The records that end a transaction, and those that take its changes back, as functions of the list before them. Oracle
-- Database Concepts, "Transactions": a rollback undoes the changes one by one, the newest first.
use Rattle.std.specs.Prelude.{◌≡◌, ℕ, suc, true, false, List, [], ◌∷◌, Option, Some, None}
use Rattle.seg_words.specs.Types.{Shape}
use Rattle.redo_model.specs.Records.{Record, Commit, Back, Ended, RowPart, CommitRecord, BackRecord, EndedRecord}
use Rattle.redo_model.specs.Model.{Step, commit_count, is_active, entry_of, standing, newest_of, undo_of_step, without_step, is_backed, taken_back, IsLawful}

abbrev pub entry_or : Option ℕ → ℕ
entry_or None = 0
entry_or (Some i) = i

-- the entry of the transaction table that t took
abbrev pub table_place : List Record → ℕ → ℕ
table_place R t = entry_or (entry_of R t)

-- ---- a commit

abbrev pub commit_of : List Record → ℕ → CommitRecord
commit_of R t = record { txn = t; number = suc (commit_count R); entry = table_place R t }

-- an active transaction of which nothing is taken back
pub record MayCommit (R : List Record) (t : ℕ) : Type 0 where
  pub active : is_active R t ≡ true
  pub whole : is_backed R t ≡ false

abbrev pub CommitsAreAllowed : Type 0
CommitsAreAllowed = (sh : Shape) (R : List Record) (t : ℕ) → IsLawful sh R → MayCommit R t → IsLawful sh (Commit (commit_of R t) ∷ R)

-- ---- the end of a rollback

abbrev pub ended_of : List Record → ℕ → EndedRecord
ended_of R t = record { txn = t; entry = table_place R t }

-- an active transaction of which no record is left
pub record MayEnd (R : List Record) (t : ℕ) : Type 0 where
  pub active : is_active R t ≡ true
  pub none_left : newest_of (standing R) t ≡ None

abbrev pub EndsAreAllowed : Type 0
EndsAreAllowed = (sh : Shape) (R : List Record) (t : ℕ) → IsLawful sh R → MayEnd R t → IsLawful sh (Ended (ended_of R t) ∷ R)

-- ---- a step of a rollback

-- the record that takes back a standing one of the transaction
abbrev pub back_of : List Record → ℕ → Step → BackRecord
back_of R t st = record {
  txn = t;
  entry = table_place R t;
  obj = st.obj;
  row = st.row;
  undo = st.undo;
  previous = st.previous;
  parts = taken_back st.parts;
  last = undo_of_step (newest_of (without_step st.undo (standing R)) t);
}

abbrev pub backed_with : List Record → ℕ → Option Step → List Record
backed_with R t None = R
backed_with R t (Some st) = Back (back_of R t st) ∷ R

-- the list after one step of the rollback of t: its newest standing record is taken back; where none is left, it stays
abbrev pub backed : List Record → ℕ → List Record
backed R t = backed_with R t (newest_of (standing R) t)

abbrev pub blocks_in : List RowPart → List ℕ
blocks_in [] = []
blocks_in (p ∷ ps) = p.dba ∷ blocks_in ps

-- the row blocks of a record, in the order of its parts
abbrev pub blocks_of_step : Option Step → Option (List ℕ)
blocks_of_step None = None
blocks_of_step (Some st) = Some (blocks_in st.parts)

abbrev pub BacksAreAllowed : Type 0
BacksAreAllowed = (sh : Shape) (R : List Record) (t : ℕ) → IsLawful sh R → is_active R t ≡ true → IsLawful sh (backed R t)
