-- Who wrote what a slot gives: the newest step on its row.
use Rattle.std.specs.Prelude.{◌≡◌, ◌≢◌, ℕ, ◌≤◌, Bool, true, false, cond, ◌&&◌, eqb, List, [], ◌∷◌, Option, Some, None}
use Rattle.seg_words.specs.Types.{Shape, Writer, By, UndoAddr}
use Rattle.redo_model.specs.Records.{Record}
use Rattle.redo_model.specs.Model.{Step, commit_count, is_active, standing, newest_on, holds_row, image, Made, makers, counts, row_at, AreAllowed}
use Rattle.redo_laws.specs.Views.{IsOpen}

-- whose a step is, and its undo address
pub record Stamp : Type 0 where
  pub by : Writer
  pub undo : UndoAddr

-- of the newest maker that counts
abbrev pub made_stamp : (Writer → UndoAddr → Bool) → List Made → Option Stamp
made_stamp c [] = None
made_stamp c (m ∷ ms) = cond (c m.by m.undo) (Some (record { by = m.by; undo = m.undo })) (made_stamp c ms)

-- of the newest step on row n that counts
abbrev pub step_stamp : (Writer → UndoAddr → Bool) → List Step → ℕ → Option Stamp
step_stamp c [] n = None
step_stamp c (st ∷ ss) n = cond (c st.by st.undo && eqb st.row n) (Some (record { by = st.by; undo = st.undo })) (step_stamp c ss n)

-- the newest maker of a slot made what the row's newest standing step did
pub record NewestMade (R : List Record) (b k n : ℕ) : Type 0 where
  pub made : Made
  pub rest : List Made
  pub list : makers R b k ≡ made ∷ rest
  pub step : Step
  pub newest : newest_on (standing R) n ≡ Some step
  pub by_is : step.by ≡ made.by
  pub undo_is : step.undo ≡ made.undo

abbrev pub RowsAreNewest : Type 0
RowsAreNewest = (sh : Shape) (R : List Record) (b k : ℕ) → AreAllowed sh R → holds_row (image R b k).kind ≡ true → NewestMade R b k (image R b k).row

-- where a slot gives a row at all commits for t: the newest maker that counts made what the row's newest standing step that
-- counts did
abbrev pub GivenAreNewest : Type 0
GivenAreNewest =
    (sh : Shape) (R : List Record) (b k s t n : ℕ) (bytes : List ℕ) → AreAllowed sh R → commit_count R ≤ s → IsOpen R t → row_at R b k s t ≡ Some (n, bytes)
    → made_stamp (λ w a. counts R s t w) (makers R b k) ≡ step_stamp (λ w a. counts R s t w) (standing R) n

-- the newest maker of the slot is another active transaction, and so is the row's newest standing step
pub record HeldByOther (R : List Record) (b k t n : ℕ) : Type 0 where
  pub made : Made
  pub rest : List Made
  pub list : makers R b k ≡ made ∷ rest
  pub txn : ℕ
  pub by_is : made.by ≡ By txn
  pub active : is_active R txn ≡ true
  pub other : txn ≢ t
  pub step : Step
  pub newest : newest_on (standing R) n ≡ Some step
  pub step_by : step.by ≡ By txn

-- where a slot gives row n at all commits for t, and its newest image doesn't count, the row's newest standing step is of
-- the active transaction that made the newest image
abbrev pub OthersHold : Type 0
OthersHold =
    (sh : Shape) (R : List Record) (b k s t n : ℕ) (bytes : List ℕ) (m : Made) (ms : List Made) → AreAllowed sh R → commit_count R ≤ s → IsOpen R t
    → row_at R b k s t ≡ Some (n, bytes) → makers R b k ≡ m ∷ ms → counts R s t m.by ≡ false → HeldByOther R b k t n
