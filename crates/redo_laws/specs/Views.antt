-- Rows at a commit number are spread over blocks without loss. Oracle Database Concepts, "Multiversion Read Consistency": a
-- scan sees each row that was committed when it began, once. That the rows are met block by block is this engine's own.
use Rattle.std.specs.Prelude.{◌≡◌, ◌⊎◌, ℕ, ◌≤◌, ◌<◌, true, List, Some, None}
use Rattle.seg_words.specs.Types.{Shape, Head}
use Rattle.redo_model.specs.Records.{Record}
use Rattle.redo_model.specs.Model.{commit_count, is_active, table_at, view, slot_count, image_at, row_at, IsTable, IsRowBlock, AreAllowed}

-- an active transaction, or none
abbrev pub IsOpen : List Record → ℕ → Type 0
IsOpen R t = (t ≡ 0) ⊎ (is_active R t ≡ true)

-- a slot of a formatted block of the table under its high mark that gives this row at s for t
pub record Gives (sh : Shape) (R : List Record) (o s t n : ℕ) (bytes : List ℕ) : Type 0 where
  pub block : ℕ
  pub here : IsRowBlock sh R o block
  pub slot : ℕ
  pub there : slot < slot_count R block
  pub gives : row_at R block slot s t ≡ Some (n, bytes)

-- of table o at s for t: each row of the view is given, each row that is given is in the view, no row number is given by
-- two slots of any blocks, and a head gives none
pub record SpreadOf (sh : Shape) (R : List Record) (o s t : ℕ) : Type 0 where
  pub given : (n : ℕ) (bytes : List ℕ) → view R o s t n ≡ Some bytes → Gives sh R o s t n bytes
  pub viewed : (b k n : ℕ) (bytes : List ℕ) → IsRowBlock sh R o b → row_at R b k s t ≡ Some (n, bytes) → view R o s t n ≡ Some bytes
  pub once : (b k c l n : ℕ) (x y : List ℕ) → row_at R b k s t ≡ Some (n, x) → row_at R c l s t ≡ Some (n, y) → (b ≡ c) × (k ≡ l)
  pub none_at_head : (b k : ℕ) → (image_at R b k s t).kind ≡ Head → row_at R b k s t ≡ None

-- at all commits, or any greater number
abbrev pub RowsAreSpread : Type 0
RowsAreSpread = (sh : Shape) (R : List Record) (o s t : ℕ) → AreAllowed sh R → IsTable R o → commit_count R ≤ s → IsOpen R t → SpreadOf sh R o s t

-- without a transaction a view is the table
abbrev pub ViewOfNone : Type 0
ViewOfNone = (sh : Shape) (R : List Record) (o s n : ℕ) → AreAllowed sh R → view R o s 0 n ≡ table_at R o s n
