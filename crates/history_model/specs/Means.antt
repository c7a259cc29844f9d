-- What an entry means: by its statement and its outcome, each case by itself. What stands in no case is no outcome of the
-- statement.
use Rattle.std.specs.Prelude.{◌≡◌, ℕ, true, false, Option, Some, None}
use Rattle.seg_words.specs.Types.{Shape}
use Rattle.script_text.specs.declared.statement.Statement.{Statement}
use Rattle.script_text.specs.declared.statement.Statement.TheVariants as asked
use Rattle.history_text.specs.declared.outcome.Outcome.{Outcome}
use Rattle.history_text.specs.declared.outcome.Outcome.TheVariants as told
use Rattle.history_text.specs.declared.refusal.Refusal.{Refusal}
use Rattle.history_text.specs.declared.refusal.Refusal.TheVariants as why
use Rattle.history_model.specs.declared.history.Kept.{Kept}
use Rattle.history_model.specs.declared.history.Kept.TheVariants as kept
use Rattle.history_model.specs.Spans.{Span}
use Rattle.history_model.specs.SoFar.{SoFar}
use Rattle.history_model.specs.Order.{is_first_tested, passes_over}
use Rattle.history_model.specs.Causes.{Cause}
use Rattle.history_model.specs.RowMeans.{InsertMeans, UpdateMeans, DeleteMeans, CommitMeans, RollbackMeans, NothingMeans}
use Rattle.history_model.specs.TableMeans.{TableMeans, MovementMeans, ScanMeans, UsageMeans, FixMeans, RepairMeans}
use Rattle.history_model.specs.ShrinkMeans.{CompactMeans, ShrinkMeans}

-- how many blocks of its list a refused scan had read: it keeps the number where it is refused after it had begun
abbrev pub blocks_read : Kept → ℕ
blocks_read (kept.Read blocks) = blocks
blocks_read _ = 0

abbrev pub Keeps : Refusal → Kept → Type 0
Keeps (why.ObjectGone extent lowering) k = k ≡ kept.Read (blocks_read k)
Keeps (why.TooOld a) k = k ≡ kept.Read (blocks_read k)
Keeps (why.TooOldEntry u) k = k ≡ kept.Read (blocks_read k)
Keeps refusal k = k ≡ kept.Nothing

-- Refused: by its cause. What is tested as the statement begins is refused by its first event, which adds no record. What is
-- tested later finds the statement as it was before its last event: its session has changed no row and begun no transaction.
pub record RefusalMeans (sh : Shape) (x : Span) (st : Statement) (refusal : Refusal) (k : Kept) : Type 0 where
  pub keeps : Keeps refusal k
  pub cause : Cause sh x st (blocks_read k) refusal
  pub at_once : is_first_tested refusal ≡ true → x.ended ≡ x.begun
  pub so_far : SoFar x (Some st)

-- the printed name is the stated one
abbrev pub Means : Shape → Span → Option Statement → Outcome → Kept → Type 0
Means sh x (Some (asked.Table name pctfree)) (told.Table n) kept.Nothing = (n ≡ name) × TableMeans x name pctfree
Means sh x (Some (asked.Movement name on)) (told.Movement n o) kept.Nothing = (n ≡ name) × (o ≡ on) × MovementMeans x name on
Means sh x (Some (asked.Insert name label text)) (told.Inserted row) kept.Nothing = InsertMeans sh x name label text row
Means sh x (Some (asked.Update name target text)) (told.Updated row) kept.Nothing = UpdateMeans sh x name target text row
Means sh x (Some (asked.Delete name target)) (told.Deleted row) kept.Nothing = DeleteMeans x name target row
Means sh x (Some asked.Commit) (told.Committed number) kept.Nothing = CommitMeans x number
Means sh x (Some asked.Commit) told.NothingToCommit kept.Nothing = NothingMeans x
Means sh x (Some asked.Rollback) told.RolledBack kept.Nothing = RollbackMeans x
Means sh x (Some asked.Rollback) told.NothingToRollBack kept.Nothing = NothingMeans x
Means sh x None told.RolledBack kept.Nothing = RollbackMeans x
Means sh x (Some (asked.Scan name)) (told.Scan n at rows) kept.Nothing = (n ≡ name) × ScanMeans sh x name at rows
Means sh x (Some (asked.Shrink name true)) (told.Compacted n moved skipped stop) (kept.Stopped skips stopped) = (n ≡ name) × CompactMeans sh x name moved skipped stop skips stopped
Means sh x (Some (asked.Shrink name false)) (told.Shrunk n moved skipped stop released high) (kept.Stopped skips stopped) = (n ≡ name) × ShrinkMeans sh x name moved skipped stop released high skips stopped
Means sh x (Some (asked.Usage name)) (told.Usage n usage) kept.Nothing = (n ≡ name) × UsageMeans sh x name usage
Means sh x (Some (asked.Fix name block value)) (told.Fixed b class) kept.Nothing = (b ≡ block) × FixMeans x name block value class
Means sh x (Some (asked.Repair name)) (told.Repaired n changed) (kept.Repaired settled) = (n ≡ name) × RepairMeans sh x name changed settled
Means sh x (Some asked.Checkpoint) told.Checkpoint kept.Nothing = x.ended ≡ x.begun
Means sh x (Some st) (told.Refused refusal) k = RefusalMeans sh x st refusal k
Means sh x st outcome k = ⊥

-- no cause applies that the outcome passes over
abbrev pub PassesOver : Shape → Span → Option Statement → Outcome → Kept → Type 0
PassesOver sh x None outcome k = Unit {0}
PassesOver sh x (Some st) outcome k = (y : Refusal) → passes_over outcome y ≡ true → Cause sh x st (blocks_read k) y → ⊥
