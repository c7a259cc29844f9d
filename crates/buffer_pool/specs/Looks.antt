-- Calls that bring pages into frames and change none.
use Rattle.std.specs.Prelude.{◌≡◌, ℕ, List}
use Rattle.disk_model.specs.Types.{Meaning, Untouched}
use Rattle.page_store.specs.Types.{IsStore}
use Rattle.buffer_pool.specs.Frames.{Pool, Keeps, SameDirty}

-- The disk was only read. Dirty frames stay as they are, whatever the file holds; over the file of a store each block shows
-- what it showed.
pub record Looks {D : Type 0} (meaning : Meaning D) (disk disk2 : D) (old new : Pool) : Type 0 where
  pub untouched : Untouched meaning disk disk2
  pub reads : meaning.told disk → meaning.log_reads disk2 ≡ meaning.log_reads disk
  pub shape : new.shape ≡ old.shape
  pub dirty : new.dirty ≡ old.dirty
  pub same : SameDirty old.held new.held
  pub shows : (pages : ℕ → List ℕ) → IsStore meaning disk old.shape pages → Keeps pages old.held new.held
