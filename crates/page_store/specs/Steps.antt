-- What each step of a batch leaves in the file.
use Rattle.std.specs.Prelude.{◌≡◌, ◌≢◌, ℕ, ◌*◌, ◌<◌, ◌≤◌, true, List, length, get_or}
use Rattle.seg_words.specs.Types.{w32, to_be_bytes, AllByRecursion, is_shape, Shape, BLOCK_SIZE}
use Rattle.page_store.specs.Pages.{gate, block, copies_of, is_place, is_batch}
use Rattle.page_store.specs.Batches.{blocks_of, IsShut}
use Rattle.page_store.specs.declared.page.RawPage.{RawPage}

abbrev pub dba_bytes : RawPage → List ℕ
dba_bytes p = to_be_bytes w32 p.dba

abbrev pub IsNotIn : ℕ → List RawPage → Type 0
IsNotIn b batch = AllByRecursion (λ (p : RawPage). p.dba ≢ b) batch

abbrev pub AreWhole : List RawPage → Type 0
AreWhole batch = AllByRecursion (λ (p : RawPage). length p.bytes ≡ BLOCK_SIZE) batch

-- The area has the copies of a batch, and in all other blocks stand the pages.
pub record HasCopies (shape : Shape) (pages : ℕ → List ℕ) (batch : List RawPage) (bytes : List ℕ) : Type 0 where
  pub within : is_shape shape ≡ true
  pub long : BLOCK_SIZE * shape.blocks ≤ length bytes
  pub places : is_batch shape (blocks_of batch) ≡ true
  pub whole : AreWhole batch
  pub copies : copies_of bytes ≡ batch
  pub others : (b : ℕ) → is_place shape b ≡ true → IsNotIn b batch → block b bytes ≡ pages b

-- the same behind a gate that is closed, with the pages from before the batch
pub record IsCopied (shape : Shape) (pages : ℕ → List ℕ) (batch : List RawPage) (bytes : List ℕ) : Type 0 where
  pub copies : HasCopies shape pages batch bytes
  pub before : IsShut shape pages bytes

-- the same behind a gate that is open
pub record IsOpened (shape : Shape) (pages : ℕ → List ℕ) (batch : List RawPage) (bytes : List ℕ) : Type 0 where
  pub copies : HasCopies shape pages batch bytes
  pub one : gate bytes ≡ 1

-- the first of a batch stand in their blocks
abbrev pub InPlace : ℕ → List RawPage → List ℕ → Type 0
InPlace n batch bytes = (j : ℕ) (d : RawPage) → j < n → block (get_or batch j d).dba bytes ≡ (get_or batch j d).bytes

-- all of it stands there
pub record IsPlaced (shape : Shape) (pages : ℕ → List ℕ) (batch : List RawPage) (bytes : List ℕ) : Type 0 where
  pub copies : HasCopies shape pages batch bytes
  pub in_place : InPlace (length batch) batch bytes
