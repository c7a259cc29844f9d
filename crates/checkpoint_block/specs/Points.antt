-- What block 0 of a data file says: the last checkpoint. A page of zeros there is the checkpoint of a store that had none yet.
use Rattle.std.specs.Prelude.{◌≡◌, ◌≢◌, ◌⊎◌, ℕ, ◌<◌, ◌^◌, Bool, ◌==◌, ◌&&◌, if◌then◌else◌, List, replicate, Option, Some, None, Result, Ok, Err, bytes_eq}
use Rattle.seg_words.specs.Types.{Shape, BLOCK_SIZE, CHECKPOINT_BLOCK, FIRST_GATE}
use Rattle.page_store.specs.declared.fault.PageFault.{PageFault}
use Rattle.page_store.specs.declared.fault.PageFault.TheVariants.{DeviceFault, BadPage, NoMemory}
use Rattle.page_store.specs.Types.{HasPages}
use Rattle.page_set.specs.declared.page.Page.{Page}
use Rattle.page_set.specs.declared.page.Page.TheVariants as kinds
use Rattle.page_set.specs.Pages.{dba_of}
use Rattle.page_set.specs.Spelled.{spelling_of, meaning_of}
use Rattle.checkpoint_block.specs.declared.point.Checkpoint.{Checkpoint}

-- no record, a log that ends at its first gate, no commit
abbrev pub first_point : Checkpoint
first_point = record { length = 0; end_gate = FIRST_GATE; commits = 0 }

-- what a page of block 0 says of a checkpoint, where it is of a kind that does
abbrev pub point_on : Page → Option Checkpoint
point_on (kinds.Zero d) = Some first_point
point_on (kinds.Checkpoint p) = Some (record { length = p.records; end_gate = p.end_gate; commits = p.commits })
point_on (kinds.Txns t) = None
point_on (kinds.Catalogue c) = None
point_on (kinds.Space s) = None
point_on (kinds.Undo u) = None
point_on (kinds.First m) = None
point_on (kinds.Second m) = None
point_on (kinds.Third m) = None
point_on (kinds.Header h) = None
point_on (kinds.Rows x) = None

-- the bytes spell the page that they read as, and it is one of block 0
abbrev pub is_own_page : List ℕ → Page → Bool
is_own_page bytes page = bytes_eq bytes (spelling_of page) && (dba_of page == CHECKPOINT_BLOCK)

-- the checkpoint that the bytes of block 0 say
unfoldable pub point_of : List ℕ → Option Checkpoint
point_of bytes = if is_own_page bytes (meaning_of CHECKPOINT_BLOCK bytes) then point_on (meaning_of CHECKPOINT_BLOCK bytes) else None

-- the page that says a checkpoint, and its bytes
abbrev pub page_of_point : Checkpoint → Page
page_of_point p = kinds.Checkpoint (record { dba = CHECKPOINT_BLOCK; records = p.length; end_gate = p.end_gate; commits = p.commits })

abbrev pub spelled_point : Checkpoint → List ℕ
spelled_point p = spelling_of (page_of_point p)

pub record HasNumbers (p : Checkpoint) : Type 0 where
  pub length : p.length < 2 ^ 64
  pub end_gate : p.end_gate < 2 ^ 64
  pub commits : p.commits < 2 ^ 64

-- what reading the checkpoint answered, where these are the bytes of block 0
abbrev pub IsSaid : List ℕ → Result Checkpoint PageFault → Type 0
IsSaid bytes (Ok point) = point_of bytes ≡ Some point
IsSaid bytes (Err DeviceFault) = Unit {0}
IsSaid bytes (Err (BadPage dba)) = (point_of bytes ≡ None) × (dba ≡ CHECKPOINT_BLOCK)
IsSaid bytes (Err NoMemory) = Unit {0}

-- the pages with a checkpoint in block 0
abbrev pub with_point : Checkpoint → (ℕ → List ℕ) → ℕ → List ℕ
with_point point pages b = if CHECKPOINT_BLOCK == b then spelled_point point else pages b

-- the pages as they were, or with the checkpoint
abbrev pub PointOrNot : Shape → (ℕ → List ℕ) → Checkpoint → List ℕ → Type 0
PointOrNot shape pages point bytes = HasPages shape pages bytes ⊎ HasPages shape (with_point point pages) bytes

abbrev pub EachPointIsSaid : Type 0
EachPointIsSaid = (p : Checkpoint) → HasNumbers p → point_of (spelled_point p) ≡ Some p

abbrev pub ZerosSayTheFirstPoint : Type 0
ZerosSayTheFirstPoint = point_of (replicate BLOCK_SIZE 0) ≡ Some first_point

-- what stands in block 0, and what in each other block
pub record HasPoint (point : Checkpoint) (old new : ℕ → List ℕ) : Type 0 where
  pub here : new CHECKPOINT_BLOCK ≡ spelled_point point
  pub others : (b : ℕ) → b ≢ CHECKPOINT_BLOCK → new b ≡ old b

abbrev pub OtherPagesStay : Type 0
OtherPagesStay = (point : Checkpoint) (pages : ℕ → List ℕ) → HasPoint point pages (with_point point pages)
