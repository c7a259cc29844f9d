-- The frames of a pool, and the page that each block shows over a data file. `held` lists the frames with their blocks, that
-- of the transaction table first.
use Rattle.std.specs.Prelude.{◌≡◌, ◌↔◌, ℕ, Bool, true, false, not, ◌&&◌, nat_eq, cond, List, Option, Some, None, IsSome}
use Rattle.std.specs.List.{sum_by}
use Rattle.std.specs.Map.{lookup, values_of}
use Rattle.seg_words.specs.Types.{Shape, CHECKPOINT_BLOCK}
use Rattle.page_store.specs.Types.{is_place}
use Rattle.redo_record.specs.declared.record.Record.{Record}
use Rattle.page_set.specs.declared.page.Page.{Page}
use Rattle.page_set.specs.declared.page.Page.TheVariants.{Zero}
use Rattle.page_set.specs.Pages.{dba_of}
use Rattle.page_set.specs.Spelled.{meaning_of, spelling_of}
use Rattle.page_set.specs.Folded.{page_of}
use Rattle.buffer_pool.specs.declared.frame.Frame.{Frame}

-- the store's shape, the frames with their blocks, and how many of them are dirty
pub record Pool : Type 0 where
  pub shape : Shape
  pub held : List (ℕ × Frame)
  pub dirty : ℕ

abbrev pub frame_at : List (ℕ × Frame) → ℕ → Option Frame
frame_at held d = lookup (nat_eq d) held

abbrev pub weight : Frame → ℕ
weight f = cond f.dirty 1 0

abbrev pub dirty_count : List (ℕ × Frame) → ℕ
dirty_count held = sum_by weight (values_of held)

-- a block that may have a frame: each that has a page in the data file, but the checkpoint
abbrev pub has_page : Shape → ℕ → Bool
has_page sh d = not (nat_eq d CHECKPOINT_BLOCK) && is_place sh d

-- no other block has a frame
pub record HasOnlyPages (sh : Shape) (held : List (ℕ × Frame)) : Type 0 where
  pub at : (d : ℕ) → IsSome (frame_at held d) → has_page sh d ≡ true

-- what the page of block d reads as, in a data file with these pages
abbrev pub in_file : (ℕ → List ℕ) → ℕ → Page
in_file pages d = meaning_of d (pages d)

-- these bytes are the one spelling of the page, which is block d's
pub record IsWritten (d : ℕ) (bytes : List ℕ) (p : Page) : Type 0 where
  pub spells : bytes ≡ spelling_of p
  pub dba : dba_of p ≡ d
  pub reads : meaning_of d bytes ≡ p

-- they spell some page of it
abbrev pub IsSpelled : ℕ → List ℕ → Type 0
IsSpelled d bytes = IsWritten d bytes (meaning_of d bytes)

abbrev pub page_over : Option Frame → Page → Page
page_over None base = base
page_over (Some f) base = f.page

-- the page of block d: that of its frame where it has one, else that of the file
abbrev pub page_at : (ℕ → List ℕ) → List (ℕ × Frame) → ℕ → Page
page_at pages held d = page_over (frame_at held d) (in_file pages d)

-- the page of the frame of block d
abbrev pub framed : List (ℕ × Frame) → ℕ → Page
framed held d = page_over (frame_at held d) (Zero d)

-- Block d shows a page, where the file has these bytes. A clean frame's page is written there, so the frame may be dropped.
abbrev pub IsShown : ℕ → Option Frame → List ℕ → Page → Type 0
IsShown d None bytes page = meaning_of d bytes ≡ page
IsShown d (Some f) bytes page = (f.page ≡ page) × (f.dirty ≡ false → IsWritten d bytes page)

-- over a file with these pages the pool shows the page of `image` at each block
pub record Shows (sh : Shape) (pages : ℕ → List ℕ) (image : ℕ → Page) (held : List (ℕ × Frame)) : Type 0 where
  pub at : (d : ℕ) → has_page sh d ≡ true → IsShown d (frame_at held d) (pages d) (image d)

-- so the page after the records R
abbrev pub HasPages : Shape → (ℕ → List ℕ) → List Record → List (ℕ × Frame) → Type 0
HasPages sh pages R held = Shows sh pages (page_of sh R) held

-- what the old frames show the new ones show
pub record Keeps (pages : ℕ → List ℕ) (old new : List (ℕ × Frame)) : Type 0 where
  pub at : (d : ℕ) (page : Page) → IsShown d (frame_at old d) (pages d) page → IsShown d (frame_at new d) (pages d) page

-- the dirty frames are those of before, whatever the file holds
pub record SameDirty (old new : List (ℕ × Frame)) : Type 0 where
  pub at : (d : ℕ) (f : Frame) → f.dirty ≡ true → (frame_at new d ≡ Some f) ↔ (frame_at old d ≡ Some f)

-- each block that had a frame has one
pub record KeepsFrames (old new : List (ℕ × Frame)) : Type 0 where
  pub at : (d : ℕ) → IsSome (frame_at old d) → IsSome (frame_at new d)

abbrev pub IsClean : Option Frame → Type 0
IsClean None = ⊥
IsClean (Some f) = f.dirty ≡ false

abbrev pub IsDirty : Option Frame → Type 0
IsDirty None = ⊥
IsDirty (Some f) = f.dirty ≡ true

abbrev pub dirty_frame : Page → Frame
dirty_frame p = record { page = p; dirty = true }

abbrev pub clean_frame : Page → Frame
clean_frame p = record { page = p; dirty = false }
