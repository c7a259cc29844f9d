-- The batch of dirty pages that are written next, and what it leaves.
use Rattle.std.specs.Prelude.{◌≡◌, ℕ, ◌≤◌, Bool, true, Option, Some, None, ◌&&◌, List, filter, take, map, nat_eq, nat_le, cond, IfSome}
use Rattle.std.specs.List.{list_any}
use Rattle.std.specs.List.Sorted.{IsPermutation, IsSorted}
use Rattle.std.specs.Option.{option_map}
use Rattle.std.specs.Ordering.{nat_cmp}
use Rattle.std.specs.Map.{keys_of}
use Rattle.seg_words.specs.Types.{Shape}
use Rattle.page_store.specs.declared.page.RawPage.{RawPage}
use Rattle.page_set.specs.declared.page.Page.{Page}
use Rattle.page_set.specs.Pages.{dba_of, lsn_of}
use Rattle.page_set.specs.Spelled.{spelling_of, HasSpelling}
use Rattle.buffer_pool.specs.declared.frame.Frame.{Frame}
use Rattle.buffer_pool.specs.Frames.{frame_at, framed, has_page, clean_frame}

-- dirty, with a page that no record after `upto` changed
abbrev pub is_due : ℕ → Frame → Bool
is_due upto f = f.dirty && nat_le (lsn_of f.page) upto

-- a block has a frame that is due
abbrev pub IsDueIn : ℕ → Option Frame → Type 0
IsDueIn upto None = ⊥
IsDueIn upto (Some f) = (f.dirty ≡ true) × (lsn_of f.page ≤ upto)

abbrev pub due_blocks : ℕ → List (ℕ × Frame) → List ℕ
due_blocks upto held = keys_of (filter (λ e. is_due upto e.1) held)

-- the page of a block's frame, as it is written
abbrev pub raw_page : List (ℕ × Frame) → ℕ → RawPage
raw_page held d = record { dba = d; bytes = spelling_of (framed held d) }

-- the due pages of the blocks of least number, at most `most`
pub record IsBatch (most upto : ℕ) (held : List (ℕ × Frame)) (batch : List RawPage) : Type 0 where
  pub all : List ℕ
  pub due : IsPermutation (due_blocks upto held) all
  pub order : IsSorted nat_cmp all
  pub pages : batch ≡ map (raw_page held) (take most all)

abbrev pub cleaned : Frame → Frame
cleaned f = clean_frame f.page

-- the frames of these blocks are clean, and all else is as it was
pub record Settled (blocks : List ℕ) (old new : List (ℕ × Frame)) : Type 0 where
  pub at : (d : ℕ) → frame_at new d ≡ cond (list_any (λ b. nat_eq b d) blocks) (option_map cleaned (frame_at old d)) (frame_at old d)

-- no page in a frame was changed by a record after `upto`
pub record AreUpTo (upto : ℕ) (held : List (ℕ × Frame)) : Type 0 where
  pub at : (d : ℕ) → IfSome (frame_at held d) (λ f. lsn_of f.page ≤ upto)

-- no page in a dirty frame was
pub record AreDirtyUpTo (upto : ℕ) (held : List (ℕ × Frame)) : Type 0 where
  pub at : (d : ℕ) → IfSome (frame_at held d) (λ f. f.dirty ≡ true → lsn_of f.page ≤ upto)

-- what is written of each of these pages reads as the page again
pub record ReadBack (sh : Shape) (image : ℕ → Page) : Type 0 where
  pub spelled : (d : ℕ) → has_page sh d ≡ true → HasSpelling (image d)
  pub dba : (d : ℕ) → has_page sh d ≡ true → dba_of (image d) ≡ d
