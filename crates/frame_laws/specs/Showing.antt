-- What a pool shows of the records of a list: pages that have come so far and no further, and that can be read back once they are
-- written.
use Rattle.std.specs.Prelude.{◌≡◌, ℕ, suc, ◌<◌, ◌≤◌, ◌^◌, true, List, length}
use Rattle.seg_words.specs.Types.{Shape, is_shape}
use Rattle.redo_model.specs.Records.{Record}
use Rattle.redo_model.specs.Model.{AreAllowed}
use Rattle.page_set.specs.Pages.{lsn_of}
use Rattle.page_set.specs.Folded.{page_of}
use Rattle.buffer_pool.specs.declared.frame.Frame.{Frame}
use Rattle.buffer_pool.specs.Frames.{HasOnlyPages, HasPages}
use Rattle.buffer_pool.specs.Batches.{AreUpTo, ReadBack}

-- of any list: the page of a block has no LSN that no record has
abbrev pub PagesComeSoFar : Type 0
PagesComeSoFar = (sh : Shape) (R : List Record) (d : ℕ) → lsn_of (page_of sh R d) ≤ length R

-- nor has a page in a frame of a pool that shows these pages
abbrev pub FramesComeSoFar : Type 0
FramesComeSoFar = (sh : Shape) (R : List Record) (pages : ℕ → List ℕ) (held : List (ℕ × Frame)) → HasPages sh pages R held → HasOnlyPages sh held → AreUpTo (length R) held

-- of an allowed list with fewer records than numbers of 64 bits can count
abbrev pub PagesReadBack : Type 0
PagesReadBack = (sh : Shape) (R : List Record) → is_shape sh ≡ true → suc (length R) < 2 ^ 64 → AreAllowed sh R → ReadBack sh (page_of sh R)
