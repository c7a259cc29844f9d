-- What the page of the space bitmap says: which extents are taken, and how often marks were lowered.
use Rattle.std.specs.Prelude.{◌≡◌, ℕ, ◌<◌, true, List, [], length}
use Rattle.seg_words.specs.Types.{MOST_TABLES}
use Rattle.seg_base.specs.declared.shape.Shape.{Shape}
use Rattle.seg_base.specs.Places.{is_shape}
use Rattle.segment_blocks.specs.Spaces.{Space as SpacePage, is_used}
use Rattle.redo_record.specs.declared.record.Record.{Record}
use Rattle.redo_model.specs.Ordinals.{lowering_count}
use Rattle.redo_model.specs.Segments.{Extent, extents_of, is_taken}
use Rattle.redo_model.specs.Lawful.{AreAllowed}
use Rattle.page_set.specs.declared.page.Page.{Page}
use Rattle.page_set.specs.declared.page.Page.TheVariants.{Zero, Space}
use Rattle.page_set.specs.Folded.{page_of}

-- an extent is in use exactly where one of the 32 tables has it
pub record SpaceSays (R : List Record) (s : SpacePage) : Type 0 where
  pub count : length s.bits ≡ 256
  pub lowerings : s.lowerings ≡ lowering_count R
  pub used : (x : ℕ) → x < 2043 → is_used s.bits x ≡ is_taken R MOST_TABLES x

-- no table has an extent, and no marks were lowered
pub record NothingTaken (R : List Record) : Type 0 where
  pub lowerings : lowering_count R ≡ 0
  pub extents : (o : ℕ) → extents_of R o ≡ []

abbrev pub SaysSpace : List Record → Page → Type 0
SaysSpace R (Zero d) = NothingTaken R
SaysSpace R (Space s) = SpaceSays R s
SaysSpace R _ = ⊥

-- the page of block 3: it is written with the first extent that a table gets
abbrev pub SpacesSay : Type 0
SpacesSay = (sh : Shape) (R : List Record) → is_shape sh ≡ true → AreAllowed sh R → SaysSpace R (page_of sh R 3)
