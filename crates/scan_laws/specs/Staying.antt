-- How long a block of a scan's list stays what it was: a row block of its table stays one, at its place, and isn't formatted
-- again, until a Lower of the table releases its extent; then it is none of the table's any more. So a scan of which no block
-- that it has yet to read was released may go on, and another one is right to stop. Oracle Database Administrator's Guide,
-- "Shrinking Database Segments Online"; that a scan stops there is this engine's own.
use Rattle.std.specs.Prelude.{◌≡◌, ◌≢◌, ℕ, ◌≤◌, Bool, true, false, ◌&&◌, ◌||◌, eqb, List, [], ◌∷◌, length, Some, Contains}
use Rattle.seg_words.specs.Types.{Shape}
use Rattle.redo_model.specs.Records.{Record, Lower}
use Rattle.redo_model.specs.Model.{Extends, effect_of, Extent, extents_of, extent_at, in_extent, data_blocks, IsTable, IsRowBlock, AreAllowed}
use Rattle.redo_model.specs.Effects.{Formats}
use Rattle.redo_laws.specs.Scan.{IsReadAfter}
use Rattle.redo_laws.specs.Since.{any_since}
use Rattle.redo_laws.specs.Stays.{Later, IsNotOf, IsQuiet}

-- one of these extents has the block
abbrev pub has_block : Shape → List ℕ → ℕ → Bool
has_block sh [] b = false
has_block sh (x ∷ xs) b = in_extent sh x b || has_block sh xs b

-- the record is a Lower of table o that releases the extent with block b
abbrev pub releases : Shape → ℕ → ℕ → Record → Bool
releases sh o b (Lower l) = eqb l.obj o && has_block sh l.released b
releases sh o b _ = false

-- one after the first n records is
abbrev pub is_released_since : Shape → ℕ → List Record → ℕ → ℕ → Bool
is_released_since sh n R o b = any_since (releases sh o b) n R

-- after one more record
pub record BlockStays (sh : Shape) (R : List Record) (r : Record) (o b : ℕ) : Type 0 where
  pub row_block : IsRowBlock sh (r ∷ R) o b
  pub listed : Contains (data_blocks sh (r ∷ R) o) b
  pub not_again : effect_of r ≢ Formats b

abbrev pub RowBlocksStay : Type 0
RowBlocksStay = (sh : Shape) (R : List Record) (r : Record) (o b : ℕ) → AreAllowed sh (r ∷ R) → IsTable R o → IsRowBlock sh R o b → releases sh o b r ≡ false → BlockStays sh R r o b

-- After more records. With nothing by a transaction among them all that it reads in the block stays.
pub record StaysSince (sh : Shape) (Q R : List Record) (o b : ℕ) : Type 0 where
  pub row_block : IsRowBlock sh R o b
  pub not_again : Later (λ e. e ≢ Formats b) Q R
  pub quiet : (t : ℕ) → Later (λ e. IsNotOf e t) Q R → Later (IsQuiet t b) Q R
  pub same_extent : (i : ℕ) (e : Extent) → extent_at (extents_of Q o) i ≡ Some e → in_extent sh e.number b ≡ true → extent_at (extents_of R o) i ≡ Some e

abbrev pub RowBlocksStaySince : Type 0
RowBlocksStaySince =
    (sh : Shape) (Q R : List Record) (o b : ℕ) → AreAllowed sh R → Extends Q R → IsTable Q o → IsRowBlock sh Q o b → is_released_since sh (length Q) R o b ≡ false → StaysSince sh Q R o b

-- a released block is no data block of the table, and none of its extents has it
pub record IsGone (sh : Shape) (R : List Record) (o b : ℕ) : Type 0 where
  pub no_data : Contains (data_blocks sh R o) b → ⊥
  pub no_extent : (i : ℕ) (e : Extent) → extent_at (extents_of R o) i ≡ Some e → in_extent sh e.number b ≡ false

abbrev pub ReleasedAreGone : Type 0
ReleasedAreGone = (sh : Shape) (R : List Record) (r : Record) (o b : ℕ) → AreAllowed sh (r ∷ R) → IsTable R o → releases sh o b r ≡ true → IsGone sh (r ∷ R) o b

-- An incarnation tells whether a block was released: where the table has an extent with the block that is no newer than Q,
-- the block wasn't released since Q. So a block that is known by its number and the incarnation of its extent is known.
abbrev pub IncarnationsTellReleases : Type 0
IncarnationsTellReleases =
    (sh : Shape) (Q R : List Record) (o b i : ℕ) (e : Extent) → AreAllowed sh R → Extends Q R → IsTable Q o → extent_at (extents_of R o) i ≡ Some e → in_extent sh e.number b ≡ true
    → e.incarnation ≤ length Q → is_released_since sh (length Q) R o b ≡ false

-- What a scan needs of a block that it reads later holds where the block wasn't released since the scan began, and its own
-- transaction added nothing: so by the law on scans each row of its view is found once.
abbrev pub UnreleasedAreRead : Type 0
UnreleasedAreRead =
    (sh : Shape) (Q R : List Record) (o t b : ℕ) → AreAllowed sh R → Extends Q R → IsTable Q o → IsRowBlock sh Q o b → is_released_since sh (length Q) R o b ≡ false → Later (λ e. IsNotOf e t) Q R
    → IsReadAfter sh Q R t b
