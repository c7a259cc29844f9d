-- Over lists of which each record was allowed: each record fits every page that it touches, row blocks have pages of rows, and
-- an undo page has the sequence of the list.
use Rattle.std.specs.Prelude.{◌≡◌, ℕ, suc, length, ◌≤◌, true, List, ◌∷◌}
use Rattle.seg_base.specs.declared.shape.Shape.{Shape}
use Rattle.seg_base.specs.Places.{is_shape}
use Rattle.undo_block.specs.declared.part.Part.{Part}
use Rattle.redo_record.specs.declared.record.Record.{Record}
use Rattle.redo_record.specs.declared.record.Record.TheVariants.{Reuse}
use Rattle.redo_model.specs.Ordinals.{txn_count}
use Rattle.redo_model.specs.Segments.{IsRowBlock}
use Rattle.redo_model.specs.Undo.{undo_sequence}
use Rattle.redo_model.specs.Lawful.{AreAllowed, is_whole}
use Rattle.page_set.specs.declared.page.Page.{Page}
use Rattle.page_set.specs.declared.page.Page.TheVariants.{Undo, Rows}
use Rattle.page_set.specs.Changes.{Fits}
use Rattle.page_set.specs.Among.{is_among}
use Rattle.page_set.specs.Folded.{touched, page_of}

abbrev pub HasRows : Page → Type 0
HasRows (Rows x) = Unit {0}
HasRows _ = ⊥

-- a Reuse has a transaction before it: without one it may be allowed, and there is no transaction table
abbrev pub IsTabled : List Record → Record → Type 0
IsTabled R (Reuse q) = 1 ≤ txn_count R
IsTabled R _ = Unit {0}

abbrev pub RecordsFitPages : Type 0
RecordsFitPages = (sh : Shape) (R : List Record) (r : Record) (d : ℕ) → is_shape sh ≡ true → AreAllowed sh (r ∷ R) → IsTabled R r → is_among (touched sh r) d ≡ true → Fits r (suc (length R)) (page_of sh R d)

-- a row block of a table has the page of a row block, where no table waits for its first extent
abbrev pub FormattedBlocksHaveRows : Type 0
FormattedBlocksHaveRows = (sh : Shape) (R : List Record) (o b : ℕ) → is_shape sh ≡ true → AreAllowed sh R → is_whole R ≡ true → IsRowBlock sh R o b → HasRows (page_of sh R b)

abbrev pub SequencesAreCounts : Type 0
SequencesAreCounts = (sh : Shape) (R : List Record) (u n : ℕ) (ps : List Part) (lsn : ℕ) → AreAllowed sh R
    → page_of sh R u ≡ Undo (record { dba = u; lsn = lsn; sequence = n; parts = ps }) → n ≡ undo_sequence R u
