-- What the page of a block says, by what the model says of the block. It holds of every list, lawful or not.
use Rattle.std.specs.Prelude.{◌≡◌, ℕ, ◌≤◌, false, List, [], ◌∷◌, length, map}
use Rattle.seg_base.specs.declared.shape.Shape.{Shape}
use Rattle.redo_record.specs.declared.record.Record.{Record}
use Rattle.redo_model.specs.Blocks.{block_of}
use Rattle.redo_model.specs.Undo.{undo_held}
pub use Rattle.page_model.specs.Types.{as_kept}
use Rattle.page_set.specs.declared.page.Page.{Page}
use Rattle.page_set.specs.declared.page.Page.TheVariants.{Zero, Checkpoint, Txns, Catalogue, Space, Undo, First, Second, Third, Header, Rows}
use Rattle.page_set.specs.Among.{is_among}
use Rattle.page_set.specs.Pages.{lsn_of}
use Rattle.page_set.specs.Folded.{touched, touched_once, page_of}
use Rattle.redo_model.specs.Lists.{prefix}

-- The page is that of block b after the records R: a row block has the slots and list entries of the model's block, an undo
-- block its parts. No record makes a checkpoint.
abbrev pub Says : List Record → ℕ → Page → Type 0
Says R b (Zero d) = d ≡ b
Says R b (Checkpoint p) = ⊥
Says R b (Txns t) = t.dba ≡ b
Says R b (Catalogue c) = c.dba ≡ b
Says R b (Space s) = s.dba ≡ b
Says R b (Undo u) = (u.dba ≡ b) × (u.parts ≡ map as_kept (undo_held R b))
Says R b (First m) = m.dba ≡ b
Says R b (Second m) = m.dba ≡ b
Says R b (Third m) = m.dba ≡ b
Says R b (Header h) = h.dba ≡ b
Says R b (Rows x) = (x.dba ≡ b) × (x.block ≡ block_of R b)

abbrev pub PagesSay : Type 0
PagesSay = (sh : Shape) (R : List Record) (b : ℕ) → Says R b (page_of sh R b)

-- The number in a page's LSN field is at most the count of records, and the page is the fold of just so many.
pub record LsnTells (sh : Shape) (R : List Record) (d n : ℕ) : Type 0 where
  pub most : n ≤ length R
  pub fold : page_of sh (prefix R n) d ≡ page_of sh R d

abbrev pub LsnsTell : Type 0
LsnsTell = (sh : Shape) (R : List Record) (d : ℕ) → LsnTells sh R d (lsn_of (page_of sh R d))

-- a record that doesn't touch a block leaves its page, and the list of touched blocks has each once
abbrev pub OthersStay : Type 0
OthersStay = (sh : Shape) (R : List Record) (r : Record) (d : ℕ) → is_among (touched_once sh r) d ≡ false → page_of sh (r ∷ R) d ≡ page_of sh R d

abbrev pub IsOnce : List ℕ → Type 0
IsOnce [] = Unit {0}
IsOnce (x ∷ xs) = (is_among xs x ≡ false) × IsOnce xs

abbrev pub TouchedAreListed : Type 0
TouchedAreListed = (sh : Shape) (r : Record) → ((d : ℕ) → is_among (touched_once sh r) d ≡ is_among (touched sh r) d) × IsOnce (touched_once sh r)
