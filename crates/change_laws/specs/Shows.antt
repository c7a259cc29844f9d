-- What pages show of where undo goes, and of what a row block has and takes for a transaction.
use Rattle.std.specs.Prelude.{◌≡◌, ℕ, suc, List, length, map, get_or, Option, Some, None}
use Rattle.seg_words.specs.Types.{Shape, Slot, ListEntry, new_slot, entry_for, fits, takes, slot_to_use, next_room}
use Rattle.redo_model.specs.Records.{Record}
use Rattle.redo_model.specs.Model.{txn_count, ended_in, image, fits_in, takes_row, next_slot, undo_parts, undo_used, undo_sequence, undo_holder, AreAllowed}
use Rattle.undo_block.specs.Types.{UndoPage, used_by, holder_of}
use Rattle.row_block.specs.Types.{RowPage}
use Rattle.txn_block.specs.Types.{TxnTable}
use Rattle.version_laws.specs.Types.{HoldsUndo, HoldsTable, HoldsRows, ended_by}
use Rattle.change_laws.specs.Causes.{txns_of}
use Rattle.change_laws.specs.Drafts.{entry_by, taker_of}
use Rattle.change_laws.specs.Spots.{undo_end}

-- how many bytes its parts use, behind how many a record's parts go, and the least active transaction of them
pub record UndoShows (R : List Record) (u : ℕ) (p : UndoPage) : Type 0 where
  pub sequence : p.sequence ≡ undo_sequence R u
  pub used : used_by p.parts ≡ undo_used R u
  pub count : length p.parts ≡ length (undo_parts R u)
  pub end : record { block = u; seq = p.sequence; nth = length p.parts } ≡ undo_end R u
  pub holder : holder_of (ended_in R) p.parts ≡ undo_holder R u

abbrev pub UndoPagesShow : Type 0
UndoPagesShow = (sh : Shape) (R : List Record) (u : ℕ) (p : UndoPage) → AreAllowed sh R → HoldsUndo R u p → UndoShows R u p

-- the page of a row block, with that of the transaction table: the same answers as the list's, for a transaction and for one
-- that has not begun, whose list entry is asked by the number that it will have
pub record RowsShow (R : List Record) (b : ℕ) (p : RowPage) (q : TxnTable) : Type 0 where
  pub entry : (t : ℕ) → entry_for (ended_by q) p.block t ≡ entry_by R (Some t) b
  pub new_entry : entry_for (ended_by q) p.block (suc (txn_count R)) ≡ entry_by R None b
  pub fits : (k len : ℕ) (own : Option ℕ) → fits (ended_by q) p.block k len (taker_of own) ≡ fits_in R b k len (taker_of own)
  pub takes : (pctfree len : ℕ) (own : Option ℕ) → takes (ended_by q) pctfree p.block len (taker_of own) ≡ takes_row R pctfree b len (taker_of own)
  pub slot : slot_to_use (ended_by q) p.block ≡ next_slot R b
  pub room : (old : Slot) (len : ℕ) → next_room (ended_by q) old len ≡ next_room (ended_in R) old len
  pub image : (k : ℕ) → get_or p.block.slots k new_slot ≡ image R b k
  pub txns : map (λ (e : ListEntry). e.txn) p.block.entries ≡ txns_of R b

abbrev pub RowPagesShow : Type 0
RowPagesShow = (sh : Shape) (R : List Record) (b : ℕ) (p : RowPage) (q : TxnTable) → AreAllowed sh R → HoldsRows R b p → HoldsTable R q → RowsShow R b p q
