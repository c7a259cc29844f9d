-- What a shrink asks of a page; none of a page that can't be asked so.
use Rattle.std.specs.Prelude.{ℕ, zero, suc, Bool, cond, not, ◌&&◌, leb, ltb, List, length, slice_index_or, Option, Some, None}
use Rattle.seg_words.specs.Types.{LONGEST_ROW, MOST_PCTFREE, Block, Slot, Kind, Head, Rowid, Shrink, is_empty, new_slot, takes}
use Rattle.txn_block.specs.Types.{TxnTable}
use Rattle.version_laws.specs.Types.{ended_by}
use Rattle.page_set.specs.declared.page.Page.{Page}
use Rattle.page_set.specs.declared.page.Page.TheVariants.{Rows}
use Rattle.row_change.specs.Reading.{slot_or}
use Rattle.shrink_laws.specs.declared.skip.Skip.{Skip}
use Rattle.shrink_laws.specs.Stops.{is_skipped}
use Rattle.shrink_move.specs.declared.outline.Outline.{Outline}
use Rattle.shrink_move.specs.declared.standing.Standing.{Standing}

-- the slot holds something and wasn't skipped
abbrev pub is_open : List Skip → ℕ → List Slot → ℕ → Bool
is_open skips b ss k = not (is_empty (slice_index_or ss k new_slot).kind) && not (is_skipped skips b k)

-- the greatest of the first n slots that is open
abbrev pub open_below : List Skip → ℕ → List Slot → ℕ → Option ℕ
open_below skips b ss zero = None
open_below skips b ss (suc n) = cond (is_open skips b ss n) (Some n) (open_below skips b ss n)

abbrev pub open_in : List Skip → ℕ → Page → Option (Option ℕ)
open_in skips b (Rows rows) = Some (open_below skips b rows.block.slots (length rows.block.slots))
open_in skips b _ = None

-- an image with the length of its row in place of the row
abbrev pub outline_of : Slot → Outline
outline_of i = record { kind = i.kind; writer = i.writer; row = i.row; link = i.link; len = length i.bytes }

abbrev pub outline_if : Slot → Option Outline
outline_if i = cond (leb (length i.bytes) LONGEST_ROW) (Some (outline_of i)) None

abbrev pub outline_in : ℕ → Page → Option Outline
outline_in k (Rows rows) = outline_if (slice_index_or rows.block.slots k new_slot)
outline_in k _ = None

-- where the body of a row stands, whose head this is
abbrev pub body_of : Kind → Option Rowid → Option Rowid
body_of Head link = link
body_of _ link = None

-- whether the block takes a row of this length that is moved
abbrev pub takes_in : TxnTable → ℕ → ℕ → Page → Option Bool
takes_in q pctfree len (Rows rows) = cond (leb pctfree MOST_PCTFREE) (Some (takes (ended_by q) pctfree rows.block len Shrink)) None
takes_in q pctfree len _ = None

-- what stands in slot k of block b, none where a row is longer than any
abbrev pub standing_if : ℕ → ℕ → Slot → Option Standing
standing_if b k i = cond (ltb LONGEST_ROW (length i.bytes)) None (Some (record { dba = b; slot = k; len = length i.bytes; old = i }))

abbrev pub standing_at : ℕ → ℕ → Block → Option Standing
standing_at b k x = standing_if b k (slice_index_or x.slots k new_slot)

-- the same in the slot k, or where a new row goes
abbrev pub standing_in : TxnTable → ℕ → Option ℕ → Page → Option Standing
standing_in q b k (Rows rows) = standing_at b (slot_or (ended_by q) rows.block k) rows.block
standing_in q b k _ = None
