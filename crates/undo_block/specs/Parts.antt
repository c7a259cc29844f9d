-- Parts of undo: the old image of one slot, with what leads to the transaction's undo before it. Oracle Database Concepts,
-- "Undo Segments"; the sizes and the address of a part are this engine's own.
use Rattle.std.specs.Prelude.{ℕ, ◌+◌, ◌<◌, ◌==◌, min, Bool, not, ◌&&◌, if◌then◌else◌, List, [], ◌∷◌, length, Option, Some, None, sum_by}
use Rattle.seg_words.specs.Types.{UNDO_PART_SIZE, UndoPlace}
use Rattle.page_bytes.specs.Types.{HasSlotForm}
use Rattle.undo_block.specs.declared.part.Part.{Part}

-- 64 bytes, and those of the old row
abbrev pub part_size : Part → ℕ
part_size p = UNDO_PART_SIZE + length p.old.bytes

abbrev pub used_by : List Part → ℕ
used_by ps = sum_by part_size ps

-- The form of the parts that have a spelling, as far as the types of their numbers don't say it: a place that is there doesn't
-- stand at block 0, which is written for none, and the old slot has a spelling.
abbrev pub PlaceIsThere : Option UndoPlace → Type 0
PlaceIsThere None = Unit {0}
PlaceIsThere (Some p) = 0 < p.block

pub record HasPartForm (p : Part) : Type 0 where
  pub previous : PlaceIsThere p.previous
  pub old : HasSlotForm p.old

-- a transaction that hasn't ended needs the part; a move's part names none
abbrev pub is_held : (ℕ → Bool) → Part → Bool
is_held ended p = not (p.txn == 0) && not (ended p.txn)

abbrev pub lesser : ℕ → Option ℕ → Option ℕ
lesser t None = Some t
lesser t (Some u) = Some (min t u)

abbrev pub with_part : (ℕ → Bool) → Part → Option ℕ → Option ℕ
with_part ended p found = if is_held ended p then lesser p.txn found else found

-- the least active transaction of a part
abbrev pub holder_of : (ℕ → Bool) → List Part → Option ℕ
holder_of ended [] = None
holder_of ended (p ∷ ps) = with_part ended p (holder_of ended ps)
