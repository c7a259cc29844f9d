-- The 40 bytes of a slot, as row blocks, undo blocks and redo records have them. The row stands elsewhere. This
-- engine's own.
use Rattle.std.specs.Prelude.{ℕ, zero, suc, List, [], ◌∷◌, ◌++◌, length, Option, Some, None}
use Rattle.std.specs.Int.{w16, w32, w64, to_be_bytes}
use Rattle.seg_base.specs.declared.slot.Slot.{Slot}
use Rattle.seg_base.specs.declared.slot.UndoAddr.{UndoAddr}
use Rattle.seg_base.specs.declared.slot.Rowid.{Rowid}
use Rattle.seg_base.specs.declared.slot.Kind.{Kind}
use Rattle.seg_base.specs.declared.slot.Kind.TheVariants.{Empty, Row, Head, Body}
use Rattle.seg_base.specs.declared.slot.Writer.{Writer}
use Rattle.seg_base.specs.declared.slot.Writer.TheVariants.{By, At}

abbrev pub kind_code : Kind → ℕ
kind_code Empty = 0
kind_code Row = 1
kind_code Head = 2
kind_code Body = 3

abbrev pub kind_from : ℕ → Option Kind
kind_from zero = Some Empty
kind_from (suc zero) = Some Row
kind_from (suc (suc zero)) = Some Head
kind_from (suc (suc (suc zero))) = Some Body
kind_from (suc (suc (suc (suc n)))) = None

-- 0 for a commit number, 1 for a transaction
abbrev pub writer_tag : Writer → ℕ
writer_tag (At c) = 0
writer_tag (By t) = 1

abbrev pub writer_number : Writer → ℕ
writer_number (At c) = c
writer_number (By t) = t

abbrev pub writer_from : ℕ → ℕ → Option Writer
writer_from zero n = Some (At n)
writer_from (suc zero) n = Some (By n)
writer_from (suc (suc k)) n = None

-- none is zeros
abbrev pub undo_or_zeros : Option UndoAddr → UndoAddr
undo_or_zeros None = record { block = 0; seq = 0; nth = 0 }
undo_or_zeros (Some a) = a

abbrev pub link_or_zeros : Option Rowid → Rowid
link_or_zeros None = record { dba = 0; slot = 0 }
link_or_zeros (Some r) = r

-- an address of undo in 13 bytes
abbrev pub undo_bytes : UndoAddr → List ℕ
undo_bytes a = to_be_bytes w32 a.block ++ (to_be_bytes w64 a.seq ++ (a.nth ∷ []))

-- a place in 5 bytes
abbrev pub link_bytes : Rowid → List ℕ
link_bytes r = to_be_bytes w32 r.dba ++ (r.slot ∷ [])

-- how long a slot's row is, and its room, in 4 bytes
abbrev pub sizes_bytes : Slot → List ℕ
sizes_bytes s = to_be_bytes w16 (length s.bytes) ++ to_be_bytes w16 s.room

-- the slot's 40 bytes
abbrev pub slot_bytes : Slot → List ℕ
slot_bytes s =
    kind_code s.kind ∷ writer_tag s.writer ∷ to_be_bytes w64 (writer_number s.writer) ++ (undo_bytes (undo_or_zeros s.undo)
    ++ (to_be_bytes w64 s.row ++ (to_be_bytes w32 (link_or_zeros s.link).dba ++ ((link_or_zeros s.link).slot
    ∷ to_be_bytes w16 (length s.bytes) ++ to_be_bytes w16 s.room))))
