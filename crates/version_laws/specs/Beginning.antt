-- The record that begins a transaction. It leaves what blocks take: none of them names the transaction that begins.
use Rattle.std.specs.Prelude.{◌≡◌, ℕ, suc, List, ◌∷◌}
use Rattle.seg_words.specs.Types.{Shape, New, Open, slot_to_use}
use Rattle.redo_model.specs.Records.{Record, Begin, BeginRecord}
use Rattle.redo_model.specs.Model.{txn_count, ended_in, block_of, Takes, undo_holder, AreAllowed}

-- the Begin of a session, which takes an entry of the transaction table and states a control number
abbrev pub begin_of : List Record → ℕ → ℕ → ℕ → BeginRecord
begin_of R who entry control = record { txn = suc (txn_count R); session = who; entry = entry; control = control }

abbrev pub TakenAfterBegin : Type 0
TakenAfterBegin = (sh : Shape) (R : List Record) (g : BeginRecord) (pctfree b len : ℕ) → AreAllowed sh R → g.txn ≡ suc (txn_count R) → Takes R pctfree b len New → Takes (Begin g ∷ R) pctfree b len (Open g.txn)

-- and it leaves whose the undo blocks are
abbrev pub HoldersStay : Type 0
HoldersStay = (sh : Shape) (R : List Record) (g : BeginRecord) (u : ℕ) → AreAllowed sh R → g.txn ≡ suc (txn_count R) → undo_holder (Begin g ∷ R) u ≡ undo_holder R u

-- and the slot that a new row takes
abbrev pub SlotToUseStays : Type 0
SlotToUseStays = (sh : Shape) (R : List Record) (g : BeginRecord) (b : ℕ) → AreAllowed sh R → g.txn ≡ suc (txn_count R) → slot_to_use (ended_in (Begin g ∷ R)) (block_of R b) ≡ slot_to_use (ended_in R) (block_of R b)
