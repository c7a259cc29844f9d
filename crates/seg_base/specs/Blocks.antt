-- A row block as contracts see it: the slots that hold its rows, and its transaction list (Oracle Database Concepts: data
-- block format, interested transaction entries). That an image keeps its room is this engine's own.
use Rattle.std.specs.Prelude.{ℕ, zero, suc, List, [], ◌∷◌, None}
use Rattle.seg_base.specs.declared.slot.Slot.{Slot}
use Rattle.seg_base.specs.declared.slot.ListEntry.{ListEntry}
use Rattle.seg_base.specs.declared.slot.Kind.TheVariants.{Empty}
use Rattle.seg_base.specs.declared.slot.Writer.TheVariants.{At}

pub record Block : Type 0 where
  pub slots : List Slot
  pub entries : List ListEntry

-- a slot as it is made
abbrev pub new_slot : Slot
new_slot = record { kind = Empty; writer = At 0; undo = None; row = 0; link = None; bytes = []; room = 0 }

-- an entry that names no transaction
abbrev pub new_entry : ListEntry
new_entry = record { txn = 0; number = 0 }

-- a block as it is formatted: INITRANS is 2
abbrev pub new_block : Block
new_block = record { slots = []; entries = new_entry ∷ new_entry ∷ [] }

-- xs with v at k; where xs ends before, d fills it up
abbrev pub put : {A : Type 0} → A → List A → ℕ → A → List A
put d [] zero v = v ∷ []
put d [] (suc k) v = d ∷ put d [] k v
put d (x ∷ xs) zero v = v ∷ xs
put d (x ∷ xs) (suc k) v = x ∷ put d xs k v

abbrev pub put_slot : ℕ → Slot → Block → Block
put_slot k image b = record { slots = put new_slot b.slots k image; entries = b.entries }

abbrev pub put_entry : ℕ → ListEntry → Block → Block
put_entry i e b = record { slots = b.slots; entries = put new_entry b.entries i e }
