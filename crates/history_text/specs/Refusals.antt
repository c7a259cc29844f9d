-- The texts of refusals. This engine's own.
use Rattle.std.specs.Prelude.{ℕ, List, [], ◌∷◌, ◌++◌, codes, decimal}
use Rattle.seg_words.specs.Types.{UndoAddr}
use Rattle.history_text.specs.declared.refusal.Refusal.{Refusal}
use Rattle.history_text.specs.declared.refusal.Refusal.TheVariants.{NoTable, TableExists, TooManyTables, MovementOff, TransactionOpen, ShrinkBusy, LogFull, NotDataBlock, BadValue, Unbound, NoRow, Busy, Again, NoSlot, NoSpace, MaxExtents, UndoFull, ObjectGone, TooOld, TooOldEntry, NeedsBlock}

-- each behind a space
abbrev pub numbers_text : List ℕ → List ℕ
numbers_text [] = []
numbers_text (n ∷ ns) = (codes " " ++ decimal n) ++ numbers_text ns

-- an undo block, and the least active transaction that has a part in it
abbrev pub holder_text : ℕ → ℕ → List ℕ
holder_text block txn = (codes " " ++ decimal block) ++ (codes "=" ++ decimal txn)

abbrev pub holders_text : List (ℕ × ℕ) → List ℕ
holders_text [] = []
holders_text (holder ∷ holders) = holder_text holder.0 holder.1 ++ holders_text holders

unfoldable pub gone_text : ℕ → ℕ → List ℕ
gone_text extent lowering = (codes "object no longer exists extent " ++ decimal extent) ++ (codes " lowering " ++ decimal lowering)

-- the address of a part: its block, the sequence of that block's use, its place
unfoldable pub address_text : UndoAddr → List ℕ
address_text at = decimal at.block ++ codes "." ++ decimal at.seq ++ codes "." ++ decimal at.nth

abbrev pub undo_text : UndoAddr → List ℕ
undo_text at = codes "snapshot too old undo " ++ address_text at

unfoldable pub refusal_text : Refusal → List ℕ
refusal_text NoTable = codes "no table"
refusal_text TableExists = codes "table exists"
refusal_text TooManyTables = codes "too many tables"
refusal_text MovementOff = codes "movement off"
refusal_text TransactionOpen = codes "transaction open"
refusal_text (ShrinkBusy session) = codes "shrink busy " ++ decimal session
refusal_text LogFull = codes "log full"
refusal_text (NotDataBlock block) = codes "not a data block " ++ decimal block
refusal_text (BadValue value) = codes "bad value " ++ decimal value
refusal_text (Unbound label) = codes "unbound " ++ label
refusal_text (NoRow row) = codes "no row " ++ decimal row
refusal_text (Busy txn) = codes "busy " ++ decimal txn
refusal_text (Again commits) = codes "again" ++ numbers_text commits
refusal_text (NoSlot txns) = codes "no slot" ++ numbers_text txns
refusal_text (NoSpace need) = codes "no space " ++ decimal need
refusal_text (MaxExtents count) = codes "max extents " ++ decimal count
refusal_text (UndoFull holders) = codes "undo full" ++ holders_text holders
refusal_text (ObjectGone extent lowering) = gone_text extent lowering
refusal_text (TooOld at) = undo_text at
refusal_text (TooOldEntry txn) = codes "snapshot too old transaction " ++ decimal txn
refusal_text (NeedsBlock len) = codes "needs block " ++ decimal len

abbrev pub refused_text : Refusal → List ℕ
refused_text refusal = codes "refused " ++ refusal_text refusal ++ codes "\n"
