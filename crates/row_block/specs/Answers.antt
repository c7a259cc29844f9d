-- What the calls that change a row block answer, and what stands afterwards.
use Rattle.std.specs.Prelude.{◌≡◌, ℕ, ◌<◌, ◌≤◌, Bool, List, length, map, Some, None, Result, Ok, Err}
use Rattle.row_block.specs.declared.fault.BlockFault.{BlockFault}
use Rattle.row_block.specs.declared.fault.BlockFault.TheVariants.{NoRoom, NoSlot, BadPage, NoMemory}
use Rattle.seg_words.specs.Types.{ListEntry, Block, put_entry, free_of, entry_for, LIST_ENTRY_SIZE, MOST_LIST_ENTRIES}
use Rattle.row_block.specs.RowPage.{RowPage, with_block}

-- The result of a change that needs so many of so many free bytes: the changed page, or NoRoom and the page as before
abbrev pub Fills : ℕ → ℕ → RowPage → RowPage → RowPage → Result (Unit {0}) BlockFault → Type 0
Fills need free old done new (Ok u) = (need ≤ free) × (new ≡ done)
Fills need free old done new (Err (NoRoom n f)) = (free < need) × (n ≡ need) × (f ≡ free) × (new ≡ old)
Fills need free old done new (Err (NoSlot ts)) = ⊥
Fills need free old done new (Err (BadPage o)) = ⊥
Fills need free old done new (Err NoMemory) = (need ≤ free) × (new ≡ old)

-- the result of a change that fails only for want of memory
abbrev pub Puts : RowPage → RowPage → RowPage → Result (Unit {0}) BlockFault → Type 0
Puts old done new (Ok u) = new ≡ done
Puts old done new (Err (NoRoom n f)) = ⊥
Puts old done new (Err (NoSlot ts)) = ⊥
Puts old done new (Err (BadPage o)) = ⊥
Puts old done new (Err NoMemory) = new ≡ old

-- the transactions of a list, in order of entries
abbrev pub txns_of : List ListEntry → List ℕ
txns_of es = map (λ e. e.txn) es

-- why no other list entry can be had: fewer than 24 bytes are free, or eight entries name active transactions
abbrev pub RefusesEntry : (ℕ → Bool) → Block → BlockFault → Type 0
RefusesEntry ended b (NoRoom n f) = (length b.entries < MOST_LIST_ENTRIES) × (n ≡ LIST_ENTRY_SIZE) × (f ≡ free_of ended b) × (f < LIST_ENTRY_SIZE)
RefusesEntry ended b (NoSlot ts) = (length b.entries ≡ 8) × (ts ≡ txns_of b.entries)
RefusesEntry ended b (BadPage o) = ⊥
RefusesEntry ended b NoMemory = ⊥

-- the result of asking for a list entry for transaction t
abbrev pub Enters : (ℕ → Bool) → ℕ → RowPage → RowPage → Result ℕ BlockFault → Type 0
Enters ended t old new (Ok i) = (entry_for ended old.block t ≡ Some i) × (new ≡ with_block old (put_entry i (record { txn = t; number = 0 }) old.block))
Enters ended t old new (Err (NoRoom n f)) =
    (entry_for ended old.block t ≡ None) × (length old.block.entries < MOST_LIST_ENTRIES) × (n ≡ LIST_ENTRY_SIZE) × (f ≡ free_of ended old.block) × (f < LIST_ENTRY_SIZE) × (new ≡ old)
Enters ended t old new (Err (NoSlot ts)) =
    (entry_for ended old.block t ≡ None) × (length old.block.entries ≡ 8) × (ts ≡ txns_of old.block.entries) × (new ≡ old)
Enters ended t old new (Err (BadPage o)) = ⊥
Enters ended t old new (Err NoMemory) =
    (entry_for ended old.block t ≡ None) × (length old.block.entries ≡ 8) × (new ≡ old)
