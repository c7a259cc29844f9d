-- The types and the words of this crate, for the crates above and for proofs: import them from here. Declares nothing.
pub use Rattle.txn_block.specs.declared.block.TxnBlock.{TxnBlock}
pub use Rattle.txn_block.specs.OwnTypes.{TxnEntry, State, Outcome, Active, Committed, RolledBack, TableEntry, Unused, Used}
pub use Rattle.txn_block.specs.Entries.{state_of_outcome, names, is_unused, is_taken_back, is_rolled_back, number_of, committed, has_active, is_active, state_told, state_in, undo_told, last_undo_in, told}
pub use Rattle.txn_block.specs.EntryBytes.{outcome_code, number_or_zero, used_bytes, entry_told, IsUsed, IsEntry}
unfoldable pub use Rattle.txn_block.specs.EntryBytes.{entry_bytes, entry_in}
pub use Rattle.txn_block.specs.Pages.{block_or_zero, block_from, number_bytes, front, BlockFits, HasEntries, IsTable}
unfoldable pub use Rattle.txn_block.specs.Pages.{spelling, table_in}
pub use Rattle.txn_block.specs.Tables.{TxnTable, entry_at, NoneBelow, TakesUnused, TakesRolledBack, TakesCommitted, TakesNext, IsFirst, IsLeast, LeastBelow, lesser}
