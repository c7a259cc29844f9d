-- The types of this crate, for its own specifications: import them from here. Declares nothing.
pub use Rattle.txn_block.specs.declared.entry.TxnEntry.{TxnEntry}
pub use Rattle.txn_block.specs.declared.entry.State.{State}
pub use Rattle.txn_block.specs.declared.entry.Outcome.{Outcome}
pub use Rattle.txn_block.specs.declared.entry.Outcome.TheVariants.{Active, Committed, RolledBack}
pub use Rattle.txn_block.specs.declared.entry.TableEntry.{TableEntry}
pub use Rattle.txn_block.specs.declared.entry.TableEntry.TheVariants.{Unused, Used}
