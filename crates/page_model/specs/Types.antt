-- The words of this crate, for the crates above and for proofs: import them from here. Declares nothing.
pub use Rattle.page_model.specs.Touched.{blocks_of, back_blocks, touched_by_row, first_of, those, touched_heads, touched_sorts, touched}
pub use Rattle.page_model.specs.RowFits.{with_images, with_names, ImagesFit, EntryFits, NamesFit, WriterFits, EffectFits}
pub use Rattle.page_model.specs.Undo.{txn_of, as_kept}
pub use Rattle.page_model.specs.Transactions.{outcome_when_over, outcome_of, entry_used_by, table_entry, HoldsTable}
