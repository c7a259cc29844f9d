-- The types and the words of this crate, for the crates above and for proofs: import them from here. Declares nothing.
pub use Rattle.segment_blocks.specs.declared.catalogue.Catalogue.{Catalogue}
pub use Rattle.segment_blocks.specs.declared.checkpoint.CheckpointPage.{CheckpointPage}
pub use Rattle.segment_blocks.specs.declared.entry.NamedTable.{NamedTable}
pub use Rattle.segment_blocks.specs.declared.entry.CatalogueEntry.{CatalogueEntry}
pub use Rattle.segment_blocks.specs.declared.header.SegmentHeader.{SegmentHeader}
pub use Rattle.segment_blocks.specs.declared.space.SpaceBitmap.{SpaceBitmap}
pub use Rattle.segment_blocks.specs.Catalogues.{Tables, no_table, is_table, is_named_so, has_table, is_named, table_named, table_count, header_of_table, header_of, spelled_table, spelled_entry, name_bytes, entry_in, IsTable, IsCatalogueEntry, front_of_tables, IsCatalogue}
unfoldable pub use Rattle.segment_blocks.specs.Catalogues.{spelling_of_tables, tables_in}
pub use Rattle.segment_blocks.specs.Checkpoints.{Checkpoint, front_of_checkpoint, IsCheckpoint}
unfoldable pub use Rattle.segment_blocks.specs.Checkpoints.{spelling_of_checkpoint, checkpoint_in}
pub use Rattle.segment_blocks.specs.Headers.{Header, flag, extent_bytes, extent_in, fields_of, front_of_header, is_on, obj_in, header_with, IsHeader, HasLimits, extent_at}
unfoldable pub use Rattle.segment_blocks.specs.Headers.{spelling_of_header, header_in}
pub use Rattle.segment_blocks.specs.Spaces.{Space, is_used, AreUsed, IsLeastFree, Finds, front_of_space, bits_in, HasBits, IsSpace}
unfoldable pub use Rattle.segment_blocks.specs.Spaces.{spelling_of_space, space_in}
