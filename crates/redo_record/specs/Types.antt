-- The types and the words of this crate, for the crates above and for proofs: import them from here. Declares nothing.
pub use Rattle.redo_record.specs.OwnTypes.{RecordFault, BadRecord, NoMemory, ReadFault, RowPart, BackPart, Parts, Record, Table, Movement, Extend, FormatBlock, Class, Advance, Lower, Begin, Reuse, Insert, Update, Migrate, Return, Delete, Commit, Back, Ended, Move, Clean, RowBody, BackRecord, MoveRecord, TableRecord, MovementRecord, ExtendRecord, FormatBlockRecord, ClassRecord, AdvanceRecord, LowerRecord, Extents, BeginRecord, ReuseRecord, CommitRecord, EndedRecord, CleanRecord, EndedTransactions}
pub use Rattle.redo_record.specs.Adding.{Begins, Adds}
pub use Rattle.redo_record.specs.Decoding.{StandsAt, Decodes, IsReadAs, StandsInFront, IsFirst}
pub use Rattle.redo_record.specs.Forms.{◌>>=◌, Reader, byte, number, text, both, chosen, made, tested, many, Reads, ReadsBytes, ReadsItems}
pub use Rattle.redo_record.specs.Payloads.{payload, HaveSpellings}
pub use Rattle.redo_record.specs.Reading.{is_obj, is_code, flag_from, entry_from, block_from, address_of, undo_from, place_from, link_from, slot_of, row_part_of, back_part_of, is_part_count, second, row_body_of, back_of, move_from, is_pctfree, name_from, table_of, movement_of, extend_of, format_block_of, class_of, advance_of, three, lower_of, begin_of, reuse_of, commit_of, ended_of, clean_of, no_record, fields_at}
unfoldable pub use Rattle.redo_record.specs.Reading.{obj_at, code_at, flag_at, entry_at, block_at, address_at, undo_at, place_at, link_at, kind_at, writer_at, image_at, row_part_at, back_part_at, part_count_at, row_parts_at, back_parts_at, row_body_at, back_at, move_at, name_at, table_at, movement_at, extend_at, format_block_at, class_code_at, class_at, advance_at, three_blocks_at, three_codes_at, extents_at, lower_at, begin_at, reuse_at, commit_at, ended_at, ended_transaction_at, ended_transactions_at, clean_at, record_at}
pub use Rattle.redo_record.specs.Spelled.{IsTableNumber, IsAddress, IsUndo, IsPlace, IsLink, IsBlock, IsEntry, IsImage, IsRowPart, IsBackPart, AreParts, IsRowBody, IsBack, IsMove, IsTable, IsMovement, IsExtend, IsFormatBlock, IsClass, IsAdvance, IsThree, AreExtents, IsLower, IsBegin, IsReuse, IsCommit, IsEnded, IsClean, HasSpelling}
pub use Rattle.redo_record.specs.Spelling.{flag, entry_code, block_or_zero, address, place_or_zeros, place_bytes, part_head, row_part, back_part, row_head, row_parts, back_parts, row_body, back, moved, table, movement, extend, in_bitmaps, format_block, class, advance, three_blocks, three_codes, extents, lowered, lower, begin, reuse, commit, ended, ended_transaction, clean, kind_of, fields, spelling}
unfoldable pub use Rattle.redo_record.specs.Spelling.{big_endian, image}
