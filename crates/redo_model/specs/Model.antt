-- The words of the model, for the crates above and for proofs: import them from here. Declares nothing.
pub use Rattle.redo_model.specs.AllowedMoves.{move_part, MayMove, IsOver, first_taker, MovePlain, MoveToBody, MoveMigrated, MoveAllowed}
pub use Rattle.redo_model.specs.AllowedRows.{Content, at_place, nothing, plain_row, head_to, body_of, image_with, txn_part, StatesUndo, place_of_undo, MayChange, IsRowSize, Enters, next_slot, InsertAllowed, IsFreeFor, MayChangeRow, IsPlain, IsMigrated, with_bytes, UpdateAllowed, TargetAllowed, MigratePlain, MigrateAgain, MigrateAllowed, ReturnAllowed, DeletePlain, DeleteMigrated, DeleteAllowed, taken_back, BackAllowed}
pub use Rattle.redo_model.specs.AllowedTables.{TableAllowed, MovementAllowed, ExtendAllowed, StatesBitmaps, StatesBests, FormatAllowed, ClassAllowed, AdvanceAllowed, l2_at, all_l2, all_bests, LowerAllowed}
pub use Rattle.redo_model.specs.AllowedTransactions.{EntryState, state_when_over, state_of_user, entry_state, is_unused, is_rolled_back, NoneBelow, TakesUnused, TakesRolledBack, TakesCommitted, TakesEntry, BeginAllowed, ReuseAllowed, CommitAllowed, EndedAllowed, slots_name, entries_name, is_named_in, number_or_zero, stated_number, IsRising, Names, CleanAllowed}
pub use Rattle.redo_model.specs.Blocks.{place_all, changed_slots, slots_of, enter_at, enter_all, enter_by, changed_entries, entries_of, block_of, used_of, free_of, class_of_block, takes_row, Takes, fits_in, Fits, is_vacant_block}
pub use Rattle.redo_model.specs.Bridges.{IsBridged, BlocksAreBridged}
pub use Rattle.redo_model.specs.Effects.{Step, row_step, move_step, Effect, effect_of, TxnEffect, txn_effect, Placed, written, restored, part_addr}
pub use Rattle.redo_model.specs.Kept.{changed_class, kept_class, IsExact, code_of, good_code, best_of, best_in_extent, best_in_group, best_in_l2, best_of_found, best_in_l1}
pub use Rattle.redo_model.specs.Lawful.{IsFirstExtend, IsOverflow, IsCalledFor, IsKindAllowed, IsAllowed, AreAllowed, is_whole, IsLawful}
pub use Rattle.redo_model.specs.Lists.{prefix, next_lsn, Extends}
pub use Rattle.redo_model.specs.Ordinals.{is_commit, is_insert, is_begin, is_lower, count_of, commit_count, row_count, txn_count, lowering_count, commits_of}
pub use Rattle.redo_model.specs.Segments.{Extent, changed_extents, extents_of, in_extent, blocks_from, extent_data, data_of, data_blocks, position, Marks, changed_marks, marks, low_mark, high_mark, changed_formatted, is_formatted, IsFormatted, under_high, IsRowBlock, first_unformatted, changed_tables, table_count, IsTable, is_byte_list, named_after, table_named, changed_pctfree, pctfree_of, changed_movement, has_movement, HasMovement, has_extent, is_taken, is_free_extent, IsLeastFree, is_vacant, IsVacant, kept_length, extent_at, block_in, header_of, l3_of, group_start, l2_of, index_of}
pub use Rattle.redo_model.specs.Slots.{is_place, placed_in, changed_image, image, slots_reached, changed_slot_count, slot_count, is_at, entered_in, entered_by, changed_entry, entry, reach_entry, entries_reached, count_entered, changed_entry_count, entry_count}
pub use Rattle.redo_model.specs.Steps.{is_addr, is_by, all_steps, steps, without_step, standing_steps, standing, newest_of, newest_on, undo_of_step, last_undo, backed_after, is_backed, taken_after, is_taken_back, IsTakenBack}
pub use Rattle.redo_model.specs.Tables.{holds_row, row_bytes, outcome, changed, table_after, table_at, view, rows_up_to, view_rows, table_rows}
pub use Rattle.redo_model.specs.Transactions.{active_after, is_active, IsActive, ended_in, begun_after, has_begun, has_ended, HasEnded, committed_after, commit_number, among_after, is_committed_by, rolled_after, has_rolled_back, control_after, control_number, entry_after, entry_of, user_after, user_of, is_entry, forgotten_after, is_forgotten, IsForgotten, session_after, last_of_session, is_open, has_open}
pub use Rattle.redo_model.specs.Undo.{Undone, part_size, parts_size, undone, undone_after, emptied_by, undo_parts, undo_used, HeldPart, held_by, held_after, kept_by, undo_held, held_at, current_after, current_undo, uses_after, undo_sequence, reused_after, is_reused, IsReused, lesser, least_active, undo_holder, has_holder, ring_after, next_undo, MayReuse, fits_undo, IsUndoFull, needed_on, reached_on, IsNeeded, IsReached}
pub use Rattle.redo_model.specs.Versions.{Made, made_by, without, changed_makers, makers, images, counts, Counts, first_counted, image_at, row_in, row_at, found_below, rows_at}
