-- All words of this crate's specs, one line a file, for crates above it.
pub use Rattle.history_model.specs.History.{script_of, IsSession, statement_of, ordinal_of, session_of, entry_count, entries_of, reached, AreInTime, Task, task_of, under_way, owner, bound_by, bound, IsOver}
pub use Rattle.history_model.specs.Spans.{Span, span_of, now_of, later, own_then, target_row, table_asked, target_asked}
pub use Rattle.history_model.specs.Released.{Gone, has_any, least_with, least_having, gone_with, gone_by, or_else, first_gone}
pub use Rattle.history_model.specs.SoFar.{IsIdle, IsUnlowered, ShrinkSoFar, BackSoFar, SoFar, has_more_events}
pub use Rattle.history_model.specs.Stopping.{FullPassed, HasCome, MayGo, NothingFits, AreToldBy, SkippedAt, AreSkippedAt, skips_by, MovedAt, AreMovedAt}
pub use Rattle.history_model.specs.Causes.{IsNoTable, IsTableThere, IsTooManyTables, IsMovementOff, HasTransaction, IsTransactionOpen, IsShrunkBy, IsShrinkBusy, IsLogFull, IsNotDataBlock, IsBadValue, IsUnbound, IsOnRow, row_seen, IsNoRow, IsRowBusy, AreStarts, IsAgain, must_change, IsEntryless, own_blocks, sought_for, InsertSeeks, UpdateSeeks, Seeks, NoBlockTakes, NoFreeExtent, IsNoRoom, IsNoSpace, IsMaxExtents, IsFound, InsertNeeds, UpdateNeeds, DeleteNeeds, HasMoveParts, MoveNeeds, Needs, IsNoUndo, NextRead, IsObjectGone, IsSnapshotTooOld, IsEntryTooOld, Cause}
pub use Rattle.history_model.specs.Order.{rank, is_first_tested, is_no_bar, is_after_starts, is_again, bars, passes_over}
pub use Rattle.history_model.specs.Passing.{FirstPass}
pub use Rattle.history_model.specs.RowMeans.{with_begin, with_reuse, IsOneRow, row_block, InsertMeans, IsUpdate, IsMigratedTo, GoesTo, UpdateMeans, DeleteMeans, CommitMeans, RollbackMeans, NothingMeans}
pub use Rattle.history_model.specs.TableMeans.{TableMeans, MovementMeans, row_out, last_of, ScanMeans, count_kept, kept_as, UsageMeans, IsFixedTo, AddsClass, FixMeans, Settles, settles_nothing, settles_clean, settles_class, settles_both, IsSettled, IsReleased, AreSettled, settled_none, settled_one, settled_past, count_changed, RepairMeans}
pub use Rattle.history_model.specs.ShrinkMeans.{moves_after, move_count, StopIs, MovesMean, CompactMeans, EndsLower, LastStays, EndsUnlowered, ShrinkMeans}
pub use Rattle.history_model.specs.Means.{blocks_read, Keeps, RefusalMeans, Means, PassesOver}
pub use Rattle.history_model.specs.Makes.{MakesTable, MakesMovement, MakesRow, MakesTarget, NoneGood, InsertMoves, UpdateMoves, MakesClass, Makes}
pub use Rattle.history_model.specs.Legal.{BelongsTo, Belongs, IsCalledBy, StatesClass, IsCleaning, IsMade, AreMade, made_none, made_one, StartStands, EntryStands, Stands, AreTold, IsLegal}
pub use Rattle.history_model.specs.Running.{IsOnItsWay, IsRunning, IsAtEnd}
