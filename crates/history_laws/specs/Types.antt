-- All words of this crate's specs, one line a file, for crates above it.
pub use Rattle.history_laws.specs.Events.{Does, DoesAlone, MayAdd, Goes, goes_none, goes_one}
pub use Rattle.history_laws.specs.Keeping.{EntriesStay, StartsAreLegal, RecordsAreLegal, EntriesAreLegal, IsUnderWay, WaysAreKnown, entries_hold, way_holds, holders, OwnersAreOne, is_of_one, RecordsBelong, MovesBelong}
pub use Rattle.history_laws.specs.Working.{grown, InsertStands, FoundAt, RowWork, HasStarted, PlaceStands, RowStands, BackStands, OpenScan, ScanStands, marked_by, marked_since, MoveWork, ShrinkStands, StoppedWork, StoppedStands, Work, Inserting, OnRow, TakingBack, Scanning, Shrinking, Lowering, WorkStands, work_after, work_since}
pub use Rattle.history_laws.specs.Others.{Spares, SparesWork, SparesSince, RecordsLeaveWork, EventsLeaveWork, EventsLeaveTransactions}
pub use Rattle.history_laws.specs.Scans.{IsOpened, ScansOpen, EmptyScansMean, Reads, ScansRead, IsSorted, Sorts, ScansMean, MarksMean}
pub use Rattle.history_laws.specs.Starts.{noted, StartsGoOn, StartsEnd}
pub use Rattle.history_laws.specs.Refusals.{IsRefusedSo, IsPending, IsThere, RowPass, EntryPass, BlockPass, NoRowIsRefused, BusyIsRefused, AgainIsRefused, NoSlotIsRefused, NoSpaceIsRefused, MaxExtentsIsRefused, UndoFullIsRefused, NoExtentIsRefused, InsertsPass, WritesPass, EntriesPass, FoundPass}
pub use Rattle.history_laws.specs.Shrinks.{begun_work, ShrinksBegin, skipped_work, ShrinksSkip, moved_work, ShrinksMove, CursorsCome, CursorsStop, CursorsPass, StopIsRight, StopsAreRight, StepSpent, ShrinksAreSpent, stopped_now, ShrinksStop, CompactsMean, LowersMean, StaysMean, LastExtentsStay}
pub use Rattle.history_laws.specs.Telling.{start_now, entry_now, MayStart, StartsKeep, MayEnd, EntriesKeep, SpansBegin, OwnTold, OtherTold, OwnIsTold, OthersAreTold}
pub use Rattle.history_laws.specs.Passes.{FirstPassStays, FirstPassLater, is_refused, AcceptedPasses, FirstIsRefused}
pub use Rattle.history_laws.specs.Answered.{BusyAnswers, TakenAnswers, NeedsSeek, SpentUpdates, SpentDeletes}
pub use Rattle.history_laws.specs.ScanRefusals.{IsScanRefused, MarkedAreRefused, LostAreRefused, UnknownAreRefused}
pub use Rattle.history_laws.specs.Ways.{WorksGoOn, SessionRuns, SessionsRun, RunsEnd, with_start, read_before, read_after, ReadsTell, Ends, ends_none, ends_one, IsEvent, SettlesBlock, AreSettlings, settling_none, settling_one, EventKeeps, EventsKeep, SettlingsKeep, ReadsGoOn, IsRun, run_none, run_settling, run_event, RunsAreLegal, IsWorldHistory, HistoriesBegin, SessionsAreOn, HistoriesGoOn, HistoriesSettle}
pub use Rattle.history_laws.specs.Changing.{BeginsFor, IsOwnTxn, IsBegunFor, AddsChange, MakesChange, ChangeTells, InsertsTell, UpdatesTell, DeletesTell}
pub use Rattle.history_laws.specs.Acting.{InsertsMove, UpdatesMove, IsRowWork, MarksLeaveWork, begun_row, RowsBegin, found_row, RowsAreFound, BacksBegin, TakesBack, BackGoes, BacksGo, BackEnds, BacksEnd}
pub use Rattle.history_laws.specs.OneEvent.{RecordTells, TableTells, TablesTell, MovementsTell, CommitsTell, FixesTell, FixedTell}
pub use Rattle.history_laws.specs.Tests.{first_of, absent, test_table, taken, test_name, too_many, test_count, unmoved, test_movement, misplaced, test_block, opened, test_own, shrunk, test_busy, full_log, test_log, bad_value, test_value, unbound, test_label, first_cause, IsShrunk, AsksBusy, FirstTells, FirstCausesTell}
