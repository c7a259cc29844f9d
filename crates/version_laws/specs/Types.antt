-- All words of this crate's specs, one line a file, for crates above it.
pub use Rattle.version_laws.specs.Pages.{txn_of, as_kept, HoldsUndo, IsInRing, IsInUse, outcome_when_over, outcome_of, entry_used_by, table_entry, HoldsTable, HoldsRows}
pub use Rattle.version_laws.specs.Known.{MadeKnown, EndsNew, SlotKnown, SlotsAreKnown, IsPast, AddressesArePast, IsUntouched, SlotsPastTheLast}
pub use Rattle.version_laws.specs.Tables.{state_known, state_of, is_over, ended_by, BegunFromOne, TableTells, TablesTell}
pub use Rattle.version_laws.specs.Ends.{is_unknown, named_by, ChainEnd, Found, Lost, Unknown, end_from, chain_end, IsTooOld, IsTooOldEntry, EndMeans, ChainsEnd, NowIsFound}
pub use Rattle.version_laws.specs.Newest.{Stamp, made_stamp, step_stamp, NewestMade, RowsAreNewest, GivenAreNewest, HeldByOther, OthersHold}
pub use Rattle.version_laws.specs.Walks.{PartKnown, Falls, is_present, present_count, present_in, WalkOf, WalksEnd, NowIsReached}
pub use Rattle.version_laws.specs.Beginning.{begin_of, TakenAfterBegin, HoldersStay, SlotToUseStays}
pub use Rattle.version_laws.specs.Previous.{StatesNext, AreLinked, PreviousIsNext}
