-- All words of this crate's specs, one line a file, for crates above it.
pub use Rattle.change_laws.specs.Drafts.{reuse_of, RowKind, Inserts, Updates, Migrates, Returns, Deletes, as_record, Fill, Change, taker_of, entry_by, part_of, parts_of, fills_size, change_size, body_at, record_of, new_part, new_parts, new_body, Stand, Whole, Apart, holder_of, free_place, fill, insert_of, update_of, migrate_fills, migrate_of, return_of, delete_fills, delete_of}
pub use Rattle.change_laws.specs.Spots.{holder_pair, holder_pairs, Spot, Here, Next, Full, undo_end, undo_start, spot_past, spot_by, spot_for, list_at, list_with, IsFull, UndoNext, StatesAt, SpotsState}
pub use Rattle.change_laws.specs.Ready.{IsOwn, IsReady, lacks_entry, first_lacking, blocks_at, Path, InPlace, ToHead, ToOther, fits_at, path_past, path_of, updated_blocks, StandsAt, MayInsert, MayWrite, MayUpdate, MayReturn, IsOtherThan, MayMigrate, MayDelete, ReturnsFrom, UpdateGoes, UpdatesGo}
pub use Rattle.change_laws.specs.Allowed.{BeginsAreLawful, InsertsAreReady, UpdatesAreReady, MigratesAreReady, ReturnsAreReady, DeletesAreReady, LawfulAt, ChangesAreLawful, FullIsTold}
pub use Rattle.change_laws.specs.Begun.{BlockBegun, ListBegun, BeginsLeave, MaysBegun, BeginsKeepMays, ReuseLeaves, ReusesLeave, BegunChangesAreLawful}
pub use Rattle.change_laws.specs.Causes.{IsBusy, IsChanged, AreOthers, txns_of, IsNoSlot, LackMeans, LackIsNoSlot, IsOld, GoesBy, must_change, ChangeNeeds, ChangesNeed, RowsStandOnce}
pub use Rattle.change_laws.specs.Looks.{stand_of, stand_in, now_at, row_now, IsBornAt, WasFound, IsFreeNow, IsBusyNow, PlaceShows, PlacesShow, ReleasedAreChanged, UndoOfRow, RowsHaveUndo, HeadOf, BodiesNameHeads}
pub use Rattle.change_laws.specs.Answers.{Answer, Makes, RowChanged, RowBusy, EntriesTaken, BlockNeeded, UndoSpent, keeper_of, keeper_in, keeper, change_to_head, change_to_block, change_by, by_spot, by_change, by_lack, by_keeper, answer_of, stand_at, update_answer, delete_answer, insert_answer, MeansBusy, MeansTaken, IsPast, MeansNeeded, MeansSpent, MeansMade, Means, AnswersMean, NeedMeans, BlocksAreNeeded, PlaceAnswers, PlacesAnswer, IsTarget, MayBeTarget, MadeBy, MadeFor, UpdatesAreMade, DeletesAreMade, InsertMeans, InsertsAreMade}
pub use Rattle.change_laws.specs.Finds.{BornOf, RowBlocksAreBorn, FoundOnce, RowsAreFoundOnce, HeadsAreAtHome, FoundPlacesStay}
pub use Rattle.change_laws.specs.Shows.{UndoShows, UndoPagesShow, RowsShow, RowPagesShow}
