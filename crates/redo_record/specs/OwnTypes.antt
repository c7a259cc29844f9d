-- The types of this crate, for its own specifications: import them from here. Declares nothing.
pub use Rattle.redo_record.specs.declared.fault.RecordFault.{RecordFault}
pub use Rattle.redo_record.specs.declared.fault.RecordFault.TheVariants.{BadRecord, NoMemory}
pub use Rattle.redo_record.specs.declared.fault.ReadFault.{ReadFault}
pub use Rattle.redo_record.specs.declared.part.RowPart.{RowPart}
pub use Rattle.redo_record.specs.declared.part.BackPart.{BackPart}
pub use Rattle.redo_record.specs.declared.part.Parts.{Parts}
pub use Rattle.redo_record.specs.declared.record.Record.{Record}
pub use Rattle.redo_record.specs.declared.record.Record.TheVariants.{Table, Movement, Extend, FormatBlock, Class, Advance, Lower, Begin, Reuse, Insert, Update, Migrate, Return, Delete, Commit, Back, Ended, Move, Clean}
pub use Rattle.redo_record.specs.declared.row.RowBody.{RowBody}
pub use Rattle.redo_record.specs.declared.row.BackRecord.{BackRecord}
pub use Rattle.redo_record.specs.declared.row.MoveRecord.{MoveRecord}
pub use Rattle.redo_record.specs.declared.space.TableRecord.{TableRecord}
pub use Rattle.redo_record.specs.declared.space.MovementRecord.{MovementRecord}
pub use Rattle.redo_record.specs.declared.space.ExtendRecord.{ExtendRecord}
pub use Rattle.redo_record.specs.declared.space.FormatBlockRecord.{FormatBlockRecord}
pub use Rattle.redo_record.specs.declared.space.ClassRecord.{ClassRecord}
pub use Rattle.redo_record.specs.declared.space.AdvanceRecord.{AdvanceRecord}
pub use Rattle.redo_record.specs.declared.space.LowerRecord.{LowerRecord}
pub use Rattle.redo_record.specs.declared.space.Extents.{Extents}
pub use Rattle.redo_record.specs.declared.transaction.BeginRecord.{BeginRecord}
pub use Rattle.redo_record.specs.declared.transaction.ReuseRecord.{ReuseRecord}
pub use Rattle.redo_record.specs.declared.transaction.CommitRecord.{CommitRecord}
pub use Rattle.redo_record.specs.declared.transaction.EndedRecord.{EndedRecord}
pub use Rattle.redo_record.specs.declared.transaction.CleanRecord.{CleanRecord}
pub use Rattle.redo_record.specs.declared.transaction.EndedTransactions.{EndedTransactions}
