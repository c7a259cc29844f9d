-- The types and the words of this crate, for the crates above and for proofs: import them from here. Declares nothing.
pub use Rattle.log_frame.specs.declared.fault.FrameFault.{FrameFault}
pub use Rattle.log_frame.specs.declared.fault.FrameFault.TheVariants.{DeviceFault, NotOpen, BadFrame, NoMemory}
pub use Rattle.log_frame.specs.declared.fault.WrongByte.{WrongByte}
pub use Rattle.log_frame.specs.declared.log.Group.{Group}
pub use Rattle.log_frame.specs.declared.head.TheConstants.{HEAD_NAME, BLOCKS_AT, EXTENT_AT, UNDO_AT, ZEROS_AT, HEAD_ZEROS}
pub use Rattle.log_frame.specs.declared.log.TheConstants.{GROUP_HEAD_SIZE}
pub use Rattle.log_frame.specs.Head.{head_body, head, is_formatted, bad_at, first_wrong, shape_in, place_of, wrong_number, unless, shape_found}
pub use Rattle.log_frame.specs.Frame.{frame, frames, IsPayload, framed, size_found, group_of, group_found, Walks}
pub use Rattle.log_frame.specs.Spelling.{Begins, Stands, IsLog, WithOrWithout, EmptyOrNone, IsClosed, SpelledFrom}
pub use Rattle.log_frame.specs.Ready.{IsReady, Settles, Leads}
pub use Rattle.log_frame.specs.Found.{wrong, IsHeadFound, IsOpen, Walked, IsEndFound, IsOpening, IsSizeFound, IsGroupFound, Answers, AnswersInMemory, IsFirst}
pub use Rattle.log_frame.specs.Reading.{Reading, window, payload_read, Covers, IsReached, IsFront, Passes, IsAdvance, IsBegun}
