-- A fault of the log, handed on.
use Rattle.std.proofs.Common.{◌≡◌, ℕ, Err}
use Rattle.disk_model.specs.Types.{Files}
use Rattle.log_frame.specs.Types.{IsHeadFound, IsOpening, Answers as AnswersFrame}
use Rattle.log_frame.specs.declared.fault.FrameFault.{FrameFault}
use Rattle.store_files.specs.declared.fault.OpenFault.TheVariants.{AlreadyFormatted}
use Rattle.store_files.specs.Store.{IsShapeFound, IsLogOpened, Answers, fault_of}
use Rattle.log_frame.specs.declared.fault.FrameFault.TheVariants as frame

pub head_refused : (files : Files) (fault : FrameFault) → IsHeadFound files.log_bytes (Err fault) → IsShapeFound files (Err (fault_of fault))
head_refused files frame.DeviceFault h = tt
head_refused files frame.NotOpen h = h
head_refused files (frame.BadFrame offset seen) h = h
head_refused files frame.NoMemory h = h

pub log_refused : (files : Files) (from : ℕ) (fault : FrameFault) → IsOpening files.log_bytes from (Err fault) → IsLogOpened files from (Err (fault_of fault))
log_refused files from frame.DeviceFault h = tt
log_refused files from frame.NotOpen h = h
log_refused files from (frame.BadFrame offset seen) h = h
log_refused files from frame.NoMemory h = h

pub refused_answers : {A : Type 0} (fault : FrameFault) (P : A → Type 0) → AnswersFrame (Err fault) P → Answers (Err (fault_of fault)) P
refused_answers frame.DeviceFault P h = tt
refused_answers frame.NotOpen P h = absurd h
refused_answers (frame.BadFrame offset seen) P h = absurd h
refused_answers frame.NoMemory P h = absurd h

-- no fault of a log says that a store is there
pub not_made : (fault : FrameFault) → fault_of fault ≡ AlreadyFormatted → ⊥
not_made frame.DeviceFault e = cc
not_made frame.NotOpen e = cc
not_made (frame.BadFrame offset seen) e = cc
not_made frame.NoMemory e = cc
