-- The faults of a log's frames as those of the redo log.
use Rattle.log_frame.specs.declared.fault.FrameFault.{FrameFault}
use Rattle.log_frame.specs.declared.fault.FrameFault.TheVariants as frames
use Rattle.redo_log.specs.declared.fault.LogFault.{LogFault}
use Rattle.redo_log.specs.declared.fault.LogFault.TheVariants.{DeviceFault, NotOpen, BadLog, NoMemory}

abbrev pub fault_of : FrameFault → LogFault
fault_of frames.DeviceFault = DeviceFault
fault_of frames.NotOpen = NotOpen
fault_of (frames.BadFrame offset seen) = BadLog offset seen
fault_of frames.NoMemory = NoMemory
