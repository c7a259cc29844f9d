-- The statuses of the program. This engine's own.
use Rattle.std.specs.Prelude.{ℕ, List, ◌++◌, codes, decimal}
use Rattle.disk_model.specs.declared.disk.File.{File}
use Rattle.disk_model.specs.declared.disk.File.TheVariants.{Data, Log}
use Rattle.text_port.specs.declared.whole.ReadEnd.{ReadEnd}
use Rattle.store_files.specs.declared.fault.OpenFault.{OpenFault}
use Rattle.script_text.specs.declared.why.ScriptFault.{ScriptFault}
use Rattle.script_text.specs.Whys.{why_text}
use Rattle.assm.specs.declared.status.Status.{Status}
use Rattle.assm.specs.declared.status.Status.TheVariants.{Done, BadWords, BadScript, DeviceFault, NoMemory, BadFile, NotFormatted, ReadFault, WriteFault, ScriptTooLong, AlreadyFormatted}
use Rattle.text_port.specs.declared.whole.ReadEnd.TheVariants as read
use Rattle.store_files.specs.declared.fault.OpenFault.TheVariants as opening
use Rattle.script_text.specs.declared.why.ScriptFault.TheVariants as script

abbrev pub number_of : Status → ℕ
number_of Done = 0
number_of BadWords = 1
number_of (BadScript line why) = 2
number_of DeviceFault = 3
number_of NoMemory = 4
number_of (BadFile which offset seen) = 5
number_of NotFormatted = 6
number_of ReadFault = 7
number_of WriteFault = 8
number_of ScriptTooLong = 9
number_of AlreadyFormatted = 10

abbrev pub status_of_read : ReadEnd → Status
status_of_read read.ReadFault = ReadFault
status_of_read read.TooLong = ScriptTooLong
status_of_read read.NoMemory = NoMemory

abbrev pub status_of_script : ScriptFault → Status
status_of_script (script.BadLine line why) = BadScript line why
status_of_script script.NoMemory = NoMemory

abbrev pub status_of_open : OpenFault → Status
status_of_open opening.DeviceFault = DeviceFault
status_of_open opening.NotFormatted = NotFormatted
status_of_open (opening.BadFile which offset seen) = BadFile which offset seen
status_of_open opening.AlreadyFormatted = AlreadyFormatted
status_of_open opening.NoMemory = NoMemory

-- ---- how a status is printed: its name, then its fields, each after a space
abbrev pub file_text : File → List ℕ
file_text Data = codes "data"
file_text Log = codes "log"

abbrev pub status_text : Status → List ℕ
status_text Done = codes "Done"
status_text BadWords = codes "BadWords"
status_text (BadScript line why) = codes "BadScript " ++ decimal line ++ codes " " ++ why_text why
status_text DeviceFault = codes "DeviceFault"
status_text NoMemory = codes "NoMemory"
status_text (BadFile which offset seen) = codes "BadFile " ++ file_text which ++ codes " " ++ decimal offset ++ codes " " ++ decimal seen
status_text NotFormatted = codes "NotFormatted"
status_text ReadFault = codes "ReadFault"
status_text WriteFault = codes "WriteFault"
status_text ScriptTooLong = codes "ScriptTooLong"
status_text AlreadyFormatted = codes "AlreadyFormatted"

-- its line on standard error, without the line feed
abbrev pub status_line : Status → List ℕ
status_line status = codes "assm: " ++ status_text status
