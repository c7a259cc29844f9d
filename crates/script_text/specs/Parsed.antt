-- What the parser answers beside what the grammar says.
use Rattle.std.specs.Prelude.{◌≡◌, Result, Ok, Err}
use Rattle.script_text.specs.OwnTypes.{Why, ScriptFault}
use Rattle.script_text.specs.declared.why.LineFault.{LineFault}
use Rattle.script_text.specs.declared.why.LineFault.TheVariants as line
use Rattle.script_text.specs.declared.why.ScriptFault.TheVariants as script

-- a line's fault is what was read, unless memory ran out
abbrev pub Refuses : {A : Type 0} → LineFault → Result A Why → Type 0
Refuses line.NoMemory read = Unit {0}
Refuses (line.Bad why) read = read ≡ Err why

-- what was answered is what was read, unless memory ran out
abbrev pub Gives : {A : Type 0} → Result A LineFault → Result A Why → Type 0
Gives (Ok a) read = read ≡ Ok a
Gives (Err fault) read = Refuses fault read

-- the same of a whole script
abbrev pub RefusesScript : {A : Type 0} → ScriptFault → Result A ScriptFault → Type 0
RefusesScript script.NoMemory read = Unit {0}
RefusesScript (script.BadLine n why) read = read ≡ Err (script.BadLine n why)

abbrev pub Parses : {A : Type 0} → Result A ScriptFault → Result A ScriptFault → Type 0
Parses (Ok a) read = read ≡ Ok a
Parses (Err fault) read = RefusesScript fault read

-- what a call made of a value is what was read
abbrev pub Becomes : {A : Type 0} → Result (Unit {0}) LineFault → A → Result A Why → Type 0
Becomes (Ok done) new read = read ≡ Ok new
Becomes (Err fault) new read = Refuses fault read

-- the same of a line of a script
abbrev pub Reads : {A : Type 0} → Result (Unit {0}) ScriptFault → A → Result A ScriptFault → Type 0
Reads (Ok done) new read = read ≡ Ok new
Reads (Err fault) new read = RefusesScript fault read
