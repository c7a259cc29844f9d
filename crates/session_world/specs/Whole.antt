-- A whole run of a script over a store: what stands where it stops, what the sink took, and what a crash leaves.
use Rattle.std.specs.Prelude.{◌≡◌, ◌⊎◌, ℕ, ◌≤◌, ◌&&◌, Bool, true, false, cond, leb, List, [], ◌∷◌, ◌++◌, length, Option, Result, Ok, Err, OnOk, IfErr}
use Rattle.std.specs.Io.KnownBytes.{Appends}
use Rattle.disk_model.specs.Crash.{Meaning}
use Rattle.redo_model.specs.Records.{Record}
use Rattle.text_port.specs.Whole.{AppendsPrefix}
use Rattle.script_text.specs.declared.statement.Statement.{Statement}
use Rattle.script_text.specs.Script.{Script}
use Rattle.history_text.specs.declared.outcome.Outcome.{Outcome}
use Rattle.history_text.specs.declared.outcome.Outcome.TheVariants as told
use Rattle.history_text.specs.Lines.{entry_text}
use Rattle.history_model.specs.declared.history.HistoryItem.{HistoryItem}
use Rattle.history_model.specs.declared.history.HistoryItem.TheVariants as item
use Rattle.history_model.specs.History.{AreInTime}
use Rattle.history_model.specs.Legal.{IsLegal}
use Rattle.history_model.specs.Running.{IsAtEnd}
use Rattle.store_core.specs.Store.{Held, IsTrue}
use Rattle.store_core.specs.Survives.{Survives}
use Rattle.store_core.specs.Causes.{IsSoundFault}
use Rattle.store_core.specs.declared.fault.StoreFault.TheVariants as faults
use Rattle.session_world.specs.declared.fault.RunFault.{RunFault}
use Rattle.session_world.specs.declared.fault.RunFault.TheVariants as stops
use Rattle.session_world.specs.Order.{after_schedule, after_rounds, FollowsTurns}

-- ---- lines

-- the lines of the entries, oldest first; the history is written with the newest first
abbrev pub text_of : List HistoryItem → List ℕ
text_of [] = []
text_of (item.Started s ∷ T) = text_of T
text_of (item.Told e kept ∷ T) = text_of T ++ entry_text e

-- the newest item is an entry, and the sink took the lines of those before it
abbrev pub LacksNewest : Option (List ℕ) → Option (List ℕ) → List HistoryItem → Type 0
LacksNewest before after (item.Told e kept ∷ T) = Appends before after (text_of T)
LacksNewest before after T = ⊥

-- What the sink took: the lines of all entries. Where memory was wanting, it may have been for the lines of the newest one, of
-- which the sink took nothing then; only where the sink failed a line is cut.
abbrev pub IsPrinted : {A : Type 0} → Result A RunFault → Option (List ℕ) → Option (List ℕ) → List HistoryItem → Type 0
IsPrinted (Ok a) before after T = Appends before after (text_of T)
IsPrinted (Err (stops.Store faults.NoMemory)) before after T = Appends before after (text_of T) ⊎ LacksNewest before after T
IsPrinted (Err (stops.Store fault)) before after T = Appends before after (text_of T)
IsPrinted (Err stops.WriteFault) before after T = AppendsPrefix before after (text_of T)

-- ---- what survives a crash

-- a commit's entry
abbrev pub is_commit : Outcome → Bool
is_commit (told.Committed number) = true
is_commit outcome = false

-- How many records have to survive a crash at this moment: those that stood as the newest commit was told whose entry's moment
-- isn't later, and before the first one those that were found.
abbrev pub needed_by : ℕ → List HistoryItem → ℕ → ℕ
needed_by found [] m = found
needed_by found (item.Started s ∷ T) m = needed_by found T m
needed_by found (item.Told e kept ∷ T) m = cond (is_commit e.outcome && leb e.moment m) e.ends (needed_by found T m)

-- ---- a run

-- what a true store may answer; a sink may fail at any time
abbrev pub IsSoundStop : RunFault → Type 0
IsSoundStop (stops.Store fault) = IsSoundFault fault
IsSoundStop stops.WriteFault = Unit {0}

-- From the records R0 the sessions of the scripts made these records and this history, all of it legal, whatever the answer is.
-- What the sink took are its lines. Where so many records that were found have survived each crash since a moment, they go on
-- surviving it, and so does each commit that was told. At Ok each statement of each session has its entry, no transaction is active, and all records are
-- stable.
pub record HasRunAll {D : Type 0} (meaning : Meaning D) (scripts : List (List Statement)) (R0 : List Record) (old new : Held D) (before after : Option (List ℕ)) (result : Result (Unit {0}) RunFault) : Type 0 where
  pub records : List Record
  pub history : List HistoryItem
  pub stands : IsTrue meaning records new
  pub legal : IsLegal old.shape scripts R0 records history
  pub in_time : AreInTime (meaning.clock new.disk) history
  pub took : AppendsPrefix before after (text_of history)
  pub printed : IsPrinted result before after history
  pub over : OnOk result (IsAtEnd old.shape scripts R0 records history (meaning.clock new.disk))
  pub stable : OnOk result (new.log.stable ≡ length records)
  pub survives : (since found : ℕ) → Survives meaning since (λ m. found) R0 old → Survives meaning since (needed_by found history) records new
  pub time : meaning.clock old.disk ≤ meaning.clock new.disk
  pub sound : IfErr result IsSoundStop

-- and they did so by these turns
pub record HasRunTurns {D : Type 0} (meaning : Meaning D) (scripts : List (List Statement)) (R0 : List Record) (all : List ℕ) (old new : Held D) (before after : Option (List ℕ)) (result : Result (Unit {0}) RunFault) : Type 0 where
  pub run : HasRunAll meaning scripts R0 old new before after result
  pub turns : FollowsTurns old.shape scripts R0 all run.records run.history result

-- whose turns a script takes: those of its schedule, and then so many rounds of all its sessions
abbrev pub turns_of : Script → ℕ → List ℕ
turns_of script rounds = after_rounds (length script.sessions) rounds (after_schedule script.schedule [])

-- A whole script: at Ok all these turns were taken, and else the first ones.
pub record HasRunScript {D : Type 0} (meaning : Meaning D) (script : Script) (R0 : List Record) (old new : Held D) (before after : Option (List ℕ)) (result : Result (Unit {0}) RunFault) : Type 0 where
  pub rounds : ℕ
  pub ran : HasRunTurns meaning script.sessions R0 (turns_of script rounds) old new before after result

-- ---- the same of a run that has its history, at Ok this one

pub record HasRunTurnsOf {D : Type 0} (meaning : Meaning D) (scripts : List (List Statement)) (R0 : List Record) (all : List ℕ) (old new : Held D) (before after : Option (List ℕ)) (T : List HistoryItem) (result : Result (Unit {0}) RunFault) : Type 0 where
  pub taken : HasRunTurns meaning scripts R0 all old new before after result
  pub history : OnOk result (taken.run.history ≡ T)

pub record HasRunIn {D : Type 0} (meaning : Meaning D) (script : Script) (R0 : List Record) (old new : Held D) (before after : Option (List ℕ)) (T : List HistoryItem) (result : Result (Unit {0}) RunFault) : Type 0 where
  pub whole : HasRunScript meaning script R0 old new before after result
  pub history : OnOk result (whole.ran.run.history ≡ T)
