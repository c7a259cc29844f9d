-- What a run tells that is summed up in one line, as that of the script which is made from a number.
use Rattle.std.specs.Prelude.{◌≡◌, ◌⊎◌, ℕ, List, Option, None, Result, Ok, Err}
use Rattle.std.specs.Io.KnownBytes.{Appends}
use Rattle.seg_words.specs.Types.{Shape}
use Rattle.disk_model.specs.Types.{Meaning}
use Rattle.disk_model.specs.declared.disk.File.{File}
use Rattle.text_port.specs.Whole.{AppendsPrefix}
use Rattle.redo_model.specs.Records.{Record}
use Rattle.redo_model.specs.Model.{commit_count}
use Rattle.history_model.specs.declared.history.HistoryItem.{HistoryItem}
use Rattle.history_model.specs.Types.{entries_of}
use Rattle.script_text.specs.Script.{Script}
use Rattle.script_gen.specs.Summed.{totals_of, totals_text}
use Rattle.store_files.specs.declared.fault.OpenFault.TheVariants as opening
use Rattle.store_core.specs.Store.{Held}
use Rattle.store_core.specs.Causes.{IsSoundFault}
use Rattle.store_core.specs.declared.fault.StoreFault.{StoreFault}
use Rattle.store_core.specs.declared.fault.StoreFault.TheVariants as faults
use Rattle.session_world.specs.declared.fault.RunFault.{RunFault}
use Rattle.session_world.specs.declared.fault.RunFault.TheVariants as stops
use Rattle.session_world.specs.Whole.{HasRunScript}
use Rattle.assm.specs.declared.generating.Sum.{Sum}
use Rattle.assm.specs.declared.status.Status.{Status}
use Rattle.assm.specs.declared.status.Status.TheVariants.{Done, DeviceFault, NoMemory, BadFile, NotFormatted, WriteFault}
use Rattle.assm.specs.Top.{Ran, RanWhole, NothingCalled, Opened, Breaks, Fails}

-- ---- the sum and its line

-- this is the sum of a history, newest first, beside so many commits; only memory may be wanting for it
abbrev pub SumsHistory : List HistoryItem → ℕ → Result Sum StoreFault → Type 0
SumsHistory T commits (Ok sum) = (sum.totals ≡ totals_of (entries_of T)) × (sum.commits ≡ commits)
SumsHistory T commits (Err fault) = fault ≡ faults.NoMemory

abbrev pub sum_text : Sum → List ℕ
sum_text sum = totals_text sum.totals sum.commits

-- what was printed of it, by the status
abbrev pub PrintsSum : Option (List ℕ) → Option (List ℕ) → Sum → Status → Type 0
PrintsSum old new sum Done = Appends old new (sum_text sum)
PrintsSum old new sum WriteFault = AppendsPrefix old new (sum_text sum)
PrintsSum old new sum NoMemory = new ≡ old
PrintsSum old new sum status = ⊥

-- ---- a run whose lines nobody wants, over a store

-- what the store answered, as a run does whose sink doesn't fail
abbrev pub of_store : Result (Unit {0}) StoreFault → Result (Unit {0}) RunFault
of_store (Ok done) = Ok done
of_store (Err fault) = Err (stops.Store fault)

-- it came to its end, and its history and its records have this sum
pub record HasSum {D : Type 0} (meaning : Meaning D) (script : Script) (R0 : List Record) (old new : Held D) (sum : Sum) : Type 0 where
  pub ran : HasRunScript meaning script R0 old new None None (Ok tt)
  pub totals : sum.totals ≡ totals_of (entries_of ran.ran.run.history)
  pub commits : sum.commits ≡ commit_count ran.ran.run.records

-- it ended in some way, and was not summed up
pub record LacksSum {D : Type 0} (meaning : Meaning D) (script : Script) (R0 : List Record) (old new : Held D) (fault : StoreFault) : Type 0 where
  pub answer : Result (Unit {0}) RunFault
  pub ran : HasRunScript meaning script R0 old new None None answer
  pub sound : IsSoundFault fault

abbrev pub HasSummed : {D : Type 0} → Meaning D → Script → List Record → Held D → Held D → Result Sum StoreFault → Type 0
HasSummed meaning script R0 old new (Ok sum) = HasSum meaning script R0 old new sum
HasSummed meaning script R0 old new (Err fault) = LacksSum meaning script R0 old new fault

-- ---- the same over files

module _ {D : Type 0} (meaning : Meaning D) (since : ℕ) (data_bytes : List ℕ) (disk' : D) (sh : Shape) (R : List Record) (script : Script) where
  -- all of it ran, and this is the sum of its history, beside the commits of the store that it left
  pub record SumsUp (sum : Sum) : Type 0 where
    pub whole : RanWhole meaning since data_bytes disk' None None sh R script
    pub totals : sum.totals ≡ totals_of (entries_of whole.ran.history)
    pub commits : sum.commits ≡ commit_count whole.ran.records

  -- what each answer says of a sound store
  abbrev pub SumsTo : Result Sum StoreFault → Type 0
  SumsTo (Ok sum) = SumsUp sum
  SumsTo (Err (faults.BadPage dba)) = ⊥
  SumsTo (Err fault) = Ran meaning since data_bytes disk' None None sh R script

-- ---- the whole call, for the text of a script

module _ {D : Type 0} (meaning : Meaning D) (disk disk' : D) (old new : Option (List ℕ)) where
  -- The script is in the grammar, and the files read as a store's. Where they were a sound one, all of the script ran, and this is
  -- the sum of its history.
  abbrev pub WasSummed : Sum → List ℕ → Type 0
  WasSummed sum text = Opened meaning disk disk' old new (λ sh R script. SumsUp meaning (meaning.clock disk) (meaning.files disk).data_bytes disk' sh R script sum) text

  -- The script ran, wholly or in part, and nothing was printed.
  pub record Unsummed (text : List ℕ) : Type 0 where
    pub printed : new ≡ old
    pub opened : Opened meaning disk disk' old new (Ran meaning (meaning.clock disk) (meaning.files disk).data_bytes disk' None None) text

  -- An event of the script found no page as it needed one, in files that aren't a sound store's. Nothing was printed.
  pub record BreaksUnsummed (which : File) (offset seen : ℕ) (text : List ℕ) : Type 0 where
    pub printed : new ≡ old
    pub breaks : Breaks meaning disk disk' old new which offset seen text

  -- what a status says of a script that is run and summed up
  abbrev pub SumTells : Status → List ℕ → Type 0
  SumTells Done text = (sum : Sum) × Appends old new (sum_text sum) × WasSummed sum text
  SumTells WriteFault text = (sum : Sum) × AppendsPrefix old new (sum_text sum) × WasSummed sum text
  SumTells DeviceFault text = Fails meaning disk disk' old new opening.DeviceFault text ⊎ Unsummed text
  SumTells NoMemory text = NothingCalled meaning disk disk' old new ⊎ (Fails meaning disk disk' old new opening.NoMemory text ⊎ Unsummed text)
  SumTells (BadFile which offset seen) text = Fails meaning disk disk' old new (opening.BadFile which offset seen) text ⊎ BreaksUnsummed which offset seen text
  SumTells NotFormatted text = Fails meaning disk disk' old new opening.NotFormatted text
  SumTells status text = ⊥
