-- What survives a crash while records become stable.
use Rattle.std.specs.Prelude.{◌≡◌, ◌⊎◌, ℕ, List, [], ◌∷◌, length}
use Rattle.seg_words.specs.Types.{Shape}
use Rattle.disk_model.specs.Types.{Meaning}
use Rattle.log_frame.specs.Types.{IsLog, IsReady}
use Rattle.log_survival.specs.Survives.{Survives, AreMade}
use Rattle.log_survival.specs.declared.acknowledged.Acknowledged.{Acknowledged}
use Rattle.redo_record.specs.declared.record.Record.{Record}
use Rattle.redo_log.specs.Kept.{Kept, HasList, with_group}

-- What was acknowledged survives at each moment since, and all of it was there when it was acknowledged.
pub record Lasts {D : Type 0} (meaning : Meaning D) (since : ℕ) (shape : Shape) (groups : List (List ℕ)) (acknowledged : List Acknowledged) (disk : D) : Type 0 where
  pub survives : Survives meaning since shape groups acknowledged disk
  pub made : AreMade groups (meaning.clock disk) acknowledged

-- at this moment all these groups are acknowledged
abbrev pub all_now : List (List ℕ) → ℕ → Acknowledged
all_now groups moment = record { moment = moment; groups = length groups }

-- the groups as they were, or with one of these bytes
abbrev pub GroupOrNone : Shape → List (List ℕ) → List ℕ → List ℕ → Type 0
GroupOrNone shape groups bytes file = IsLog shape groups file ⊎ IsLog shape (with_group groups bytes) file

-- A log that was opened on the log of a store, from the gate behind which these groups stand: its list, and the disk. All
-- groups that are there are acknowledged from this moment on.
pub record IsOpened {D : Type 0} (meaning : Meaning D) (disk : D) (shape : Shape) (groups after : List (List ℕ)) (R0 R : List Record) (log : Kept) : Type 0 where
  pub list : HasList after R0 R log
  pub ready : IsReady meaning disk shape groups log.end
  pub none : log.waiting.bytes ≡ []
  pub lasts : Lasts meaning (meaning.clock disk) shape groups (all_now groups (meaning.clock disk) ∷ []) disk
