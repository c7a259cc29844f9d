-- The lines of what an event told.
use Rattle.std.specs.Prelude.{◌≡◌, ℕ, List, [], ◌∷◌, length, Option, Result, Ok, Err}
use Rattle.std.specs.Io.KnownBytes.{Appends}
use Rattle.text_port.specs.Whole.{AppendsPrefix}
use Rattle.history_text.specs.declared.entry.Entry.{Entry}
use Rattle.history_text.specs.Lines.{entry_text}
use Rattle.history_model.specs.declared.history.HistoryItem.{HistoryItem}
use Rattle.history_model.specs.declared.history.HistoryItem.TheVariants as item
use Rattle.store_core.specs.declared.fault.StoreFault.TheVariants as faults
use Rattle.session_world.specs.declared.fault.RunFault.{RunFault}
use Rattle.session_world.specs.declared.fault.RunFault.TheVariants as stops
use Rattle.session_world.specs.Whole.{text_of, LacksNewest}

-- the newest item
abbrev pub IsNewest : List HistoryItem → HistoryItem → Type 0
IsNewest [] i = ⊥
IsNewest (j ∷ T) i = j ≡ i

-- The lines of an entry were handed out: all of them; none where memory was wanting; a first part where the sink failed.
abbrev pub HasHanded : Entry → Option (List ℕ) → Option (List ℕ) → Result (Unit {0}) RunFault → Type 0
HasHanded e old new (Ok u) = Appends old new (entry_text e)
HasHanded e old new (Err (stops.Store faults.NoMemory)) = new ≡ old
HasHanded e old new (Err (stops.Store fault)) = ⊥
HasHanded e old new (Err stops.WriteFault) = AppendsPrefix old new (entry_text e)

-- nothing was handed out
pub record HandsNothing (old new : Option (List ℕ)) (result : Result (Unit {0}) RunFault) : Type 0 where
  pub same : new ≡ old
  pub done : result ≡ Ok tt

-- those of the newest item, if it is an entry
abbrev pub HandsOut : List HistoryItem → Option (List ℕ) → Option (List ℕ) → Result (Unit {0}) RunFault → Type 0
HandsOut (item.Told e k ∷ T) old new result = HasHanded e old new result
HandsOut T old new result = HandsNothing old new result

-- the same of an event: nothing is handed out where the history is as long as before
pub record HandsOutSince (before : ℕ) (T : List HistoryItem) (old new : Option (List ℕ)) (result : Result (Unit {0}) RunFault) : Type 0 where
  pub same : length T ≡ before → HandsNothing old new result
  pub more : (length T ≡ before → ⊥) → HandsOut T old new result

-- what the sink took since the run began: the lines of all entries; without those of the newest one, for which memory was wanting;
-- or a first part
abbrev pub HasTaken : Result (Unit {0}) RunFault → Option (List ℕ) → Option (List ℕ) → List HistoryItem → Type 0
HasTaken (Ok u) before after T = Appends before after (text_of T)
HasTaken (Err (stops.Store faults.NoMemory)) before after T = LacksNewest before after T
HasTaken (Err (stops.Store fault)) before after T = ⊥
HasTaken (Err stops.WriteFault) before after T = AppendsPrefix before after (text_of T)
