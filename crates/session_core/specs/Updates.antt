-- An update at the place of its row, and what its event answers.
use Rattle.std.specs.Prelude.{◌≡◌, ℕ, Bool, cond, List, length, MatchOption, Option, Some, None, Result, Ok, Err}
use Rattle.seg_words.specs.Types.{Shape}
use Rattle.disk_model.specs.Crash.{Meaning}
use Rattle.redo_model.specs.Records.{Record}
use Rattle.redo_model.specs.Model.{IsRowSize}
use Rattle.mark_laws.specs.declared.step.Found.TheVariants as found
use Rattle.mark_laws.specs.Searches.{find_of}
use Rattle.change_laws.specs.Drafts.{Change}
use Rattle.change_laws.specs.Ready.{path_of}
use Rattle.change_laws.specs.Answers.{BlockNeeded, stand_at, change_by, update_answer}
use Rattle.head_laws.specs.Heads.{sought_by}
use Rattle.script_text.specs.declared.statement.Statement.TheVariants as asked
use Rattle.script_text.specs.declared.statement.Target.{Target}
use Rattle.history_text.specs.declared.outcome.Outcome.TheVariants as outcome
use Rattle.history_model.specs.declared.history.Kept.TheVariants as kept
use Rattle.history_model.specs.Spans.{Span}
use Rattle.store_core.specs.Store.{Held, SameLoan}
use Rattle.store_core.specs.Causes.{HasCause}
use Rattle.store_core.specs.declared.fault.StoreFault.{StoreFault}
use Rattle.row_change.specs.Answering.{Answers, store_answer}
use Rattle.row_change.specs.declared.answer.Done.{Done}
use Rattle.row_change.specs.declared.answer.ChangeFault.{ChangeFault}
use Rattle.row_change.specs.declared.answer.ChangeFault.TheVariants as changes
use Rattle.row_change.specs.declared.place.Place.{Place}
use Rattle.session_core.specs.declared.session.RowWork.{RowWork}
use Rattle.session_core.specs.declared.changed.Changed.{Changed}
use Rattle.session_core.specs.declared.turned.Turned.{Turned}
use Rattle.session_core.specs.declared.turned.Turned.TheVariants as turned
use Rattle.session_core.specs.declared.turned.Acted.{Acted}
use Rattle.session_core.specs.Acting.{IsAt}
use Rattle.session_core.specs.Changes.{IsChanging}
use Rattle.session_core.specs.Inserts.{IsBy}
use Rattle.session_core.specs.Leaving.{home_blocks, is_noted, is_filled, one_block}
use Rattle.session_core.specs.Located.{WasAt}
use Rattle.session_core.specs.RowWorks.{work_of}

-- an update to this text is at this place of its row, which was located there
pub record IsUpdating {D : Type 0} (meaning : Meaning D) (x : Span) (name : List ℕ) (target : Target) (text : List ℕ) (who : ℕ) (own : Option ℕ) (w : RowWork) (p : Place) (s : Held D) : Type 0 where
  pub at : IsAt meaning x own s
  pub by : IsBy x who
  pub size : IsRowSize text
  pub changing : IsChanging s.shape x (asked.Update name target text) (work_of w)
  pub place_is : w.place ≡ Some p
  pub located : WasAt s.shape x.ended own w.obj w.row p

-- it needs another block, for so many bytes
abbrev pub IsNeedy : Shape → Span → Option ℕ → RowWork → Place → List ℕ → ℕ → Type 0
IsNeedy sh x own w p text len = update_answer sh x.ended own w.obj w.row p.at p.start text None ≡ BlockNeeded len

abbrev pub needed_in : ChangeFault → Option ℕ
needed_in (changes.NeedsBlock len) = Some len
needed_in fault = None

-- where it does, the store has no fault
abbrev pub IsUnspentFor : {D : Type 0} → ChangeFault → Held D → Type 0
IsUnspentFor fault s = (len : ℕ) → needed_in fault ≡ Some len → s.fault ≡ None

-- what the store says of the refusal
abbrev pub refused_so : ChangeFault → Result (Option Done) StoreFault
refused_so fault = store_answer (Err fault)

-- the update without a block to go to was refused
pub record HasRefused {D : Type 0} (meaning : Meaning D) (x : Span) (who : ℕ) (own : Option ℕ) (w : RowWork) (p : Place) (text : List ℕ) (old new : Held D) (fault : ChangeFault) : Type 0 where
  pub loan : SameLoan meaning old new
  pub cause : HasCause meaning old new (refused_so fault)
  pub answers : Answers meaning x.ended who own (update_answer old.shape x.ended own w.obj w.row p.at p.start text None) old new (Err fault)

abbrev pub updated : Done → Acted
updated d = record { turned = turned.Over (outcome.Updated d.row) kept.Nothing; own = Some d.txn }

-- ---- the blocks that it notes

-- the blocks of its change, which the row goes by as it stands and by the block that the search under the hint finds
pub record UpdateNotes (sh : Shape) (R : List Record) (own : Option ℕ) (w : RowWork) (p : Place) (text : List ℕ) (hint : Option ℕ) (noted : Changed) : Type 0 where
  pub to : Option ℕ
  pub found : MatchOption to (Unit {0}) (λ b. find_of sh R (sought_by own w.obj (length text) p.head p.at) hint ≡ Some (found.Block b))
  pub change : Change
  pub change_is : change_by R w.obj w.row (stand_at R p.at) text to (path_of R own (stand_at R p.at) (length text)) ≡ Some change
  pub each : (d : ℕ) → is_noted noted d ≡ is_filled change.fills d

-- an accepted update notes just these, and any other answer none
abbrev pub Notes : Shape → List Record → Option ℕ → RowWork → Place → List ℕ → Option ℕ → Changed → Changed → Turned → Type 0
Notes sh R own w p text hint old new (turned.Over (outcome.Updated n) k) = UpdateNotes sh R own w p text hint new
Notes sh R own w p text hint old new t = new ≡ old

abbrev pub NotesSo : Shape → List Record → Option ℕ → RowWork → Place → List ℕ → Option ℕ → Changed → Changed → Result Acted StoreFault → Type 0
NotesSo sh R own w p text hint old new (Ok a) = Notes sh R own w p text hint old new a.turned
NotesSo sh R own w p text hint old new (Err fault) = new ≡ old

-- where the row needs no other block: those of its place and its head where it has left the place, else that of its place
abbrev pub home_noted : Bool → Place → Changed
home_noted left p = cond left (home_blocks p.head p.at) (one_block p.at.dba)

abbrev pub NotesHome : Bool → Place → Changed → Changed → Result Acted StoreFault → Type 0
NotesHome left p old new (Ok a) = new ≡ home_noted left p
NotesHome left p old new (Err fault) = new ≡ old
