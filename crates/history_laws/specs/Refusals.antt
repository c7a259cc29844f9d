-- When a statement that has come past its first tests is refused: with the cause stands that nothing before it in the order
-- applies.
use Rattle.std.specs.Prelude.{◌≡◌, ℕ, true, List, Option, Some, None}
use Rattle.seg_words.specs.Types.{Shape, is_shape}
use Rattle.redo_model.specs.Model.{IsTable, AreAllowed}
use Rattle.mark_laws.specs.Searches.{Sought, find_of}
use Rattle.mark_laws.specs.declared.step.Found.TheVariants as found
use Rattle.change_laws.specs.Drafts.{Stand}
use Rattle.change_laws.specs.Ready.{MayWrite, first_lacking}
use Rattle.script_text.specs.declared.statement.Statement.{Statement}
use Rattle.script_text.specs.declared.statement.Statement.TheVariants as asked
use Rattle.history_text.specs.declared.outcome.Outcome.TheVariants as told
use Rattle.history_text.specs.declared.refusal.Refusal.{Refusal}
use Rattle.history_text.specs.declared.refusal.Refusal.TheVariants as why
use Rattle.history_model.specs.declared.history.Kept.TheVariants as kept
use Rattle.history_model.specs.Spans.{Span, own_then}
use Rattle.history_model.specs.SoFar.{SoFar}
use Rattle.history_model.specs.Passing.{FirstPass}
use Rattle.history_model.specs.Causes.{IsOnRow, row_seen, IsNoRow, IsRowBusy, IsAgain, must_change, IsEntryless, Seeks, NoBlockTakes, NoFreeExtent, IsNoRoom, IsMaxExtents, IsNoUndo}
use Rattle.history_model.specs.Means.{RefusalMeans, PassesOver}

-- the refusal means its row and passes over what doesn't apply
pub record IsRefusedSo (sh : Shape) (x : Span) (st : Statement) (refusal : Refusal) : Type 0 where
  pub means : RefusalMeans sh x st refusal kept.Nothing
  pub passes : PassesOver sh x (Some st) (told.Refused refusal) kept.Nothing

-- the statement came past its first tests, and is as it was before its last event
pub record IsPending (sh : Shape) (x : Span) (st : Statement) : Type 0 where
  pub first : FirstPass sh x st
  pub so_far : SoFar x (Some st)

-- the row is there
pub record IsThere (x : Span) (st : Statement) : Type 0 where
  pub obj : ℕ
  pub row : ℕ
  pub on : IsOnRow x st obj row
  pub was : List ℕ
  pub there : row_seen x obj row ≡ Some was

-- no cause of the row's own applies
pub record RowPass (x : Span) (st : Statement) : Type 0 where
  pub there : (n : ℕ) → IsNoRow x st n → ⊥
  pub free : (u : ℕ) → IsRowBusy x st u → ⊥

pub record EntryPass (x : Span) (st : Statement) : Type 0 where
  pub row : RowPass x st
  pub entries : (ts : List ℕ) → IsEntryless x st ts → ⊥

-- nor does the search for a block find none
pub record BlockPass (sh : Shape) (x : Span) (st : Statement) : Type 0 where
  pub entry : EntryPass x st
  pub block : (q : Sought) → NoBlockTakes sh x st q → ⊥

-- each refusal

abbrev pub NoRowIsRefused : Type 0
NoRowIsRefused = (sh : Shape) (x : Span) (st : Statement) (n : ℕ) → IsPending sh x st → IsNoRow x st n → IsRefusedSo sh x st (why.NoRow n)

abbrev pub BusyIsRefused : Type 0
BusyIsRefused = (sh : Shape) (x : Span) (st : Statement) (u : ℕ) → IsPending sh x st → IsRowBusy x st u → IsRefusedSo sh x st (why.Busy u)

abbrev pub AgainIsRefused : Type 0
AgainIsRefused = (sh : Shape) (x : Span) (st : Statement) (cs : List ℕ) → IsPending sh x st → IsAgain x st cs → IsRefusedSo sh x st (why.Again cs)

abbrev pub NoSlotIsRefused : Type 0
NoSlotIsRefused = (sh : Shape) (x : Span) (st : Statement) (ts : List ℕ) → IsPending sh x st → RowPass x st → IsEntryless x st ts → IsRefusedSo sh x st (why.NoSlot ts)

abbrev pub NoSpaceIsRefused : Type 0
NoSpaceIsRefused = (sh : Shape) (x : Span) (st : Statement) (need : ℕ) → IsPending sh x st → EntryPass x st → IsNoRoom sh x st need → IsRefusedSo sh x st (why.NoSpace need)

abbrev pub MaxExtentsIsRefused : Type 0
MaxExtentsIsRefused = (sh : Shape) (x : Span) (st : Statement) (count : ℕ) → IsPending sh x st → EntryPass x st → IsMaxExtents sh x st count → IsRefusedSo sh x st (why.MaxExtents count)

abbrev pub UndoFullIsRefused : Type 0
UndoFullIsRefused = (sh : Shape) (x : Span) (st : Statement) (hs : List (ℕ × ℕ)) → IsPending sh x st → BlockPass sh x st → IsNoUndo sh x st hs → IsRefusedSo sh x st (why.UndoFull hs)

-- a new table finds no free extent
abbrev pub NoExtentIsRefused : Type 0
NoExtentIsRefused = (sh : Shape) (x : Span) (name : List ℕ) (pctfree : ℕ) → IsPending sh x (asked.Table name pctfree) → NoFreeExtent sh x.ended → IsRefusedSo sh x (asked.Table name pctfree) (why.NoSpace 0)

-- what a row that may be changed passes

-- an insert has no row to be there
abbrev pub InsertsPass : Type 0
InsertsPass = (x : Span) (name label text : List ℕ) → EntryPass x (asked.Insert name label text)

abbrev pub WritesPass : Type 0
WritesPass = (sh : Shape) (x : Span) (st : Statement) (o n : ℕ) (s : Stand) → AreAllowed sh x.ended → IsOnRow x st o n → MayWrite x.ended (own_then x) o n s → RowPass x st

abbrev pub EntriesPass : Type 0
EntriesPass =
    (sh : Shape) (x : Span) (st : Statement) (o n : ℕ) (s : Stand) → AreAllowed sh x.ended → IsOnRow x st o n → MayWrite x.ended (own_then x) o n s → first_lacking x.ended (own_then x) (must_change x st s) ≡ None → EntryPass x st

-- a search that finds a block excludes that none takes the row
abbrev pub FoundPass : Type 0
FoundPass =
    (sh : Shape) (x : Span) (st : Statement) (q : Sought) (hint : Option ℕ) (b : ℕ) → is_shape sh ≡ true → AreAllowed sh x.ended → IsTable x.ended q.obj → Seeks x st q → find_of sh x.ended q hint ≡ Some (found.Block b)
    → (p : Sought) → NoBlockTakes sh x st p → ⊥
