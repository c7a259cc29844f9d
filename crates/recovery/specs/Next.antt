-- The transaction that an opening takes back next, by the page of the transaction table.
use Rattle.std.specs.Prelude.{◌≡◌, ℕ, zero, suc, min, false, List, length, slice_get, Option, Some, None}
use Rattle.txn_block.specs.Types.{told}
use Rattle.txn_block.specs.declared.entry.TableEntry.{TableEntry}
use Rattle.txn_block.specs.declared.entry.State.{State}
use Rattle.txn_block.specs.declared.entry.State.TheVariants as state
use Rattle.page_set.specs.declared.page.Page.{Page}
use Rattle.page_set.specs.declared.page.Page.TheVariants.{Zero, Txns}
use Rattle.redo_model.specs.Records.{Record}
use Rattle.redo_model.specs.Model.{is_active}
use Rattle.rollback_laws.specs.Closing.{IsFirst}

abbrev pub active_by : State → ℕ → Option ℕ
active_by state.Active t = Some t
active_by (state.Committed c) t = None
active_by state.RolledBack t = None
active_by state.Forgotten t = None

-- the transaction of an entry, where it is active
abbrev pub active_in : Option (ℕ × State) → Option ℕ
active_in None = None
active_in (Some x) = active_by x.1 x.0

abbrev pub lesser : Option ℕ → Option ℕ → Option ℕ
lesser None other = other
lesser (Some t) None = Some t
lesser (Some t) (Some u) = Some (min t u)

-- the least active transaction of the first n entries
abbrev pub least_among : List TableEntry → ℕ → Option ℕ
least_among entries zero = None
least_among entries (suc n) = lesser (least_among entries n) (active_in (told (slice_get entries n)))

-- The least active transaction, by the page of block 1, which is zeros before any transaction; none of another page.
abbrev pub next_in : Page → Option (Option ℕ)
next_in (Zero d) = Some None
next_in (Txns table) = Some (least_among table.entries (length table.entries))
next_in _ = None

-- the least active transaction of a list of records, or none where none is active
abbrev pub IsNext : List Record → Option ℕ → Type 0
IsNext R None = (t : ℕ) → is_active R t ≡ false
IsNext R (Some t) = IsFirst R t
