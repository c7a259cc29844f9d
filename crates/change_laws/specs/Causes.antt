-- Why a change of a row is refused: each cause, what it excludes, and what tells it.
use Rattle.std.specs.Prelude.{◌≡◌, ◌≢◌, ◌⊎◌, ℕ, ◌<◌, true, List, [], ◌∷◌, length, map, Option, Some, None}
use Rattle.seg_words.specs.Types.{Shape, By, ListEntry, MOST_LIST_ENTRIES, LIST_ENTRY_SIZE}
use Rattle.redo_model.specs.Records.{Record, RowBody}
use Rattle.redo_model.specs.Model.{Step, commit_count, is_active, standing, newest_on, row_bytes, entries_of, free_of, number_or_zero, IsKindAllowed, AreAllowed}
use Rattle.scan_laws.specs.Changes.{changed_above}
use Rattle.change_laws.specs.Drafts.{RowKind, Inserts, Updates, Migrates, Returns, Deletes, as_record, Stand}
use Rattle.change_laws.specs.Ready.{lacks_entry, first_lacking, blocks_at, Path, InPlace, ToHead, ToOther, path_of, updated_blocks, StandsAt}

-- row n is busy: another active transaction u made its newest standing record
pub record IsBusy (R : List Record) (own : Option ℕ) (n u : ℕ) : Type 0 where
  pub step : Step
  pub newest : newest_on (standing R) n ≡ Some step
  pub by_is : step.by ≡ By u
  pub active : is_active R u ≡ true
  pub other : u ≢ number_or_zero own

-- row n has changed: a commit or a move with a number above start changed or moved it; the number of commits now
pub record IsChanged (R : List Record) (start n commits : ℕ) : Type 0 where
  pub changed : changed_above R start n ≡ true
  pub now : commits ≡ commit_count R

-- each of these is an active transaction, and another one
abbrev pub AreOthers : List Record → Option ℕ → List ℕ → Type 0
AreOthers R own [] = Unit {0}
AreOthers R own (u ∷ us) = ((is_active R u ≡ true) × (u ≢ number_or_zero own)) × AreOthers R own us

-- whom the list entries of a block name
abbrev pub txns_of : List Record → ℕ → List ℕ
txns_of R b = map (λ (e : ListEntry). e.txn) (entries_of R b)

-- no list entry can be had in block b: all its entries name other active transactions, and there are as many as there can
-- be, or a new one's bytes aren't free
pub record IsNoSlot (R : List Record) (own : Option ℕ) (b : ℕ) (txns : List ℕ) : Type 0 where
  pub named : txns ≡ txns_of R b
  pub others : AreOthers R own txns
  pub no_more : (length txns ≡ MOST_LIST_ENTRIES) ⊎ (free_of R b < LIST_ENTRY_SIZE)

-- so it is exactly where the block has none for the transaction
pub record LackMeans (R : List Record) (own : Option ℕ) (b : ℕ) : Type 0 where
  pub lacks : lacks_entry R own b ≡ true → IsNoSlot R own b (txns_of R b)
  pub has : (txns : List ℕ) → IsNoSlot R own b txns → lacks_entry R own b ≡ true

abbrev pub LackIsNoSlot : Type 0
LackIsNoSlot = (sh : Shape) (R : List Record) (own : Option ℕ) (b : ℕ) → AreAllowed sh R → LackMeans R own b

-- a record of this kind changes a row that was there
abbrev pub IsOld : RowKind → Type 0
IsOld Inserts = ⊥
IsOld Updates = Unit {0}
IsOld Migrates = Unit {0}
IsOld Returns = Unit {0}
IsOld Deletes = Unit {0}

-- the way that a record of this kind goes
abbrev pub GoesBy : RowKind → Path → Type 0
GoesBy Inserts p = Unit {0}
GoesBy Updates p = p ≡ InPlace
GoesBy Migrates p = p ≡ ToOther
GoesBy Returns p = p ≡ ToHead
GoesBy Deletes p = Unit {0}

-- the blocks that a record of this kind must change, of the row's own
abbrev pub must_change : List Record → RowKind → Option ℕ → Stand → ℕ → List ℕ
must_change R Inserts own x len = []
must_change R Updates own x len = updated_blocks R own x len
must_change R Migrates own x len = updated_blocks R own x len
must_change R Returns own x len = updated_blocks R own x len
must_change R Deletes own x len = blocks_at x

-- What every allowed record has that changes a row: so where the row is busy, where a block that must be changed lacks an
-- entry, or where the update goes another way, no such record is allowed.
pub record ChangeNeeds (R : List Record) (k : RowKind) (w : RowBody) (x : Stand) : Type 0 where
  pub not_busy : (u : ℕ) → IsBusy R (Some w.txn) w.row u → ⊥
  pub path : GoesBy k (path_of R (Some w.txn) x (length (row_bytes w.parts)))
  pub entries : first_lacking R (Some w.txn) (must_change R k (Some w.txn) x (length (row_bytes w.parts))) ≡ None

abbrev pub ChangesNeed : Type 0
ChangesNeed = (sh : Shape) (R : List Record) (k : RowKind) (w : RowBody) (x : Stand) → AreAllowed sh R → IsOld k → IsKindAllowed sh R (as_record k w) → StandsAt R w.row x → ChangeNeeds R k w x

-- a row stands in one place
abbrev pub RowsStandOnce : Type 0
RowsStandOnce = (sh : Shape) (R : List Record) (n : ℕ) (x y : Stand) → AreAllowed sh R → StandsAt R n x → StandsAt R n y → x ≡ y
