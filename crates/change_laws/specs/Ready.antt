-- When a change may be made: what its record needs beside its undo.
use Rattle.std.specs.Prelude.{◌≡◌, ◌≢◌, ℕ, ◌≤◌, Bool, true, cond, List, [], ◌∷◌, length, find, is_none, MatchOption, Option, Some, None}
use Rattle.seg_words.specs.Types.{Shape, Rowid, UndoAddr, BLOCK_ROOM}
use Rattle.redo_model.specs.Records.{Record, Reuse, ReuseRecord}
use Rattle.redo_model.specs.Model.{commit_count, is_active, standing, newest_on, view, Takes, fits_in, IsTable, IsRowBlock, pctfree_of, IsRowSize, IsFreeFor, IsPlain, IsMigrated, StatesUndo, IsKindAllowed, number_or_zero}
use Rattle.change_laws.specs.Drafts.{Change, taker_of, entry_by, parts_of, change_size, record_of, Stand, Whole, Apart, holder_of}

-- the transaction is active, or has not begun
abbrev pub IsOwn : List Record → Option ℕ → Type 0
IsOwn R None = Unit {0}
IsOwn R (Some t) = is_active R t ≡ true

-- A change by t may be made: its undo fits an empty undo block, and wherever its undo goes its record is of an allowed kind,
-- now and after a Reuse.
pub record IsReady (sh : Shape) (R : List Record) (t : ℕ) (c : Change) : Type 0 where
  pub small : change_size R c ≤ BLOCK_ROOM
  pub now : (a : UndoAddr) → StatesUndo R a (parts_of R t a 0 c.fills) → IsKindAllowed sh R (record_of R t a c)
  pub after : (q : ReuseRecord) (a : UndoAddr) → StatesUndo (Reuse q ∷ R) a (parts_of (Reuse q ∷ R) t a 0 c.fills) → IsKindAllowed sh (Reuse q ∷ R) (record_of (Reuse q ∷ R) t a c)

-- the block has no list entry for the transaction
abbrev pub lacks_entry : List Record → Option ℕ → ℕ → Bool
lacks_entry R own b = is_none (entry_by R own b)

-- the first of these blocks that has none
abbrev pub first_lacking : List Record → Option ℕ → List ℕ → Option ℕ
first_lacking R own bs = find (λ b. lacks_entry R own b) bs

-- the blocks of a row: of its body first
abbrev pub blocks_at : Stand → List ℕ
blocks_at (Whole p) = p.dba ∷ []
blocks_at (Apart head body) = body.dba ∷ head.dba ∷ []

-- how an update goes: in place where the row fits there, PCTFREE aside; else, for a migrated row, back to its head where it
-- fits there; else to another block
pub data Path : Type 0 where
  InPlace : Path
  ToHead : Path
  ToOther : Path

abbrev pub fits_at : List Record → Option ℕ → Rowid → ℕ → Bool
fits_at R own p len = fits_in R p.dba p.slot len (taker_of own)

abbrev pub path_past : List Record → Option ℕ → Stand → ℕ → Path
path_past R own (Whole p) len = ToOther
path_past R own (Apart head body) len = cond (fits_at R own head len) ToHead ToOther

abbrev pub path_of : List Record → Option ℕ → Stand → ℕ → Path
path_of R own x len = cond (fits_at R own (holder_of x) len) InPlace (path_past R own x len)

-- the blocks that an update must change
abbrev pub updated_blocks : List Record → Option ℕ → Stand → ℕ → List ℕ
updated_blocks R own x len = cond (fits_at R own (holder_of x) len) ((holder_of x).dba ∷ []) (blocks_at x)

-- row n stands there
abbrev pub StandsAt : List Record → ℕ → Stand → Type 0
StandsAt R n (Whole p) = IsPlain R n p.dba p.slot
StandsAt R n (Apart head body) = IsMigrated R n head.dba head.slot body.dba body.slot

-- a row may be inserted into block b
pub record MayInsert (sh : Shape) (R : List Record) (own : Option ℕ) (o b : ℕ) (bytes : List ℕ) : Type 0 where
  pub active : IsOwn R own
  pub table : IsTable R o
  pub here : IsRowBlock sh R o b
  pub takes : Takes R (pctfree_of R o) b (length bytes) (taker_of own)
  pub size : IsRowSize bytes

-- row n may be changed: it is in the view at all commits, stands there, and its newest standing record isn't another active
-- transaction's
pub record MayWrite (R : List Record) (own : Option ℕ) (o n : ℕ) (x : Stand) : Type 0 where
  pub active : IsOwn R own
  pub table : IsTable R o
  pub was : List ℕ
  pub there : view R o (commit_count R) (number_or_zero own) n ≡ Some was
  pub free : MatchOption (newest_on (standing R) n) (Unit {0}) (λ st. IsFreeFor R (number_or_zero own) st.by)
  pub stands : StandsAt R n x

-- in place
pub record MayUpdate (R : List Record) (own : Option ℕ) (o n : ℕ) (x : Stand) (bytes : List ℕ) : Type 0 where
  pub write : MayWrite R own o n x
  pub size : IsRowSize bytes
  pub goes : path_of R own x (length bytes) ≡ InPlace

-- back to its head
pub record MayReturn (R : List Record) (own : Option ℕ) (o n : ℕ) (head body : Rowid) (bytes : List ℕ) : Type 0 where
  pub write : MayWrite R own o n (Apart head body)
  pub size : IsRowSize bytes
  pub goes : path_of R own (Apart head body) (length bytes) ≡ ToHead
  pub entries : first_lacking R own (blocks_at (Apart head body)) ≡ None

abbrev pub IsOtherThan : Stand → ℕ → Type 0
IsOtherThan (Whole p) b = b ≢ p.dba
IsOtherThan (Apart head body) b = (b ≢ head.dba) × (b ≢ body.dba)

-- to block b
pub record MayMigrate (sh : Shape) (R : List Record) (own : Option ℕ) (o n : ℕ) (x : Stand) (b : ℕ) (bytes : List ℕ) : Type 0 where
  pub write : MayWrite R own o n x
  pub size : IsRowSize bytes
  pub goes : path_of R own x (length bytes) ≡ ToOther
  pub entries : first_lacking R own (blocks_at x) ≡ None
  pub here : IsRowBlock sh R o b
  pub takes : Takes R (pctfree_of R o) b (length bytes) (taker_of own)
  pub other : IsOtherThan x b

pub record MayDelete (R : List Record) (own : Option ℕ) (o n : ℕ) (x : Stand) : Type 0 where
  pub write : MayWrite R own o n x
  pub entries : first_lacking R own (blocks_at x) ≡ None

-- What follows for a row that may be changed where no block that an update must change lacks an entry: in place, back to its
-- head, or to any other block of the table that takes the row. So an update is refused for want of a block exactly where it
-- goes to another one.
abbrev pub ReturnsFrom : List Record → Option ℕ → ℕ → ℕ → Stand → List ℕ → Type 0
ReturnsFrom R own o n (Whole p) bytes = ⊥
ReturnsFrom R own o n (Apart head body) bytes = MayReturn R own o n head body bytes

abbrev pub UpdateGoes : Shape → List Record → Option ℕ → ℕ → ℕ → Stand → List ℕ → Path → Type 0
UpdateGoes sh R own o n x bytes InPlace = MayUpdate R own o n x bytes
UpdateGoes sh R own o n x bytes ToHead = ReturnsFrom R own o n x bytes
UpdateGoes sh R own o n x bytes ToOther = (b : ℕ) → IsRowBlock sh R o b → Takes R (pctfree_of R o) b (length bytes) (taker_of own) → IsOtherThan x b → MayMigrate sh R own o n x b bytes

abbrev pub UpdatesGo : Type 0
UpdatesGo =
    (sh : Shape) (R : List Record) (own : Option ℕ) (o n : ℕ) (x : Stand) (bytes : List ℕ) → MayWrite R own o n x → IsRowSize bytes → first_lacking R own (updated_blocks R own x (length bytes)) ≡ None
    → UpdateGoes sh R own o n x bytes (path_of R own x (length bytes))
