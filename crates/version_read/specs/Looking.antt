-- What one image tells by the transaction table, and what one undo address leads to.
use Rattle.std.specs.Prelude.{◌≡◌, ℕ, ◌==◌, nat_le, Bool, true, false, cond, List, slice_get, option_map, Option, Some, None, MatchOption}
use Rattle.seg_words.specs.Types.{Slot, UndoAddr, Writer, By, At}
use Rattle.redo_model.specs.Model.{holds_row}
use Rattle.undo_block.specs.declared.part.Part.{Part}
use Rattle.undo_block.specs.Types.{UndoPage}
use Rattle.txn_block.specs.declared.entry.State.{State}
use Rattle.txn_block.specs.declared.entry.State.TheVariants.{Active, Committed, RolledBack, Forgotten}
use Rattle.txn_block.specs.Types.{TxnTable}
use Rattle.version_laws.specs.Types.{state_of}
use Rattle.version_read.specs.declared.version.Tells.{Tells}
use Rattle.version_read.specs.declared.version.Tells.TheVariants.{Counts, Passes, Unknown}
use Rattle.version_read.specs.declared.version.Version.{Version}
use Rattle.version_read.specs.declared.version.Version.TheVariants as version
use Rattle.version_read.specs.declared.chain.Seen as seens
use Rattle.version_read.specs.declared.chain.Seen.TheVariants as seen
use Rattle.version_read.specs.declared.chain.Next as nexts
use Rattle.version_read.specs.declared.chain.Next.TheVariants as next

abbrev pub counts_at : ℕ → ℕ → Tells
counts_at c s = cond (nat_le c s) Counts Passes

-- a committed transaction counts up to s, a forgotten one from the control number on
abbrev pub by_state : ℕ → ℕ → ℕ → State → Tells
by_state control t s Active = Passes
by_state control t s (Committed c) = counts_at c s
by_state control t s RolledBack = Passes
by_state control t s Forgotten = cond (nat_le control s) Counts (Unknown t)

abbrev pub is_own : Option ℕ → ℕ → Bool
is_own None t = false
is_own (Some u) t = u == t

abbrev pub tells_by : TxnTable → ℕ → Option ℕ → ℕ → Tells
tells_by p s own t = cond (is_own own t) Counts (by_state p.control t s (state_of p t))

-- what a writer tells at s for a transaction, or for none
abbrev pub tells : TxnTable → ℕ → Option ℕ → Writer → Tells
tells p s own (At c) = counts_at c s
tells p s own (By t) = tells_by p s own t

-- what is shown of an image of which so much is told
abbrev pub Looks : Tells → Slot → Version → Type 0
Looks Counts i (version.Row r) = (r.now ≡ i) × (holds_row i.kind ≡ true)
Looks Counts i version.Nothing = holds_row i.kind ≡ false
Looks Passes i (version.Step a) = i.undo ≡ Some a
Looks Passes i version.Nothing = i.undo ≡ None
Looks (Unknown t) i (version.TooOldEntry u) = u ≡ t
Looks _ i _ = ⊥

-- the old image of the part at a place
abbrev pub old_at : List Part → ℕ → Option Slot
old_at ps n = option_map (λ (p : Part). p.old) (slice_get ps n)

-- the image at an undo address: none where the block was used again since
abbrev pub followed : UndoPage → UndoAddr → Option Slot
followed u a = cond (a.seq == u.sequence) (old_at u.parts a.nth) None

-- the same of an image that stands at an undo address
abbrev pub SeenOf : Tells → Slot → UndoAddr → seens.Seen → Type 0
SeenOf Counts i at (seen.Row a) = (a ≡ at) × (holds_row i.kind ≡ true)
SeenOf Counts i at seen.Nothing = holds_row i.kind ≡ false
SeenOf Passes i at seen.Nothing = i.undo ≡ None
SeenOf (Unknown t) i at (seen.TooOldEntry u) = u ≡ t
SeenOf _ i at _ = ⊥

abbrev pub NextOf : Tells → Slot → UndoAddr → nexts.Next → Type 0
NextOf x i at (next.Done f) = SeenOf x i at f
NextOf Passes i at (next.Below a) = i.undo ≡ Some a
NextOf _ i at (next.Below a) = ⊥

-- where the part at an address leads; one more part may be followed or not
abbrev pub PartLeads : TxnTable → UndoPage → UndoAddr → ℕ → Option ℕ → Bool → Option nexts.Next → Type 0
PartLeads p u at s own more o =
    cond (at.seq == u.sequence) (cond more (MatchOption (old_at u.parts at.nth) (o ≡ None) (λ i. MatchOption o ⊥ (NextOf (tells p s own i.writer) i at))) (o ≡ None)) (o ≡ Some (next.Done (seen.TooOld at)))
