-- From the image that stands in a slot down to the first one that counts: what is known of an image and of an address on the
-- way, and what each answer says, in the model's words.
use Rattle.std.specs.Prelude.{Bool, ◌≡◌, ℕ, ◌+◌, ◌*◌, ◌≤◌, true, false, List, [], ◌∷◌, cond, option_map, Option, Some, None}
use Rattle.seg_words.specs.Types.{Shape, Slot, UndoAddr, By, new_slot, is_shape, MOST_UNDO_PARTS}
use Rattle.redo_model.specs.Records.{Record}
use Rattle.redo_model.specs.Model.{holds_row, is_active, HeldPart, undo_held, held_at, is_reused, Made, image_at, row_at, AreAllowed}
use Rattle.redo_laws.specs.Reads.{LeadsTo, IsPresent}
use Rattle.redo_laws.specs.Writers.{WriterTells, TxnTells}
use Rattle.version_laws.specs.Types.{MadeKnown, IsInRing, IsInUse, PartKnown, present_count, Found, Lost, Unknown, end_from, chain_end, IsTooOld, IsTooOldEntry}
use Rattle.version_read.specs.declared.version.Version.{Version}
use Rattle.version_read.specs.declared.version.Version.TheVariants as version
use Rattle.version_read.specs.declared.chain.Seen as seens
use Rattle.version_read.specs.declared.chain.Seen.TheVariants as seen
use Rattle.version_read.specs.declared.chain.Next as nexts
use Rattle.version_read.specs.declared.chain.Next.TheVariants as next

-- no transaction is transaction 0
abbrev pub txn_or_none : Option ℕ → ℕ
txn_or_none None = 0
txn_or_none (Some t) = t

abbrev pub IsOwn : List Record → Option ℕ → Type 0
IsOwn R None = Unit {0}
IsOwn R (Some t) = is_active R t ≡ true

-- a store within its limits with a list of allowed records, read for an active transaction or for none
pub record IsReader (sh : Shape) (R : List Record) (own : Option ℕ) : Type 0 where
  pub shape : is_shape sh ≡ true
  pub allowed : AreAllowed sh R
  pub reader : IsOwn R own

-- ---- on the way

-- of an image and the record that made it: what its writer tells, and what the address that it names leads to
pub record IsMadeBy (sh : Shape) (R : List Record) (b k s t : ℕ) (i : Slot) (m : Made) : Type 0 where
  pub undo : i.undo ≡ Some m.part
  pub writer : WriterTells R s t i m
  pub txn : (u : ℕ) → m.by ≡ By u → TxnTells R s t u
  pub leads : IsPresent R m.part → LeadsTo R b k m
  pub known : MadeKnown R m
  pub part : PartKnown R m
  pub ring : IsInRing sh m.part.block

-- of an image and the makers from its own on; the last image is the new one
abbrev pub AreMadeBy : Shape → List Record → ℕ → ℕ → ℕ → ℕ → Slot → List Made → Type 0
AreMadeBy sh R b k s t i [] = i ≡ new_slot
AreMadeBy sh R b k s t i (m ∷ ms) = IsMadeBy sh R b k s t i m × AreMadeBy sh R b k s t m.old ms

-- An image that was reached in slot k of block b: the walk from it ends where the walk from the top does. With the parts that
-- were followed, those that stand below it are at most so many.
pub record Reaches (sh : Shape) (R : List Record) (b k s t followed most : ℕ) (i : Slot) : Type 0 where
  pub rest : List Made
  pub ends : end_from R s t i rest ≡ chain_end R b k s t
  pub made : AreMadeBy sh R b k s t i rest
  pub few : present_count R rest + followed ≤ most

-- an address to which such an image leads that doesn't count
pub record LeadsDown (sh : Shape) (R : List Record) (b k s t followed most : ℕ) (a : UndoAddr) : Type 0 where
  pub image : Slot
  pub made : Made
  pub rest : List Made
  pub at : made.part ≡ a
  pub by : IsMadeBy sh R b k s t image made
  pub below : AreMadeBy sh R b k s t made.old rest
  pub ends : cond (is_reused R made.part) (Lost made.part) (end_from R s t made.old rest) ≡ chain_end R b k s t
  pub few : present_count R (made ∷ rest) + followed ≤ most

-- the address to which the image that stands in the slot leads
abbrev pub StepsTo : Shape → List Record → ℕ → ℕ → ℕ → Option ℕ → UndoAddr → Type 0
StepsTo sh R b k s own a = LeadsDown sh R b k s (txn_or_none own) 0 (MOST_UNDO_PARTS * sh.undo) a

-- what a walk asks: a reader of a store with so many undo blocks, and the address to which the image in the slot leads
pub record IsWalk (sh : Shape) (R : List Record) (b k s : ℕ) (own : Option ℕ) (ring : ℕ) (from : UndoAddr) : Type 0 where
  pub reader : IsReader sh R own
  pub undo_blocks : sh.undo ≡ ring
  pub steps : StepsTo sh R b k s own from

-- and what one step of it: after n parts, of which there are at most so many, one more is followed or not
pub record IsOnWay (sh : Shape) (R : List Record) (b k s : ℕ) (own : Option ℕ) (n most : ℕ) (a : UndoAddr) (more : Bool) : Type 0 where
  pub reader : IsReader sh R own
  pub leads : LeadsDown sh R b k s (txn_or_none own) n most a
  pub else_all : more ≡ false → most ≤ n

-- ---- answers

-- the old image of the part that stands at an undo address
abbrev pub old_held : List Record → UndoAddr → Option Slot
old_held R a = option_map (λ (h : HeldPart). h.part.old) (held_at (undo_held R a.block) a.nth)

-- this image is the first that counts, and holds a row
pub record SeesRow (R : List Record) (b k s t : ℕ) (i : Slot) : Type 0 where
  pub ends : chain_end R b k s t ≡ Found i
  pub seen : i ≡ image_at R b k s t
  pub holds : holds_row i.kind ≡ true
  pub row : row_at R b k s t ≡ Some (i.row, i.bytes)

-- the first image that counts holds none
pub record SeesNone (R : List Record) (b k s t : ℕ) : Type 0 where
  pub ends : chain_end R b k s t ≡ Found (image_at R b k s t)
  pub holds : holds_row (image_at R b k s t).kind ≡ false
  pub row : row_at R b k s t ≡ None

-- the first part on the way that was reused, which is needed
pub record IsRefused (R : List Record) (b k s t : ℕ) (a : UndoAddr) : Type 0 where
  pub ends : chain_end R b k s t ≡ Lost a
  pub means : IsTooOld R b s t a

-- an image on the way, which is reached, names a forgotten transaction, and the control number is above s
pub record IsRefusedEntry (R : List Record) (b k s t u : ℕ) : Type 0 where
  pub ends : chain_end R b k s t ≡ Unknown u
  pub means : IsTooOldEntry R b s t u

-- an image that stands at an undo address of the present use of its block
pub record StandsAt (sh : Shape) (R : List Record) (a : UndoAddr) (i : Slot) : Type 0 where
  pub in_use : IsInUse sh R a.block
  pub present : IsPresent R a
  pub old : old_held R a ≡ Some i

pub record SeesRowAt (sh : Shape) (R : List Record) (b k s t : ℕ) (a : UndoAddr) : Type 0 where
  pub image : Slot
  pub stands : StandsAt sh R a image
  pub sees : SeesRow R b k s t image

-- what the image that stands in slot k of block b shows at s for a transaction
abbrev pub Shows : Shape → List Record → ℕ → ℕ → ℕ → Option ℕ → Version → Type 0
Shows sh R b k s own (version.Row r) = SeesRow R b k s (txn_or_none own) r.now
Shows sh R b k s own version.Nothing = SeesNone R b k s (txn_or_none own)
Shows sh R b k s own (version.Step a) = StepsTo sh R b k s own a
Shows sh R b k s own (version.TooOldEntry u) = IsRefusedEntry R b k s (txn_or_none own) u

-- what a walk down from it finds
abbrev pub Finds : Shape → List Record → ℕ → ℕ → ℕ → Option ℕ → seens.Seen → Type 0
Finds sh R b k s own (seen.Row a) = SeesRowAt sh R b k s (txn_or_none own) a
Finds sh R b k s own seen.Nothing = SeesNone R b k s (txn_or_none own)
Finds sh R b k s own (seen.TooOld a) = IsRefused R b k s (txn_or_none own) a
Finds sh R b k s own (seen.TooOldEntry u) = IsRefusedEntry R b k s (txn_or_none own) u

-- where the walk goes on from an address, after so many parts
abbrev pub Goes : Shape → List Record → ℕ → ℕ → ℕ → Option ℕ → ℕ → ℕ → nexts.Next → Type 0
Goes sh R b k s own n most (next.Done f) = Finds sh R b k s own f
Goes sh R b k s own n most (next.Below a) = LeadsDown sh R b k s (txn_or_none own) (n + 1) most a

-- where an answer gives a row, this holds of the block in which it stands
abbrev pub IsLent : (ℕ → Type 0) → seens.Seen → Type 0
IsLent lent (seen.Row a) = lent a.block
IsLent lent _ = Unit {0}

-- a walk that ends at a part of a block ends in this block
abbrev pub EndsIn : ℕ → nexts.Next → Type 0
EndsIn u (next.Done f) = IsLent (λ x. u ≡ x) f
EndsIn u (next.Below a) = Unit {0}

-- where a walk stands after a step, this holds of the block that it reads next
abbrev pub IsReady : (ℕ → Type 0) → nexts.Next → Type 0
IsReady lent (next.Done f) = IsLent lent f
IsReady lent (next.Below a) = lent a.block

-- an answer that is no refusal
abbrev pub IsGiven : seens.Seen → Type 0
IsGiven (seen.Row a) = Unit {0}
IsGiven seen.Nothing = Unit {0}
IsGiven (seen.TooOld a) = ⊥
IsGiven (seen.TooOldEntry u) = ⊥

abbrev pub IsShown : Version → Type 0
IsShown (version.TooOldEntry u) = ⊥
IsShown _ = Unit {0}
