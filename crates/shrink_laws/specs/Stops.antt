-- Where shrink stops, by the records B before its first event and the records R as it stopped. SHRINK SPACE compacts rows
-- towards the front of the segment (Oracle Database Administrator's Guide, "Shrinking Database Segments Online"); in what
-- order rows move, and that a row with an active writer is skipped, is this engine's own.
use Rattle.std.specs.Prelude.{◌≡◌, ℕ, suc, ◌≤◌, ◌<◌, Bool, true, false, cond, ◌||◌, List, [], ◌∷◌, length, Option, Some, None, slice_get}
use Rattle.seg_words.specs.Types.{Shape, Rowid, Slot, Kind, Head, By, is_empty, writer_has_ended}
use Rattle.redo_model.specs.Records.{Record, BackPart}
use Rattle.redo_model.specs.Model.{Effect, effect_of, prefix, is_active, ended_in, is_place, image, is_formatted, data_blocks, at_place, first_taker}
use Rattle.redo_model.specs.Effects.{Adds, TakesBack}
use Rattle.redo_laws.specs.Added.{names_slot}
use Rattle.redo_laws.specs.Since.{any_since}
use Rattle.shrink_laws.specs.declared.skip.Skip.{Skip}

-- slots with a row

abbrev pub linked : List Record → Option Rowid → Slot → Slot
linked R None i = i
linked R (Some p) i = image R p.dba p.slot

abbrev pub holder : List Record → Kind → Slot → Slot
holder R Head i = linked R i.link i
holder R _ i = i

-- the image that holds the row of a slot: at a Head that of the Body to which it leads, else the slot's own
abbrev pub row_image : List Record → ℕ → ℕ → Slot
row_image R b k = holder R (image R b k).kind (image R b k)

-- the slot holds a Row, a Body or a Head
abbrev pub IsFull : List Record → ℕ → ℕ → Type 0
IsFull R b k = is_empty (image R b k).kind ≡ false

-- and the row's last writer has ended
pub record IsMovable (R : List Record) (b k : ℕ) : Type 0 where
  pub full : IsFull R b k
  pub over : writer_has_ended (ended_in R) (row_image R b k).writer ≡ true

-- slots that were passed

abbrev pub is_skipped : List Skip → ℕ → ℕ → Bool
is_skipped [] b k = false
is_skipped (s ∷ ss) b k = is_place s.block s.slot b k || is_skipped ss b k

abbrev pub back_names : List BackPart → ℕ → ℕ → Bool
back_names [] b k = false
back_names (p ∷ ps) b k = is_place p.dba p.slot b k || back_names ps b k

-- a row record, a Back or a Move names the slot
abbrev pub is_named_by : Effect → ℕ → ℕ → Bool
is_named_by (Adds st) b k = names_slot st.parts b k
is_named_by (TakesBack t) b k = back_names t.parts b k
is_named_by _ b k = false

-- one after the first n records does
abbrev pub is_named_since : ℕ → List Record → ℕ → ℕ → Bool
is_named_since n R b k = any_since (λ r. is_named_by (effect_of r) b k) n R

-- the slot was skipped, or named since the first n records
abbrev pub IsPassed : ℕ → List Record → List Skip → ℕ → ℕ → Type 0
IsPassed n R skips b k = (is_skipped skips b k || is_named_since n R b k) ≡ true

-- positions

-- block b stands at this position of the table
abbrev pub IsAt : Shape → List Record → ℕ → ℕ → ℕ → Type 0
IsAt sh R o i b = slice_get (data_blocks sh R o) i ≡ Some b

-- the last of these positions, from i on, whose block is formatted, or the one before
abbrev pub last_position : Shape → List Record → ℕ → ℕ → List ℕ → ℕ
last_position sh B i was [] = was
last_position sh B i was (b ∷ bs) = last_position sh B (suc i) (cond (is_formatted sh B b) i was) bs

-- the last position whose block is formatted, or 0 where there is none
abbrev pub last_formatted : Shape → List Record → ℕ → ℕ
last_formatted sh B o = last_position sh B 0 0 (data_blocks sh B o)

-- where it stops

-- the slot is a Head whose Body stands at a position below this one
pub record LeadsDown (sh : Shape) (R : List Record) (o n d k : ℕ) : Type 0 where
  pub head : (image R d k).kind ≡ Head
  pub block : ℕ
  pub slot : ℕ
  pub link : (image R d k).link ≡ Some (at_place block slot)
  pub lower : ℕ
  pub there : IsAt sh R o lower block
  pub below : lower < n

-- each movable slot at a position above n, up to the last one that was formatted in B, was passed
abbrev pub AllPassed : Shape → List Record → List Record → ℕ → List Skip → ℕ → Type 0
AllPassed sh B R o skips n = (i b k : ℕ) → n < i → i ≤ last_formatted sh B o → IsAt sh R o i b → IsMovable R b k → IsPassed (length B) R skips b k

-- at slot k of block d: its row could move, but no block below takes it, and nothing is left above it
pub record StopsAt (sh : Shape) (B R : List Record) (o : ℕ) (skips : List Skip) (d k : ℕ) : Type 0 where
  pub place : ℕ
  pub here : IsAt sh R o place d
  pub not_first : 1 ≤ place
  pub movable : IsMovable R d k
  pub not_down : LeadsDown sh R o place d k → ⊥
  pub none_takes : first_taker sh R o place (length (row_image R d k).bytes) ≡ None
  pub higher : AllPassed sh B R o skips place
  pub greater : (j : ℕ) → k < j → IsMovable R d j → IsPassed (length B) R skips d j

-- at the first position: nothing is left above it
abbrev pub StopsAtBottom : Shape → List Record → List Record → ℕ → List Skip → Type 0
StopsAtBottom sh B R o skips = AllPassed sh B R o skips 0

-- a slot was skipped where its row's last writer was that active transaction
pub record SkipStands (B R : List Record) (s : Skip) : Type 0 where
  pub from : length B ≤ s.records
  pub to : s.records ≤ length R
  pub full : IsFull (prefix R s.records) s.block s.slot
  pub writer : (row_image (prefix R s.records) s.block s.slot).writer ≡ By s.txn
  pub active : is_active (prefix R s.records) s.txn ≡ true

-- each, and no slot twice
abbrev pub SkipsStand : List Record → List Record → List Skip → Type 0
SkipsStand B R [] = Unit {0}
SkipsStand B R (s ∷ ss) = SkipStands B R s × (is_skipped ss s.block s.slot ≡ false) × SkipsStand B R ss
