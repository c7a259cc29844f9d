-- Where the undo of a change goes, as the code says it.
use Rattle.std.specs.Prelude.{◌≡◌, ℕ, ◌+◌, ◌-◌, ◌≤◌, cond, ltb, List, length, Some, None}
use Rattle.seg_words.specs.Types.{Shape, MOST_UNDO_PARTS, OWN_BLOCKS}
use Rattle.redo_model.specs.Records.{Record}
use Rattle.redo_model.specs.Model.{next_undo, ring_after, undo_holder, undo_parts, undo_sequence, undo_used}
use Rattle.change_laws.specs.Types.{Spot, Here, Next, Full, holder_pairs, reuse_of, spot_past}
use Rattle.row_change.specs.declared.ring.UndoState.{UndoState}
use Rattle.row_change.specs.declared.spot.Behind.{Behind}
use Rattle.row_change.specs.declared.spot.Behind.TheVariants.{Free, Held}
use Rattle.row_change.specs.declared.spot.Spot.{Spot as Told}
use Rattle.row_change.specs.declared.spot.Spot.TheVariants as told

abbrev pub told_spot : Told → Spot
told_spot (told.Here a) = Here a
told_spot (told.Next q) = Next q
told_spot (told.Full hs) = Full hs

-- an undo block has at most so many parts
abbrev pub HasPlace : Told → Type 0
HasPlace (told.Here a) = a.nth ≤ MOST_UNDO_PARTS
HasPlace (told.Next q) = Unit {0}
HasPlace (told.Full hs) = Unit {0}

-- undo block u is used so
abbrev pub state_of : List Record → ℕ → UndoState
state_of R u = record { sequence = undo_sequence R u; count = length (undo_parts R u); used = undo_used R u; holder = undo_holder R u }

abbrev pub UsedAs : List Record → ℕ → UndoState → Type 0
UsedAs R u s = s ≡ state_of R u

-- the block n steps behind the next one after block u of the ring
abbrev pub nth_of_ring : Shape → ℕ → ℕ → ℕ
nth_of_ring sh u n = cond (ltb (u + 1 + n) (OWN_BLOCKS + sh.undo)) (u + 1 + n) (u + 1 + n - sh.undo)

-- where undo goes that doesn't fit in the current block u
abbrev pub spot_behind : Shape → List Record → ℕ → Spot
spot_behind sh R u = spot_past R (next_undo sh R) (holder_pairs R (ring_after sh u))

-- block u is to be taken into use next where it has no holder
abbrev pub IsBehind : List Record → ℕ → Behind → Type 0
IsBehind R u (Free q) = (undo_holder R u ≡ None) × (q ≡ reuse_of R u)
IsBehind R u (Held t) = undo_holder R u ≡ Some t
