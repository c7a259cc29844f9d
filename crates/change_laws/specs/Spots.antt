-- Where the undo of a record goes: into the current undo block where it fits there, else into the first block in ring order
-- after it that holds no part of an active transaction, else nowhere. Oracle Database Concepts, "Undo Segments": undo of
-- active transactions is never overwritten; the ring of blocks is this engine's own.
use Rattle.std.specs.Prelude.{◌≡◌, ℕ, ◌+◌, ◌≤◌, cond, ltb, List, [], ◌∷◌, length, map, Option, Some, None}
use Rattle.seg_words.specs.Types.{Shape, UndoAddr, BLOCK_ROOM}
use Rattle.redo_model.specs.Records.{Record, Reuse, Move, RowPart, RowBody, ReuseRecord, MoveRecord}
use Rattle.redo_model.specs.Model.{current_undo, undo_used, undo_parts, undo_sequence, undo_holder, ring_after, next_undo, parts_size, IsAllowed, IsUndoFull, StatesUndo, IsLawful}
use Rattle.change_laws.specs.Drafts.{RowKind, as_record, Change, change_size, record_of, reuse_of}

abbrev pub holder_pair : ℕ → Option ℕ → List (ℕ × ℕ) → List (ℕ × ℕ)
holder_pair b None ps = ps
holder_pair b (Some t) ps = (b, t) ∷ ps

-- those of these blocks that have a holder, each with the least active transaction that has a part there
abbrev pub holder_pairs : List Record → List ℕ → List (ℕ × ℕ)
holder_pairs R [] = []
holder_pairs R (b ∷ bs) = holder_pair b (undo_holder R b) (holder_pairs R bs)

pub data Spot : Type 0 where
  Here : UndoAddr → Spot
  Next : ReuseRecord → Spot
  Full : List (ℕ × ℕ) → Spot

-- behind the parts that stand in undo block u
abbrev pub undo_end : List Record → ℕ → UndoAddr
undo_end R u = record { block = u; seq = undo_sequence R u; nth = length (undo_parts R u) }

-- at the start of a block that is taken into use
abbrev pub undo_start : ReuseRecord → UndoAddr
undo_start q = record { block = q.block; seq = q.sequence; nth = 0 }

abbrev pub spot_past : List Record → Option ℕ → List (ℕ × ℕ) → Spot
spot_past R None hs = Full hs
spot_past R (Some b) hs = Next (reuse_of R b)

abbrev pub spot_by : Shape → List Record → ℕ → Option ℕ → Spot
spot_by sh R need None = spot_past R (next_undo sh R) []
spot_by sh R need (Some u) = cond (ltb BLOCK_ROOM (undo_used R u + need)) (spot_past R (next_undo sh R) (holder_pairs R (ring_after sh u))) (Here (undo_end R u))

-- where so many bytes of undo go
abbrev pub spot_for : Shape → List Record → ℕ → Spot
spot_for sh R need = spot_by sh R need (current_undo R)

-- the list with the record of a change by t, and a Reuse before it where its undo asks for one; none where undo is full, so
-- that no list is the one with a change that can't be made
abbrev pub list_at : List Record → ℕ → Change → Spot → Option (List Record)
list_at R t c (Here a) = Some (record_of R t a c ∷ R)
list_at R t c (Next q) = Some (record_of (Reuse q ∷ R) t (undo_start q) c ∷ Reuse q ∷ R)
list_at R t c (Full hs) = None

abbrev pub list_with : Shape → List Record → ℕ → Change → Option (List Record)
list_with sh R t c = list_at R t c (spot_for sh R (change_size R c))

-- Undo is full for so many bytes: there is a current block, in which they don't fit, and each other block of the ring has a
-- holder, which the pairs name in ring order. No undo block may be taken into use, and no record is allowed whose parts
-- need as much.
pub record IsFull (sh : Shape) (R : List Record) (need : ℕ) (hs : List (ℕ × ℕ)) : Type 0 where
  pub block : ℕ
  pub current : current_undo R ≡ Some block
  pub over : BLOCK_ROOM + 1 ≤ undo_used R block + need
  pub blocks : map (λ (p : ℕ × ℕ). p.0) hs ≡ ring_after sh block
  pub holders : map (λ (p : ℕ × ℕ). Some p.1) hs ≡ map (undo_holder R) (ring_after sh block)
  pub no_reuse : (q : ReuseRecord) → IsAllowed sh R (Reuse q) → ⊥
  pub no_record : (k : RowKind) (w : RowBody) → need ≤ parts_size w.parts → IsAllowed sh R (as_record k w) → ⊥
  pub no_move : (m : MoveRecord) → need ≤ parts_size m.parts → IsAllowed sh R (Move m) → ⊥

-- an undo block may be taken into use for parts that need so much: they call for it, and fit in it
pub record UndoNext (sh : Shape) (R : List Record) (need : ℕ) (q : ReuseRecord) : Type 0 where
  pub reuse : IsAllowed sh R (Reuse q)
  pub called : (ps : List RowPart) → parts_size ps ≡ need → IsUndoFull R ps
  pub states : (ps : List RowPart) → parts_size ps ≡ need → StatesUndo (Reuse q ∷ R) (undo_start q) ps

-- what follows from where so much undo goes, for row records and Moves alike
abbrev pub StatesAt : Shape → List Record → ℕ → Spot → Type 0
StatesAt sh R need (Here a) = (ps : List RowPart) → parts_size ps ≡ need → StatesUndo R a ps
StatesAt sh R need (Next q) = UndoNext sh R need q
StatesAt sh R need (Full hs) = IsFull sh R need hs

abbrev pub SpotsState : Type 0
SpotsState = (sh : Shape) (R : List Record) (need : ℕ) → IsLawful sh R → need ≤ BLOCK_ROOM → StatesAt sh R need (spot_for sh R need)
