-- Undo blocks: what they hold, whose it is, which one is used next, and which undo a scan needs. Oracle Database Concepts,
-- "Undo Segments": undo is kept in a ring, and that of ended transactions is overwritten. The ring of blocks, the address
-- of a part and when a block may be reused are this engine's own.
use Rattle.std.specs.Prelude.{◌≡◌, ℕ, zero, suc, ◌+◌, ◌-◌, ◌<◌, min, Bool, true, false, cond, not, ◌&&◌, ◌||◌, eqb, ltb, List, [], ◌∷◌, ◌++◌, length, map, Option, Some, None, filter, find, Contains, MatchOption, sum_by}
use Rattle.seg_words.specs.Types.{Shape, Writer, By, At, UndoAddr, Slot, UndoPlace, BLOCK_ROOM, UNDO_PART_SIZE, OWN_BLOCKS}
use Rattle.redo_model.specs.Records.{Record, Reuse, RowPart}
use Rattle.redo_model.specs.Effects.{Step, Effect, Adds, effect_of}
use Rattle.redo_model.specs.Transactions.{is_active}
use Rattle.redo_model.specs.Segments.{blocks_from}
use Rattle.redo_model.specs.Slots.{image, slot_count}
use Rattle.redo_model.specs.Versions.{Made, makers, counts}

-- a part of undo in its block: who wrote it, and its size
pub record Undone : Type 0 where
  pub by : Writer
  pub size : ℕ

-- 64 bytes, and those of the old row
abbrev pub part_size : RowPart → ℕ
part_size p = UNDO_PART_SIZE + length p.old.bytes

abbrev pub parts_size : List RowPart → ℕ
parts_size [] = 0
parts_size (p ∷ ps) = part_size p + parts_size ps

abbrev pub undone : Writer → List RowPart → List Undone
undone w [] = []
undone w (p ∷ ps) = record { by = w; size = part_size p } ∷ undone w ps

abbrev pub undone_after : Effect → ℕ → List Undone → List Undone
undone_after (Adds st) u us = cond (eqb st.undo.block u) (us ++ undone st.by st.parts) us
undone_after _ u us = us

abbrev pub emptied_by : Record → ℕ → List Undone → List Undone
emptied_by (Reuse q) u us = cond (eqb q.block u) [] us
emptied_by _ u us = us

-- the parts in undo block u since its last Reuse, in order of place
abbrev pub undo_parts : List Record → ℕ → List Undone
undo_parts [] u = []
undo_parts (r ∷ R) u = undone_after (effect_of r) u (emptied_by r u (undo_parts R u))

-- the bytes that they use
abbrev pub undo_used : List Record → ℕ → ℕ
undo_used R u = sum_by (λ (p : Undone). p.size) (undo_parts R u)

-- a part as its block holds it: who wrote it, where the undo of the transaction's record before begins, how many parts the
-- record has, and the part: of which slot it is, and the slot's old image
pub record HeldPart : Type 0 where
  pub by : Writer
  pub previous : Option UndoPlace
  pub count : ℕ
  pub part : RowPart

abbrev pub held_by : Step → List RowPart → List HeldPart
held_by st [] = []
held_by st (p ∷ ps) = record { by = st.by; previous = st.previous; count = length st.parts; part = p } ∷ held_by st ps

abbrev pub held_after : Effect → ℕ → List HeldPart → List HeldPart
held_after (Adds st) u hs = cond (eqb st.undo.block u) (hs ++ held_by st st.parts) hs
held_after _ u hs = hs

abbrev pub kept_by : Record → ℕ → List HeldPart → List HeldPart
kept_by (Reuse q) u hs = cond (eqb q.block u) [] hs
kept_by _ u hs = hs

-- what undo block u holds: the parts since its last Reuse, in order of place
abbrev pub undo_held : List Record → ℕ → List HeldPart
undo_held [] u = []
undo_held (r ∷ R) u = held_after (effect_of r) u (kept_by r u (undo_held R u))

-- the part at place n
abbrev pub held_at : List HeldPart → ℕ → Option HeldPart
held_at [] n = None
held_at (h ∷ hs) zero = Some h
held_at (h ∷ hs) (suc n) = held_at hs n

abbrev pub current_after : Record → Option ℕ → Option ℕ
current_after (Reuse q) was = Some q.block
current_after _ was = was

-- the block of the last Reuse
abbrev pub current_undo : List Record → Option ℕ
current_undo [] = None
current_undo (r ∷ R) = current_after r (current_undo R)

abbrev pub uses_after : Record → ℕ → ℕ → ℕ
uses_after (Reuse q) u n = cond (eqb q.block u) (suc n) n
uses_after _ u n = n

-- how often block u was taken into use, the sequence of its present use
abbrev pub undo_sequence : List Record → ℕ → ℕ
undo_sequence [] u = 0
undo_sequence (r ∷ R) u = uses_after r u (undo_sequence R u)

abbrev pub reused_after : Record → UndoAddr → Bool → Bool
reused_after (Reuse q) a was = (eqb q.block a.block && ltb a.seq q.sequence) || was
reused_after _ a was = was

-- a Reuse of its block with a greater sequence stands in the list
abbrev pub is_reused : List Record → UndoAddr → Bool
is_reused [] a = false
is_reused (r ∷ R) a = reused_after r a (is_reused R a)

abbrev pub IsReused : List Record → UndoAddr → Type 0
IsReused R a = is_reused R a ≡ true

abbrev pub lesser : ℕ → Option ℕ → Option ℕ
lesser t None = Some t
lesser t (Some u) = Some (min t u)

-- the least active transaction among the writers
abbrev pub least_active : List Record → List Undone → Option ℕ
least_active R [] = None
least_active R (p ∷ ps) = elim p.by [ By t ↦ cond (is_active R t) (lesser t (least_active R ps)) (least_active R ps) | At c ↦ least_active R ps ]

-- the least active transaction with a part in block u
abbrev pub undo_holder : List Record → ℕ → Option ℕ
undo_holder R u = least_active R (undo_parts R u)

abbrev pub has_holder : List Record → ℕ → Bool
has_holder R u = elim (undo_holder R u) [ None ↦ false | Some t ↦ true ]

-- the undo blocks in ring order after block u
abbrev pub ring_after : Shape → ℕ → List ℕ
ring_after sh u = blocks_from (suc u) (OWN_BLOCKS - 1 + sh.undo - u) ++ blocks_from OWN_BLOCKS (u - OWN_BLOCKS)

-- the block that is taken into use next: the first one after the current one that has no holder
abbrev pub next_undo : Shape → List Record → Option ℕ
next_undo sh R = elim (current_undo R) [ None ↦ Some OWN_BLOCKS | Some u ↦ find (λ b. not (has_holder R b)) (ring_after sh u) ]

-- a block may be taken into use
pub record MayReuse (sh : Shape) (R : List Record) (u : ℕ) : Type 0 where
  pub next : next_undo sh R ≡ Some u

abbrev pub fits_undo : List Record → List RowPart → ℕ → Bool
fits_undo R ps u = not (ltb BLOCK_ROOM (undo_used R u + parts_size ps))

-- the parts don't fit in the current block, or there is none
abbrev pub IsUndoFull : List Record → List RowPart → Type 0
IsUndoFull R ps = MatchOption (current_undo R) (Unit {0}) (λ u. fits_undo R ps u ≡ false)

-- At s for t a part is needed on a slot where the record that it belongs to made an image that doesn't count: the
-- addresses of the parts, newest first.
abbrev pub needed_on : (Writer → UndoAddr → Bool) → List Made → List UndoAddr
needed_on c ms = map (λ (m : Made). m.part) (filter (λ (m : Made). not (c m.by m.undo)) ms)

-- the images that are reached: those with no newer one that counts
abbrev pub reached_on : (Writer → UndoAddr → Bool) → Slot → List Made → List Slot
reached_on c i [] = i ∷ []
reached_on c i (m ∷ ms) = i ∷ cond (c m.by m.undo) [] (reached_on c m.old ms)

-- a part is needed in block b at s for t
pub record IsNeeded (R : List Record) (b s t : ℕ) (a : UndoAddr) : Type 0 where
  pub slot : ℕ
  pub there : slot < slot_count R b
  pub needed : Contains (needed_on (λ w u. counts R s t w) (makers R b slot)) a

-- an image is reached in block b at s for t
pub record IsReached (R : List Record) (b s t : ℕ) (i : Slot) : Type 0 where
  pub slot : ℕ
  pub there : slot < slot_count R b
  pub reached : Contains (reached_on (λ w u. counts R s t w) (image R b slot) (makers R b slot)) i
