-- What a record does to the page of an undo block, and when it can be done.
use Rattle.std.specs.Prelude.{◌≡◌, ℕ, ◌+◌, ◌≤◌, cond, eqb, List, [], ◌∷◌, ◌++◌, length, Option}
use Rattle.seg_base.specs.declared.undo.UndoPlace.{UndoPlace}
use Rattle.undo_block.specs.declared.part.Part.{Part}
use Rattle.seg_words.specs.Types.{AllByRecursion, BLOCK_ROOM}
use Rattle.undo_block.specs.Parts.{used_by, HasPartForm}
use Rattle.undo_block.specs.UndoPage.{UndoPage}
use Rattle.redo_record.specs.declared.part.RowPart.{RowPart}
use Rattle.redo_model.specs.Effects.{Step, Effect, Adds}
pub use Rattle.page_model.specs.Types.{txn_of}

-- the old images of some parts, as the undo block keeps them: of a record of n parts
abbrev pub kept_parts : ℕ → Option UndoPlace → ℕ → List RowPart → List Part
kept_parts t previous n [] = []
kept_parts t previous n (p ∷ ps) = record { txn = t; previous = previous; dba = p.dba; slot = p.slot; parts = n; old = p.old } ∷ kept_parts t previous n ps

-- the parts that a step keeps in its undo block
abbrev pub parts_of : Step → List Part
parts_of st = kept_parts (txn_of st.by) st.previous (length st.parts) st.parts

abbrev pub undo_changed : Effect → ℕ → List Part → List Part
undo_changed (Adds st) u ps = cond (eqb st.undo.block u) (ps ++ parts_of st) ps
undo_changed _ u ps = ps

abbrev pub undo_after : Effect → ℕ → UndoPage → UndoPage
undo_after e lsn u = record { dba = u.dba; lsn = lsn; sequence = u.sequence; parts = undo_changed e u.dba u.parts }

-- the parts of a step have a spelling, and fit in its undo block
abbrev pub StepFits : Step → UndoPage → Type 0
StepFits st u = (st.undo.block ≡ u.dba) × (used_by u.parts + used_by (parts_of st) ≤ BLOCK_ROOM) × AllByRecursion HasPartForm (parts_of st)

abbrev pub PartsFit : Effect → UndoPage → Type 0
PartsFit (Adds st) u = StepFits st u
PartsFit _ u = ⊥
