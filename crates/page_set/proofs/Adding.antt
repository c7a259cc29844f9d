-- Parts that are added one after the other.
use Rattle.std.proofs.Common.{◌≡◌, ℕ, List, [], ◌∷◌, ◌++◌, sym, ◌∙◌, append_assoc, append-nil, Option, Some, None}
use Rattle.seg_base.specs.declared.slot.UndoAddr.{UndoAddr}
use Rattle.page_bytes.specs.Slots.{UndoFits}
use Rattle.page_set.specs.Txns.{UndoIsBlock}
use Rattle.seg_base.specs.declared.undo.UndoPlace.{UndoPlace}
use Rattle.undo_block.specs.declared.part.Part.{Part}
use Rattle.redo_record.specs.declared.part.RowPart.{RowPart}
use Rattle.page_set.specs.Undo.{kept_parts}

pub added_none : (t n : ℕ) (previous : Option UndoPlace) (old : List Part) → old ≡ old ++ kept_parts t previous n []
added_none t n previous old = sym (append-nil old)

pub added_next : (t n : ℕ) (previous : Option UndoPlace) (p : RowPart) (ps : List RowPart) (old new : List Part)
    → new ≡ (old ++ record { txn = t; previous = previous; dba = p.dba; slot = p.slot; parts = n; old = p.old } ∷ []) ++ kept_parts t previous n ps
    → new ≡ old ++ kept_parts t previous n (p ∷ ps)
added_next t n previous p ps old new h =
    h ∙ append_assoc old (record { txn = t; previous = previous; dba = p.dba; slot = p.slot; parts = n; old = p.old } ∷ []) (kept_parts t previous n ps)

pub is_block : (o : Option UndoAddr) → UndoFits o → UndoIsBlock o
is_block None h = tt
is_block (Some a) h = h.0

pub more_none : (old : List ℕ) → old ≡ old ++ []
more_none old = sym (append-nil old)

pub more_next : (x : ℕ) (xs old new : List ℕ) → new ≡ (old ++ x ∷ []) ++ xs → new ≡ old ++ x ∷ xs
more_next x xs old new h = h ∙ append_assoc old (x ∷ []) xs
