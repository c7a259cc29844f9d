-- The parts of a record that is taken back.
use Rattle.std.specs.Prelude.{◌≡◌, ℕ, List, [], ◌∷◌}
use Rattle.redo_model.specs.Records.{RowPart, BackPart}
use Rattle.redo_model.specs.Model.{Step}
use Rattle.undo_block.specs.declared.part.Part.{Part}
use Rattle.version_laws.specs.Types.{as_kept}
use Rattle.end_laws.specs.Types.{held_of}

-- what gives back the image that a part replaced
abbrev pub back_part_of : RowPart → BackPart
back_part_of p = record { dba = p.dba; slot = p.slot; entry = p.entry; new = p.old }

abbrev pub blocks_of_parts : List BackPart → List ℕ
blocks_of_parts [] = []
blocks_of_parts (p ∷ ps) = p.dba ∷ blocks_of_parts ps

abbrev pub IsFirstOf : Step → List RowPart → Part → Type 0
IsFirstOf st [] x = ⊥
IsFirstOf st (p ∷ ps) x = x ≡ as_kept (held_of st p)

-- the first part of a record, as its undo block keeps it
abbrev pub IsFirst : Step → Part → Type 0
IsFirst st x = IsFirstOf st st.parts x
