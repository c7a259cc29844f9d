-- Parts that fit in a block, and what adding some answers.
use Rattle.std.specs.Prelude.{◌≡◌, ℕ, ◌+◌, ◌-◌, ◌<◌, ◌≤◌, min, List, ◌++◌, length, Result, Ok, Err}
use Rattle.seg_words.specs.Types.{AllByRecursion, BLOCK_ROOM}
use Rattle.undo_block.specs.declared.part.Part.{Part}
use Rattle.undo_block.specs.declared.fault.UndoFault.{UndoFault}
use Rattle.undo_block.specs.declared.fault.UndoFault.TheVariants.{NoRoom, BadPage, NoMemory}
use Rattle.undo_block.specs.Parts.{used_by, HasPartForm}

-- n bytes are used, and no more than a block has, by parts of the form that has a spelling
pub record IsHeld (ps : List Part) (n : ℕ) : Type 0 where
  pub used : n ≡ used_by ps
  pub most : n ≤ BLOCK_ROOM
  pub forms : AllByRecursion HasPartForm ps

-- Parts are added where they fit, all of them or none. What they need is reported up to the greatest number of 16 bits.
abbrev pub Appends : List Part → List Part → List Part → Result Unit UndoFault → Type 0
Appends old new ps (Ok u) = (new ≡ old ++ ps) × (used_by old + used_by ps ≤ BLOCK_ROOM)
Appends old new ps (Err (NoRoom need free)) = (need ≡ min (used_by ps) 65535) × (free ≡ BLOCK_ROOM - used_by old) × (free < used_by ps) × (new ≡ old)
Appends old new ps (Err NoMemory) = new ≡ old
Appends old new ps (Err (BadPage at)) = ⊥

-- the same, with the place of the first one
abbrev pub AppendsAt : List Part → List Part → List Part → Result ℕ UndoFault → Type 0
AppendsAt old new ps (Ok first) = (first ≡ length old) × (new ≡ old ++ ps) × (used_by old + used_by ps ≤ BLOCK_ROOM)
AppendsAt old new ps (Err (NoRoom need free)) = (need ≡ min (used_by ps) 65535) × (free ≡ BLOCK_ROOM - used_by old) × (free < used_by ps) × (new ≡ old)
AppendsAt old new ps (Err NoMemory) = new ≡ old
AppendsAt old new ps (Err (BadPage at)) = ⊥
