-- What a record does to the page of the space bitmap, and when it can be done.
use Rattle.std.specs.Prelude.{ℕ, ◌<◌, true, false, List, [], ◌∷◌}
use Rattle.segment_blocks.specs.Spaces.{Space, with_extent}
use Rattle.redo_record.specs.declared.record.Record.{Record}
use Rattle.redo_record.specs.declared.record.Record.TheVariants.{Extend, Lower}

-- the bits with those of some extents taken away
abbrev pub freed : List ℕ → List ℕ → List ℕ
freed [] bits = bits
freed (x ∷ xs) bits = freed xs (with_extent bits x false)

abbrev pub space_changed : Record → Space → Space
space_changed (Extend e) s = record s { bits = with_extent s.bits e.extent true }
space_changed (Lower l) s = record s { lowerings = l.lowering; bits = freed l.released s.bits }
space_changed _ s = s

-- each is one of the 2,043 extents that the bitmap covers
abbrev pub AreCovered : List ℕ → Type 0
AreCovered [] = Unit {0}
AreCovered (x ∷ xs) = (x < 2043) × AreCovered xs

abbrev pub SpaceFits : Record → Type 0
SpaceFits (Extend e) = e.extent < 2043
SpaceFits (Lower l) = AreCovered l.released
SpaceFits _ = ⊥

abbrev pub space_after : Record → ℕ → Space → Space
space_after r lsn s = record (space_changed r s) { lsn = lsn }
