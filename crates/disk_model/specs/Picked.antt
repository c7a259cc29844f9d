-- One image of a crash: what each range that was not synced holds.
use Rattle.std.specs.Prelude.{ℕ, List, [], ◌∷◌, length, replicate, filter}
use Rattle.disk_model.specs.Files.{Files, content, put, written}
use Rattle.disk_model.specs.History.{seen_step, is_by}
use Rattle.disk_model.specs.Memory.{first_files}
use Rattle.disk_model.specs.declared.memory.Memory.{Memory}
use Rattle.disk_model.specs.declared.memory.Tear.{Tear}
use Rattle.disk_model.specs.declared.memory.Tear.TheVariants.{Old, New, Zero}
use Rattle.disk_model.specs.declared.memory.Change.{Change}
use Rattle.disk_model.specs.declared.memory.Change.TheVariants.{Write, Broken, Sync}
use Rattle.disk_model.specs.declared.memory.DatedChange.{DatedChange}

-- the bytes of a write that are there after a crash
abbrev pub torn_bytes : Tear → List ℕ → ℕ → List ℕ → List ℕ
torn_bytes Old was offset bytes = was
torn_bytes New was offset bytes = written was offset bytes
torn_bytes Zero was offset bytes = written was offset (replicate (length bytes) 0)

abbrev pub pick_step : Tear → Change → Files → Files → Files
pick_step tear (Write file offset bytes) seen image = put file (torn_bytes tear (content file image) offset bytes) image
pick_step tear (Broken file offset n) seen image = image
pick_step tear (Sync file) seen image = put file (content file seen) image

abbrev pub picked : Tear → Files → Files → List DatedChange → Files
picked tear seen image [] = image
picked tear seen image (dated ∷ changes) = picked tear (seen_step dated.change seen) (pick_step tear dated.change seen image) changes

-- the image that is picked of a crash after so many calls
abbrev pub picked_files : Tear → ℕ → Memory → Files
picked_files tear moment m = picked tear (first_files m) (first_files m) (filter (is_by moment) m.changes.items)
