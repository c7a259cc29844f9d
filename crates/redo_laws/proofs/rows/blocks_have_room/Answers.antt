use Rattle.redo_laws.proofs.room.RoomLaw as laws
use Rattle.redo_laws.proofs.rows.blocks_have_room.Goals as goal

pub returns : goal.returns
returns c = laws.blocks_have_room
