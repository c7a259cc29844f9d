use Rattle.redo_laws.proofs.spelled.SoundLaw as laws
use Rattle.redo_laws.proofs.rows.blocks_are_sound.Goals as goal

pub returns : goal.returns
returns c = laws.blocks_are_sound
