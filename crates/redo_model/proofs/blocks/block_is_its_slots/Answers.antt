use Rattle.redo_model.proofs.Bridge as laws
use Rattle.redo_model.proofs.blocks.block_is_its_slots.Goals as goal

pub returns : goal.returns
returns c = laws.blocks_are_bridged
