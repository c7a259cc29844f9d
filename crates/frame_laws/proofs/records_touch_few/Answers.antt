use Rattle.frame_laws.proofs.FewBlocks as laws
use Rattle.frame_laws.proofs.records_touch_few.Goals as goal

pub returns : goal.returns
returns c = laws.records_touch_few
