use Rattle.redo_record.proofs.Decoded.{splits_once}
use Rattle.redo_record.proofs.codec.one_split.Goals as goal

pub returns : goal.returns
returns c = splits_once
