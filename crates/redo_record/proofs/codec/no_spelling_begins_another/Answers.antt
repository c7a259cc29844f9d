use Rattle.redo_record.proofs.Records.{one_spelling}
use Rattle.redo_record.proofs.codec.no_spelling_begins_another.Goals as goal

pub returns : goal.returns
returns c = one_spelling
