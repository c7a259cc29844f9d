use Rattle.version_read.proofs.Answering.{slot_shows}
use Rattle.version_read.proofs.version.look.Goals as goal

pub returns-clause-slot : goal.returns-clause-slot
returns-clause-slot c = slot_shows c.args.table.now c.args.s c.args.own c.args.image.now c.shown.result c.shown.ensures
