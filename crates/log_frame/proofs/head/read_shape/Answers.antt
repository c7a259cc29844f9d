use Rattle.log_frame.proofs.WholeLog.{shape_answer}
use Rattle.log_frame.proofs.head.read_shape.Goals as goal

pub returns-clause-whole : goal.returns-clause-whole
returns-clause-whole g c shape groups told log = shape_answer shape groups (g.D.Disk.meaning.files c.args.disk.now).log_bytes c.head_of.result log (c.head_of.ensures.found told)
