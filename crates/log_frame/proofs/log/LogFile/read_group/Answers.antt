use Rattle.log_frame.proofs.WholeLog.{group_answer}
use Rattle.log_frame.proofs.log.LogFile.read_group.Goals as goal

pub returns-clause-whole : goal.returns-clause-whole
returns-clause-whole g c shape before after told log place = group_answer shape before after (g.D.Disk.meaning.files c.args.disk.now).log_bytes c.args.at c.read_group_at.result log place (c.read_group_at.ensures.found told)
