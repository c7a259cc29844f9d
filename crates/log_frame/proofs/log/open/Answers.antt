use Rattle.std.proofs.Common.{◌++◌}
use Rattle.log_frame.proofs.WholeLog.{open_answer, ready_after}
use Rattle.log_frame.proofs.log.open.Goals as goal

pub returns-clause-whole : goal.returns-clause-whole
returns-clause-whole g c shape before after settled log place =
    let meaning = g.D.Disk.meaning in
    let answer = open_answer shape before after (meaning.files c.args.disk.now).log_bytes c.args.from c.walk.result log place (c.walk.ensures.found settled.told) in
    ready_after meaning c.args.disk.now c.walk.new.disk shape (before ++ after) c.walk.result settled c.walk.ensures.untouched log answer
