use Rattle.std.proofs.Common.{◌≡◌, ap}
use Rattle.disk_model.specs.Types.{Files}
use Rattle.redo_log.proofs.Walking.{read_here, not_begun}
use Rattle.redo_log.proofs.opening.read_from.Goals as goal

pub returns-in-Err-clause-read : goal.returns-in-Err-clause-read
returns-in-Err-clause-read g c told = not_begun (g.D.Disk.meaning.files c.args.disk.now).log_bytes c.args.at c.in-Err.fault c.of_frame.result c.of_frame.ensures.same c.in-Err.ensures.only

pub returns-clause-read : goal.returns-clause-read
returns-clause-read g c told =
    let meaning = g.D.Disk.meaning in
    let file = (meaning.files c.args.disk.now).log_bytes in
    let later = (meaning.files c.from_gate.new.disk).log_bytes in
    let look = c.from_gate.ensures.untouched in
    read_here file later c.args.at c.in-Ok.groups c.read_records.result (ap (λ (f : Files). f.log_bytes) (look.files told)) (c.in-Ok.ensures.begins told) c.in-Ok.ensures.at (λ covers. c.read_records.ensures.read (look.told.1 told) covers)
