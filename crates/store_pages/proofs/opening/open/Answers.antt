use Rattle.std.proofs.Common.{◌+◌, ◌∙◌, arith, length}
use Rattle.store_pages.proofs.Refusing.{dirty_more, refused_first, refused_later}
use Rattle.store_pages.proofs.Opened.{open_leaves, opened_keeps, opened_pages, sound_opening, why_begun}
use Rattle.store_pages.proofs.opening.open.Goals as goal

pub returns-in-Err-clause-any_moment : goal.returns-in-Err-clause-any_moment
returns-in-Err-clause-any_moment g c = λ older o. c.over_file.ensures.any_moment c.args.records.now older c.args.first o

pub returns-in-Err-clause-why : goal.returns-in-Err-clause-why
returns-in-Err-clause-why g c = λ older o.
    sound_opening g.D.Disk.meaning c.args.disk.now c.args.shape c.args.records.now older c.args.first o c.in-Err.fault (c.in-Err.ensures.sound c.args.records.now older c.args.first o)

pub returns-in-Ok-redo_records-clause-any_moment : goal.returns-in-Ok-redo_records-clause-any_moment
returns-in-Ok-redo_records-clause-any_moment g c = λ older o.
    open_leaves g.D.Disk.meaning c.args.disk.now c.args.shape c.args.records.now older c.args.first o c.over_file.new.disk c.in-Ok.pages c.in-Ok.ensures.shape (c.in-Ok.ensures.done c.args.records.now older c.args.first o) c.redo_records.new.disk c.redo_records.ensures.any_moment

pub returns-in-Ok-redo_records-clause-opened : goal.returns-in-Ok-redo_records-clause-opened
returns-in-Ok-redo_records-clause-opened g c = λ older o.
    opened_pages g.D.Disk.meaning c.args.disk.now c.args.shape c.args.records.now older c.args.first o c.over_file.new.disk c.in-Ok.pages c.in-Ok.ensures.shape (c.in-Ok.ensures.done c.args.records.now older c.args.first o) c.redo_records.new.disk c.redo_records.new.self c.in-Ok-redo_records.ensures.done

pub returns-in-Ok-redo_records-clause-files : goal.returns-in-Ok-redo_records-clause-files
returns-in-Ok-redo_records-clause-files g c = λ older o.
    opened_keeps g.D.Disk.meaning c.args.disk.now c.args.shape c.args.records.now older c.args.first o c.over_file.new.disk c.in-Ok.pages c.in-Ok.ensures.shape (c.in-Ok.ensures.done c.args.records.now older c.args.first o) c.redo_records.new.disk c.redo_records.new.self c.in-Ok-redo_records.ensures.done

pub returns-in-Ok-redo_records-clause-shape : goal.returns-in-Ok-redo_records-clause-shape
returns-in-Ok-redo_records-clause-shape g c = c.redo_records.ensures.shape ∙ c.in-Ok.ensures.shape

pub returns-in-Err-redo_records-clause-any_moment : goal.returns-in-Err-redo_records-clause-any_moment
returns-in-Err-redo_records-clause-any_moment g c = λ older o.
    open_leaves g.D.Disk.meaning c.args.disk.now c.args.shape c.args.records.now older c.args.first o c.over_file.new.disk c.in-Ok.pages c.in-Ok.ensures.shape (c.in-Ok.ensures.done c.args.records.now older c.args.first o) c.redo_records.new.disk c.redo_records.ensures.any_moment

pub returns-in-Err-redo_records-clause-why : goal.returns-in-Err-redo_records-clause-why
returns-in-Err-redo_records-clause-why g c = λ older o.
    why_begun g.D.Disk.meaning c.args.disk.now c.args.shape c.args.records.now older c.args.first o c.over_file.new.disk c.in-Ok.pages c.in-Ok.ensures.shape (c.in-Ok.ensures.done c.args.records.now older c.args.first o) c.in-Err-redo_records.fault c.in-Err-redo_records.ensures.why

pub returns-in-Err-clause-any : goal.returns-in-Err-clause-any
returns-in-Err-clause-any g c = λ has. refused_first g.D.Disk.meaning c.args.disk.now c.args.shape has c.args.records.now c.in-Err.fault (c.in-Err.ensures.any has)

pub returns-in-Err-redo_records-clause-any : goal.returns-in-Err-redo_records-clause-any
returns-in-Err-redo_records-clause-any g c = λ has.
    refused_later g.D.Disk.meaning c.args.disk.now c.args.shape has c.args.records.now c.in-Ok.pages.shape c.in-Err-redo_records.fault c.in-Ok.ensures.shape (c.in-Ok.ensures.area has.settled.told)
    (c.in-Err-redo_records.ensures.names (dirty_more 0 (c.args.first + length c.args.records.now) c.in-Ok.pages.held (omega arith) c.in-Ok.ensures.clean))
