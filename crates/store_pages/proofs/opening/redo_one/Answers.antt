use Rattle.std.proofs.Common.{refl}
use Rattle.page_set.specs.Folded.{touched_once}
use Rattle.store_pages.proofs.Refusing.{dirty_redone}
use Rattle.store_pages.proofs.Turning.{turned, why_not_redone}
use Rattle.store_pages.proofs.opening.redo_one.Goals as goal

pub returns-in-Ok-clause-done : goal.returns-in-Ok-clause-done
returns-in-Ok-clause-done g c = λ R m n t.
    turned g.D.Disk.meaning c.args.disk.now R m n c.args.rec.now c.args.lsn c.args.pool.now t c.prepare.new.disk c.prepare.new.self c.install.new.self c.in-Ok.changed c.prepare.ensures.looks c.in-Ok.ensures.applies c.install.ensures.shows c.install.ensures.shape

pub returns-in-Err-clause-why : goal.returns-in-Err-clause-why
returns-in-Err-clause-why g c = λ R m n t. why_not_redone g.D.Disk.meaning c.args.disk.now R m n c.args.rec.now c.args.lsn c.args.pool.now t c.in-Err.fault c.in-Err.ensures.answers

pub returns-in-Ok-clause-up : goal.returns-in-Ok-clause-up
returns-in-Ok-clause-up g c = λ upto up le.
    dirty_redone c.args.rec.now c.args.lsn upto (touched_once c.args.pool.now.shape c.args.rec.now) c.in-Ok.changed c.args.pool.now.held c.prepare.new.self.held c.install.new.self.held le c.prepare.ensures.looks.same (c.in-Ok.ensures.made refl) c.install.ensures.installed up
