use Rattle.std.proofs.Common.{◌≡◌, true, Ok, Err}
use Rattle.page_set.specs.Among.{is_among}
use Rattle.page_set.specs.Folded.{touched}
use Rattle.store_pages.proofs.Refusing.{names_then, sound_names}
use Rattle.store_pages.proofs.Turning.{older, redone_turns, sound_why, spared, spared_leaves, why_then, writable}
use Rattle.store_pages.proofs.opening.redo.Goals as goal

pub returns-in-Err-clause-any_moment : goal.returns-in-Err-clause-any_moment
returns-in-Err-clause-any_moment g c = λ R m n t e.
    c.spare_in.ensures.any_moment R m t.redone.image t.redone.over (writable g.D.Disk.meaning c.args.disk.now R m n c.args.rec.now c.args.lsn c.args.pool.now t c.args.last)

pub returns-in-Err-clause-why : goal.returns-in-Err-clause-why
returns-in-Err-clause-why g c = λ R m n t e.
    sound_why g.D.Disk.meaning c.args.disk.now R m n c.args.rec.now c.args.lsn c.args.pool.now t c.in-Err.fault
    (c.in-Err.ensures.sound t.redone.over.file t.redone.image t.redone.over.shown (older g.D.Disk.meaning c.args.disk.now R m n c.args.rec.now c.args.lsn c.args.pool.now t c.args.last e))

pub returns-in-Ok-redo_one-clause-any_moment : goal.returns-in-Ok-redo_one-clause-any_moment
returns-in-Ok-redo_one-clause-any_moment g c = λ R m n t e.
    let w = writable g.D.Disk.meaning c.args.disk.now R m n c.args.rec.now c.args.lsn c.args.pool.now t c.args.last in
    spared_leaves g.D.Disk.meaning c.args.disk.now R m n c.args.rec.now c.args.lsn c.args.pool.now t c.spare_in.new.disk c.spare_in.new.pool (c.in-Ok.ensures.done R m t.redone.image t.redone.over w) c.spare_in.ensures.shape
    (c.spare_in.ensures.any_moment R m t.redone.image t.redone.over w) (c.in-Ok.ensures.files R m t.redone.image t.redone.over w) c.redo_one.new.disk c.redo_one.ensures.untouched

pub returns-in-Err-redo_one-clause-any_moment : goal.returns-in-Err-redo_one-clause-any_moment
returns-in-Err-redo_one-clause-any_moment g c = λ R m n t e.
    let w = writable g.D.Disk.meaning c.args.disk.now R m n c.args.rec.now c.args.lsn c.args.pool.now t c.args.last in
    spared_leaves g.D.Disk.meaning c.args.disk.now R m n c.args.rec.now c.args.lsn c.args.pool.now t c.spare_in.new.disk c.spare_in.new.pool (c.in-Ok.ensures.done R m t.redone.image t.redone.over w) c.spare_in.ensures.shape
    (c.spare_in.ensures.any_moment R m t.redone.image t.redone.over w) (c.in-Ok.ensures.files R m t.redone.image t.redone.over w) c.redo_one.new.disk c.redo_one.ensures.untouched

pub returns-in-Ok-redo_one-clause-done : goal.returns-in-Ok-redo_one-clause-done
returns-in-Ok-redo_one-clause-done g c = λ R m n t e.
    let w = writable g.D.Disk.meaning c.args.disk.now R m n c.args.rec.now c.args.lsn c.args.pool.now t c.args.last in
    let over = c.in-Ok.ensures.done R m t.redone.image t.redone.over w in
    redone_turns g.D.Disk.meaning c.args.disk.now R m n c.args.rec.now c.args.lsn c.args.pool.now t c.spare_in.new.disk c.spare_in.new.pool over c.spare_in.ensures.shape
    (c.spare_in.ensures.any_moment R m t.redone.image t.redone.over w) (c.in-Ok.ensures.files R m t.redone.image t.redone.over w) c.redo_one.new.disk c.redo_one.ensures.untouched c.redo_one.new.pool c.redo_one.ensures.shape (Ok tt)
    (c.in-Ok-redo_one.ensures.done R m n (spared g.D.Disk.meaning c.args.disk.now R m n c.args.rec.now c.args.lsn c.args.pool.now t c.spare_in.new.disk c.spare_in.new.pool over c.spare_in.ensures.shape))

pub returns-in-Err-redo_one-clause-why : goal.returns-in-Err-redo_one-clause-why
returns-in-Err-redo_one-clause-why g c = λ R m n t e.
    let w = writable g.D.Disk.meaning c.args.disk.now R m n c.args.rec.now c.args.lsn c.args.pool.now t c.args.last in
    let over = c.in-Ok.ensures.done R m t.redone.image t.redone.over w in
    why_then g.D.Disk.meaning c.args.disk.now R m n c.args.rec.now c.args.lsn c.args.pool.now t c.spare_in.new.disk c.spare_in.new.pool over c.spare_in.ensures.shape (Err c.in-Err-redo_one.fault)
    (c.in-Err-redo_one.ensures.why R m n (spared g.D.Disk.meaning c.args.disk.now R m n c.args.rec.now c.args.lsn c.args.pool.now t c.spare_in.new.disk c.spare_in.new.pool over c.spare_in.ensures.shape))

pub returns-in-Err-clause-names : goal.returns-in-Err-clause-names
returns-in-Err-clause-names g c = λ up. sound_names (λ b. is_among (touched c.args.pool.now.shape c.args.rec.now) b ≡ true) c.in-Err.fault (c.in-Err.ensures.whole up)

pub returns-in-Err-redo_one-clause-names : goal.returns-in-Err-redo_one-clause-names
returns-in-Err-redo_one-clause-names g c = λ up. names_then c.args.pool.now.shape c.spare_in.new.pool.shape c.args.rec.now c.in-Err-redo_one.fault c.spare_in.ensures.shape c.in-Err-redo_one.ensures.names

pub returns-in-Ok-redo_one-clause-up : goal.returns-in-Ok-redo_one-clause-up
returns-in-Ok-redo_one-clause-up g c = λ up le. c.in-Ok-redo_one.ensures.up c.args.last (c.in-Ok.ensures.up up) le
