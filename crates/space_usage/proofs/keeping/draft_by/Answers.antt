use Rattle.std.proofs.Common.{Bool, Ok, Err}
use Rattle.redo_model.specs.Records.{ClassRecord}
use Rattle.store_core.proofs.Lookups.{looked_on, looked_ok, looked_err}
use Rattle.space_usage.proofs.Stored.{block_later, levels_later}
use Rattle.space_usage.proofs.Drafting.{none_drafted, one_drafted}
use Rattle.space_usage.proofs.keeping.draft_by.Goals as goal

pub returns-in-Ok-clause-looked : goal.returns-in-Ok-clause-looked
returns-in-Ok-clause-looked g c = looked_ok g.D.Disk.meaning c.args.store.now c.draft_class.new.store c.in-Ok.rec _ (looked_on g.D.Disk.meaning c.args.store.now c.is_other.new.store c.draft_class.new.store c.in-Ok-true.field-0 (Ok c.in-Ok.rec) c.in-Ok-true.ensures.looked c.in-Ok.ensures.looked)

pub returns-in-Ok-clause-says : goal.returns-in-Ok-clause-says
returns-in-Ok-clause-says g c = λ R h e.
    let M = g.D.Disk.meaning in
    let a = c.args.store.now in
    let b = c.is_other.new.store in
    let p = c.in-Ok-true.ensures.looked in
    one_drafted a.shape b.shape R c.args.obj c.args.dba c.args.class c.in-Ok-true.field-0 c.in-Ok.rec (c.in-Ok-true.ensures.says R c.args.obj h e) c.in-Ok-true.field-0-test p.loan.shape
    (c.in-Ok.ensures.says R (block_later M a b R c.args.obj c.args.dba (Ok c.in-Ok-true.field-0) p h) (levels_later M a b R c.args.obj c.args.dba c.args.levels.now p.loan e))

pub returns-in-Err-draft_class-clause-looked : goal.returns-in-Err-draft_class-clause-looked
returns-in-Err-draft_class-clause-looked g c = looked_on g.D.Disk.meaning c.args.store.now c.is_other.new.store c.draft_class.new.store c.in-Ok-true.field-0 (Err c.in-Err-draft_class.fault) c.in-Ok-true.ensures.looked (looked_err {A = ClassRecord} g.D.Disk.meaning c.is_other.new.store c.draft_class.new.store c.in-Err-draft_class.fault c.in-Err-draft_class.ensures.looked)

pub returns-in-Err-draft_class-clause-sound : goal.returns-in-Err-draft_class-clause-sound
returns-in-Err-draft_class-clause-sound g c = λ R h e n.
    let M = g.D.Disk.meaning in
    let a = c.args.store.now in
    let b = c.is_other.new.store in
    let p = c.in-Ok-true.ensures.looked in
    c.in-Err-draft_class.ensures.sound R (block_later M a b R c.args.obj c.args.dba (Ok c.in-Ok-true.field-0) p h) (levels_later M a b R c.args.obj c.args.dba c.args.levels.now p.loan e) (p.cause.kept n)

pub returns-in-Ok-false-clause-looked : goal.returns-in-Ok-false-clause-looked
returns-in-Ok-false-clause-looked g c = looked_ok g.D.Disk.meaning c.args.store.now c.is_other.new.store c.in-Ok-false.field-0 _ c.in-Ok-false.ensures.looked

pub returns-in-Ok-false-clause-says : goal.returns-in-Ok-false-clause-says
returns-in-Ok-false-clause-says g c = λ R h e. none_drafted c.args.store.now.shape R c.args.obj c.args.dba c.args.class c.in-Ok-false.field-0 (c.in-Ok-false.ensures.says R c.args.obj h e) c.in-Ok-false.field-0-test

pub returns-in-Err-clause-looked : goal.returns-in-Err-clause-looked
returns-in-Err-clause-looked g c = looked_err {A = Bool} g.D.Disk.meaning c.args.store.now c.is_other.new.store c.in-Err.fault c.in-Err.ensures.looked

pub returns-in-Err-clause-sound : goal.returns-in-Err-clause-sound
returns-in-Err-clause-sound g c = λ R h e n. c.in-Err.ensures.sound R c.args.obj h e n
