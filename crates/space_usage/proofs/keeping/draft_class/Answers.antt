use Rattle.std.proofs.Common.{ℕ, Ok, Err}
use Rattle.redo_model.specs.Records.{ClassRecord}
use Rattle.redo_model.specs.Model.{best_in_l1, best_in_l2, extents_of, group_start, index_of}
use Rattle.usage_laws.specs.Types.{reclassed}
use Rattle.store_core.proofs.Lookups.{looked_on, looked_ok, looked_err}
use Rattle.space_usage.proofs.Drafting.{first_asked, second_asked, first_there, second_there, drafted_now}
use Rattle.space_usage.proofs.Stored.{block_later, levels_later}
use Rattle.space_usage.proofs.keeping.draft_class.Goals as goal

pub returns-in-Err-clause-looked : goal.returns-in-Err-clause-looked
returns-in-Err-clause-looked g c = looked_err {A = ℕ} {T = ClassRecord} g.D.Disk.meaning c.args.store.now c.ask.new.store c.in-Err.fault c.in-Err.ensures.looked

pub returns-in-Err-clause-sound : goal.returns-in-Err-clause-sound
returns-in-Err-clause-sound g c = λ R h e n.
    let s = c.args.store.now in
    c.in-Err.ensures.sound R (best_in_l1 s.shape (reclassed s.shape R c.args.obj c.args.dba c.args.class) c.args.obj (index_of s.shape (extents_of R c.args.obj) c.args.dba)) h.holds n
    (first_there g.D.Disk.meaning R c.args.obj c.args.dba s c.args.class c.args.levels.now h e) (first_asked g.D.Disk.meaning R c.args.obj c.args.dba s c.args.class c.args.levels.now c.nth_in.result c.class_code.result h e c.nth_in.ensures c.class_code.ensures.code)

pub returns-clause-looked : goal.returns-clause-looked
returns-clause-looked g c = looked_ok g.D.Disk.meaning c.args.store.now c.ask-2.new.store c.in-Ok-ask.best _ (looked_on g.D.Disk.meaning c.args.store.now c.ask.new.store c.ask-2.new.store c.in-Ok.best (Ok c.in-Ok-ask.best) c.in-Ok.ensures.looked c.in-Ok-ask.ensures.looked)

pub returns-clause-says : goal.returns-clause-says
returns-clause-says g c = λ R h e.
    drafted_now g.D.Disk.meaning R c.args.obj c.args.dba c.args.store.now c.ask.new.store c.args.class c.args.levels.now c.nth_in.result c.class_code.result c.in-Ok.best c.in-Ok-ask.best h e c.nth_in.ensures c.class_code.ensures.code c.in-Ok.ensures.looked.loan.shape
    (c.in-Ok.ensures.says R h.holds) (c.in-Ok-ask.ensures.says R (c.in-Ok.ensures.looked.stays_true R h.holds))

pub returns-in-Err-ask-clause-looked : goal.returns-in-Err-ask-clause-looked
returns-in-Err-ask-clause-looked g c = looked_on g.D.Disk.meaning c.args.store.now c.ask.new.store c.ask-2.new.store c.in-Ok.best (Err c.in-Err-ask.fault) c.in-Ok.ensures.looked (looked_err {A = ℕ} {T = ClassRecord} g.D.Disk.meaning c.ask.new.store c.ask-2.new.store c.in-Err-ask.fault c.in-Err-ask.ensures.looked)

pub returns-in-Err-ask-clause-sound : goal.returns-in-Err-ask-clause-sound
returns-in-Err-ask-clause-sound g c = λ R h e n.
    let M = g.D.Disk.meaning in
    let a = c.args.store.now in
    let b = c.ask.new.store in
    let p = c.in-Ok.ensures.looked in
    let later = block_later M a b R c.args.obj c.args.dba (Ok c.in-Ok.best) p h in
    let same = levels_later M a b R c.args.obj c.args.dba c.args.levels.now p.loan e in
    c.in-Err-ask.ensures.sound R (best_in_l2 b.shape (reclassed b.shape R c.args.obj c.args.dba c.args.class) c.args.obj (group_start (index_of b.shape (extents_of R c.args.obj) c.args.dba))) later.holds (p.cause.kept n)
    (second_there M R c.args.obj c.args.dba b c.args.class c.args.levels.now later same)
    (second_asked M R c.args.obj c.args.dba a b c.args.class c.args.levels.now c.nth_in.result c.class_code.result c.in-Ok.best h later e same c.nth_in.ensures c.class_code.ensures.code p.loan.shape (c.in-Ok.ensures.says R h.holds))
