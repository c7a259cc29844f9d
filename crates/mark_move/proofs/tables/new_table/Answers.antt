use Rattle.std.proofs.Common.{ℕ, List, Ok, Err, ◌∙◌, sym, ap, subst}
use Rattle.redo_model.specs.Records.{Record}
use Rattle.store_core.specs.Adding.{Adds}
use Rattle.mark_move.specs.Tables.{with_table, with_table_where}
use Rattle.store_core.proofs.Additions.{adds_on, adds_same, adds_none, adds_ok, adds_err, tried_on, tried_none, tried_ok, tried_err}
use Rattle.mark_move.proofs.Tabling.{in_free, free_at, next_table, none_free, tried_same}
use Rattle.mark_move.proofs.tables.new_table.Goals as goal

pub returns-in-Ok-clause-adds : goal.returns-in-Ok-clause-adds
returns-in-Ok-clause-adds g c = λ R t m.
    let M = g.D.Disk.meaning in
    let a = c.args.store.now in
    let b = c.find_free.new.store in
    let n = c.make_table.new.store in
    let free = sym c.in-Ok-Some.field-0-is ∙ c.in-Ok-Some.ensures.says R t in
    let same = c.in-Ok-Some.ensures.looked.loan.shape in
    adds_ok {A = ℕ} M a n c.in-Ok.obj tt R (with_table a.shape R c.args.name.now c.args.pctfree)
    (subst (λ (Q : List Record). Adds M R Q a n (Ok c.in-Ok.obj)) (in_free a.shape b.shape R c.args.name.now c.args.pctfree c.in-Ok-Some.extent same free)
    (adds_on M a b n c.in-Ok-Some.field-0 (Ok c.in-Ok.obj) R _ t c.in-Ok-Some.ensures.looked
    (c.in-Ok.ensures.adds R (c.in-Ok-Some.ensures.looked.stays_true R t) m (free_at a.shape b.shape R c.in-Ok-Some.extent same free))))

pub returns-in-Ok-clause-tried : goal.returns-in-Ok-clause-tried
returns-in-Ok-clause-tried g c = tried_ok {A = ℕ} g.D.Disk.meaning c.args.store.now c.make_table.new.store c.in-Ok.obj tt (tried_on g.D.Disk.meaning c.args.store.now c.find_free.new.store c.make_table.new.store c.in-Ok-Some.field-0 (Ok c.in-Ok.obj) c.in-Ok-Some.ensures.looked c.in-Ok.ensures.tried)

pub returns-in-Ok-clause-answers : goal.returns-in-Ok-clause-answers
returns-in-Ok-clause-answers g c = λ R t. next_table c.args.store.now.shape R c.in-Ok.obj c.in-Ok-Some.extent (sym c.in-Ok-Some.field-0-is ∙ c.in-Ok-Some.ensures.says R t) (c.in-Ok.ensures.number R (c.in-Ok-Some.ensures.looked.stays_true R t))

pub returns-in-Err-make_table-clause-adds : goal.returns-in-Err-make_table-clause-adds
returns-in-Err-make_table-clause-adds g c = λ R t m.
    let M = g.D.Disk.meaning in
    let a = c.args.store.now in
    let b = c.find_free.new.store in
    let n = c.make_table.new.store in
    let free = sym c.in-Ok-Some.field-0-is ∙ c.in-Ok-Some.ensures.says R t in
    let same = c.in-Ok-Some.ensures.looked.loan.shape in
    adds_err {A = ℕ} M a n c.in-Err-make_table.fault R (with_table a.shape R c.args.name.now c.args.pctfree)
    (subst (λ (Q : List Record). Adds {T = ℕ} M R Q a n (Err c.in-Err-make_table.fault)) (in_free a.shape b.shape R c.args.name.now c.args.pctfree c.in-Ok-Some.extent same free)
    (adds_on M a b n c.in-Ok-Some.field-0 (Err c.in-Err-make_table.fault) R _ t c.in-Ok-Some.ensures.looked
    (c.in-Err-make_table.ensures.adds R (c.in-Ok-Some.ensures.looked.stays_true R t) m (free_at a.shape b.shape R c.in-Ok-Some.extent same free))))

pub returns-in-Err-make_table-clause-tried : goal.returns-in-Err-make_table-clause-tried
returns-in-Err-make_table-clause-tried g c = tried_err {A = ℕ} g.D.Disk.meaning c.args.store.now c.make_table.new.store c.in-Err-make_table.fault (tried_on g.D.Disk.meaning c.args.store.now c.find_free.new.store c.make_table.new.store c.in-Ok-Some.field-0 (Err c.in-Err-make_table.fault) c.in-Ok-Some.ensures.looked c.in-Err-make_table.ensures.tried)

pub returns-in-Ok-None-clause-adds : goal.returns-in-Ok-None-clause-adds
returns-in-Ok-None-clause-adds g c = λ R t m.
    let a = c.args.store.now in
    subst (λ (Q : List Record). Adds {T = Unit {0}} g.D.Disk.meaning R Q a c.find_free.new.store (Ok tt)) (ap (with_table_where a.shape R c.args.name.now c.args.pctfree) (sym c.in-Ok-None.field-0-is ∙ c.in-Ok-None.ensures.says R t)) (adds_same g.D.Disk.meaning a c.find_free.new.store c.in-Ok-None.field-0 tt R t c.in-Ok-None.ensures.looked)

pub returns-in-Ok-None-clause-tried : goal.returns-in-Ok-None-clause-tried
returns-in-Ok-None-clause-tried g c = tried_same g.D.Disk.meaning c.args.store.now c.find_free.new.store c.in-Ok-None.field-0 tt c.in-Ok-None.ensures.looked

pub returns-in-Ok-None-clause-answers : goal.returns-in-Ok-None-clause-answers
returns-in-Ok-None-clause-answers g c = λ R t. none_free c.args.store.now.shape R t.list.within (sym c.in-Ok-None.field-0-is ∙ c.in-Ok-None.ensures.says R t)

pub returns-in-Err-clause-adds : goal.returns-in-Err-clause-adds
returns-in-Err-clause-adds g c = λ R t m. adds_none g.D.Disk.meaning c.args.store.now c.find_free.new.store c.in-Err.fault R (with_table c.args.store.now.shape R c.args.name.now c.args.pctfree) t c.in-Err.ensures.looked (λ n. c.in-Err.ensures.sound R t n)

pub returns-in-Err-clause-tried : goal.returns-in-Err-clause-tried
returns-in-Err-clause-tried g c = tried_none g.D.Disk.meaning c.args.store.now c.find_free.new.store c.in-Err.fault c.in-Err.ensures.looked
