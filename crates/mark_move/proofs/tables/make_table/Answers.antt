use Rattle.std.proofs.Common.{List, ◌∷◌, Ok, Err, subst}
use Rattle.redo_model.specs.Records.{Record}
use Rattle.store_core.specs.Adding.{Adds}
use Rattle.mark_move.specs.Tables.{with_table_in}
use Rattle.store_core.proofs.Additions.{adds_on, adds_none, adds_ok, adds_err, tried_on, tried_none, tried_ok, tried_err}
use Rattle.mark_move.proofs.Tabling.{table_lawful, table_calls, table_after}
use Rattle.mark_move.proofs.tables.make_table.Goals as goal

pub returns-in-Ok-add_two-clause-adds : goal.returns-in-Ok-add_two-clause-adds
returns-in-Ok-add_two-clause-adds g c = λ R t m free.
    let M = g.D.Disk.meaning in
    let a = c.args.store.now in
    let b = c.draft_table.new.store in
    let n = c.add_two.new.store in
    let d = c.in-Ok.drafted in
    let says = c.in-Ok.ensures.says R t in
    adds_ok {A = Unit {0}} M a n c.in-Ok-add_two.field-0 d.obj R (with_table_in a.shape R c.args.name.now c.args.pctfree c.args.extent)
    (subst (λ (Q : List Record). Adds M R Q a n (Ok c.in-Ok-add_two.field-0)) (table_after a.shape R c.args.name.now c.args.pctfree c.args.extent d says)
    (adds_on M a b n d (Ok c.in-Ok-add_two.field-0) R (d.first ∷ d.table ∷ R) t c.in-Ok.ensures.looked
    (c.in-Ok-add_two.ensures.adds R (c.in-Ok.ensures.looked.stays_true R t) (table_lawful M a b R c.args.name.now c.args.pctfree c.args.extent d c.in-Ok.ensures.looked.loan.shape t m free says) (table_calls a.shape R c.args.name.now c.args.pctfree c.args.extent d says))))

pub returns-in-Ok-add_two-clause-tried : goal.returns-in-Ok-add_two-clause-tried
returns-in-Ok-add_two-clause-tried g c = tried_ok {A = Unit {0}} g.D.Disk.meaning c.args.store.now c.add_two.new.store c.in-Ok-add_two.field-0 c.in-Ok.drafted.obj (tried_on g.D.Disk.meaning c.args.store.now c.draft_table.new.store c.add_two.new.store c.in-Ok.drafted (Ok c.in-Ok-add_two.field-0) c.in-Ok.ensures.looked c.in-Ok-add_two.ensures.tried)

pub returns-in-Ok-add_two-clause-number : goal.returns-in-Ok-add_two-clause-number
returns-in-Ok-add_two-clause-number g c = λ R t. (c.in-Ok.ensures.says R t).obj

pub returns-in-Ok-clause-adds : goal.returns-in-Ok-clause-adds
returns-in-Ok-clause-adds g c = λ R t m free.
    let M = g.D.Disk.meaning in
    let a = c.args.store.now in
    let b = c.draft_table.new.store in
    let n = c.add_two.new.store in
    let d = c.in-Ok.drafted in
    let says = c.in-Ok.ensures.says R t in
    adds_err {A = Unit {0}} M a n c.in-Err-add_two.fault R (with_table_in a.shape R c.args.name.now c.args.pctfree c.args.extent)
    (subst (λ (Q : List Record). Adds {T = Unit {0}} M R Q a n (Err c.in-Err-add_two.fault)) (table_after a.shape R c.args.name.now c.args.pctfree c.args.extent d says)
    (adds_on M a b n d (Err c.in-Err-add_two.fault) R (d.first ∷ d.table ∷ R) t c.in-Ok.ensures.looked
    (c.in-Err-add_two.ensures.adds R (c.in-Ok.ensures.looked.stays_true R t) (table_lawful M a b R c.args.name.now c.args.pctfree c.args.extent d c.in-Ok.ensures.looked.loan.shape t m free says) (table_calls a.shape R c.args.name.now c.args.pctfree c.args.extent d says))))

pub returns-in-Ok-clause-tried : goal.returns-in-Ok-clause-tried
returns-in-Ok-clause-tried g c = tried_err {A = Unit {0}} g.D.Disk.meaning c.args.store.now c.add_two.new.store c.in-Err-add_two.fault (tried_on g.D.Disk.meaning c.args.store.now c.draft_table.new.store c.add_two.new.store c.in-Ok.drafted (Err c.in-Err-add_two.fault) c.in-Ok.ensures.looked c.in-Err-add_two.ensures.tried)

pub returns-clause-adds : goal.returns-clause-adds
returns-clause-adds g c = λ R t m free. adds_none g.D.Disk.meaning c.args.store.now c.draft_table.new.store c.in-Err.fault R (with_table_in c.args.store.now.shape R c.args.name.now c.args.pctfree c.args.extent) t c.in-Err.ensures.looked (λ n. c.in-Err.ensures.sound R t m free n)

pub returns-clause-tried : goal.returns-clause-tried
returns-clause-tried g c = tried_none g.D.Disk.meaning c.args.store.now c.draft_table.new.store c.in-Err.fault c.in-Err.ensures.looked
