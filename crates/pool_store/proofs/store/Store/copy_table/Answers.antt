use Rattle.std.proofs.Common.{sym, ◌∙◌}
use Rattle.pool_store.proofs.Lookups.{refused_after}
use Rattle.pool_store.proofs.UndoLent.{table_has, table_told, table_there}
use Rattle.pool_store.proofs.store.Store.copy_table.Goals as goal

pub returns-in-Err-clause-sound : goal.returns-in-Err-clause-sound
returns-in-Err-clause-sound g c = λ R t n. c.in-Err.ensures.sound R t n (table_has c.args.self.now.shape t.list.within)

pub returns-in-Ok-Some-clause-holds : goal.returns-in-Ok-Some-clause-holds
returns-in-Ok-Some-clause-holds g c = λ R t.
    let u = c.in-Ok.ensures.looked.stays_true R t in
    table_told c.fetch.new.self.shape R c.in-Ok-Some.table u.list.within u.lawful (sym c.in-Ok-Some.field-0-is ∙ c.in-Ok-Some.ensures R u)

pub returns-in-Ok-None-clause-looked : goal.returns-in-Ok-None-clause-looked
returns-in-Ok-None-clause-looked g c = refused_after g.D.Disk.meaning c.args.self.now c.fetch.new.self c.refuse.new.self c.in-Ok.field-0 c.refuse.result c.in-Ok.ensures.looked c.refuse.ensures.looked

pub returns-in-Ok-None-clause-sound : goal.returns-in-Ok-None-clause-sound
returns-in-Ok-None-clause-sound g c = λ R t n.
    let u = c.in-Ok.ensures.looked.stays_true R t in
    absurd (table_there c.fetch.new.self.shape R u.list.within u.lawful (sym c.in-Ok-None.field-0-is ∙ c.in-Ok-None.ensures R u))
