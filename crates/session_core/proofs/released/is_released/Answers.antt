use Rattle.std.proofs.Common.{◌∙◌}
use Rattle.store_core.proofs.Lookups.{looked_ok, looked_err}
use Rattle.session_core.proofs.Incarnations.{released_as, table_on}
use Rattle.session_core.proofs.released.is_released.Goals as goal

pub returns-in-Ok-clause-looked : goal.returns-in-Ok-clause-looked
returns-in-Ok-clause-looked g c = looked_ok g.D.Disk.meaning c.args.store.now c.incarnation_of.new.store c.in-Ok.born _ c.in-Ok.ensures.looked

pub returns-in-Ok-clause-says : goal.returns-in-Ok-clause-says
returns-in-Ok-clause-says g c = λ Q R t e l i here.
    let a = c.args.store.now in
    c.is_later.ensures ∙ released_as a.shape Q R c.args.obj c.args.dba c.args.records c.in-Ok.born t.lawful.allowed e l i here (c.in-Ok.ensures.says R t (table_on a.shape Q R c.args.obj t.lawful.allowed e i))

pub returns-in-Err-clause-looked : goal.returns-in-Err-clause-looked
returns-in-Err-clause-looked g c = looked_err g.D.Disk.meaning c.args.store.now c.incarnation_of.new.store c.in-Err.fault c.in-Err.ensures.looked

pub returns-in-Err-clause-sound : goal.returns-in-Err-clause-sound
returns-in-Err-clause-sound g c = λ R t i n. c.in-Err.ensures.sound R t i n
