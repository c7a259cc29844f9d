use Rattle.session_core.proofs.Calls.{called_look, called_unlooked}
use Rattle.session_core.proofs.Settlings.{table_told, table_untold}
use Rattle.session_core.proofs.settling.is_table.Goals as goal

pub returns-in-Ok-clause-told : goal.returns-in-Ok-clause-told
returns-in-Ok-clause-told g c = λ R t. table_told g.D.Disk.meaning R c.args.obj.now c.in-Ok.tables c.is_numbered.result c.args.store.now c.count_tables.new.store t c.in-Ok.ensures.looked (c.in-Ok.ensures.says R t) c.is_numbered.ensures

pub returns-in-Ok-clause-called : goal.returns-in-Ok-clause-called
returns-in-Ok-clause-called g c = called_look g.D.Disk.meaning c.args.store.now c.count_tables.new.store c.in-Ok.tables _ c.requires.unspent c.in-Ok.ensures.looked

pub returns-in-Err-clause-told : goal.returns-in-Err-clause-told
returns-in-Err-clause-told g c = λ R t. table_untold g.D.Disk.meaning R c.args.obj.now c.in-Err.fault c.args.store.now c.count_tables.new.store t c.in-Err.ensures.looked (c.in-Err.ensures.sound R t c.requires.unspent)

pub returns-in-Err-clause-called : goal.returns-in-Err-clause-called
returns-in-Err-clause-called g c = called_unlooked g.D.Disk.meaning c.args.store.now c.count_tables.new.store c.in-Err.fault c.requires.unspent c.in-Err.ensures.looked
