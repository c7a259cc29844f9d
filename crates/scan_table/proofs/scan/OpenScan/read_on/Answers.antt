use Rattle.store_core.proofs.Lookups.{looked_memory}
use Rattle.scan_table.proofs.scan.OpenScan.read_on.Goals as goal

pub returns-in-Ok-take_rows-clause-says : goal.returns-in-Ok-take_rows-clause-says
returns-in-Ok-take_rows-clause-says g c = λ R o t h. record { rows = c.in-Ok.rows; new = c.in-Ok-take_rows.ensures.ok; read = c.in-Ok.ensures.says R o t h }

pub returns-in-Err-take_rows-clause-looked : goal.returns-in-Err-take_rows-clause-looked
returns-in-Err-take_rows-clause-looked g c = looked_memory g.D.Disk.meaning c.args.store.now c.read_rows.new.store tt c.in-Ok.ensures.looked
