use Rattle.std.proofs.Common.{refl}
use Rattle.scan_table.proofs.Advancing.{reads_as}
use Rattle.scan_table.proofs.Going.{part_on}
use Rattle.scan_table.proofs.scan.OpenScan.read_rows.Goals as goal

pub returns-in-Err-clause-says : goal.returns-in-Err-clause-says
returns-in-Err-clause-says g c = λ R o t h. c.in-Err.ensures.sound R t c.requires

pub returns-clause-looked : goal.returns-clause-looked
returns-clause-looked g c = part_on g.D.Disk.meaning c.args.store.now c.copy_table.new.self c.read_block.new.store c.in-Ok.table c.read_block.result c.in-Ok.ensures.looked c.read_block.ensures.looked

pub returns-clause-says : goal.returns-clause-says
returns-clause-says g c = λ R o t h.
    let l = c.in-Ok.ensures.looked in
    c.read_block.ensures.says R o (l.stays_true R t) (reads_as g.D.Disk.meaning c.args.store.now c.copy_table.new.self c.in-Ok.table R o c.args.dba c.args.self.now _ l t h (c.in-Ok.ensures.holds R t) refl refl)
