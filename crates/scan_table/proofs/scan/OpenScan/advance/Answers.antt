use Rattle.store_core.proofs.Lookups.{looked_same}
use Rattle.scan_table.proofs.Advancing.{marked_gone}
use Rattle.scan_table.proofs.scan.OpenScan.advance.Goals as goal

pub returns-in-Some-clause-looked : goal.returns-in-Some-clause-looked
returns-in-Some-clause-looked g c = looked_same g.D.Disk.meaning c.args.store.now tt c.requires

pub returns-in-Some-clause-says : goal.returns-in-Some-clause-says
returns-in-Some-clause-says g c = λ B R t h. marked_gone c.args.store.now.shape B R c.args.self.now c.in-Some.gone h c.in-Some.is
