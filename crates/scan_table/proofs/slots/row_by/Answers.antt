use Rattle.std.proofs.Common.{subst}
use Rattle.scan_table.specs.Reading.{Shows}
use Rattle.store_core.proofs.Lookups.{looked_same}
use Rattle.scan_table.proofs.slots.row_by.Goals as goal

pub returns-in-Row-clause-looked : goal.returns-in-Row-clause-looked
returns-in-Row-clause-looked g c = looked_same g.D.Disk.meaning c.args.store.now tt c.requires

pub returns-in-Row-clause-says : goal.returns-in-Row-clause-says
returns-in-Row-clause-says g c = λ R o t h s. subst (Shows R c.args.reader.now c.args.dba c.args.slot) c.in-Row.is s

pub returns-in-Nothing-clause-looked : goal.returns-in-Nothing-clause-looked
returns-in-Nothing-clause-looked g c = looked_same g.D.Disk.meaning c.args.store.now tt c.requires

pub returns-in-Nothing-clause-says : goal.returns-in-Nothing-clause-says
returns-in-Nothing-clause-says g c = λ R o t h s. subst (Shows R c.args.reader.now c.args.dba c.args.slot) c.in-Nothing.is s

pub returns-in-TooOldEntry-clause-looked : goal.returns-in-TooOldEntry-clause-looked
returns-in-TooOldEntry-clause-looked g c = looked_same g.D.Disk.meaning c.args.store.now tt c.requires

pub returns-in-TooOldEntry-clause-says : goal.returns-in-TooOldEntry-clause-says
returns-in-TooOldEntry-clause-says g c = λ R o t h s. subst (Shows R c.args.reader.now c.args.dba c.args.slot) c.in-TooOldEntry.is s

pub returns-in-Below-clause-says : goal.returns-in-Below-clause-says
returns-in-Below-clause-says g c = λ R o t h s. c.follow_down.ensures.says R o t h (subst (Shows R c.args.reader.now c.args.dba c.args.slot) c.in-Below.is s)
