use Rattle.std.proofs.Common.{arith}
use Rattle.store_core.proofs.Lookups.{looked_same, looked_err}
use Rattle.row_change.proofs.Found.{next_to}
use Rattle.row_change.proofs.spot.reuse.Goals as goal

pub returns-in-None-clause-looked : goal.returns-in-None-clause-looked
returns-in-None-clause-looked g c = looked_err g.D.Disk.meaning c.args.store.now c.refuse.new.self c.refuse.result c.refuse.ensures.looked

pub returns-in-None-clause-sound : goal.returns-in-None-clause-sound
returns-in-None-clause-sound g c = λ l. absurd (let n = c.in-None.ensures.greatest in omega (arith, l, n))

pub returns-in-Some-clause-looked : goal.returns-in-Some-clause-looked
returns-in-Some-clause-looked g c = looked_same g.D.Disk.meaning c.args.store.now _ c.requires.unspent

pub returns-in-Some-clause-says : goal.returns-in-Some-clause-says
returns-in-Some-clause-says g c = λ R e. next_to R c.args.block c.in-Some.sequence c.args.sequence c.in-Some.ensures.next e
