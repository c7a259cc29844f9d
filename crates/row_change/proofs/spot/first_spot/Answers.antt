use Rattle.std.proofs.Common.{sym, ap, arith}
use Rattle.change_laws.specs.Types.{Next}
use Rattle.store_core.proofs.Lookups.{looked_ok}
use Rattle.row_change.proofs.spot.first_spot.Goals as goal

pub returns-in-Ok-clause-looked : goal.returns-in-Ok-clause-looked
returns-in-Ok-clause-looked g c = looked_ok g.D.Disk.meaning c.args.store.now c.reuse.new.store c.in-Ok.reuse _ c.in-Ok.ensures.looked

pub returns-in-Ok-clause-says : goal.returns-in-Ok-clause-says
returns-in-Ok-clause-says g c = λ R e. ap Next (c.in-Ok.ensures.says R (sym e))

pub returns-in-Err-clause-sound : goal.returns-in-Err-clause-sound
returns-in-Err-clause-sound g c = c.in-Err.ensures.sound (omega arith)
