use Rattle.std.proofs.Common.{ℕ, Ok, Err}
use Rattle.store_core.proofs.Lookups.{looked_ok, looked_on, looked_err}
use Rattle.shrink_move.proofs.shrink.Shrink.start.Goals as goal

pub returns-in-Ok-last_formatted-clause-looked : goal.returns-in-Ok-last_formatted-clause-looked
returns-in-Ok-last_formatted-clause-looked g c = looked_ok g.D.Disk.meaning c.args.store.now c.last_formatted.new.store c.in-Ok-last_formatted.cursor tt (looked_on g.D.Disk.meaning c.args.store.now c.read_ground.new.store c.last_formatted.new.store c.in-Ok.ground (Ok c.in-Ok-last_formatted.cursor) c.in-Ok.ensures.looked c.in-Ok-last_formatted.ensures.looked)

pub returns-clause-looked : goal.returns-clause-looked
returns-clause-looked g c = looked_on g.D.Disk.meaning c.args.store.now c.read_ground.new.store c.last_formatted.new.store c.in-Ok.ground (Err c.in-Err-last_formatted.fault) c.in-Ok.ensures.looked (looked_err {A = ℕ} g.D.Disk.meaning c.read_ground.new.store c.last_formatted.new.store c.in-Err-last_formatted.fault c.in-Err-last_formatted.ensures.looked)
