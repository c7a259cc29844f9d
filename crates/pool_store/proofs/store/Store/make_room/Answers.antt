use Rattle.pool_store.proofs.Lookups.{looked_on}
use Rattle.pool_store.proofs.Taking.{device_sound}
use Rattle.pool_store.proofs.Takes.{full_after, full_failed, not_failed, room_none}
use Rattle.pool_store.proofs.store.Store.make_room.Goals as goal

pub returns-in-Ok-clause-looked : goal.returns-in-Ok-clause-looked
returns-in-Ok-clause-looked g c = looked_on g.D.Disk.meaning c.args.self.now c.flush_full.new.self c.spare.new.self tt c.spare.result c.in-Ok.ensures.looked c.spare.ensures.looked

pub returns-in-Ok-clause-full : goal.returns-in-Ok-clause-full
returns-in-Ok-clause-full g c = λ R h unspent lt not.
    full_after g.D.Disk.meaning R c.flush_full.new.self c.spare.new.self c.spare.result c.spare.ensures.looked (c.in-Ok.ensures.looked.list R h) (c.in-Ok.ensures.full R h lt)

pub returns-in-Ok-clause-none : goal.returns-in-Ok-clause-none
returns-in-Ok-clause-none g c = λ unspent le few. room_none c.args.self.now c.flush_full.new.self c.spare.new.self c.spare.result (c.in-Ok.ensures.none le) c.spare.ensures.none unspent few

pub returns-in-Ok-clause-sound : goal.returns-in-Ok-clause-sound
returns-in-Ok-clause-sound g c = λ R t unspent. c.spare.ensures.sound R (c.in-Ok.ensures.looked.stays_true R t) (c.in-Ok.ensures.looked.cause.kept unspent)

pub returns-in-Err-clause-full : goal.returns-in-Err-clause-full
returns-in-Err-clause-full g c = λ R h unspent lt not. full_failed c.in-Err.fault (c.in-Err.ensures.only unspent) not

pub returns-in-Err-clause-none : goal.returns-in-Err-clause-none
returns-in-Err-clause-none g c = λ unspent le few. not_failed g.D.Disk.meaning c.args.self.now c.flush_full.new.self c.in-Err.fault c.in-Err.ensures.looked (c.in-Err.ensures.only unspent) unspent (c.in-Err.ensures.none le)

pub returns-in-Err-clause-sound : goal.returns-in-Err-clause-sound
returns-in-Err-clause-sound g c = λ R t unspent. device_sound c.in-Err.fault (c.in-Err.ensures.only unspent)
