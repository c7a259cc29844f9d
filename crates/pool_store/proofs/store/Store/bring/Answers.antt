use Rattle.std.proofs.Common.{rules}
use Rattle.pool_store.proofs.Fetching.{brought, brought_at, brought_soundly, not_brought}
use Rattle.pool_store.proofs.store.Store.bring.Goals as goal

pub returns-in-Ok-clause-looked : goal.returns-in-Ok-clause-looked
returns-in-Ok-clause-looked g c =
    let e = c.in-Ok.ensures in
    brought g.D.Disk.meaning c.args.self.now _ (record { loan = search rules; first = search rules; shape = search rules; log = search rules; commits = search rules }) c.requires.unspent
    (brought_at g.D.Disk.meaning _ c.self.inside.disk.now _ _ c.self.inside.pages _ _ (search rules) (search rules) (record { looks = e.looks; stays = e.stays; cause = e.cause })) (search rules)

pub returns-in-Err-clause-looked : goal.returns-in-Err-clause-looked
returns-in-Err-clause-looked g c =
    let e = c.in-Err.ensures in
    not_brought g.D.Disk.meaning c.args.self.now _ (record { loan = search rules; first = search rules; shape = search rules; log = search rules; commits = search rules }) c.requires.unspent c.in-Err.fault c.of_page-fault.result c.of_page-fault.ensures.same
    (brought_at g.D.Disk.meaning _ c.self.inside.disk.now _ _ c.self.inside.pages _ _ (search rules) (search rules) (record { looks = e.looks; stays = e.stays; cause = e.cause })) c.lasting-self-inside.ensures

pub returns-in-Err-clause-sound : goal.returns-in-Err-clause-sound
returns-in-Err-clause-sound g c = λ R t has. brought_soundly g.D.Disk.meaning R c.args.self.now c.self.inside.disk.now c.self.inside.pages c.args.dba c.in-Err.fault c.of_page-fault.result (search rules) (search rules) c.requires.unspent c.of_page-fault.ensures.same c.in-Err.ensures.why t has
