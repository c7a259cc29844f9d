use Rattle.std.proofs.Common.{rules, arith}
use Rattle.pool_store.proofs.Batching.{below_last, spared_at, spared_done, spared_failed_as, spared_soundly}
use Rattle.pool_store.proofs.store.Store.put_spare.Goals as goal

pub returns-in-Ok-clause-looked : goal.returns-in-Ok-clause-looked
returns-in-Ok-clause-looked g c =
    let e = c.in-Ok.ensures in
    spared_done g.D.Disk.meaning c.args.self.now c.requires _ (record { loan = search rules; first = search rules; shape = search rules; log = search rules; commits = search rules })
    (below_last c.count.result c.count-2.inside.0 c.args.self.now.log.count (omega (arith, c.count.type_inv)) c.if-count.false (search rules) (search rules)) tt
    (spared_at g.D.Disk.meaning _ c.self.inside.disk.now _ _ c.stable-stable.result _ c.self.inside.pages _ _ (search rules) (search rules) (search rules)
    (record { any_moment = e.any_moment; done = e.done; memory = e.memory; shape = e.shape; log = e.log; cause = e.cause; told = e.told; reads = e.reads })) (search rules)

pub returns-in-Err-clause-looked : goal.returns-in-Err-clause-looked
returns-in-Err-clause-looked g c =
    let e = c.in-Err.ensures in
    spared_failed_as g.D.Disk.meaning c.args.self.now c.requires _ (record { loan = search rules; first = search rules; shape = search rules; log = search rules; commits = search rules })
    (below_last c.count.result c.count-2.inside.0 c.args.self.now.log.count (omega (arith, c.count.type_inv)) c.if-count.false (search rules) (search rules)) c.in-Err.fault c.of_page-fault.result c.of_page-fault.ensures.same
    (spared_at g.D.Disk.meaning _ c.self.inside.disk.now _ _ c.stable-stable.result _ c.self.inside.pages _ _ (search rules) (search rules) (search rules)
    (record { any_moment = e.any_moment; done = e.done; memory = e.memory; shape = e.shape; log = e.log; cause = e.cause; told = e.told; reads = e.reads })) c.lasting-self-inside.ensures

pub returns-in-Err-clause-sound : goal.returns-in-Err-clause-sound
returns-in-Err-clause-sound g c = λ R t all. spared_soundly g.D.Disk.meaning R c.args.self.now c.in-Err.fault c.of_page-fault.result c.stable-stable.result c.self.inside.pages (search rules) (search rules) c.requires c.of_page-fault.ensures.same c.in-Err.ensures.sound t all
