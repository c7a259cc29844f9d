use Rattle.std.proofs.Common.{rules, arith}
use Rattle.pool_store.proofs.Batching.{below_last, spared_at, spared_done, spared_failed_as, spared_many}
use Rattle.pool_store.proofs.store.Store.put_stable.Goals as goal

pub returns-in-Ok-clause-looked : goal.returns-in-Ok-clause-looked
returns-in-Ok-clause-looked g c =
    let e = c.in-Ok.ensures in
    spared_done g.D.Disk.meaning c.args.self.now c.requires.unspent _ (record { loan = search rules; first = search rules; shape = search rules; log = search rules; commits = search rules })
    (below_last c.count.result c.count-2.inside.0 c.args.self.now.log.count (omega (arith, c.count.type_inv)) c.if-count.false (search rules) (search rules)) c.in-Ok.count
    (spared_at g.D.Disk.meaning _ c.self.inside.disk.now _ _ c.stable-stable.result _ c.self.inside.pages _ _ (search rules) (search rules) (search rules)
    (record { any_moment = e.any_moment; done = e.done; memory = e.memory; shape = e.shape; log = e.log; cause = e.cause; told = e.told; reads = e.reads })) (search rules)

pub returns-in-Ok-clause-many : goal.returns-in-Ok-clause-many
returns-in-Ok-clause-many g c = λ R t all. spared_many g.D.Disk.meaning R c.args.self.now c.stable-stable.result c.args.most c.in-Ok.count c.self.inside.pages (search rules) (search rules) c.requires.unspent c.in-Ok.ensures.many t all

pub returns-in-Err-clause-looked : goal.returns-in-Err-clause-looked
returns-in-Err-clause-looked g c =
    let e = c.in-Err.ensures in
    spared_failed_as g.D.Disk.meaning c.args.self.now c.requires.unspent _ (record { loan = search rules; first = search rules; shape = search rules; log = search rules; commits = search rules })
    (below_last c.count.result c.count-2.inside.0 c.args.self.now.log.count (omega (arith, c.count.type_inv)) c.if-count.false (search rules) (search rules)) c.in-Err.fault c.of_page-fault.result c.of_page-fault.ensures.same
    (spared_at g.D.Disk.meaning _ c.self.inside.disk.now _ _ c.stable-stable.result _ c.self.inside.pages _ _ (search rules) (search rules) (search rules)
    (record { any_moment = e.any_moment; done = e.done; memory = e.memory; shape = e.shape; log = e.log; cause = e.cause; told = e.told; reads = e.reads })) c.lasting-self-inside.ensures
