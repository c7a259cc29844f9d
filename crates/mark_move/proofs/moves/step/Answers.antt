use Rattle.std.proofs.Common.{◌∷◌}
use Rattle.mark_laws.specs.Drafts.{mark_record}
use Rattle.store_core.proofs.Additions.{adds_told, adds_none, tried_on, tried_none}
use Rattle.mark_move.proofs.Truth.{mark_lawful}
use Rattle.mark_move.proofs.moves.step.Goals as goal

pub returns-in-Ok-clause-adds : goal.returns-in-Ok-clause-adds
returns-in-Ok-clause-adds g c = λ R t i next. adds_told g.D.Disk.meaning c.args.store.now c.mark_record_of.new.store c.add.new.store c.in-Ok.rec c.add.result (mark_record c.args.store.now.shape R c.args.obj c.args.step) c.in-Ok.rec R t c.in-Ok.ensures.looked
    (c.in-Ok.ensures.says R t i)
    (mark_lawful c.args.store.now.shape R c.args.obj c.args.step t.list.within t.lawful i next)
    (λ Q q l. c.add.ensures.adds Q q l)

pub returns-in-Ok-clause-tried : goal.returns-in-Ok-clause-tried
returns-in-Ok-clause-tried g c = tried_on g.D.Disk.meaning c.args.store.now c.mark_record_of.new.store c.add.new.store c.in-Ok.rec c.add.result c.in-Ok.ensures.looked c.add.ensures.tried

pub returns-in-Err-clause-adds : goal.returns-in-Err-clause-adds
returns-in-Err-clause-adds g c = λ R t i next. adds_none g.D.Disk.meaning c.args.store.now c.mark_record_of.new.store c.in-Err.fault R (mark_record c.args.store.now.shape R c.args.obj c.args.step ∷ R) t c.in-Err.ensures.looked (λ n. c.in-Err.ensures.sound R t i next n)

pub returns-in-Err-clause-tried : goal.returns-in-Err-clause-tried
returns-in-Err-clause-tried g c = tried_none g.D.Disk.meaning c.args.store.now c.mark_record_of.new.store c.in-Err.fault c.in-Err.ensures.looked
