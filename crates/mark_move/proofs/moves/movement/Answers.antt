use Rattle.std.proofs.Common.{ap, ◌∷◌}
use Rattle.redo_model.specs.Records.{Movement}
use Rattle.mark_laws.specs.Drafts.{drafted_movement}
use Rattle.store_core.proofs.Additions.{adds_told, adds_none, tried_on, tried_none}
use Rattle.mark_move.proofs.Truth.{movement_lawful}
use Rattle.mark_move.proofs.moves.movement.Goals as goal

pub returns-in-Ok-clause-adds : goal.returns-in-Ok-clause-adds
returns-in-Ok-clause-adds g c = λ R t i. adds_told g.D.Disk.meaning c.args.store.now c.read_segment.new.store c.add.new.store c.in-Ok.segment c.add.result (Movement (drafted_movement c.args.store.now.shape R c.args.obj c.args.on)) (Movement c.draft_movement.result) R t c.in-Ok.ensures.looked
    (ap (λ x. Movement x) (c.draft_movement.ensures c.args.store.now.shape R c.args.obj (c.in-Ok.ensures.says R t i)))
    (movement_lawful c.args.store.now.shape R c.args.obj c.args.on t.lawful i)
    (λ Q q l. c.add.ensures.adds Q q l)

pub returns-in-Ok-clause-tried : goal.returns-in-Ok-clause-tried
returns-in-Ok-clause-tried g c = tried_on g.D.Disk.meaning c.args.store.now c.read_segment.new.store c.add.new.store c.in-Ok.segment c.add.result c.in-Ok.ensures.looked c.add.ensures.tried

pub returns-in-Err-clause-adds : goal.returns-in-Err-clause-adds
returns-in-Err-clause-adds g c = λ R t i. adds_none g.D.Disk.meaning c.args.store.now c.read_segment.new.store c.in-Err.fault R (Movement (drafted_movement c.args.store.now.shape R c.args.obj c.args.on) ∷ R) t c.in-Err.ensures.looked (λ n. c.in-Err.ensures.sound R t i n)

pub returns-in-Err-clause-tried : goal.returns-in-Err-clause-tried
returns-in-Err-clause-tried g c = tried_none g.D.Disk.meaning c.args.store.now c.read_segment.new.store c.in-Err.fault c.in-Err.ensures.looked
