use Rattle.std.proofs.Common.{subst}
use Rattle.shrink_move.specs.Nexts.{NextIs}
use Rattle.shrink_move.proofs.Steps.{skip_tried, skips_slot, stops_at_bottom, stops_at_row, tried_nothing}
use Rattle.shrink_move.proofs.shrink.Shrink.take.Goals as goal

pub returns-in-Bottom-clause-steps : goal.returns-in-Bottom-clause-steps
returns-in-Bottom-clause-steps g c = λ R k m w. (let x = c.args.self.now in stops_at_bottom g.D.Disk.meaning c.args.ground.now.shape R c.args.store.now x k.holds (subst (NextIs c.args.ground.now.shape R x.obj x.skips x.cursor) c.in-Bottom.is w))

pub returns-in-Bottom-clause-tried : goal.returns-in-Bottom-clause-tried
returns-in-Bottom-clause-tried g c = tried_nothing g.D.Disk.meaning c.args.store.now c.requires.unspent

pub returns-in-NoFit-clause-steps : goal.returns-in-NoFit-clause-steps
returns-in-NoFit-clause-steps g c = λ R k m w. (let x = c.args.self.now in stops_at_row g.D.Disk.meaning c.args.ground.now.shape R c.args.store.now x c.in-NoFit.come k.holds (subst (NextIs c.args.ground.now.shape R x.obj x.skips x.cursor) c.in-NoFit.is w))

pub returns-in-NoFit-clause-tried : goal.returns-in-NoFit-clause-tried
returns-in-NoFit-clause-tried g c = tried_nothing g.D.Disk.meaning c.args.store.now c.requires.unspent

pub returns-in-Skips-clause-steps : goal.returns-in-Skips-clause-steps
returns-in-Skips-clause-steps g c = λ R k m w.
    let x = c.args.self.now in
    skips_slot g.D.Disk.meaning c.args.ground.now.shape R c.args.store.now x c.skip.new.self c.in-Skips.come c.in-Skips.txn c.skip.result k.holds (subst (NextIs c.args.ground.now.shape R x.obj x.skips x.cursor) c.in-Skips.is w)
    (c.skip.ensures.skips R k.holds.list) c.skip.ensures.answer c.skip.ensures.err c.skip.ensures.memory

pub returns-in-Skips-clause-tried : goal.returns-in-Skips-clause-tried
returns-in-Skips-clause-tried g c = skip_tried g.D.Disk.meaning c.args.store.now c.skip.result c.requires.unspent c.skip.ensures.memory

pub returns-in-ToBody-clause-steps : goal.returns-in-ToBody-clause-steps
returns-in-ToBody-clause-steps g c = λ R k m w. (let x = c.args.self.now in c.go_to_body.ensures.steps R k m (subst (NextIs c.args.ground.now.shape R x.obj x.skips x.cursor) c.in-ToBody.is w))

pub returns-in-ToBlock-clause-steps : goal.returns-in-ToBlock-clause-steps
returns-in-ToBlock-clause-steps g c = λ R k m w. (let x = c.args.self.now in c.go_to_block.ensures.steps R k m (subst (NextIs c.args.ground.now.shape R x.obj x.skips x.cursor) c.in-ToBlock.is w))
