use Rattle.std.proofs.Common.{refl}
use Rattle.redo_model.specs.Model.{image}
use Rattle.shrink_move.specs.declared.next.Next.TheVariants.{ToBlock}
use Rattle.shrink_move.specs.MoveLaws.{block_fills}
use Rattle.shrink_move.proofs.Steps.{move_refused, moves_row, refusal_tried}
use Rattle.shrink_move.proofs.shrink.Shrink.go_to_block.Goals as goal

pub returns-in-Ok-clause-steps : goal.returns-in-Ok-clause-steps
returns-in-Ok-clause-steps g c = λ R k m w.
    let x = c.args.self.now in
    let p = c.args.come.now in
    moves_row g.D.Disk.meaning c.args.ground.now.shape R c.args.store.now c.move_to_block.new.store x _ (ToBlock p c.args.target) (image R p.at.dba p.at.slot).row p.place (block_fills R p.at.dba p.at.slot c.args.target) c.in-Ok.blocks w refl refl refl refl (c.in-Ok.ensures.moves R x.cursor p.place x.skips k m w)

pub returns-in-Ok-clause-tried : goal.returns-in-Ok-clause-tried
returns-in-Ok-clause-tried g c = c.in-Ok.ensures.tried

pub returns-in-Err-clause-steps : goal.returns-in-Err-clause-steps
returns-in-Err-clause-steps g c = λ R k m w.
    let x = c.args.self.now in
    let p = c.args.come.now in
    move_refused g.D.Disk.meaning c.args.ground.now.shape R c.args.store.now c.move_to_block.new.store x x (ToBlock p c.args.target) (image R p.at.dba p.at.slot).row (block_fills R p.at.dba p.at.slot c.args.target) c.in-Err.fault w refl refl (c.in-Err.ensures.moves R x.cursor p.place x.skips k m w)

pub returns-in-Err-clause-tried : goal.returns-in-Err-clause-tried
returns-in-Err-clause-tried g c = refusal_tried g.D.Disk.meaning c.args.store.now c.move_to_block.new.store c.in-Err.fault c.in-Err.ensures.tried
